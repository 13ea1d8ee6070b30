-- What a session comes to depends on the planes that it read alone.
use Rattle.plane_schedule.specs.declared.policy.Nearness.{Nearness}
use Rattle.std.proofs.Common.{◌≡◌, ◌≢◌, ◌⊎◌, inl, inr, ℕ, zero, suc, ◌+◌, ◌<◌, ◌≤◌, ◌==◌, zero-le, Bool, Option, Some, None, List, [], ◌∷◌, ◌++◌, cond, count_by, length, get_or, map, take, refl, sym, ap, ◌∙◌, subst, arith, slice_get}
use Rattle.std.proofs.lemmas.Bool.{cases_eq, eq-eqb, ne_eqb}
use Rattle.std.proofs.lemmas.List.{length-map}
use Rattle.std.proofs.lemmas.List.Sums.{count_by_more_no, count_by_more_yes, sum_by-take-le}
use Rattle.std.specs.Option.{is_some}
use Rattle.daq_table.specs.declared.table_head.Head.{Head}
use Rattle.daq_table.specs.Tables.{Frame, frame_of}
use Rattle.multi_session.specs.Sessions.{awaited, columns_named}
use Rattle.plane_schedule.specs.declared.policy.Plan.{Plan}
use Rattle.query_model.specs.Queries.{Query}
use Rattle.round_engine.specs.Stages.{Stage}
use Rattle.table_rounds.proofs.Lists.{same_maps}
use Rattle.multi_session.proofs.Named.{columns_stand}
use Rattle.table_rounds.proofs.Own.{column_awaited, own_none, own_some, times, times_other, times_same}
use Rattle.table_rounds.proofs.Standing.{AreColumns, times_of_place}
use Rattle.table_rounds.specs.Steps.{is_moved, own_read, own_reads, place_of, places_read, session_after, stage_in, steps_of}
use Rattle.table_rounds.proofs.Agreeing.{planes_tell_stages}
use Rattle.table_rounds.proofs.Counts.{count_there}
use Rattle.table_rounds.proofs.Going.{take_all}
use Rattle.table_rounds.specs.Courses.{HaveSameRead, number_after}
use Rattle.table_rounds.specs.Rounds.{Planes, counts_after, stage_after}

-- ---- a query reads no more planes of a column than were read of it

times_few : (reads : List ℕ) (d c : ℕ) → times c (reads ++ d ∷ []) ≤ times c reads + 1
times_few reads d c = by (cases_eq d c)
  where
    by : (d ≡ c) ⊎ (d ≢ c) → times c (reads ++ d ∷ []) ≤ times c reads + 1
    by (inl e) = let one = times_same reads d c e in omega (arith, one)
    by (inr n) = let none = times_other reads d c n in omega (arith, none)

few_own : (near : Nearness) (query : Query) (frame : Frame) (bits : Planes) (places : List ℕ) (n c : ℕ) → n ≤ length places →
    times c (own_reads near frame bits places query n) ≤ times (get_or query.columns c 0) (take n places)
few_own near query frame bits places zero c h = zero-le
few_own near query frame bits places (suc n) c h = by (awaited near here stage) refl (few_own near query frame bits places n c (omega (arith, h))) (cases_eq here place)
  where
    here : ℕ
    here = get_or places n 0

    place : ℕ
    place = get_or query.columns c 0

    own : ℕ → List ℕ
    own n = own_reads near frame bits places query n

    stage : Stage
    stage = stage_in near frame bits places query n

    one : n + 1 ≡ suc n
    one = omega arith

    is_here : here ≡ place → times place (take (suc n) places) ≡ times place (take n places) + 1
    is_here same = subst (λ m. times place (take m places) ≡ times place (take n places) + 1) one (count_by_more_yes (λ d. d == place) places n 0 (omega (arith, h)) (eq-eqb here place same))

    not_here : here ≢ place → times place (take (suc n) places) ≡ times place (take n places)
    not_here other = subst (λ m. times place (take m places) ≡ times place (take n places)) one (count_by_more_no (λ d. d == place) places n 0 (omega (arith, h)) (ne_eqb here place other))

    by : (o : Option ℕ) → awaited near here stage ≡ o → times c (own n) ≤ times place (take n places) → (here ≡ place) ⊎ (here ≢ place) →
        times c (own (suc n)) ≤ times place (take (suc n) places)
    by None e before (inl same) =
        let mine : times c (own (suc n)) ≡ times c (own n) = ap (times c) (own_none near query frame bits places n e) in
        let all = is_here same in
        omega (arith, before, mine, all)
    by None e before (inr other) =
        let mine : times c (own (suc n)) ≡ times c (own n) = ap (times c) (own_none near query frame bits places n e) in
        let all = not_here other in
        omega (arith, before, mine, all)
    by (Some d) e before (inl same) =
        let mine : times c (own (suc n)) ≡ times c (own n ++ d ∷ []) = ap (times c) (own_some near query frame bits places n d e) in
        let few = times_few (own n) d c in
        let all = is_here same in
        omega (arith, before, mine, few, all)
    by (Some d) e before (inr other) =
        let there = (column_awaited near query frame bits here stage d refl e).1 in
        let apart : d ≢ c = λ is. other (sym there ∙ ap (λ k. get_or query.columns k 0) is) in
        let mine : times c (own (suc n)) ≡ times c (own n) = ap (times c) (own_some near query frame bits places n d e) ∙ times_other (own n) d c apart in
        let all = not_here other in
        omega (arith, before, mine, all)

-- ---- planes that are the same

module _ (plan : Plan) (queries : List Query) (head : Head) (a b : Planes) (reads : List ℕ) (are : AreColumns queries reads) (same : HaveSameRead (steps_of plan queries head a) reads a b) where
  abbrev near : Nearness
  near = plan.near

  abbrev frame : Frame
  frame = frame_of head

  abbrev places : List ℕ
  places = places_read queries reads

  -- no column was read more often after a step than after the last
  number_grows : (n column : ℕ) → number_after reads n column ≤ number_after reads (length reads) column
  number_grows n column =
      let few = sum_by-take-le (λ d. cond (d == column) 1 0) reads n in
      let all = ap (count_by (λ d. d == column)) (take_all reads) in
      omega (arith, few, all)

  module _ (k : ℕ) (query : Query) (there : slice_get queries k ≡ Some query) where
    abbrev own : Planes → ℕ → List ℕ
    own bits n = own_reads near frame bits places query n

    -- they tell the same of the query's own reads
    pub same_told : (n : ℕ) → n ≤ length reads → stage_after query frame a (own a n) (length (own a n)) ≡ stage_after query frame b (own a n) (length (own a n))
    same_told n h =
        planes_tell_stages query frame a b (counts_after query (own a n) (length (own a n))) (λ c number inside less.
        let place = get_or query.columns c 0 in
        let (column, below, is) = columns_stand queries k query place there (c, inside, refl) in
        let counted : get_or (counts_after query (own a n) (length (own a n))) c 0 ≡ times c (own a n) = count_there query (own a n) (length (own a n)) c 0 inside ∙ ap (times c) (take_all (own a n)) in
        let long : length places ≡ length reads = length-map reads (place_of queries) in
        let few : times c (own a n) ≤ times place (take n places) = few_own near query frame a places n c (omega (arith, h, long)) in
        let named : times place (take n places) ≡ number_after reads n column = ap (λ p. times p (take n places)) (sym is) ∙ times_of_place near queries head a reads n column are below in
        let grown = number_grows n column in
        let below_all : number < get_or (counts_after query (own a n) (length (own a n))) c 0 = less in
        subst (λ p. a p number ≡ b p number) is (same column number below (omega (arith, below_all, counted, few, named, grown))))

    pub same_own_reads : (n : ℕ) → n ≤ length reads → own a n ≡ own b n
    same_own_reads zero h = refl
    same_own_reads (suc n) h =
        ap (λ s. own a n ++ own_read near (get_or places n 0) s) (same_told n (omega (arith, h)))
        ∙ ap (λ l. l ++ own_read near (get_or places n 0) (stage_after query frame b l (length l))) (same_own_reads n (omega (arith, h)))

    pub same_stage_in : (n : ℕ) → n ≤ length reads → stage_in near frame a places query n ≡ stage_in near frame b places query n
    same_stage_in n h = same_told n h ∙ ap (λ l. stage_after query frame b l (length l)) (same_own_reads n h)

    pub same_is_moved : (n : ℕ) → n ≤ length reads → is_moved near frame a places query n ≡ is_moved near frame b places query n
    same_is_moved zero h = refl
    same_is_moved (suc n) h = ap (λ s. is_some (awaited near (get_or places n 0) s)) (same_stage_in n (omega (arith, h)))

  -- so the session is the same after each step
  pub planes_tell_sessions : (n : ℕ) → n ≤ length reads → session_after near queries head a reads n ≡ session_after near queries head b reads n
  planes_tell_sessions n h =
      let stage : Planes → Query → Stage = λ bits query. stage_in near frame bits places query n in
      let moved : Planes → Query → Bool = λ bits query. is_moved near frame bits places query n in
      let stages = same_maps (stage a) (stage b) queries (λ k query there. same_stage_in k query there n h) in
      let moves = same_maps (moved a) (moved b) queries (λ k query there. same_is_moved k query there n h) in
      ap (λ ss. record { near = near; rows = head.rows; columns = columns_named queries; stages = ss; moved = map (moved a) queries; steps = n }) stages
      ∙ ap (λ ms. record { near = near; rows = head.rows; columns = columns_named queries; stages = map (stage b) queries; moved = ms; steps = n }) moves
