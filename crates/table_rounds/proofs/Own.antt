-- A query of a session: its own reads, and where it stands after each step.
use Rattle.plane_schedule.specs.declared.policy.Nearness.{Nearness}
use Rattle.std.proofs.Common.{◌≡◌, ◌≢◌, ◌⊎◌, inl, inr, ℕ, zero, suc, ◌+◌, ◌<◌, ◌≤◌, ◌==◌, Bool, true, false, if◌then◌else◌, cond, Option, Some, None, List, [], ◌∷◌, ◌++◌, length, get_or, take, refl, sym, ap, ◌∙◌, subst, arith, IsFalse, append-nil, length-append, count_by}
use Rattle.std.proofs.lemmas.Bool.{cases_eq, eq-eqb, ne_eqb}
use Rattle.std.proofs.lemmas.List.Sums.{count_by_more_no, count_by_more_yes, sum_by_push}
use Rattle.std.proofs.lemmas.Option.{same_Some}
use Rattle.std.specs.Option.{option_map_or}
use Rattle.daq_table.specs.Tables.{Frame}
use Rattle.multi_session.proofs.Awaiting.{awaited_own, own_there}
use Rattle.multi_session.specs.Sessions.{awaited, own_column}
use Rattle.query_model.specs.Knowledge.{Knowledge, known_at}
use Rattle.query_model.specs.Projection.{projected_frame}
use Rattle.query_model.specs.Queries.{Query}
use Rattle.round_engine.specs.Narrowness.{is_narrow}
use Rattle.round_engine.specs.Stages.{Stage, stepped}
use Rattle.table_rounds.specs.Rounds.{Planes, counts_after, stage_after}
use Rattle.table_rounds.proofs.Counts.{count_there}
use Rattle.table_rounds.proofs.Going.{last_known, take_all}
use Rattle.table_rounds.proofs.Reached.{known_there}
use Rattle.table_rounds.specs.Steps.{own_read, own_reads, stage_in}

-- ---- counts of one read more

abbrev pub times : ℕ → List ℕ → ℕ
times c reads = count_by (λ d. d == c) reads

pub times_same : (reads : List ℕ) (d c : ℕ) → d ≡ c → times c (reads ++ d ∷ []) ≡ times c reads + 1
times_same reads d c e = sum_by_push (λ k. cond (k == c) 1 0) reads d ∙ ap (λ b. times c reads + cond b 1 0) (eq-eqb d c e)

pub times_other : (reads : List ℕ) (d c : ℕ) → d ≢ c → times c (reads ++ d ∷ []) ≡ times c reads
times_other reads d c n =
    let push = sum_by_push (λ k. cond (k == c) 1 0) reads d in
    let none : cond (d == c) 1 0 ≡ 0 = ap {B = ℕ} (λ b. cond b 1 0) (ne_eqb d c n) in
    omega (arith, push, none)

wide_own : (b : Bool) (o : Option ℕ) → IsFalse b → (if b then None else o) ≡ None → o ≡ None
wide_own true o wide e = cc
wide_own false o wide e = e

-- ---- what is known after some reads

module _ (query : Query) (frame : Frame) (bits : Planes) where
  -- where the query stands after these reads of its own
  abbrev pub after : List ℕ → Stage
  after reads = stage_after query frame bits reads (length reads)

  pub read_times : (reads : List ℕ) (c : ℕ) → c < length query.columns → (known_at (after reads).known c).read ≡ times c reads
  read_times reads c h =
      ap (λ k. k.read) (known_there query frame bits (counts_after query reads (length reads)) c h)
      ∙ count_there query reads (length reads) c 0 h ∙ ap (times c) (take_all reads)

  -- one read more takes the column's next plane
  pub after_more : (reads : List ℕ) (c : ℕ) → c < length query.columns →
      after (reads ++ c ∷ []) ≡ stepped (after reads) c (bits (get_or query.columns c 0) (times c reads))
  after_more reads c h =
      let with_known : Knowledge → Stage = λ known. record { query = query; frame = projected_frame query frame; known = known } in
      let counted = count_there query reads (length reads) c 0 h ∙ ap (times c) (take_all reads) in
      ap (stage_after query frame bits (reads ++ c ∷ [])) (length-append reads (c ∷ []))
      ∙ ap with_known (sym (last_known query frame bits reads c h))
      ∙ ap (λ n. stepped (after reads) c (bits (get_or query.columns c 0) n)) counted

-- ---- steps

module _ (near : Nearness) (query : Query) (frame : Frame) (bits : Planes) where
  abbrev own : List ℕ → ℕ → List ℕ
  own places n = own_reads near frame bits places query n

  abbrev stage : List ℕ → ℕ → Stage
  stage places n = stage_in near frame bits places query n

  -- it goes by the places that were read so far alone
  pub same_own : (a b : List ℕ) (n : ℕ) → ((k : ℕ) → k < n → get_or a k 0 ≡ get_or b k 0) → own a n ≡ own b n
  same_own a b zero same = refl
  same_own a b (suc n) same =
      ap (λ reads. reads ++ own_read near (get_or a n 0) (after query frame bits reads)) (same_own a b n (λ k h. same k (omega arith)))
      ∙ ap (λ place. own b n ++ own_read near place (stage b n)) (same n (omega arith))

  pub own_none : (places : List ℕ) (n : ℕ) → awaited near (get_or places n 0) (stage places n) ≡ None → own places (suc n) ≡ own places n
  own_none places n e = ap (λ o. own places n ++ option_map_or (λ c. c ∷ []) o []) e ∙ append-nil (own places n)

  pub own_some : (places : List ℕ) (n c : ℕ) → awaited near (get_or places n 0) (stage places n) ≡ Some c → own places (suc n) ≡ own places n ++ c ∷ []
  own_some places n c e = ap (λ o. own places n ++ option_map_or (λ d. d ∷ []) o []) e

  pub stage_none : (places : List ℕ) (n : ℕ) → awaited near (get_or places n 0) (stage places n) ≡ None → stage places (suc n) ≡ stage places n
  stage_none places n e = ap (after query frame bits) (own_none places n e)

  -- the column that is awaited is the query's, at that place
  pub column_awaited : (place : ℕ) (s : Stage) (c : ℕ) → s.query ≡ query → awaited near place s ≡ Some c → (c < length query.columns) × (get_or query.columns c 0 ≡ place)
  column_awaited place s c is e = subst (λ (q : Query). (c < length q.columns) × (get_or q.columns c 0 ≡ place)) is (own_there s.query.columns place c (awaited_own near place s c e).1)

  pub stage_some : (places : List ℕ) (n c : ℕ) → awaited near (get_or places n 0) (stage places n) ≡ Some c →
      stage places (suc n) ≡ stepped (stage places n) c (bits (get_or places n 0) (times c (own places n)))
  stage_some places n c e =
      let (inside, there) = column_awaited (get_or places n 0) (stage places n) c refl e in
      ap (after query frame bits) (own_some places n c e) ∙ after_more query frame bits (own places n) c inside
      ∙ ap (λ place. stepped (stage places n) c (bits place (times c (own places n)))) there

  -- a query that is not finished has read every plane of its columns that was read
  pub counted : (places : List ℕ) (n : ℕ) → n ≤ length places → (place c : ℕ) → own_column query place ≡ Some c → IsFalse (is_narrow near (stage places n)) →
      times c (own places n) ≡ times place (take n places)
  counted places zero h place c is wide = refl
  counted places (suc n) h place c is wide = by (awaited near here (stage places n)) refl (counted places n (omega arith) place c is)
    where
      here : ℕ
      here = get_or places n 0

      one : n + 1 ≡ suc n
      one = omega arith

      not_here : here ≢ place → times place (take (suc n) places) ≡ times place (take n places)
      not_here other = subst (λ m. times place (take m places) ≡ times place (take n places)) one (count_by_more_no (λ d. d == place) places n 0 (omega arith) (ne_eqb here place other))

      is_here : here ≡ place → times place (take (suc n) places) ≡ times place (take n places) + 1
      is_here same = subst (λ m. times place (take m places) ≡ times place (take n places) + 1) one (count_by_more_yes (λ d. d == place) places n 0 (omega arith) (eq-eqb here place same))

      by : (o : Option ℕ) → awaited near here (stage places n) ≡ o → (IsFalse (is_narrow near (stage places n)) → times c (own places n) ≡ times place (take n places)) →
          times c (own places (suc n)) ≡ times place (take (suc n) places)
      by None e before =
          let wide_before = subst (λ s. IsFalse (is_narrow near s)) (stage_none places n e) wide in
          let none : own_column query here ≡ None = wide_own (is_narrow near (stage places n)) (own_column query here) wide_before e in
          let other : here ≢ place = λ same. (let never : Some c ≡ None = sym is ∙ ap (own_column query) (sym same) ∙ none in cc) in
          ap (times c) (own_none places n e) ∙ before wide_before ∙ sym (not_here other)
      by (Some d) e before = to (cases_eq here place)
        where
          own_d : IsFalse (is_narrow near (stage places n)) × (own_column query here ≡ Some d)
          own_d = awaited_own near here (stage places n) d e

          to : (here ≡ place) ⊎ (here ≢ place) → times c (own places (suc n)) ≡ times place (take (suc n) places)
          to (inl same) =
              let c_is : d ≡ c = same_Some d c (sym own_d.1 ∙ ap (own_column query) same ∙ is) in
              ap (times c) (own_some places n d e) ∙ times_same (own places n) d c c_is ∙ ap (λ m. m + 1) (before own_d.0) ∙ sym (is_here same)
          to (inr other) =
              let d_there = (own_there query.columns here d own_d.1).1 in
              let c_there = (own_there query.columns place c is).1 in
              let c_other : d ≢ c = λ same. other (sym d_there ∙ ap (λ k. get_or query.columns k 0) same ∙ c_there) in
              ap (times c) (own_some places n d e) ∙ times_other (own places n) d c c_other ∙ before own_d.0 ∙ sym (not_here other)

  -- so of a column that it awaits it has read as many planes as were read of it
  pub read_awaited : (places : List ℕ) (n place c : ℕ) → n ≤ length places → awaited near place (stage places n) ≡ Some c →
      (known_at (stage places n).known c).read ≡ times place (take n places)
  read_awaited places n place c h e =
      let (wide, is) = awaited_own near place (stage places n) c e in
      read_times query frame bits (own places n) c (own_there query.columns place c is).0 ∙ counted places n h place c is wide
