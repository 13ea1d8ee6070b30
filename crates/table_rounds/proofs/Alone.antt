-- Each query of a session stands where it would alone, asked by its own reads.
use Rattle.std.proofs.Common.{◌≡◌, ◌⊎◌, ℕ, zero, suc, ◌+◌, ◌<◌, ◌≤◌, ◌==◌, Bool, true, false, Option, Some, None, option_map, List, [], ◌∷◌, ◌++◌, length, get_or, take, map, refl, sym, ap, ◌∙◌, subst, arith, IsFalse, IsTrue, IsNone, IsSome, append-nil, append_assoc, length-append, slice_get, inl, inr}
use Rattle.std.proofs.lemmas.Bool.{cases_lt, eq-eqb, ne_eqb}
use Rattle.std.proofs.lemmas.Option.{slice_get-get_or, slice_get-map}
use Rattle.daq_table.specs.declared.table_head.Head.{Head}
use Rattle.daq_table.specs.Tables.{Frame, frame_of}
use Rattle.multi_session.proofs.Awaiting.{awaited_own, own_there}
use Rattle.multi_session.proofs.Named.{get_before, get_last}
use Rattle.multi_session.specs.Sessions.{awaited}
use Rattle.plane_schedule.specs.Choices.{IsUnread}
use Rattle.plane_schedule.specs.Plans.{first_ending}
use Rattle.plane_schedule.specs.declared.policy.Plan.{Plan}
use Rattle.query_model.specs.Knowledge.{IsKnowledge, known_at, taken}
use Rattle.query_model.specs.Laws.{ValidQueriesNameColumns}
use Rattle.query_model.specs.Projection.{projected_frame}
use Rattle.query_model.specs.Queries.{Query}
use Rattle.round_engine.specs.Narrowness.{is_narrow}
use Rattle.round_engine.specs.Progresses.{planes_read}
use Rattle.round_engine.specs.Stages.{Stage}
use Rattle.table_rounds.proofs.Lists.{all_there}
use Rattle.table_rounds.proofs.Own.{after, own_none, own_some, read_times, times, times_same}
use Rattle.table_rounds.specs.SessionLaws.{AreAlone, QueriesStandAlone, SessionsAreCertain}
use Rattle.table_rounds.specs.Steps.{AreSteps, own_read, own_reads, places_read, plan_alone, stage_in}
use Rattle.table_rounds.specs.Headline.{RoundsAreCertain}
use Rattle.table_rounds.specs.Courses.{IsFollowed}
use Rattle.table_rounds.specs.Rounds.{AreAllRounds, AreRounds, Planes, counts_after, outlook_at, rounds_of, stage_after}
use Rattle.table_rounds.proofs.Going.{last_known, one_round_more, same_stage, take_all}
use Rattle.table_rounds.proofs.Reached.{columns_of_part, counted_after}

none_yet : (narrow end : Bool) → IsFalse narrow → IsFalse end → IsNone (first_ending narrow false end)
none_yet true end wide more = cc
none_yet false true wide more = cc
none_yet false false wide more = refl

some_end : (narrow end : Bool) → IsTrue end → IsSome (first_ending narrow false end)
some_end true end e = refl
some_end false true e = refl
some_end false false e = cc

take_front : (xs ys : List ℕ) → take (length xs) (xs ++ ys) ≡ xs
take_front [] ys = refl
take_front (x ∷ xs) ys = ap (λ l. x ∷ l) (take_front xs ys)

module _ (plan : Plan) (query : Query) (frame : Frame) (bits : Planes) (places : List ℕ) where
  abbrev own : ℕ → List ℕ
  own n = own_reads plan.near frame bits places query n

  abbrev stage : ℕ → Stage
  stage n = stage_in plan.near frame bits places query n

  -- later reads come behind
  grows : (m n : ℕ) → m ≤ n → (rest : List ℕ) × (own n ≡ own m ++ rest)
  grows m zero h = (let e : m ≡ 0 = omega (arith, h) in ([], sym (append-nil (own 0)) ∙ ap (λ k. own k ++ []) (sym e)))
  grows m (suc n) h = by (cases_lt n m) (grows m n)
    where
      by : ((n < m) ⊎ (m ≤ n)) → (m ≤ n → (rest : List ℕ) × (own n ≡ own m ++ rest)) → (rest : List ℕ) × (own (suc n) ≡ own m ++ rest)
      by (inl less) before = (let e : m ≡ suc n = omega (arith, h, less) in ([], ap own (sym e) ∙ sym (append-nil (own m))))
      by (inr le) before =
          let (rest, is) = before le in
          let last = own_read plan.near (get_or places n 0) (stage n) in
          (rest ++ last, ap (λ l. l ++ last) is ∙ append_assoc (own m) rest last)

  module _ (steps : ℕ) (legal : (n : ℕ) → n ≤ steps → IsKnowledge (projected_frame query frame) (stage n).known) where
    abbrev all : List ℕ
    all = own steps

    abbrev alone : Plan
    alone = plan_alone plan all

    is_front : (n : ℕ) → n ≤ steps → own n ≡ take (length (own n)) all
    is_front n h = let (rest, is) = grows n steps h in sym (ap (take (length (own n))) is ∙ take_front (own n) rest)

    -- the query's next read is the next of the list
    next_read : (n c : ℕ) → suc n ≤ steps → awaited plan.near (get_or places n 0) (stage n) ≡ Some c → (length (own n) < length all) × (slice_get all (length (own n)) ≡ Some c)
    next_read n c h e =
        let (rest, is) = grows (suc n) steps h in
        let split : all ≡ (own n ++ c ∷ []) ++ rest = is ∙ ap (λ l. l ++ rest) (own_some plan.near query frame bits places n c e) in
        let long = length-append (own n ++ c ∷ []) rest in
        let one = length-append (own n) (c ∷ []) in
        let whole = ap length split in
        let inside : length (own n) < length all = omega (arith, whole, long, one) in
        let here : get_or all (length (own n)) 0 ≡ c =
        ap (λ l. get_or l (length (own n)) 0) split ∙ get_before (own n ++ c ∷ []) rest (length (own n)) 0 (omega (arith, one)) ∙ get_last (own n) c (length (own n)) refl in
        (inside, slice_get-get_or all (length (own n)) 0 inside ∙ ap Some here)

    -- of the column that it takes a plane is unread
    unread_before : (n c : ℕ) → suc n ≤ steps → awaited plan.near (get_or places n 0) (stage n) ≡ Some c → IsUnread (outlook_at (stage n)) c
    unread_before n c h e =
        let inside : c < length query.columns = (own_there query.columns (get_or places n 0) c (awaited_own plan.near (get_or places n 0) (stage n) c e).1).0 in
        let in_part : c < length (projected_frame query frame).columns = subst (λ m. c < m) (sym (columns_of_part query frame)) inside in
        let few = (legal (suc n) h).read c in_part in
        let then : (known_at (stage (suc n)).known c).read ≡ times c (own (suc n)) = read_times query frame bits (own (suc n)) c inside in
        let more : times c (own (suc n)) ≡ times c (own n) + 1 = ap (times c) (own_some plan.near query frame bits places n c e) ∙ times_same (own n) c c refl in
        let now : (known_at (stage n).known c).read ≡ times c (own n) = read_times query frame bits (own n) c inside in
        record { column = in_part; unread = omega (arith, few, then, more, now) }

    rounds : (n : ℕ) → n ≤ steps → AreRounds alone query frame bits (own n)
    rounds zero h = record {
      going = λ round k. absurd (omega (arith, k));
      chosen = λ round k. absurd (omega (arith, k));
      legal = λ round k. (let e : 0 ≡ round = omega (arith, k) in
          subst (λ m. IsKnowledge (projected_frame query frame) (stage_after query frame bits [] m).known) e (legal 0 (omega arith)));
    }
    rounds (suc n) h = by (awaited plan.near (get_or places n 0) (stage n)) refl (rounds n (omega (arith, h)))
      where
        by : (o : Option ℕ) → awaited plan.near (get_or places n 0) (stage n) ≡ o → AreRounds alone query frame bits (own n) → AreRounds alone query frame bits (own (suc n))
        by None e before = subst (AreRounds alone query frame bits) (sym (own_none plan.near query frame bits places n e)) before
        by (Some c) e before =
            let (inside, next) = next_read n c h e in
            let round : planes_read (stage n).known ≡ length (own n) = counted_after alone query frame bits (own n) before (length (own n)) (omega arith) in
            let wide = (awaited_own plan.near (get_or places n 0) (stage n) c e).0 in
            let more : IsFalse (planes_read (stage n).known == length all) = ne_eqb (planes_read (stage n).known) (length all) (λ same. absurd (omega (arith, same, round, inside))) in
            let column = (own_there query.columns (get_or places n 0) c (awaited_own plan.near (get_or places n 0) (stage n) c e).1).0 in
            let followed : IsFollowed (rounds_of alone query frame bits) (own n) c = record {
              rounds = before;
              going = none_yet (is_narrow plan.near (stage n)) (planes_read (stage n).known == length all) wide more;
              chosen = record {
                next = subst (λ m. slice_get all m ≡ Some c) (sym round) next;
                unread = unread_before n c h e;
              };
            } in
            let there : stage (suc n) ≡ stage_after query frame bits (own n ++ c ∷ []) (length (own n) + 1) =
            ap (after query frame bits) (own_some plan.near query frame bits places n c e) ∙ ap (stage_after query frame bits (own n ++ c ∷ [])) (length-append (own n) (c ∷ [])) in
            let known : IsKnowledge (projected_frame query frame) (taken (stage n).known c (bits (get_or query.columns c 0) (get_or (counts_after query (own n) (length (own n))) c 0))) =
            subst (IsKnowledge (projected_frame query frame)) (sym (last_known query frame bits (own n) c column))
            (subst (λ (s : Stage). IsKnowledge (projected_frame query frame) s.known) there (legal (suc n) h)) in
            subst (AreRounds alone query frame bits) (sym (own_some plan.near query frame bits places n c e)) (one_round_more alone query frame bits (own n) c followed known)

    pub all_rounds : AreAllRounds alone query frame bits all
    all_rounds =
        let are = rounds steps (omega arith) in
        let round : planes_read (stage steps).known ≡ length all = counted_after alone query frame bits all are (length all) (omega arith) in
        record { rounds = are; ended = some_end (is_narrow plan.near (stage steps)) (planes_read (stage steps).known == length all) (eq-eqb (planes_read (stage steps).known) (length all) round) }

    pub stands_alone : AreAlone plan query frame bits own steps
    stands_alone = record {
      rounds = all_rounds;
      front = λ step h. is_front step h;
      stages = λ step h. same_stage query frame bits (own step) all (length (own step)) (take_all (own step) ∙ is_front step h);
    }

legal_of : (plan : Plan) (queries : List Query) (head : Head) (bits : Planes) (reads : List ℕ) (q : ℕ) (query : Query) → AreSteps plan queries head bits reads → slice_get queries q ≡ Some query →
    (n : ℕ) → n ≤ length reads → IsKnowledge (projected_frame query (frame_of head)) (stage_in plan.near (frame_of head) bits (places_read queries reads) query n).known
legal_of plan queries head bits reads q query steps there n h =
    let stage : Query → Stage = λ query. stage_in plan.near (frame_of head) bits (places_read queries reads) query n in
    all_there (λ (s : Stage). IsKnowledge s.frame s.known) (map stage queries) q (stage query) (steps.legal n h) (slice_get-map stage queries q ∙ ap (option_map stage) there)

pub queries_stand_alone : QueriesStandAlone
queries_stand_alone plan queries head bits reads q query steps there =
    stands_alone plan query (frame_of head) bits (places_read queries reads) (length reads) (legal_of plan queries head bits reads q query steps there)

pub sessions_are_certain : ValidQueriesNameColumns → RoundsAreCertain → SessionsAreCertain
sessions_are_certain named certain plan queries head bits reads q query cells valid longs steps there has =
    let own = own_reads plan.near (frame_of head) bits (places_read queries reads) query (length reads) in
    certain (plan_alone plan own) query (frame_of head) bits own cells (named head query (all_there _ queries q query valid there)) longs
    (queries_stand_alone plan queries head bits reads q query steps there).rounds.rounds has
