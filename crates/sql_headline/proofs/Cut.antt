-- The rounds up to a last one are the first of all rounds.
use Rattle.std.proofs.Common.{◌≡◌, ℕ, zero, suc, ◌<◌, ◌≤◌, ◌==◌, Bool, true, false, List, [], ◌∷◌, ◌++◌, length, take, drop, None, inl, inr, ◌⊎◌, refl, sym, ap, subst, ◌∙◌, arith, get_or}
use Rattle.std.specs.Prelude.{IsNone, IsSome}
use Rattle.std.proofs.lemmas.Bool.Decides.{Decides-eqb}
use Rattle.std.proofs.lemmas.List.{length-append, length-take, take-append-drop}
use Rattle.daq_report.specs.Blocks.{block_text}
use Rattle.daq_table.specs.Tables.{Frame, frame_of}
use Rattle.plane_schedule.specs.Choices.{Chooses}
use Rattle.plane_schedule.specs.Plans.{first_ending, is_list_end, is_most}
use Rattle.plane_schedule.specs.declared.policy.Plan.{Plan}
use Rattle.query_model.specs.Queries.{Query}
use Rattle.round_engine.specs.Narrowness.{is_narrow}
use Rattle.round_engine.specs.Progresses.{planes_read}
use Rattle.round_engine.specs.Stages.{Stage}
use Rattle.table_rounds.specs.Rounds.{AreAllRounds, AreRounds, Planes, ending_at, outlook_at, stage_after}
use Rattle.table_rounds.proofs.Courses.{before_more, get_before, same_take}
use Rattle.table_rounds.proofs.Going.{rounds_lawful, same_stage}
use Rattle.table_rounds.proofs.Reached.{counted_after}
use Rattle.sql_headline.specs.Cuts.{RoundsAreCut, cut_at}

at_most_or_more : (a b : ℕ) → (a ≤ b) ⊎ (b < a)
at_most_or_more zero b = inl (omega arith)
at_most_or_more (suc a) zero = inr (omega arith)
at_most_or_more (suc a) (suc b) = elim (at_most_or_more a b) [ inl h ↦ inl (omega (arith, h)) | inr h ↦ inr (omega (arith, h)) ]

take_all : (n : ℕ) (xs : List ℕ) → length xs ≤ n → take n xs ≡ xs
take_all zero [] h = refl
take_all zero (x ∷ xs) h = absurd (omega (arith, h))
take_all (suc n) [] h = refl
take_all (suc n) (x ∷ xs) h = ap (λ l. x ∷ l) (take_all n xs (omega (arith, h)))

unequal : (a b : ℕ) (t : Bool) → (a == b) ≡ t → a < b → (a == b) ≡ false
unequal a b false e h = e
unequal a b true e h = let same : a ≡ b = (Decides-eqb a b).0 e in absurd (omega (arith, same, h))

most_ends : (narrow end : Bool) → IsSome (first_ending narrow true end)
most_ends true end = refl
most_ends false end = refl

still_ends : (narrow most end : Bool) → IsSome (first_ending narrow false end) → IsSome (first_ending narrow most end)
still_ends true most end h = refl
still_ends false true end h = refl
still_ends false false end h = h

module _ (most : ℕ) (plan : Plan) (query : Query) (frame : Frame) (bits : Planes) (free : plan.most ≡ None) where
  alike_stage : (reads more : List ℕ) (round : ℕ) → round ≤ length reads → stage_after query frame bits (reads ++ more) round ≡ stage_after query frame bits reads round
  alike_stage reads more round h = same_stage query frame bits (reads ++ more) reads round (same_take (reads ++ more) reads round (before_more reads more round h))

  longer : (reads more : List ℕ) (round : ℕ) → round ≤ length reads → round ≤ length (reads ++ more)
  longer reads more round h = let long = length-append reads more in omega (arith, long, h)

  read_at : (reads more : List ℕ) → AreRounds plan query frame bits (reads ++ more) → (round : ℕ) → round ≤ length reads → planes_read (stage_after query frame bits reads round).known ≡ round
  read_at reads more rounds round h =
      ap (λ (s : Stage). planes_read s.known) (sym (alike_stage reads more round h)) ∙ counted_after plan query frame bits (reads ++ more) rounds round (longer reads more round h)

  going_on : (stage : Stage) → IsNone (ending_at plan stage) → planes_read stage.known < most → IsNone (ending_at (cut_at most plan) stage)
  going_on stage h below =
      subst (λ m. IsNone (first_ending (is_narrow plan.near stage) m (is_list_end plan.policy (planes_read stage.known)))) (sym (unequal (planes_read stage.known) most _ refl below))
      (subst (λ o. IsNone (first_ending (is_narrow plan.near stage) (is_most o (planes_read stage.known)) (is_list_end plan.policy (planes_read stage.known)))) free h)

  cut_rounds : (reads more : List ℕ) → AreRounds plan query frame bits (reads ++ more) → length reads ≤ most → AreRounds (cut_at most plan) query frame bits reads
  cut_rounds reads more rounds short =
      let lawful = rounds_lawful plan query frame bits in
      record {
        going = λ round h.
            let inside : round ≤ length reads = omega (arith, h) in
            let long = length-append reads more in
            let read = read_at reads more rounds round inside in
            going_on (stage_after query frame bits reads round)
            (subst IsNone (lawful.ending (reads ++ more) reads round (before_more reads more round inside)) (rounds.going round (omega (arith, h, long))))
            (omega (arith, read, h, short));
        chosen = λ round h.
            let inside : round ≤ length reads = omega (arith, h) in
            let long = length-append reads more in
            subst (λ o. Chooses plan.policy o (get_or reads round 0)) (lawful.outlook (reads ++ more) reads round (before_more reads more round inside))
            (subst (Chooses plan.policy (outlook_at (stage_after query frame bits (reads ++ more) round))) (get_before reads more round h) (rounds.chosen round (omega (arith, h, long))));
        legal = λ round h. lawful.legal (reads ++ more) reads round (before_more reads more round h) (rounds.legal round (longer reads more round h));
      }

  ends_there : (reads more : List ℕ) → AreRounds plan query frame bits (reads ++ more) → length reads ≡ most → IsSome (ending_at (cut_at most plan) (stage_after query frame bits reads (length reads)))
  ends_there reads more rounds full =
      let stage = stage_after query frame bits reads (length reads) in
      let read = read_at reads more rounds (length reads) (omega arith) in
      let here : (planes_read stage.known == most) ≡ true = (Decides-eqb (planes_read stage.known) most).1 (read ∙ full) in
      subst (λ m. IsSome (first_ending (is_narrow plan.near stage) m (is_list_end plan.policy (planes_read stage.known)))) (sym here)
      (most_ends (is_narrow plan.near stage) (is_list_end plan.policy (planes_read stage.known)))

  ends_before : (stage : Stage) → IsSome (ending_at plan stage) → IsSome (ending_at (cut_at most plan) stage)
  ends_before stage h =
      still_ends (is_narrow plan.near stage) (planes_read stage.known == most) (is_list_end plan.policy (planes_read stage.known))
      (subst (λ o. IsSome (first_ending (is_narrow plan.near stage) (is_most o (planes_read stage.known)) (is_list_end plan.policy (planes_read stage.known)))) free h)

  split : (reads : List ℕ) → take most reads ++ drop most reads ≡ reads
  split reads = take-append-drop most reads

  rounds_of_front : (reads : List ℕ) → AreRounds plan query frame bits reads → AreRounds plan query frame bits (take most reads ++ drop most reads)
  rounds_of_front reads rounds = subst (AreRounds plan query frame bits) (sym (split reads)) rounds

  cut : (reads : List ℕ) → AreAllRounds plan query frame bits reads → (most ≤ length reads) ⊎ (length reads < most) → AreAllRounds (cut_at most plan) query frame bits (take most reads)
  cut reads all (inl h) =
      let long = length-take most reads in
      let full : length (take most reads) ≡ most = omega (arith, long, h) in
      record {
        rounds = cut_rounds (take most reads) (drop most reads) (rounds_of_front reads all.rounds) (omega (arith, full));
        ended = ends_there (take most reads) (drop most reads) (rounds_of_front reads all.rounds) full;
      }
  cut reads all (inr h) =
      let whole : take most reads ≡ reads = take_all most reads (omega (arith, h)) in
      let long = length-take most reads in
      record {
        rounds = cut_rounds (take most reads) (drop most reads) (rounds_of_front reads all.rounds) (omega (arith, long, h));
        ended = subst (λ (l : List ℕ). IsSome (ending_at (cut_at most plan) (stage_after query frame bits l (length l)))) (sym whole) (ends_before (stage_after query frame bits reads (length reads)) all.ended);
      }

pub rounds_cut : RoundsAreCut
rounds_cut most plan query head bits reads free all = record {
  rounds = cut most plan query (frame_of head) bits free reads all (at_most_or_more most (length reads));
  blocks = λ round low inside listing extras last.
      let long = length-take most reads in
      ap (λ (s : Stage). block_text head listing extras s round last)
      (sym (alike_stage most plan query (frame_of head) bits free (take most reads) (drop most reads) round (omega (arith, long, low, inside)))
      ∙ ap (λ (l : List ℕ). stage_after query (frame_of head) bits l round) (take-append-drop most reads));
}
