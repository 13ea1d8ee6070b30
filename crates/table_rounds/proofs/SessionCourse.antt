-- The queries of a session run on the course of its steps.
use Rattle.std.proofs.Common.{◌≡◌, ℕ, ◌+◌, ◌<◌, Bool, List, [], ◌∷◌, ◌++◌, length, get_or, refl, sym, ap, ◌∙◌, subst, arith, length-append, slice_index, IsNone}
use Rattle.daq_table.specs.declared.table_head.Head.{Head}
use Rattle.multi_session.proofs.Named.{columns_once}
use Rattle.multi_session.specs.Sessions.{Awaits, Session, session_outlook, session_stepped}
use Rattle.plane_schedule.specs.Choices.{Chooses, IsUnread}
use Rattle.plane_schedule.specs.declared.policy.Plan.{Plan}
use Rattle.query_model.specs.Laws.{TakenIsKnowledge}
use Rattle.query_model.specs.Queries.{Query}
use Rattle.round_engine.specs.Stages.{IsFirstOver, Stage}
use Rattle.table_rounds.specs.Courses.{AreReads, HaveSameRead, IsFollowed, number_after}
use Rattle.table_rounds.specs.Rounds.{Planes}
use Rattle.table_rounds.specs.Steps.{FitsSession, IsAfter, IsLegalSession, ending_in, next_number, place_of, queries_of, session_after, steps_of}
use Rattle.table_rounds.proofs.SessionsAgree.{planes_tell_sessions}
use Rattle.table_rounds.proofs.Standing.{are_columns, next_of}
use Rattle.table_rounds.proofs.StepsAreOne.{next_at, one_step_more}
use Rattle.table_rounds.proofs.StepsTake.{AllTake, legal_stepped}

pub by_policy : (first : Session) (plan : Plan) (head : Head) (bits : Planes) → (steps_of plan (queries_of first) head bits).policy ≡ plan.policy
by_policy first plan head bits = refl

pub rows_are : (now : Session) (head : Head) → FitsSession now head → now.rows ≡ head.rows
rows_are now head fits = fits.rows

pub apart : (now : Session) (head : Head) (c d : ℕ) → FitsSession now head → c < length now.columns → d < length now.columns → get_or now.columns c 0 ≡ get_or now.columns d 0 → c ≡ d
apart now head c d fits h k same =
    columns_once (queries_of now) c d (subst (λ cs. c < length cs) fits.columns h) (subst (λ cs. d < length cs) fits.columns k)
    (ap (λ cs. get_or cs c 0) (sym fits.columns) ∙ same ∙ ap (λ cs. get_or cs d 0) fits.columns)

module _ (first now : Session) (plan : Plan) (head : Head) (bits : Planes) (reads : List ℕ) where
  abbrev queries : List Query
  queries = queries_of first

  abbrev there : Session
  there = session_after plan.near queries head bits reads (length reads)

  abbrev IsNow : Type 0
  IsNow = IsAfter plan queries head bits reads now

  pub are_reads : IsNow → AreReads (steps_of plan queries head bits) reads
  are_reads after = after.rounds

  pub sees : IsNow → session_outlook now ≡ session_outlook there
  sees after = ap session_outlook after.is

  pub place_is : (c : ℕ) → IsNow → get_or now.columns c 0 ≡ place_of queries c
  place_is c after = ap (λ s. get_or s.columns c 0) after.is

  pub number_is : (c : ℕ) → IsNow → IsUnread (session_outlook now) c → next_number now c ≡ number_after reads (length reads) c
  number_is c after unread =
      ap (λ s. next_number s c) after.is
      ∙ next_of plan.near queries head bits reads (length reads) c (omega arith) (are_columns plan queries head bits reads after.rounds) (subst (λ s. IsUnread (session_outlook s) c) after.is unread)

  -- the next plane is taken, or refused
  module _ (c : ℕ) (plane : List Bool) (after : IsNow) (unread : IsUnread (session_outlook now) c) (is : plane ≡ bits (get_or now.columns c 0) (next_number now c)) where
    plane_is : plane ≡ bits (place_of queries c) (number_after reads (length reads) c)
    plane_is = is ∙ ap (λ i. bits i (next_number now c)) (place_is c after) ∙ ap (bits (place_of queries c)) (number_is c after unread)

    pub further : TakenIsKnowledge → (new : Session) → IsFollowed (steps_of plan queries head bits) reads c → AllTake now c plane → new ≡ session_stepped now c plane →
        IsAfter plan queries head bits (reads ++ c ∷ []) new
    further taken_is new followed can step =
        let place = bits (place_of queries c) (number_after reads (length reads) c) in
        let take : AllTake there c place = subst (AllTake there c) plane_is (subst (λ s. AllTake s c plane) after.is can) in
        record {
          rounds = one_step_more plan queries head bits reads c followed (legal_stepped taken_is there c place (after.rounds.legal (length reads) (omega arith)) take);
          is = step ∙ ap (session_stepped now c) plane_is ∙ ap (λ s. session_stepped s c place) after.is ∙ next_at plan queries head bits reads c followed
              ∙ ap (session_after plan.near queries head bits (reads ++ c ∷ [])) (sym (length-append reads (c ∷ [])));
        }

    pub over_there : (row : ℕ) → ((stage : Stage) (own : ℕ) → Awaits now c stage own → IsFirstOver stage own plane row) → (steps_of plan queries head bits).over reads c row
    over_there row over = λ stage own awaits. subst (λ bs. IsFirstOver stage own bs row) plane_is (over stage own (subst (λ s. Awaits s c stage own) (sym after.is) awaits))

module _ (first now : Session) (plan : Plan) (head : Head) (a b : Planes) (reads : List ℕ) (after : IsAfter plan (queries_of first) head a reads now)
    (same : HaveSameRead (steps_of plan (queries_of first) head a) reads a b) where
  same_sessions : (step : ℕ) → step < length reads + 1 → session_after plan.near (queries_of first) head a reads step ≡ session_after plan.near (queries_of first) head b reads step
  same_sessions step h = planes_tell_sessions plan (queries_of first) head a b reads (are_columns plan (queries_of first) head a reads after.rounds) same step (omega (arith, h))

  pub agrees : IsAfter plan (queries_of first) head b reads now
  agrees = record {
    rounds = record {
      going = λ step h. subst (λ s. IsNone (ending_in plan s)) (same_sessions step (omega (arith, h))) (after.rounds.going step h);
      chosen = λ step h. subst (λ s. Chooses plan.policy (session_outlook s) (slice_index reads step)) (same_sessions step (omega (arith, h))) (after.rounds.chosen step h);
      legal = λ step h. subst IsLegalSession (same_sessions step (omega (arith, h))) (after.rounds.legal step h);
    };
    is = after.is ∙ same_sessions (length reads) (omega arith);
  }
