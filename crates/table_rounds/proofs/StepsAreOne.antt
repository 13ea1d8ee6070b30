-- The steps of a session are a course: so they are one, and they come to one outcome.
use Rattle.std.proofs.Common.{◌≡◌, ℕ, ◌+◌, ◌<◌, Bool, List, [], ◌∷◌, ◌++◌, Some, option_map, length, map, sym, ap, ◌∙◌, subst, arith, length-append, slice_get}
use Rattle.std.proofs.lemmas.Option.{slice_get-map}
use Rattle.daq_table.specs.declared.table_head.Head.{Head}
use Rattle.daq_table.specs.Tables.{frame_of}
use Rattle.multi_session.proofs.Awaiting.{awaited_own, own_there}
use Rattle.multi_session.specs.Sessions.{Session, followed, session_outlook, session_stepped}
use Rattle.plane_schedule.specs.Laws.{ChoicesAreOne}
use Rattle.plane_schedule.specs.declared.policy.Plan.{Plan}
use Rattle.query_model.specs.Knowledge.{IsKnowledge, taken}
use Rattle.query_model.specs.Queries.{Query}
use Rattle.round_engine.specs.Stages.{Stage}
use Rattle.table_rounds.proofs.Lists.{all_there}
use Rattle.table_rounds.proofs.Standing.{Found, are_columns, first_awaits, found, from_map, next_unread, same_session, session_more}
use Rattle.table_rounds.proofs.StepsTake.{followed_some}
use Rattle.table_rounds.specs.SessionLaws.{Passes, SessionsAreOne}
use Rattle.table_rounds.specs.Steps.{AreSteps, IsLegalSession, ending_in, place_of, places_read, session_after, stage_in, steps_of}
use Rattle.table_rounds.proofs.Courses.{IsLawful, one_more, outcomes_are_one}
use Rattle.table_rounds.proofs.Going.{one_row, taken_over}
use Rattle.table_rounds.proofs.Reached.{columns_of_part}
use Rattle.table_rounds.specs.Courses.{IsFollowed, number_after}
use Rattle.table_rounds.specs.Rounds.{Planes}

module _ (plan : Plan) (queries : List Query) (head : Head) (bits : Planes) where
  abbrev at : List ℕ → ℕ → Session
  at reads n = session_after plan.near queries head bits reads n

  -- the session after the next plane
  pub next_at : (reads : List ℕ) (next : ℕ) → IsFollowed (steps_of plan queries head bits) reads next →
      session_stepped (at reads (length reads)) next (bits (place_of queries next) (number_after reads (length reads) next)) ≡ at (reads ++ next ∷ []) (length reads + 1)
  next_at reads next follows =
      session_more plan.near queries head bits reads next (are_columns plan queries head bits reads follows.rounds) (next_unread plan queries head bits reads next follows).column
      ∙ ap (at (reads ++ next ∷ [])) (length-append reads (next ∷ []))

  -- ---- the query that first awaits the next plane

  module _ (reads : List ℕ) (next : ℕ) (follows : IsFollowed (steps_of plan queries head bits) reads next) where
    abbrev s : Session
    s = at reads (length reads)

    first : Found s.near (place_of queries next) s.stages
    first = found s.near (place_of queries next) s.stages (next_unread plan queries head bits reads next follows).unread

    first_known : IsKnowledge first.stage.frame first.stage.known
    first_known = all_there (λ (s : Stage). IsKnowledge s.frame s.known) s.stages first.query first.stage (follows.rounds.legal (length reads) (omega arith)) first.there

    first_inside : first.own < length first.stage.frame.columns
    first_inside =
        let stage : Query → Stage = λ query. stage_in plan.near (frame_of head) bits (places_read queries reads) query (length reads) in
        let (query, here, is) = from_map stage queries first.query first.stage first.there in
        let inside = (own_there first.stage.query.columns (place_of queries next) first.own (awaited_own s.near (place_of queries next) first.stage first.own first.waits).1).0 in
        subst (λ (t : Stage). first.own < length t.query.columns → first.own < length t.frame.columns) is
        (λ below. subst (λ n. first.own < n) (sym (columns_of_part query (frame_of head))) below) inside

    abbrev plane : List Bool
    plane = bits (place_of queries next) (number_after reads (length reads) next)

    not_over : (row : ℕ) → (steps_of plan queries head bits).over reads next row → IsLegalSession (at (reads ++ next ∷ []) (length reads + 1)) → ⊥
    not_over row over legal =
        let f = first in
        let place = place_of queries next in
        let there : slice_get (map (followed s.near place plane) s.stages) f.query ≡ Some (followed s.near place plane f.stage) =
        slice_get-map (followed s.near place plane) s.stages f.query ∙ ap (option_map (followed s.near place plane)) f.there in
        let new = all_there (λ (s : Stage). IsKnowledge s.frame s.known) (map (followed s.near place plane) s.stages) f.query (followed s.near place plane f.stage)
        (subst IsLegalSession (sym (next_at reads next follows)) legal) there in
        let stepped_known : IsKnowledge f.stage.frame (taken f.stage.known f.own plane) = subst (λ (s : Stage). IsKnowledge s.frame s.known) (followed_some s.near place f.own plane f.stage f.waits) new in
        taken_over f.stage f.own plane row first_known stepped_known first_inside (over f.stage f.own (first_awaits s next f))

    one_over : (a b : ℕ) → (steps_of plan queries head bits).over reads next a → (steps_of plan queries head bits).over reads next b → a ≡ b
    one_over a b p r = let awaits = first_awaits s next first in one_row first.stage first.own plane a b (p first.stage first.own awaits) (r first.stage first.own awaits)

  pub steps_lawful : IsLawful (steps_of plan queries head bits)
  steps_lawful = record {
    ending = λ a b n alike. ap (ending_in plan) (same_session plan.near queries head bits a b n alike.in_a alike.in_b alike.same);
    outlook = λ a b n alike. ap session_outlook (same_session plan.near queries head bits a b n alike.in_a alike.in_b alike.same);
    legal = λ a b n alike. subst IsLegalSession (same_session plan.near queries head bits a b n alike.in_a alike.in_b alike.same);
    illegal = λ reads c row follows over legal. not_over reads c follows row over legal;
    one_row = λ reads c a b follows p r. one_over reads c follows a b p r;
  }

  -- a step that is not the last, the column that the policy chooses, and legal prefixes with its next plane
  pub one_step_more : (reads : List ℕ) (next : ℕ) → IsFollowed (steps_of plan queries head bits) reads next →
      IsLegalSession (session_stepped (at reads (length reads)) next (bits (place_of queries next) (number_after reads (length reads) next))) → AreSteps plan queries head bits (reads ++ next ∷ [])
  one_step_more reads next follows legal = one_more (steps_of plan queries head bits) steps_lawful reads next follows (subst IsLegalSession (next_at reads next follows) legal)

pub sessions_are_one : ChoicesAreOne → SessionsAreOne
sessions_are_one one plan queries head bits readable a b x y p r = outcomes_are_one one (steps_of plan queries head bits) (steps_lawful plan queries head bits) (Passes readable) a b x y p r
