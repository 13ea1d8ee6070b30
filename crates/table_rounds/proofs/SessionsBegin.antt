-- Nothing read is before the first step.
use Rattle.std.proofs.Common.{◌≡◌, true, List, [], ◌∷◌, length, map, replicate, refl, ap, ◌∙◌, subst, arith}
use Rattle.daq_table.specs.declared.table_head.Head.{Head}
use Rattle.daq_table.specs.Tables.{frame_of}
use Rattle.multi_session.specs.Sessions.{columns_named}
use Rattle.plane_schedule.specs.declared.policy.Plan.{Plan}
use Rattle.query_model.specs.Knowledge.{IsKnowledge}
use Rattle.query_model.specs.Queries.{Query}
use Rattle.round_engine.specs.Stages.{Stage, opened}
use Rattle.table_rounds.proofs.Lists.{all_of, same_maps}
use Rattle.table_rounds.proofs.Standing.{from_map}
use Rattle.table_rounds.specs.SessionLaws.{SessionsBegin}
use Rattle.table_rounds.specs.Steps.{IsLegalSession, session_after, stage_in}
use Rattle.table_rounds.specs.Headline.{RoundsBegin}
use Rattle.table_rounds.specs.Rounds.{Planes}

all_moved : (queries : List Query) → replicate (length queries) true ≡ map (λ query. true) queries
all_moved [] = refl
all_moved (q ∷ qs) = ap (λ l. true ∷ l) (all_moved qs)

module _ (begin : RoundsBegin) (plan : Plan) (queries : List Query) (head : Head) (bits : Planes) where
  abbrev start : Query → Stage
  start query = stage_in plan.near (frame_of head) bits [] query 0

  legal : IsLegalSession (session_after plan.near queries head bits [] 0)
  legal = all_of (λ (s : Stage). IsKnowledge s.frame s.known) (map start queries) (λ k s there.
      let (query, at, is) = from_map start queries k s there in
      subst (λ (s : Stage). IsKnowledge s.frame s.known) is ((begin plan query head bits).rounds.legal 0 (omega arith)))

pub sessions_begin : RoundsBegin → SessionsBegin
sessions_begin begin plan queries head bits = record {
  rounds = record {
    going = λ step h. absurd (omega (arith, h));
    chosen = λ step h. absurd (omega (arith, h));
    legal = λ step h. (let e : 0 ≡ step = omega (arith, h) in
        subst (λ n. IsLegalSession (session_after plan.near queries head bits [] n)) e (legal begin plan queries head bits));
  };
  is = (let stages = same_maps (λ query. opened query head) (start begin plan queries head bits) queries (λ k query there. (begin plan query head bits).known) in
      ap (λ ss. record { near = plan.near; rows = head.rows; columns = columns_named queries; stages = ss; moved = replicate (length queries) true; steps = 0 }) stages
      ∙ ap (λ ms. record { near = plan.near; rows = head.rows; columns = columns_named queries; stages = map (start begin plan queries head bits) queries; moved = ms; steps = 0 }) (all_moved queries));
}
