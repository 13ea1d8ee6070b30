-- A column that a policy sees unread has a plane.
use Rattle.std.proofs.Common.{subst, sym}
use Rattle.round_engine.specs.Stages.{HasPlane, Stage}
use Rattle.table_rounds.proofs.Outlooks.{unread_has_plane}
use Rattle.plane_course.proofs.queries.EngineRunning.next_place.Goals as goal

pub next_place-requires-clause-plane : goal.next_place-requires-clause-plane
next_place-requires-clause-plane c =
    subst (λ (s : Stage). HasPlane s c.args.column) (sym c.view.ensures) (unread_has_plane c.args.self.now c.args.column c.requires.unread)
