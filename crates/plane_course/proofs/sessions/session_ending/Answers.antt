-- The session is narrow where no query is left, and a query that is left awaits a plane.
use Rattle.std.proofs.Common.{◌≡◌, ℕ, Bool, true, false, not, Option, Some, None, sym, ap, ◌∙◌, IsFalse, IsTrue}
use Rattle.std.proofs.lemmas.List.Folds.{list_all_at}
use Rattle.std.proofs.lemmas.Option.{get_or_from_slice_get, slice_get_within}
use Rattle.std.specs.List.{list_all}
use Rattle.std.specs.Option.{is_some}
use Rattle.std.specs.Prelude.{IfNone, IfSome}
use Rattle.multi_session.specs.Sessions.{Session}
use Rattle.plane_schedule.specs.Plans.{ending_of, is_list_end, is_most}
use Rattle.plane_schedule.specs.declared.policy.Ending.{Ending}
use Rattle.plane_schedule.specs.declared.policy.Plan.{Plan}
use Rattle.round_engine.specs.Narrowness.{is_narrow}
use Rattle.table_rounds.proofs.Fitting.{alike_by, going_awaits}
use Rattle.table_rounds.specs.Steps.{IsWide}
use Rattle.table_rounds.proofs.Outlooks.{not_narrow}
use Rattle.plane_course.proofs.sessions.session_ending.Goals as goal

narrow_is : (s : Session) (o : Option ℕ) (b : Bool) → IfNone o (IsTrue (list_all (is_narrow s.near) s.stages)) → IfSome o (IsWide s) → is_some o ≡ not b →
    b ≡ list_all (is_narrow s.near) s.stages
narrow_is s None true none some e = sym none
narrow_is s None false none some e = cc
narrow_is s (Some k) true none some e = cc
narrow_is s (Some k) false none some e =
    sym (list_all_at (is_narrow s.near) s.stages k some.stage (slice_get_within s.stages k some.stage some.there)
    (ap (is_narrow s.near) (get_or_from_slice_get s.stages k some.stage some.stage some.there) ∙ some.wide))

wide_query : (s : Session) (o : Option ℕ) (b : Bool) → IfSome o (IsWide s) → is_some o ≡ not b → IsFalse b → (k : ℕ) × IsWide s k
wide_query s None true some e wide = cc
wide_query s None false some e wide = cc
wide_query s (Some k) b some e wide = (k, some)

going : (P : Type 0) (plan : Plan) (narrow : Bool) (round : ℕ) (o : Option Ending) → o ≡ ending_of plan narrow round → (IsFalse narrow → P) → IfNone o P
going P plan narrow round None e then = then (not_narrow narrow (is_most plan.most round) (is_list_end plan.policy round) (ap is_some (sym e)))
going P plan narrow round (Some why) e then = tt

pub returns-clause-ending : goal.returns-clause-ending
returns-clause-ending c =
    let s = c.args.session.now in
    let plan = c.args.plan.now in
    c.ending.ensures
    ∙ ap (λ narrow. ending_of plan narrow c.progress.result.done) (narrow_is s c.any_wide.result c.is_none.result c.any_wide.ensures.none c.any_wide.ensures.some c.is_none.ensures)
    ∙ ap (ending_of plan (list_all (is_narrow s.near) s.stages)) c.progress.ensures.progress.done

pub returns-clause-unread : goal.returns-clause-unread
returns-clause-unread c = λ head fits.
    let s = c.args.session.now in
    going _ c.args.plan.now c.is_none.result c.progress.result.done c.ending.result c.ending.ensures (λ wide.
    let (k, is) = wide_query s c.any_wide.result c.is_none.result c.any_wide.ensures.some c.is_none.ensures wide in
    going_awaits c.rounds_have_planes.ensures s head k (alike_by s c.progress.result c.progress.ensures.progress c.progress.ensures.alike) c.progress.ensures.known fits is)
