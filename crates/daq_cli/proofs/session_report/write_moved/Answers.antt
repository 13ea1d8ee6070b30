-- The line and the block of the query alone, where the last step went to it.
use Rattle.std.proofs.Common.{◌≡◌, ◌∙◌, ◌+◌, ◌++◌, Bool, List, Ok, Some, IfSome, ℕ, ap, arith, false, rules, slice_get, subst, sym, true}
use Rattle.std.proofs.KnownBytes.{Appends-nil}
use Rattle.daq_report.specs.Blocks.{block_text}
use Rattle.outer_world.proofs.Writes.{writes_both, writes_cut}
use Rattle.outer_world.specs.Whole.{Writes}
use Rattle.outer_world.specs.declared.device.Failed.{Failed}
use Rattle.round_engine.specs.Progresses.{planes_read}
use Rattle.daq_cli.specs.SessionReport.{at_line, own_of}
use Rattle.daq_cli.proofs.SessionQueries.{fits_there}
use Rattle.daq_cli.proofs.StepBlocks.{moved_block, unmoved_block}
use Rattle.daq_cli.proofs.session_report.write_moved.Goals as goal

pub returns-then-not-moved-clause-block : goal.returns-then-not-moved-clause-block
returns-then-not-moved-clause-block g c = λ queries bits reads q after there last.
    let s = c.args.session.now in
    let out = g.K.Sink.state c.args.out.now in
    let off : c.moved.result ≡ false = search rules in
    let none = unmoved_block c.args.head.now c.args.plan.now queries bits reads s c.args.query (c.args.query + 1) q after there (subst (λ (b : Bool). slice_get s.moved c.args.query ≡ Some b) off c.moved.ensures) in
    subst (λ (t : List ℕ). Writes {T = Unit {0}} {E = Failed} (Ok tt) out out t) (sym none) (record { done = Appends-nil out.written; part = tt; cause = record { later = omega arith; failed = tt } })

pub write_round-requires-clause-fits : goal.write_round-requires-clause-fits
write_round-requires-clause-fits g c = fits_there c.args.session.now c.args.head.now c.args.query c.view-view.result c.requires.fits c.view-view.ensures.stage

pub returns-in_err-write_at-clause-block : goal.returns-in_err-write_at-clause-block
returns-in_err-write_at-clause-block g c = λ queries bits reads q after there last.
    let s = c.args.session.now in
    let head = c.args.head.now in
    let plan = c.args.plan.now in
    let stage = c.view-view.result in
    let own = c.last_own-own.result in
    let number = c.args.query + 1 in
    let block = block_text head plan.listing plan.extras stage (planes_read stage.known) own in
    let on : c.moved.result ≡ true = search rules in
    let own_is : own ≡ own_of s.columns stage.query c.args.last = subst (λ o. IfSome o (λ stage. own ≡ own_of s.columns stage.query c.args.last)) c.view-view.ensures.stage c.last_own-own.ensures in
    let is_block = moved_block head plan queries bits reads s c.args.query number q after there c.queries_stand_alone.ensures c.rounds_are_counted.ensures stage own c.args.last
    (subst (λ (b : Bool). slice_get s.moved c.args.query ≡ Some b) on c.moved.ensures) c.view-view.ensures.stage own_is last in
    subst (Writes c.from_residual.result (g.K.Sink.state c.args.out.now) (g.K.Sink.state c.write_at.new.out))
    (ap (λ (step : ℕ). at_line step number ++ block) c.progress-step.ensures.progress.done ∙ is_block)
    (writes_cut _ c.from_residual.result _ _ (at_line _ number) block c.from_residual.ensures.0 c.in_err-write_at.ensures)

pub returns-clause-block : goal.returns-clause-block
returns-clause-block g c = λ queries bits reads q after there last.
    let s = c.args.session.now in
    let head = c.args.head.now in
    let plan = c.args.plan.now in
    let stage = c.view-view.result in
    let own = c.last_own-own.result in
    let number = c.args.query + 1 in
    let block = block_text head plan.listing plan.extras stage (planes_read stage.known) own in
    let on : c.moved.result ≡ true = search rules in
    let own_is : own ≡ own_of s.columns stage.query c.args.last = subst (λ o. IfSome o (λ stage. own ≡ own_of s.columns stage.query c.args.last)) c.view-view.ensures.stage c.last_own-own.ensures in
    let is_block = moved_block head plan queries bits reads s c.args.query number q after there c.queries_stand_alone.ensures c.rounds_are_counted.ensures stage own c.args.last
    (subst (λ (b : Bool). slice_get s.moved c.args.query ≡ Some b) on c.moved.ensures) c.view-view.ensures.stage own_is last in
    subst (Writes c.write_round.result (g.K.Sink.state c.args.out.now) (g.K.Sink.state c.write_round.new.out))
    (ap (λ (step : ℕ). at_line step number ++ block) c.progress-step.ensures.progress.done ∙ is_block)
    (writes_both _ _ _ _ _ (at_line _ number) block c.in_ok-write_at.ensures c.write_round.ensures)

pub returns-clause-cause : goal.returns-clause-cause
returns-clause-cause g c = (writes_both _ _ _ _ _ _ _ c.in_ok-write_at.ensures c.write_round.ensures).cause
