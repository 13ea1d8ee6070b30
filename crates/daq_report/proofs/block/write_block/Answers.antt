-- The line of the round, and then the lines of the form.
use Rattle.std.proofs.Common.{List, ℕ, ◌++◌, ◌∙◌, subst}
use Rattle.outer_world.proofs.Writes.{writes_both}
use Rattle.outer_world.specs.Whole.{Writes}
use Rattle.daq_report.specs.Blocks.{form_text}
use Rattle.daq_report.proofs.block.write_block.Goals as goal

pub returns : goal.returns
returns g c =
    let old = g.K.Sink.state c.args.out.now in
    let new = g.K.Sink.state c.write_form.new.out in
    let rest = form_text c.args.head.now c.args.plan.now.listing c.args.plan.now.extras c.args.engine.now c.args.engine.now.query.shape in
    subst (λ (line : List ℕ). Writes c.write_form.result old new (line ++ rest)) (c.bytes.ensures.text ∙ c.written_round.ensures)
    (writes_both _ _ _ _ _ _ rest c.in_ok-write_whole.ensures c.write_form.ensures)
