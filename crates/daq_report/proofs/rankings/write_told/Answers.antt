-- The numbers of rows, and then the rows.
use Rattle.std.proofs.Common.{List, ℕ, ◌++◌, ◌∙◌, subst}
use Rattle.outer_world.proofs.Writes.{writes_both, writes_cut}
use Rattle.outer_world.specs.Whole.{Writes}
use Rattle.daq_report.specs.Rankings.{rows_text}
use Rattle.daq_report.proofs.rankings.write_told.Goals as goal

pub returns-in_err-write_whole : goal.returns-in_err-write_whole
returns-in_err-write_whole g c =
    let stage = c.args.engine.now in
    let old = g.K.Sink.state c.args.out.now in
    let new = g.K.Sink.state c.write_whole.new.sink in
    let rest = rows_text c.args.head.now stage c.args.key c.args.list 0 stage.frame.rows in
    subst (λ (top : List ℕ). Writes c.from_residual.result old new (top ++ rest)) (c.bytes.ensures.text ∙ c.written_top.ensures)
    (writes_cut _ _ _ _ _ rest c.from_residual.ensures.0 c.in_err-write_whole.ensures)

pub returns : goal.returns
returns g c =
    let stage = c.args.engine.now in
    let old = g.K.Sink.state c.args.out.now in
    let new = g.K.Sink.state c.write_rows.new.out in
    let rest = rows_text c.args.head.now stage c.args.key c.args.list 0 stage.frame.rows in
    subst (λ (top : List ℕ). Writes c.write_rows.result old new (top ++ rest)) (c.bytes.ensures.text ∙ c.written_top.ensures)
    (writes_both _ _ _ _ _ _ rest c.in_ok-write_whole.ensures c.write_rows.ensures)
