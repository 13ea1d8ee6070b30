-- The blocks are written in order.
use Rattle.std.proofs.Common.{◌≡◌, ◌<◌, ◌≤◌, ℕ, ◌+◌, ◌*◌, ◌-◌, min, List, Ok, Err, arith, subst, ◌∙◌}
use Rattle.outer_world.specs.declared.device.Failed.{Failed}
use Rattle.outer_world.specs.Whole.{Writes}
use Rattle.daq_report.specs.Rankings.{row_text, rows_text, standing_at}
use Rattle.daq_report.proofs.Sequences.{texts_after, texts_cut}
use Rattle.daq_report.proofs.Shown.{mask_rows}
use Rattle.daq_report.proofs.rankings.write_rows.Goals as goal

pub gather_rows-requires-clause-block : goal.gather_rows-requires-clause-block
gather_rows-requires-clause-block g c =
    let rows = c.rows.ensures ∙ mask_rows c.args.engine.now _ _ c.certain_rows.ensures in
    omega (arith, rows, c.div_ceil-blocks.ensures, c.loop-block-test.true)

pub returns-in_err-write_whole : goal.returns-in_err-write_whole
returns-in_err-write_whole g c =
    let stage = c.args.engine.now in
    let first = 64 * c.loop-block.block in
    let text : ℕ → List ℕ = λ r. row_text c.args.head.now stage c.args.key c.args.list r (standing_at stage r) in
    let rows = c.rows.ensures ∙ mask_rows stage _ _ c.certain_rows.ensures in
    let below : first < stage.frame.rows = omega (arith, rows, c.div_ceil-blocks.ensures, c.loop-block-test.true) in
    let so_far = min stage.frame.rows first in
    let more = min 64 (stage.frame.rows - first) in
    let mid = g.K.Sink.state c.loop-block.out in
    let new = g.K.Sink.state c.write_whole.new.sink in
    let at : 0 + so_far ≡ first = omega (arith, below) in
    let same : c.bytes.result.now ≡ rows_text c.args.head.now stage c.args.key c.args.list first more = c.bytes.ensures ∙ c.gather_rows.ensures in
    let within : so_far + more ≤ stage.frame.rows = omega (arith, below) in
    texts_cut _ _ _ text 0 so_far more first stage.frame.rows _ _ _ at within c.loop-block.invariant c.from_residual.ensures.0
    (subst (Writes {T = Unit {0}} (Err _) mid new) same c.in_err-write_whole.ensures)

pub loop-block-preserved : goal.loop-block-preserved
loop-block-preserved g c =
    let stage = c.args.engine.now in
    let first = 64 * c.loop-block.block in
    let text : ℕ → List ℕ = λ r. row_text c.args.head.now stage c.args.key c.args.list r (standing_at stage r) in
    let rows = c.rows.ensures ∙ mask_rows stage _ _ c.certain_rows.ensures in
    let below : first < stage.frame.rows = omega (arith, rows, c.div_ceil-blocks.ensures, c.loop-block-test.true) in
    let so_far = min stage.frame.rows first in
    let more = min 64 (stage.frame.rows - first) in
    let mid = g.K.Sink.state c.loop-block.out in
    let new = g.K.Sink.state c.write_whole.new.sink in
    let at : 0 + so_far ≡ first = omega (arith, below) in
    let same : c.bytes.result.now ≡ rows_text c.args.head.now stage c.args.key c.args.list first more = c.bytes.ensures ∙ c.gather_rows.ensures in
    let now : so_far + more ≡ min stage.frame.rows (64 * (c.loop-block.block + 1)) = omega (arith, below) in
    texts_after _ _ _ text 0 so_far more first _ _ _ _ at now c.loop-block.invariant
    (subst (Writes {T = Unit {0}} {E = Failed} (Ok tt) mid new) same c.in_ok-write_whole.ensures)

pub returns : goal.returns
returns g c =
    let stage = c.args.engine.now in
    let rows = c.rows.ensures ∙ mask_rows stage _ _ c.certain_rows.ensures in
    let end : min stage.frame.rows (64 * c.loop-block.block) ≡ stage.frame.rows = omega (arith, rows, c.div_ceil-blocks.ensures) in
    let old = g.K.Sink.state c.args.out.now in
    let now = g.K.Sink.state c.loop-block.out in
    subst (λ (k : ℕ). Writes {T = Unit {0}} {E = Failed} (Ok tt) old now (rows_text c.args.head.now stage c.args.key c.args.list 0 k)) end c.loop-block.invariant
