-- The rows of the block are gathered in order; where none is shown there is nothing to gather.
use Rattle.std.proofs.Common.{◌≡◌, ℕ, ◌+◌, ◌++◌, ◌*◌, ◌-◌, min, List, arith, subst, sym, ap, ◌∙◌, refl}
use Rattle.daq_report.specs.Rankings.{row_text, rows_text, standing_at}
use Rattle.daq_report.proofs.Sequences.{text_more}
use Rattle.daq_report.proofs.Shown.{mask_rows, no_texts}
use Rattle.daq_report.proofs.rankings.gather_rows.Goals as goal

pub returns-then-not-may_show : goal.returns-then-not-may_show
returns-then-not-may_show c =
    let stage = c.args.engine.now in
    let none = no_texts c.args.head.now stage c.args.key c.args.list (64 * c.args.block) (min 64 (stage.frame.rows - 64 * c.args.block)) (c.may_show.ensures c.if-not-may_show.true) in
    c.clear.ensures ∙ sym none

pub overflow_sub-rows : goal.overflow_sub-rows
overflow_sub-rows c =
    let rows = c.rows.ensures ∙ mask_rows c.args.engine.now _ _ c.certain_rows.ensures in
    omega (arith, rows, c.requires.block)

pub append_standing-requires-clause-row : goal.append_standing-requires-clause-row
append_standing-requires-clause-row c =
    let rows = c.rows.ensures ∙ mask_rows c.args.engine.now _ _ c.certain_rows.ensures in
    omega (arith, rows, c.requires.block, c.min-count.ensures, c.loop-place-test.true)

pub append_standing-requires-clause-room : goal.append_standing-requires-clause-room
append_standing-requires-clause-room c =
    omega (arith, c.min-count.ensures, c.loop-place-test.true, c.loop-place.invariant.few)

pub loop-place-preserved : goal.loop-place-preserved
loop-place-preserved c =
    let stage = c.args.engine.now in
    let first = 64 * c.args.block in
    let place = c.loop-place.place in
    let text : ℕ → List ℕ = λ r. row_text c.args.head.now stage c.args.key c.args.list r (standing_at stage r) in
    record {
      text = c.append_standing.ensures.text ∙ ap (λ l. l ++ text (first + place)) c.loop-place.invariant.text ∙ sym (text_more text first place (first + place) refl);
      few = omega (arith, c.append_standing.ensures.few, c.loop-place.invariant.few);
    }

pub returns : goal.returns
returns c =
    let stage = c.args.engine.now in
    let first = 64 * c.args.block in
    let rows = c.rows.ensures ∙ mask_rows stage _ _ c.certain_rows.ensures in
    let end : c.loop-place.place ≡ min 64 (stage.frame.rows - first) = omega (arith, rows, c.min-count.ensures) in
    subst (λ (k : ℕ). c.loop-place.lines ≡ rows_text c.args.head.now stage c.args.key c.args.list first k) end c.loop-place.invariant.text
