use Rattle.std.proofs.Common.{◌<◌, length, sym, ap, ◌∙◌, arith}
use Rattle.std.specs.List.{list_all}
use Rattle.std.proofs.lemmas.List.{take_all}
use Rattle.round_engine.proofs.CellKept.{running_item}
use Rattle.round_engine.proofs.CellNarrow.{all_more, fits_in_cell, item_told, narrow_in, not_all}
use Rattle.round_engine.proofs.groups.Groups.items_are_narrow.Goals as goal

pub is_narrow_item-requires : goal.is_narrow_item-requires
is_narrow_item-requires c =
    let r = c.requires.cell in
    let runnings = c.args.self.now.runnings.items in
    let n = c.loop-running.running-index in
    let same = c.deref-running-items.ensures.value in
    let inside : n < length runnings = omega (arith, c.loop-running-test.true, ap length same) in
    let (i, at, stand) = running_item r.stage runnings c.deref-running-items.result.now n c.running-item.result r.answered.items inside same c.running-item.is in
    fits_in_cell r.stage n c.args.width c.args.cell i c.running-item.result c.pairs_are_few.ensures r.open_stage at c.requires.width r.within stand

pub loop-running-preserved : goal.loop-running-preserved
loop-running-preserved c = λ stage are.
    let r = c.requires.cell in
    let n = c.loop-running.running-index in
    let (i, at, told) = item_told stage r.stage c.args.self.now c.deref-running-items.result.now n c.args.width c.args.cell c.running-item.result c.is_narrow_item.result are r.answered r.within
    c.loop-running-test.true c.deref-running-items.ensures.value c.running-item.is c.is_narrow_item.ensures in
    all_more (narrow_in c.args.width c.args.cell stage) stage.query.items n i at (c.loop-running.invariant stage are) (sym told ∙ c.if-not-is_narrow_item.false)

pub returns-then-not-is_narrow_item : goal.returns-then-not-is_narrow_item
returns-then-not-is_narrow_item c = λ stage are.
    let r = c.requires.cell in
    let n = c.loop-running.running-index in
    let (i, at, told) = item_told stage r.stage c.args.self.now c.deref-running-items.result.now n c.args.width c.args.cell c.running-item.result c.is_narrow_item.result are r.answered r.within
    c.loop-running-test.true c.deref-running-items.ensures.value c.running-item.is c.is_narrow_item.ensures in
    sym (not_all (narrow_in c.args.width c.args.cell stage) stage.query.items n i at (sym told ∙ c.if-not-is_narrow_item.true))

pub returns : goal.returns
returns c = λ stage are.
    let count = are.items.count in
    let all = take_all c.loop-running.running-index stage.query.items (omega (arith, count, c.loop-running-test.false, ap length c.deref-running-items.ensures.value)) in
    sym (ap (list_all (narrow_in c.args.width c.args.cell stage)) (sym all) ∙ c.loop-running.invariant stage are)
