use Rattle.std.proofs.Common.{◌≡◌, ◌+◌, ◌*◌, ◌<◌, min, [], length, sym, subst, ◌∙◌, arith}
use Rattle.std.proofs.lemmas.Option.{same_Some, slice_get_within}
use Rattle.digit_sums.specs.Moves.{AreMoved, no_moves}
use Rattle.digit_sums.proofs.MovedRows.{none_moved}
use Rattle.query_model.specs.Answers.{groups_of}
use Rattle.round_engine.specs.Cells.{cells_in}
use Rattle.round_engine.specs.Engines.{stage_of}
use Rattle.round_engine.specs.MovedCells.{AreMovedBelow}
use Rattle.round_engine.proofs.moved_cells.sum_rows.Goals as goal

pub begin-requires : goal.begin-requires
begin-requires c =
    let counted = (c.cells_tell_keys.ensures c.args.columns.now.frame c.args.columns.now.known (groups_of c.args.query.now.shape) c.args.rows.cells.now c.requires.parted.cells_are).count in
    omega (arith, counted, c.count.ensures, c.requires.room)

pub loop-number-init : goal.loop-number-init
loop-number-init c =
    let stage = stage_of c.args.query.now c.args.columns.now in
    let counted = (c.cells_tell_keys.ensures c.args.columns.now.frame c.args.columns.now.known (groups_of c.args.query.now.shape) c.args.rows.cells.now c.requires.parted.cells_are).count in
    let many : length c.begin.new.self.cells ≡ cells_in stage = omega (arith, counted, c.count.ensures, c.begin.ensures.count) in
    let first : 0 ≡ min (64 * 0) c.args.columns.now.frame.rows = omega arith in
    record {
      room = c.begin.ensures.room;
      cells = many;
      counted = λ before is were. subst (λ n. AreMovedBelow before stage c.args.item.now n c.begin.new.self) first (record {
        cells = many;
        each = λ k moves at.
            (let within = slice_get_within c.begin.new.self.cells k moves at in
            let none : no_moves ≡ moves = same_Some no_moves moves (sym (c.begin.ensures.blank k (omega (arith, within, c.begin.ensures.count))) ∙ at) in
            subst (AreMoved [] []) none none_moved);
      });
    }

pub sum_block-requires-clause-number : goal.sum_block-requires-clause-number
sum_block-requires-clause-number c = omega (arith, c.loop-number-test.true, c.rows.ensures, c.div_ceil-number-end.ensures)

pub loop-number-preserved : goal.loop-number-preserved
loop-number-preserved c =
    let stage = stage_of c.args.query.now c.args.columns.now in
    let rows = c.args.columns.now.frame.rows in
    let number = c.loop-number.number in
    let inv = c.loop-number.invariant in
    let within : 64 * number < rows = omega (arith, c.loop-number-test.true, c.rows.ensures, c.div_ceil-number-end.ensures) in
    let from : min (64 * number) rows ≡ 64 * number = omega (arith, within) in
    let end : min (64 * number + 64) rows ≡ min (64 * (number + 1)) rows = omega arith in
    record {
      room = c.sum_block.ensures.room ∙ inv.room;
      cells = c.sum_block.ensures.cells ∙ inv.cells;
      counted = λ before is were.
          subst (λ n. AreMovedBelow before stage c.args.item.now n c.sum_block.new.moves) end
          (c.sum_block.ensures.counted before is were (subst (λ n. AreMovedBelow before stage c.args.item.now n c.loop-number.moves) from (inv.counted before is were)));
    }

pub returns-clause-counted : goal.returns-clause-counted
returns-clause-counted c = λ before is were.
    let end : min (64 * c.loop-number.number) c.args.columns.now.frame.rows ≡ c.args.columns.now.frame.rows = omega (arith, c.loop-number-test.false, c.rows.ensures, c.div_ceil-number-end.ensures) in
    subst (λ n. AreMovedBelow before (stage_of c.args.query.now c.args.columns.now) c.args.item.now n c.loop-number.moves) end (c.loop-number.invariant.counted before is were)
