use Rattle.std.proofs.Common.{◌≡◌, false, get_or, ◌+◌, ◌*◌, ◌<◌, min, [], length, sym, subst, ◌∙◌, arith}
use Rattle.std.proofs.lemmas.Option.{same_Some, slice_get_within}
use Rattle.digit_sums.specs.Ones.{AreRead}
use Rattle.digit_sums.proofs.ReadCells.{none_read}
use Rattle.query_model.specs.Answers.{groups_of}
use Rattle.round_engine.specs.Cells.{cells_in}
use Rattle.round_engine.specs.Engines.{stage_of}
use Rattle.round_engine.specs.ReadCells.{AreReadBelow}
use Rattle.round_engine.proofs.read_cells.count_rows.Goals as goal

pub begin-requires : goal.begin-requires
begin-requires c =
    let counted = (c.cells_tell_keys.ensures c.args.columns.now.frame c.args.columns.now.known (groups_of c.args.query.now.shape) c.args.rows.cells.now c.requires.parted.cells_are).count in
    omega (arith, counted, c.count.ensures, c.requires.room)

pub loop-number-init : goal.loop-number-init
loop-number-init c =
    let stage = stage_of c.args.query.now c.args.columns.now in
    let counted = (c.cells_tell_keys.ensures c.args.columns.now.frame c.args.columns.now.known (groups_of c.args.query.now.shape) c.args.rows.cells.now c.requires.parted.cells_are).count in
    let many : length c.begin.new.self.cells ≡ cells_in stage = omega (arith, counted, c.count.ensures, c.begin.ensures.count) in
    let many_highs : length c.begin.new.self.highs ≡ cells_in stage = omega (arith, counted, c.count.ensures, c.begin.ensures.highs) in
    let first : 0 ≡ min (64 * 0) c.args.columns.now.frame.rows = omega arith in
    record {
      room = c.begin.ensures.room;
      cells = many;
      highs = many_highs;
      counted = λ before is. subst (λ n. AreReadBelow before stage c.args.item.now c.args.rows.ends c.args.rows.single.now n c.begin.new.self) first (record {
        cells = many;
        highs = many_highs;
        each = λ k bits high at at_high.
            (let within = slice_get_within c.begin.new.self.cells k bits at in
            let none : record { ones = 0; at_top = 0 } ≡ bits = same_Some _ bits (sym (c.begin.ensures.blank k (omega (arith, within, c.begin.ensures.count))) ∙ at) in
            let alone = get_or c.args.rows.single.now k false in
            let no_high : 0 ≡ high = same_Some 0 high (sym (c.begin.ensures.none k (omega (arith, within, c.begin.ensures.count))) ∙ at_high) in
            subst (λ h. AreRead c.args.rows.ends alone [] [] bits h) no_high (subst (λ b. AreRead c.args.rows.ends alone [] [] b 0) none (none_read c.args.rows.ends alone)));
      });
    }

pub count_block-requires-clause-number : goal.count_block-requires-clause-number
count_block-requires-clause-number c = omega (arith, c.loop-number-test.true, c.rows.ensures, c.div_ceil-number-end.ensures)

pub loop-number-preserved : goal.loop-number-preserved
loop-number-preserved c =
    let stage = stage_of c.args.query.now c.args.columns.now in
    let rows = c.args.columns.now.frame.rows in
    let number = c.loop-number.number in
    let inv = c.loop-number.invariant in
    let within : 64 * number < rows = omega (arith, c.loop-number-test.true, c.rows.ensures, c.div_ceil-number-end.ensures) in
    let from : min (64 * number) rows ≡ 64 * number = omega (arith, within) in
    let end : min (64 * number + 64) rows ≡ min (64 * (number + 1)) rows = omega arith in
    record {
      room = c.count_block.ensures.room ∙ inv.room;
      cells = c.count_block.ensures.cells ∙ inv.cells;
      highs = c.count_block.ensures.highs ∙ inv.highs;
      counted = λ before is.
          subst (λ n. AreReadBelow before stage c.args.item.now c.args.rows.ends c.args.rows.single.now n c.count_block.new.ones) end
          (c.count_block.ensures.counted before is (subst (λ n. AreReadBelow before stage c.args.item.now c.args.rows.ends c.args.rows.single.now n c.loop-number.ones) from (inv.counted before is)));
    }

pub returns-clause-counted : goal.returns-clause-counted
returns-clause-counted c = λ before is.
    let end : min (64 * c.loop-number.number) c.args.columns.now.frame.rows ≡ c.args.columns.now.frame.rows = omega (arith, c.loop-number-test.false, c.rows.ensures, c.div_ceil-number-end.ensures) in
    subst (λ n. AreReadBelow before (stage_of c.args.query.now c.args.columns.now) c.args.item.now c.args.rows.ends c.args.rows.single.now n c.loop-number.ones) end (c.loop-number.invariant.counted before is)
