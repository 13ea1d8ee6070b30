use Rattle.std.proofs.Common.{◌+◌, ap, subst, sym, ◌∙◌, arith}
use Rattle.known_column.specs.Columns.{digit_of}
use Rattle.clip_bounds.proofs.Counting.{AreAtDigits, at_more_digits, at_no_digits, counted_block, few_in_block}
use Rattle.clip_bounds.proofs.level.Level.count_in_block.Goals as goal

pub loop-j-init : goal.loop-j-init
loop-j-init c =
    at_no_digits c.args.known.now c.args.mask.now c.args.self.now.prefix c.args.block c.block-rows.result c.planes_read-read.ensures.known c.requires.rows c.requires.prefix (omega arith) c.block-rows.ensures.rows c.block-rows.ensures.padded

pub loop-j-preserved : goal.loop-j-preserved
loop-j-preserved c =
    let column = c.args.known.now in
    let j = c.loop-j.j in
    subst (AreAtDigits column c.args.mask.now c.args.self.now.prefix c.args.block (j + 1)) (sym c.kept-rows.ensures)
    (at_more_digits column c.args.mask.now c.plane.result.now c.args.self.now.prefix c.args.block j c.loop-j.rows c.block.result c.digit.result c.requires.rows (omega (arith, c.loop-j-test.true, c.planes_read-read.ensures.read))
    c.loop-j.invariant (omega arith) c.plane.ensures (c.digit.ensures ∙ ap (λ read. digit_of read j c.args.self.now.prefix) c.planes_read-read.ensures.read) c.block.ensures.rows c.block.ensures.padded)

pub returns-clause-count : goal.returns-clause-count
returns-clause-count c =
    c.count_rows.ensures ∙ counted_block c.args.known.now c.args.mask.now c.args.self.now.prefix c.args.block c.loop-j.j c.loop-j.rows (omega (arith, c.loop-j-test.false, c.planes_read-read.ensures.read)) c.loop-j.invariant

pub returns-clause-few : goal.returns-clause-few
returns-clause-few c = omega (arith, c.count_rows.ensures, few_in_block c.args.mask.now c.args.block c.loop-j.rows c.loop-j.invariant.padded c.loop-j.invariant.eight)
