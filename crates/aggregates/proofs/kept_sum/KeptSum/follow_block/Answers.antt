use Rattle.std.proofs.Common.{◌≡◌, ◌+◌, ◌*◌, false, take, ap, sym, ◌∙◌, arith}
use Rattle.std.proofs.lemmas.Option.{get_or_from_slice_get}
use Rattle.aggregates.specs.Selections.{has_row}
use Rattle.aggregates.proofs.KeptSums.{rows_stayed, stays_here}
use Rattle.aggregates.proofs.kept_sum.KeptSum.follow_block.Goals as goal

pub returns-else-get-clause-moved : goal.returns-else-get-clause-moved
returns-else-get-clause-moved c =
    let kept = c.args.self.now in
    let mask = c.args.mask.now in
    let next : 512 * (c.args.block + 1) ≡ 512 * c.args.block + 512 = omega arith in
    let off : has_row kept.blocks c.args.block ≡ false = get_or_from_slice_get kept.blocks c.args.block c.get.result false c.get.ensures ∙ c.if-get.false in
    let here = stays_here c.args.block kept.mask mask kept.blocks (c.requires.kept.rows ∙ sym c.requires.rows) c.requires.moves off in
    ap (λ n. take n kept.mask) next ∙ rows_stayed 512 (512 * c.args.block) kept.mask mask c.requires.moved here ∙ ap (λ n. take n mask) (sym next)
