use Rattle.std.proofs.Common.{◌≡◌, to_z, of_z, ◌∙◌, arith}
use Rattle.std.specs.Int.{w128}
use Rattle.std.proofs.lemmas.Int.{ints}
use Rattle.product_sums.proofs.Residues.{minus_is, plus_is}
use Rattle.product_sums.proofs.pair_sums.moved.Goals as goal

pub returns : goal.returns
returns c = λ x y z is came left.
    let whole : to_z w128 (of_z w128 c.minus.result) ≡ c.minus.result = omega (arith, ints) in
    whole
    ∙ minus_is c.minus.result c.plus.result c.args.left _ _ c.minus.ensures (omega (arith, ints)) (omega (arith, ints))
    (plus_is c.plus.result c.args.sum c.args.came _ _ c.plus.ensures (omega (arith, ints)) (omega (arith, ints)) is came) left
