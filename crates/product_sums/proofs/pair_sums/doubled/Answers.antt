use Rattle.std.proofs.Common.{◌≡◌, pos, ◌*ℤ◌, to_z, of_z, ap, ◌∙◌, arith}
use Rattle.std.specs.Int.{w128}
use Rattle.std.proofs.lemmas.Int.{ints}
use Rattle.product_sums.proofs.Residues.{plus_is, times_wrapped, wrapped}
use Rattle.product_sums.proofs.pair_sums.doubled.Goals as goal

pub returns : goal.returns
returns c = λ a b is more.
    let whole : to_z w128 (of_z w128 c.plus.result) ≡ c.plus.result = omega (arith, ints) in
    let same : to_z w128 (of_z w128 c.args.sum) ≡ c.args.sum = omega (arith, ints) in
    let rest : to_z w128 (of_z w128 c.args.more) ≡ c.args.more = omega (arith, ints) in
    let twice = c.times.ensures ∙ ap (λ z. wrapped (z *ℤ pos 2)) (same ∙ is) ∙ times_wrapped a (pos 2) in
    whole ∙ plus_is c.plus.result c.times.result c.args.more _ _ c.plus.ensures (omega (arith, ints)) rest twice more
