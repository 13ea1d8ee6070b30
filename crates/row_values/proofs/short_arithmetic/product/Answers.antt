use Rattle.std.proofs.Common.{◌*ℤ◌, ◌∙◌, rules}
use Rattle.interval_calc.proofs.Conversions.{four_same}
use Rattle.row_values.proofs.ShortNumbers.{corners_fit, product_again}
use Rattle.row_values.proofs.short_arithmetic.product.Goals as goal

pub returns : goal.returns
returns c =
    let a = c.args.a in
    let b = c.args.b in
    let fit = corners_fit (a.lo *ℤ b.lo) (a.lo *ℤ b.hi) (a.hi *ℤ b.lo) (a.hi *ℤ b.hi) c.requires in
    c.hull_of.ensures ∙ four_same _ _ _ _ _ _ _ _
    (product_again a.lo b.lo (search rules) (search rules) fit.first)
    (product_again a.lo b.hi (search rules) (search rules) fit.second)
    (product_again a.hi b.lo (search rules) (search rules) fit.third)
    (product_again a.hi b.hi (search rules) (search rules) fit.fourth)
