use Rattle.std.proofs.Common.{◌≡◌, ℕ, ◌+◌, ◌*◌, ◌/◌, ◌%◌, arith, ap, ◌∙◌}
use Rattle.shard_bounds.proofs.fractions.product.Goals as goal

spread : (x r f : ℕ) → (x * 18446744073709551616 + r) * f ≡ (x * f) * 18446744073709551616 + r * f
spread x r f = omega arith

product_is : (n f g : ℕ) → g ≡ f →
    ((n / 18446744073709551616) * g + (n % 18446744073709551616) * g / 18446744073709551616) * 18446744073709551616 + (n % 18446744073709551616) * g % 18446744073709551616 ≡ n * f
product_is n f g e =
    let x = n / 18446744073709551616 in
    let r = n % 18446744073709551616 in
    let whole : n ≡ x * 18446744073709551616 + r = omega arith in
    let same : n * g ≡ n * f = ap (λ k. n * k) e in
    let split : n * g ≡ (x * g) * 18446744073709551616 + r * g = ap (λ k. k * g) whole ∙ spread x r g in
    omega arith

pub returns-clause-product : goal.returns-clause-product
returns-clause-product c = product_is c.args.number c.args.factor c.from-factor.result c.from-factor.ensures
