-- A small number raised by few places fits 128 bits.
use Rattle.std.proofs.Common.{◌≡◌, ap₂, rules, sym, subst, to_z, of_z}
use Rattle.std.specs.Int.{w128}
use Rattle.std.specs.Prelude.{ℤ, ◌*ℤ◌, FitsSigned}
use Rattle.sql_typing.proofs.Scales.{raised_fits}
use Rattle.sql_typing.proofs.scale.raised_number.Goals as goal

pub product-requires : goal.product-requires
product-requires c =
    let number : to_z w128 (of_z w128 c.args.number) ≡ c.args.number = search rules in
    let power : to_z w128 (of_z w128 c.power_of_ten.result) ≡ c.power_of_ten.result = search rules in
    let fits : FitsSigned w128 (c.args.number *ℤ c.power_of_ten.result) = rw c.power_of_ten.ensures (raised_fits c.args.number c.args.by c.requires.small c.requires.few) in
    subst (λ (z : ℤ). FitsSigned w128 z) (sym (ap₂ (λ (x y : ℤ). x *ℤ y) number power)) fits
