-- Decimals, and powers of ten.
use Rattle.std.proofs.Common.{◌≡◌, ℕ, suc, ◌+◌, ◌*◌, ◌^◌, ◌≤◌, min, max, false, None, List, arith}
use Rattle.std.proofs.Math.Nat.{pow-le-pow_right, mul-le-mul}
use Rattle.std.proofs.lemmas.Bool.Decides.{nat_tests}
use Rattle.std.proofs.lemmas.Int.{ints}
use Rattle.std.specs.Prelude.{ℤ, pos, negsuc, ◌*ℤ◌, FitsSigned, nat_lt}
use Rattle.std.specs.Int.{w64, w128}
use Rattle.daq_table.specs.declared.head.ColumnHead.{ColumnHead}
use Rattle.sql_text.specs.Tree.{Expr, Column, Number, Add, Sub, Mul}
use Rattle.sql_typing.specs.Faults.{expr_fault}
use Rattle.sql_typing.specs.Typing.{scale_of}
use Rattle.sql_typing.proofs.Firsts.{none_first, none_later, not_if}

pub sum_of_mins : (a b m : ℕ) → min (min a m + min b m) m ≡ min (a + b) m
sum_of_mins a b m = omega arith

pub max_of_mins : (a b m : ℕ) → max (min a m) (min b m) ≡ min (max a b) m
max_of_mins a b m = omega arith

pub power_fits : (d : ℕ) → d ≤ 18 → 10 ^ d ≤ 1000000000000000000
power_fits d h = pow-le-pow_right {n = 10} (omega arith) {i = d} {j = 18} h

small : (s : ℕ) → nat_lt 18 s ≡ false → s ≤ 18
small s h = grind (arith, nat_tests)

-- an expression without a fault has few decimals
pub fine_scale : (table : List ColumnHead) (e : Expr) → expr_fault table e ≡ None → scale_of table e ≤ 18
fine_scale table (Column n) h = small _ (not_if _ _ (none_later _ _ h))
fine_scale table (Number v) h = small _ (not_if _ _ h)
fine_scale table (Add a b) h = omega (arith, fine_scale table a (none_first _ _ h), fine_scale table b (none_later _ _ h))
fine_scale table (Sub a b) h = omega (arith, fine_scale table a (none_first _ _ h), fine_scale table b (none_later _ _ h))
fine_scale table (Mul at a b) h = small _ (not_if _ _ (none_first _ _ (none_later _ _ h)))

pub raised_fits : (n : ℤ) (d : ℕ) → FitsSigned w64 n → d ≤ 18 → FitsSigned w128 (n *ℤ pos (10 ^ d))
raised_fits (pos a) d fits h =
    let f = fits.sfits in
    let few : a ≤ 9223372036854775808 = omega arith in
    let m : a * 10 ^ d ≤ 9223372036854775808 * 1000000000000000000 = mul-le-mul few (power_fits d h) in
    record { sfits = omega arith }
raised_fits (negsuc a) d fits h =
    let f = fits.sfits in
    let few : suc a ≤ 9223372036854775808 = omega arith in
    let m : suc a * 10 ^ d ≤ 9223372036854775808 * 1000000000000000000 = mul-le-mul few (power_fits d h) in
    record { sfits = omega (arith, ints) }
