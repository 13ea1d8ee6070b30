-- Decimals are in one order, however many of their digits stand behind the point.
use Rattle.std.proofs.Common.{◌≡◌, ℕ, ◌+◌, ◌-◌, ◌^◌, ◌≤◌, ℤ, pos, ◌*ℤ◌, sym, ap, subst, ◌∙◌, arith}
use Rattle.std.specs.Cmp.{int_cmp_total}
use Rattle.std.specs.declared.cmp.Ordering.TheVariants.{Less, Equal}
use Rattle.std.specs.Ordering.{int_cmp, ordering_reverse}
use Rattle.sql_meaning.specs.Values.{Decimal, compare_decimals}
use Rattle.sql_meaning.specs.Laws.{DecimalsAreOrdered}
use Rattle.sql_meaning.proofs.Decimals.{IsDecimal, itself, ordered, raised}

-- the digits of a decimal with so many of them behind the point
digits_at : ℕ → Decimal → ℤ
digits_at n a = a.digits *ℤ pos (10 ^ (n - a.behind))

at : (n : ℕ) (a : Decimal) → a.behind ≤ n → IsDecimal n (digits_at n a) a
unfolding digits_at
at n a h =
    let e : a.behind + (n - a.behind) ≡ n = omega arith in
    subst (λ s. IsDecimal s (a.digits *ℤ pos (10 ^ (n - a.behind))) a) e (raised a.behind (n - a.behind) a.digits a (itself a.behind a.digits))

compare_is : (n : ℕ) (a b : Decimal) → a.behind ≤ n → b.behind ≤ n → compare_decimals a b ≡ int_cmp (digits_at n a) (digits_at n b)
compare_is n a b h k = ordered n (digits_at n a) (digits_at n b) a b (at n a h) (at n b k)

first : (a b c : ℕ) → a ≤ a + b + c
first a b c = omega arith

second : (a b c : ℕ) → b ≤ a + b + c
second a b c = omega arith

third : (a b c : ℕ) → c ≤ a + b + c
third a b c = omega arith

module _ (a b c : Decimal) where
  abbrev n : ℕ
  n = a.behind + b.behind + c.behind

  in_a : a.behind ≤ n
  in_a = first a.behind b.behind c.behind

  in_b : b.behind ≤ n
  in_b = second a.behind b.behind c.behind

  in_c : c.behind ≤ n
  in_c = third a.behind b.behind c.behind

  turned : compare_decimals a b ≡ ordering_reverse (compare_decimals b a)
  turned = compare_is n a b in_a in_b ∙ int_cmp_total.antisymm (digits_at n a) (digits_at n b) ∙ ap ordering_reverse (sym (compare_is n b a in_b in_a))

  chained : compare_decimals a b ≡ Less → compare_decimals b c ≡ Less → compare_decimals a c ≡ Less
  chained h k =
      compare_is n a c in_a in_c ∙ int_cmp_total.trans (digits_at n a) (digits_at n b) (digits_at n c) (sym (compare_is n a b in_a in_b) ∙ h) (sym (compare_is n b c in_b in_c) ∙ k)

  alike : compare_decimals a b ≡ Equal → compare_decimals a c ≡ compare_decimals b c
  alike h =
      compare_is n a c in_a in_c ∙ int_cmp_total.congr (digits_at n a) (digits_at n b) (digits_at n c) (sym (compare_is n a b in_a in_b) ∙ h) ∙ sym (compare_is n b c in_b in_c)

pub decimals_ordered : DecimalsAreOrdered
decimals_ordered = record { antisymm = λ a b. turned a b a; trans = chained; congr = alike }
