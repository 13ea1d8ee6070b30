-- Bits of words.
use Rattle.std.proofs.Common.{◌≡◌, ℕ, ◌+◌, ◌<◌, ◌==◌, min, max, Bool, false, ◌&&◌, ◌||◌, inl, inr, ap, sym, ◌∙◌, arith}
use Rattle.std.proofs.lemmas.Nat.Bits.{bit_at_and, bit_at_or, bit_at-zero, bit_at-lt}
use Rattle.std.specs.Int.{bit_at}
use Rattle.std.specs.Int.Bits.{bit_and, bit_or}
use Rattle.plane_kernels.specs.Rows.{digit_at}
use Rattle.query_model.specs.declared.bounds.Truths.{Truths}
use Rattle.kleene_filter.specs.declared.words.TruthWords.{TruthWords}
use Rattle.kleene_filter.specs.Words.{AddsBit, AddsTruths, AreTruthsAt}
use Rattle.std.proofs.lemmas.Bool.{cases_lt}
use Rattle.std.proofs.lemmas.Bool.Decides.{nat_tests}

least : (a b : ℕ) → a < 2 → b < 2 → (min a b == 1) ≡ ((a == 1) && (b == 1))
least a b h k = grind (arith, nat_tests)

greatest : (a b : ℕ) → a < 2 → b < 2 → (max a b == 1) ≡ ((a == 1) || (b == 1))
greatest a b h k = grind (arith, nat_tests)

pub digit-and : (r a b : ℕ) → digit_at r (bit_and a b) ≡ (digit_at r a && digit_at r b)
digit-and r a b = ap (λ n. n == 1) (bit_at_and a b r) ∙ least (bit_at a r) (bit_at b r) (bit_at-lt a r) (bit_at-lt b r)

pub digit-or : (r a b : ℕ) → digit_at r (bit_or a b) ≡ (digit_at r a || digit_at r b)
digit-or r a b = ap (λ n. n == 1) (bit_at_or a b r) ∙ greatest (bit_at a r) (bit_at b r) (bit_at-lt a r) (bit_at-lt b r)

pub digit-zero : (r : ℕ) → digit_at r 0 ≡ false
digit-zero r = ap (λ n. n == 1) (bit_at-zero r)

pub both_bits : (r a b : ℕ) (x y : Bool) → digit_at r a ≡ x → digit_at r b ≡ y → digit_at r (bit_and a b) ≡ (x && y)
both_bits r a b x y h k = digit-and r a b ∙ ap (λ v. v && digit_at r b) h ∙ ap (λ v. x && v) k

-- ---- one row more

pub add_truths : (row : ℕ) (at : ℕ → Truths) (old new : TruthWords) (t : Truths) → AreTruthsAt row at old → AddsTruths row old t new → t ≡ at row → AreTruthsAt (row + 1) at new
add_truths row at old new t told adds e = record {
  hold = λ r below. one_more row (λ k. (at k).may_hold) old.may_hold new.may_hold t.may_hold told.hold adds.hold (ap (λ (u : Truths). u.may_hold) e) r below;
  fail = λ r below. one_more row (λ k. (at k).may_fail) old.may_fail new.may_fail t.may_fail told.fail adds.fail (ap (λ (u : Truths). u.may_fail) e) r below;
  null = λ r below. one_more row (λ k. (at k).may_be_null) old.may_be_null new.may_be_null t.may_be_null told.null adds.null (ap (λ (u : Truths). u.may_be_null) e) r below;
}
  where
    one_more : (row : ℕ) (at : ℕ → Bool) (old new : ℕ) (bit : Bool) → ((r : ℕ) → r < row → digit_at r old ≡ at r) → AddsBit row old bit new → bit ≡ at row → (r : ℕ) → r < row + 1 → digit_at r new ≡ at r
    one_more row at old new bit told adds e r below =
        elim (cases_lt r row) [
          | inl low ↦ adds.before r low ∙ told r low
          | inr high ↦ (let same : r ≡ row = omega arith in ap (λ k. digit_at k new) same ∙ adds.here ∙ e ∙ ap at (sym same))
        ]
