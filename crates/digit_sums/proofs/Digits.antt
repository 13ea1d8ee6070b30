-- One row more in what is kept of a cell by digits.
use Rattle.std.proofs.Common.{◌≡◌, ℕ, ◌+◌, ◌-◌, ◌*◌, ◌%◌, ◌^◌, ◌<◌, ◌≤◌, min, max, ◌==◌, ℤ, pos, ◌+ℤ◌, ◌*ℤ◌, ◌≤ℤ◌, Bool, true, false, cond, List, [], ◌∷◌, ◌++◌, map, Some, None, inl, inr, refl, ap, sym, ◌∙◌, arith, if◌then◌else◌}
use Rattle.std.specs.Int.{int_max, int_min}
use Rattle.std.proofs.Math.Nat.{div-add-mod, le-div_iff_mul-le, mul-le-mul_right}
use Rattle.std.proofs.lemmas.Bool.{cases_Bool, cases_lt, eqb-false, eqb-true}
use Rattle.std.proofs.lemmas.Int.{ints, clamps}
use Rattle.std.proofs.Math.IntN.{suc_ℤ, *ℤ_comm, suc_ℤ-*ℤ}
use Rattle.std.proofs.lemmas.Nat.{pow_pos}
use Rattle.query_model.specs.declared.query.ItemKind.TheVariants.{Max, Min, Sum}
use Rattle.query_model.specs.Answers.{answer, total}
use Rattle.query_model.specs.Bounds.{Pair, certain_count, high_share, highs, low_share, lows}
use Rattle.aggregates.specs.declared.tally.Tally.{Tally}
use Rattle.aggregates.specs.SumsOfCells.{end_if}
use Rattle.aggregates.specs.Tallies.{tally_of}
use Rattle.aggregates.proofs.Appending.{count-more, length-more, map-more, next_greatest, next_least, same_tally, total-more}
use Rattle.aggregates.proofs.SumsOfCells.{end_more}
use Rattle.digit_sums.specs.declared.ends.DigitEnds.{DigitEnds}
use Rattle.digit_sums.specs.Digits.{AreDigits, IsKept, RowDigits, certain_rows, high_by, low_by, lows_of, pair_by, spans_of, tally_by, top_digits}

-- ---- ends

module _ (ends : DigitEnds) where
  abbrev block : ℕ
  block = 2 ^ ends.unread

  -- the less the digits, the lower both ends
  pub low_least : (a b : ℕ) → low_by ends (min a b) ≡ int_min (low_by ends a) (low_by ends b)
  low_least a b =
      elim (cases_lt a b) [
        | inl less ↦
            (let more : a * block ≤ b * block = mul-le-mul_right block (omega (arith, less)) in
            let first : min a b ≡ a = omega (arith, less) in
            ap (low_by ends) first ∙ omega (arith, ints, clamps, more))
        | inr less ↦
            (let more : b * block ≤ a * block = mul-le-mul_right block less in
            let second : min a b ≡ b = omega (arith, less) in
            ap (low_by ends) second ∙ omega (arith, ints, clamps, more))
      ]

  pub high_greatest : (a b : ℕ) → high_by ends (max a b) ≡ int_max (high_by ends a) (high_by ends b)
  high_greatest a b =
      elim (cases_lt a b) [
        | inl less ↦
            (let more : a * block ≤ b * block = mul-le-mul_right block (omega (arith, less)) in
            let second : max a b ≡ b = omega (arith, less) in
            ap (high_by ends) second ∙ omega (arith, ints, clamps, more))
        | inr less ↦
            (let more : b * block ≤ a * block = mul-le-mul_right block less in
            let first : max a b ≡ a = omega (arith, less) in
            ap (high_by ends) first ∙ omega (arith, ints, clamps, more))
      ]

  -- a high end lies above its low end by all digits that are unread, or by those of the greatest number
  pub high_is : (n : ℕ) → AreDigits ends n → high_by ends n ≡ low_by ends n +ℤ pos (cond (n == top_digits ends) (ends.spread % block) (block - 1))
  high_is n within =
      let top = top_digits ends in
      let rest = ends.spread % block in
      let parts : block * top + rest ≡ ends.spread = div-add-mod ends.spread block in
      let some : 1 ≤ block = pow_pos ends.unread in
      let turned : block * top ≡ top * block = omega arith in
      elim (cases_Bool (n == top)) [
        | inl t ↦
            (let is : n ≡ top = eqb-true n top t in
            let same : n * block ≡ top * block = ap (λ k. k * block) is in
            let below : rest < block = omega (arith, some) in
            let high : min (n * block + (block - 1)) ends.spread ≡ n * block + rest = omega (arith, parts, turned, same, below) in
            ap (λ k. ends.base +ℤ pos k) high ∙ rw t (omega (arith, ints)))
        | inr f ↦
            (let most : n ≤ top = (le-div_iff_mul-le some).1 within in
            let less : n + 1 ≤ top = omega (arith, most, eqb-false n top f) in
            let more : (n + 1) * block ≤ top * block = mul-le-mul_right block less in
            let wide : (n + 1) * block ≡ n * block + block = omega arith in
            let high : min (n * block + (block - 1)) ends.spread ≡ n * block + (block - 1) = omega (arith, parts, turned, more, wide, some) in
            ap (λ k. ends.base +ℤ pos k) high ∙ rw f (omega (arith, ints)))
      ]

-- ---- sums

-- a number once more
once_more : (z : ℤ) (n : ℕ) → (z *ℤ pos (n + 1)) ≡ (z *ℤ pos n) +ℤ z
once_more z n =
    let more : pos (n + 1) ≡ suc_ℤ (pos n) = ap pos (omega arith) in
    ap (λ k. z *ℤ k) more ∙ *ℤ_comm z (suc_ℤ (pos n)) ∙ suc_ℤ-*ℤ (pos n) z ∙ ap (λ k. k +ℤ z) (*ℤ_comm (pos n) z)

-- no number of the column lies below 0
low_above : (ends : DigitEnds) (n : ℕ) → pos 0 ≤ℤ low_by ends n
low_above ends n = (let a = ends.above in omega (arith, ints, a))

high_above : (ends : DigitEnds) (n : ℕ) → pos 0 ≤ℤ high_by ends n
high_above ends n = (let a = ends.above in omega (arith, ints, a))

-- a row that need not count does not lower the least sum
low_share_of : (ends : DigitEnds) (certain : Bool) (n : ℕ) → low_share (pair_by ends certain n) ≡ cond certain (low_by ends n) (pos 0)
low_share_of ends true n = refl
low_share_of ends false n = (let a = low_above ends n in omega (arith, ints, clamps, a))

high_share_of : (ends : DigitEnds) (certain : Bool) (n : ℕ) → high_share (pair_by ends certain n) ≡ high_by ends n
high_share_of ends true n = refl
high_share_of ends false n = (let a = high_above ends n in omega (arith, ints, clamps, a))

both_if : (b : Bool) (x y : ℤ) → cond b (x +ℤ y) (pos 0) ≡ cond b x (pos 0) +ℤ cond b y (pos 0)
both_if true x y = refl
both_if false x y = omega (arith, ints)

one_if : (b : Bool) (n : ℕ) → cond b (n + 1) 0 ≡ cond b n 0 + cond b 1 0
one_if true n = refl
one_if false n = refl

-- ---- ends of more rows

next_low : (none : Bool) (xs : List ℤ) (earlier number : ℤ) → (if none then None else Some earlier) ≡ answer Min xs → (none ≡ true → int_min earlier number ≡ number) → Some (int_min earlier number) ≡ answer Min (xs ++ number ∷ [])
next_low true [] earlier number is first = ap Some (first refl)
next_low true (x ∷ xs) earlier number is first = cc
next_low false xs earlier number is first = next_least xs earlier number (int_min earlier number) is refl

next_high : (none : Bool) (xs : List ℤ) (earlier number : ℤ) → (if none then None else Some earlier) ≡ answer Max xs → (none ≡ true → int_max earlier number ≡ number) → Some (int_max earlier number) ≡ answer Max (xs ++ number ∷ [])
next_high true [] earlier number is first = ap Some (first refl)
next_high true (x ∷ xs) earlier number is first = cc
next_high false xs earlier number is first = next_greatest xs earlier number (int_max earlier number) is refl

-- ---- one row more

-- a cell with a row more
pub record IsWith (old new : RowDigits) (top n : ℕ) : Type 0 where
  pub certain : new.certain ≡ old.certain
  pub rows : new.rows ≡ old.rows + 1
  pub at_top : new.at_top ≡ old.at_top + cond (n == top) 1 0
  pub least : new.least ≡ min old.least n
  pub greatest : new.greatest ≡ max old.greatest n
  pub sum : new.sum ≡ old.sum + n

module _ (ends : DigitEnds) (old new : RowDigits) (n : ℕ) (few : n ≤ 4294967295) (kept : IsKept old) (is : IsWith old new (top_digits ends) n) (digits : AreDigits ends n) where
  abbrev width : ℕ
  width = 2 ^ ends.unread

  lows_more : lows_of ends new ≡ lows_of ends old +ℤ low_by ends n
  lows_more =
      let digits_more : new.sum * width ≡ old.sum * width + n * width = ap (λ k. k * width) is.sum ∙ omega arith in
      ap (λ k. (ends.base *ℤ pos k) +ℤ pos (new.sum * width)) is.rows ∙ ap (λ z. z +ℤ pos (new.sum * width)) (once_more ends.base old.rows) ∙ omega (arith, ints, digits_more)

  spans_more : spans_of ends new ≡ spans_of ends old + cond (n == top_digits ends) (ends.spread % width) (width - 1)
  spans_more =
      let some = kept.some in
      elim (cases_Bool (n == top_digits ends)) [
        | inl t ↦
            (let top : new.at_top ≡ old.at_top + 1 = is.at_top ∙ ap (λ b. old.at_top + cond b 1 0) t in
            let others : new.rows - new.at_top ≡ old.rows - old.at_top = omega (arith, top, is.rows, some) in
            let at : new.at_top * (ends.spread % width) ≡ old.at_top * (ends.spread % width) + ends.spread % width = ap (λ k. k * (ends.spread % width)) top ∙ omega arith in
            let rest : (new.rows - new.at_top) * (width - 1) ≡ (old.rows - old.at_top) * (width - 1) = ap (λ k. k * (width - 1)) others in
            rw t (omega (arith, at, rest)))
        | inr f ↦
            (let top : new.at_top ≡ old.at_top = is.at_top ∙ ap (λ b. old.at_top + cond b 1 0) f ∙ omega arith in
            let others : new.rows - new.at_top ≡ (old.rows - old.at_top) + 1 = omega (arith, top, is.rows, some) in
            let at : new.at_top * (ends.spread % width) ≡ old.at_top * (ends.spread % width) = ap (λ k. k * (ends.spread % width)) top in
            let rest : (new.rows - new.at_top) * (width - 1) ≡ (old.rows - old.at_top) * (width - 1) + (width - 1) = ap (λ k. k * (width - 1)) others ∙ omega arith in
            rw f (omega (arith, at, rest)))
      ]

  highs_more : (lows_of ends new +ℤ pos (spans_of ends new)) ≡ (lows_of ends old +ℤ pos (spans_of ends old)) +ℤ high_by ends n
  highs_more =
      let high = high_is ends n digits in
      ap (λ z. z +ℤ pos (spans_of ends new)) lows_more ∙ ap (λ k. (lows_of ends old +ℤ low_by ends n) +ℤ pos k) spans_more
      ∙ shared (lows_of ends old) (low_by ends n) (spans_of ends old) (cond (n == top_digits ends) (ends.spread % width) (width - 1))
      ∙ ap (λ z. (lows_of ends old +ℤ pos (spans_of ends old)) +ℤ z) (sym high)
    where
      shared : (x y : ℤ) (a b : ℕ) → ((x +ℤ y) +ℤ pos (a + b)) ≡ (x +ℤ pos a) +ℤ (y +ℤ pos b)
      shared x y a b = omega (arith, ints)

  -- while there is no row, the ends of this one are outermost
  first_low : (old.rows == 0) ≡ true → int_min (low_by ends old.least) (low_by ends n) ≡ low_by ends n
  first_low none = (let least = kept.least (eqb-true old.rows 0 none) in let this : min old.least n ≡ n = omega (arith, least, few) in sym (low_least ends old.least n) ∙ ap (low_by ends) this)

  first_high : (old.rows == 0) ≡ true → int_max (high_by ends old.greatest) (high_by ends n) ≡ high_by ends n
  first_high none = (let greatest = kept.greatest (eqb-true old.rows 0 none) in let this : max old.greatest n ≡ n = omega (arith, greatest) in sym (high_greatest ends old.greatest n) ∙ ap (high_by ends) this)

  module _ (ps : List Pair) (e : tally_by ends old ≡ tally_of Sum ps) where
    abbrev p : Pair
    p = pair_by ends old.certain n

    abbrev one : ℕ
    one = cond old.certain 1 0

    before : certain_rows old ≡ certain_count ps
    before = ap (λ (t : Tally). t.certain) e

    counted_rows : certain_rows new ≡ certain_rows old + one
    counted_rows = ap (λ b. cond b new.rows 0) is.certain ∙ ap (λ k. cond old.certain k 0) is.rows ∙ one_if old.certain old.rows

    counted : certain_rows old + one ≡ certain_count (ps ++ p ∷ [])
    counted = ap (λ k. k + one) before ∙ sym (count-more ps p one refl)

    least_more : end_if (certain_rows new) new.rows (low_by ends new.least) ≡ (if certain_count (ps ++ p ∷ []) == 0 then answer Min (lows (ps ++ p ∷ [])) else None)
    least_more =
        ap (λ k. end_if k new.rows (low_by ends new.least)) counted_rows ∙ ap (λ k. end_if (certain_rows old + one) k (low_by ends new.least)) is.rows
        ∙ end_more (certain_rows old) old.rows one (low_by ends old.least) (low_by ends new.least) (answer Min (lows ps)) (answer Min (lows (ps ++ p ∷ [])))
        (ap (λ (t : Tally). t.least_low) e ∙ ap (λ k. if k == 0 then answer Min (lows ps) else None) (sym before))
        (λ none end. ap (λ a. Some (low_by ends a)) is.least ∙ ap Some (low_least ends old.least n) ∙ next_low (old.rows == 0) (lows ps) (low_by ends old.least) (low_by ends n) end first_low ∙ ap (answer Min) (sym (map-more (λ (q : Pair). q.low) ps p)))
        ∙ ap (λ k. if k == 0 then answer Min (lows (ps ++ p ∷ [])) else None) counted

    greatest_more : end_if (certain_rows new) new.rows (high_by ends new.greatest) ≡ (if certain_count (ps ++ p ∷ []) == 0 then answer Max (highs (ps ++ p ∷ [])) else None)
    greatest_more =
        ap (λ k. end_if k new.rows (high_by ends new.greatest)) counted_rows ∙ ap (λ k. end_if (certain_rows old + one) k (high_by ends new.greatest)) is.rows
        ∙ end_more (certain_rows old) old.rows one (high_by ends old.greatest) (high_by ends new.greatest) (answer Max (highs ps)) (answer Max (highs (ps ++ p ∷ [])))
        (ap (λ (t : Tally). t.greatest_high) e ∙ ap (λ k. if k == 0 then answer Max (highs ps) else None) (sym before))
        (λ none end. ap (λ a. Some (high_by ends a)) is.greatest ∙ ap Some (high_greatest ends old.greatest n) ∙ next_high (old.rows == 0) (highs ps) (high_by ends old.greatest) (high_by ends n) end first_high ∙ ap (answer Max) (sym (map-more (λ (q : Pair). q.high) ps p)))
        ∙ ap (λ k. if k == 0 then answer Max (highs (ps ++ p ∷ [])) else None) counted

    low_more : cond new.certain (lows_of ends new) (pos 0) ≡ total (map low_share (ps ++ p ∷ []))
    low_more =
        ap (λ b. cond b (lows_of ends new) (pos 0)) is.certain ∙ ap (λ z. cond old.certain z (pos 0)) lows_more ∙ both_if old.certain (lows_of ends old) (low_by ends n)
        ∙ ap (λ z. z +ℤ cond old.certain (low_by ends n) (pos 0)) (ap (λ (t : Tally). t.low_sum) e)
        ∙ ap (λ z. total (map low_share ps) +ℤ z) (sym (low_share_of ends old.certain n)) ∙ sym (total-more low_share ps p)

    high_more : (lows_of ends new +ℤ pos (spans_of ends new)) ≡ total (map high_share (ps ++ p ∷ []))
    high_more =
        highs_more ∙ ap (λ z. z +ℤ high_by ends n) (ap (λ (t : Tally). t.high_sum) e)
        ∙ ap (λ z. total (map high_share ps) +ℤ z) (sym (high_share_of ends old.certain n)) ∙ sym (total-more high_share ps p)

    pub tally_more : tally_by ends new ≡ tally_of Sum (ps ++ p ∷ [])
    tally_more =
        sym (same_tally _ _ _ _ _ _ _ _ (tally_of Sum (ps ++ p ∷ []))
        (counted_rows ∙ counted) (is.rows ∙ ap (λ k. k + 1) (ap (λ (t : Tally). t.all) e) ∙ sym (length-more ps p))
        least_more greatest_more refl refl low_more high_more)
