-- From which number on an end reaches the rows above a fraction.
use Rattle.std.proofs.Common.{◌≡◌, ℕ, ◌+◌, ◌-◌, ◌*◌, ◌/◌, ◌%◌, ◌^◌, ◌<◌, ◌≤◌, ◌==◌, nat_le, nat_lt, min, ℤ, pos, negsuc, ◌+ℤ◌, ◌*ℤ◌, ◌≤ℤ◌, ◌<ℤ◌, int_lt, Bool, true, false, cond, ◌&&◌, ◌||◌, Some, None, inl, inr, refl, arith, subst, sym, ap, ◌∙◌}
use Rattle.std.specs.Int.{int_div_euclid}
use Rattle.std.proofs.Math.Nat.{div-mul-le_self, lt_of_mul-lt-mul_right, mod-lt, mul-le-mul_right, mul-mod_left, pow-le-pow_right}
use Rattle.std.proofs.lemmas.Bool.{cases_Bool, cases_lt, eqb-true, false≢true}
use Rattle.std.proofs.lemmas.Bool.Decides.{nat_tests}
use Rattle.std.proofs.lemmas.Int.{ints}
use Rattle.std.proofs.lemmas.Nat.{div-add-mod', le-div, pow-add, pow_pos}
use Rattle.daq_table.specs.declared.head.Ends.{Ends}
use Rattle.daq_table.specs.Tables.{planes, spread, width}
use Rattle.interval_calc.specs.declared.Fraction.{Fraction}
use Rattle.query_model.specs.Knowledge.{prefix_of}
use Rattle.query_model.proofs.Integers.{times_pos}
use Rattle.known_column.specs.Columns.{KnownColumn, is_at_top, number_of}
use Rattle.known_column.specs.RowBlocks.{IsKnownColumn}
use Rattle.known_column.proofs.CodeDigits.{prefix_mono, spread_small}
use Rattle.aggregates.proofs.NumberRows.{IsNumber, number_row}
use Rattle.avg_exact.specs.declared.passes.End.{End}
use Rattle.avg_exact.specs.declared.passes.End.TheVariants.{Low, High}
use Rattle.avg_exact.specs.Blocks.{IsDistance, IsShort, IsThreshold, IsValued, lies_above, value_in}
use Rattle.avg_exact.specs.ExactAverages.{negative}
use Rattle.avg_exact.specs.Ways.{IsNumberOf, number_value}
use Rattle.avg_exact.proofs.Fractions.{plus_times}
use Rattle.avg_exact.proofs.Cuts.{lt_holds, lt_is, not_lt}

-- ---- whole numbers and fractions

floor_below : (num : ℤ) (d : ℕ) → 1 ≤ d → (int_div_euclid num (pos d) *ℤ pos d) ≤ℤ num
floor_below (pos a) d some = (let part = div-mul-le_self a d in omega (arith, ints))
floor_below (negsuc a) d some =
    let part = div-add-mod' a d in
    let rest = mod-lt a {m = d} some in
    omega (arith, ints)

floor_above : (num : ℤ) (d : ℕ) → 1 ≤ d → num <ℤ ((int_div_euclid num (pos d) +ℤ pos 1) *ℤ pos d)
floor_above (pos a) d some =
    let part = div-add-mod' a d in
    let rest = mod-lt a {m = d} some in
    omega (arith, ints)
floor_above (negsuc a) d some = (let part = div-mul-le_self a d in let more = plus_times (negsuc (a / d)) (pos 1) d in omega (arith, ints))

-- a whole number lies above a fraction where it lies above the greatest whole number that does not
pub above_floor : (num : ℤ) (d : ℕ) (v : ℤ) → 1 ≤ d → int_lt num (v *ℤ pos d) ≡ int_lt (int_div_euclid num (pos d)) v
above_floor num d v some = elim (cases_Bool (int_lt (int_div_euclid num (pos d)) v)) [
  | inl t ↦ (let up = times_pos (int_div_euclid num (pos d) +ℤ pos 1) v d (let h = lt_holds (int_div_euclid num (pos d)) v t in omega (arith, ints)) in
      let past = floor_above num d some in lt_is num (v *ℤ pos d) (omega (arith, ints)) ∙ sym t)
  | inr f ↦ (let down = times_pos v (int_div_euclid num (pos d)) d (omega (arith, ints)) in
      let under = floor_below num d some in not_lt num (v *ℤ pos d) (omega (arith, ints)) ∙ sym f)
]

-- ---- numbers of blocks

le_test : (a b c d : ℕ) → (a ≤ b → c ≤ d) → (c ≤ d → a ≤ b) → nat_le a b ≡ nat_le c d
le_test a b c d f g = elim (cases_lt b a) [
  | inl more ↦ elim (cases_lt d c) [ inl more' ↦ (grind (arith, nat_tests)) | inr le ↦ absurd (omega (arith, g le)) ]
  | inr le ↦ (let le' = f le in grind (arith, nat_tests))
]

-- a number lies within a block's first numbers where its block is at most this one
block_up_to : (n k z : ℕ) → 1 ≤ k → nat_le (n * k) z ≡ nat_le n (z / k)
block_up_to n k z some =
    le_test (n * k) z n (z / k) (λ h. le-div n z k some h)
    (λ h. let whole = div-mul-le_self z k in let more = mul-le-mul_right k h in omega arith)

-- and reaches past one that is at most the last of all
block_from : (n k z w s : ℕ) → 1 ≤ k → z ≤ s → n * k ≤ w → w ≤ n * k + (k - 1) → (w < n * k + (k - 1) → w ≡ s) → nat_le z w ≡ nat_le (z / k) n
block_from n k z w s some small low high last =
    le_test z w (z / k) n
    (λ h. elim (cases_lt n (z / k)) [
      | inl more ↦ (let next = mul-le-mul_right k more in let whole = div-mul-le_self z k in absurd (omega arith))
      | inr le ↦ le
    ])
    (λ h. let part = div-add-mod' z k in let rest = mod-lt z {m = k} some in let more = mul-le-mul_right k h in
    elim (cases_lt w (n * k + (k - 1))) [ inl short ↦ (let is = last short in omega arith) | inr full ↦ omega arith ])

-- ---- tests of order

whole : (a k : ℕ) → 1 ≤ k → (a * k) % k ≡ 0
whole a k h = mul-mod_left a k

less_test : (x z : ℕ) → x < z → nat_lt x z ≡ true
less_test x z h = grind (arith, nat_tests)

is_same : (p t : ℕ) → (p == t) ≡ true → p ≡ t
is_same p t e = eqb-true p t e

not_less : (p q : ℕ) → q ≤ p → nat_lt p q ≡ false
not_less p q h = grind (arith, nat_tests)

and_false : (b : Bool) → (b && false) ≡ false
and_false true = refl
and_false false = refl

before_or_same : (p q t m : ℕ) → q ≤ t → (p == t) ≡ true → m ≡ 0 → true ≡ (nat_lt p q || (p == q && nat_lt 0 m)) → ⊥
before_or_same p q t m h e none l =
    false≢true
    (sym (l ∙ ap (λ b. b || (p == q && nat_lt 0 m)) (not_less p q (omega (arith, h, is_same p t e))) ∙ ap (λ b. p == q && b) (not_less 0 m (omega (arith, none))) ∙ and_false (p == q)))

first_is_none : (x z p q t : ℕ) → q ≤ t → (p == t) ≡ true → (m : ℕ) → m ≡ 0 → nat_lt x z ≡ (nat_lt p q || (p == q && nat_lt 0 m)) → z ≤ x
first_is_none x z p q t h e m none l = elim (cases_lt x z) [
  | inl less ↦ absurd (before_or_same p q t m h e none (sym (less_test x z less) ∙ l))
  | inr le ↦ le
]

module _ (ends : Ends) (read p n : ℕ) (number : IsNumber ends read p n) where
  -- how far a row's high end lies above base
  abbrev pub reach : ℕ
  reach = n * 2 ^ (planes ends - read) + cond (is_at_top ends read p) (spread ends % 2 ^ (planes ends - read)) (2 ^ (planes ends - read) - 1)

  -- at top's prefix it is the spread
  top_reach : is_at_top ends read p ≡ true → n * 2 ^ (planes ends - read) + spread ends % 2 ^ (planes ends - read) ≡ spread ends
  top_reach at_top =
      let k = 2 ^ (planes ends - read) in
      let some : 1 ≤ k = pow_pos (planes ends - read) in
      let s = spread ends in
      let z = s / k * k in
      let under = div-mul-le_self s k in
      let part = div-add-mod' s k in
      let few = number.few in
      let before = prefix_mono ends read z s under in
      let starts = number.starts z under in
      let not_less = first_is_none (n * k) z p (prefix_of ends read (Some z)) (prefix_of ends read (Some s)) before at_top (z % k) (whole (s / k) k some) starts in
      let most : n ≤ s / k = le-div n s k some few in
      let prod = mul-le-mul_right k most in
      omega arith

  rest_small : (b : Bool) (r k : ℕ) → 1 ≤ k → r < k → cond b r (k - 1) ≤ k - 1
  rest_small true r k h l = omega arith
  rest_small false r k h l = omega arith

  pub high_reach : (z : ℕ) → z ≤ spread ends → nat_le z reach ≡ nat_le (z / 2 ^ (planes ends - read)) n
  high_reach z small =
      let k = 2 ^ (planes ends - read) in
      let some : 1 ≤ k = pow_pos (planes ends - read) in
      let rest = rest_small (is_at_top ends read p) (spread ends % k) k some (mod-lt (spread ends) {m = k} some) in
      block_from n k z reach (spread ends) some small (omega arith) (omega arith) (λ short. last (is_at_top ends read p) refl short)
    where
      last : (b : Bool) → b ≡ is_at_top ends read p →
          n * 2 ^ (planes ends - read) + cond b (spread ends % 2 ^ (planes ends - read)) (2 ^ (planes ends - read) - 1) < n * 2 ^ (planes ends - read) + (2 ^ (planes ends - read) - 1) →
          n * 2 ^ (planes ends - read) + cond b (spread ends % 2 ^ (planes ends - read)) (2 ^ (planes ends - read) - 1) ≡ spread ends
      last true e short = top_reach (sym e)
      last false e short = absurd (omega (arith, short))

  pub low_reach : (z : ℕ) → nat_le (n * 2 ^ (planes ends - read)) z ≡ nat_le n (z / 2 ^ (planes ends - read))
  low_reach z = block_up_to n (2 ^ (planes ends - read)) z (pow_pos (planes ends - read))

  -- the high end lies as far as the unread digits allow, and no further than top
  pub reach_is : reach ≡ min (n * 2 ^ (planes ends - read) + (2 ^ (planes ends - read) - 1)) (spread ends)
  reach_is = by_top (is_at_top ends read p) refl
    where
      wide : (b : Bool) → b ≡ is_at_top ends read p → n * 2 ^ (planes ends - read) + cond b (spread ends % 2 ^ (planes ends - read)) (2 ^ (planes ends - read) - 1) ≤ spread ends
      wide b e = subst (λ x. n * 2 ^ (planes ends - read) + cond x (spread ends % 2 ^ (planes ends - read)) (2 ^ (planes ends - read) - 1) ≤ spread ends) (sym e) (omega (arith, number.wide))

      by_top : (b : Bool) → b ≡ is_at_top ends read p →
          n * 2 ^ (planes ends - read) + cond b (spread ends % 2 ^ (planes ends - read)) (2 ^ (planes ends - read) - 1) ≡ min (n * 2 ^ (planes ends - read) + (2 ^ (planes ends - read) - 1)) (spread ends)
      by_top true e =
          let all = top_reach (sym e) in
          let rest = mod-lt (spread ends) {m = 2 ^ (planes ends - read)} (pow_pos (planes ends - read)) in
          omega (arith, all, rest)
      by_top false e = (let few = wide false e in omega (arith, few))

  pub reach_few : reach ≤ spread ends
  reach_few = omega (arith, number.wide)

-- ---- a column

module _ (column : KnownColumn) (known : IsKnownColumn column) where
  pub number_is : (p : ℕ) → IsValued column p → IsNumber column.ends column.known.read p (number_of column.ends column.known.read p)
  number_is p valued = number_row column.ends column.known.read p known.some_read valued.0 valued.1

  -- the value of a row at an end, by its number
  pub value_is : (end : End) (p : ℕ) → IsValued column p → value_in end column p ≡ number_value end column (number_of column.ends column.known.read p)
  value_is Low p valued = ap (λ n. negative (column.ends.base +ℤ pos n)) (number_is p valued).above
  value_is High p valued = ap (λ n. column.ends.base +ℤ pos n) ((number_is p valued).wide ∙ reach_is column.ends column.known.read p (number_of column.ends column.known.read p) (number_is p valued))

  short : (z : ℕ) → z ≤ spread column.ends → IsShort column (z / 2 ^ (planes column.ends - column.known.read))
  short z few =
      let d = planes column.ends - column.known.read in
      let a = column.known.read - min (cond column.ends.nullable 1 0) column.known.read in
      let under = div-mul-le_self z (2 ^ d) in
      let bit = one column.ends.nullable in
      let parts : 2 ^ (a + d) ≡ 2 ^ a * 2 ^ d = pow-add 2 a d in
      let wide : 2 ^ width column.ends ≤ 2 ^ (a + d) = pow-le-pow_right (omega arith) (digits (width column.ends) (cond column.ends.nullable 1 0) column.known.read bit known.some_read) in
      lt_of_mul-lt-mul_right (2 ^ d) (omega (arith, parts, wide, under, few, spread_small column.ends))
    where
      one : (b : Bool) → cond {A = ℕ} b 1 0 ≤ 1
      one true = omega arith
      one false = omega arith

      digits : (w b read : ℕ) → b ≤ 1 → read ≤ w + b → w ≤ (read - min b read) + ((w + b) - read)
      digits w b read h few = omega arith

  -- the rows above a fraction are those that the end reaches
  pub threshold_none : (end : End) (over : Fraction) (floor : ℤ) → 1 ≤ over.den → floor ≡ int_div_euclid over.num (pos over.den) → IsDistance end column.ends.base column.ends.top floor None →
      IsThreshold column end over None
  threshold_none Low over floor some is none p valued =
      let n = number_of column.ends column.known.read p in
      ap (lies_above over) (value_is Low p valued) ∙ above_floor over.num over.den (number_value Low column n) some ∙ ap (λ z. int_lt z (number_value Low column n)) (sym is)
      ∙ none (n * 2 ^ (planes column.ends - column.known.read)) (number_is p valued).few
  threshold_none High over floor some is none p valued =
      let n = number_of column.ends column.known.read p in
      let number = number_is p valued in
      let value = ap (λ n. column.ends.base +ℤ pos n) number.wide in
      ap (lies_above over) value ∙ above_floor over.num over.den (column.ends.base +ℤ pos (reach column.ends column.known.read p n number)) some
      ∙ ap (λ z. int_lt z (column.ends.base +ℤ pos (reach column.ends column.known.read p n number))) (sym is)
      ∙ none (reach column.ends column.known.read p n number) (reach_few column.ends column.known.read p n number)

  pub threshold_some : (end : End) (over : Fraction) (floor : ℤ) (z : ℕ) → 1 ≤ over.den → floor ≡ int_div_euclid over.num (pos over.den) → IsDistance end column.ends.base column.ends.top floor (Some z) →
      IsThreshold column end over (Some (z / 2 ^ (planes column.ends - column.known.read)))
  threshold_some Low over floor z some is from = (
    short z from.0,
    λ p valued. let n = number_of column.ends column.known.read p in
        ap (lies_above over) (value_is Low p valued) ∙ above_floor over.num over.den (number_value Low column n) some ∙ ap (λ z. int_lt z (number_value Low column n)) (sym is)
        ∙ from.1 (n * 2 ^ (planes column.ends - column.known.read)) (number_is p valued).few ∙ low_reach column.ends column.known.read p n (number_is p valued) z,
  )
  threshold_some High over floor z some is from = (
    short z from.0,
    λ p valued. let n = number_of column.ends column.known.read p in
        let number = number_is p valued in
        let value = ap (λ n. column.ends.base +ℤ pos n) number.wide in
        ap (lies_above over) value ∙ above_floor over.num over.den (column.ends.base +ℤ pos (reach column.ends column.known.read p n number)) some
        ∙ ap (λ z. int_lt z (column.ends.base +ℤ pos (reach column.ends column.known.read p n number))) (sym is)
        ∙ from.1 (reach column.ends column.known.read p n number) (reach_few column.ends column.known.read p n number) ∙ high_reach column.ends column.known.read p n number z from.0,
  )

  -- the digits of a row's number are those of a number of the column
  pub number_few : (p : ℕ) → IsValued column p → IsNumberOf column (number_of column.ends column.known.read p)
  number_few p valued = record { few = (number_is p valued).few }
