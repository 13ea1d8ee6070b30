-- That two fractions are near exactly where their whole parts and their rests say so.
use Rattle.std.proofs.Common.{◌≡◌, ℕ, ◌+◌, ◌*◌, ◌/◌, ◌%◌, ◌<◌, ◌≤◌, nat_le, ℤ, pos, negsuc, ◌+ℤ◌, ◌-ℤ◌, ◌*ℤ◌, ◌≤ℤ◌, ◌<ℤ◌, int_le, nat_abs, Bool, true, false, ◌⊎◌, inl, inr, arith, refl, sym, ap, ◌∙◌}
use Rattle.std.proofs.Math.Nat.{div-add-mod, mod-lt}
use Rattle.std.proofs.lemmas.Bool.Decides.{nat_tests}
use Rattle.std.proofs.lemmas.Int.{ints}
use Rattle.std.proofs.lemmas.Nat.{mul-le}
use Rattle.std.specs.Int.{int_div_euclid, int_rem_euclid}
use Rattle.query_model.proofs.Integers.{times_pos}
use Rattle.report_parts.specs.Narrowness.{IsSplit}
use Rattle.shard_bounds.proofs.FractionOrder.{spread_left, twice}

-- ---- a number is so many times another, and a rest

whole_and_rest : (z : ℤ) (n : ℕ) → 0 < n → z ≡ (int_div_euclid z (pos n) *ℤ pos n) +ℤ int_rem_euclid z (pos n)
whole_and_rest (pos a) n some =
    let both = div-add-mod a n in
    let e : n * (a / n) ≡ a / n * n = omega arith in
    omega (arith, ints)
whole_and_rest (negsuc a) n some =
    let both = div-add-mod a n in
    let below : a % n < n = mod-lt a some in
    let e : n * (a / n) ≡ a / n * n = omega arith in
    omega (arith, ints)

-- the rest is a natural number below the denominator
rest_is : (z : ℤ) (n : ℕ) → pos (nat_abs (int_rem_euclid z (pos n))) ≡ int_rem_euclid z (pos n)
rest_is (pos a) n = refl
rest_is (negsuc a) n = refl

rest_below : (z : ℤ) (n : ℕ) → 0 < n → nat_abs (int_rem_euclid z (pos n)) < n
rest_below (pos a) n some = mod-lt a some
rest_below (negsuc a) n some = omega (arith, some)

pub split_of : (num whole rest : ℤ) (n : ℕ) → 0 < n → whole ≡ int_div_euclid num (pos n) → rest ≡ int_rem_euclid num (pos n) → IsSplit num whole n (nat_abs rest)
split_of num whole rest n some w r =
    rw (w, r)
    (record {
      is = whole_and_rest num n some ∙ ap (λ (z : ℤ). (int_div_euclid num (pos n) *ℤ pos n) +ℤ z) (sym (rest_is num n));
      below = rest_below num n some;
    })

-- ---- fractions over both denominators

-- a numerator times the other denominator, by the whole part and the rest
over_both : (num whole : ℤ) (den rest other : ℕ) → num ≡ (whole *ℤ pos den) +ℤ pos rest →
    num *ℤ pos other ≡ (whole *ℤ pos (den * other)) +ℤ pos (rest * other)
over_both num whole den rest other e =
    let a = spread_left (whole *ℤ pos den) (pos rest) other in
    let b = twice whole den other in
    let c : pos rest *ℤ pos other ≡ pos (rest * other) = omega (arith, ints) in
    let d : num *ℤ pos other ≡ ((whole *ℤ pos den) +ℤ pos rest) *ℤ pos other = ap (λ z. z *ℤ pos other) e in
    omega (arith, ints)

-- what is left is less than both denominators together
few_left : (rest den other : ℕ) → rest < den → rest * other + other ≤ den * other
few_left rest den other less =
    let most = mul-le (rest + 1) other den other (omega (arith, less)) (omega arith) in
    let e : (rest + 1) * other ≡ rest * other + other = omega arith in
    omega (arith, most, e)

-- ---- the test

-- where the high whole part is so much above the low one
apart : (hn ln qh ql : ℤ) (hd ld hr lr d : ℕ) → IsSplit hn qh hd hr → IsSplit ln ql ld lr → qh ≡ ql +ℤ pos d →
    (hn *ℤ pos ld) +ℤ pos (lr * hd) ≡ (ln *ℤ pos hd) +ℤ pos (d * (ld * hd) + hr * ld)
apart hn ln qh ql hd ld hr lr d high low e =
    let a = over_both hn qh hd hr ld high.is in
    let b = over_both ln ql ld lr hd low.is in
    let c = spread_left ql (pos d) (ld * hd) in
    let f : pos d *ℤ pos (ld * hd) ≡ pos (d * (ld * hd)) = omega (arith, ints) in
    let g : hd * ld ≡ ld * hd = omega arith in
    let h : qh *ℤ pos (hd * ld) ≡ (ql +ℤ pos d) *ℤ pos (ld * hd) = ap (λ (z : ℤ). z *ℤ pos (hd * ld)) e ∙ ap (λ (n : ℕ). (ql +ℤ pos d) *ℤ pos n) g in
    omega (arith, ints)

abbrev pub near : ℕ → ℤ → ℤ → ℕ → ℕ → Bool
near w hn ln hd ld = int_le ((hn *ℤ pos ld) -ℤ (ln *ℤ pos hd)) (pos (w * ld * hd))

is_near : (x y : ℤ) → x ≤ℤ y → int_le x y ≡ true
is_near x y h = grind (arith, ints)

not_near : (x y : ℤ) → y <ℤ x → int_le x y ≡ false
not_near x y h = grind (arith, ints)

flat : (w a b : ℕ) → w * a * b ≡ w * (a * b)
flat w a b = omega arith

one_more : (d w n : ℕ) → d < w → d * n + n ≤ w * n
one_more d w n less =
    let most = mul-le (d + 1) n w n (omega (arith, less)) (omega arith) in
    let e : (d + 1) * n ≡ d * n + n = omega arith in
    omega (arith, most, e)

pub near_less : (w : ℕ) (hn ln qh ql : ℤ) (hd ld hr lr d : ℕ) → IsSplit hn qh hd hr → IsSplit ln ql ld lr → qh ≡ ql +ℤ pos d → d < w →
    near w hn ln hd ld ≡ true
near_less w hn ln qh ql hd ld hr lr d high low e less =
    let sum = apart hn ln qh ql hd ld hr lr d high low e in
    let rest = few_left hr hd ld high.below in
    let g : hd * ld ≡ ld * hd = omega arith in
    let most = one_more d w (ld * hd) less in
    let f = flat w ld hd in
    let le : ((hn *ℤ pos ld) -ℤ (ln *ℤ pos hd)) ≤ℤ pos (w * ld * hd) = omega (arith, ints) in
    is_near _ _ le

pub near_more : (w : ℕ) (hn ln qh ql : ℤ) (hd ld hr lr d : ℕ) → IsSplit hn qh hd hr → IsSplit ln ql ld lr → qh ≡ ql +ℤ pos d → w < d →
    near w hn ln hd ld ≡ false
near_more w hn ln qh ql hd ld hr lr d high low e more =
    let sum = apart hn ln qh ql hd ld hr lr d high low e in
    let some : 0 < hd = omega (arith, high.below) in
    let rest = few_left lr ld hd low.below in
    let most = one_more w d (ld * hd) more in
    let f = flat w ld hd in
    let gt : pos (w * ld * hd) <ℤ ((hn *ℤ pos ld) -ℤ (ln *ℤ pos hd)) = omega (arith, ints) in
    not_near _ _ gt

at_most : (a b : ℕ) → a ≤ b → nat_le a b ≡ true
at_most a b le = grind (arith, nat_tests)

not_at_most : (a b : ℕ) → b < a → nat_le a b ≡ false
not_at_most a b gt = grind (arith, nat_tests)

cases_le : (a b : ℕ) → (a ≤ b) ⊎ (b < a)
cases_le a b = grind arith

pub near_rests : (w : ℕ) (hn ln qh ql : ℤ) (hd ld hr lr d : ℕ) → IsSplit hn qh hd hr → IsSplit ln ql ld lr → qh ≡ ql +ℤ pos d → d ≡ w →
    near w hn ln hd ld ≡ nat_le (hr * ld) (lr * hd)
near_rests w hn ln qh ql hd ld hr lr d high low e same =
    let sum = apart hn ln qh ql hd ld hr lr d high low e in
    let f = flat w ld hd in
    let g : d * (ld * hd) ≡ w * (ld * hd) = ap (λ (n : ℕ). n * (ld * hd)) same in
    elim (cases_le (hr * ld) (lr * hd)) [
      | inl le ↦
          let in_order : ((hn *ℤ pos ld) -ℤ (ln *ℤ pos hd)) ≤ℤ pos (w * ld * hd) = omega (arith, ints) in
          is_near _ _ in_order ∙ sym (at_most (hr * ld) (lr * hd) le)
      | inr gt ↦
          let beyond : pos (w * ld * hd) <ℤ ((hn *ℤ pos ld) -ℤ (ln *ℤ pos hd)) = omega (arith, ints) in
          not_near _ _ beyond ∙ sym (not_at_most (hr * ld) (lr * hd) gt)
    ]

-- where it is below, they are near for each width
pub near_below : (w : ℕ) (hn ln qh ql : ℤ) (hd ld hr lr : ℕ) → IsSplit hn qh hd hr → IsSplit ln ql ld lr → qh <ℤ ql → near w hn ln hd ld ≡ true
near_below w hn ln qh ql hd ld hr lr high low less =
    let a = over_both hn qh hd hr ld high.is in
    let b = over_both ln ql ld lr hd low.is in
    let g : hd * ld ≡ ld * hd = omega arith in
    let h : qh *ℤ pos (hd * ld) ≡ qh *ℤ pos (ld * hd) = ap (λ (n : ℕ). qh *ℤ pos n) g in
    let one = spread_left qh (pos 1) (ld * hd) in
    let up = times_pos (qh +ℤ pos 1) ql (ld * hd) (omega (arith, ints)) in
    let rest = few_left hr hd ld high.below in
    let k : pos 1 *ℤ pos (ld * hd) ≡ pos (ld * hd) = omega (arith, ints) in
    let le : ((hn *ℤ pos ld) -ℤ (ln *ℤ pos hd)) ≤ℤ pos (w * ld * hd) = omega (arith, ints) in
    is_near _ _ le
