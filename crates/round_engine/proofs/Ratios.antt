-- The cross products by which the ends of an average are compared fit.
use Rattle.std.proofs.Common.{◌≡◌, ℕ, suc, ◌+◌, ◌*◌, ◌^◌, ◌<◌, ◌≤◌, zero-le, max, ℤ, pos, negsuc, nat_abs, ◌+ℤ◌, ◌-ℤ◌, ◌*ℤ◌, int_le, Bool, true, false, cond, List, [], ◌∷◌, length, map, filter, arith, FitsSigned, lit<}
use Rattle.std.specs.Int.{w128, int_min, int_max}
use Rattle.std.proofs.Math.Nat.{mul-le-mul_left, mul-le-mul_right}
use Rattle.std.proofs.lemmas.Int.{ints, clamps}
use Rattle.interval_calc.specs.Intervals.{Interval, Within}
use Rattle.query_model.specs.Answers.{total, least, greatest}
use Rattle.query_model.specs.Bounds.{AverageBound, Pair, average_bound_of, certain_count, lows, highs, low_share, high_share, least_sum, greatest_sum}
use Rattle.query_model.specs.Validity.{FitsAverage}
use Rattle.round_engine.specs.Narrowness.{FitsNarrow}
use Rattle.round_engine.proofs.Shown.{AreWithin, least_low_within, greatest_high_within}

-- ---- sizes of numbers

-- a number between two others is no further from 0 than the further of them
size_within : (i : Interval) (z : ℤ) → Within i z → nat_abs z ≤ max (nat_abs i.low) (nat_abs i.high)
size_within i z w =
    let above = w.above in
    let below = w.below in
    omega (arith, ints)

size_of_sum : (x y : ℤ) → nat_abs (x +ℤ y) ≤ nat_abs x + nat_abs y
size_of_sum x y = omega (arith, ints)

size_of_difference : (x y : ℤ) → nat_abs (x -ℤ y) ≤ nat_abs x + nat_abs y
size_of_difference x y = omega (arith, ints)

size_of_product : (z : ℤ) (d : ℕ) → nat_abs (z *ℤ pos d) ≡ nat_abs z * d
size_of_product (pos n) d = omega (arith, ints)
size_of_product (negsuc n) d = omega (arith, ints)

size_fits : (z : ℤ) (m : ℕ) → nat_abs z ≤ m → FitsSigned w128 (pos m) → FitsSigned w128 z
size_fits (pos n) m h f = (let g = f.sfits in record { sfits = omega (arith, ints) })
size_fits (negsuc n) m h f = (let g = f.sfits in record { sfits = omega (arith, ints) })

product_below : (a b m n : ℕ) → a ≤ m → b ≤ n → a * b ≤ m * n
product_below a b m n h k = omega (arith, mul-le-mul_right b h, mul-le-mul_left m k)

-- ---- sums of pairs

share_size : (b : Bool) (x : ℤ) (m : ℕ) → nat_abs x ≤ m → nat_abs (cond b x (int_min x (pos 0))) ≤ m
share_size true x m h = h
share_size false x m h = omega (arith, ints, clamps)

high_share_size : (b : Bool) (x : ℤ) (m : ℕ) → nat_abs x ≤ m → nat_abs (cond b x (int_max x (pos 0))) ≤ m
high_share_size true x m h = h
high_share_size false x m h = omega (arith, ints, clamps)

abbrev size_of : Interval → ℕ
size_of i = max (nat_abs i.low) (nat_abs i.high)

more : (n m s t : ℕ) → s ≤ m → t ≤ n * m → s + t ≤ suc n * m
more n m s t h k = omega arith

low_total_size : (i : Interval) (ps : List Pair) → AreWithin i ps → nat_abs (total (map low_share ps)) ≤ length ps * size_of i
low_total_size i [] h = zero-le
low_total_size i (p ∷ ps) h =
    let here = share_size p.certain p.low (size_of i) (size_within i p.low h.0) in
    let rest = low_total_size i ps h.2 in
    let sum = size_of_sum (low_share p) (total (map low_share ps)) in
    let all = more (length ps) (size_of i) (nat_abs (low_share p)) (nat_abs (total (map low_share ps))) here rest in
    omega arith

high_total_size : (i : Interval) (ps : List Pair) → AreWithin i ps → nat_abs (total (map high_share ps)) ≤ length ps * size_of i
high_total_size i [] h = zero-le
high_total_size i (p ∷ ps) h =
    let here = high_share_size p.certain p.high (size_of i) (size_within i p.high h.1) in
    let rest = high_total_size i ps h.2 in
    let sum = size_of_sum (high_share p) (total (map high_share ps)) in
    let all = more (length ps) (size_of i) (nat_abs (high_share p)) (nat_abs (total (map high_share ps))) here rest in
    omega arith

one_of_some : (n m s : ℕ) → s ≤ m → s ≤ suc n * m
one_of_some n m s h = omega arith

either_size : (b : Bool) (x y : ℤ) (m : ℕ) → nat_abs x ≤ m → nat_abs y ≤ m → nat_abs (cond b x y) ≤ m
either_size true x y m h k = h
either_size false x y m h k = k

low_size : (i : Interval) (p : Pair) (ps : List Pair) → AreWithin i (p ∷ ps) → nat_abs (least_sum (p ∷ ps)) ≤ suc (length ps) * size_of i
low_size i p ps h =
    either_size _ (total (map low_share (p ∷ ps))) (least (lows (p ∷ ps))) _ (low_total_size i (p ∷ ps) h)
    (one_of_some (length ps) (size_of i) _ (size_within i _ (least_low_within i p ps h)))

high_size : (i : Interval) (p : Pair) (ps : List Pair) → AreWithin i (p ∷ ps) → nat_abs (greatest_sum (p ∷ ps)) ≤ suc (length ps) * size_of i
high_size i p ps h =
    either_size _ (total (map high_share (p ∷ ps))) (greatest (highs (p ∷ ps))) _ (high_total_size i (p ∷ ps) h)
    (one_of_some (length ps) (size_of i) _ (size_within i _ (greatest_high_within i p ps h)))

-- ---- numbers of rows

one_counted : (b : Bool) (p : Pair) (ps : List Pair) (n m : ℕ) → length ps ≤ n → n ≤ m → length (cond b (p ∷ ps) ps) ≤ suc m
one_counted true p ps n m h k = omega arith
one_counted false p ps n m h k = omega arith

counted_below : (ps : List Pair) → certain_count ps ≤ length ps
counted_below [] = zero-le
counted_below (p ∷ ps) = one_counted p.certain p (filter (λ q. q.certain) ps) (length (filter (λ q. q.certain) ps)) (length ps) (omega arith) (counted_below ps)

either_below : (b : Bool) (x y m : ℕ) → x ≤ m → y ≤ m → cond b x y ≤ m
either_below true x y m h k = h
either_below false x y m h k = k

-- ---- the ratios

-- over plain numbers: sums of at most so many rows of such a size, and numbers of rows
cross_fits : (width rows m : ℕ) (empty_bound : AverageBound) →
    nat_abs empty_bound.lo.num ≤ rows * m → nat_abs empty_bound.hi.num ≤ rows * m → empty_bound.lo.den ≤ rows → empty_bound.hi.den ≤ rows →
    rows ≤ 16777216 → width < 2 ^ 63 → FitsSigned w128 (pos (2 * rows * rows * m)) → FitsNarrow width empty_bound
cross_fits width rows m bound low high few_low few_high few narrow fits =
    let high_cross = product_below (nat_abs bound.hi.num) bound.lo.den (rows * m) rows high few_low in
    let low_cross = product_below (nat_abs bound.lo.num) bound.hi.den (rows * m) rows low few_high in
    let high_is = size_of_product bound.hi.num bound.lo.den in
    let low_is = size_of_product bound.lo.num bound.hi.den in
    let apart = size_of_difference (bound.hi.num *ℤ pos bound.lo.den) (bound.lo.num *ℤ pos bound.hi.den) in
    let twice : 2 * rows * rows * m ≡ (rows * m * rows) + (rows * m * rows) = omega arith in
    record {
      high = size_fits _ (2 * rows * rows * m) (omega arith) fits;
      low = size_fits _ (2 * rows * rows * m) (omega arith) fits;
      difference = size_fits _ (2 * rows * rows * m) (omega arith) fits;
      limit = limit_fits width bound.lo.den bound.hi.den (omega arith) (omega arith) (omega arith);
    }
  where
    limit_fits : (w a b : ℕ) → w < 2 ^ 63 → a ≤ 16777216 → b ≤ 16777216 → FitsSigned w128 (pos (w * a * b))
    limit_fits w a b h k l =
        let first = product_below w a (2 ^ 63) 16777216 (omega arith) k in
        let second = product_below (w * a) b (2 ^ 63 * 16777216) 16777216 first l in
        record { sfits = omega arith }

pub average_fits : (width rows : ℕ) (i : Interval) (ps : List Pair) → AreWithin i ps → length ps ≤ rows → rows ≤ 16777216 → width < 2 ^ 63 → FitsAverage rows i → FitsNarrow width (average_bound_of ps)
average_fits width rows i [] h few few_rows narrow fits =
    let one : 1 ≤ 1 = omega arith in
    cross_fits width 1 0 (average_bound_of []) zero-le zero-le one one (omega arith) narrow (record { sfits = lit< tt })
average_fits width rows i (p ∷ ps) h few few_rows narrow fits =
    let all = p ∷ ps in
    let low = low_size i p ps h in
    let high = high_size i p ps h in
    let more_rows : suc (length ps) * size_of i ≤ rows * size_of i = mul-le-mul_right (size_of i) few in
    let counted = counted_below all in
    let fewest : max (certain_count all) 1 ≤ rows = omega arith in
    cross_fits width rows (size_of i) (average_bound_of all) (omega arith) (omega arith)
    (either_below (int_le (pos 0) (least_sum all)) (length all) (max (certain_count all) 1) rows few fewest)
    (either_below (int_le (pos 0) (greatest_sum all)) (max (certain_count all) 1) (length all) rows fewest few)
    few_rows narrow fits
