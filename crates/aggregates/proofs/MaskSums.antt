-- Numbers at the rows of a mask.
use Rattle.std.proofs.Common.{◌≡◌, ℕ, zero, suc, ◌+◌, ◌*◌, ◌<◌, ◌≤◌, ℤ, pos, ◌+ℤ◌, ◌*ℤ◌, Bool, true, false, not, ◌&&◌, ◌||◌, cond, List, [], ◌∷◌, length, map, filter, count_by, get_or, refl, ap, sym, ◌∙◌, arith}
use Rattle.std.specs.List.{range_with_len}
use Rattle.std.specs.Simd.Lanes.{zip2}
use Rattle.std.proofs.lemmas.Int.{ints}
use Rattle.std.proofs.lemmas.List.Sums.{sum_by-cons}
use Rattle.std.proofs.Math.IntN.{suc_ℤ, *ℤ_comm, suc_ℤ-*ℤ}
use Rattle.query_model.specs.Answers.{total}
use Rattle.aggregates.specs.Selections.{rows_in, sum_where}

-- a fact of the numbers at the mask's rows
abbrev pub AtRows : List Bool → List ℕ → (ℕ → Type 0) → Type 0
AtRows mask ps P = (r : ℕ) → r < length ps → get_or mask r false ≡ true → P (get_or ps r 0)

later : (mask : List Bool) (ps : List ℕ) (b : Bool) (p : ℕ) (P : ℕ → Type 0) → AtRows (b ∷ mask) (p ∷ ps) P → AtRows mask ps P
later mask ps b p P each = λ r h has. each (suc r) (omega arith) has

-- ---- rows of a mask, one by one

map-cond : (f : ℕ → ℤ) (b : Bool) (a : ℕ) (xs : List ℕ) → map f (cond b (a ∷ xs) xs) ≡ cond b (f a ∷ map f xs) (map f xs)
map-cond f true a xs = refl
map-cond f false a xs = refl

shifted : (f : ℕ → ℤ) (t : ℕ → Bool) (s n : ℕ) → map f (filter t (range_with_len (s + 1) n)) ≡ map (λ r. f (suc r)) (filter (λ r. t (suc r)) (range_with_len s n))
shifted f t s zero = refl
shifted f t s (suc n) =
    let next : s + 1 ≡ suc s = omega arith in
    let rest = filter t (range_with_len ((s + 1) + 1) n) in
    map-cond f (t (s + 1)) (s + 1) rest ∙ ap (λ k. cond (t k) (f k ∷ map f rest) (map f rest)) next
    ∙ ap (λ l. cond (t (suc s)) (f (suc s) ∷ l) l) (shifted f t (s + 1) n)
    ∙ sym (map-cond (λ r. f (suc r)) (t (suc s)) s (filter (λ r. t (suc r)) (range_with_len (s + 1) n)))

-- the first row, and the others
pub first_row : (f : ℕ → ℤ) (b : Bool) (mask : List Bool) →
    map f (filter (λ r. get_or (b ∷ mask) r false) (range_with_len 0 (suc (length mask))))
    ≡ cond b (f 0 ∷ map (λ r. f (suc r)) (filter (λ r. get_or mask r false) (range_with_len 0 (length mask)))) (map (λ r. f (suc r)) (filter (λ r. get_or mask r false) (range_with_len 0 (length mask))))
first_row f b mask =
    let rest = filter (λ r. get_or (b ∷ mask) r false) (range_with_len (0 + 1) (length mask)) in
    map-cond f b 0 rest ∙ ap (λ l. cond b (f 0 ∷ l) l) (shifted f (λ r. get_or (b ∷ mask) r false) 0 (length mask))

-- a number once more
once_more : (z : ℤ) (n : ℕ) → (z *ℤ pos (1 + n)) ≡ z +ℤ (z *ℤ pos n)
once_more z n =
    let more : pos (1 + n) ≡ suc_ℤ (pos n) = ap pos (omega arith) in
    ap (λ k. z *ℤ k) more ∙ *ℤ_comm z (suc_ℤ (pos n)) ∙ suc_ℤ-*ℤ (pos n) z ∙ ap (λ k. k +ℤ z) (*ℤ_comm (pos n) z) ∙ omega (arith, ints)

added : (a b : ℤ) (m n k : ℕ) → ((a +ℤ pos (m * k)) +ℤ (b +ℤ pos (n * k))) ≡ (a +ℤ b) +ℤ pos ((m + n) * k)
added a b m n k = (let e : (m + n) * k ≡ m * k + n * k = omega arith in omega (arith, ints, e))

-- ends that are a multiple of a number above base, added up
pub total_of_multiples : (mask : List Bool) (ps : List ℕ) (base : ℤ) (g : ℕ → ℤ) (h : ℕ → ℕ) (k : ℕ) → length mask ≡ length ps → AtRows mask ps (λ p. g p ≡ base +ℤ pos (h p * k)) →
    total (map (λ r. g (get_or ps r 0)) (filter (λ r. get_or mask r false) (range_with_len 0 (length mask))))
    ≡ (base *ℤ pos (count_by (λ b. b) mask)) +ℤ pos (sum_where mask (map h ps) * k)
total_of_multiples [] [] base g h k e each = omega (arith, ints)
total_of_multiples [] (p ∷ ps) base g h k e each = absurd (omega arith)
total_of_multiples (b ∷ mask) [] base g h k e each = absurd (omega arith)
total_of_multiples (true ∷ mask) (p ∷ ps) base g h k e each =
    let here : g p ≡ base +ℤ pos (h p * k) = each 0 (omega arith) refl in
    let rest = total_of_multiples mask ps base g h k (omega arith) (later mask ps true p (λ p. g p ≡ base +ℤ pos (h p * k)) each) in
    ap total (first_row (λ r. g (get_or (p ∷ ps) r 0)) true mask) ∙ ap (λ z. g p +ℤ z) rest ∙ ap (λ z. z +ℤ ((base *ℤ pos (count_by (λ b. b) mask)) +ℤ pos (sum_where mask (map h ps) * k))) here
    ∙ added base (base *ℤ pos (count_by (λ b. b) mask)) (h p) (sum_where mask (map h ps)) k ∙ ap (λ z. z +ℤ pos ((h p + sum_where mask (map h ps)) * k)) (sym (ap (λ n. base *ℤ pos n) (sum_by-cons (λ b. cond b 1 0) true mask) ∙ once_more base (count_by (λ b. b) mask)))
total_of_multiples (false ∷ mask) (p ∷ ps) base g h k e each =
    let rest = total_of_multiples mask ps base g h k (omega arith) (later mask ps false p (λ p. g p ≡ base +ℤ pos (h p * k)) each) in
    ap total (first_row (λ r. g (get_or (p ∷ ps) r 0)) false mask) ∙ rest
    ∙ ap (λ n. (base *ℤ pos n) +ℤ pos (sum_where mask (map h ps) * k)) (sym (sum_by-cons (λ b. cond b 1 0) false mask ∙ omega arith))
    ∙ ap (λ n. (base *ℤ pos (count_by (λ b. b) (false ∷ mask))) +ℤ pos (n * k)) (omega arith)

-- ---- sums digit by digit

-- numbers that are followed by a digit
pub sum_further : (mask : List Bool) (ps : List ℕ) (f g : ℕ → ℕ) (digit : ℕ → Bool) → length mask ≡ length ps → AtRows mask ps (λ p. g p ≡ 2 * f p + cond (digit p) 1 0) →
    sum_where mask (map g ps) ≡ 2 * sum_where mask (map f ps) + count_by (λ b. b) (zip2 (λ a b. a && b) mask (map digit ps))
sum_further [] [] f g digit e each = omega arith
sum_further [] (p ∷ ps) f g digit e each = absurd (omega arith)
sum_further (b ∷ mask) [] f g digit e each = absurd (omega arith)
sum_further (true ∷ mask) (p ∷ ps) f g digit e each =
    let here : g p ≡ 2 * f p + cond (digit p) 1 0 = each 0 (omega arith) refl in
    let rest = sum_further mask ps f g digit (omega arith) (later mask ps true p (λ p. g p ≡ 2 * f p + cond (digit p) 1 0) each) in
    let count : count_by (λ b. b) (zip2 (λ a b. a && b) (true ∷ mask) (map digit (p ∷ ps))) ≡ cond (digit p) 1 0 + count_by (λ b. b) (zip2 (λ a b. a && b) mask (map digit ps)) = sum_by-cons (λ b. cond b 1 0) (digit p) (zip2 (λ a b. a && b) mask (map digit ps)) in
    omega (arith, here, rest, count)
sum_further (false ∷ mask) (p ∷ ps) f g digit e each =
    let rest = sum_further mask ps f g digit (omega arith) (later mask ps false p (λ p. g p ≡ 2 * f p + cond (digit p) 1 0) each) in
    let count = sum_by-cons (λ b. cond b 1 0) false (zip2 (λ a b. a && b) mask (map digit ps)) in
    omega (arith, rest, count)

pub sum_same : (mask : List Bool) (ps : List ℕ) (f g : ℕ → ℕ) → length mask ≡ length ps → AtRows mask ps (λ p. f p ≡ g p) → sum_where mask (map f ps) ≡ sum_where mask (map g ps)
sum_same [] ps f g e each = refl
sum_same (b ∷ mask) [] f g e each = refl
sum_same (true ∷ mask) (p ∷ ps) f g e each =
    let here : f p ≡ g p = each 0 (omega arith) refl in
    let rest = sum_same mask ps f g (omega arith) (later mask ps true p (λ p. f p ≡ g p) each) in
    omega (arith, here, rest)
sum_same (false ∷ mask) (p ∷ ps) f g e each = ap (λ n. 0 + n) (sum_same mask ps f g (omega arith) (later mask ps false p (λ p. f p ≡ g p) each))

pub sum_none : (mask : List Bool) (ps : List ℕ) (f : ℕ → ℕ) → length mask ≡ length ps → AtRows mask ps (λ p. f p ≡ 0) → sum_where mask (map f ps) ≡ 0
sum_none [] ps f e each = refl
sum_none (b ∷ mask) [] f e each = refl
sum_none (true ∷ mask) (p ∷ ps) f e each =
    let here : f p ≡ 0 = each 0 (omega arith) refl in
    let rest = sum_none mask ps f (omega arith) (later mask ps true p (λ p. f p ≡ 0) each) in
    omega (arith, here, rest)
sum_none (false ∷ mask) (p ∷ ps) f e each = (let rest = sum_none mask ps f (omega arith) (later mask ps false p (λ p. f p ≡ 0) each) in omega (arith, rest))

-- numbers that are small, times k, add up to few times as much
pub sum_few : (mask : List Bool) (ps : List ℕ) (f : ℕ → ℕ) (k most : ℕ) → length mask ≡ length ps → AtRows mask ps (λ p. f p * k ≤ most) → sum_where mask (map f ps) * k ≤ length mask * most
sum_few [] ps f k most e each = omega arith
sum_few (b ∷ mask) [] f k most e each = absurd (omega arith)
sum_few (true ∷ mask) (p ∷ ps) f k most e each =
    let here : f p * k ≤ most = each 0 (omega arith) refl in
    let rest = sum_few mask ps f k most (omega arith) (later mask ps true p (λ p. f p * k ≤ most) each) in
    omega (arith, here, rest)
sum_few (false ∷ mask) (p ∷ ps) f k most e each =
    let rest = sum_few mask ps f k most (omega arith) (later mask ps false p (λ p. f p * k ≤ most) each) in
    omega (arith, rest)

-- ---- ends that are wider than others

pub total_wider : (mask : List Bool) (ps : List ℕ) (f g : ℕ → ℤ) (wide : ℕ → ℕ) → length mask ≡ length ps → AtRows mask ps (λ p. f p ≡ g p +ℤ pos (wide p)) →
    total (map (λ r. f (get_or ps r 0)) (filter (λ r. get_or mask r false) (range_with_len 0 (length mask))))
    ≡ total (map (λ r. g (get_or ps r 0)) (filter (λ r. get_or mask r false) (range_with_len 0 (length mask)))) +ℤ pos (sum_where mask (map wide ps))
total_wider [] [] f g wide e each = omega (arith, ints)
total_wider [] (p ∷ ps) f g wide e each = absurd (omega arith)
total_wider (b ∷ mask) [] f g wide e each = absurd (omega arith)
total_wider (true ∷ mask) (p ∷ ps) f g wide e each =
    let here : f p ≡ g p +ℤ pos (wide p) = each 0 (omega arith) refl in
    let rest = total_wider mask ps f g wide (omega arith) (later mask ps true p (λ p. f p ≡ g p +ℤ pos (wide p)) each) in
    let lows = total (map (λ r. g (get_or ps r 0)) (filter (λ r. get_or mask r false) (range_with_len 0 (length mask)))) in
    ap total (first_row (λ r. f (get_or (p ∷ ps) r 0)) true mask) ∙ ap (λ z. f p +ℤ z) rest ∙ ap (λ z. z +ℤ (lows +ℤ pos (sum_where mask (map wide ps)))) here
    ∙ spread_out (g p) lows (wide p) (sum_where mask (map wide ps))
    ∙ ap (λ z. z +ℤ pos (wide p + sum_where mask (map wide ps))) (sym (ap total (first_row (λ r. g (get_or (p ∷ ps) r 0)) true mask)))
  where
    spread_out : (a b : ℤ) (m n : ℕ) → ((a +ℤ pos m) +ℤ (b +ℤ pos n)) ≡ (a +ℤ b) +ℤ pos (m + n)
    spread_out a b m n = omega (arith, ints)
total_wider (false ∷ mask) (p ∷ ps) f g wide e each =
    let rest = total_wider mask ps f g wide (omega arith) (later mask ps false p (λ p. f p ≡ g p +ℤ pos (wide p)) each) in
    let lows = total (map (λ r. g (get_or ps r 0)) (filter (λ r. get_or mask r false) (range_with_len 0 (length mask)))) in
    ap total (first_row (λ r. f (get_or (p ∷ ps) r 0)) false mask) ∙ rest ∙ ap (λ n. lows +ℤ pos n) (let e : sum_where mask (map wide ps) ≡ 0 + sum_where mask (map wide ps) = omega arith in e)
    ∙ ap (λ z. z +ℤ pos (0 + sum_where mask (map wide ps))) (sym (ap total (first_row (λ r. g (get_or (p ∷ ps) r 0)) false mask)))

-- one of two numbers at each row
pub sum_of_two : (mask : List Bool) (ps : List ℕ) (test : ℕ → Bool) (a b others : ℕ) → length mask ≡ length ps →
    count_by (λ b. b) mask ≡ count_by (λ b. b) (zip2 (λ a b. a && b) mask (map test ps)) + others →
    sum_where mask (map (λ p. cond (test p) b a) ps) ≡ count_by (λ b. b) (zip2 (λ a b. a && b) mask (map test ps)) * b + others * a
sum_of_two mask ps test a b others e is =
    let parts = two mask ps test a b e in
    let same : count_by (λ b. b) (zip2 (λ a b. a && not b) mask (map test ps)) ≡ others = omega (arith, parts.0, is) in
    parts.1 ∙ ap (λ n. count_by (λ b. b) (zip2 (λ a b. a && b) mask (map test ps)) * b + n * a) same
  where
    put : (c o c' o' s s' a b : ℕ) (t : Bool) → c' ≡ cond t 1 0 + c → o' ≡ cond (not t) 1 0 + o → s' ≡ cond t b a + s → s ≡ c * b + o * a → s' ≡ c' * b + o' * a
    put c o c' o' s s' a b true e f g h = g ∙ omega (arith, h) ∙ ap (λ n. n * b + o * a) (sym e) ∙ ap (λ n. c' * b + n * a) (sym (let g : o' ≡ o = omega (arith, f) in g))
    put c o c' o' s s' a b false e f g h = g ∙ omega (arith, h) ∙ ap (λ n. n * b + (1 + o) * a) (sym (let g : c' ≡ c = omega (arith, e) in g)) ∙ ap (λ n. c' * b + n * a) (sym f)

    total_parts : (x c o c' o' : ℕ) (t : Bool) → x ≡ c + o → c' ≡ cond t 1 0 + c → o' ≡ cond (not t) 1 0 + o → 1 + x ≡ c' + o'
    total_parts x c o c' o' true e f g = omega (arith, e, f, g)
    total_parts x c o c' o' false e f g = omega (arith, e, f, g)

    two : (mask : List Bool) (ps : List ℕ) (test : ℕ → Bool) (a b : ℕ) → length mask ≡ length ps →
        (count_by (λ b. b) mask ≡ count_by (λ b. b) (zip2 (λ a b. a && b) mask (map test ps)) + count_by (λ b. b) (zip2 (λ a b. a && not b) mask (map test ps)))
        × (sum_where mask (map (λ p. cond (test p) b a) ps) ≡ count_by (λ b. b) (zip2 (λ a b. a && b) mask (map test ps)) * b + count_by (λ b. b) (zip2 (λ a b. a && not b) mask (map test ps)) * a)
    two [] [] test a b e = (omega arith, omega arith)
    two [] (p ∷ ps) test a b e = absurd (omega arith)
    two (x ∷ mask) [] test a b e = absurd (omega arith)
    two (true ∷ mask) (p ∷ ps) test a b e =
        let rest = two mask ps test a b (omega arith) in
        let both = sum_by-cons (λ b. cond {A = ℕ} b 1 0) (test p) (zip2 (λ a b. a && b) mask (map test ps)) in
        let others = sum_by-cons (λ b. cond {A = ℕ} b 1 0) (not (test p)) (zip2 (λ a b. a && not b) mask (map test ps)) in
        (sum_by-cons (λ b. cond b 1 0) true mask ∙ total_parts _ _ _ _ _ (test p) rest.0 both others, put _ _ _ _ _ _ a b (test p) both others refl rest.1)
    two (false ∷ mask) (p ∷ ps) test a b e =
        let rest = two mask ps test a b (omega arith) in
        let both : count_by (λ b. b) (zip2 (λ a b. a && b) (false ∷ mask) (map test (p ∷ ps))) ≡ count_by (λ b. b) (zip2 (λ a b. a && b) mask (map test ps)) = sum_by-cons (λ b. cond b 1 0) false (zip2 (λ a b. a && b) mask (map test ps)) ∙ omega arith in
        let others : count_by (λ b. b) (zip2 (λ a b. a && not b) (false ∷ mask) (map test (p ∷ ps))) ≡ count_by (λ b. b) (zip2 (λ a b. a && not b) mask (map test ps)) = sum_by-cons (λ b. cond b 1 0) false (zip2 (λ a b. a && not b) mask (map test ps)) ∙ omega arith in (
          sum_by-cons (λ b. cond b 1 0) false mask ∙ omega (arith, rest.0, both, others),
          omega (arith, rest.1) ∙ ap (λ n. n * b + count_by (λ b. b) (zip2 (λ a b. a && not b) mask (map test ps)) * a) (sym both) ∙ ap (λ n. count_by (λ b. b) (zip2 (λ a b. a && b) (false ∷ mask) (map test (p ∷ ps))) * b + n * a) (sym others),
        )

pub count_both-le : (mask bits : List Bool) → count_by (λ b. b) (zip2 (λ a b. a && b) mask bits) ≤ count_by (λ b. b) mask
count_both-le [] bits = omega arith
count_both-le (b ∷ mask) [] = omega arith
count_both-le (b ∷ mask) (x ∷ bits) =
    omega (arith, count_both-le mask bits, either b x, sum_by-cons (λ b. cond {A = ℕ} b 1 0) (b && x) (zip2 (λ a b. a && b) mask bits), sum_by-cons (λ b. cond {A = ℕ} b 1 0) b mask)
  where
    either : (b x : Bool) → cond {A = ℕ} (b && x) 1 0 ≤ cond {A = ℕ} b 1 0
    either true true = omega arith
    either true false = omega arith
    either false x = omega arith

-- ---- the rows of one mask, and those that only another has

part_of : (u v w u' v' w' x y : ℤ) → u' ≡ (x +ℤ y) +ℤ u → v' ≡ x +ℤ v → w' ≡ y +ℤ w → u ≡ v +ℤ w → u' ≡ v' +ℤ w'
part_of u v w u' v' w' x y all own other rest = omega (arith, ints, all, own, other, rest)

-- a function's values at the first row, if a mask has it, and at the others
first_value : (f : ℕ → ℤ) (b : Bool) (mask : List Bool) → total (map f (rows_in (b ∷ mask))) ≡ cond b (f 0) (pos 0) +ℤ total (map (λ r. f (suc r)) (rows_in mask))
first_value f true mask = ap total (first_row f true mask)
first_value f false mask = ap total (first_row f false mask) ∙ alone (total (map (λ r. f (suc r)) (rows_in mask)))
  where
    alone : (z : ℤ) → z ≡ pos 0 +ℤ z
    alone z = omega (arith, ints)

-- a mask without a row has no sum
pub total_of_none : (f : ℕ → ℤ) (mask : List Bool) → count_by (λ b. b) mask ≡ 0 → total (map f (rows_in mask)) ≡ pos 0
total_of_none f [] none = refl
total_of_none f (true ∷ mask) none = absurd (omega (arith, none, sum_by-cons (λ b. cond {A = ℕ} b 1 0) true mask))
total_of_none f (false ∷ mask) none =
    first_value f false mask ∙ ap (λ z. pos 0 +ℤ z) (total_of_none (λ r. f (suc r)) mask (omega (arith, none, sum_by-cons (λ b. cond {A = ℕ} b 1 0) false mask))) ∙ omega (arith, ints)

either_value : (z : ℤ) (a b : Bool) → cond (a || b) z (pos 0) ≡ cond b z (pos 0) +ℤ cond (a && not b) z (pos 0)
either_value z true true = omega (arith, ints)
either_value z true false = omega (arith, ints)
either_value z false true = omega (arith, ints)
either_value z false false = omega (arith, ints)

pub total_apart : (f : ℕ → ℤ) (a b : List Bool) → length a ≡ length b →
    total (map f (rows_in (zip2 (λ a b. a || b) a b))) ≡ total (map f (rows_in b)) +ℤ total (map f (rows_in (zip2 (λ a b. a && not b) a b)))
total_apart f [] [] e = omega (arith, ints)
total_apart f [] (y ∷ b) e = absurd (omega arith)
total_apart f (x ∷ a) [] e = absurd (omega arith)
total_apart f (x ∷ a) (y ∷ b) e =
    part_of _ _ _ _ _ _ (cond y (f 0) (pos 0)) (cond (x && not y) (f 0) (pos 0))
    (first_value f (x || y) (zip2 (λ a b. a || b) a b) ∙ ap (λ z. z +ℤ total (map (λ r. f (suc r)) (rows_in (zip2 (λ a b. a || b) a b)))) (either_value (f 0) x y))
    (first_value f y b) (first_value f (x && not y) (zip2 (λ a b. a && not b) a b)) (total_apart (λ r. f (suc r)) a b (omega (arith, e)))

pub count_apart : (a b : List Bool) → length a ≡ length b → count_by (λ b. b) (zip2 (λ a b. a || b) a b) ≡ count_by (λ b. b) b + count_by (λ b. b) (zip2 (λ a b. a && not b) a b)
count_apart [] [] e = omega arith
count_apart [] (y ∷ b) e = absurd (omega arith)
count_apart (x ∷ a) [] e = absurd (omega arith)
count_apart (x ∷ a) (y ∷ b) e =
    omega (
      arith,
      count_apart a b (omega (arith, e)),
      either x y,
      sum_by-cons (λ b. cond {A = ℕ} b 1 0) (x || y) (zip2 (λ a b. a || b) a b),
      sum_by-cons (λ b. cond {A = ℕ} b 1 0) y b,
      sum_by-cons (λ b. cond {A = ℕ} b 1 0) (x && not y) (zip2 (λ a b. a && not b) a b),
    )
  where
    either : (x y : Bool) → cond {A = ℕ} (x || y) 1 0 ≡ cond {A = ℕ} y 1 0 + cond {A = ℕ} (x && not y) 1 0
    either true true = omega arith
    either true false = omega arith
    either false true = omega arith
    either false false = omega arith
