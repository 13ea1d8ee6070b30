-- Blocks of rows, digit by digit.
use Rattle.std.proofs.Common.{◌≡◌, ◌≢◌, ℕ, zero, suc, ◌+◌, ◌*◌, ◌/◌, ◌%◌, ◌^◌, ◌<◌, ◌≤◌, ◌==◌, Bool, true, false, List, [], ◌∷◌, All, length, take, drop, set, get_or, cond, inl, inr, refl, ap, sym, subst, ◌∙◌, arith}
use Rattle.std.specs.List.{fold}
use Rattle.std.proofs.lemmas.Bool.{cases_eq}
use Rattle.std.proofs.lemmas.List.{get_or-set_same, get_or-set_other}
use Rattle.std.proofs.Math.Nat.{pow-succ', mul-le-mul_right}
use Rattle.plane_kernels.specs.Rows.{bits_of}
use Rattle.query_model.specs.Knowledge.{longer}
use Rattle.known_column.specs.Columns.{block_rows}

-- ---- a list that is written from its start on

pub done_further : (xs ys : List ℕ) (i v : ℕ) → i < length xs → v ≡ get_or ys i 0 → ((k : ℕ) → k < i → get_or xs k 0 ≡ get_or ys k 0) →
    (k : ℕ) → k < i + 1 → get_or (set xs i v) k 0 ≡ get_or ys k 0
done_further xs ys i v h e before k below =
    elim (cases_eq k i) [
      | inl here ↦ subst (λ j. get_or (set xs i v) j 0 ≡ get_or ys j 0) (sym here) (get_or-set_same xs i v 0 h ∙ e)
      | inr other ↦ get_or-set_other xs i k v 0 other ∙ before k (omega arith)
    ]

pub left_further : (xs ys : List ℕ) (i v : ℕ) → ((k : ℕ) → i ≤ k → get_or xs k 0 ≡ get_or ys k 0) → (k : ℕ) → i + 1 ≤ k → get_or (set xs i v) k 0 ≡ get_or ys k 0
left_further xs ys i v after k above =
    let other : k ≢ i = omega arith in
    get_or-set_other xs i k v 0 other ∙ after k (omega arith)

-- ---- parts of longer lists

longer-nil : (ps : List ℕ) → longer ps [] ≡ []
longer-nil [] = refl
longer-nil (p ∷ ps) = refl

pub take-longer : (n : ℕ) (ps : List ℕ) (bits : List Bool) → take n (longer ps bits) ≡ longer (take n ps) (take n bits)
take-longer zero ps bits = refl
take-longer (suc n) [] bits = refl
take-longer (suc n) (p ∷ ps) [] = refl
take-longer (suc n) (p ∷ ps) (b ∷ bits) = ap (λ l. (2 * p + cond b 1 0) ∷ l) (take-longer n ps bits)

pub drop-longer : (n : ℕ) (ps : List ℕ) (bits : List Bool) → drop n (longer ps bits) ≡ longer (drop n ps) (drop n bits)
drop-longer zero ps bits = refl
drop-longer (suc n) [] bits = refl
drop-longer (suc n) (p ∷ ps) [] = sym (longer-nil (drop n ps))
drop-longer (suc n) (p ∷ ps) (b ∷ bits) = drop-longer n ps bits

block-longer : (block : ℕ) (ps : List ℕ) (bits : List Bool) → block_rows block (longer ps bits) ≡ longer (block_rows block ps) (block_rows block bits)
block-longer block ps bits = ap (take 64) (drop-longer (64 * block) ps bits) ∙ take-longer 64 (drop (64 * block) ps) (drop (64 * block) bits)

-- the block of what planes give is what their blocks give
pub block_of_planes : (block : ℕ) (planes : List (List Bool)) (qs : List ℕ) → block_rows block (fold longer qs planes) ≡ fold (λ numbers plane. longer numbers (block_rows block plane)) (block_rows block qs) planes
block_of_planes block [] qs = refl
block_of_planes block (p ∷ ps) qs =
    block_of_planes block ps (longer qs p) ∙ ap (λ l. fold (λ numbers plane. longer numbers (block_rows block plane)) l ps) (block-longer block qs p)

pub take-bits_of : (k n w : ℕ) → k ≤ n → take k (bits_of n w) ≡ bits_of k w
take-bits_of zero n w h = refl
take-bits_of (suc k) zero w h = absurd (omega arith)
take-bits_of (suc k) (suc n) w h = ap (λ l. (w % 2 == 1) ∷ l) (take-bits_of k n (w / 2) (omega arith))

-- numbers of so many digits have one more
small_one : (bound p : ℕ) (b : Bool) → p < 2 ^ bound → 2 * p + cond b 1 0 < 2 ^ (bound + 1)
small_one bound p true h = (let twice : 2 ^ suc bound ≡ 2 * 2 ^ bound = pow-succ' 2 bound in let same : bound + 1 ≡ suc bound = omega arith in omega (arith, h, twice, ap (λ k. 2 ^ k) same))
small_one bound p false h = (let twice : 2 ^ suc bound ≡ 2 * 2 ^ bound = pow-succ' 2 bound in let same : bound + 1 ≡ suc bound = omega arith in omega (arith, h, twice, ap (λ k. 2 ^ k) same))

pub small-longer : (bound : ℕ) (ps : List ℕ) (bits : List Bool) → All (λ p. p < 2 ^ bound) ps → (k d : ℕ) → k < length (longer ps bits) → get_or (longer ps bits) k d < 2 ^ (bound + 1)
small-longer bound [] bits small k d below = absurd (omega arith)
small-longer bound (p ∷ ps) [] small k d below = absurd (omega arith)
small-longer bound (p ∷ ps) (b ∷ bits) small zero d below = small_one bound p b (small 0 0 (omega arith))
small-longer bound (p ∷ ps) (b ∷ bits) small (suc k) d below = small-longer bound ps bits (λ i e h. small (suc i) e (omega arith)) k d (omega arith)

-- ---- numbers without the digit that tells null

-- digits behind a number
pub digits_behind : (r : ℕ) (planes : List (List Bool)) (start : ℕ) →
    fold (λ n plane. 2 * n + cond (get_or plane r false) 1 0) start planes ≡ start * 2 ^ length planes + fold (λ n plane. 2 * n + cond (get_or plane r false) 1 0) 0 planes
digits_behind r [] start = omega arith
digits_behind r (p ∷ ps) start =
    let b : ℕ = cond (get_or p r false) 1 0 in
    let rest = fold (λ n plane. 2 * n + cond (get_or plane r false) 1 0) 0 ps in
    let twice : 2 ^ suc (length ps) ≡ 2 * 2 ^ length ps = pow-succ' 2 (length ps) in
    let here = digits_behind r ps (2 * start + b) in
    let there = digits_behind r ps (2 * 0 + b) in
    omega (arith, here, there, ap (λ k. start * k) twice)

pub digits_small : (r : ℕ) (planes : List (List Bool)) → fold (λ n plane. 2 * n + cond (get_or plane r false) 1 0) 0 planes < 2 ^ length planes
digits_small r [] = omega arith
digits_small r (p ∷ ps) =
    let b : ℕ = cond (get_or p r false) 1 0 in
    let twice : 2 ^ suc (length ps) ≡ 2 * 2 ^ length ps = pow-succ' 2 (length ps) in
    omega (arith, digits_behind r ps (2 * 0 + b), digits_small r ps, twice, bit_small (get_or p r false), mul-le-mul_right (2 ^ length ps) (bit_small (get_or p r false)))
  where
    bit_small : (b : Bool) → cond {A = ℕ} b 1 0 ≤ 1
    bit_small true = omega arith
    bit_small false = omega arith
