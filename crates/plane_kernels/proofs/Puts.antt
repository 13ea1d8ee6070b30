-- Some elements of a list put in the place of others.
use Rattle.std.proofs.Common.{◌≡◌, ℕ, zero, suc, ◌+◌, ◌-◌, ◌*◌, ◌<◌, ◌≤◌, min, List, [], ◌∷◌, ◌++◌, length, take, drop, get_or, set, sym, refl, ap, subst, ◌∙◌, arith, inl, inr, zero-add, length-append}
use Rattle.std.proofs.Math.Nat.{suc-add}
use Rattle.std.proofs.lemmas.Bool.{cases_lt}
use Rattle.std.proofs.lemmas.List.{take_all}
use Rattle.std.proofs.lemmas.Simd.{length-put_chunk}
use Rattle.std.specs.Simd.Lanes.{put_chunk}
use Rattle.plane_kernels.specs.Rows.{bits_of, rows_of, IsPadded, HoldsRows}
use Rattle.plane_kernels.proofs.Bitwise.{written_back}
use Rattle.plane_kernels.proofs.RowLemmas.{length-bits_of}

-- nothing is put
pub put_none : {A : Type 0} (i : ℕ) (xs : List A) → put_chunk i xs [] ≡ xs
put_none i [] = refl
put_none zero (x ∷ xs) = refl
put_none (suc i) (x ∷ xs) = ap (λ l. x ∷ l) (put_none i xs)

-- behind the end nothing changes
put_past : {A : Type 0} (i : ℕ) (xs ys : List A) → length xs ≤ i → put_chunk i xs ys ≡ xs
put_past i [] ys h = refl
put_past zero (x ∷ xs) ys h = absurd (omega (arith, h))
put_past (suc i) (x ∷ xs) ys h = ap (λ l. x ∷ l) (put_past i xs ys (omega (arith, h)))

-- what would stand behind the end is not put
pub put_clipped : (q count : ℕ) (xs ys : List ℕ) → min (length xs - q) (length ys) ≤ count → put_chunk q xs (take count ys) ≡ put_chunk q xs ys
put_clipped q count [] ys h = refl
put_clipped (suc q) count (x ∷ xs) ys h = ap (λ l. x ∷ l) (put_clipped q count xs ys (omega (arith, h)))
put_clipped zero count (x ∷ xs) [] h = ap (put_chunk 0 (x ∷ xs)) (take_all count [] (omega arith))
put_clipped zero zero (x ∷ xs) (y ∷ ys) h = absurd (omega (arith, h))
put_clipped zero (suc count) (x ∷ xs) (y ∷ ys) h = ap (λ l. y ∷ l) (put_clipped zero count xs ys (omega (arith, h)))

-- one element more
pub put_next : (q i : ℕ) (xs ys : List ℕ) (v : ℕ) → i < length ys → q + i < length xs → v ≡ get_or ys i 0 → set (put_chunk q xs (take i ys)) (q + i) v ≡ put_chunk q xs (take (i + 1) ys)
put_next q i [] ys v h k e = absurd (omega (arith, k))
put_next (suc q) i (x ∷ xs) ys v h k e =
    ap (λ n. set (x ∷ put_chunk q xs (take i ys)) n v) (suc-add q i) ∙ ap (λ l. x ∷ l) (put_next q i xs ys v h (omega (arith, k)) e)
put_next zero i (x ∷ xs) [] v h k e = absurd (omega (arith, h))
put_next zero zero (x ∷ xs) (y ∷ ys) v h k e = ap (λ l. v ∷ l) (sym (put_none 0 xs)) ∙ ap (λ w. w ∷ put_chunk 0 xs []) e
put_next zero (suc i) (x ∷ xs) (y ∷ ys) v h k e =
    let at : 0 + i ≡ i = zero-add i in
    ap (λ n. set (y ∷ put_chunk 0 xs (take i ys)) n v) (zero-add (suc i))
    ∙ ap (λ n. y ∷ set (put_chunk 0 xs (take i ys)) n v) (sym at)
    ∙ ap (λ l. y ∷ l) (put_next zero i xs ys v (omega (arith, h)) (omega (arith, k)) e)
    ∙ ap (λ n. put_chunk 0 (x ∷ xs) (take n (y ∷ ys))) (sym (suc-add i 1))

pub put_front : {A : Type 0} (us vs xs ys : List A) → length us ≡ length vs → put_chunk 0 (us ++ xs) (vs ++ ys) ≡ vs ++ put_chunk 0 xs ys
put_front [] [] xs ys h = refl
put_front [] (v ∷ vs) xs ys h = absurd (omega (arith, h))
put_front (u ∷ us) [] xs ys h = absurd (omega (arith, h))
put_front (u ∷ us) (v ∷ vs) xs ys h = ap (λ l. v ∷ l) (put_front us vs xs ys (omega (arith, h)))

pub put_behind : {A : Type 0} (us xs ys : List A) (i : ℕ) → put_chunk (length us + i) (us ++ xs) ys ≡ us ++ put_chunk i xs ys
put_behind [] xs ys i = ap (λ n. put_chunk n xs ys) (zero-add i)
put_behind (u ∷ us) xs ys i = ap (λ n. put_chunk n (u ∷ (us ++ xs)) ys) (suc-add (length us) i) ∙ ap (λ l. u ∷ l) (put_behind us xs ys i)

-- ---- words that are put are rows that are put

pub rows_of-none : (ws : List ℕ) → rows_of 0 ws ≡ []
rows_of-none [] = refl
rows_of-none (w ∷ ws) = rows_of-none ws

-- no word past the last row has rows
pub none_left : (n : ℕ) (ws : List ℕ) → n ≤ 64 → rows_of (n - 64) ws ≡ []
none_left n ws h = (let none : n - 64 ≡ 0 = omega (arith, h) in ap (λ m. rows_of m ws) none ∙ rows_of-none ws)

rows_of-put_front : (n : ℕ) (ws vs : List ℕ) → rows_of n (put_chunk 0 ws vs) ≡ put_chunk 0 (rows_of n ws) (rows_of n vs)
rows_of-put_front n [] vs = refl
rows_of-put_front n (w ∷ ws) [] = sym (put_none 0 (rows_of n (w ∷ ws)))
rows_of-put_front n (w ∷ ws) (v ∷ vs) =
    let size = min n 64 in
    let same : length (bits_of size w) ≡ length (bits_of size v) = length-bits_of size w ∙ sym (length-bits_of size v) in
    ap (λ l. bits_of size v ++ l) (rows_of-put_front (n - 64) ws vs)
    ∙ sym (put_front (bits_of size w) (bits_of size v) (rows_of (n - 64) ws) (rows_of (n - 64) vs) same)

rows_of-put : (q n : ℕ) (ws vs : List ℕ) → rows_of n (put_chunk q ws vs) ≡ put_chunk (64 * q) (rows_of n ws) (rows_of (n - 64 * q) vs)
rows_of-put q n [] vs = refl
rows_of-put zero n (w ∷ ws) vs =
    let start : 64 * 0 ≡ 0 = omega arith in
    let all : n - 64 * 0 ≡ n = omega arith in
    rows_of-put_front n (w ∷ ws) vs ∙ sym (ap (λ i. put_chunk i (rows_of n (w ∷ ws)) (rows_of (n - 64 * 0) vs)) start ∙ ap (λ m. put_chunk 0 (rows_of n (w ∷ ws)) (rows_of m vs)) all)
rows_of-put (suc q) n (w ∷ ws) vs =
    let first = bits_of (min n 64) w in
    let rest = rows_of (n - 64) ws in
    let new = rows_of (n - 64 * suc q) vs in
    let long = length-bits_of (min n 64) w in
    elim (cases_lt n 64) [
      | inl low ↦
          let few : length (first ++ rest) ≤ 64 * suc q = omega (arith, low, long, length-append first rest, ap length (none_left n ws (omega (arith, low)))) in
          ap (λ l. first ++ l) (none_left n (put_chunk q ws vs) (omega (arith, low)) ∙ sym (none_left n ws (omega (arith, low)))) ∙ sym (put_past (64 * suc q) (first ++ rest) new few)
      | inr high ↦
          let at : length first + 64 * q ≡ 64 * suc q = omega (arith, long, high) in
          let left : n - 64 - 64 * q ≡ n - 64 * suc q = omega arith in
          ap (λ l. first ++ l) (rows_of-put q (n - 64) ws vs ∙ ap (λ m. put_chunk (64 * q) rest (rows_of m vs)) left)
          ∙ sym (put_behind first rest new (64 * q)) ∙ ap (λ i. put_chunk i (first ++ rest) new) at
    ]

padded-put : (q n : ℕ) (ws vs : List ℕ) → IsPadded n ws → IsPadded (n - 64 * q) vs → IsPadded n (put_chunk q ws vs)
padded-put q n [] vs p r = tt
padded-put zero n (w ∷ ws) [] p r = p
padded-put zero n (w ∷ ws) (v ∷ vs) p r =
    let all : n - 64 * 0 ≡ n = omega arith in
    let new : IsPadded n (v ∷ vs) = subst (λ m. IsPadded m (v ∷ vs)) all r in
    let start : n - 64 - 64 * 0 ≡ n - 64 = omega arith in
    (new.0, padded-put 0 (n - 64) ws vs p.1 (subst (λ m. IsPadded m vs) (sym start) new.1))
padded-put (suc q) n (w ∷ ws) vs p r =
    let left : n - 64 * suc q ≡ n - 64 - 64 * q = omega arith in
    (p.0, padded-put q (n - 64) ws vs p.1 (subst (λ m. IsPadded m vs) left r))

-- words with others put among them, and their rows
pub record ArePut (n q : ℕ) (ws vs us : List ℕ) : Type 0 where
  pub words : us ≡ put_chunk q ws vs
  pub holds : HoldsRows n us
  pub rows : rows_of n us ≡ put_chunk (64 * q) (rows_of n ws) (rows_of (n - 64 * q) vs)

pub are_put : (n q : ℕ) (ws vs : List ℕ) → HoldsRows n ws → IsPadded (n - 64 * q) vs → ArePut n q ws vs (put_chunk q ws vs)
are_put n q ws vs p r =
    let long = length-put_chunk q ws vs in
    record {
      words = refl;
      holds = record { room = omega (arith, long, p.room); tight = omega (arith, long, p.tight); padded = padded-put q n ws vs p.padded r };
      rows = rows_of-put q n ws vs;
    }

-- what a Vec of the first words holds once the others are put among them
pub put_back : (n q : ℕ) (ws vs into a : List ℕ) (len : ℕ) → HoldsRows n ws → IsPadded (n - 64 * q) vs → into ≡ put_chunk q a vs → a ≡ ws → length a ≡ len
    → ArePut n q ws vs (take len (into ++ drop (length into) ws))
put_back n q ws vs into a len p r now front long =
    let whole = written_back into ws (put_chunk q ws vs) a len (now ∙ ap (λ l. put_chunk q l vs) front) (length-put_chunk q ws vs) front long in
    subst (ArePut n q ws vs) (sym whole) (are_put n q ws vs p r)
