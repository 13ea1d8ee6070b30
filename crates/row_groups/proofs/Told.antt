-- The cells of rows by their masks, and how they are written.
use Rattle.std.proofs.Common.{◌≡◌, ◌≢◌, ℕ, zero, suc, ◌+◌, ◌-◌, ◌/◌, ◌%◌, ◌^◌, ◌<◌, ◌≤◌, ◌==◌, nat_eq, Bool, true, false, if◌then◌else◌, List, [], ◌∷◌, length, length-set, map, replicate, get_or, set, drop, inl, inr, refl, sym, ap, ◌∙◌, arith, All}
use Rattle.std.specs.Int.{bit_at}
use Rattle.std.specs.List.{range_with_len}
use Rattle.std.specs.Simd.Lanes.{zip2}
use Rattle.std.proofs.Math.Nat.{div-div-eq-div-mul}
use Rattle.std.proofs.lemmas.Bool.{cases_eq, cases_lt, eq-eqb, ne_eqb}
use Rattle.std.proofs.lemmas.List.{drop_more, ext_get_or, get_or-replicate, get_or-set_other, get_or-set_same, length-replicate}
use Rattle.std.proofs.lemmas.List.FromFn.{fill_by_all, get_or-map-range_with_len, length-map-range_with_len}
use Rattle.std.proofs.lemmas.Nat.{pow-add}
use Rattle.std.proofs.lemmas.Option.{get_or_from_slice_get}
use Rattle.std.proofs.lemmas.Simd.{get_or-zip2, length-zip2}
use Rattle.plane_kernels.specs.Rows.{bits_of}
use Rattle.plane_kernels.proofs.RowLemmas.{get-bits_of, length-bits_of}
use Rattle.row_groups.specs.Keeping.{HaveCells, cells_told, first_with, told_cells, written}

-- ---- the first mask that has a row

module _ (row : ℕ) where
  pub first_here : (m : List Bool) (ms : List (List Bool)) → get_or m row false ≡ true → first_with row (m ∷ ms) ≡ 0
  first_here m ms has = ap (λ (b : Bool). if b then 0 else suc (first_with row ms)) has

  pub first_later : (m : List Bool) (ms : List (List Bool)) → get_or m row false ≡ false → first_with row (m ∷ ms) ≡ suc (first_with row ms)
  first_later m ms none = ap (λ (b : Bool). if b then 0 else suc (first_with row ms)) none

  first_at : (masks : List (List Bool)) (k : ℕ) → k < length masks → ((j : ℕ) → j < k → get_or (get_or masks j []) row false ≡ false) → get_or (get_or masks k []) row false ≡ true →
      first_with row masks ≡ k
  first_at [] k h none has = absurd (omega arith)
  first_at (m ∷ ms) zero h none has = first_here m ms has
  first_at (m ∷ ms) (suc k) h none has = first_later m ms (none 0 (omega arith)) ∙ ap suc (first_at ms k (omega arith) (λ j lt. none (suc j) (omega arith)) has)

-- of those from one on
pub first_found : (row cell : ℕ) (masks : List (List Bool)) (mask : List Bool) → cell < length masks → get_or masks cell [] ≡ mask → get_or mask row false ≡ true → first_with row (drop cell masks) ≡ 0
first_found row cell masks mask within is has =
    ap (first_with row) (drop_more masks cell [] within ∙ ap (λ m. m ∷ drop (cell + 1) masks) is) ∙ first_here row mask (drop (cell + 1) masks) has

pub first_passed : (row cell : ℕ) (masks : List (List Bool)) (mask : List Bool) → cell < length masks → get_or masks cell [] ≡ mask → get_or mask row false ≡ false →
    first_with row (drop cell masks) ≡ suc (first_with row (drop (cell + 1) masks))
first_passed row cell masks mask within is none =
    ap (first_with row) (drop_more masks cell [] within ∙ ap (λ m. m ∷ drop (cell + 1) masks) is) ∙ first_later row mask (drop (cell + 1) masks) none

-- where masks have the rows of the cells, they tell them
pub told_are : (rows n : ℕ) (masks : List (List Bool)) (cells : List ℕ) → length cells ≡ rows → All (λ c. c < n) cells → n ≤ length masks → HaveCells n cells masks → cells_told rows masks ≡ cells
told_are rows n masks cells long small few have = sym (fill_by_all (λ row. first_with row masks) cells rows 0 long (λ row below.
    (let k = get_or cells row 0 in
    let within : k < n = small row 0 (omega (arith, long, below)) in
    let bit : (j : ℕ) → j < n → get_or (get_or masks j []) row false ≡ (k == j) = λ j lt.
    ap (λ m. get_or m row false) (have j lt) ∙ get_or-map_any (λ c. c == j) cells row (omega (arith, long, below)) in
    sym (first_at row masks k (omega (arith, within, few)) (λ j lt. bit j (omega (arith, lt, within)) ∙ ne_eqb k j (λ e. absurd (omega (arith, e, lt)))) (bit k within ∙ eq-eqb k k refl)))))
  where
    get_or-map_any : (f : ℕ → Bool) (xs : List ℕ) (i : ℕ) → i < length xs → get_or (map f xs) i false ≡ f (get_or xs i 0)
    get_or-map_any f [] i h = absurd (omega arith)
    get_or-map_any f (x ∷ xs) zero h = refl
    get_or-map_any f (x ∷ xs) (suc i) h = get_or-map_any f xs i (omega arith)

pub length-told : (rows : ℕ) (masks : List (List Bool)) → length (cells_told rows masks) ≡ rows
length-told rows masks = length-map-range_with_len (λ row. first_with row masks) 0 rows

-- what is written for each row stays
pub told_again : (rows : ℕ) (masks : List (List Bool)) (cells : List ℕ) → length cells ≡ rows → told_cells rows masks cells ≡ cells
told_again rows masks [] long = ap (λ n. cells_told n masks) (sym long)
told_again rows masks (cell ∷ cells) long = refl

pub written_rows : (rows : ℕ) (masks : List (List Bool)) (cells : List ℕ) → length (told_cells rows masks cells) ≡ rows → cells ≢ [] → length cells ≡ rows
written_rows rows masks [] long some = absurd (some refl)
written_rows rows masks (cell ∷ cells) long some = long

-- ---- one word is written

rest_bit : (word at j : ℕ) → bit_at (word / 2 ^ at) j ≡ bit_at word (at + j)
rest_bit word at j = ap (λ n. n % 2) (div-div-eq-div-mul word (2 ^ at) (2 ^ j) ∙ ap (λ n. word / n) (sym (pow-add 2 at j)))

-- the places below one are written, the others are as they were
pub record IsWrittenBelow (old now : List ℕ) (word number at : ℕ) : Type 0 where
  pub long : length now ≡ length old
  pub done : (i : ℕ) → i < at → get_or now i 0 ≡ written number (get_or old i 0) (nat_eq (bit_at word i) 1)
  pub left : (i : ℕ) → at ≤ i → get_or now i 0 ≡ get_or old i 0

pub none_written : (old : List ℕ) (word number : ℕ) → IsWrittenBelow old old word number 0
none_written old word number = record { long = refl; done = λ i lt. absurd (omega (arith, lt)); left = λ i h. refl }

-- a place whose bit is 0 is as it was
as_it_was : (number old bit : ℕ) → bit ≡ 0 → written number old (nat_eq bit 1) ≡ old
as_it_was number old bit none = ap (λ n. written number old (nat_eq n 1)) none

-- the next place is written
pub next_written : (old now : List ℕ) (word number at place : ℕ) → IsWrittenBelow old now word number at → at ≤ place → place < length now →
    ((i : ℕ) → at ≤ i → i < place → bit_at word i ≡ 0) → bit_at word place ≡ 1 → IsWrittenBelow old (set now place number) word number (place + 1)
next_written old now word number at place below least within zeros one = record {
  long = length-set now place number ∙ below.long;
  done = λ i lt. elim (cases_eq i place) [
    | inl here ↦
        ap (λ j. get_or (set now place number) j 0) here ∙ get_or-set_same now place number 0 within
        ∙ sym (ap (λ n. written number (get_or old i 0) (nat_eq n 1)) (ap (bit_at word) here ∙ one))
    | inr other ↦ get_or-set_other now place i number 0 other ∙ elim (cases_lt i at) [
      | inl low ↦ below.done i low
      | inr high ↦ below.left i (omega (arith, high)) ∙ sym (as_it_was number (get_or old i 0) (bit_at word i) (zeros i (omega (arith, high)) (omega (arith, lt, other))))
    ]
  ];
  left = λ i h. get_or-set_other now place i number 0 (λ e. absurd (omega (arith, e, h))) ∙ below.left i (omega (arith, h, least));
}

-- all are, where no further bit is 1
pub all_written : (old now : List ℕ) (word number at : ℕ) → IsWrittenBelow old now word number at → ((i : ℕ) → at ≤ i → i < length old → bit_at word i ≡ 0) →
    now ≡ zip2 (written number) old (bits_of (length old) word)
all_written old now word number at below zeros =
    let bits = bits_of (length old) word in
    let long = length-bits_of (length old) word in
    ext_get_or 0 now (zip2 (written number) old bits) (below.long ∙ sym (length-zip2 (written number) old bits (sym long))) (λ i lt.
    (let within : i < length old = omega (arith, lt, ap (λ n. n) below.long) in
    let read : get_or bits i false ≡ nat_eq (bit_at word i) 1 = get_or_from_slice_get bits i _ false (get-bits_of (length old) word i within) in
    let target : get_or (zip2 (written number) old bits) i 0 ≡ written number (get_or old i 0) (get_or bits i false) = get_or-zip2 (written number) old bits i 0 false 0 within (omega (arith, within, long)) in
    elim (cases_lt i at) [
      | inl low ↦ below.done i low
      | inr high ↦ below.left i (omega (arith, high)) ∙ sym (as_it_was number (get_or old i 0) (bit_at word i) (zeros i (omega (arith, high)) within))
    ] ∙ sym (target ∙ ap (written number (get_or old i 0)) read)))

-- the bits of what is left of a word
module _ (word at rest : ℕ) (is : rest ≡ word / 2 ^ at) where
  pub rest_is : (j : ℕ) → bit_at rest j ≡ bit_at word (at + j)
  rest_is j = ap (λ n. bit_at n j) is ∙ rest_bit word at j

  pub rest_from : (i : ℕ) → at ≤ i → bit_at word i ≡ bit_at rest (i - at)
  rest_from i h = ap (bit_at word) (let e : i ≡ at + (i - at) = omega (arith, h) in e) ∙ sym (rest_is (i - at))

  pub rest_next : (skipped : ℕ) → rest / 2 ^ skipped / 2 ≡ word / 2 ^ (at + skipped + 1)
  rest_next skipped =
      ap (λ n. n / 2 ^ skipped / 2) is ∙ ap (λ n. n / 2) (div-div-eq-div-mul word (2 ^ at) (2 ^ skipped) ∙ ap (λ n. word / n) (sym (pow-add 2 at skipped)))
      ∙ div-div-eq-div-mul word (2 ^ (at + skipped)) 2 ∙ ap (λ n. word / n) (sym (pow-add 2 (at + skipped) 1))

-- ---- one mask is written

-- the cells where those of the masks from one on are written
abbrev pub told_from : ℕ → List (List Bool) → ℕ → List ℕ
told_from rows masks cell = map (λ row. cell + first_with row (drop cell masks)) (range_with_len 0 rows)

pub told_from_last : (rows : ℕ) (masks : List (List Bool)) (cells : List ℕ) → cells ≡ replicate rows (length masks) → cells ≡ told_from rows masks (length masks)
told_from_last rows masks cells is =
    let past : drop (length masks) masks ≡ [] = drop_past masks in
    fill_by_all (λ row. length masks + first_with row (drop (length masks) masks)) cells rows 0 (ap length is ∙ length-replicate rows (length masks)) (λ row below.
    ap (λ l. get_or l row 0) is ∙ get_or-replicate rows row (length masks) 0 below
    ∙ sym (ap (λ l. length masks + first_with row l) past ∙ (let e : length masks + 0 ≡ length masks = omega arith in e)))
  where
    drop_past : (ms : List (List Bool)) → drop (length ms) ms ≡ []
    drop_past [] = refl
    drop_past (m ∷ ms) = drop_past ms

pub told_from_before : (rows cell : ℕ) (masks : List (List Bool)) (mask : List Bool) (d : List Bool) → cell < length masks → mask ≡ get_or masks cell d → length mask ≡ rows →
    zip2 (written cell) (told_from rows masks (cell + 1)) mask ≡ told_from rows masks cell
told_from_before rows cell masks mask d within is long =
    let later : ℕ → ℕ = λ row. cell + 1 + first_with row (drop (cell + 1) masks) in
    let old = told_from rows masks (cell + 1) in
    let same : length old ≡ rows = length-map-range_with_len later 0 rows in
    let split : drop cell masks ≡ mask ∷ drop (cell + 1) masks = drop_more masks cell d within ∙ ap (λ m. m ∷ drop (cell + 1) masks) (sym is) in
    fill_by_all (λ row. cell + first_with row (drop cell masks)) (zip2 (written cell) old mask) rows 0 (length-zip2 (written cell) old mask (same ∙ sym long) ∙ same) (λ row below.
    get_or-zip2 (written cell) old mask row 0 false 0 (omega (arith, below, same)) (omega (arith, below, long))
    ∙ ap (λ n. written cell n (get_or mask row false)) (get_or-map-range_with_len later 0 rows row row 0 below (omega arith))
    ∙ one row (get_or mask row false) refl ∙ ap (λ l. cell + first_with row l) (sym split))
  where
    one : (row : ℕ) (bit : Bool) → get_or mask row false ≡ bit → written cell (cell + 1 + first_with row (drop (cell + 1) masks)) (get_or mask row false) ≡ cell + first_with row (mask ∷ drop (cell + 1) masks)
    one row true has = ap (written cell (cell + 1 + first_with row (drop (cell + 1) masks))) has ∙ (let e : cell ≡ cell + 0 = omega arith in e) ∙ ap (λ n. cell + n) (sym (first_here row mask (drop (cell + 1) masks) has))
    one row false none =
        ap (written cell (cell + 1 + first_with row (drop (cell + 1) masks))) none
        ∙ (let e : cell + 1 + first_with row (drop (cell + 1) masks) ≡ cell + suc (first_with row (drop (cell + 1) masks)) = omega arith in e)
        ∙ ap (λ n. cell + n) (sym (first_later row mask (drop (cell + 1) masks) none))

-- ---- the next digit

-- a function of the cells and of bits, put to those that are written
pub told_next : (rows : ℕ) (masks parted : List (List Bool)) (f : ℕ → Bool → ℕ) (now cells : List ℕ) (bits : List Bool) → told_cells rows masks now ≡ cells → length bits ≡ length cells →
    (now ≡ [] → cells_told rows parted ≡ zip2 f cells bits) → told_cells rows parted (zip2 f now bits) ≡ zip2 f cells bits
told_next rows masks parted f [] cells bits is long few = few refl
told_next rows masks parted f (x ∷ now) cells [] is long few = absurd (let some : suc (length now) ≡ length cells = ap length is in omega (arith, some, long))
told_next rows masks parted f (x ∷ now) cells (b ∷ bits) is long few = ap (λ l. zip2 f l (b ∷ bits)) is

-- where no row is written, there are few cells, or no row
pub told_few : (rows n : ℕ) (parted : List (List Bool)) (target now cells : List ℕ) → length cells ≡ rows → length target ≡ rows → All (λ c. c < n) target → length parted ≡ 16 →
    (n ≤ 16 → HaveCells n target parted) → (16 < n → now ≡ cells) → now ≡ [] → cells_told rows parted ≡ target
told_few rows n parted target now cells long same small count have many none = elim (cases_lt 16 n) [
  | inl more ↦ (
      let no_rows : rows ≡ 0 = sym long ∙ ap length (sym (many more) ∙ none) in
      ap (λ k. cells_told k parted) no_rows ∙ sym (empty target (same ∙ no_rows)))
  | inr few ↦ told_are rows n parted target same small (omega (arith, few, count)) (have (omega (arith, few)))
]
  where
    empty : (l : List ℕ) → length l ≡ 0 → l ≡ []
    empty [] e = refl
    empty (x ∷ l) e = absurd (omega (arith, e))
