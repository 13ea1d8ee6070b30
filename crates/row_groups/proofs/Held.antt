-- What is kept of cells: at the start, and after the next plane of a group column.
use Rattle.std.proofs.Common.{◌≡◌, ◌≢◌, ℕ, zero, suc, ◌+◌, ◌^◌, ◌<◌, ◌≤◌, Bool, List, [], ◌∷◌, length, replicate, get_or, slice_get, Some, refl, sym, ap, subst, ◌∙◌, arith, All, IsTrue}
use Rattle.std.specs.Simd.Lanes.{zip2}
use Rattle.std.proofs.Math.Nat.{pow-le-pow_right}
use Rattle.std.proofs.lemmas.List.{length-replicate}
use Rattle.std.proofs.lemmas.List.FromFn.{get_or-map-range_with_len}
use Rattle.std.proofs.lemmas.Option.{slice_get-get_or}
use Rattle.std.proofs.lemmas.Simd.{length-zip2}
use Rattle.row_groups.specs.declared.part.GroupPart.{GroupPart}
use Rattle.row_groups.specs.Keeping.{AreFirst, AreHeld, AreKept, HaveCells, HaveRows, cells_told, digits_behind, first_with, inserted, told_cells}
use Rattle.row_groups.specs.Partition.{digits_of, has_unread, raised}
use Rattle.row_groups.proofs.Joining.{digits_raised, kept_refined}
use Rattle.row_groups.proofs.Picked.{first_cells, first_rows}
use Rattle.row_groups.proofs.Told.{length-told, told_are, told_few, told_next}

-- ---- nothing is read

pub zeros : (n k d : ℕ) → k < n → get_or (replicate n 0) k d ≡ 0
zeros zero k d h = absurd (omega (arith, h))
zeros (suc n) zero d h = refl
zeros (suc n) (suc k) d h = zeros n k d (omega (arith, h))

module _ (rows : ℕ) (masks : List (List Bool)) (cells : List ℕ) (count : length masks ≡ 16) (first : AreFirst rows masks) (none : cells ≡ []) where
  have_first : HaveCells 1 (replicate rows 0) masks
  have_first = first_cells rows masks (omega (arith, count)) first

  pub told_first : told_cells rows masks cells ≡ replicate rows 0
  told_first =
      ap (told_cells rows masks) none
      ∙ told_are rows 1 masks (replicate rows 0) (length-replicate rows 0) (λ k d below. (let is = zeros rows k d (omega (arith, below, length-replicate {A = ℕ} rows 0)) in omega (arith, is))) (omega (arith, count)) have_first

  pub held_first : (parts : List GroupPart) (room : ℕ) → AreKept parts (replicate rows 0) → digits_of parts ≡ 0 → rows ≤ room → AreHeld parts rows masks cells room
  held_first parts room kept unread enough =
      let one : 2 ^ digits_of parts ≡ 1 = ap (λ n. 2 ^ n) unread in
      record {
        kept = subst (AreKept parts) (sym told_first) kept;
        count = count;
        long = first_rows rows masks first;
        same = ap length told_first ∙ length-replicate rows 0;
        told = λ fits. subst (λ ns. HaveCells (2 ^ digits_of parts) ns masks) (sym told_first) (subst (λ n. HaveCells n (replicate rows 0) masks) (sym one) have_first);
        many = λ more. absurd (omega (arith, more, one));
        room_left = λ none. enough;
      }

-- ---- one more plane

-- what is true of each cell is true of each that is written
pub all_told : (P : ℕ → Type 0) (rows : ℕ) (masks : List (List Bool)) (now cells : List ℕ) → told_cells rows masks now ≡ cells → All P cells → All P now
all_told P rows masks [] cells is all = λ k d below. absurd (omega (arith, below))
all_told P rows masks (x ∷ now) cells is all = subst (All P) (sym is) all

pub long_told : (rows : ℕ) (masks : List (List Bool)) (now cells : List ℕ) → told_cells rows masks now ≡ cells → now ≢ [] → length cells ≡ length now
long_told rows masks [] cells is some = absurd (some refl)
long_told rows masks (x ∷ now) cells is some = ap length (sym is)

none_left : (f : ℕ → Bool → ℕ) (now : List ℕ) (bits : List Bool) → length (zip2 f now bits) ≡ length now → zip2 f now bits ≡ [] → now ≡ []
none_left f [] bits same none = refl
none_left f (x ∷ now) bits same none = absurd (let e : suc (length now) ≡ 0 = sym same ∙ ap length none in omega (arith, e))

module _ (ps : List GroupPart) (col rows : ℕ) (masks parted : List (List Bool)) (before now : List ℕ) (bits : List Bool) (old_room room : ℕ) (held : AreHeld ps rows masks before old_room)
    (unread : IsTrue (has_unread ps col)) (long : length bits ≡ rows) (same : told_cells rows masks now ≡ told_cells rows masks before)
    (many : 16 < 2 ^ (digits_of ps + 1) → now ≡ told_cells rows masks before) (left : now ≡ [] → rows ≤ room) (count : length parted ≡ length masks) (wide : HaveRows (length bits) parted)
    (part : 2 ^ (digits_of ps + 1) ≤ length masks → HaveCells (2 ^ digits_of ps) (told_cells rows masks before) masks
    → HaveCells (2 ^ (digits_of ps + 1)) (zip2 (inserted (digits_behind ps col)) (told_cells rows masks before) bits) parted) where
  abbrev cells : List ℕ
  cells = told_cells rows masks before

  abbrev target : List ℕ
  target = zip2 (inserted (digits_behind ps col)) cells bits

  rows_are : length bits ≡ length cells
  rows_are = long ∙ sym held.same

  target_long : length target ≡ rows
  target_long = length-zip2 (inserted (digits_behind ps col)) cells bits (sym rows_are) ∙ held.same

  digits : digits_of (raised ps col) ≡ digits_of ps + 1
  digits = digits_raised ps col unread

  kept : AreKept (raised ps col) target
  kept = kept_refined ps col cells bits unread rows_are held.kept

  have : 2 ^ (digits_of ps + 1) ≤ 16 → HaveCells (2 ^ (digits_of ps + 1)) target parted
  have few =
      let less : 2 ^ digits_of ps ≤ 2 ^ (digits_of ps + 1) = pow-le-pow_right (omega arith) (omega arith) in
      let is = held.count in
      part (omega (arith, few, is)) (held.told (omega (arith, less, few)))

  pub told_refined : told_cells rows parted (zip2 (inserted (digits_behind ps col)) now bits) ≡ zip2 (inserted (digits_behind ps col)) (told_cells rows masks before) bits
  told_refined = told_next rows masks parted (inserted (digits_behind ps col)) now cells bits same rows_are
      (told_few rows (2 ^ (digits_of ps + 1)) parted target now cells held.same target_long (subst (λ n. All (λ c. c < 2 ^ n) target) digits kept.rows) (count ∙ held.count) have many)

  now_long : now ≢ [] → length (zip2 (inserted (digits_behind ps col)) now bits) ≡ length now
  now_long some = length-zip2 (inserted (digits_behind ps col)) now bits (sym (rows_are ∙ long_told rows masks now cells same some))

  still_empty : (l : List ℕ) → l ≡ now → zip2 (inserted (digits_behind ps col)) now bits ≡ [] → now ≡ []
  still_empty [] e none = sym e
  still_empty (x ∷ l) e none = none_left (inserted (digits_behind ps col)) now bits (now_long (λ empty. filled (e ∙ empty))) none
    where
      filled : x ∷ l ≡ [] → ⊥
      filled f = absurd (let e : suc (length l) ≡ 0 = ap length f in omega (arith, e))

  pub held_refined : AreHeld (raised ps col) rows parted (zip2 (inserted (digits_behind ps col)) now bits) room
  held_refined = record {
    kept = subst (AreKept (raised ps col)) (sym told_refined) kept;
    count = count ∙ held.count;
    long = subst (λ n. HaveRows n parted) long wide;
    same = ap length told_refined ∙ target_long;
    told = λ fits. subst (λ ns. HaveCells (2 ^ digits_of (raised ps col)) ns parted) (sym told_refined)
        (subst (λ n. HaveCells (2 ^ n) target parted) (sym digits) (have (subst (λ n. 2 ^ n ≤ 16) digits fits)));
    many = λ more. (let all = many (subst (λ n. 16 < 2 ^ n) digits more) in ap (λ l. length (zip2 (inserted (digits_behind ps col)) l bits)) all ∙ target_long);
    room_left = λ none. left (still_empty now refl none);
  }

-- the same by what the functions ensure
pub refined_held : (ps : List GroupPart) (col rows : ℕ) (masks parted : List (List Bool)) (before now : List ℕ) (bits : List Bool) (old_room room digits shift : ℕ) (lent read : List (List Bool)) →
    AreHeld ps rows masks before old_room → IsTrue (has_unread ps col) → length bits ≡ rows → digits ≡ digits_of ps → shift ≡ digits_behind ps col → read ≡ masks → lent ≡ masks →
    told_cells rows read now ≡ told_cells rows read before → (16 < 2 ^ (digits + 1) → now ≡ told_cells rows read before) → (now ≡ [] → rows ≤ room) → length parted ≡ length lent →
    HaveRows (length bits) parted → ((cells : List ℕ) → length cells ≡ length bits → 2 ^ (digits + 1) ≤ length lent → HaveCells (2 ^ digits) cells lent
    → HaveCells (2 ^ (digits + 1)) (zip2 (inserted shift) cells bits) parted) →
    (told_cells rows parted (zip2 (inserted shift) now bits) ≡ zip2 (inserted (digits_behind ps col)) (told_cells rows masks before) bits)
    × AreHeld (raised ps col) rows parted (zip2 (inserted shift) now bits) room
refined_held ps col rows masks parted before now bits old_room room digits shift lent read held unread long digits_are shift_is read_is lent_is same many left count wide part =
    let cells = told_cells rows masks before in
    let behind = digits_behind ps col in
    let d = digits_of ps in
    let same' : told_cells rows masks now ≡ told_cells rows masks before = subst (λ ms. told_cells rows ms now ≡ told_cells rows ms before) read_is same in
    let many' : 16 < 2 ^ (d + 1) → now ≡ told_cells rows masks before = λ more.
    many (subst (λ n. 16 < 2 ^ (n + 1)) (sym digits_are) more) ∙ ap (λ ms. told_cells rows ms before) read_is in
    let count' : length parted ≡ length masks = count ∙ ap length lent_is in
    let part' : 2 ^ (d + 1) ≤ length masks → HaveCells (2 ^ d) cells masks → HaveCells (2 ^ (d + 1)) (zip2 (inserted behind) cells bits) parted = λ fits have.
    (let had : HaveCells (2 ^ digits) cells lent = subst (HaveCells (2 ^ digits) cells) (sym lent_is) (subst (λ n. HaveCells (2 ^ n) cells masks) (sym digits_are) have) in
    let enough : 2 ^ (digits + 1) ≤ length lent = subst (λ ms. 2 ^ (digits + 1) ≤ length ms) (sym lent_is) (subst (λ n. 2 ^ (n + 1) ≤ length masks) (sym digits_are) fits) in
    subst (λ k. HaveCells (2 ^ (d + 1)) (zip2 (inserted k) cells bits) parted) shift_is
    (subst (λ n. HaveCells (2 ^ (n + 1)) (zip2 (inserted shift) cells bits) parted) digits_are (part cells (held.same ∙ sym long) enough had))) in (
      subst (λ k. told_cells rows parted (zip2 (inserted k) now bits) ≡ zip2 (inserted behind) cells bits) (sym shift_is)
          (told_refined ps col rows masks parted before now bits old_room room held unread long same' many' left count' wide part'),
      subst (λ k. AreHeld (raised ps col) rows parted (zip2 (inserted k) now bits) room) (sym shift_is)
          (held_refined ps col rows masks parted before now bits old_room room held unread long same' many' left count' wide part'),
    )

-- ---- the cell of a row

-- where it is not written, masks tell it
pub told_unwritten : (rows : ℕ) (masks : List (List Bool)) (cells : List ℕ) (row : ℕ) → length cells ≤ row → row < length (told_cells rows masks cells) →
    slice_get (told_cells rows masks cells) row ≡ Some (first_with row masks)
told_unwritten rows masks [] row past within =
    slice_get-get_or (cells_told rows masks) row 0 within
    ∙ ap Some (get_or-map-range_with_len (λ r. first_with r masks) 0 rows row row 0 (let e = length-told rows masks in omega (arith, within, e)) (omega arith))
told_unwritten rows masks (x ∷ cells) row past within = absurd (omega (arith, past, within))

pub told_written : (rows : ℕ) (masks : List (List Bool)) (cells : List ℕ) (row : ℕ) → row < length cells → slice_get (told_cells rows masks cells) row ≡ slice_get cells row
told_written rows masks [] row within = absurd (omega (arith, within))
told_written rows masks (x ∷ cells) row within = refl
