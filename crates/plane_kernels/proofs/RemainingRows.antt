-- Rows that are kept block by block.
use Rattle.std.proofs.Common.{◌≡◌, ◌≢◌, ℕ, ◌+◌, ◌-◌, ◌*◌, ◌<◌, ◌≤◌, min, Bool, true, false, not, ◌&&◌, ◌||◌, List, [], ◌∷◌, length, length-drop, take, drop, replicate, Some, get_or, set, length-set, zero, suc, sym, refl, ap, subst, ◌∙◌, arith, inl, inr, ◌⊎◌, get_or-set_other, get_or-set_same}
use Rattle.std.proofs.lemmas.Bool.{cases_eq, cases_lt}
use Rattle.std.proofs.lemmas.List.{ext_get_or, get_or_past, length-take}
use Rattle.std.proofs.lemmas.Option.{slice_get-get_or}
use Rattle.std.proofs.lemmas.Simd.{get_or-chunk, get_or-put_chunk_above, get_or-put_chunk_at, get_or-put_chunk_below, length-put_chunk, length-zip2}
use Rattle.std.specs.Simd.Lanes.{put_chunk, zip2}
use Rattle.plane_kernels.specs.Remaining.{AreBlocksOf, HasNone, TakesBlock}
use Rattle.plane_kernels.specs.Rows.{kept_rows}
use Rattle.plane_kernels.proofs.Evens.{NoneBefore}

-- ---- bits of joined rows

pub bit-zip2 : (f : Bool → Bool → Bool) → f false false ≡ false → (xs ys : List Bool) (r : ℕ) → length ys ≡ length xs → get_or (zip2 f xs ys) r false ≡ f (get_or xs r false) (get_or ys r false)
bit-zip2 f none [] [] r h = sym none
bit-zip2 f none [] (y ∷ ys) r h = absurd (omega (arith, h))
bit-zip2 f none (x ∷ xs) [] r h = absurd (omega (arith, h))
bit-zip2 f none (x ∷ xs) (y ∷ ys) zero h = refl
bit-zip2 f none (x ∷ xs) (y ∷ ys) (suc r) h = bit-zip2 f none xs ys r (omega (arith, h))

-- a row is kept
abbrev pub is_kept : Bool → Bool → Bool → Bool
is_kept true row digit = row && digit
is_kept false row digit = row && not digit

pub bit-kept_rows : (bit : Bool) (rows plane : List Bool) (r : ℕ) → length plane ≡ length rows → get_or (kept_rows bit rows plane) r false ≡ is_kept bit (get_or rows r false) (get_or plane r false)
bit-kept_rows true rows plane r h = bit-zip2 (λ a b. a && b) refl rows plane r h
bit-kept_rows false rows plane r h = bit-zip2 (λ a b. a && not b) refl rows plane r h

pub length-kept_rows : (bit : Bool) (rows plane : List Bool) → length plane ≡ length rows → length (kept_rows bit rows plane) ≡ length rows
length-kept_rows true rows plane h = length-zip2 (λ a b. a && b) rows plane (sym h)
length-kept_rows false rows plane h = length-zip2 (λ a b. a && not b) rows plane (sym h)

none_kept : (bit digit : Bool) → is_kept bit false digit ≡ false
none_kept true digit = refl
none_kept false digit = refl

-- the rows that are kept, added to others
pub bit-added_rows : (bit : Bool) (others rows plane : List Bool) (r : ℕ) → length others ≡ length rows → length plane ≡ length rows →
    get_or (zip2 (λ a b. a || b) others (kept_rows bit rows plane)) r false ≡ (get_or others r false || is_kept bit (get_or rows r false) (get_or plane r false))
bit-added_rows bit others rows plane r h k =
    bit-zip2 (λ a b. a || b) refl others (kept_rows bit rows plane) r (length-kept_rows bit rows plane k ∙ sym h)
    ∙ ap (λ b. get_or others r false || b) (bit-kept_rows bit rows plane r k)

pub length-added_rows : (bit : Bool) (others rows plane : List Bool) → length others ≡ length rows → length plane ≡ length rows → length (zip2 (λ a b. a || b) others (kept_rows bit rows plane)) ≡ length others
length-added_rows bit others rows plane h k = length-zip2 (λ a b. a || b) others (kept_rows bit rows plane) (h ∙ sym (length-kept_rows bit rows plane k))

-- ---- one block

-- rows that are put where the block stands
pub takes_put : (block : ℕ) (source old part new : List Bool) → new ≡ put_chunk (512 * block) old part → length part ≡ min 512 (length old - 512 * block) → length source ≡ length old →
    ((j : ℕ) → j < length part → get_or part j false ≡ get_or source (512 * block + j) false) → TakesBlock block source old new
takes_put block source old part new is few long same =
    let at = 512 * block in
    let count = length-put_chunk at old part in
    record {
      rows = ap length is ∙ count;
      here = λ j h. elim (cases_lt (at + j) (length old)) [
        | inl low ↦ ap (λ l. get_or l (at + j) false) is ∙ get_or-put_chunk_at at old part j false (omega (arith, few, h, low)) (omega (arith, few, low)) ∙ same j (omega (arith, few, h, low))
        | inr past ↦ get_or_past new (at + j) false (omega (arith, ap length is, count, past)) ∙ sym (get_or_past source (at + j) false (omega (arith, long, past)))
      ];
      before = λ k h. ap (λ l. get_or l k false) is ∙ get_or-put_chunk_below at old part k false h;
      behind = λ k h. ap (λ l. get_or l k false) is ∙ get_or-put_chunk_above at old part k false (omega (arith, few, h));
    }

-- ---- the blocks that may have a row

other_place : (b c j k : ℕ) → j < 512 → b ≢ c → 512 * c + j ≡ k → (k < 512 * b) ⊎ (512 * b + 512 ≤ k)
other_place b c j k h other e = elim (cases_lt c b) [ inl low ↦ inl (omega (arith, h, low, e)) | inr up ↦ inr (omega (arith, h, up, other, e)) ]

-- a block that takes others' rows leaves another block as it is
none_beside : (block other : ℕ) (source old new : List Bool) → TakesBlock block source old new → block ≢ other → HasNone other old → HasNone other new
none_beside block other source old new takes apart none = λ j h.
    elim (other_place block other j (512 * other + j) h apart refl) [
      | inl low ↦ takes.before (512 * other + j) low ∙ none j h
      | inr up ↦ takes.behind (512 * other + j) up ∙ none j h
    ]

-- a block that has no bit keeps its rows, none
pub passed_over : (block : ℕ) (source rows : List Bool) → HasNone block rows → HasNone block source → TakesBlock block source rows rows
passed_over block source rows none none' = record { rows = refl; here = λ j h. none j h ∙ sym (none' j h); before = λ k h. refl; behind = λ k h. refl }

-- whether a block has rows left is noted
pub block_noted : (block : ℕ) (left : Bool) (source old new blocks : List Bool) → AreBlocksOf old blocks → TakesBlock block source old new → block < length blocks → (left ≡ false → HasNone block new) → AreBlocksOf new (set blocks block left)
block_noted block left source old new blocks are takes within none = record {
  room = (let count = takes.rows in let room = are.room in let long = length-set blocks block left in omega arith);
  tight = (let count = takes.rows in let tight = are.tight in let long = length-set blocks block left in omega arith);
  none = λ other off. elim (cases_eq other block) [
    | inl same ↦ subst (λ b. HasNone b new) (sym same) (none (sym (ap (λ b. get_or (set blocks block left) b false) same ∙ get_or-set_same blocks block left false within) ∙ off))
    | inr apart ↦ none_beside block other source old new takes (λ e. apart (sym e)) (are.none other (sym (get_or-set_other blocks block other left false apart) ∙ off))
  ];
}

-- rows that are kept have no row where there was none
pub blocks_stay : (bit : Bool) (rows plane blocks : List Bool) → length plane ≡ length rows → AreBlocksOf rows blocks → AreBlocksOf (kept_rows bit rows plane) blocks
blocks_stay bit rows plane blocks long are = record {
  room = omega (arith, are.room, length-kept_rows bit rows plane long);
  tight = omega (arith, are.tight, length-kept_rows bit rows plane long);
  none = λ block off j few.
      let at = 512 * block + j in
      bit-kept_rows bit rows plane at long ∙ ap (λ b. is_kept bit b (get_or plane at false)) (are.none block off j few) ∙ none_kept bit (get_or plane at false);
}

-- ---- all blocks

-- below a row the bits are those of one list, and from it on those of another
pub record AreDoneBelow (end : ℕ) (old source new : List Bool) : Type 0 where
  pub rows : length new ≡ length old
  pub below : (r : ℕ) → r < end → get_or new r false ≡ get_or source r false
  pub behind : (r : ℕ) → end ≤ r → get_or new r false ≡ get_or old r false

pub none_done : (end : ℕ) (old source : List Bool) → end ≡ 0 → AreDoneBelow end old source old
none_done end old source e = record { rows = refl; below = λ r h. absurd (omega (arith, e, h)); behind = λ r h. refl }

-- a block more, with rows that are those of the list there
pub done_more : (block : ℕ) (old source now next new : List Bool) → AreDoneBelow (512 * block) old source now → TakesBlock block next now new →
    ((r : ℕ) → 512 * block ≤ r → get_or next r false ≡ get_or source r false) → AreDoneBelow (512 * (block + 1)) old source new
done_more block old source now next new done takes same = record {
  rows = takes.rows ∙ done.rows;
  below = λ r h. elim (cases_lt r (512 * block)) [
    | inl low ↦ takes.before r low ∙ done.below r low
    | inr up ↦ (let j = r - 512 * block in
        let at : 512 * block + j ≡ r = omega (arith, up) in
        ap (λ k. get_or new k false) (sym at) ∙ takes.here j (omega (arith, h, up)) ∙ ap (λ k. get_or next k false) at ∙ same r up)
  ];
  behind = λ r h. takes.behind r (omega (arith, h)) ∙ done.behind r (omega (arith, h));
}

pub done_all : (end : ℕ) (old source new : List Bool) → AreDoneBelow end old source new → length source ≡ length old → length old ≤ end → new ≡ source
done_all end old source new done long past = ext_get_or false new source (done.rows ∙ sym long) (λ r h. done.below r (let count = done.rows in omega (arith, h, past)))

-- ---- rows that are kept

-- what is kept of rows hangs on these rows alone
pub kept_behind : (end : ℕ) (bit : Bool) (old source now plane : List Bool) → AreDoneBelow end old source now → length plane ≡ length old → (r : ℕ) → end ≤ r → get_or (kept_rows bit now plane) r false ≡ get_or (kept_rows bit old plane) r false
kept_behind end bit old source now plane done long r h =
    bit-kept_rows bit now plane r (long ∙ sym done.rows) ∙ ap (λ b. is_kept bit b (get_or plane r false)) (done.behind r h) ∙ sym (bit-kept_rows bit old plane r long)

-- a block without a row keeps none
pub none_to_keep : (block : ℕ) (bit : Bool) (rows plane : List Bool) → length plane ≡ length rows → HasNone block rows → HasNone block (kept_rows bit rows plane)
none_to_keep block bit rows plane long none j h =
    let r = 512 * block + j in
    bit-kept_rows bit rows plane r long ∙ ap (λ b. is_kept bit b (get_or plane r false)) (none j h) ∙ none_kept bit (get_or plane r false)

-- the same of the rows that are added to others
pub added_behind : (end : ℕ) (bit : Bool) (old source now others source' now' plane : List Bool) → AreDoneBelow end old source now → AreDoneBelow end others source' now' → length plane ≡ length old → length others ≡ length old →
    (r : ℕ) → end ≤ r → get_or (zip2 (λ a b. a || b) now' (kept_rows bit now plane)) r false ≡ get_or (zip2 (λ a b. a || b) others (kept_rows bit old plane)) r false
added_behind end bit old source now others source' now' plane done done' long long' r h =
    let digit = get_or plane r false in
    bit-added_rows bit now' now plane r (done'.rows ∙ long' ∙ sym done.rows) (long ∙ sym done.rows)
    ∙ ap (λ b. b || is_kept bit (get_or now r false) digit) (done'.behind r h) ∙ ap (λ b. get_or others r false || is_kept bit b digit) (done.behind r h)
    ∙ sym (bit-added_rows bit others old plane r long' long)

or_none : (b : Bool) → (b || false) ≡ b
or_none true = refl
or_none false = refl

-- and adds none
pub none_to_add : (block : ℕ) (bit : Bool) (others rows plane : List Bool) → length others ≡ length rows → length plane ≡ length rows → HasNone block rows →
    TakesBlock block (zip2 (λ a b. a || b) others (kept_rows bit rows plane)) others others
none_to_add block bit others rows plane long' long none = record {
  rows = refl;
  here = λ j h. (let r = 512 * block + j in
      sym (bit-added_rows bit others rows plane r long' long ∙ ap (λ b. get_or others r false || is_kept bit b (get_or plane r false)) (none j h)
      ∙ ap (λ b. get_or others r false || b) (none_kept bit (get_or plane r false)) ∙ or_none (get_or others r false)));
  before = λ k h. refl;
  behind = λ k h. refl;
}

-- ---- parts of rows

same_parts : (block : ℕ) (xs ys : List Bool) → length ys ≡ length xs → length (take 512 (drop (512 * block) ys)) ≡ length (take 512 (drop (512 * block) xs))
same_parts block xs ys h = (let a = length-take 512 (drop (512 * block) ys) in let b = length-take 512 (drop (512 * block) xs) in let d = length-drop (512 * block) ys in let e = length-drop (512 * block) xs in omega (arith, h))

pub part_rows : (block : ℕ) (xs : List Bool) → length (take 512 (drop (512 * block) xs)) ≡ min 512 (length xs - 512 * block)
part_rows block xs = length-take 512 (drop (512 * block) xs) ∙ ap (min 512) (length-drop (512 * block) xs)

-- parts of two lists as they are handed over are as long
pub parts_agree : (block : ℕ) (xs ys a b : List Bool) → a ≡ take 512 (drop (512 * block) xs) → b ≡ take 512 (drop (512 * block) ys) → length ys ≡ length xs → length b ≡ length a
parts_agree block xs ys a b is is' h = ap length is' ∙ same_parts block xs ys h ∙ sym (ap length is)

pub none_at : (n j : ℕ) → get_or (replicate n false) j false ≡ false
none_at zero j = refl
none_at (suc n) zero = refl
none_at (suc n) (suc j) = none_at n j

-- what is kept of a part
pub record IsKeptPart (block : ℕ) (bit : Bool) (rows plane kept : List Bool) : Type 0 where
  pub long : length kept ≡ min 512 (length rows - 512 * block)
  pub bits : (j : ℕ) → j < 512 → get_or kept j false ≡ get_or (kept_rows bit rows plane) (512 * block + j) false

pub kept_part : (block : ℕ) (bit : Bool) (rows plane a b kept : List Bool) → length plane ≡ length rows → a ≡ take 512 (drop (512 * block) rows) → b ≡ take 512 (drop (512 * block) plane) → kept ≡ kept_rows bit a b → IsKeptPart block bit rows plane kept
kept_part block bit rows plane a b kept h is is' e =
    let long = parts_agree block rows plane a b is is' h in
    record {
      long = ap length e ∙ length-kept_rows bit a b long ∙ ap length is ∙ part_rows block rows;
      bits = λ j small.
          ap (λ l. get_or l j false) e ∙ bit-kept_rows bit a b j long
          ∙ ap (λ x. is_kept bit x (get_or b j false)) (ap (λ l. get_or l j false) is ∙ get_or-chunk (512 * block) 512 rows j false small)
          ∙ ap (is_kept bit (get_or rows (512 * block + j) false)) (ap (λ l. get_or l j false) is' ∙ get_or-chunk (512 * block) 512 plane j false small)
          ∙ sym (bit-kept_rows bit rows plane (512 * block + j) h);
    }

pub kept_block : (block : ℕ) (bit : Bool) (rows plane kept new : List Bool) → length plane ≡ length rows → IsKeptPart block bit rows plane kept → new ≡ put_chunk (512 * block) rows kept → TakesBlock block (kept_rows bit rows plane) rows new
kept_block block bit rows plane kept new h part put =
    takes_put block (kept_rows bit rows plane) rows kept new put part.long (length-kept_rows bit rows plane h) (λ j small. part.bits j (omega (arith, small, part.long)))

-- nothing is kept of it
pub kept_none : (block : ℕ) (bit : Bool) (rows plane kept : List Bool) → IsKeptPart block bit rows plane kept → kept ≡ replicate (length kept) false → HasNone block (kept_rows bit rows plane)
kept_none block bit rows plane kept part none j h = sym (part.bits j h) ∙ ap (λ l. get_or l j false) none ∙ none_at (length kept) j

pub none_left : (block : ℕ) (source old new : List Bool) → TakesBlock block source old new → HasNone block source → HasNone block new
none_left block source old new takes none j h = takes.here j h ∙ none j h

-- rows that are added to others
pub added_block : (block : ℕ) (bit : Bool) (others rows plane a kept part new : List Bool) → length others ≡ length rows → length plane ≡ length rows → a ≡ take 512 (drop (512 * block) others) → IsKeptPart block bit rows plane kept →
    part ≡ zip2 (λ a b. a || b) a kept → new ≡ put_chunk (512 * block) others part → TakesBlock block (zip2 (λ a b. a || b) others (kept_rows bit rows plane)) others new
added_block block bit others rows plane a kept part new h h' is kept_is e put =
    let long_a : length a ≡ min 512 (length others - 512 * block) = ap length is ∙ part_rows block others in
    let same : length kept ≡ length a = omega (arith, kept_is.long, long_a, h) in
    let long : length part ≡ length a = ap length e ∙ length-zip2 (λ a b. a || b) a kept (sym same) in
    takes_put block (zip2 (λ a b. a || b) others (kept_rows bit rows plane)) others part new put (long ∙ long_a) (length-added_rows bit others rows plane h h') (λ j small.
    let few : j < 512 = omega (arith, small, long, long_a) in
    ap (λ l. get_or l j false) e ∙ bit-zip2 (λ a b. a || b) refl a kept j same
    ∙ ap (λ x. x || get_or kept j false) (ap (λ l. get_or l j false) is ∙ get_or-chunk (512 * block) 512 others j false few)
    ∙ ap (λ x. get_or others (512 * block + j) false || x) (kept_is.bits j few)
    ∙ sym (bit-zip2 (λ a b. a || b) refl others (kept_rows bit rows plane) (512 * block + j) (length-kept_rows bit rows plane h' ∙ sym h)))

-- ---- searches

pub not_true : (b : Bool) → not b ≡ false → b ≡ true
not_true true e = refl
not_true false e = sym e

pub none_before : (rows : List Bool) (n : ℕ) → n ≤ length rows → ((r : ℕ) → r < n → get_or rows r false ≡ false) → NoneBefore n rows
none_before rows n few none m h = slice_get-get_or rows m false (omega (arith, few, h)) ∙ ap Some (none m h)

-- none in a block more
pub none_more : (block : ℕ) (rows : List Bool) → ((r : ℕ) → r < 512 * block → get_or rows r false ≡ false) → HasNone block rows → (r : ℕ) → r < 512 * (block + 1) → get_or rows r false ≡ false
none_more block rows below none r h = elim (cases_lt r (512 * block)) [
  | inl low ↦ below r low
  | inr up ↦ (let j = r - 512 * block in let at : 512 * block + j ≡ r = omega (arith, up) in ap (λ k. get_or rows k false) (sym at) ∙ none j (omega (arith, h, up)))
]

-- a row that is not kept by its bit of 1 has the bit 0
pub no_one : (rows plane : List Bool) (end : ℕ) → length plane ≡ length rows → length rows ≤ end → ((r : ℕ) → r < end → get_or (kept_rows true rows plane) r false ≡ false) → (r : ℕ) → get_or rows r false ≡ true → get_or plane r false ≡ false
no_one rows plane end h past none r on = elim (cases_lt r end) [
  | inl low ↦ ap (λ b. b && get_or plane r false) (sym on) ∙ sym (bit-kept_rows true rows plane r h) ∙ none r low
  | inr up ↦ get_or_past plane r false (omega (arith, h, past, up))
]
