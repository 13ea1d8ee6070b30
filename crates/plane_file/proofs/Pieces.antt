-- A plane is read piece by piece.
use Rattle.std.proofs.Common.{◌≡◌, ℕ, zero, suc, ◌+◌, ◌-◌, ◌*◌, ◌^◌, ◌<◌, ◌≤◌, min, Bool, List, [], ◌∷◌, ◌++◌, length, take, drop, refl, sym, ap, ◌∙◌, subst, inl, inr, arith, IfSome, length-drop}
use Rattle.std.specs.declared.option.Option.{Option}
use Rattle.std.specs.Int.{w64, from_le_bytes}
use Rattle.std.specs.List.{All}
use Rattle.std.specs.Simd.Lanes.{put_chunk}
use Rattle.std.proofs.lemmas.Bool.{cases_lt}
use Rattle.std.proofs.lemmas.List.{drop-drop, drop-take, length-take-le, take_all, take-take}
use Rattle.std.proofs.lemmas.Simd.{take_more_put_chunk}
use Rattle.outer_world.specs.Device.{StoreState}
use Rattle.outer_world.specs.Whole.{Fills, HandsOver, HoldsSame, places_from}
use Rattle.outer_world.proofs.Steps.{handed_none, take_both, told, told_always}
use Rattle.plane_kernels.specs.Bytes.{HasPadBits, bytes_of_rows, word_count, word_in, word_rows}
use Rattle.plane_file.specs.Bytes.{AreBytes}
use Rattle.plane_file.specs.Format.{plane_size}
use Rattle.plane_file.specs.Reading.{ArePadded, HandsOverPart, PutsWords, ReadsWords, StopsAtWords}
use Rattle.plane_file.specs.declared.words_fault.WordsFault.{WordsFault}
use Rattle.plane_file.specs.declared.words_fault.WordsFault.TheVariants as words
use Rattle.plane_file.proofs.FrontBytes.{drop_bytes, take_bytes}
use Rattle.plane_file.proofs.Handed.{handed_on}
use Rattle.plane_file.proofs.Lengths.{length-bytes_of_rows}

-- ---- pad bits

-- bytes as they stand in memory, and none behind them
pub small_from_all : (bytes : List ℕ) → All (λ byte. byte < 256) bytes → AreBytes bytes
small_from_all [] all i = omega arith
small_from_all (b ∷ bytes) all zero = all 0 0 (omega arith)
small_from_all (b ∷ bytes) all (suc i) = small_from_all bytes (λ k d h. all (suc k) d (omega (arith, h))) i

number_below : (bytes : List ℕ) → AreBytes bytes → from_le_bytes w64 bytes < 2 ^ 64
number_below bytes small = omega (arith, small 0, small 1, small 2, small 3, small 4, small 5, small 6, small 7)

-- what has so many bits has no more than a word
few_bits : (n word : ℕ) → 2 ^ min n 64 ≤ word → word < 2 ^ 64 → n < 64
few_bits n word h lt =
    elim (cases_lt n 64) [
      | inl few ↦ few
      | inr many ↦ (let all : min n 64 ≡ 64 = omega (arith, many) in let large : 2 ^ 64 ≤ word = subst (λ k. 2 ^ k ≤ word) all h in absurd (omega (arith, large, lt)))
    ]

-- pad bits stand in the last word alone
pub last_piece : (rows first : ℕ) (bytes : List ℕ) (word : ℕ) → AreBytes bytes → 8 * first + length bytes ≤ plane_size rows → HasPadBits rows first bytes word →
    8 * first + length bytes ≡ plane_size rows
last_piece rows first bytes word small within p =
    let k = word - first in
    let below = number_below (take 8 (drop (8 * k) bytes)) (take_bytes (drop (8 * k) bytes) 8 (drop_bytes bytes (8 * k) small)) in
    let few = few_bits (rows - 64 * word) (word_in bytes k) p.past below in
    omega (arith, within, few, p.from, p.within)

-- a part of the first bytes of a list is one of the list
part_of_front : (i size : ℕ) (xs : List ℕ) → i + 8 ≤ size → take 8 (drop i (take size xs)) ≡ take 8 (drop i xs)
part_of_front i size xs h =
    let split : size ≡ i + (size - i) = omega (arith, h) in
    ap (λ n. take 8 (drop i (take n xs))) split ∙ ap (take 8) (drop-take i (size - i) xs) ∙ take-take 8 (size - i) (drop i xs) (omega (arith, h))

-- the pad bits of a piece are those of the plane
pub padded_whole : (rows place first size : ℕ) (held : List ℕ) (word : ℕ) → place + plane_size rows ≤ length held → 8 * first + size ≤ plane_size rows →
    HasPadBits rows first (take size (drop (place + 8 * first) held)) word → HasPadBits rows 0 (take (plane_size rows) (drop (place + 8 * 0) held)) word
padded_whole rows place first size held word holds within p =
    let k = word - first in
    let from_place = drop (place + 8 * first) held in
    let long : length (take size from_place) ≡ size = length-take-le size from_place (omega (arith, length-drop (place + 8 * first) held, holds, within)) in
    let inside : 8 * k + 8 ≤ size = omega (arith, p.within, long) in
    let whole : length (take (plane_size rows) (drop (place + 8 * 0) held)) ≡ plane_size rows = length-take-le (plane_size rows) (drop (place + 8 * 0) held) (omega (arith, length-drop (place + 8 * 0) held, holds)) in
    let fits : 8 * (word - 0) + 8 ≤ plane_size rows = omega (arith, inside, within, p.from) in
    let at : place + 8 * first + 8 * k ≡ place + 8 * 0 + 8 * (word - 0) = omega (arith, p.from) in
    let same : word_in (take size from_place) k ≡ word_in (take (plane_size rows) (drop (place + 8 * 0) held)) (word - 0) =
    ap (from_le_bytes w64) (part_of_front (8 * k) size from_place inside ∙ ap (take 8) (drop-drop (8 * k) (place + 8 * first) held ∙ ap (λ n. drop n held) at ∙ sym (drop-drop (8 * (word - 0)) (place + 8 * 0) held))
    ∙ sym (part_of_front (8 * (word - 0)) (plane_size rows) (drop (place + 8 * 0) held) fits)) in
    record {
      from = omega arith;
      within = omega (arith, whole, fits);
      past = subst (λ n. 2 ^ word_rows rows word ≤ n) same p.past;
    }

-- ---- the next piece

-- the words so far and the next ones are the words so far
pub words_more : (place first size count : ℕ) (before after : List Bool) (held : List ℕ) → size ≡ 8 * count → place + plane_size (length before) ≤ length held → 8 * first + size ≤ plane_size (length before) →
    take (8 * first) (bytes_of_rows before) ≡ take (8 * first) (drop place held) →
    bytes_of_rows after ≡ put_chunk (8 * first) (bytes_of_rows before) (take size (drop (place + 8 * first) held)) →
    take (8 * (first + count)) (bytes_of_rows after) ≡ take (8 * (first + count)) (drop place held)
words_more place first size count before after held words holds within done put =
    let next = take size (drop (place + 8 * first) held) in
    let long : length next ≡ size = length-take-le size (drop (place + 8 * first) held) (omega (arith, length-drop (place + 8 * first) held, holds, within)) in
    let end : 8 * (first + count) ≡ 8 * first + length next = omega (arith, words, long) in
    let room : 8 * (first + count) ≤ length (bytes_of_rows before) = omega (arith, words, within, length-bytes_of_rows before) in
    let total : 8 * first + size ≡ 8 * (first + count) = omega (arith, words) in
    ap (take (8 * (first + count))) put ∙ take_more_put_chunk (8 * first) (bytes_of_rows before) next (8 * (first + count)) end room
    ∙ ap (λ l. l ++ next) done ∙ ap (λ l. take (8 * first) (drop place held) ++ take size l) (sym (drop-drop (8 * first) place held))
    ∙ sym (take_both (8 * first) size (drop place held) (omega (arith, length-drop place held, holds, within))) ∙ ap (λ n. take n (drop place held)) total

-- all words were read
pub words_all : (place words : ℕ) (bits : List Bool) (held : List ℕ) → words ≡ word_count (length bits) → take (8 * words) (bytes_of_rows bits) ≡ take (8 * words) (drop place held) →
    bytes_of_rows bits ≡ take (plane_size (length bits)) (drop place held)
words_all place words bits held all done =
    let short : length (bytes_of_rows bits) ≤ 8 * words = omega (arith, all, length-bytes_of_rows bits) in
    sym (take_all (8 * words) (bytes_of_rows bits) short) ∙ done ∙ ap (λ n. take (8 * n) (drop place held)) all

-- ---- where reading stops

part_more : (place first size whole : ℕ) (old mid new : StoreState) → 8 * first + size ≤ whole → HandsOver old.pieces mid.pieces (places_from place (8 * first)) →
    HandsOverPart (place + 8 * first) size mid new → HandsOverPart (place + 8 * 0) whole old new
part_more place first size whole old mid new within done p =
    let here : place ≡ place + 8 * 0 = omega arith in
    record {
      count = 8 * first + p.count;
      few = omega (arith, p.few, within);
      handed = subst (λ n. HandsOver old.pieces new.pieces (places_from n (8 * first + p.count))) here (handed_on place (8 * first) p.count _ _ _ done p.handed);
    }

-- what stops the reading of a piece stops that of the plane
pub stops_whole : (place first size rows : ℕ) (old mid new : StoreState) (fault : WordsFault) → StopsAtWords place first size rows mid new fault →
    8 * first + size ≤ plane_size rows → IfSome old.held (λ held. place + plane_size rows ≤ length held) → HoldsSame old mid → HandsOver old.pieces mid.pieces (places_from place (8 * first)) →
    StopsAtWords place 0 (plane_size rows) rows old new fault
stops_whole place first size rows old mid new words.Fault p within holds same done = record {
  part = part_more place first size (plane_size rows) old mid new within done p.part;
  rose = omega (arith, p.rose, same.faults);
}
stops_whole place first size rows old mid new words.PadBits p within holds same done =
    let here : place ≡ place + 8 * 0 = omega arith in
    let bits = subst (λ (o : Option (List ℕ)). IfSome o (λ held. (word : ℕ) × HasPadBits rows first (take size (drop (place + 8 * first) held)) word)) same.held p.bits in
    record {
      last = omega arith;
      bits = told old.held _ _ _ (λ held fits padded. (padded.0, padded_whole rows place first size held padded.0 fits within padded.1)) holds bits;
      handed = subst (λ n. HandsOver old.pieces new.pieces (places_from n (plane_size rows))) here
          (subst (λ n. HandsOver old.pieces new.pieces (places_from place n)) p.last (handed_on place (8 * first) size _ _ _ done p.handed));
    }
stops_whole place first size rows old mid new words.WentShort p within holds same done = record {
  part = part_more place first size (plane_size rows) old mid new within done p.part;
  rose = omega (arith, p.rose, same.ends);
  untold = subst (λ (o : Option (List ℕ)). IfSome o (λ held. ⊥)) same.held p.untold;
}

-- ---- one piece

-- the bytes that fill the buffer have a pad bit
pub padded_piece : (place first size rows word : ℕ) (old new : StoreState) (buf : List ℕ) → AreBytes buf → length buf ≡ size → 8 * first + size ≤ plane_size rows →
    Fills old new (place + 8 * first) buf → HasPadBits rows first buf word → ArePadded place first size rows old new
padded_piece place first size rows word old new buf small long within fills p = record {
  last = ap (λ n. 8 * first + n) (sym long) ∙ last_piece rows first buf word small (omega (arith, long, within)) p;
  bits = told old.held _ _ (λ held. (word : ℕ) × HasPadBits rows first (take size (drop (place + 8 * first) held)) word)
      (λ held e _. (word, subst (λ l. HasPadBits rows first l word) (e ∙ ap (λ n. take n (drop (place + 8 * first) held)) long) p)) fills.bytes fills.bytes;
  handed = subst (λ n. HandsOver old.pieces new.pieces (places_from (place + 8 * first) n)) long fills.handed;
}

-- ---- the pieces so far

-- the words before the first unread one are those of the store, and their places were handed over
pub record ReadSoFar (place first : ℕ) (old new : StoreState) (bits : List Bool) : Type 0 where
  pub same : HoldsSame old new
  pub bytes : IfSome old.held (λ held. take (8 * first) (bytes_of_rows bits) ≡ take (8 * first) (drop place held))
  pub handed : HandsOver old.pieces new.pieces (places_from place (8 * first))

pub nothing_read : (place : ℕ) (store : StoreState) (bits : List Bool) → ReadSoFar place 0 store store bits
nothing_read place store bits = record {
  same = record { held = refl; faults = omega arith; ends = omega arith };
  bytes = told_always store.held _ (λ held. refl);
  handed = handed_none store.pieces place;
}

pub piece_read : (place first size count : ℕ) (old mid new : StoreState) (before after : List Bool) → PutsWords place first size mid new before after → ReadSoFar place first old mid before → HoldsSame mid new →
    size ≡ 8 * count → IfSome old.held (λ held. place + plane_size (length before) ≤ length held) → 8 * first + size ≤ plane_size (length before) →
    ReadSoFar place (first + count) old new after
piece_read place first size count old mid new before after puts done same words holds within =
    let put = subst (λ (o : Option (List ℕ)). IfSome o (λ held. bytes_of_rows after ≡ put_chunk (8 * first) (bytes_of_rows before) (take size (drop (place + 8 * first) held)))) done.same.held puts.bytes in
    let both = told old.held _ _ (λ held. (place + plane_size (length before) ≤ length held) × (take (8 * first) (bytes_of_rows before) ≡ take (8 * first) (drop place held))) (λ held p q. (p, q)) holds done.bytes in
    let total : 8 * first + size ≡ 8 * (first + count) = omega (arith, words) in
    record {
      same = record { held = same.held ∙ done.same.held; faults = omega (arith, same.faults, done.same.faults); ends = omega (arith, same.ends, done.same.ends) };
      bytes = told old.held _ _ (λ held. take (8 * (first + count)) (bytes_of_rows after) ≡ take (8 * (first + count)) (drop place held))
          (λ held p q. words_more place first size count before after held words p.0 within p.1 q) both put;
      handed = subst (λ n. HandsOver old.pieces new.pieces (places_from place n)) total (handed_on place (8 * first) size _ _ _ done.handed puts.handed);
    }

pub all_read : (place words : ℕ) (old new : StoreState) (bits : List Bool) → words ≡ word_count (length bits) → ReadSoFar place words old new bits → ReadsWords place old new bits
all_read place words old new bits all done = record {
  bytes = told old.held _ _ (λ held. bytes_of_rows bits ≡ take (plane_size (length bits)) (drop place held)) (λ held e _. words_all place words bits held all e) done.bytes done.bytes;
  handed = subst (λ n. HandsOver old.pieces new.pieces (places_from place (8 * n))) all done.handed;
}
