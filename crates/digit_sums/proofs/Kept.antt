-- What is kept of cells of which rows with outer digits alone are looked at for ends.
use Rattle.std.proofs.Common.{◌≡◌, ℕ, ◌+◌, ◌<◌, ◌≤◌, ◌==◌, Bool, false, cond, List, length, length-set, length-take, map, take, get_or, set, Some, slice_get, inl, inr, refl, ap, sym, subst, ◌∙◌, arith}
use Rattle.std.specs.Option.{option_map}
use Rattle.std.proofs.lemmas.Bool.{cases_eq}
use Rattle.std.proofs.lemmas.List.{ext_get_or, get_or-map, get_or-take, length-map}
use Rattle.std.proofs.lemmas.Option.{get_or_from_slice_get, slice_get-get_or, slice_get-map}
use Rattle.query_model.specs.declared.query.ItemKind.{ItemKind}
use Rattle.query_model.specs.Validity.{IsSumKind}
use Rattle.aggregates.specs.declared.tally.Tally.{Tally}
use Rattle.aggregates.specs.Runnings.{IsAdded, Tallies}
use Rattle.aggregates.specs.Tallies.{tally_of}
use Rattle.aggregates.proofs.Adding.{set_at, set_elsewhere, taken_same}
use Rattle.digit_sums.specs.declared.ends.DigitEnds.{DigitEnds}
use Rattle.digit_sums.specs.declared.ends.OuterDigits.{OuterDigits}
use Rattle.digit_sums.specs.Digits.{AreDigits, AreOf, DigitTallies, GrowBy, HaveRoom, IsKept, IsKeptBy, RowDigits, pair_by, tally_by, top_digits, with_row}
use Rattle.digit_sums.proofs.Cells.{digits_added}
use Rattle.digit_sums.proofs.Digits.{tally_more}

same_some : {A : Type 0} (x y : A) → Some x ≡ Some y → x ≡ y
same_some x y e = cc

-- where all rows are looked at
kept_whole : (outer : OuterDigits) (cell : RowDigits) → IsKept cell → IsKeptBy outer cell cell
kept_whole outer cell sound = record {
  sound = sound;
  certain = refl;
  rows = refl;
  at_top = refl;
  sum = refl;
  above = omega arith;
  below = omega arith;
  least = λ near. refl;
  greatest = λ near. refl;
}

module _ (kind : ItemKind) (ends : DigitEnds) (outer : OuterDigits) (n : ℕ) (kept : List RowDigits) where
  abbrev pub tallies_kept : Tallies
  tallies_kept = record { kind = kind; room = length kept; cells = take n (map (tally_by ends) kept) }

  abbrev pub sums_kept : DigitTallies
  sums_kept = record { tallies = tallies_kept; ends = ends; certain = take n (map (λ (c : RowDigits). c.certain) kept); count = n; kept = kept; outer = outer }

-- what is kept at the start
pub whole_kept : (kind : ItemKind) (ends : DigitEnds) (outer : OuterDigits) (n : ℕ) (kept : List RowDigits) → ((k : ℕ) (cell : RowDigits) → k < n → slice_get kept k ≡ Some cell → IsKept cell) → AreOf (sums_kept kind ends outer n kept) (tallies_kept kind ends outer n kept)
whole_kept kind ends outer n kept sound = record {
  cells = kept;
  room = refl;
  each = λ k a b below at_a at_b. subst (IsKeptBy outer a) (same_some a b (sym at_a ∙ at_b)) (kept_whole outer a (sound k a below at_a));
  are = refl;
}

-- where each has the tally of its cell, all have
pub settled : (kind : ItemKind) (ends : DigitEnds) (outer : OuterDigits) (n : ℕ) (kept : List RowDigits) → n ≤ length kept →
    ((k : ℕ) (old cell : RowDigits) (e : DigitEnds) → k < n → slice_get kept k ≡ Some old → IsKeptBy outer old cell → tally_by e old ≡ tally_by e cell) →
    (tallies : Tallies) → AreOf (sums_kept kind ends outer n kept) tallies → tallies_kept kind ends outer n kept ≡ tallies
settled kind ends outer n kept room each tallies are =
    let cells = are.cells in
    let long = are.room in
    let f = tally_by ends in
    let a = length-take n (map f kept) in
    let b = length-take n (map f cells) in
    let c = length-map kept f in
    let d = length-map cells f in
    let none : RowDigits = record { certain = false; rows = 0; at_top = 0; least = 0; greatest = 0; sum = 0 } in
    let same : take n (map f kept) ≡ take n (map f cells) = ext_get_or (f none) (take n (map f kept)) (take n (map f cells)) (omega (arith, a, b, c, d, long)) (λ k below.
    let within : k < n = omega (arith, below, a) in
    let in_kept : k < length kept = omega (arith, within, room) in
    let in_cells : k < length cells = omega (arith, in_kept, long) in
    get_or-take n (map f kept) k (f none) within ∙ get_or-map f kept k none (f none) in_kept
    ∙ each k (get_or kept k none) (get_or cells k none) ends within (slice_get-get_or kept k none in_kept) (are.each k (get_or kept k none) (get_or cells k none) within (slice_get-get_or kept k none in_kept) (slice_get-get_or cells k none in_cells))
    ∙ sym (get_or-map f cells k none (f none) in_cells) ∙ sym (get_or-take n (map f cells) k (f none) within)) in
    all_same kind (length kept) (length cells) (take n (map f kept)) (take n (map f cells)) (sym long) same ∙ sym are.are
  where
    told : ItemKind → ℕ → List Tally → Tallies
    told kind room cells = record { kind = kind; room = room; cells = cells }

    all_same : (kind : ItemKind) (r s : ℕ) (xs ys : List Tally) → r ≡ s → xs ≡ ys → told kind r xs ≡ told kind s ys
    all_same kind r s xs ys e f = rw (e, f) refl

module _ (kind : ItemKind) (ends : DigitEnds) (outer : OuterDigits) (n : ℕ) (kept : List RowDigits) (cell : ℕ) (old : RowDigits) (in_cells : cell < n) (room : n ≤ length kept) (at : slice_get kept cell ≡ Some old) where
  -- there is room for a row more
  pub room_left : HaveRoom (sums_kept kind ends outer n kept) cell → old.rows < 16777216
  room_left have =
      let are = have.are in
      let cells = are.cells in
      let long = are.room in
      let in_room : cell < length cells = omega (arith, in_cells, room, long) in
      let this = get_or cells cell old in
      let there = slice_get-get_or cells cell old in_room in
      let is = are.each cell old this in_cells at there in
      let pairs = have.may.pairs in
      let tally : slice_get have.tallies.cells cell ≡ Some (tally_by ends this) =
      ap (λ (t : Tallies). slice_get t.cells cell) are.are ∙ taken_same n (map (tally_by ends) cells) cell in_cells ∙ slice_get-map (tally_by ends) cells cell ∙ ap (option_map (tally_by ends)) there in
      let all : length pairs ≡ this.rows = ap (λ (t : Tally). t.all) (same_some (tally_of have.tallies.kind pairs) (tally_by ends this) (sym have.may.stands.kept ∙ tally)) in
      let few = have.may.few in
      let rows = is.rows in
      omega (arith, few, all, rows)

  -- a row more in one of them
  pub grown : (new : RowDigits) (sure : Bool) (digits top : ℕ) → IsSumKind kind → AreDigits ends digits → digits ≤ 4294967295 → top ≡ top_digits ends →
      slice_get (take n (map (λ (c : RowDigits). c.certain) kept)) cell ≡ Some sure →
      ((c : RowDigits) → IsKeptBy outer old c → IsKeptBy outer new (with_row c top digits)) →
      (tallies : Tallies) → AreOf (sums_kept kind ends outer n kept) tallies → GrowBy (sums_kept kind ends outer n (set kept cell new)) tallies cell (pair_by ends sure digits)
  grown new sure digits top sums fit small top_is sure_there next tallies are =
      let cells = are.cells in
      let long = are.room in
      let in_kept : cell < length kept = omega (arith, in_cells, room) in
      let in_room : cell < length cells = omega (arith, in_kept, long) in
      let this = get_or cells cell old in
      let there = slice_get-get_or cells cell old in_room in
      let is = are.each cell old this in_cells at there in
      let more = with_row this top digits in
      let certain_of : RowDigits → Bool = λ c. c.certain in
      let was : this ≡ get_or cells cell this = sym (get_or_from_slice_get cells cell this this there) in
      let counts : Some old.certain ≡ Some sure = sym (taken_same n (map certain_of kept) cell in_cells ∙ slice_get-map certain_of kept cell ∙ ap (option_map certain_of) at) ∙ sure_there in
      let counts_there : slice_get (take n (map certain_of cells)) cell ≡ Some sure =
      taken_same n (map certain_of cells) cell in_cells ∙ slice_get-map certain_of cells cell ∙ ap (option_map certain_of) there ∙ ap Some (sym is.certain) ∙ counts in
      let added = digits_added kind ends n cells cell this more sure digits sums in_cells in_room was fit counts_there
      (λ ps e. tally_more ends this more digits small is.sound (record { certain = refl; rows = refl; at_top = ap (λ t. this.at_top + cond (digits == t) 1 0) top_is; least = refl; greatest = refl; sum = refl }) fit ps e) in
      record {
        tallies = tallies_kept kind ends outer n (set cells cell more);
        are = record {
          cells = set cells cell more;
          room = length-set cells cell more ∙ long ∙ sym (length-set kept cell new);
          each = λ k a b below at_a at_b. elim (cases_eq k cell) [
            | inl here ↦
                (let a_is : new ≡ a = same_some new a (sym (set_at kept cell new in_kept) ∙ ap (slice_get (set kept cell new)) (sym here) ∙ at_a) in
                let b_is : more ≡ b = same_some more b (sym (set_at cells cell more in_room) ∙ ap (slice_get (set cells cell more)) (sym here) ∙ at_b) in
                subst (λ x. IsKeptBy outer x b) a_is (subst (IsKeptBy outer new) b_is (next this is)))
            | inr away ↦ are.each k a b below (sym (set_elsewhere kept cell k new away) ∙ at_a) (sym (set_elsewhere cells cell k more away) ∙ at_b)
          ];
          are = refl;
        };
        added = subst (λ t. IsAdded t (tallies_kept kind ends outer n (set cells cell more)) cell (pair_by ends sure digits)) (sym are.are) added;
      }
