-- Many cells, of each of which it is told whether its rows count for certain.
use Rattle.std.proofs.Common.{◌≡◌, ℕ, ◌+◌, ◌<◌, ◌≤◌, Bool, false, List, [], ◌∷◌, ◌++◌, length, map, take, get_or, set, Some, slice_get, inl, inr, refl, ap, sym, subst, ◌∙◌, arith, length-take}
use Rattle.std.specs.Option.{option_map}
use Rattle.std.proofs.lemmas.Bool.{cases_eq}
use Rattle.std.proofs.lemmas.List.{ext_get_or, get_or-map, get_or-take, length-map, map-set}
use Rattle.std.proofs.lemmas.Option.{get_or_from_slice_get, slice_get-get_or, slice_get-map}
use Rattle.std.proofs.lemmas.Int.{ints}
use Rattle.query_model.specs.Bounds.{Pair}
use Rattle.query_model.specs.declared.query.ItemKind.{ItemKind}
use Rattle.query_model.specs.declared.query.ItemKind.TheVariants.{Sum}
use Rattle.query_model.specs.Validity.{IsSumKind}
use Rattle.aggregates.specs.Runnings.{IsAdded, IsBlank, Tallies}
use Rattle.aggregates.specs.Tallies.{tally_of}
use Rattle.aggregates.proofs.Adding.{is_added, seen, set_at, set_elsewhere, taken_at, taken_same}
use Rattle.aggregates.proofs.SumsOfCells.{sum_tally}
use Rattle.digit_sums.specs.declared.ends.DigitEnds.{DigitEnds}
use Rattle.digit_sums.specs.Digits.{AreDigits, IsKept, RowDigits, pair_by, tally_by}

-- a cell without a row, whose rows are to count so
pub record IsFirst (certain : Bool) (cell : RowDigits) : Type 0 where
  pub certain_is : cell.certain ≡ certain
  pub sound : IsKept cell
  pub none : (ends : DigitEnds) → tally_by ends cell ≡ tally_of Sum []

-- the first cells are
abbrev pub AreFirst : List Bool → List RowDigits → ℕ → Type 0
AreFirst certain cells n = (k : ℕ) (cell : RowDigits) → k < n → slice_get cells k ≡ Some cell → IsFirst (get_or certain k false) cell

pub first_more : (certain : List Bool) (cells : List RowDigits) (n : ℕ) (cell : RowDigits) → n < length cells → IsFirst (get_or certain n false) cell → AreFirst certain cells n → AreFirst certain (set cells n cell) (n + 1)
first_more certain cells n cell within is before = λ k other below at.
    elim (cases_eq k n) [
      | inl here ↦
          (let same : Some cell ≡ Some other = sym (set_at cells n cell within) ∙ ap (slice_get (set cells n cell)) (sym here) ∙ at in
          subst (IsFirst (get_or certain k false)) (the_same cell other same) (subst (λ j. IsFirst (get_or certain j false) cell) (sym here) is))
      | inr away ↦ before k other (omega (arith, below, away)) (sym (set_elsewhere cells n k cell away) ∙ at)
    ]
  where
    the_same : (x y : RowDigits) → Some x ≡ Some y → x ≡ y
    the_same x y e = cc

module _ (ends : DigitEnds) (certain : List Bool) (cells : List RowDigits) (n : ℕ) (room : n ≤ length cells) (first : AreFirst certain cells n) where
  at_first : (k : ℕ) (d : RowDigits) → k < n → IsFirst (get_or certain k false) (get_or cells k d)
  at_first k d below = first k (get_or cells k d) below (slice_get-get_or cells k d (omega (arith, below, room)))

  -- each stands for no row
  pub first_blank : (kind : ItemKind) (most : ℕ) → IsSumKind kind → length cells ≡ most → IsBlank (record { kind = kind; room = length cells; cells = take n (map (tally_by ends) cells) }) kind most n
  first_blank kind most sums all =
      let long = length-take n (map (tally_by ends) cells) in
      let same = length-map cells (tally_by ends) in
      record {
        kind_is = refl;
        room_is = all;
        count = omega (arith, long, same, room);
        blank = λ k below. record {
          kept = taken_same n (map (tally_by ends) cells) k below ∙ blank_at k below kind sums;
          ordered = tt;
        };
      }
    where
      blank_at : (k : ℕ) → k < n → (kind : ItemKind) → IsSumKind kind → slice_get (map (tally_by ends) cells) k ≡ Some (tally_of kind [])
      blank_at k below kind sums =
          (let d : RowDigits = record { certain = false; rows = 0; at_top = 0; least = 0; greatest = 0; sum = 0 } in
          slice_get-map (tally_by ends) cells k ∙ ap (option_map (tally_by ends)) (slice_get-get_or cells k d (omega (arith, below, room)))
          ∙ ap Some ((at_first k d below).none ends ∙ sym (sum_tally kind [] sums)))

  -- and counts its rows as it was told
  pub first_certain : n ≤ length certain → take n (map (λ (c : RowDigits). c.certain) cells) ≡ take n certain
  first_certain told =
      let mine = length-take n (map (λ (c : RowDigits). c.certain) cells) in
      let same = length-map cells (λ (c : RowDigits). c.certain) in
      let theirs = length-take n certain in
      let d : RowDigits = record { certain = false; rows = 0; at_top = 0; least = 0; greatest = 0; sum = 0 } in
      ext_get_or false (take n (map (λ (c : RowDigits). c.certain) cells)) (take n certain) (omega (arith, mine, same, theirs, room, told))
      (λ k below.
      let within : k < n = omega (arith, below, mine) in
      get_or-take n (map (λ (c : RowDigits). c.certain) cells) k false within ∙ get_or-map (λ (c : RowDigits). c.certain) cells k d false (omega (arith, within, room))
      ∙ (at_first k d within).certain_is ∙ sym (get_or-take n certain k false within))

-- the same by other names
pub same_added : (a b old new : Tallies) (cell : ℕ) (p : Pair) → a ≡ old → b ≡ new → IsAdded a b cell p → IsAdded old new cell p
same_added a b old new cell p before after added = subst (λ r. IsAdded r new cell p) before (subst (λ r. IsAdded a r cell p) after added)

-- a row more in one of many cells
pub digits_added : (kind : ItemKind) (ends : DigitEnds) (n : ℕ) (items : List RowDigits) (cell : ℕ) (old new : RowDigits) (sure : Bool) (digits : ℕ) → IsSumKind kind → cell < n → cell < length items → old ≡ get_or items cell old → AreDigits ends digits →
    slice_get (take n (map (λ (c : RowDigits). c.certain) items)) cell ≡ Some sure →
    ((ps : List Pair) → tally_by ends old ≡ tally_of Sum ps → tally_by ends new ≡ tally_of Sum (ps ++ pair_by ends old.certain digits ∷ [])) →
    IsAdded (record { kind = kind; room = length items; cells = take n (map (tally_by ends) items) })
    (record { kind = kind; room = length (set items cell new); cells = take n (map (tally_by ends) (set items cell new)) }) cell (pair_by ends sure digits)
digits_added kind ends n items cell old new sure digits sums in_cells in_room was fit there next =
    let xs = map (tally_by ends) items in
    let long = length-map items (tally_by ends) in
    let certain : old.certain ≡ sure =
    ap (λ (c : RowDigits). c.certain) was ∙ sym (get_or-map (λ (c : RowDigits). c.certain) items cell old false in_room)
    ∙ get_or_from_slice_get (map (λ (c : RowDigits). c.certain) items) cell sure false (taken_at n (map (λ (c : RowDigits). c.certain) items) cell sure there) in
    let here : tally_by ends old ≡ get_or xs cell (tally_by ends old) = ap (tally_by ends) was ∙ sym (get_or-map (tally_by ends) items cell old (tally_by ends old) in_room) in
    let added =
    is_added kind n xs cell (tally_by ends old) (tally_by ends new) (pair_by ends sure digits) in_cells (omega (arith, long, in_room)) (omega (arith, ints, fit)) here
    (λ ps is. next ps (is ∙ sum_tally kind ps sums) ∙ ap (λ b. tally_of Sum (ps ++ pair_by ends b digits ∷ [])) certain ∙ sym (sum_tally kind (ps ++ pair_by ends sure digits ∷ []) sums)) in
    let same : set xs cell (tally_by ends new) ≡ map (tally_by ends) (set items cell new) = sym (map-set (tally_by ends) items cell new) in
    let before : seen kind n xs ≡ record { kind = kind; room = length items; cells = take n xs } = ap (λ k. record { kind = kind; room = k; cells = take n xs }) long in
    let after : seen kind n (set xs cell (tally_by ends new)) ≡ record { kind = kind; room = length (set items cell new); cells = take n (map (tally_by ends) (set items cell new)) } =
    ap (seen kind n) same ∙ ap (λ k. record { kind = kind; room = k; cells = take n (map (tally_by ends) (set items cell new)) }) (length-map (set items cell new) (tally_by ends)) in
    same_added _ _ _ _ cell (pair_by ends sure digits) before after added
