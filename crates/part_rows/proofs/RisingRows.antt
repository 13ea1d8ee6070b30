-- Lines that rise name each row once, and go on rising with a line behind the last.
use Rattle.std.proofs.Common.{◌≡◌, ◌≢◌, ℕ, suc, ◌+◌, ◌-◌, nat_eq, nat_lt, Bool, true, false, ◌&&◌, ◌||◌, cond, List, [], ◌∷◌, ◌++◌, Option, length, slice_get, refl, sym, ap, ◌∙◌, subst, arith, IsTrue, inl, inr}
use Rattle.std.specs.declared.cmp.Ordering.{Ordering}
use Rattle.std.specs.declared.cmp.Ordering.TheVariants.{Less, Equal, Greater}
use Rattle.std.specs.Ordering.{is_eq, is_lt, nat_cmp, ordering_then}
use Rattle.std.proofs.lemmas.Bool.{false≢true}
use Rattle.std.proofs.lemmas.Cmp.{tied_itself}
use Rattle.std.proofs.lemmas.List.{map-append}
use Rattle.std.specs.Cmp.Lexicographic.{slice_cmp}
use Rattle.report_text.specs.RowBlocks.{comes_before as stands_before, is_behind, last_row, tag_bytes}
use Rattle.report_text.specs.declared.rows.RowLine.{RowLine}
use Rattle.report_text.specs.declared.rows.RowName.{RowName as ShownName}
use Rattle.part_rows.specs.declared.row.PartRow.{PartRow}
use Rattle.part_rows.specs.declared.row.RowName.{RowName}
use Rattle.part_rows.specs.Combined.{Listing, PartListing, listings_from, listings_of, row_of, rows_of}
use Rattle.part_rows.specs.Joined.{listed_at}
use Rattle.part_rows.specs.Marks.{name_cmp}
use Rattle.part_rows.specs.Rising.{AreRisingLines, RisingLinesAreListedOnce}
use Rattle.part_rows.specs.Worlds.{AreNamedOnce, IsIn, names_of}
use Rattle.part_rows.proofs.Joined.{is_at, less_by}
use Rattle.part_rows.proofs.Joins.{in_either, in_right, once_together}
use Rattle.part_rows.proofs.Orders.{name_total}
use Rattle.part_rows.proofs.Trees.{out_of_map}

-- ---- the order of lines is that of names

less_is : (less same : Bool) → less ≡ is_lt (cond less Less (cond same Equal Greater))
less_is true same = refl
less_is false true = refl
less_is false false = refl

by_then : (o : Ordering) (n m : ℕ) → (is_lt o || (is_eq o && nat_lt n m)) ≡ is_lt (ordering_then o (nat_cmp n m))
by_then Less n m = refl
by_then Equal n m = less_is (nat_lt n m) (nat_eq n m)
by_then Greater n m = refl

abbrev as_name : ShownName → RowName
as_name name = record { part = 0; tag = tag_bytes name.tag; number = name.number }

stands_as : (a b : ShownName) → stands_before a b ≡ is_lt (name_cmp (as_name a) (as_name b))
stands_as a b = by_then (slice_cmp nat_cmp (tag_bytes a.tag) (tag_bytes b.tag)) a.number b.number

stands_farther : (a b c : ShownName) → IsTrue (stands_before a b) → IsTrue (stands_before b c) → IsTrue (stands_before a c)
stands_farther a b c t u =
    let first = less_by (name_cmp (as_name a) (as_name b)) (sym (stands_as a b) ∙ t) in
    let second = less_by (name_cmp (as_name b) (as_name c)) (sym (stands_as b c) ∙ u) in
    stands_as a c ∙ ap is_lt (name_total.trans (as_name a) (as_name b) (as_name c) first second)

-- a name does not stand before one that is told the same
not_before : (a b : ShownName) → as_name a ≡ as_name b → IsTrue (stands_before a b) → ⊥
not_before a b e t =
    false≢true (ap is_lt (sym (tied_itself name_total (as_name a))) ∙ ap (λ n. is_lt (name_cmp (as_name a) n)) e ∙ sym (stands_as a b) ∙ t)

-- ---- one line more

last_of : (first second : RowLine) (rows : List RowLine) → last_row (first ∷ second ∷ rows) ≡ last_row (second ∷ rows)
last_of first second rows =
    let place : length (first ∷ second ∷ rows) - 1 ≡ suc (length (second ∷ rows) - 1) = omega arith in
    ap (λ n. slice_get (first ∷ second ∷ rows) n) place

pub rises_on : (rows : List RowLine) (row : RowLine) → AreRisingLines rows → is_behind (last_row rows) row.name ≡ true → AreRisingLines (rows ++ row ∷ [])
rises_on [] row r behind = ((λ y i. absurd i), tt)
rises_on (first ∷ []) row r behind = (
  (λ y i. elim i [
    | inl e ↦ subst (λ (l : RowLine). IsTrue (stands_before first.name l.name)) (sym e) behind
    | inr j ↦ absurd j
  ]),
  ((λ y i. absurd i), tt),
)
rises_on (first ∷ second ∷ rows) row r behind =
    let rest = rises_on (second ∷ rows) row r.1 (subst (λ (last : Option RowLine). is_behind last row.name ≡ true) (last_of first second rows) behind) in
    let farther = stands_farther first.name second.name row.name (r.0 second (inl refl)) (rest.0 row (in_right row rows (row ∷ []) (inl refl))) in (
      (λ y i. elim (in_either y (second ∷ rows) (row ∷ []) i) [
        | inl j ↦ r.0 y j
        | inr (inl e) ↦ subst (λ (l : RowLine). IsTrue (stands_before first.name l.name)) (sym e) farther
        | inr (inr j) ↦ absurd j
      ]),
      rest,
    )

-- ---- each row is listed once

once_in : (place : ℕ) (tag : List ℕ) (lines : List RowLine) → AreRisingLines lines → AreNamedOnce (names_of (rows_of (listed_at place tag lines)))
once_in place tag [] r = tt
once_in place tag (first ∷ lines) r = ((λ i. again i), once_in place tag lines r.1)
  where
    again : ¬ IsIn (row_of (record { part = place; tag = tag; line = first })).name (names_of (rows_of (listed_at place tag lines)))
    again i =
        let row = out_of_map (λ (z : PartRow). z.name) (rows_of (listed_at place tag lines)) (row_of (record { part = place; tag = tag; line = first })).name i in
        let from = out_of_map row_of (listed_at place tag lines) row.element row.is in
        let line = out_of_map (λ (l : RowLine). record { part = place; tag = tag; line = l }) lines from.element from.is in
        let same = row.same ∙ ap (λ (z : PartRow). z.name) from.same ∙ ap (λ (l : Listing). (row_of l).name) line.same in
        not_before first.name line.element.name (ap (λ (n : RowName). record { part = 0; tag = n.tag; number = n.number }) same) (r.0 line.element line.is)

-- rows of two parts have two names
apart : (place : ℕ) (part : PartListing) (parts : List PartListing) (x y : PartRow) → IsIn x (rows_of (listings_of place part)) →
    IsIn y (rows_of (listings_from (place + 1) parts)) → x.name ≢ y.name
apart place part parts x y i j e =
    let from = out_of_map row_of (listings_of place part) x i in
    let line = out_of_map (λ (l : RowLine). record { part = place; tag = part.tag; line = l }) part.rows from.element from.is in
    let here : x.name.part ≡ place = ap (λ (z : PartRow). z.name.part) from.same ∙ ap (λ (l : Listing). l.part) line.same in
    let other = out_of_map row_of (listings_from (place + 1) parts) y j in
    let at = is_at (place + 1) parts other.element other.is in
    let there : y.name.part ≡ other.element.part = ap (λ (z : PartRow). z.name.part) other.same in
    let same : x.name.part ≡ y.name.part = ap (λ (n : RowName). n.part) e in
    let place_is = at.part_is in
    absurd (omega (arith, here, there, same, place_is))

once_from : (place : ℕ) (parts : List PartListing) → ((part : PartListing) → IsIn part parts → AreRisingLines part.rows) →
    AreNamedOnce (names_of (rows_of (listings_from place parts)))
once_from place [] r = tt
once_from place (part ∷ parts) r =
    let own = listings_of place part in
    let others = listings_from (place + 1) parts in
    subst (λ rows. AreNamedOnce (names_of rows)) (sym (map-append row_of own others))
    (once_together (λ (row : PartRow). row.name) (rows_of own) (rows_of others) (once_in place part.tag part.rows (r part (inl refl)))
    (once_from (place + 1) parts (λ p i. r p (inr i))) (λ x y i j. apart place part parts x y i j))

pub rising_lines_are_listed_once : RisingLinesAreListedOnce
rising_lines_are_listed_once parts r = once_from 0 parts r
