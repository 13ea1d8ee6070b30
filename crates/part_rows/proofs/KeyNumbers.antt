-- The numbers of the sort key lie between the base and the top of its column, and there they are ordered as their values are.
use Rattle.std.proofs.Common.{◌≡◌, ℕ, ◌-◌, ◌<◌, ◌≤◌, ℤ, pos, ◌+ℤ◌, ◌≤ℤ◌, nat_abs, List, [], length, get_or, sym, ap, ◌∙◌, subst, arith, inl, inr, Some, None}
use Rattle.std.specs.declared.cmp.Ordering.TheVariants.{Less, Equal, Greater}
use Rattle.std.specs.Cmp.{int_cmp_is}
use Rattle.std.specs.Cmp.Lexicographic.{slice_cmp}
use Rattle.std.specs.List.Sorted.{IsStrictlySortedBy}
use Rattle.std.specs.Ordering.{int_cmp, nat_cmp, ordering_reverse}
use Rattle.std.proofs.lemmas.Bool.{cases_lt}
use Rattle.std.proofs.lemmas.Cmp.{nat_list_cmp_total, tied_itself}
use Rattle.std.proofs.lemmas.Int.{ints}
use Rattle.std.proofs.lemmas.List.{get_or_past}
use Rattle.std.proofs.lemmas.Map.Keys.{Less-from_sorted}
use Rattle.daq_table.specs.Tables.{Cell, Cells, Frame, IsCell, IsTable, cell_at, ends_at, row_of, spread, value_of}
use Rattle.daq_table.specs.declared.head.Ends.{Ends}
use Rattle.query_model.specs.Groups.{IsKeyPart}
use Rattle.query_model.specs.Knowledge.{IsLegal, range_of}
use Rattle.query_model.specs.Truths.{Range}
use Rattle.query_model.proofs.Blocks.{range_ordered}
use Rattle.part_rows.specs.Marks.{value_cmp}
use Rattle.part_rows.specs.Tables.{ColumnsCanBeKeyed}

at_distance : (ends : Ends) (u : ℕ) → u ≤ spread ends → IsKeyPart ends (Some (ends.base +ℤ pos u))
at_distance ends u le = let up = ends.ordered in (omega (arith, ints), omega (arith, ints))

-- ---- the keys of a table

of_cell : (ends : Ends) (cell : Cell) → IsCell ends cell → IsKeyPart ends (value_of ends cell)
of_cell ends None is = is
of_cell ends (Some u) is = at_distance ends u is

-- a row that is not there has the number 0
pub of_row : (frame : Frame) (cells : Cells) → IsTable frame cells → (c : ℕ) → c < length frame.columns → (r : ℕ) →
    IsKeyPart (ends_at frame c) (row_of frame cells r c)
of_row frame cells table c c_in r = elim (cases_lt r frame.rows) [
  | inl below ↦ of_cell (ends_at frame c) (cell_at cells c r) (table.within c r c_in below)
  | inr past ↦ subst (λ (cell : Cell). IsKeyPart (ends_at frame c) (value_of (ends_at frame c) cell))
      (sym (get_or_past (get_or cells c []) r (Some 0) (subst (λ n. n ≤ r) (sym (table.rows c c_in)) past))) (at_distance (ends_at frame c) 0 (omega arith))
]

-- ---- the numbers of a range

pub record AreOfColumn (ends : Ends) (range : Range) : Type 0 where
  pub low : IsKeyPart ends (Some range.numbers.low)
  pub high : IsKeyPart ends (Some range.numbers.high)

pub of_range : (ends : Ends) (read prefix : ℕ) → IsLegal ends read prefix → AreOfColumn ends (range_of ends read prefix)
of_range ends read prefix legal =
    let range = range_of ends read prefix in
    let up : range.numbers.low ≤ℤ range.numbers.high = range_ordered ends read prefix legal in
    let first : ends.base ≤ℤ range.numbers.low = omega (arith, ints) in
    let last : range.numbers.high ≤ℤ ends.top = (let order = ends.ordered in omega (arith, ints, order)) in
    record { low = (first, omega (arith, ints, up, last)); high = (omega (arith, ints, first, up), last) }

-- what lies between two of them is one
pub of_column : (ends : Ends) (range : Range) (x : ℤ) → AreOfColumn ends range → range.numbers.low ≤ℤ x → x ≤ℤ range.numbers.high → IsKeyPart ends (Some x)
of_column ends range x h above below =
    let low = h.low.0 in
    let high = h.high.1 in
    (omega (arith, ints, low, above), omega (arith, ints, high, below))

-- ---- the order of their values

texts_ordered : (texts : List (List ℕ)) (i j : ℕ) (a b : ℤ) → IsStrictlySortedBy (slice_cmp nat_cmp) texts → i ≤ length texts - 1 →
    j ≤ length texts - 1 → a ≡ pos i → b ≡ pos j → slice_cmp nat_cmp (get_or texts i []) (get_or texts j []) ≡ int_cmp a b
texts_ordered texts i j a b rising i_in j_in p q =
    let s = get_or texts i [] in
    let t = get_or texts j [] in
    elim (cases_lt i j) [
      | inl less ↦ Less-from_sorted (slice_cmp nat_cmp) texts i j [] rising less (omega (arith, less, j_in)) ∙ int_cmp_is a b Less (omega (arith, ints, less, p, q))
      | inr up ↦ elim (cases_lt j i) [
        | inl more ↦ nat_list_cmp_total.antisymm s t
            ∙ ap ordering_reverse (Less-from_sorted (slice_cmp nat_cmp) texts j i [] rising more (omega (arith, more, i_in)))
            ∙ int_cmp_is a b Greater (omega (arith, ints, more, p, q))
        | inr down ↦
            let same : i ≡ j = omega (arith, up, down) in
            ap (λ n. slice_cmp nat_cmp (get_or texts n []) t) same ∙ tied_itself nat_list_cmp_total t
            ∙ int_cmp_is a b Equal (p ∙ ap (λ (n : ℕ). pos n) same ∙ sym q)
      ]
    ]

-- a number between 0 and a place is a place
placed : (low high number : ℤ) (last : ℕ) → low ≡ pos 0 → high ≡ pos last → low ≤ℤ number → number ≤ℤ high →
    (place : ℕ) × (number ≡ pos place) × (place ≤ last)
placed low high number last l h above below = (nat_abs number, omega (arith, ints, l, above), omega (arith, ints, l, h, above, below))

pub columns_can_be_keyed : ColumnsCanBeKeyed
columns_can_be_keyed part column = record {
  numbers = λ h. record { column = column; ordered = λ a b is_a is_b. (λ i. value_cmp (h a i) (h b i)) };
  texts = λ texts h. record {
    column = column;
    ordered = λ a b is_a is_b.
        let ends = ends_at part.frame part.order.key in
        let (i, i_is, i_in) = placed ends.base ends.top a (length texts - 1) h.base h.top is_a.0 is_a.1 in
        let (j, j_is, j_in) = placed ends.base ends.top b (length texts - 1) h.base h.top is_b.0 is_b.1 in
        (λ k. value_cmp ((ap part.value i_is ∙ h.value i) k) ((ap part.value j_is ∙ h.value j) k))
        ∙ texts_ordered texts i j a b h.rising i_in j_in i_is j_is;
  };
}
