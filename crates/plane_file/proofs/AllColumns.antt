-- A table out of the cells of its columns.
use Rattle.std.proofs.Common.{◌≡◌, ℕ, ◌<◌, ◌==◌, nat_lt, Bool, true, false, List, [], length, map, replicate, get_or, refl, sym, ap, subst, ◌∙◌, arith, inl, inr, Some, if◌then◌else◌}
use Rattle.std.specs.List.{range_with_len}
use Rattle.std.proofs.lemmas.Bool.{cases_lt, eq-eqb, ne_eqb}
use Rattle.std.proofs.lemmas.Bool.Decides.{nat_tests}
use Rattle.std.proofs.lemmas.List.{get_or-replicate, length-map, length-replicate}
use Rattle.std.proofs.lemmas.List.FromFn.{get_or-map-range_with_len, length-map-range_with_len}
use Rattle.daq_table.proofs.TableCells.{column_there, length-cells_from}
use Rattle.daq_table.specs.Tables.{AreMarks, Cell, Cells, IsCell, IsTable, cells_from, ends_at, ends_of, frame_of}
use Rattle.daq_table.specs.declared.table_head.Head.{Head}
use Rattle.plane_file.specs.ColumnReading.{AreCells, MakeColumns}
use Rattle.plane_file.specs.TableReading.{AgreesBefore, HaveColumns, HavePlanes}

-- ---- columns by their numbers

pub table_by : (head : Head) (column : ℕ → List Cell) → ((c : ℕ) → c < length head.columns → AreCells head c (column c)) → IsTable (frame_of head) (map column (range_with_len 0 (length head.columns)))
table_by head column are =
    let many = length-map head.columns ends_of in
    let there = λ (c : ℕ) (lt : c < length head.columns). get_or-map-range_with_len column 0 (length head.columns) c c [] lt (omega arith) in
    record {
      columns = length-map-range_with_len column 0 (length head.columns) ∙ sym many;
      rows = λ c lt. let lt' : c < length head.columns = omega (arith, lt, many) in ap length (there c lt') ∙ (are c lt').rows;
      within = λ c r lt r_in. let lt' : c < length head.columns = omega (arith, lt, many) in
          subst (λ (cells : List Cell). IsCell (ends_at (frame_of head) c) (get_or cells r (Some 0))) (sym (there c lt')) ((are c lt').within r r_in);
    }

-- a column whose numbers are all 0
blank_column : (head : Head) (c : ℕ) → AreCells head c (replicate head.rows (Some 0))
blank_column head c = record {
  rows = length-replicate head.rows (Some 0);
  within = λ r lt. subst (IsCell (ends_at (frame_of head) c)) (sym (get_or-replicate head.rows r (Some 0) (Some 0) lt)) (omega arith);
}

-- columns that are known up to one, and that one; each behind it is blank
abbrev up_to : Head → ℕ → Cells → List Cell → ℕ → List Cell
up_to head column done last c = if nat_lt c column then get_or done c [] else (if c == column then last else replicate head.rows (Some 0))

module _ (head : Head) (column : ℕ) (done : Cells) (last : List Cell) (inside : column < length head.columns)
    (are : (c : ℕ) → c < column → AreCells head c (get_or done c [])) (is_last : AreCells head column last) where
  before : (c : ℕ) → c < column → up_to head column done last c ≡ get_or done c []
  before c lt =
      let yes : nat_lt c column ≡ true = grind (arith, nat_tests) in
      ap (λ b. if b then get_or done c [] else (if c == column then last else replicate head.rows (Some 0))) yes

  here : up_to head column done last column ≡ last
  here =
      let no : nat_lt column column ≡ false = grind (arith, nat_tests) in
      ap (λ b. if b then get_or done column [] else (if column == column then last else replicate head.rows (Some 0))) no
      ∙ ap (λ b. if b then last else replicate head.rows (Some 0)) (eq-eqb column column refl)

  behind : (c : ℕ) → column < c → up_to head column done last c ≡ replicate head.rows (Some 0)
  behind c lt =
      let no : nat_lt c column ≡ false = grind (arith, nat_tests) in
      let other : (c == column) ≡ false = ne_eqb c column (λ e. absurd (omega (arith, e, lt))) in
      ap (λ b. if b then get_or done c [] else (if c == column then last else replicate head.rows (Some 0))) no
      ∙ ap (λ b. if b then last else replicate head.rows (Some 0)) other

  are_all : (c : ℕ) → c < length head.columns → AreCells head c (up_to head column done last c)
  are_all c lt = elim (cases_lt c column) [
    | inl less ↦ subst (AreCells head c) (sym (before c less)) (are c less)
    | inr past ↦ elim (cases_lt column c) [
      | inl more ↦ subst (AreCells head c) (sym (behind c more)) (blank_column head c)
      | inr le ↦ (let same : column ≡ c = omega (arith, past, le) in subst (λ k. AreCells head k (up_to head column done last k)) same (subst (AreCells head column) (sym here) is_last))
    ]
  ]

  abbrev pub filled : Cells
  filled = map (up_to head column done last) (range_with_len 0 (length head.columns))

  there : (c : ℕ) → c < length head.columns → get_or filled c [] ≡ up_to head column done last c
  there c lt = get_or-map-range_with_len (up_to head column done last) 0 (length head.columns) c c [] lt (omega arith)

  pub last_there : get_or filled column [] ≡ last
  last_there = there column inside ∙ here

  -- what is told of columns up to one is told of a table
  pub agrees : (bytes : List ℕ) (count : ℕ) → HaveColumns head bytes column done → HavePlanes head bytes column count last → AgreesBefore head bytes column count filled
  agrees bytes count have first = record {
    is_table = table_by head (up_to head column done last) are_all;
    before = λ c lt. subst (HavePlanes head bytes c _) (sym (there c (omega (arith, lt, inside)) ∙ before c lt)) (have c lt);
    first = subst (HavePlanes head bytes column count) (sym last_there) first;
  }

-- ---- columns by their numbers and marks

module _ (head : Head) (numbers : List (List ℕ)) (marks : List (List Bool)) (make : MakeColumns head (length head.columns) numbers marks) where
  each_column : (c : ℕ) → c < length head.columns → AreCells head c (get_or (cells_from numbers marks) c [])
  each_column c lt = subst (AreCells head c) (sym (column_there numbers marks c)) (make.each c lt).are_cells

  pub columns_table : IsTable (frame_of head) (cells_from numbers marks)
  columns_table =
      let many = length-map head.columns ends_of in
      record {
        columns = length-cells_from numbers marks ∙ make.many ∙ sym many;
        rows = λ c lt. (each_column c (omega (arith, lt, many))).rows;
        within = λ c r lt r_in. (each_column c (omega (arith, lt, many))).within r r_in;
      }

  pub columns_marks : AreMarks (frame_of head) numbers marks
  columns_marks =
      let many = length-map head.columns ends_of in
      record {
        columns = make.marked ∙ sym many;
        rows = λ c lt. (make.each c (omega (arith, lt, many))).marked;
        zero = λ c r lt null. (make.each c (omega (arith, lt, many))).zero r null;
      }
