-- The cells of a table out of its numbers and marks, and what is read at a place of it.
use Rattle.std.proofs.Common.{◌≡◌, ℕ, zero, suc, ◌<◌, ◌≤◌, Bool, true, false, Some, None, List, [], ◌∷◌, length, map, vec_items, get_or, refl, sym, ap, subst, ◌∙◌, IsTrue, IsFalse, if◌then◌else◌, arith}
use Rattle.std.specs.Prelude.{Vec}
use Rattle.std.proofs.lemmas.List.{get_or-map, length-map}
use Rattle.daq_table.specs.Tables.{AreMarks, IsCell, IsTable, cell_at, cells_from, column_from, ends_at, ends_of, frame_of, is_null_cell, no_ends, number_of, spread}
use Rattle.daq_table.specs.declared.head.ColumnHead.{ColumnHead}
use Rattle.daq_table.specs.declared.table_head.Head.{Head}

-- there are as many columns as lists of numbers
pub length-cells_from : (numbers : List (List ℕ)) (nulls : List (List Bool)) → length (cells_from numbers nulls) ≡ length numbers
length-cells_from [] nulls = refl
length-cells_from (us ∷ numbers) [] = ap suc (length-cells_from numbers [])
length-cells_from (us ∷ numbers) (marks ∷ nulls) = ap suc (length-cells_from numbers nulls)

-- each column comes from its numbers and its marks
pub column_there : (numbers : List (List ℕ)) (nulls : List (List Bool)) (c : ℕ) → get_or (cells_from numbers nulls) c [] ≡ column_from (get_or numbers c []) (get_or nulls c [])
column_there [] nulls c = refl
column_there (us ∷ numbers) [] zero = refl
column_there (us ∷ numbers) [] (suc c) = column_there numbers [] c
column_there (us ∷ numbers) (marks ∷ nulls) zero = refl
column_there (us ∷ numbers) (marks ∷ nulls) (suc c) = column_there numbers nulls c

-- the numbers of a column, where a null has the number 0
pub numbers_are : (us : List ℕ) (marks : List Bool) → ((r : ℕ) → IsTrue (get_or marks r false) → get_or us r 0 ≡ 0) → map number_of (column_from us marks) ≡ us
numbers_are [] marks h = refl
numbers_are (u ∷ us) [] h = ap (λ xs. u ∷ xs) (numbers_are us [] (λ r t. h (suc r) t))
numbers_are (u ∷ us) (true ∷ marks) h = ap (λ x. x ∷ map number_of (column_from us marks)) (sym (h 0 refl)) ∙ ap (λ xs. u ∷ xs) (numbers_are us marks (λ r t. h (suc r) t))
numbers_are (u ∷ us) (false ∷ marks) h = ap (λ xs. u ∷ xs) (numbers_are us marks (λ r t. h (suc r) t))

-- the marks of a column that has one for each number
pub marks_are : (us : List ℕ) (marks : List Bool) → length us ≡ length marks → map is_null_cell (column_from us marks) ≡ marks
marks_are [] [] e = refl
marks_are [] (mark ∷ marks) e = absurd (omega arith)
marks_are (u ∷ us) [] e = absurd (omega arith)
marks_are (u ∷ us) (true ∷ marks) e = ap (λ xs. true ∷ xs) (marks_are us marks (omega arith))
marks_are (u ∷ us) (false ∷ marks) e = ap (λ xs. false ∷ xs) (marks_are us marks (omega arith))

-- a column has as many cells as numbers
pub length-column_from : (us : List ℕ) (marks : List Bool) → length (column_from us marks) ≡ length us
length-column_from [] marks = refl
length-column_from (u ∷ us) [] = ap suc (length-column_from us [])
length-column_from (u ∷ us) (mark ∷ marks) = ap suc (length-column_from us marks)

-- a list that is read is that of its place
pub list_read : {X A : Type 0} (lists : List (Vec X A)) (c : ℕ) (list : Vec X A) → c < length lists → list ≡ get_or lists c list → get_or (map vec_items lists) c [] ≡ vec_items list
list_read lists c list lt e = get_or-map vec_items lists c list [] lt ∙ ap vec_items (sym e)

-- the cell of a row comes from its number and its mark
pub cell_there : (us : List ℕ) (marks : List Bool) (r : ℕ) → r < length us → get_or (column_from us marks) r (Some 0) ≡ (if get_or marks r false then None else Some (get_or us r 0))
cell_there [] marks r lt = absurd (omega arith)
cell_there (u ∷ us) [] zero lt = refl
cell_there (u ∷ us) [] (suc r) lt = cell_there us [] r (omega arith)
cell_there (u ∷ us) (mark ∷ marks) zero lt = refl
cell_there (u ∷ us) (mark ∷ marks) (suc r) lt = cell_there us marks r (omega arith)

null_by : (mark : Bool) (u : ℕ) → is_null_cell (if mark then None else Some u) ≡ mark
null_by true u = refl
null_by false u = refl

-- a cell is null where its mark says so
pub null_there : (us : List ℕ) (marks : List Bool) (r : ℕ) → r < length us → is_null_cell (get_or (column_from us marks) r (Some 0)) ≡ get_or marks r false
null_there us marks r lt = ap is_null_cell (cell_there us marks r lt) ∙ null_by (get_or marks r false) (get_or us r 0)

number_by : (mark : Bool) (u : ℕ) → IsFalse mark → (if mark then None else Some u) ≡ Some u
number_by true u h = absurd cc
number_by false u h = refl

-- a cell that is not null is its number
pub number_there : (us : List ℕ) (marks : List Bool) (r : ℕ) → r < length us → IsFalse (is_null_cell (get_or (column_from us marks) r (Some 0))) → get_or (column_from us marks) r (Some 0) ≡ Some (get_or us r 0)
number_there us marks r lt h = cell_there us marks r lt ∙ number_by (get_or marks r false) (get_or us r 0) (sym (null_there us marks r lt) ∙ h)

pub ends_read : (columns : List ColumnHead) (column : ℕ) (head : ColumnHead) → column < length columns → head ≡ get_or columns column head → get_or (map ends_of columns) column no_ends ≡ ends_of head
ends_read columns column head lt e = get_or-map ends_of columns column head no_ends lt ∙ ap ends_of (sym e)

-- a table that is kept as numbers and marks
module _ {A : Type 0} (head : Head) (numbers : List (Vec ℕ A)) (nulls : List (Vec Bool A)) (t : IsTable (frame_of head) (cells_from (map vec_items numbers) (map vec_items nulls))) where
  pub list_within : (c : ℕ) → c < length (cells_from (map vec_items numbers) (map vec_items nulls)) → c < length numbers
  list_within c lt = omega (arith, lt, length-cells_from (map vec_items numbers) (map vec_items nulls), length-map numbers vec_items)

  named_within : (c : ℕ) → c < length (cells_from (map vec_items numbers) (map vec_items nulls)) → c < length (map ends_of head.columns)
  named_within c lt = omega (arith, t.columns, lt)

  pub declared_within : (c : ℕ) → c < length (cells_from (map vec_items numbers) (map vec_items nulls)) → c < length head.columns
  declared_within c lt = omega (arith, named_within c lt, length-map head.columns ends_of)

  -- a row of the table is a place of each list of numbers
  pub row_within : (c r : ℕ) → c < length (cells_from (map vec_items numbers) (map vec_items nulls)) → r < head.rows → r < length (get_or (map vec_items numbers) c [])
  row_within c r lt r_in =
      omega (arith, r_in, sym (length-column_from (get_or (map vec_items numbers) c []) (get_or (map vec_items nulls) c [])) ∙ ap length (sym (column_there (map vec_items numbers) (map vec_items nulls) c)) ∙ t.rows c (named_within c lt))

  -- a cell that is not null is its number, which does not pass the column's top
  pub cell_is : (c r : ℕ) → c < length (cells_from (map vec_items numbers) (map vec_items nulls)) → r < head.rows → IsFalse (is_null_cell (cell_at (cells_from (map vec_items numbers) (map vec_items nulls)) c r))
      → cell_at (cells_from (map vec_items numbers) (map vec_items nulls)) c r ≡ Some (get_or (get_or (map vec_items numbers) c []) r 0)
  cell_is c r lt r_in h =
      let there = column_there (map vec_items numbers) (map vec_items nulls) c in
      let at = ap (λ cells. get_or cells r (Some 0)) there in
      at ∙ number_there (get_or (map vec_items numbers) c []) (get_or (map vec_items nulls) c []) r (row_within c r lt r_in) (ap is_null_cell (sym at) ∙ h)

  pub cell_within : (c r : ℕ) → c < length (cells_from (map vec_items numbers) (map vec_items nulls)) → r < head.rows → IsFalse (is_null_cell (cell_at (cells_from (map vec_items numbers) (map vec_items nulls)) c r))
      → get_or (get_or (map vec_items numbers) c []) r 0 ≤ spread (ends_at (frame_of head) c)
  cell_within c r lt r_in h =
      subst (λ x. IsCell (ends_at (frame_of head) c) x) (cell_is c r lt r_in h) (t.within c r (named_within c lt) r_in)

  -- there is a list of marks for each column
  pub marks_within : AreMarks (frame_of head) (map vec_items numbers) (map vec_items nulls) → (c : ℕ) → c < length (cells_from (map vec_items numbers) (map vec_items nulls)) → c < length nulls
  marks_within marks c lt = omega (arith, marks.columns, named_within c lt, length-map nulls vec_items)
