-- Typed items are valid.
use Rattle.std.proofs.Common.{◌≡◌, ℕ, suc, ◌+◌, ◌<◌, List, [], ◌∷◌, length, cond, filter_map, None, inl, inr, ◌⊎◌, refl, sym, subst, arith}
use Rattle.std.proofs.lemmas.List.Recursion.{is_count_by}
use Rattle.std.specs.List.{AllByRecursion, count_by}
use Rattle.daq_table.specs.Tables.{frame_of}
use Rattle.daq_table.specs.declared.head.ColumnHead.{ColumnHead}
use Rattle.daq_table.specs.declared.head.Kind.{Kind}
use Rattle.daq_table.specs.declared.table_head.Head.{Head}
use Rattle.query_model.specs.Meaning.{columns_of}
use Rattle.query_model.specs.Projection.{projected_frame}
use Rattle.query_model.specs.Queries.{Query}
use Rattle.query_model.specs.Validity.{FaceOf, FitsItem, IsBareColumn, IsNumberKind, IsSumKind, IsValidItem}
use Rattle.sql_text.specs.declared.tree.CallKind.{CallKind}
use Rattle.sql_text.specs.declared.tree.CallKind.TheVariants as calls
use Rattle.sql_text.specs.Tree as tree
use Rattle.sql_text.specs.Tree.{Name}
use Rattle.sql_typing.specs.Faults.{argument_fault, expr_fault, first_in, is_aggregate, item_fault}
use Rattle.sql_typing.specs.Names.{kind_of, names_in_expr, names_in_item, names_in_items, number_of}
use Rattle.sql_typing.specs.Typing.{bare_column, counted, face_of, kind_of_call, scale_of, typed_call, typed_expr, typed_item, whole_column}
use Rattle.sql_typing.proofs.Alls.{all_both, all_left, all_right, all_then}
use Rattle.sql_typing.proofs.Firsts.{none_first, none_later}
use Rattle.sql_typing.proofs.Numbered.{IsNumbered, kind_by}
use Rattle.sql_typing.proofs.Readings.{names_numbers, reads_below, typed_reads}
use Rattle.sql_typing.proofs.Scales.{fine_scale}

-- ---- faces

face_is : (table : List ColumnHead) (columns : List ℕ) (kind : CallKind) (e : tree.Expr) → argument_fault table (whole_column kind e) e ≡ None → FaceOf (kind_of_call kind) (typed_expr table columns e) (face_of table columns kind e)
face_is table columns calls.Count e h = (0, omega arith, refl)
face_is table columns calls.Sum e h = (scale_of table e, fine_scale table e h, refl)
face_is table columns calls.Avg e h = (scale_of table e, fine_scale table e h, refl)
face_is table columns calls.Min (tree.Column n) h = refl
face_is table columns calls.Min (tree.Number v) h = (v.scale, fine_scale table (tree.Number v) h, refl)
face_is table columns calls.Min (tree.Add a b) h = (scale_of table (tree.Add a b), fine_scale table (tree.Add a b) h, refl)
face_is table columns calls.Min (tree.Sub a b) h = (scale_of table (tree.Sub a b), fine_scale table (tree.Sub a b) h, refl)
face_is table columns calls.Min (tree.Mul at a b) h = (scale_of table (tree.Mul at a b), fine_scale table (tree.Mul at a b) h, refl)
face_is table columns calls.Max (tree.Column n) h = refl
face_is table columns calls.Max (tree.Number v) h = (v.scale, fine_scale table (tree.Number v) h, refl)
face_is table columns calls.Max (tree.Add a b) h = (scale_of table (tree.Add a b), fine_scale table (tree.Add a b) h, refl)
face_is table columns calls.Max (tree.Sub a b) h = (scale_of table (tree.Sub a b), fine_scale table (tree.Sub a b) h, refl)
face_is table columns calls.Max (tree.Mul at a b) h = (scale_of table (tree.Mul at a b), fine_scale table (tree.Mul at a b) h, refl)

-- ---- kinds

abbrev HasKinds : List ColumnHead → List ℕ → CallKind → tree.Expr → Type 0
HasKinds table columns kind e = AllByRecursion (λ c. IsNumberKind (kind_by table columns c)) (columns_of (typed_expr table columns e))
    ⊎ (IsBareColumn (typed_expr table columns e) × ¬ IsSumKind (kind_of_call kind))

reads_numbers : (table : List ColumnHead) (columns : List ℕ) (e : tree.Expr) → expr_fault table e ≡ None → AllByRecursion (IsNumbered table columns) (names_in_expr e)
    → AllByRecursion (λ c. IsNumberKind (kind_by table columns c)) (columns_of (typed_expr table columns e))
reads_numbers table columns e good numbered =
    typed_reads table columns (λ c. IsNumberKind (kind_by table columns c)) e
    (all_both (IsNumbered table columns) (λ n. IsNumberKind (kind_of table n.name)) (λ n. IsNumberKind (kind_by table columns (number_of table columns n.name)))
    (λ n is number. subst (λ (k : Kind). IsNumberKind k) (sym is.kind) number) (names_in_expr e) numbered (names_numbers table e good))

-- a bare column may be of any kind where no sum is asked for
some_kinds : (table : List ColumnHead) (columns : List ℕ) (kind : CallKind) (e : tree.Expr) → ¬ IsSumKind (kind_of_call kind) → argument_fault table (bare_column e) e ≡ None
    → AllByRecursion (IsNumbered table columns) (names_in_expr e) → HasKinds table columns kind e
some_kinds table columns kind (tree.Column n) no_sum good numbered = inr (tt, no_sum)
some_kinds table columns kind (tree.Number v) no_sum good numbered = inl (reads_numbers table columns (tree.Number v) good numbered)
some_kinds table columns kind (tree.Add a b) no_sum good numbered = inl (reads_numbers table columns (tree.Add a b) good numbered)
some_kinds table columns kind (tree.Sub a b) no_sum good numbered = inl (reads_numbers table columns (tree.Sub a b) good numbered)
some_kinds table columns kind (tree.Mul at a b) no_sum good numbered = inl (reads_numbers table columns (tree.Mul at a b) good numbered)

kinds_are : (table : List ColumnHead) (columns : List ℕ) (kind : CallKind) (e : tree.Expr) → argument_fault table (whole_column kind e) e ≡ None
    → AllByRecursion (IsNumbered table columns) (names_in_expr e) → HasKinds table columns kind e
kinds_are table columns calls.Count e good numbered = some_kinds table columns calls.Count e (λ sum. sum) good numbered
kinds_are table columns calls.Sum e good numbered = inl (reads_numbers table columns e good numbered)
kinds_are table columns calls.Avg e good numbered = inl (reads_numbers table columns e good numbered)
kinds_are table columns calls.Min e good numbered = some_kinds table columns calls.Min e (λ sum. sum) good numbered
kinds_are table columns calls.Max e good numbered = some_kinds table columns calls.Max e (λ sum. sum) good numbered

-- ---- items

pub numbers_below : (table : List ColumnHead) (columns : List ℕ) (ns : List Name) → AllByRecursion (IsNumbered table columns) ns → AllByRecursion (λ n. number_of table columns n.name < length columns) ns
numbers_below table columns ns h = all_then (IsNumbered table columns) (λ n. number_of table columns n.name < length columns) (λ n is. is.within) ns h

valid_count : (head : Head) (query : Query) → FitsItem (projected_frame query (frame_of head)) counted → IsValidItem head query counted
valid_count head query fits = record { columns = tt; kinds = inl tt; face = (0, omega arith, refl); fits = fits }

valid_call : (head : Head) (query : Query) (kind : CallKind) (e : tree.Expr) → argument_fault head.columns (whole_column kind e) e ≡ None → AllByRecursion (IsNumbered head.columns query.columns) (names_in_expr e)
    → FitsItem (projected_frame query (frame_of head)) (typed_call head.columns query.columns kind e) → IsValidItem head query (typed_call head.columns query.columns kind e)
valid_call head query kind e good numbered fits = record {
  columns = reads_below (length query.columns) (typed_expr head.columns query.columns e)
      (typed_reads head.columns query.columns (λ c. c < length query.columns) e (numbers_below head.columns query.columns (names_in_expr e) numbered));
  kinds = kinds_are head.columns query.columns kind e good numbered;
  face = face_is head.columns query.columns kind e good;
  fits = fits;
}

pub valid_items : (head : Head) (query : Query) (groups : List Name) (is : List tree.Item) → first_in (item_fault head.columns groups) is ≡ None → AllByRecursion (IsNumbered head.columns query.columns) (names_in_items is)
    → AllByRecursion (FitsItem (projected_frame query (frame_of head))) (filter_map (typed_item head.columns query.columns) is)
    → AllByRecursion (IsValidItem head query) (filter_map (typed_item head.columns query.columns) is)
valid_items head query groups [] good numbered fits = tt
valid_items head query groups (tree.Plain n ∷ is) good numbered fits =
    valid_items head query groups is (none_later (item_fault head.columns groups (tree.Plain n)) _ good) (all_right _ (names_in_item (tree.Plain n)) (names_in_items is) numbered) fits
valid_items head query groups (tree.CountAll ∷ is) good numbered fits =
    (valid_count head query fits.0, valid_items head query groups is (none_later (item_fault head.columns groups tree.CountAll) _ good) numbered fits.1)
valid_items head query groups (tree.Call kind e ∷ is) good numbered fits = (
  valid_call head query kind e (none_first (item_fault head.columns groups (tree.Call kind e)) _ good) (all_left _ (names_in_expr e) (names_in_items is) numbered) fits.0,
  valid_items head query groups is (none_later (item_fault head.columns groups (tree.Call kind e)) _ good) (all_right _ (names_in_expr e) (names_in_items is) numbered) fits.1,
)

-- ---- their number

one_more : (n : ℕ) → suc n ≡ 1 + n
one_more n = omega arith

one_item : (table : List ColumnHead) (columns : List ℕ) (i : tree.Item) (is : List tree.Item) → length (filter_map (typed_item table columns) (i ∷ is)) ≡ cond (is_aggregate i) (1 + length (filter_map (typed_item table columns) is)) (length (filter_map (typed_item table columns) is))
one_item table columns (tree.Plain n) is = refl
one_item table columns tree.CountAll is = one_more (length (filter_map (typed_item table columns) is))
one_item table columns (tree.Call kind e) is = one_more (length (filter_map (typed_item table columns) is))

pub counted_items : (table : List ColumnHead) (columns : List ℕ) (is : List tree.Item) → length (filter_map (typed_item table columns) is) ≡ count_by is_aggregate is
counted_items table columns is = is_count_by (λ xs. length (filter_map (typed_item table columns) xs)) is_aggregate refl (one_item table columns) is
