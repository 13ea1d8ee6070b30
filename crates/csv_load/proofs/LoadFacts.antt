-- What was read of a CSV, finished, is its table.
use Rattle.std.proofs.Common.{◌≡◌, ℕ, ◌<◌, ◌≤◌, Bool, true, false, cond, Some, List, [], ◌∷◌, slice_get, length, map, get_or, refl, sym, ap, subst, inl, inr, ◌∙◌, arith}
use Rattle.std.proofs.lemmas.List.{length-map}
use Rattle.std.proofs.lemmas.Option.{get_or_from_slice_get, slice_get_cases}
use Rattle.daq_table.specs.Schemas.{columns_in}
use Rattle.daq_table.specs.Tables.{Cell, Contents}
use Rattle.daq_table.specs.declared.head.ColumnHead.{ColumnHead}
use Rattle.daq_table.specs.declared.head.Kind.{Kind}
use Rattle.daq_table.specs.declared.head.Kind.TheVariants.{Int, Dec, Date, Text}
use Rattle.daq_table.specs.declared.schema_column.SchemaColumn.{SchemaColumn}
use Rattle.daq_table.specs.declared.schema_item.SchemaItem.{SchemaItem}
use Rattle.daq_table.proofs.Dictionaries.{all_come}
use Rattle.daq_table.specs.Extremes.{greatest, least}
use Rattle.csv_load.specs.Columns.{column_texts, is_null, numbers_of, present, values_of}
use Rattle.csv_load.specs.Kept.{kept_rows}
use Rattle.csv_load.specs.Records.{Fields}
use Rattle.csv_load.specs.Rows.{AreGoodRows}
use Rattle.csv_load.specs.States.{AreComplete, AreStored, HasRead, IsComplete, IsStored, IsWhole, State, kept_of, laid, numbers_in, state_of, values_in}
use Rattle.csv_load.specs.TableOf.{IsColumnOf, IsTableOf}
use Rattle.csv_load.specs.declared.limits.Limits.{Limits}
use Rattle.csv_load.proofs.NullFacts.{count_present, nullable_values, other_values}
use Rattle.csv_load.proofs.KeptRows.{rows_count}
use Rattle.csv_load.proofs.RowFacts.{rows_bound}

kept_complete : (kind : Kind) (texts : List (List ℕ)) → IsComplete (kept_of kind texts)
kept_complete Int texts = record { known = λ k d lt. absurd (omega (arith, lt)); plain = λ e. refl }
kept_complete (Dec scale) texts = record { known = λ k d lt. absurd (omega (arith, lt)); plain = λ e. refl }
kept_complete Date texts = record { known = λ k d lt. absurd (omega (arith, lt)); plain = λ e. refl }
kept_complete Text texts = record { known = all_come texts []; plain = λ e. absurd cc }

numbers_same : (kind : Kind) (texts : List (List ℕ)) → numbers_in (kept_of kind texts) ≡ numbers_of kind texts
numbers_same Int texts = refl
numbers_same (Dec scale) texts = refl
numbers_same Date texts = refl
numbers_same Text texts = refl

values_same : (kind : Kind) (nullable : Bool) (texts : List (List ℕ)) → values_in (state_of kind nullable texts) ≡ values_of nullable kind texts
values_same kind true texts = ap (laid (map (is_null true) texts)) (numbers_same kind (present true texts)) ∙ nullable_values kind texts
values_same kind false texts = ap (map Some) (numbers_same kind (present false texts)) ∙ other_values kind texts

number_count : (kind : Kind) (texts : List (List ℕ)) → length (numbers_in (kept_of kind texts)) ≡ length texts
number_count kind texts = ap length (numbers_same kind texts) ∙ length-map texts _

pub state_whole : (kind : Kind) (nullable : Bool) (texts : List (List ℕ)) → IsWhole (state_of kind nullable texts)
state_whole kind true texts = record {
  complete = kept_complete kind (present true texts);
  marked = λ t. count_present texts ∙ sym (number_count kind (present true texts));
  plain = λ e. absurd cc;
}
state_whole kind false texts = record {
  complete = kept_complete kind (present false texts);
  marked = λ t. absurd cc;
  plain = λ e. refl;
}

mark_count : (kind : Kind) (nullable : Bool) (texts : List (List ℕ)) (rows : ℕ) → length texts ≡ rows → length (state_of kind nullable texts).nulls ≡ cond nullable rows 0
mark_count kind true texts rows e = length-map texts (is_null true) ∙ e
mark_count kind false texts rows e = refl

pub all_complete : (bytes : List ℕ) (items : List SchemaItem) (limits : Limits) (count : ℕ) (states : List State) → HasRead bytes items limits count states → AreComplete count states
all_complete bytes items limits count states h = record {
  whole = λ c d lt.
      let x = column_there c lt in
      subst IsWhole (sym (h.states_are.each c x.0 d x.1)) (state_whole x.0.kind x.0.nullable (column_texts c (kept_rows items h.rows)));
  count = λ c d lt.
      let x = column_there c lt in
      ap (λ (s : State). length (values_in s)) (h.states_are.each c x.0 d x.1) ∙ ap length (values_same x.0.kind x.0.nullable (column_texts c (kept_rows items h.rows))) ∙ length-map (column_texts c (kept_rows items h.rows)) _ ∙ texts_count c;
  marks = λ c d lt.
      let x = column_there c lt in
      subst (λ (s : State). length s.nulls ≡ cond s.nullable count 0) (sym (h.states_are.each c x.0 d x.1)) (mark_count x.0.kind x.0.nullable (column_texts c (kept_rows items h.rows)) count (texts_count c));
}
  where
    column_there : (c : ℕ) → c < length states → (x : SchemaColumn) × (slice_get (columns_in items) c ≡ Some x)
    column_there c lt = elim (slice_get_cases (columns_in items) c).1 [ inl inside ↦ (inside.0, inside.2) | inr past ↦ absurd (omega (arith, lt, past.0, h.states_are.wide)) ]

    texts_count : (c : ℕ) → length (column_texts c (kept_rows items h.rows)) ≡ count
    texts_count c = length-map (kept_rows items h.rows) _ ∙ rows_count items h.rows ∙ sym h.count_is

no_more : (columns : List SchemaColumn) (limits : Limits) (rows : List Fields) → AreGoodRows columns limits rows → length rows ≤ limits.rows
no_more columns limits [] good = omega arith
no_more columns limits (row ∷ rows) good = rows_bound columns limits (row ∷ rows) (length rows) good refl

pub few_rows : (bytes : List ℕ) (items : List SchemaItem) (limits : Limits) (count : ℕ) (states : List State) → HasRead bytes items limits count states → count ≤ limits.rows
few_rows bytes items limits count states h = omega (arith, h.count_is, rows_count items h.rows, no_more (columns_in items) limits (kept_rows items h.rows) h.good)

column_of : (column : SchemaColumn) (texts : List (List ℕ)) (s : State) (head : ColumnHead) (cells : List Cell) → s ≡ state_of column.kind column.nullable texts → IsStored s column.name head cells → IsColumnOf column texts head cells
column_of column texts s head cells e f =
    let numbers : numbers_in s.kept ≡ numbers_of column.kind (present column.nullable texts) = ap (λ (x : State). numbers_in x.kept) e ∙ numbers_same column.kind (present column.nullable texts) in
    record {
      name = f.name_is;
      kind = f.kind ∙ ap (λ (x : State). x.kept.kind) e;
      nullable = f.nullable ∙ ap (λ (x : State). x.nullable) e;
      names = f.names ∙ ap (λ (x : State). x.kept.names) e;
      base = f.base ∙ ap least numbers;
      top = f.top ∙ ap greatest numbers;
      cells_are = f.cells_are ∙ ap values_in e ∙ values_same column.kind column.nullable texts;
    }

pub table_is : (bytes : List ℕ) (items : List SchemaItem) (limits : Limits) (count : ℕ) (states : List State) (table : Contents) → HasRead bytes items limits count states
    → table.head.rows ≡ count → AreStored (columns_in items) states table.head.columns table.cells → IsTableOf bytes items limits table
table_is bytes items limits count states table h e f = record {
  rows = h.rows;
  records = h.records;
  full = h.full;
  good = h.good;
  count = e ∙ h.count_is;
  heads = f.heads_count ∙ h.states_are.wide;
  lists = f.cells_count ∙ h.states_are.wide;
  each = λ c column head cells is there list.
      let d = state_of column.kind column.nullable [] in
      column_of column (column_texts c (kept_rows items h.rows)) (get_or states c d) head cells (h.states_are.each c column d is)
      (subst (IsStored (get_or states c d) column.name head) (get_or_from_slice_get table.cells c cells [] list) (f.each c column d head is there));
}
