-- A header and good rows stand for a table.
use Rattle.std.proofs.Common.{◌≡◌, ℕ, zero, suc, ◌≤◌, ℤ, ◌-ℤ◌, unsigned_abs, Bool, if◌then◌else◌, IsTrue, Some, List, [], ◌∷◌, slice_get, get_or, length, map, refl, sym, ap, subst, arith}
use Rattle.std.proofs.lemmas.Option.{same_Some}
use Rattle.std.specs.Cmp.Lexicographic.{slice_cmp}
use Rattle.std.specs.List.Sorted.{IsStrictlySortedBy}
use Rattle.std.specs.Ordering.{nat_cmp}
use Rattle.daq_table.specs.ColumnFacts.{IsName}
use Rattle.daq_table.specs.HeadFacts.{all_differ}
use Rattle.daq_table.specs.Schemas.{columns_in, item_names, names_of}
use Rattle.daq_table.specs.Tables.{Contents, cells_from}
use Rattle.daq_table.specs.declared.head.ColumnHead.{ColumnHead}
use Rattle.daq_table.specs.declared.head.Kind.{Kind}
use Rattle.daq_table.specs.declared.head.Kind.TheVariants.{Int, Dec, Date, Text}
use Rattle.daq_table.specs.declared.schema_column.SchemaColumn.{SchemaColumn}
use Rattle.daq_table.specs.declared.schema_item.SchemaItem.{SchemaItem}
use Rattle.daq_table.specs.declared.table_head.Head.{Head}
use Rattle.daq_table.proofs.Dictionaries.{sorted_after}
use Rattle.daq_table.proofs.Extremes.{cells_stand, least_below}
use Rattle.daq_table.specs.Extremes.{greatest, least}
use Rattle.csv_load.specs.Columns.{column_texts, dictionary, present}
use Rattle.csv_load.specs.Kept.{AreFull, kept_rows}
use Rattle.csv_load.specs.Records.{AreRecordsOf, Fields}
use Rattle.csv_load.specs.Rows.{AreGoodRows}
use Rattle.csv_load.specs.States.{AreFinished, HasRead, IsFinished, IsWhole, State, filled, numbers_in, state_of}
use Rattle.csv_load.specs.TableOf.{IsTableOf}
use Rattle.csv_load.specs.declared.limits.Limits.{Limits}
use Rattle.csv_load.proofs.EndFacts.{column_is}
use Rattle.csv_load.proofs.LoadFacts.{all_complete, few_rows, state_whole, table_is}
use Rattle.csv_load.proofs.NullFacts.{finished}
use Rattle.csv_load.proofs.TableFacts.{are_stored, is_head}

dictionary_sorted : (kind : Kind) (texts : List (List ℕ)) → IsStrictlySortedBy (slice_cmp nat_cmp) (dictionary kind texts)
unfolding IsStrictlySortedBy
dictionary_sorted Int texts = tt
dictionary_sorted (Dec scale) texts = tt
dictionary_sorted Date texts = tt
dictionary_sorted Text texts = sorted_after texts [] tt

-- a head and cells that a state stands for
pub record HasFinish (s : State) (name : List ℕ) : Type 0 where
  pub head : ColumnHead
  pub numbers : List ℕ
  pub nulls : List Bool
  pub is_finished : IsFinished s name head numbers nulls

finish : (s : State) (name : List ℕ) → IsName name → IsStrictlySortedBy (slice_cmp nat_cmp) s.kept.names → IsWhole s → HasFinish s name
finish s name named sorted whole =
    let zs = numbers_in s.kept in
    let values = map (λ (z : ℤ). unsigned_abs (z -ℤ least zs)) zs in
    let head : ColumnHead = record {
      name = name;
      kind = s.kept.kind;
      nullable = s.nullable;
      base = least zs;
      top = greatest zs;
      names = s.kept.names;
      is_column = column_is s.kept name s.kept.kind s.kept.names (least zs) (greatest zs) named sorted refl refl refl refl whole.complete;
    } in
    record {
      head = head;
      numbers = if s.nullable then filled s.nulls values else values;
      nulls = s.nulls;
      is_finished = finished s name head values (if s.nullable then filled s.nulls values else values) s.nulls whole
          (record { name_is = refl; kind = refl; nullable_is = refl; names = refl; base = refl; top = refl; numbers_are = cells_stand (least zs) zs (least_below zs) }) refl refl;
    }

-- the states after these texts, column by column
pub record HasStates (columns : List SchemaColumn) (texts : ℕ → List (List ℕ)) : Type 0 where
  pub states : List State
  pub wide : length states ≡ length columns
  pub each : (c : ℕ) (column : SchemaColumn) (d : State) → slice_get columns c ≡ Some column → get_or states c d ≡ state_of column.kind column.nullable (texts c)

state_at : (x : SchemaColumn) (columns : List SchemaColumn) (texts : ℕ → List (List ℕ)) (rest : HasStates columns (λ (c : ℕ). texts (suc c))) (c : ℕ) (column : SchemaColumn) (d : State) → slice_get (x ∷ columns) c ≡ Some column
    → get_or (state_of x.kind x.nullable (texts 0) ∷ rest.states) c d ≡ state_of column.kind column.nullable (texts c)
state_at x columns texts rest zero column d e = ap (λ (y : SchemaColumn). state_of y.kind y.nullable (texts 0)) (same_Some x column e)
state_at x columns texts rest (suc c) column d e = rest.each c column d e

some_states : (columns : List SchemaColumn) (texts : ℕ → List (List ℕ)) → HasStates columns texts
some_states [] texts = record { states = []; wide = refl; each = λ c column d e. absurd cc }
some_states (x ∷ columns) texts =
    let rest = some_states columns (λ (c : ℕ). texts (suc c)) in
    record { states = state_of x.kind x.nullable (texts 0) ∷ rest.states; wide = ap suc rest.wide; each = state_at x columns texts rest }

-- the heads and cells of all columns
pub record HasColumns (columns : List SchemaColumn) (states : List State) : Type 0 where
  pub heads : List ColumnHead
  pub lists : List (List ℕ)
  pub marks : List (List Bool)
  pub are_finished : AreFinished columns states (length columns) heads lists marks

-- each column of the schema can be finished
abbrev CanFinish : List SchemaColumn → List State → Type 0
CanFinish columns states = (c : ℕ) (column : SchemaColumn) (d : State) → slice_get columns c ≡ Some column → HasFinish (get_or states c d) column.name

finished_at : (x : SchemaColumn) (columns : List SchemaColumn) (s : State) (states : List State) (here : HasFinish s x.name) (rest : HasColumns columns states) (c : ℕ) (column : SchemaColumn) (d : State) (head : ColumnHead)
    → slice_get (x ∷ columns) c ≡ Some column → slice_get (here.head ∷ rest.heads) c ≡ Some head
    → IsFinished (get_or (s ∷ states) c d) column.name head (get_or (here.numbers ∷ rest.lists) c []) (get_or (here.nulls ∷ rest.marks) c [])
finished_at x columns s states here rest zero column d head e g =
    subst (λ (y : SchemaColumn). IsFinished s y.name head here.numbers here.nulls) (same_Some x column e)
    (subst (λ (h : ColumnHead). IsFinished s x.name h here.numbers here.nulls) (same_Some here.head head g) here.is_finished)
finished_at x columns s states here rest (suc c) column d head e g = rest.are_finished.each c column d head e g

some_columns : (columns : List SchemaColumn) (states : List State) → length states ≡ length columns → CanFinish columns states → HasColumns columns states
some_columns [] [] e f = record { heads = []; lists = []; marks = []; are_finished = record { heads_count = refl; lists_count = refl; marks_count = refl; each = λ c column d head e g. absurd cc } }
some_columns [] (s ∷ states) e f = absurd (omega (arith, e))
some_columns (x ∷ columns) [] e f = absurd (omega (arith, e))
some_columns (x ∷ columns) (s ∷ states) e f =
    let here = f 0 x s refl in
    let rest = some_columns columns states (omega (arith, e)) (λ c column d g. f (suc c) column d g) in
    record {
      heads = here.head ∷ rest.heads;
      lists = here.numbers ∷ rest.lists;
      marks = here.nulls ∷ rest.marks;
      are_finished = record {
        heads_count = ap suc rest.are_finished.heads_count;
        lists_count = ap suc rest.are_finished.lists_count;
        marks_count = ap suc rest.are_finished.marks_count;
        each = finished_at x columns s states here rest;
      };
    }

pub some_table : (bytes : List ℕ) (items : List SchemaItem) (limits : Limits) (rows : List Fields) → AreRecordsOf bytes (item_names items ∷ rows) → AreFull items rows → AreGoodRows (columns_in items) limits (kept_rows items rows)
    → length (columns_in items) ≤ 64 → IsTrue (all_differ (names_of (columns_in items))) → ((c : ℕ) (column : SchemaColumn) → slice_get (columns_in items) c ≡ Some column → IsName column.name) → limits.rows ≤ 16777216
    → (table : Contents) × IsTableOf bytes items limits table
some_table bytes items limits rows records full good few differ named small =
    let columns = columns_in items in
    let kept = kept_rows items rows in
    let made = some_states columns (λ (c : ℕ). column_texts c kept) in
    let read : HasRead bytes items limits (length rows) made.states = record { rows = rows; records = records; full = full; good = good; count_is = refl; states_are = record { wide = made.wide; each = made.each } } in
    let can : CanFinish columns made.states = λ c column d e.
    subst (λ (s : State). HasFinish s column.name) (sym (made.each c column d e))
    (finish (state_of column.kind column.nullable (column_texts c kept)) column.name (named c column e) (dictionary_sorted column.kind (present column.nullable (column_texts c kept)))
    (state_whole column.kind column.nullable (column_texts c kept))) in
    let all = some_columns columns made.states made.wide can in
    let count = few_rows bytes items limits (length rows) made.states read in
    let head : Head = record {
      rows = length rows;
      columns = all.heads;
      is_head = is_head columns made.states all.heads all.lists all.marks (length rows) all.are_finished (all_complete bytes items limits (length rows) made.states read) made.wide (omega (arith, count, small)) few differ;
    } in
    let table : Contents = record { head = head; cells = cells_from all.lists all.marks } in
    let stored = are_stored columns made.states all.heads all.lists all.marks (subst (λ (n : ℕ). AreFinished columns made.states n all.heads all.lists all.marks) (sym made.wide) all.are_finished) in
    (table, table_is bytes items limits (length rows) made.states table read refl stored)
