-- The values of a column have texts: its cells are values of its kind, and its least and greatest number are theirs.
use Rattle.std.proofs.Common.{◌≡◌, ℕ, zero, suc, ◌≤◌, pos, Bool, true, false, IsFalse, All, Some, List, [], ◌∷◌, slice_get, length, get_or, refl, inl, inr, arith}
use Rattle.std.proofs.lemmas.List.Elements.{All-cons, All-from_get_or, All-head, All-map, All-nil, All-tail}
use Rattle.std.proofs.lemmas.Option.{slice_get-get_or, slice_get_cases, slice_get_within}
use Rattle.jiff_core.specs.Calendar.{IsCivilDate, day_count, days_from_civil}
use Rattle.jiff_core.proofs.CalendarLemmas.{day_count-day_of_year, day_count-later_year, day_count_bounds, days_from_civil-day_count}
use Rattle.jiff_core.proofs.MarchLemmas.{day_count-early}
use Rattle.jiff_core.proofs.SignedLemmas.{signed_arith}
use Rattle.daq_table.specs.CellTexts.{date_value}
use Rattle.daq_table.specs.Schemas.{columns_in}
use Rattle.daq_table.specs.Tables.{Cell}
use Rattle.daq_table.specs.ValueTexts.{HasText, HasTexts, IsDay}
use Rattle.daq_table.specs.declared.head.ColumnHead.{ColumnHead}
use Rattle.daq_table.specs.declared.head.Kind.{Kind}
use Rattle.daq_table.specs.declared.head.Kind.TheVariants.{Int, Dec, Date, Text}
use Rattle.daq_table.specs.declared.schema_column.SchemaColumn.{SchemaColumn}
use Rattle.daq_table.proofs.Dictionaries.{distinct_has}
use Rattle.daq_table.proofs.Extremes.{greatest_has, least_has}
use Rattle.daq_table.proofs.ShownNumbers.{between_has, zero_has}
use Rattle.csv_load.specs.Columns.{IsValue, column_texts, dictionary, is_null, numbers_of, present}
use Rattle.csv_load.specs.Kept.{kept_rows}
use Rattle.csv_load.specs.Laws.{HeadsHaveTexts}
use Rattle.csv_load.specs.Records.{Fields}
use Rattle.csv_load.specs.Rows.{AreGoodRows}
use Rattle.csv_load.specs.TableOf.{IsColumnOf}
use Rattle.csv_load.specs.declared.limits.Limits.{Limits}

first_day : day_count (pos 0) 1 1 ≡ 3652425
first_day = day_count-early (pos 0) 9999 1 1 refl (omega arith) (omega arith) (omega arith)

-- no year from 0000 on begins before it
begins_later : (year : ℕ) → 3652425 ≤ day_count (pos year) 1 1
begins_later zero = omega (arith, first_day)
begins_later (suc year) = omega (arith, first_day, day_count-later_year (pos 0) (pos (suc year)) (omega (arith, signed_arith)) (omega (arith, signed_arith)))

-- a date of the years from 0000 on has a day number of these years
civil_is_day : (year month day : ℕ) → IsCivilDate (pos year) month day → IsDay (days_from_civil (pos year) month day)
civil_is_day year month day h =
    omega (arith, signed_arith, days_from_civil-day_count, begins_later year, day_count_bounds (pos year) month day h, day_count-day_of_year (pos year) month day h.2.0, h.2.0)

numbers_have : (kind : Kind) (texts : List (List ℕ)) → All (IsValue kind) texts → All (HasText kind) (numbers_of kind texts)
numbers_have Int texts all = λ k d lt. tt
numbers_have (Dec scale) texts all = λ k d lt. tt
numbers_have Date texts all = All-map IsDay date_value texts (λ k d lt. let cell = all k d lt in civil_is_day _ _ _ cell.civil)
numbers_have Text texts all = λ k d lt. tt

abbrev IsShort : List ℕ → Type 0
IsShort name = length name ≤ 255

names_short : (kind : Kind) (texts : List (List ℕ)) → All (IsValue kind) texts → All IsShort (dictionary kind texts)
names_short Int texts all = All-nil IsShort
names_short (Dec scale) texts all = All-nil IsShort
names_short Date texts all = All-nil IsShort
names_short Text texts all = distinct_has IsShort texts [] (All-nil IsShort) (λ k d lt. let text = all k d lt in text.short)

present_with : (P : List ℕ → Type 0) (nullable : Bool) (text : List ℕ) (texts : List (List ℕ)) (b : Bool) → is_null nullable text ≡ b → (IsFalse (is_null nullable text) → P text) → All P (present nullable texts)
    → All P (present nullable (text ∷ texts))
present_with P nullable text texts true e h rest = rw e rest
present_with P nullable text texts false e h rest = rw e (All-cons P text (present nullable texts) (h e) rest)

-- of texts each of which is null or has a property, those that are not null have it
present_have : (P : List ℕ → Type 0) (nullable : Bool) (texts : List (List ℕ)) → All (λ (t : List ℕ). IsFalse (is_null nullable t) → P t) texts → All P (present nullable texts)
present_have P nullable [] all = All-nil P
present_have P nullable (text ∷ texts) all =
    let Q = λ (t : List ℕ). IsFalse (is_null nullable t) → P t in
    present_with P nullable text texts (is_null nullable text) refl (All-head Q text texts all) (present_have P nullable texts (All-tail Q text texts all))

-- the cells of good rows are null or values
good_values : (columns : List SchemaColumn) (limits : Limits) (rows : List Fields) (c : ℕ) (column : SchemaColumn) → AreGoodRows columns limits rows → slice_get columns c ≡ Some column
    → All (IsValue column.kind) (present column.nullable (column_texts c rows))
good_values columns limits rows c column good e =
    let P = λ (t : List ℕ). IsFalse (is_null column.nullable t) → IsValue column.kind t in
    present_have (IsValue column.kind) column.nullable (column_texts c rows)
    (All-map P (λ (row : Fields). get_or row c []) rows
    (All-from_get_or (λ (row : Fields). P (get_or row c [])) rows [] (λ r lt given. ((good r lt).cells c column (slice_get_within columns c column e) e given).value)))

column_has : (column : SchemaColumn) (texts : List (List ℕ)) (head : ColumnHead) (cells : List Cell) → IsColumnOf column texts head cells → All (IsValue column.kind) (present column.nullable texts) → HasTexts head
column_has column texts head cells is all =
    let kind = column.kind in
    let given = present column.nullable texts in
    let numbers = numbers_of kind given in
    let each = numbers_have kind given all in
    let base : HasText head.kind head.base = rw (is.kind, is.base) (least_has (HasText kind) numbers (zero_has kind) each) in
    let top : HasText head.kind head.top = rw (is.kind, is.top) (greatest_has (HasText kind) numbers (zero_has kind) each) in
    record {
      between = λ value low high. between_has head.kind head.base head.top value base top low high;
      names = rw is.names (names_short kind given all);
    }

pub have_texts : HeadsHaveTexts
have_texts bytes items limits table t c head e =
    let lt = slice_get_within table.head.columns c head e in
    let cells = get_or table.cells c [] in
    let cells_are : slice_get table.cells c ≡ Some cells = slice_get-get_or table.cells c [] (omega (arith, lt, t.heads, t.lists)) in
    elim (slice_get_cases (columns_in items) c).1 [
      | inl found ↦
          column_has found.0 (column_texts c (kept_rows items t.rows)) head cells (t.each c found.0 head cells found.2 e cells_are)
          (good_values (columns_in items) limits (kept_rows items t.rows) c found.0 t.good found.2)
      | inr past ↦ absurd (omega (arith, lt, past.0, t.heads))
    ]
