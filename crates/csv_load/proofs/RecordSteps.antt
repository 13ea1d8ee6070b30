-- One more record: either it is taken, or it shows what the text is refused for.
use Rattle.std.proofs.Common.{◌≡◌, ◌≢◌, ℕ, suc, ◌+◌, ◌-◌, ◌*◌, ◌<◌, ◌≤◌, Some, List, [], ◌∷◌, ◌++◌, slice_get, get_or, length, refl, sym, ap, subst, inl, inr, ◌∙◌, arith}
use Rattle.std.proofs.lemmas.Option.{slice_get_cases}
use Rattle.daq_table.specs.Schemas.{columns_in, item_names}
use Rattle.daq_table.specs.declared.schema_column.SchemaColumn.{SchemaColumn}
use Rattle.daq_table.specs.declared.schema_item.SchemaItem.{SchemaItem}
use Rattle.csv_load.specs.Columns.{column_texts, present}
use Rattle.csv_load.specs.Faults.{HasBadField, PassesFieldNames, ReachesCell, Refuses}
use Rattle.csv_load.specs.Kept.{AreFull, kept_fields, kept_rows, place_of}
use Rattle.csv_load.specs.Records.{AreRecordsOf, Begins, Fields}
use Rattle.csv_load.specs.Rows.{AreGoodRows}
use Rattle.csv_load.specs.States.{AreStates, HasRead, HasTaken, RefusesCell, RefusesField, RefusesRecord, RefusesRow, State, TakesRecord, TakesRow, state_of}
use Rattle.csv_load.specs.declared.fault.TableFault.{TableFault}
use Rattle.csv_load.specs.declared.fault.TableFault.TheVariants.{NoHeader, HeaderDiffers, TooManyRows, TooManyCells, UnequalLength, BadCell, TooManyNames, NoMemory}
use Rattle.csv_load.specs.declared.limits.Limits.{Limits}
use Rattle.csv_load.proofs.KeptRows.{GoodRow, good_bound, good_more, kept_count, kept_more, no_rows, room_for_kept, rows_count}
use Rattle.csv_load.proofs.RowFacts.{cells_are_good, dictionary_more, has_room, states_more}

row_is_good : (items : List SchemaItem) (limits : Limits) (rows : List Fields) (old new : List State) (next : Fields) → AreStates (columns_in items) (kept_rows items rows) old → TakesRow items limits (length rows) old next new
    → GoodRow items limits rows next
row_is_good items limits rows old new next s t = record {
  full = t.full;
  good = record {
    room = room_for_kept items limits rows (has_room (columns_in items) limits rows (length old) s.wide t.room);
    full = kept_count items next;
    cells = cells_are_good (columns_in items) limits (kept_rows items rows) old (kept_fields items next) (length (columns_in items)) s (λ c d lt. t.took.takes c d (omega (arith, lt, s.wide)));
  };
}

pub record_taken : (items : List SchemaItem) (limits : Limits) (records : List Fields) (old new : List State) (next : Fields) → HasTaken items limits records old
    → TakesRecord items limits (length records) old next new → HasTaken items limits (records ++ next ∷ []) new
record_taken items limits [] old new next h t = let none = no_rows items limits in record { header_is = t.0; full = none.full; good = none.good; states_are = rw t.1 h }
record_taken items limits (header ∷ rows) old new next h t =
    let more = good_more items limits rows next (record { full = h.full; good = h.good }) (row_is_good items limits rows old new next h.states_are t) in
    record {
      header_is = h.header_is;
      full = more.full;
      good = more.good;
      states_are = subst (λ (xs : List Fields). AreStates (columns_in items) xs new) (sym (kept_more items rows next))
          (states_more (columns_in items) (kept_rows items rows) limits.names old new (kept_fields items next) h.states_are t.took);
    }

-- the same, as the code names its parts
pub taken_at : (items : List SchemaItem) (limits : Limits) (records : List Fields) (n : ℕ) (old now new : List State) (next : Fields) → HasTaken items limits records old → length records ≡ n
    → now ≡ old → TakesRecord items limits n now next new → HasTaken items limits (records ++ next ∷ []) new
taken_at items limits records n old now new next h count is t =
    let at = subst (λ (m : ℕ). TakesRecord items limits m now next new) (sym count) t in
    record_taken items limits records old new next h (subst (λ (xs : List State). TakesRecord items limits (length records) xs next new) is at)

pub taken_bound : (items : List SchemaItem) (limits : Limits) (records : List Fields) (states : List State) → HasTaken items limits records states → length records ≤ limits.rows + 1
taken_bound items limits [] states h = omega arith
taken_bound items limits (header ∷ []) states h = omega arith
taken_bound items limits (header ∷ row ∷ rows) states h = let n = length rows in omega (arith, good_bound items limits (row ∷ rows) n h.good refl)

-- there is a state for each column
pub taken_wide : (items : List SchemaItem) (limits : Limits) (records : List Fields) (states : List State) → HasTaken items limits records states → length states ≡ length (columns_in items)
taken_wide items limits [] states h = h.wide
taken_wide items limits (header ∷ rows) states h = h.states_are.wide

module _ (items : List SchemaItem) (limits : Limits) (rows : List Fields) (old : List State) (next : Fields) (s : AreStates (columns_in items) (kept_rows items rows) old) where
  -- the column at a place below their number
  reached : (fault : TableFault) (h : RefusesField items limits (length rows) old next fault) → ReachesCell (columns_in items) limits (kept_rows items rows) (kept_fields items next) h.field.place
  reached fault h =
      elim (slice_get_cases (columns_in items) h.field.place).1 [
        | inl there ↦ record {
          room = room_for_kept items limits rows (has_room (columns_in items) limits rows (length old) s.wide h.room);
          full = kept_count items next;
          before = cells_are_good (columns_in items) limits (kept_rows items rows) old (kept_fields items next) h.field.place s h.field.before;
          column = there.0;
          column_is = there.2;
        }
        | inr past ↦ absurd (omega (arith, past.0, h.field.within, s.wide))
      ]

  refused : (fault : TableFault) (h : RefusesField items limits (length rows) old next fault) (column : SchemaColumn) → slice_get (columns_in items) h.field.place ≡ Some column
      → RefusesCell limits.names (suc (length rows)) (place_of items h.field.place) (state_of column.kind column.nullable (column_texts h.field.place (kept_rows items rows))) (get_or (kept_fields items next) h.field.place []) fault
  refused fault h column e =
      let d = state_of column.kind column.nullable [] in
      subst (λ (x : State). RefusesCell limits.names (suc (length rows)) (place_of items h.field.place) x (get_or (kept_fields items next) h.field.place []) fault) (s.each h.field.place column d e) (h.field.refused d)

  bad_field : (entry place : ℕ) (h : RefusesField items limits (length rows) old next (BadCell entry place)) → HasBadField items limits rows next entry place
  bad_field entry place h =
      let cell = reached (BadCell entry place) h in
      let why = refused (BadCell entry place) h cell.column cell.column_is in
      record { full = h.full; column = h.field.place; place_is = why.1; bad = record { reached = cell; entry_is = why.0 ∙ ap suc (sym (rows_count items rows)); given = why.2; bad = why.3 } }

  many_names : (place : ℕ) (h : RefusesField items limits (length rows) old next (TooManyNames place)) → PassesFieldNames items limits rows next place
  many_names place h =
      let cell = reached (TooManyNames place) h in
      let why = refused (TooManyNames place) h cell.column cell.column_is in
      let many = subst (λ (ns : List (List ℕ)). limits.names < length ns) (dictionary_more cell.column.kind (present cell.column.nullable (column_texts h.field.place (kept_rows items rows))) (get_or (kept_fields items next) h.field.place [])) why.2.many in
      record { full = h.full; column = h.field.place; place_is = why.0; passed = record { reached = cell; given = why.1; value = why.2.value; many = many } }

  row_refused : (bytes : List ℕ) (fault : TableFault) → AreFull items rows → AreGoodRows (columns_in items) limits (kept_rows items rows) → Begins bytes (item_names items ∷ (rows ++ next ∷ [])) → RefusesRow items limits (length rows) old next fault
      → Refuses bytes items limits fault
  row_refused bytes NoHeader full good b h = absurd h
  row_refused bytes (HeaderDiffers place) full good b h = absurd h
  row_refused bytes (TooManyRows limit) full good b h =
      record { rows = rows; next = next; begins = b; full = full; good = good; shows = record { limit_is = h.0; many = h.1 } }
  row_refused bytes (TooManyCells count) full good b h =
      record { rows = rows; next = next; begins = b; full = full; good = good; shows = record { row = h.0; count_is = h.1 ∙ ap (λ (n : ℕ). suc (length rows) * n) s.wide; many = h.2 } }
  row_refused bytes (UnequalLength entry got want) full good b h =
      record { rows = rows; next = next; begins = b; full = full; good = good; shows = record { room = has_room (columns_in items) limits rows (length old) s.wide h.room; entry_is = h.entry_is; got_is = h.got_is; want_is = h.want_is; differ = h.differ } }
  row_refused bytes (BadCell entry place) full good b h = record { rows = rows; next = next; begins = b; full = full; good = good; shows = bad_field entry place h }
  row_refused bytes (TooManyNames place) full good b h = record { rows = rows; next = next; begins = b; full = full; good = good; shows = many_names place h }
  row_refused bytes NoMemory full good b h = tt

header_refused : (bytes : List ℕ) (items : List SchemaItem) (limits : Limits) (old : List State) (next : Fields) (fault : TableFault)
    → Begins bytes (next ∷ []) → RefusesRecord items limits 0 old next fault → Refuses bytes items limits fault
header_refused bytes items limits old next NoHeader b h = absurd h
header_refused bytes items limits old next (HeaderDiffers place) b h = record { header = next; begins = b; place = h }
header_refused bytes items limits old next (TooManyRows limit) b h = absurd h
header_refused bytes items limits old next (TooManyCells count) b h = absurd h
header_refused bytes items limits old next (UnequalLength entry got want) b h = absurd h
header_refused bytes items limits old next (BadCell entry place) b h = absurd h
header_refused bytes items limits old next (TooManyNames place) b h = absurd h
header_refused bytes items limits old next NoMemory b h = absurd h

pub record_refused : (bytes : List ℕ) (items : List SchemaItem) (limits : Limits) (records : List Fields) (old : List State) (next : Fields) (fault : TableFault)
    → HasTaken items limits records old → Begins bytes (records ++ next ∷ []) → RefusesRecord items limits (length records) old next fault → Refuses bytes items limits fault
record_refused bytes items limits [] old next fault t b h = header_refused bytes items limits old next fault b h
record_refused bytes items limits (header ∷ rows) old next fault t b h =
    row_refused items limits rows old next t.states_are bytes fault t.full t.good (subst (λ (names : Fields). Begins bytes (names ∷ (rows ++ next ∷ []))) t.header_is b) h

-- the same, as the code names its parts
pub refused_at : (bytes : List ℕ) (items : List SchemaItem) (limits : Limits) (records : List Fields) (n : ℕ) (old now : List State) (next : Fields) (fault : TableFault)
    → HasTaken items limits records old → length records ≡ n → now ≡ old → Begins bytes (records ++ next ∷ []) → RefusesRecord items limits n now next fault → Refuses bytes items limits fault
refused_at bytes items limits records n old now next fault h count is b r =
    let at = subst (λ (m : ℕ). RefusesRecord items limits m now next fault) (sym count) r in
    record_refused bytes items limits records old next fault h b (subst (λ (xs : List State). RefusesRecord items limits (length records) xs next fault) is at)

-- where these are all records, the text was read to its end
pub read_whole : (bytes : List ℕ) (items : List SchemaItem) (limits : Limits) (records : List Fields) (states : List State) → HasTaken items limits records states
    → length records ≢ 0 → AreRecordsOf bytes records → HasRead bytes items limits (length records - 1) states
read_whole bytes items limits [] states h some all = absurd (some refl)
read_whole bytes items limits (header ∷ rows) states h some all = record {
  rows = rows;
  records = subst (λ (first : Fields). AreRecordsOf bytes (first ∷ rows)) h.header_is all;
  full = h.full;
  good = h.good;
  count_is = omega arith;
  states_are = h.states_are;
}
