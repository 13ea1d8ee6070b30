-- Each record after good rows is one more, or shows a fault.
use Rattle.std.proofs.Common.{◌≡◌, ◌≢◌, ℕ, zero, suc, ◌+◌, ◌*◌, ◌<◌, ◌≤◌, Bool, true, false, IsFalse, Some, List, [], ◌∷◌, ◌++◌, slice_get, get_or, length, take, refl, sym, subst, inl, inr, ◌⊎◌, ◌∙◌, arith}
use Rattle.std.proofs.Math.Decide.{ℕ_discrete}
use Rattle.std.proofs.lemmas.Bool.{cases_lt}
use Rattle.std.proofs.lemmas.List.{take_all, take_more}
use Rattle.std.proofs.lemmas.Option.{same_Some, slice_get_cases}
use Rattle.daq_table.specs.declared.schema_column.SchemaColumn.{SchemaColumn}
use Rattle.daq_table.specs.declared.schema_item.SchemaItem.{SchemaItem}
use Rattle.daq_table.specs.Schemas.{columns_in}
use Rattle.csv_load.specs.Columns.{IsValue, column_texts, dictionary, is_null, present}
use Rattle.csv_load.specs.Faults.{ShowsFault}
use Rattle.csv_load.specs.Kept.{kept_fields, kept_rows, place_of}
use Rattle.csv_load.specs.Records.{Fields}
use Rattle.csv_load.specs.Rows.{AreGoodBefore, HasRoom, IsGoodCell}
use Rattle.csv_load.specs.declared.fault.TableFault.{TableFault}
use Rattle.csv_load.specs.declared.fault.TableFault.TheVariants.{TooManyRows, TooManyCells, UnequalLength, BadCell, TooManyNames, NoMemory}
use Rattle.csv_load.specs.declared.limits.Limits.{Limits}
use Rattle.csv_load.proofs.Decisions.{value_or_not}
use Rattle.csv_load.proofs.KeptRows.{GoodRow, GoodRows, good_more, kept_count, no_rows, room_for_kept}
use Rattle.csv_load.proofs.RowFacts.{last_place}

-- ---- a cell

-- a cell that is not null is no value, or brings a name too many
abbrev IsWrong : SchemaColumn → ℕ → List (List ℕ) → List ℕ → Type 0
IsWrong column limit earlier text = (¬ IsValue column.kind text) ⊎ (IsValue column.kind text × (limit < length (dictionary column.kind (present column.nullable earlier ++ text ∷ []))))

abbrev CellAnswer : SchemaColumn → ℕ → List (List ℕ) → List ℕ → Type 0
CellAnswer column limit earlier text = IsGoodCell column limit earlier text ⊎ (IsFalse (is_null column.nullable text) × IsWrong column limit earlier text)

module _ (column : SchemaColumn) (limit : ℕ) (earlier : List (List ℕ)) (text : List ℕ) where
  by_names : IsFalse (is_null column.nullable text) → IsValue column.kind text → CellAnswer column limit earlier text
  by_names given value =
      elim (cases_lt limit (length (dictionary column.kind (present column.nullable earlier ++ text ∷ [])))) [
        | inl many ↦ inr (given, inr (value, many))
        | inr few ↦ inl (λ g. record { value = value; few = few })
      ]

  by_value : IsFalse (is_null column.nullable text) → Dec (IsValue column.kind text) → CellAnswer column limit earlier text
  by_value given (yes value) = by_names given value
  by_value given (no bad) = inr (given, inl bad)

  by_null : (b : Bool) → is_null column.nullable text ≡ b → CellAnswer column limit earlier text
  by_null true e = inl (λ given. absurd (let bad : true ≡ false = sym e ∙ given in cc))
  by_null false e = by_value e (value_or_not column.kind text)

  cell_answer : CellAnswer column limit earlier text
  cell_answer = by_null (is_null column.nullable text) refl

-- ---- a row

abbrev pub RowAnswer : List SchemaItem → Limits → List Fields → Fields → Type 0
RowAnswer items limits rows next = GoodRow items limits rows next ⊎ ((fault : TableFault) × (fault ≢ NoMemory) × ShowsFault items limits rows next fault)

cell_more : (columns : List SchemaColumn) (limits : Limits) (rows : List Fields) (next : Fields) (end : ℕ) (column : SchemaColumn) → slice_get columns end ≡ Some column → AreGoodBefore columns limits rows next end
    → IsGoodCell column limits.names (column_texts end rows) (get_or next end []) → AreGoodBefore columns limits rows next (end + 1)
cell_more columns limits rows next end column is before good = λ c col lt e.
    elim (last_place c end lt) [
      | inl earlier ↦ before c col earlier e
      | inr here ↦
          let same : column ≡ col = same_Some column col (sym is ∙ subst (λ (n : ℕ). slice_get columns n ≡ Some col) here e) in
          subst (λ (n : ℕ). IsGoodCell col limits.names (column_texts n rows) (get_or next n [])) (sym here) (subst (λ (x : SchemaColumn). IsGoodCell x limits.names (column_texts end rows) (get_or next end [])) same good)
    ]

module _ (items : List SchemaItem) (limits : Limits) (rows : List Fields) (next : Fields) where
  wrong_cell : (room : HasRoom (columns_in items) limits (kept_rows items rows)) (full : length next ≡ length items) (end : ℕ) (column : SchemaColumn) → slice_get (columns_in items) end ≡ Some column
      → AreGoodBefore (columns_in items) limits (kept_rows items rows) (kept_fields items next) end
      → IsFalse (is_null column.nullable (get_or (kept_fields items next) end [])) → IsWrong column limits.names (column_texts end (kept_rows items rows)) (get_or (kept_fields items next) end []) → RowAnswer items limits rows next
  wrong_cell room full end column is before given (inl bad) =
      inr (
        BadCell (suc (length (kept_rows items rows))) (place_of items end),
        (λ e. absurd cc),
        record {
          full = full;
          column = end;
          place_is = refl;
          bad = record { reached = record { room = room; full = kept_count items next; before = before; column = column; column_is = is }; entry_is = refl; given = given; bad = bad };
        },
      )
  wrong_cell room full end column is before given (inr many) =
      inr (
        TooManyNames (place_of items end),
        (λ e. absurd cc),
        record {
          full = full;
          column = end;
          place_is = refl;
          passed = record { reached = record { room = room; full = kept_count items next; before = before; column = column; column_is = is }; given = given; value = many.0; many = many.1 };
        },
      )

  cells : HasRoom (columns_in items) limits (kept_rows items rows) → length next ≡ length items → (left end : ℕ) → left + end ≡ length (columns_in items)
      → AreGoodBefore (columns_in items) limits (kept_rows items rows) (kept_fields items next) end → RowAnswer items limits rows next
  cells room full zero end e before =
      let all : end ≡ length (columns_in items) = omega (arith, e) in
      inl (record { full = full; good = record { room = room; full = kept_count items next; cells = subst (λ (n : ℕ). AreGoodBefore (columns_in items) limits (kept_rows items rows) (kept_fields items next) n) all before } })
  cells room full (suc left) end e before =
      let there = column_there end (omega (arith, e)) in
      elim (cell_answer there.0 limits.names (column_texts end (kept_rows items rows)) (get_or (kept_fields items next) end [])) [
        | inl good ↦ cells room full left (end + 1) (omega (arith, e)) (cell_more (columns_in items) limits (kept_rows items rows) (kept_fields items next) end there.0 there.1 before good)
        | inr wrong ↦ wrong_cell room full end there.0 there.1 before wrong.0 wrong.1
      ]
    where
      column_there : (c : ℕ) → c < length (columns_in items) → (x : SchemaColumn) × (slice_get (columns_in items) c ≡ Some x)
      column_there c lt = elim (slice_get_cases (columns_in items) c).1 [ inl inside ↦ (inside.0, inside.2) | inr past ↦ absurd (omega (arith, lt, past.0)) ]

  by_length : HasRoom (columns_in items) limits rows → Dec (length next ≡ length items) → RowAnswer items limits rows next
  by_length room (yes full) = cells (room_for_kept items limits rows room) full (length (columns_in items)) 0 (omega arith) (λ c column lt e. absurd (omega (arith, lt)))
  by_length room (no differ) = inr (UnequalLength (suc (length rows)) (length next) (length items), (λ e. absurd cc), record { room = room; entry_is = refl; got_is = refl; want_is = refl; differ = differ })

  by_cells : suc (length rows) ≤ limits.rows → RowAnswer items limits rows next
  by_cells row =
      elim (cases_lt limits.cells (suc (length rows) * length (columns_in items))) [
        | inl many ↦ inr (TooManyCells (suc (length rows) * length (columns_in items)), (λ e. absurd cc), record { row = row; count_is = refl; many = many })
        | inr few ↦ by_length (record { row = row; cells = few }) (ℕ_discrete (length next) (length items))
      ]

  row_answer : RowAnswer items limits rows next
  row_answer =
      elim (cases_lt limits.rows (suc (length rows))) [
        | inl many ↦ inr (TooManyRows limits.rows, (λ e. absurd cc), record { limit_is = refl; many = many })
        | inr few ↦ by_cells few
      ]

-- ---- all rows

-- the rows before a place are good, and the record there shows a fault
pub record FirstFault (items : List SchemaItem) (limits : Limits) (all : List Fields) : Type 0 where
  pub place : ℕ
  pub within : place < length all
  pub good : GoodRows items limits (take place all)
  pub fault : TableFault
  pub some : fault ≢ NoMemory
  pub shows : ShowsFault items limits (take place all) (get_or all place []) fault

abbrev pub RowsAnswer : List SchemaItem → Limits → List Fields → Type 0
RowsAnswer items limits all = GoodRows items limits all ⊎ FirstFault items limits all

rows_from : (items : List SchemaItem) (limits : Limits) (all : List Fields) (left n : ℕ) → left + n ≡ length all → GoodRows items limits (take n all) → RowsAnswer items limits all
rows_from items limits all zero n e good = inl (subst (λ (rs : List Fields). GoodRows items limits rs) (take_all n all (omega (arith, e))) good)
rows_from items limits all (suc left) n e good =
    let lt : n < length all = omega (arith, e) in
    elim (row_answer items limits (take n all) (get_or all n [])) [
      | inl row ↦
          rows_from items limits all left (n + 1) (omega (arith, e))
          (subst (λ (rs : List Fields). GoodRows items limits rs) (sym (take_more all n [] lt)) (good_more items limits (take n all) (get_or all n []) good row))
      | inr shown ↦ inr (record { place = n; within = lt; good = good; fault = shown.0; some = shown.1; shows = shown.2 })
    ]

pub rows_answer : (items : List SchemaItem) (limits : Limits) (all : List Fields) → RowsAnswer items limits all
rows_answer items limits all = rows_from items limits all (length all) 0 (omega arith) (no_rows items limits)
