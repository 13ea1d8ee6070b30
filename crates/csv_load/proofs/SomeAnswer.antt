-- A text stands for a table under a schema, or has a fault.
use Rattle.std.proofs.Common.{◌≡◌, ℕ, zero, suc, ◌+◌, ◌≤◌, ◌==◌, Bool, true, false, cond, ◌&&◌, nat_le, Option, Some, None, List, [], ◌∷◌, ◌++◌, drop, slice_get, get_or, length, take, refl, sym, ap, subst, inl, inr, ◌⊎◌, ◌∙◌, arith}
use Rattle.std.proofs.lemmas.Bool.{and_parts, cases_Bool}
use Rattle.std.proofs.lemmas.Bool.Decides.{nat_tests}
use Rattle.std.proofs.lemmas.List.{take-append-drop, take_more}
use Rattle.std.proofs.lemmas.Option.{same_Some}
use Rattle.std.proofs.lemmas.Slice.Eq.{bytes_eq-Decides}
use Rattle.std.specs.List.{after_first, before_first, cons_option, list_all}
use Rattle.std.specs.Str.{bytes_eq}
use Rattle.daq_table.specs.ColumnFacts.{IsName}
use Rattle.daq_table.specs.Schemas.{DeclaresItems, column_named, column_of, columns_in, columns_of, is_name_byte, is_nullable_word, is_schema_name, item_names, items_of, kind_of, kind_word}
use Rattle.daq_table.specs.declared.head.Kind.{Kind}
use Rattle.daq_table.specs.declared.schema_column.SchemaColumn.{SchemaColumn}
use Rattle.daq_table.specs.declared.schema_item.SchemaItem.{SchemaItem}
use Rattle.daq_table.proofs.Kept.{columns_declared, names_differ}
use Rattle.csv_load.specs.Faults.{HasFaultyRow, IsFirstDifference, Refuses}
use Rattle.csv_load.specs.Laws.{HasAnswer, IsAnswered}
use Rattle.csv_load.specs.Records.{AreRecordsOf, Begins, Fields}
use Rattle.csv_load.specs.declared.fault.TableFault.{TableFault}
use Rattle.csv_load.specs.declared.fault.TableFault.TheVariants.{NoHeader, HeaderDiffers, TooManyRows, TooManyCells, UnequalLength, BadCell, TooManyNames, NoMemory}
use Rattle.csv_load.specs.declared.limits.Limits.{Limits}
use Rattle.csv_load.proofs.AllRecords.{all_records, begins_with}
use Rattle.csv_load.proofs.RowAnswers.{FirstFault, RowsAnswer, rows_answer}
use Rattle.csv_load.proofs.SomeTable.{some_table}

-- ---- the names of a schema's columns

abbrev HasName : Option SchemaColumn → Type 0
HasName None = Unit {0}
HasName (Some column) = IsName column.name

abbrev AllNamed : List SchemaColumn → Type 0
AllNamed columns = (c : ℕ) (column : SchemaColumn) → slice_get columns c ≡ Some column → IsName column.name

name_is : (name : List ℕ) → is_schema_name name ≡ true → IsName name
name_is name h =
    let some = and_parts (nat_le 1 (length name) && nat_le (length name) 64) (list_all is_name_byte name) h in
    let ends = and_parts (nat_le 1 (length name)) (nat_le (length name) 64) some.0 in
    let low = ends.0 in
    let high = ends.1 in
    record { some = grind (arith, nat_tests); few = grind (arith, nat_tests) }

by_good : (good : Bool) (name : List ℕ) (kind : Kind) (nullable : Bool) → (good ≡ true → IsName name) → HasName (cond good (Some (record { name = name; kind = kind; nullable = nullable })) None)
by_good true name kind nullable h = h refl
by_good false name kind nullable h = tt

by_kind : (name : List ℕ) (kind : Option Kind) (nullable : Bool) → HasName (column_named name kind nullable)
by_kind name None nullable = tt
by_kind name (Some kind) nullable = by_good (is_schema_name name) name kind nullable (name_is name)

column_named_well : (item : List ℕ) → HasName (column_of item)
column_named_well item =
    let word = after_first (λ c. c == 58) item in
    by_kind (before_first (λ c. c == 58) item) (kind_of (kind_word word)) (is_nullable_word word)

named_more : (column : SchemaColumn) (columns : List SchemaColumn) → IsName column.name → AllNamed columns → AllNamed (column ∷ columns)
named_more column columns h rest zero x e = subst (λ (y : SchemaColumn). IsName y.name) (same_Some column x e) h
named_more column columns h rest (suc c) x e = rest c x e

named_step : (c : Option SchemaColumn) (columns : List SchemaColumn) → HasName c → AllNamed columns → AllNamed (cons_option c columns)
named_step None columns h rest = rest
named_step (Some column) columns h rest = named_more column columns h rest

all_named : (items : List (List ℕ)) → AllNamed (columns_of items)
all_named [] = λ c column e. absurd cc
all_named (item ∷ items) = named_step (column_of item) (columns_of items) (column_named_well item) (all_named items)

-- ---- the header

abbrev Differs : List (List ℕ) → List (List ℕ) → Type 0
Differs xs ys = (xs ≡ ys) ⊎ ((place : ℕ) × IsFirstDifference xs ys place)

differ_first : (x y : List ℕ) (xs ys : List (List ℕ)) → bytes_eq x y ≡ false → IsFirstDifference (x ∷ xs) (y ∷ ys) 0
differ_first x y xs ys e = record { same = refl; differ = λ h. absurd (let bad : true ≡ false = sym ((bytes_eq-Decides x y).1 (same_Some x y h)) ∙ e in cc) }

differ_later : (x y : List ℕ) (xs ys : List (List ℕ)) → x ≡ y → Differs xs ys → Differs (x ∷ xs) (y ∷ ys)
differ_later x y xs ys e (inl same) = inl (rw (e, same) refl)
differ_later x y xs ys e (inr h) = inr (suc h.0, record { same = rw (e, h.1.same) refl; differ = h.1.differ })

differs : (xs ys : List (List ℕ)) → Differs xs ys
differs [] [] = inl refl
differs [] (y ∷ ys) = inr (0, record { same = refl; differ = λ h. absurd cc })
differs (x ∷ xs) [] = inr (0, record { same = refl; differ = λ h. absurd cc })
differs (x ∷ xs) (y ∷ ys) =
    elim (cases_Bool (bytes_eq x y)) [
      | inl same ↦ differ_later x y xs ys ((bytes_eq-Decides x y).0 same) (differs xs ys)
      | inr other ↦ inr (0, differ_first x y xs ys other)
    ]

-- ---- all together

refused_by : (bytes : List ℕ) (items : List SchemaItem) (limits : Limits) (fault : TableFault) → HasFaultyRow bytes items limits fault → Refuses bytes items limits fault
refused_by bytes items limits NoHeader h = absurd h.shows
refused_by bytes items limits (HeaderDiffers place) h = absurd h.shows
refused_by bytes items limits (TooManyRows limit) h = h
refused_by bytes items limits (TooManyCells count) h = h
refused_by bytes items limits (UnequalLength entry got want) h = h
refused_by bytes items limits (BadCell entry place) h = h
refused_by bytes items limits (TooManyNames place) h = h
refused_by bytes items limits NoMemory h = tt

module _ (bytes schema : List ℕ) (items : List SchemaItem) (limits : Limits) (declared : DeclaresItems schema items) (small : limits.rows ≤ 16777216) where
  named : AllNamed (columns_in items)
  named = subst AllNamed (sym (ap columns_in declared.all.items_are ∙ columns_declared (items_of schema))) (all_named (items_of schema))

  by_fault : (rows : List Fields) → AreRecordsOf bytes (item_names items ∷ rows) → FirstFault items limits rows → IsAnswered bytes items limits
  by_fault rows records f =
      let next = get_or rows f.place [] in
      let parts : rows ≡ (take f.place rows ++ next ∷ []) ++ drop (f.place + 1) rows =
      sym (take-append-drop (f.place + 1) rows) ∙ ap (λ (rs : List Fields). rs ++ drop (f.place + 1) rows) (take_more rows f.place [] f.within) in
      let begins : Begins bytes (item_names items ∷ (take f.place rows ++ next ∷ [])) =
      begins_with bytes (item_names items ∷ (take f.place rows ++ next ∷ [])) (drop (f.place + 1) rows) (subst (λ (rs : List Fields). AreRecordsOf bytes (item_names items ∷ rs)) parts records) in
      inr (f.fault, f.some, refused_by bytes items limits f.fault (record { rows = take f.place rows; next = next; begins = begins; full = f.good.full; good = f.good.good; shows = f.shows }))

  by_rows : (rows : List Fields) → AreRecordsOf bytes (item_names items ∷ rows) → RowsAnswer items limits rows → IsAnswered bytes items limits
  by_rows rows records (inl all) = inl (some_table bytes items limits rows records all.full all.good declared.few (names_differ items declared.differ) named small)
  by_rows rows records (inr f) = by_fault rows records f

  by_header : (header : Fields) (rows : List Fields) → AreRecordsOf bytes (header ∷ rows) → Differs header (item_names items) → IsAnswered bytes items limits
  by_header header rows records (inl same) = by_rows rows (subst (λ (h : Fields). AreRecordsOf bytes (h ∷ rows)) same records) (rows_answer items limits rows)
  by_header header rows records (inr h) = inr (HeaderDiffers h.0, (λ e. absurd cc), record { header = header; begins = begins_with bytes (header ∷ []) rows records; place = h.1 })

  by_records : (records : List Fields) → AreRecordsOf bytes records → IsAnswered bytes items limits
  by_records [] h = inr (NoHeader, (λ e. absurd cc), h)
  by_records (header ∷ rows) h = by_header header rows h (differs header (item_names items))

  answered : IsAnswered bytes items limits
  answered = let all = all_records bytes in by_records all.0 all.1

pub has_answer : HasAnswer
has_answer bytes schema items limits declared small = answered bytes schema items limits declared small
