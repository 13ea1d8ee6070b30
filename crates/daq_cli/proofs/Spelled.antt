-- The table of a CSV under a schema can be spelled as a file of planes.
use Rattle.std.proofs.Common.{◌≡◌, ℕ, zero, suc, ◌+◌, ◌*◌, ◌≤◌, ◌<◌, ℤ, pos, negsuc, neg_ℤ, ◌≤ℤ◌, ◌==◌, int_le, int_lt, FitsSigned, w64, nat_le, Bool, true, false, not, cond, IsTrue, IsFalse, All, Option, Some, None, List, [], ◌∷◌, ◌++◌, fold, slice_get, length, get_or, take, refl, sym, ap, subst, ◌∙◌, append-nil, inl, inr, arith}
use Rattle.std.proofs.Math.Seq.{take-length, take-suc}
use Rattle.std.proofs.lemmas.Bool.{and_from, and_parts}
use Rattle.std.proofs.lemmas.Bool.Decides.{Decides-int_eq, nat_tests}
use Rattle.std.proofs.lemmas.Int.{ints}
use Rattle.std.proofs.lemmas.List.{length-take-le, map-append}
use Rattle.std.proofs.lemmas.List.Elements.{All-append, All-cons, All-head, All-map, All-nil, All-tail, filter-append}
use Rattle.std.proofs.lemmas.List.Sums.{AllPass-from_list_all, list_all-from_AllPass}
use Rattle.std.proofs.lemmas.Map.Views.{All-insert_key}
use Rattle.std.proofs.lemmas.Option.{slice_get-get_or, slice_get_cases, slice_get_within}
use Rattle.std.proofs.lemmas.Str.{is_utf8-from_IsUtf8}
use Rattle.std.specs.BTreeSet.{insert_key}
use Rattle.std.specs.Cmp.Lexicographic.{slice_cmp}
use Rattle.std.specs.List.{after_first, before_first, cons_option, list_all}
use Rattle.std.specs.Ordering.{int_eq, nat_cmp}
use Rattle.std.specs.Str.{is_utf8}
use Rattle.daq_table.proofs.Items.{scales_fit}
use Rattle.daq_table.proofs.Kept.{columns_declared}
use Rattle.daq_table.specs.CellTexts.{dec_value, int_value}
use Rattle.daq_table.specs.ColumnFacts.{are_ranks, fits_names}
use Rattle.daq_table.specs.Schemas.{DeclaresItems, column_named, column_of, columns_in, columns_of, fits_scale, is_nullable_word, is_schema_name, items_of, kind_of, kind_word}
use Rattle.daq_table.specs.Tables.{Cell, Contents}
use Rattle.daq_table.specs.ValueTexts.{HasText, HasTexts, IsDay}
use Rattle.daq_table.specs.declared.head.ColumnHead.{ColumnHead}
use Rattle.daq_table.specs.declared.head.Kind.{Kind}
use Rattle.daq_table.specs.declared.head.Kind.TheVariants.{Int, Dec, Date, Text}
use Rattle.daq_table.specs.declared.schema_column.SchemaColumn.{SchemaColumn}
use Rattle.daq_table.specs.declared.schema_item.SchemaItem.{SchemaItem}
use Rattle.csv_load.proofs.EndFacts.{greatest_has, least_has}
use Rattle.csv_load.proofs.HeadTexts.{have_texts}
use Rattle.csv_load.proofs.KeptRows.{rows_count}
use Rattle.csv_load.specs.Columns.{IsShortText, IsValue, column_texts, dictionary, greatest, is_null, least, names_after, numbers_of, present}
use Rattle.csv_load.specs.Kept.{kept_rows}
use Rattle.csv_load.specs.Records.{Fields}
use Rattle.csv_load.specs.Rows.{AreGoodRows}
use Rattle.csv_load.specs.TableOf.{IsColumnOf, IsTableOf}
use Rattle.plane_file.specs.Format.{CanBeSpelled, CanBeSpelledColumn, fits_days, is_day, is_short_text}
use Rattle.daq_cli.specs.Inputs.{limits}
use Rattle.daq_cli.proofs.Signed.{le_holds, lt_holds}

-- ---- the columns of a schema

abbrev IsGood : SchemaColumn → Type 0
IsGood column = IsTrue (is_schema_name column.name)

abbrev IsGoodOption : Option SchemaColumn → Type 0
IsGoodOption None = Unit {0}
IsGoodOption (Some column) = IsGood column

by_good : (good : Bool) (name : List ℕ) (kind : Kind) (nullable : Bool) → (good ≡ true → IsTrue (is_schema_name name))
    → IsGoodOption (cond good (Some (record { name = name; kind = kind; nullable = nullable })) None)
by_good true name kind nullable h = h refl
by_good false name kind nullable h = tt

by_kind : (name : List ℕ) (kind : Option Kind) (nullable : Bool) → IsGoodOption (column_named name kind nullable)
by_kind name None nullable = tt
by_kind name (Some kind) nullable = by_good (is_schema_name name) name kind nullable (λ e. e)

item_good : (item : List ℕ) → IsGoodOption (column_of item)
item_good item =
    let word = after_first (λ c. c == 58) item in
    by_kind (before_first (λ c. c == 58) item) (kind_of (kind_word word)) (is_nullable_word word)

good_step : (c : Option SchemaColumn) (columns : List SchemaColumn) → IsGoodOption c → All IsGood columns → All IsGood (cons_option c columns)
good_step None columns h rest = rest
good_step (Some column) columns h rest = All-cons IsGood column columns h rest

names_good : (items : List (List ℕ)) → All IsGood (columns_of items)
names_good [] = All-nil IsGood
names_good (item ∷ items) = good_step (column_of item) (columns_of items) (item_good item) (names_good items)

-- ---- the names of a column

distinct_good : (texts names : List (List ℕ)) → All IsShortText names → All IsShortText texts → All IsShortText (fold (insert_key (slice_cmp nat_cmp)) names texts)
distinct_good [] names known all = known
distinct_good (text ∷ texts) names known all =
    distinct_good texts (insert_key (slice_cmp nat_cmp) names text) (All-insert_key (slice_cmp nat_cmp) text IsShortText names known (All-head IsShortText text texts all)) (All-tail IsShortText text texts all)

dictionary_good : (kind : Kind) (texts : List (List ℕ)) → All (IsValue kind) texts → All IsShortText (dictionary kind texts)
dictionary_good Int texts all = All-nil IsShortText
dictionary_good (Dec scale) texts all = All-nil IsShortText
dictionary_good Date texts all = All-nil IsShortText
dictionary_good Text texts all = distinct_good texts [] (All-nil IsShortText) all

short_text : (text : List ℕ) → IsShortText text → is_short_text text ≡ true
short_text text h =
    let short = h.short in
    and_from (nat_le (length text) 255) (is_utf8 text) (grind (arith, nat_tests)) (is_utf8-from_IsUtf8 text h.utf8)

texts_spelled : (names : List (List ℕ)) → All IsShortText names → IsTrue (list_all is_short_text names)
texts_spelled names all = list_all-from_AllPass is_short_text names (λ k d lt. short_text (get_or names k d) (all k d lt))

-- ---- the cells of a column, row by row

module _ (columns : List SchemaColumn) (rows : List Fields) (good : AreGoodRows columns limits rows) (c : ℕ) (column : SchemaColumn) (at : slice_get columns c ≡ Some column) where
  abbrev texts_to : ℕ → List (List ℕ)
  texts_to n = column_texts c (take n rows)

  abbrev text_at : ℕ → List ℕ
  text_at n = get_or (get_or rows n []) c []

  more_texts : (n : ℕ) → n < length rows → texts_to (suc n) ≡ texts_to n ++ text_at n ∷ []
  more_texts n lt = ap (column_texts c) (take-suc rows n [] lt) ∙ map-append (λ (row : Fields). get_or row c []) (take n rows) (get_or rows n [] ∷ [])

  more_present : (n : ℕ) → n < length rows → present column.nullable (texts_to (suc n)) ≡ present column.nullable (texts_to n) ++ present column.nullable (text_at n ∷ [])
  more_present n lt = ap (present column.nullable) (more_texts n lt) ∙ filter-append (λ (t : List ℕ). not (is_null column.nullable t)) (texts_to n) (text_at n ∷ [])

  one_present : (text : List ℕ) (b : Bool) → is_null column.nullable text ≡ b → present column.nullable (text ∷ []) ≡ cond b [] (text ∷ [])
  one_present text true e = rw e refl
  one_present text false e = rw e refl

  -- a cell that is not null is a good value
  good_cell : (n : ℕ) → n < length rows → IsFalse (is_null column.nullable (text_at n))
      → IsValue column.kind (text_at n) × (length (names_after column (texts_to n) (text_at n)) ≤ 65536)
  good_cell n lt given =
      let is = (good n lt).cells c column (slice_get_within columns c column at) at given in
      (is.value, is.few)

  abbrev AreGoodTo : ℕ → Type 0
  AreGoodTo n = All (IsValue column.kind) (present column.nullable (texts_to n)) × (length (dictionary column.kind (present column.nullable (texts_to n))) ≤ 65536)

  none_short : (kind : Kind) → length (dictionary kind []) ≤ 65536
  none_short Int = omega arith
  none_short (Dec scale) = omega arith
  none_short Date = omega arith
  none_short Text = omega arith

  good_more : (n : ℕ) → n < length rows → AreGoodTo n → (b : Bool) → is_null column.nullable (text_at n) ≡ b → AreGoodTo (suc n)
  good_more n lt (all, few) true e =
      let same : present column.nullable (texts_to (suc n)) ≡ present column.nullable (texts_to n) =
      more_present n lt ∙ ap (λ t. present column.nullable (texts_to n) ++ t) (one_present (text_at n) true e) ∙ append-nil (present column.nullable (texts_to n)) in
      rw same (all, few)
  good_more n lt (all, few) false e =
      let is = good_cell n lt e in
      let same : present column.nullable (texts_to (suc n)) ≡ present column.nullable (texts_to n) ++ text_at n ∷ [] =
      more_present n lt ∙ ap (λ t. present column.nullable (texts_to n) ++ t) (one_present (text_at n) false e) in
      rw same (All-append (IsValue column.kind) (present column.nullable (texts_to n)) (text_at n ∷ []) all (All-cons (IsValue column.kind) (text_at n) [] is.0 (All-nil (IsValue column.kind))), is.1)

  good_to : (n : ℕ) → n ≤ length rows → AreGoodTo n
  good_to zero le = (All-nil (IsValue column.kind), none_short column.kind)
  good_to (suc n) le = good_more n (omega (arith, le)) (good_to n (omega (arith, le))) (is_null column.nullable (text_at n)) refl

  all_good : All (IsValue column.kind) (present column.nullable (column_texts c rows)) × (length (dictionary column.kind (present column.nullable (column_texts c rows))) ≤ 65536)
  all_good = subst (λ r. All (IsValue column.kind) (present column.nullable (column_texts c r)) × (length (dictionary column.kind (present column.nullable (column_texts c r))) ≤ 65536))
      (take-length rows) (good_to (length rows) (omega arith))

-- ---- base and top are numbers of 64 bits

near_zero : (z : ℤ) → neg_ℤ (pos 719528) ≤ℤ z → z ≤ℤ pos 2932896 → FitsSigned w64 z
near_zero (pos n) low high = record { sfits = omega (arith, ints, high) }
near_zero (negsuc n) low high = record { sfits = omega (arith, ints, low) }

abbrev EndsFit : ℤ → ℤ → Type 0
EndsFit base top = FitsSigned w64 base × FitsSigned w64 top

if_zero : (z : ℤ) → int_eq z (pos 0) ≡ true → FitsSigned w64 z
if_zero z e = subst (FitsSigned w64) (sym ((Decides-int_eq z (pos 0)).0 e)) (record { sfits = omega arith })

ranks_fit : (base top : ℤ) (names : List (List ℕ)) → are_ranks base top names ≡ true → base ≤ℤ top → length names ≤ 65536 → EndsFit base top
ranks_fit base top [] ranks ordered few =
    let zeros = and_parts (int_eq base (pos 0)) (int_eq top (pos 0)) ranks in
    (if_zero base zeros.0, if_zero top zeros.1)
ranks_fit base top (name ∷ names) ranks ordered few =
    let tests = and_parts (int_le (pos 0) base) (int_lt top (pos (length (name ∷ names)))) ranks in
    let low = le_holds (pos 0) base tests.0 in
    let last = lt_holds top (length (name ∷ names)) tests.1 in
    let high : top ≤ℤ pos 65536 = omega (arith, ints, last, few) in
    (near_zero base (omega (arith, ints, low)) (omega (arith, ints, ordered, high)), near_zero top (omega (arith, ints, low, ordered)) (omega (arith, ints, high)))

ends_reached : (numbers : List ℤ) (base top : ℤ) → base ≡ least numbers → top ≡ greatest numbers → All (FitsSigned w64) numbers → EndsFit base top
ends_reached numbers base top low high all =
    let zero : FitsSigned w64 (pos 0) = record { sfits = omega arith } in
    (rw low (least_has (FitsSigned w64) numbers zero all), rw high (greatest_has (FitsSigned w64) numbers zero all))

ends_fit : (kind : Kind) (texts names : List (List ℕ)) (base top : ℤ) → All (IsValue kind) texts → base ≡ least (numbers_of kind texts) → top ≡ greatest (numbers_of kind texts)
    → HasText kind base → HasText kind top → IsTrue (fits_names kind base top names) → base ≤ℤ top → length names ≤ 65536 → EndsFit base top
ends_fit Int texts names base top all low high b t fits ordered few =
    ends_reached (numbers_of Int texts) base top low high (All-map (FitsSigned w64) int_value texts (λ k d lt. let cell = all k d lt in cell.fits))
ends_fit (Dec scale) texts names base top all low high b t fits ordered few =
    ends_reached (numbers_of (Dec scale) texts) base top low high (All-map (FitsSigned w64) (dec_value scale) texts (λ k d lt. let cell = all k d lt in cell.fits))
ends_fit Date texts names base top all low high b t fits ordered few = (near_zero base b.0 b.1, near_zero top t.0 t.1)
ends_fit Text texts names base top all low high b t fits ordered few = ranks_fit base top names fits ordered few

-- ---- the head of a column

within : (day : ℤ) → IsDay day → is_day day ≡ true
within day h =
    let low = h.0 in
    let high = h.1 in
    and_from (int_le (neg_ℤ (pos 719528)) day) (int_le day (pos 2932896)) (grind (arith, ints)) (grind (arith, ints))

days_spelled : (kind : Kind) (base top : ℤ) → HasText kind base → HasText kind top → IsTrue (fits_days kind base top)
days_spelled Int base top b t = refl
days_spelled (Dec scale) base top b t = refl
days_spelled Date base top b t = and_from (is_day base) (is_day top) (within base b) (within top t)
days_spelled Text base top b t = refl

same_reflects : (z : ℤ) → z ≤ℤ z
same_reflects z = omega (arith, ints)

column_spelled : (columns : List SchemaColumn) (rows : List Fields) → AreGoodRows columns limits rows → (c : ℕ) (column : SchemaColumn) → slice_get columns c ≡ Some column
    → IsTrue (is_schema_name column.name) → IsTrue (fits_scale column.kind) → (head : ColumnHead) (cells : List Cell) → IsColumnOf column (column_texts c rows) head cells → HasTexts head → CanBeSpelledColumn head
column_spelled columns rows good c column at named scale head cells is texts =
    let all = all_good columns rows good c column at in
    let given = present column.nullable (column_texts c rows) in
    let base = texts.between head.base (same_reflects head.base) head.is_column.ordered in
    let top = texts.between head.top head.is_column.ordered (same_reflects head.top) in
    let few : length head.names ≤ 65536 = rw is.names all.1 in
    let ends = ends_fit head.kind given head.names head.base head.top (subst (λ k. All (IsValue k) given) (sym is.kind) all.0)
    (subst (λ k. head.base ≡ least (numbers_of k given)) (sym is.kind) is.base) (subst (λ k. head.top ≡ greatest (numbers_of k given)) (sym is.kind) is.top)
    base top head.is_column.fits head.is_column.ordered few in
    record {
      named = rw is.name named;
      scale = rw is.kind scale;
      base = ends.0;
      top = ends.1;
      days = days_spelled head.kind head.base head.top base top;
      few = few;
      texts = rw is.names (texts_spelled (dictionary column.kind (present column.nullable (column_texts c rows))) (dictionary_good column.kind (present column.nullable (column_texts c rows)) all.0));
    }

-- ---- the head of the table

few_cells : (columns : List SchemaColumn) (rows : List Fields) (n : ℕ) → AreGoodRows columns limits rows → length rows ≡ n → n * length columns ≤ 134217728
few_cells columns rows zero good e = omega arith
few_cells columns rows (suc n) good e =
    let room = (good n (omega (arith, e))).room.cells in
    let long : length (take n rows) ≡ n = length-take-le n rows (omega (arith, e)) in
    subst (λ m. suc m * length columns ≤ 134217728) long room

pub can_be_spelled : (schema bytes : List ℕ) (items : List SchemaItem) (table : Contents) → DeclaresItems schema items → IsTableOf bytes items limits table → CanBeSpelled table.head
can_be_spelled schema bytes items table declared t =
    let texts = items_of schema in
    let is_all : columns_in items ≡ columns_of texts = ap columns_in declared.all.items_are ∙ columns_declared texts in
    let named : All IsGood (columns_in items) = rw is_all (names_good texts) in
    let scales : All (λ (x : SchemaColumn). fits_scale x.kind ≡ true) (columns_in items) = rw is_all (AllPass-from_list_all (λ (x : SchemaColumn). fits_scale x.kind) (columns_of texts) (scales_fit texts)) in
    let heads = t.heads in
    record {
      some = omega (arith, declared.some, heads);
      cells = rw (t.count, t.heads) (few_cells (columns_in items) (kept_rows items t.rows) (length t.rows) t.good (rows_count items t.rows));
      each = λ c head e. each_spelled c head e named scales;
    }
  where
    each_spelled : (c : ℕ) (head : ColumnHead) → slice_get table.head.columns c ≡ Some head → All IsGood (columns_in items) → All (λ (x : SchemaColumn). fits_scale x.kind ≡ true) (columns_in items) → CanBeSpelledColumn head
    each_spelled c head e named scales =
        let lt = slice_get_within table.head.columns c head e in
        let cells = get_or table.cells c [] in
        let cells_are : slice_get table.cells c ≡ Some cells = slice_get-get_or table.cells c [] (omega (arith, lt, t.heads, t.lists)) in
        elim (slice_get_cases (columns_in items) c).1 [
          | inl found ↦
              column_spelled (columns_in items) (kept_rows items t.rows) t.good c found.0 found.2
              (subst IsGood found.3 (named c found.0 found.1)) (subst (λ (x : SchemaColumn). fits_scale x.kind ≡ true) found.3 (scales c found.0 found.1))
              head cells (t.each c found.0 head cells found.2 e cells_are) (have_texts bytes items limits table t c head e)
          | inr past ↦ absurd (omega (arith, lt, past.0, t.heads))
        ]
