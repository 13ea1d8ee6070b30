-- The aggregates of a query, as they are written and as they are typed.
use Rattle.std.proofs.Common.{◌≡◌, ◌≢◌, ℕ, zero, suc, ◌<◌, ℤ, List, [], ◌∷◌, ◌++◌, filter, Option, Some, None, refl, sym, ap, subst, ◌∙◌, IsTrue, slice_get}
use Rattle.std.proofs.lemmas.Option.{none-some, same_Some}
use Rattle.std.specs.List.{AllByRecursion, filter_map}
use Rattle.daq_table.specs.ColumnFacts.{is_ascending}
use Rattle.daq_table.specs.Tables.{Cells}
use Rattle.daq_table.specs.declared.head.ColumnHead.{ColumnHead}
use Rattle.daq_table.specs.declared.head.Kind.{Kind}
use Rattle.daq_table.specs.declared.table_head.Head.{Head}
use Rattle.query_model.specs.declared.query.Face.TheVariants as faces
use Rattle.query_model.specs.Meaning as typed
use Rattle.query_model.specs.Meaning.{val}
use Rattle.query_model.specs.Queries.{Aggregate, Query}
use Rattle.sql_text.specs.declared.tree.CallKind.{CallKind}
use Rattle.sql_text.specs.declared.tree.CallKind.TheVariants as calls
use Rattle.sql_text.specs.Tree as tree
use Rattle.sql_text.specs.Tree.{Name, Expr, Item, Plain, CountAll, Call}
use Rattle.sql_typing.specs.Faults.{argument_fault, expr_fault, first_fault, first_in, head_fault, item_fault, items_fault}
use Rattle.sql_typing.specs.Names.{dictionary_of, kind_of, names_in_ending, names_in_expr, names_in_filter, names_in_head, names_in_item, names_in_items, number_of}
use Rattle.sql_typing.specs.Typing.{bare_column, face_of, scale_of, value_face, typed_call, typed_expr, typed_head, typed_item, typed_items, whole_column}
use Rattle.sql_typing.specs.Typing as typing
use Rattle.sql_typing.proofs.Alls.{all_left, all_right, all_then}
use Rattle.sql_typing.proofs.Clean.{clean}
use Rattle.sql_typing.proofs.Firsts.{none_first, none_later}
use Rattle.sql_meaning.specs.Values.{Value, Number}
use Rattle.sql_meaning.specs.Expressions.{value}
use Rattle.sql_meaning.specs.Answers.{asked, is_asked, is_same}
use Rattle.sql_meaning.specs.Rows.{row_at, shown, value_in, value_of}
use Rattle.sql_meaning.specs.Laws.{ArgumentsMeanTheirTrees, HasValues, IsAsked, IsShownAs, numbers_at}
use Rattle.sql_meaning.proofs.Amounts.{IsAmount, expr_means}
use Rattle.sql_meaning.proofs.Named.{IsColumn, IsNamed, IsRead, all_read}
use Rattle.sql_meaning.proofs.Readings.{IsNumber, IsReading, Related, columns_read, numbers_read, shown_is}

-- ---- the item at a place

-- the item is typed so, without a fault
pub record IsTypedItem (table : List ColumnHead) (columns : List ℕ) (P : Name → Type 0) (item : Item) (t : Aggregate) : Type 0 where
  pub groups : List Name
  pub typed : typed_item table columns item ≡ Some t
  pub fine : item_fault table groups item ≡ None
  pub named : AllByRecursion P (names_in_item item)

module _ (table : List ColumnHead) (columns : List ℕ) (P : Name → Type 0) (item : Item) (t : Aggregate) where
  in_list : (groups : List Name) (items : List Item) (k : ℕ) → slice_get (filter is_asked items) k ≡ Some item → slice_get (filter_map (typed_item table columns) items) k ≡ Some t
      → first_in (item_fault table groups) items ≡ None → AllByRecursion P (names_in_items items) → IsTypedItem table columns P item t
  in_list groups [] k e f fine named = absurd (none-some item e)
  in_list groups (Plain n ∷ items) k e f fine named = in_list groups items k e f (none_later (item_fault table groups (Plain n)) (first_in (item_fault table groups) items) fine) (all_right P (names_in_item (Plain n)) (names_in_items items) named)
  in_list groups (CountAll ∷ items) zero e f fine named =
      let same : CountAll ≡ item = same_Some CountAll item e in
      subst (λ i. IsTypedItem table columns P i t) same (record { groups = groups; typed = f; fine = refl; named = tt })
  in_list groups (CountAll ∷ items) (suc k) e f fine named = in_list groups items k e f (none_later (item_fault table groups CountAll) (first_in (item_fault table groups) items) fine) (all_right P (names_in_item CountAll) (names_in_items items) named)
  in_list groups (Call kind x ∷ items) zero e f fine named =
      let same : Call kind x ≡ item = same_Some (Call kind x) item e in
      subst (λ i. IsTypedItem table columns P i t) same
      (record { groups = groups; typed = f; fine = none_first (item_fault table groups (Call kind x)) (first_in (item_fault table groups) items) fine; named = all_left P (names_in_item (Call kind x)) (names_in_items items) named })
  in_list groups (Call kind x ∷ items) (suc k) e f fine named =
      in_list groups items k e f (none_later (item_fault table groups (Call kind x)) (first_in (item_fault table groups) items) fine) (all_right P (names_in_item (Call kind x)) (names_in_items items) named)

  in_head : (groups : List Name) (h : tree.Head) (k : ℕ) → slice_get (asked h) k ≡ Some item → slice_get (typed_head table columns h) k ≡ Some t → head_fault table groups h ≡ None → AllByRecursion P (names_in_head h)
      → IsTypedItem table columns P item t
  in_head groups (tree.Items items) k e f fine named = in_list groups items k e f fine named
  in_head groups tree.Star k e f fine named = absurd (none-some item e)

  pub in_query : (ending : tree.Ending) (h : tree.Head) (k : ℕ) → slice_get (asked h) k ≡ Some item → slice_get (typed_items table columns ending h) k ≡ Some t → items_fault table ending h ≡ None → AllByRecursion P (names_in_head h)
      → IsTypedItem table columns P item t
  in_query tree.Nothing h k e f fine named = in_head [] h k e f fine named
  in_query (tree.Grouped ns) h k e f fine named = in_head ns h k e f fine named
  in_query (tree.Ordered key down limit) h k e f fine named = absurd (none-some t f)

-- ---- arguments of a call

amount_related : (s : ℕ) (o : Option ℤ) (v : Option Value) → IsAmount s o v → Related (IsNumber s) o v
amount_related s None v h = h
amount_related s (Some z) v h = (Number h.0, h.1, (h.0, refl, h.2))

column_related : (column : ColumnHead) (o : Option ℤ) (v : Option Value) → v ≡ value_of (Some column) o → ((z : ℤ) → o ≡ Some z → (x : Value) × (value_in column.kind column.names z ≡ Some x))
    → Related (λ z u. value_in column.kind column.names z ≡ Some u) o v
column_related column None v e stands = e
column_related column (Some z) v e stands = let x = stands z refl in (x.0, e ∙ x.1, x.1)

bare_is : (e : Expr) (n : Name) → bare_column e ≡ Some n → e ≡ tree.Column n
bare_is (tree.Column m) n h = ap tree.Column (same_Some m n h)
bare_is (tree.Number v) n h = absurd (none-some n h)
bare_is (tree.Add a b) n h = absurd (none-some n h)
bare_is (tree.Sub a b) n h = absurd (none-some n h)
bare_is (tree.Mul at a b) n h = absurd (none-some n h)

module _ (q : tree.Query) (head : Head) (cells : Cells) where
  abbrev table : List ColumnHead
  table = head.columns

  abbrev columns : List ℕ
  columns = typing.columns_of head.columns q

  abbrev numbers : ℕ → typed.Row
  numbers r = numbers_at (typing.typed head.columns q) head cells r

  -- what the numbers of a typed argument stand for, at each row
  pub record IsArgument (shows : ℤ → Option Value) (e : Expr) : Type 1 where
    pub stands : ℤ → Value → Type 0
    pub reads : IsReading shows stands
    pub related : (r : ℕ) → r < head.rows → Related stands (val (typed_expr table columns e) (numbers r)) (value e (row_at head cells r))

  pub amount_at : (e : Expr) → expr_fault table e ≡ None → AllByRecursion (IsRead q head cells) (names_in_expr e) → (r : ℕ) → r < head.rows
      → Related (IsNumber (scale_of table e)) (val (typed_expr table columns e) (numbers r)) (value e (row_at head cells r))
  amount_at e fine named r r_in =
      amount_related (scale_of table e) (val (typed_expr table columns e) (numbers r)) (value e (row_at head cells r))
      (expr_means table columns (numbers r) (row_at head cells r) e fine
      (all_then (IsRead q head cells) (IsNamed table columns (numbers r) (row_at head cells r)) (λ n is. is.at_row r r_in) (names_in_expr e) named))

  amount_argument : (e : Expr) → expr_fault table e ≡ None → AllByRecursion (IsRead q head cells) (names_in_expr e) → IsArgument (shown table columns (faces.Number (scale_of table e))) e
  amount_argument e fine named = record { stands = IsNumber (scale_of table e); reads = numbers_read (scale_of table e); related = amount_at e fine named }

  -- what the numbers of a column stand for
  abbrev pub StandsIn : Name → ℤ → Value → Type 0
  StandsIn n = λ z u. value_in (kind_of table n.name) (dictionary_of table n.name) z ≡ Some u

  pub name_related : (n : Name) → IsRead q head cells n → (r : ℕ) → r < head.rows → Related (StandsIn n) (numbers r (number_of table columns n.name)) (row_at head cells r n.name)
  name_related n is r r_in =
      let at = is.at_row r r_in in
      let number = numbers r (number_of table columns n.name) in
      let own : Related (λ z u. value_in at.column.kind at.column.names z ≡ Some u) number (row_at head cells r n.name) = column_related at.column number (row_at head cells r n.name) at.value at.stands in
      subst (λ (k : Kind). Related (λ z u. value_in k (dictionary_of table n.name) z ≡ Some u) number (row_at head cells r n.name)) (sym at.kind)
      (subst (λ names. Related (λ z u. value_in at.column.kind names z ≡ Some u) number (row_at head cells r n.name)) (sym at.names) own)

  pub name_reads : (n : Name) → IsRead q head cells n → IsReading (shown table columns (faces.OfColumn (number_of table columns n.name))) (StandsIn n)
  name_reads n is =
      let reads = columns_read (kind_of table n.name) (dictionary_of table n.name) (ascends is.column) in
      record { is_shown = λ z u h. subst (λ o. IsTrue (is_same o (Some u))) (sym (shown_column z is.column)) (reads.is_shown z u h); in_order = reads.in_order }
    where
      ascends : IsColumn table columns n → IsTrue (is_ascending (dictionary_of table n.name))
      ascends c = rw c.names c.column.is_column.ascending

      shown_column : (z : ℤ) → IsColumn table columns n → shown table columns (faces.OfColumn (number_of table columns n.name)) z ≡ value_in (kind_of table n.name) (dictionary_of table n.name) z
      shown_column z c = rw (c.at, c.kind, c.names) refl

  pub column_argument : (n : Name) → IsRead q head cells n → IsArgument (shown table columns (faces.OfColumn (number_of table columns n.name))) (tree.Column n)
  column_argument n is = record { stands = StandsIn n; reads = name_reads n is; related = name_related n is }

  -- COUNT, MIN and MAX take a column of any kind
  pub any_argument : (e : Expr) (b : Option Name) → bare_column e ≡ b → argument_fault table b e ≡ None → AllByRecursion (IsRead q head cells) (names_in_expr e)
      → IsArgument (shown table columns (value_face table columns b (scale_of table e))) e
  any_argument e None bare fine named = amount_argument e fine named
  any_argument e (Some n) bare fine named =
      let same = bare_is e n bare in
      let there = subst (λ x. AllByRecursion (IsRead q head cells) (names_in_expr x)) same named in
      subst (λ x. IsArgument (shown table columns (faces.OfColumn (number_of table columns n.name))) x) (sym same) (column_argument n there.0)

  call_argument : (kind : CallKind) (e : Expr) → kind ≢ calls.Count → argument_fault table (whole_column kind e) e ≡ None → AllByRecursion (IsRead q head cells) (names_in_expr e)
      → IsArgument (shown table columns (face_of table columns kind e)) e
  call_argument calls.Sum e some fine named = amount_argument e fine named
  call_argument calls.Avg e some fine named = amount_argument e fine named
  call_argument calls.Min e some fine named = any_argument e (bare_column e) refl fine named
  call_argument calls.Max e some fine named = any_argument e (bare_column e) refl fine named
  call_argument calls.Count e some fine named = absurd (some refl)

  argument_is : (kind : CallKind) (e : Expr) (r : ℕ) → r < head.rows → kind ≢ calls.Count → argument_fault table (whole_column kind e) e ≡ None → AllByRecursion (IsRead q head cells) (names_in_expr e)
      → IsShownAs (shown table columns (face_of table columns kind e)) (val (typed_expr table columns e) (numbers r)) (value e (row_at head cells r))
  argument_is kind e r r_in some fine named =
      let is = call_argument kind e some fine named in
      shown_is (shown table columns (face_of table columns kind e)) is.stands is.reads (val (typed_expr table columns e) (numbers r)) (value e (row_at head cells r)) (is.related r r_in)

  pub item_is : (item : Item) (t : Aggregate) → first_fault head.columns q ≡ None → HasValues head cells → IsAsked q (typing.typed head.columns q) item t → IsTypedItem table columns (IsRead q head cells) item t
  item_is item t good values asked =
      let front = all_left (IsRead q head cells) (names_in_head q.head ++ names_in_filter q.pred) (names_in_ending q.ending) (all_read q head cells good values) in
      in_query table columns (IsRead q head cells) item t q.ending q.head asked.place asked.in_text asked.in_query (clean head.columns q good).select_list
      (all_left (IsRead q head cells) (names_in_head q.head) (names_in_filter q.pred) front)

  argument_means : (r : ℕ) (kind : CallKind) (e : Expr) (t : Aggregate) → first_fault head.columns q ≡ None → HasValues head cells → r < head.rows → IsAsked q (typing.typed head.columns q) (Call kind e) t → kind ≢ calls.Count
      → IsShownAs (shown table columns t.face) (val t.arg (numbers r)) (value e (row_at head cells r))
  argument_means r kind e t good values r_in asked some =
      let is = item_is (Call kind e) t good values asked in
      subst (λ (a : Aggregate). IsShownAs (shown table columns a.face) (val a.arg (numbers r)) (value e (row_at head cells r)))
      (same_Some (typed_call table columns kind e) t is.typed) (argument_is kind e r r_in some is.fine is.named)

pub arguments_mean : ArgumentsMeanTheirTrees
arguments_mean q head query cells r kind e item is values r_in asked some =
    subst (λ (query : Query). IsAsked q query (Call kind e) item
    → IsShownAs (shown head.columns query.columns item.face) (val item.arg (numbers_at query head cells r)) (value e (row_at head cells r)))
    (sym is.same) (λ asked. argument_means q head cells r kind e item is.faultless values r_in asked some) asked
