-- Typed items answer what the items mean.
use Rattle.std.proofs.Common.{◌≡◌, ◌≢◌, ℕ, zero, suc, ◌+◌, ◌<◌, ◌&&◌, Bool, ℤ, List, [], ◌∷◌, length, Option, Some, None, refl, sym, ap, subst, ◌∙◌, arith, IsTrue}
use Rattle.std.proofs.lemmas.Option.{none-some, same_Some}
use Rattle.std.specs.List.{AllByRecursion, filter_map, range_with_len}
use Rattle.daq_table.specs.Tables.{Cells, frame_of, rows_of}
use Rattle.daq_table.specs.declared.head.ColumnHead.{ColumnHead}
use Rattle.daq_table.specs.declared.table_head.Head.{Head}
use Rattle.query_model.specs.Answers as typed
use Rattle.query_model.specs.Answers.{Key, passes, unless_empty}
use Rattle.query_model.specs.Meaning.{Row, is_sql_true, val}
use Rattle.query_model.specs.Projection.{projected, projected_frame}
use Rattle.query_model.specs.Queries.{Aggregate, Query}
use Rattle.query_model.specs.Worlds.{answer_on, average_on}
use Rattle.query_model.specs.declared.query.Face.TheVariants as faces
use Rattle.sql_text.specs.declared.tree.CallKind.{CallKind}
use Rattle.sql_text.specs.declared.tree.CallKind.TheVariants as calls
use Rattle.sql_text.specs.Tree as tree
use Rattle.sql_text.specs.Tree.{Expr, Item, Plain, CountAll, Call}
use Rattle.sql_typing.specs.Faults.{argument_fault, expr_fault, first_fault}
use Rattle.sql_typing.specs.Refusals.{IsTyped}
use Rattle.sql_typing.specs.Names.{names_in_expr}
use Rattle.sql_typing.specs.Typing.{bare_column, counted, face_of, scale_of, typed_call, typed_expr, value_face, whole_column}
use Rattle.sql_typing.specs.Typing as typing
use Rattle.sql_meaning.specs.Values.{Value}
use Rattle.sql_meaning.specs.Conditions as meaning
use Rattle.sql_meaning.specs.Conditions.{truth_of_where}
use Rattle.sql_meaning.specs.Expressions.{value}
use Rattle.sql_meaning.specs.Answers.{answer, are_one_group, group_of, grouping, is_same, least, greatest, total, whole}
use Rattle.sql_meaning.specs.Rows.{row_at, rows_at, shown}
use Rattle.sql_meaning.specs.Laws.{AnswersMeanTheirTrees, AveragesMeanTheirTrees, HasValues, IsAsked, IsAverage, IsShownAs, key_at, numbers_at}
use Rattle.sql_meaning.proofs.Asked.{amount_at, any_argument, item_is}
use Rattle.sql_meaning.proofs.Groups.{passes_is}
use Rattle.sql_meaning.proofs.Named.{IsRead}
use Rattle.sql_meaning.proofs.Readings.{AreRelated, IsNumber, Related, as_many, greatest_is, least_is, lists_alike, numbers_read, same_itself, shown_is, total_is}

pub range_all : (P : ℕ → Type 0) (a n : ℕ) → ((r : ℕ) → r < a + n → P r) → AllByRecursion P (range_with_len a n)
range_all P a zero h = tt
range_all P a (suc n) h = (h a (omega arith), range_all P (a + 1) n (λ r lt. h r (omega (arith, lt))))

all_given : (v : Value) (rows : List meaning.Row) → length (filter_map (λ (row : meaning.Row). Some v) rows) ≡ length rows
all_given v [] = refl
all_given v (row ∷ rows) = ap suc (all_given v rows)

loosely : (R : ℤ → Value → Type 0) (o : Option ℤ) (v : Option Value) → Related R o v → Related (λ z u. Unit {0}) o v
loosely R None v h = h
loosely R (Some z) v h = (h.0, h.1, tt)

same_count : (m n : ℕ) → m ≡ n → IsTrue (is_same (Some (whole m)) (Some (whole n)))
same_count m n e = rw e (same_itself (whole n))

-- over the rows of a table, for the group of a row of a table, which may be another one
module _ (q : tree.Query) (head : Head) (cells base : Cells) (one : ℕ) (good : first_fault head.columns q ≡ None) (values : HasValues head cells) (of_base : HasValues head base) (one_in : grouping q.ending ≢ [] → one < head.rows) where
  abbrev table : List ColumnHead
  table = head.columns

  abbrev columns : List ℕ
  columns = typing.columns_of head.columns q

  abbrev query : Query
  query = typing.typed head.columns q

  abbrev numbers : ℕ → Row
  numbers r = numbers_at query head cells r

  abbrev rows : List meaning.Row
  rows = group_of q (row_at head base one) (rows_at head cells)

  abbrev numbers_of : Aggregate → List ℤ
  numbers_of t = typed.values_of query t (key_at query head base one) (projected_frame query (frame_of head)) (projected query cells)

  rows_alike : (R : ℤ → Value → Type 0) (g : meaning.Row → Option Value) (t : Aggregate) → ((r : ℕ) → r < head.rows → Related R (val t.arg (numbers r)) (g (row_at head cells r)))
      → AreRelated R (numbers_of t) (filter_map g rows)
  rows_alike R g t each =
      let keep : meaning.Row → Bool = λ row. is_sql_true (truth_of_where q.pred row) && are_one_group q.ending row (row_at head base one) in
      lists_alike R (λ r. passes query (key_at query head base one) (numbers r)) (λ r. val t.arg (numbers r)) keep g (row_at head cells) (rows_of (frame_of head))
      (range_all (λ r. (passes query (key_at query head base one) (numbers r) ≡ keep (row_at head cells r)) × Related R (val t.arg (numbers r)) (g (row_at head cells r))) 0 head.rows
      (λ r lt. (let r_in : r < head.rows = omega (arith, lt) in (passes_is q head cells base r one good values of_base r_in one_in, each r r_in))))

  star_answered : IsShownAs (shown table columns counted.face) (answer_on query counted (key_at query head base one) (frame_of head) cells) (answer CountAll rows)
  star_answered =
      let related = rows_alike (λ z u. Unit {0}) (λ row. Some (whole 0)) counted (λ r r_in. (whole 0, refl, tt)) in
      (whole (length rows), refl, same_count (length (numbers_of counted)) (length rows) (as_many (λ z u. Unit {0}) (numbers_of counted) (filter_map (λ row. Some (whole 0)) rows) related ∙ all_given (whole 0) rows))

  sum_answered : (e : Expr) → expr_fault table e ≡ None → AllByRecursion (IsRead q head cells) (names_in_expr e) → (t : Aggregate) → t.arg ≡ typed_expr table columns e
      → IsShownAs (shown table columns (faces.Number (scale_of table e))) (unless_empty (numbers_of t) (typed.total (numbers_of t))) (total (filter_map (value e) rows))
  sum_answered e fine named t arg =
      let related = rows_alike (IsNumber (scale_of table e)) (value e) t (λ r r_in. rw arg (amount_at q head cells e fine named r r_in)) in
      shown_is (shown table columns (faces.Number (scale_of table e))) (IsNumber (scale_of table e)) (numbers_read (scale_of table e))
      (unless_empty (numbers_of t) (typed.total (numbers_of t))) (total (filter_map (value e) rows)) (total_is (scale_of table e) (numbers_of t) (filter_map (value e) rows) related)

  call_answered : (kind : CallKind) (e : Expr) → argument_fault table (whole_column kind e) e ≡ None → AllByRecursion (IsRead q head cells) (names_in_expr e)
      → IsShownAs (shown table columns (face_of table columns kind e)) (answer_on query (typed_call table columns kind e) (key_at query head base one) (frame_of head) cells) (answer (Call kind e) rows)
  call_answered calls.Sum e fine named = sum_answered e fine named (typed_call table columns calls.Sum e) refl
  call_answered calls.Avg e fine named = sum_answered e fine named (typed_call table columns calls.Avg e) refl
  call_answered calls.Min e fine named =
      let is = any_argument q head cells e (bare_column e) refl fine named in
      let t = typed_call table columns calls.Min e in
      let related = rows_alike is.stands (value e) t is.related in
      shown_is (shown table columns (value_face table columns (bare_column e) (scale_of table e))) is.stands is.reads
      (unless_empty (numbers_of t) (typed.least (numbers_of t))) (least (filter_map (value e) rows))
      (least_is (shown table columns (value_face table columns (bare_column e) (scale_of table e))) is.stands is.reads (numbers_of t) (filter_map (value e) rows) related)
  call_answered calls.Max e fine named =
      let is = any_argument q head cells e (bare_column e) refl fine named in
      let t = typed_call table columns calls.Max e in
      let related = rows_alike is.stands (value e) t is.related in
      shown_is (shown table columns (value_face table columns (bare_column e) (scale_of table e))) is.stands is.reads
      (unless_empty (numbers_of t) (typed.greatest (numbers_of t))) (greatest (filter_map (value e) rows))
      (greatest_is (shown table columns (value_face table columns (bare_column e) (scale_of table e))) is.stands is.reads (numbers_of t) (filter_map (value e) rows) related)
  call_answered calls.Count e fine named =
      let is = any_argument q head cells e (bare_column e) refl fine named in
      let t = typed_call table columns calls.Count e in
      let related = rows_alike (λ z u. Unit {0}) (value e) t (λ r r_in. loosely is.stands (val (typed_expr table columns e) (numbers r)) (value e (row_at head cells r)) (is.related r r_in)) in
      (whole (length (filter_map (value e) rows)), refl, same_count (length (numbers_of t)) (length (filter_map (value e) rows)) (as_many (λ z u. Unit {0}) (numbers_of t) (filter_map (value e) rows) related))

  pub item_answered : (item : Item) (t : Aggregate) → IsAsked q query item t
      → IsShownAs (shown table columns t.face) (answer_on query t (key_at query head base one) (frame_of head) cells) (answer item rows)
  item_answered (Plain n) t asked = absurd (none-some t (item_is q head cells (Plain n) t good values asked).typed)
  item_answered CountAll t asked =
      subst (λ (a : Aggregate). IsShownAs (shown table columns a.face) (answer_on query a (key_at query head base one) (frame_of head) cells) (answer CountAll rows))
      (same_Some counted t (item_is q head cells CountAll t good values asked).typed) star_answered
  item_answered (Call kind e) t asked =
      let is = item_is q head cells (Call kind e) t good values asked in
      subst (λ (a : Aggregate). IsShownAs (shown table columns a.face) (answer_on query a (key_at query head base one) (frame_of head) cells) (answer (Call kind e) rows))
      (same_Some (typed_call table columns kind e) t is.typed) (call_answered kind e is.fine is.named)

  average_by : (values : List Value) (zs : List ℤ) (shows : ℤ → Option Value) → length zs ≡ length values → IsShownAs shows (unless_empty zs (typed.total zs)) (total values) → IsAverage shows (typed.average zs) values
  average_by [] [] shows n h = refl
  average_by (v ∷ vs) [] shows n h = absurd (omega (arith, n))
  average_by values (z ∷ zs) shows n h = (rw h.1 h.2, n)

  pub average_answered : (e : Expr) (t : Aggregate) → IsAsked q query (Call calls.Avg e) t
      → IsAverage (shown table columns t.face) (average_on query t (key_at query head base one) (frame_of head) cells) (filter_map (value e) rows)
  average_answered e t asked =
      let is = item_is q head cells (Call calls.Avg e) t good values asked in
      let own = typed_call table columns calls.Avg e in
      let related = rows_alike (IsNumber (scale_of table e)) (value e) own (amount_at q head cells e is.fine is.named) in
      subst (λ (a : Aggregate). IsAverage (shown table columns a.face) (average_on query a (key_at query head base one) (frame_of head) cells) (filter_map (value e) rows))
      (same_Some own t is.typed)
      (average_by (filter_map (value e) rows) (numbers_of own) (shown table columns (faces.Number (scale_of table e))) (as_many (IsNumber (scale_of table e)) (numbers_of own) (filter_map (value e) rows) related)
      (sum_answered e is.fine is.named own refl))

pub averages_mean : AveragesMeanTheirTrees
averages_mean q head meant cells one e t is values asked one_in =
    subst (λ (w : Query). IsAsked q w (Call calls.Avg e) t
    → IsAverage (shown head.columns w.columns t.face) (average_on w t (key_at w head cells one) (frame_of head) cells) (filter_map (value e) (group_of q (row_at head cells one) (rows_at head cells))))
    (sym is.same) (λ found. average_answered q head cells cells one is.faultless values values one_in e t found) asked

-- also for the group of a row of another table
pub answers_mean_across : (q : tree.Query) (head : Head) (meant : Query) (cells base : Cells) (one : ℕ) (item : Item) (t : Aggregate) → IsTyped q head meant → HasValues head cells → HasValues head base
    → IsAsked q meant item t → (grouping q.ending ≢ [] → one < head.rows)
    → IsShownAs (shown head.columns meant.columns t.face) (answer_on meant t (key_at meant head base one) (frame_of head) cells) (answer item (group_of q (row_at head base one) (rows_at head cells)))
answers_mean_across q head meant cells base one item t is values of_base asked one_in =
    subst (λ (w : Query). IsAsked q w item t
    → IsShownAs (shown head.columns w.columns t.face) (answer_on w t (key_at w head base one) (frame_of head) cells) (answer item (group_of q (row_at head base one) (rows_at head cells))))
    (sym is.same) (λ found. item_answered q head cells base one is.faultless values of_base one_in item t found) asked

pub answers_mean : AnswersMeanTheirTrees
answers_mean q head meant cells one item t is values asked one_in = answers_mean_across q head meant cells cells one item t is values values asked one_in
