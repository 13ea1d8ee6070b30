-- Intervals that admit a typed average contain the average that is asked for.
use Rattle.std.proofs.Common.{◌≡◌, ℕ, ◌+◌, ◌^◌, ℤ, pos, ◌*ℤ◌, ◌≤ℤ◌, ◌<ℤ◌, true, false, not, List, [], ◌∷◌, Option, Some, None, refl, sym, ap, subst, ◌∙◌, arith, IsTrue}
use Rattle.std.proofs.lemmas.Bool.{true≢false}
use Rattle.std.proofs.lemmas.Int.{ints}
use Rattle.std.proofs.lemmas.Option.{same_Some}
use Rattle.std.specs.Prelude.{int_lt}
use Rattle.std.specs.Cmp.{int_ranks}
use Rattle.std.specs.List.{AllByRecursion, filter_map}
use Rattle.daq_table.specs.Tables.{frame_of}
use Rattle.query_model.specs.Worlds.{average_on}
use Rattle.std.specs.declared.cmp.Ordering.TheVariants.{Equal}
use Rattle.std.specs.Ordering.{MatchOrdering, int_cmp, is_eq, is_gt}
use Rattle.daq_table.specs.declared.head.ColumnHead.{ColumnHead}
use Rattle.daq_table.specs.declared.table_head.Head.{Head}
use Rattle.query_model.specs.Bounds.{AdmitsAverage, AverageBound}
use Rattle.query_model.specs.Queries.{Aggregate, Query}
use Rattle.query_model.specs.declared.query.Face.{Face}
use Rattle.query_model.specs.declared.query.Face.TheVariants as faces
use Rattle.query_model.specs.declared.query.ItemKind.TheVariants as kinds
use Rattle.sql_text.specs.declared.tree.CallKind.TheVariants as calls
use Rattle.sql_text.specs.Tree as tree
use Rattle.sql_text.specs.Tree.{Expr, Item, Plain, CountAll, Call, Name}
use Rattle.sql_typing.specs.Names.{names_in_head}
use Rattle.sql_typing.specs.Refusals.{IsTyped}
use Rattle.sql_typing.specs.Typing.{counted, scale_of, typed_call, typed_item}
use Rattle.sql_typing.specs.Typing as typing
use Rattle.sql_typing.proofs.Clean.{clean}
use Rattle.sql_meaning.specs.Values.{Decimal, Value, Number, Day, Text, compare_decimals}
use Rattle.sql_meaning.specs.Answers.{are_at_most, average, group_of, is_same, multiplied, total}
use Rattle.sql_meaning.specs.Expressions.{value}
use Rattle.sql_meaning.specs.Rows.{row_at, rows_at, shown}
use Rattle.sql_meaning.specs.Laws.{ContainsShare, IntervalsOfAveragesMeanTheirTrees, IsAsked, IsAverage, key_at}
use Rattle.sql_meaning.proofs.Answered.{averages_mean}
use Rattle.sql_meaning.proofs.Asked.{in_query}
use Rattle.sql_meaning.proofs.Decimals as decimals
use Rattle.sql_meaning.proofs.Decimals.{IsDecimal, itself, ordered}
use Rattle.sql_meaning.proofs.Enclosed.{equal_is}
use Rattle.sql_meaning.proofs.Spots.{more_by}

-- ---- what is typed

all_names_any : (ns : List Name) → AllByRecursion (λ (n : Name). Unit {0}) ns
all_names_any [] = tt
all_names_any (n ∷ ns) = (tt, all_names_any ns)

-- an item is typed as it stands in the text
pub typed_as : (q : tree.Query) (head : Head) (query : Query) (item : Item) (t : Aggregate) → IsTyped q head query → IsAsked q query item t
    → typed_item head.columns query.columns item ≡ Some t
typed_as q head query item t is asked =
    subst (λ (w : Query). IsAsked q w item t → typed_item head.columns w.columns item ≡ Some t) (sym is.same)
    (λ found. (in_query head.columns (typing.columns_of head.columns q) (λ n. Unit {0}) item t q.ending q.head found.place found.in_text found.in_query (clean head.columns q is.faultless).select_list (all_names_any (names_in_head q.head))).typed)
    asked

pub average_face : (q : tree.Query) (head : Head) (query : Query) (e : Expr) (t : Aggregate) → IsTyped q head query → IsAsked q query (Call calls.Avg e) t
    → t.face ≡ faces.Number (scale_of head.columns e)
average_face q head query e t is asked = ap (λ (a : Aggregate). a.face) (sym (same_Some (typed_call head.columns query.columns calls.Avg e) t (typed_as q head query (Call calls.Avg e) t is asked)))

pub average_kind : (q : tree.Query) (head : Head) (query : Query) (e : Expr) (t : Aggregate) → IsTyped q head query → IsAsked q query (Call calls.Avg e) t → t.kind ≡ kinds.Avg
average_kind q head query e t is asked = ap (λ (a : Aggregate). a.kind) (sym (same_Some (typed_call head.columns query.columns calls.Avg e) t (typed_as q head query (Call calls.Avg e) t is asked)))

-- ---- decimals over counts

no_more : (x y : ℤ) → x ≤ℤ y → not (is_gt (int_cmp x y)) ≡ true
no_more x y h =
    let e : int_lt y x ≡ false = grind (arith, ints) in
    ap not (sym (more_by x y (int_cmp x y) (int_ranks x y)) ∙ e)

equal_numbers : (x y : ℤ) → int_cmp x y ≡ Equal → x ≡ y
equal_numbers x y e = subst (λ o. MatchOrdering o (x <ℤ y) (x ≡ y) (y <ℤ x)) e (int_ranks x y)

same_decimal : (s : ℕ) (z : ℤ) (d : Decimal) → is_eq (compare_decimals (record { digits = z; behind = s }) d) ≡ true → IsDecimal s z d
same_decimal s z d h = equal_numbers (z *ℤ pos (10 ^ d.behind)) (d.digits *ℤ pos (10 ^ s)) (equal_is _ h)

pub shares_ordered : (s : ℕ) (x y : ℤ) (a b : Decimal) (m n : ℕ) → IsDecimal s x a → IsDecimal s y b → (x *ℤ pos n) ≤ℤ (y *ℤ pos m)
    → IsTrue (are_at_most (Number a) m (Number b) n)
shares_ordered s x y a b m n h k le =
    ap (λ o. not (is_gt o)) (ordered (s + 0) (x *ℤ pos n) (y *ℤ pos m) (multiplied a n) (multiplied b m)
    (decimals.multiplied s 0 x (pos n) a (record { digits = pos n; behind = 0 }) h refl)
    (decimals.multiplied s 0 y (pos m) b (record { digits = pos m; behind = 0 }) k refl))
    ∙ no_more (x *ℤ pos n) (y *ℤ pos m) le

-- ---- intervals

pub record IsSum (s : ℕ) (sum : ℤ) (values : List Value) : Type 0 where
  pub decimal : Decimal
  pub same : total values ≡ Some (Number decimal)
  pub stands : IsDecimal s sum decimal

sum_by : (s : ℕ) (sum : ℤ) (values : List Value) (o : Option Value) → total values ≡ o → IsTrue (is_same (Some (Number (record { digits = sum; behind = s }))) o) → IsSum s sum values
sum_by s sum values None e h = absurd (true≢false (sym h))
sum_by s sum values (Some (Number d)) e h = record { decimal = d; same = e; stands = same_decimal s sum d h }
sum_by s sum values (Some (Day d)) e h = absurd (true≢false (sym h))
sum_by s sum values (Some (Text t)) e h = absurd (true≢false (sym h))

pub sum_is : (table : List ColumnHead) (columns : List ℕ) (s : ℕ) (sum : ℤ) (count : ℕ) (values : List Value) → IsAverage (shown table columns (faces.Number s)) (Some (sum, count)) values → IsSum s sum values
sum_is table columns s sum count values is = sum_by s sum values (total values) refl is.0

pub contained : (table : List ColumnHead) (columns : List ℕ) (s : ℕ) (bound : AverageBound) (o : Option (ℤ × ℕ)) (values : List Value) → IsAverage (shown table columns (faces.Number s)) o values
    → AdmitsAverage bound o → ContainsShare (shown table columns (faces.Number s)) bound (average values)
contained table columns s bound None values is h = rw is h
contained table columns s bound (Some (sum, count)) values is h =
    let found = sum_is table columns s sum count values is in
    let low : Decimal = record { digits = bound.lo.num; behind = s } in
    let high : Decimal = record { digits = bound.hi.num; behind = s } in
    rw (found.same, sym is.1) (
      h.0,
      (record { total = Number low; count = bound.lo.den }, refl, shares_ordered s bound.lo.num sum low found.decimal bound.lo.den count (itself s bound.lo.num) found.stands h.1),
      (record { total = Number high; count = bound.hi.den }, refl, shares_ordered s sum bound.hi.num found.decimal high count bound.hi.den found.stands (itself s bound.hi.num) h.2),
    )

pub by_face : (table : List ColumnHead) (columns : List ℕ) (face : Face) (s : ℕ) → face ≡ faces.Number s → (bound : AverageBound) (o : Option (ℤ × ℕ)) (values : List Value)
    → IsAverage (shown table columns face) o values → AdmitsAverage bound o → ContainsShare (shown table columns face) bound (average values)
by_face table columns face s same bound o values meant h =
    subst (λ (f : Face). IsAverage (shown table columns f) o values → ContainsShare (shown table columns f) bound (average values)) (sym same)
    (λ is. contained table columns s bound o values is h) meant

pub averages_contained : IntervalsOfAveragesMeanTheirTrees
averages_contained q head query cells one e item bound is values asked one_in admitted =
    by_face head.columns query.columns item.face (scale_of head.columns e) (average_face q head query e item is asked) bound
    (average_on query item (key_at query head cells one) (frame_of head) cells) (filter_map (value e) (group_of q (row_at head cells one) (rows_at head cells)))
    (averages_mean q head query cells one e item is values asked one_in) admitted
