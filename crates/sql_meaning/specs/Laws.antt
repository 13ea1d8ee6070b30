-- The laws, as statements. A public function with an empty body has each as its contract.
use Rattle.std.specs.Prelude.{◌≡◌, ◌≢◌, ℕ, ◌<◌, ℤ, Bool, false, List, [], ◌++◌, length, map, slice_get, IsTrue}
use Rattle.std.specs.declared.option.Option.{Option}
use Rattle.std.specs.declared.option.Option.TheVariants.{Some, None}
use Rattle.std.specs.Cmp.{IsTotalOrder}
use Rattle.std.specs.List.{AllByRecursion, filter_map}
use Rattle.std.specs.Option.{option_map}
use Rattle.daq_table.specs.ColumnFacts.{is_text}
use Rattle.daq_table.specs.ValueTexts.{text_of_value}
use Rattle.daq_table.specs.Tables.{Cells, IsTable, frame_of, row_of}
use Rattle.daq_table.specs.declared.head.ColumnHead.{ColumnHead}
use Rattle.daq_table.specs.declared.table_head.Head.{Head}
use Rattle.query_model.specs.Answers.{Key, groups_of}
use Rattle.interval_calc.specs.Intervals.{Fraction}
use Rattle.query_model.specs.Attaining as attaining
use Rattle.query_model.specs.Bounds.{Admits, AdmitsAverage, AverageBound}
use Rattle.query_model.specs.declared.bounds.Bound.{Bound}
use Rattle.query_model.specs.declared.bounds.Nullity.TheVariants.{Always, Never}
use Rattle.query_model.specs.Meaning as typed
use Rattle.query_model.specs.Meaning.{is_sql_true}
use Rattle.query_model.specs.Projection.{projected, projected_frame}
use Rattle.query_model.specs.Queries.{Aggregate, Query}
use Rattle.query_model.specs.declared.query.Face.TheVariants.{OfColumn}
use Rattle.query_model.specs.Validity.{declared_ranges}
use Rattle.query_model.specs.Worlds.{IsInResultOn, answer_on, average_on, belongs_on}
use Rattle.sql_text.specs.declared.tree.CallKind.{CallKind}
use Rattle.sql_text.specs.declared.tree.CallKind.TheVariants.{Avg, Count}
use Rattle.sql_text.specs.declared.tree.Num.{Num}
use Rattle.sql_text.specs.Tree as tree
use Rattle.sql_typing.specs.Names.{names_in_filter, names_in_item}
use Rattle.sql_typing.specs.Refusals.{IsTyped}
use Rattle.sql_meaning.specs.Conditions.{truth_of_where}
use Rattle.sql_meaning.specs.Values.{Value, compare_decimals}
use Rattle.sql_meaning.specs.Expressions.{value}
use Rattle.sql_meaning.specs.Answers.{Share, answer, asked, average, group_of, grouping, is_after, is_same, is_share_at_most, total}
use Rattle.sql_meaning.specs.Attained.{AttainsEnds, AttainsKeys, names_differ, with_names}
use Rattle.sql_meaning.specs.Orders.{is_among_first}
use Rattle.sql_meaning.specs.Rows.{row_at, rows_at, shown, text_of, value_at, value_of}

-- decimals are in one order, in which those that differ by zeros at the end are one
abbrev pub DecimalsAreOrdered : Type 0
DecimalsAreOrdered = IsTotalOrder compare_decimals

-- the text of a number of a column is that of the value for which it stands
abbrev pub TextsAreOfValues : Type 0
TextsAreOfValues =
    (column : ColumnHead) (n : ℤ) (v : Value) → value_of (Some column) (Some n) ≡ Some v → text_of_value column n ≡ text_of v

-- the number, as it is shown, is the value; and null is null
abbrev pub IsShownAs : (ℤ → Option Value) → Option ℤ → Option Value → Type 0
IsShownAs shows None v = v ≡ None
IsShownAs shows (Some n) v = (u : Value) × (v ≡ Some u) × IsTrue (is_same (shows n) (Some u))

-- the numbers of a row in the columns of a typed query
abbrev pub numbers_at : Query → Head → Cells → ℕ → typed.Row
numbers_at query head cells r = row_of (projected_frame query (frame_of head)) (projected query cells) r

-- null alone has no value
abbrev pub HasValues : Head → Cells → Type 0
HasValues head cells =
    (c r : ℕ) → c < length head.columns → r < head.rows → value_at head cells r c ≡ None → row_of (frame_of head) cells r c ≡ None

-- a column of texts without names has nulls alone
abbrev pub IsNullWithoutNames : Head → Cells → Type 0
IsNullWithoutNames head cells =
    (c r : ℕ) (column : ColumnHead) → r < head.rows → slice_get head.columns c ≡ Some column → IsTrue (is_text column.kind) →
    column.names ≡ [] → row_of (frame_of head) cells r c ≡ None

-- so each number of a table stands for a value
abbrev pub TablesHaveValues : Type 0
TablesHaveValues = (head : Head) (cells : Cells) → IsTable (frame_of head) cells → IsNullWithoutNames head cells → HasValues head cells

-- what is typed has at each row of a table the truth that is written
abbrev pub ConditionsMeanTheirTrees : Type 0
ConditionsMeanTheirTrees =
    (q : tree.Query) (head : Head) (query : Query) (cells : Cells) (r : ℕ) → IsTyped q head query → HasValues head cells →
    r < head.rows → typed.truth query.pred (numbers_at query head cells r) ≡ truth_of_where q.pred (row_at head cells r)

-- the key of the group of a row, as a typed query has it
abbrev pub key_at : Query → Head → Cells → ℕ → Key
key_at query head cells one = map (numbers_at query head cells one) (groups_of query.shape)

-- a part of the key of a row, shown as a value of its column, is the value of the row in a column of GROUP BY
pub record IsPart (q : tree.Query) (head : Head) (query : Query) (cells : Cells) (one c : ℕ) : Type 0 where
  pub place : ℕ
  pub name : tree.Name
  pub grouped : slice_get (grouping q.ending) place ≡ Some name
  pub same : IsShownAs (shown head.columns query.columns (OfColumn c)) (numbers_at query head cells one c) (row_at head cells one name.name)

-- the parts of keys are the values of the columns of GROUP BY
abbrev pub KeysMeanTheirTrees : Type 0
KeysMeanTheirTrees =
    (q : tree.Query) (head : Head) (query : Query) (cells : Cells) (one : ℕ) → IsTyped q head query → HasValues head cells →
    one < head.rows → AllByRecursion (IsPart q head query cells one) (groups_of query.shape)

-- an aggregate as it is written and as it is typed, both at one place among the aggregates of a query
pub record IsAsked (q : tree.Query) (query : Query) (item : tree.Item) (typed : Aggregate) : Type 0 where
  pub place : ℕ
  pub in_text : slice_get (asked q.head) place ≡ Some item
  pub in_query : slice_get query.items place ≡ Some typed

-- a sum and a count are the total of some values and how many they are; none is that of no values
abbrev pub IsAverage : (ℤ → Option Value) → Option (ℤ × ℕ) → List Value → Type 0
IsAverage shows None values = values ≡ []
IsAverage shows (Some (sum, count)) values = IsTrue (is_same (shows sum) (total values)) × (count ≡ length values)

-- the number that the typed argument gives at a row is the value of the argument as it is written
abbrev pub ArgumentsMeanTheirTrees : Type 0
ArgumentsMeanTheirTrees =
    (q : tree.Query) (head : Head) (query : Query) (cells : Cells) (r : ℕ) (kind : CallKind) (e : tree.Expr) (item : Aggregate) →
    IsTyped q head query → HasValues head cells → r < head.rows → IsAsked q query (tree.Call kind e) item → kind ≢ Count →
    IsShownAs (shown head.columns query.columns item.face) (typed.val item.arg (numbers_at query head cells r))
    (value e (row_at head cells r))

-- the answer of a typed item for the group of a row is the value that the item has over the rows of that group
abbrev pub AnswersMeanTheirTrees : Type 0
AnswersMeanTheirTrees =
    (q : tree.Query) (head : Head) (query : Query) (cells : Cells) (one : ℕ) (item : tree.Item) (typed : Aggregate) →
    IsTyped q head query → HasValues head cells → IsAsked q query item typed → (grouping q.ending ≢ [] → one < head.rows) →
    IsShownAs (shown head.columns query.columns typed.face) (answer_on query typed (key_at query head cells one) (frame_of head) cells)
    (answer item (group_of q (row_at head cells one) (rows_at head cells)))

-- the average of a typed item is the total of its values divided by how many they are, both as they are written
abbrev pub AveragesMeanTheirTrees : Type 0
AveragesMeanTheirTrees =
    (q : tree.Query) (head : Head) (query : Query) (cells : Cells) (one : ℕ) (e : tree.Expr) (item : Aggregate) →
    IsTyped q head query → HasValues head cells → IsAsked q query (tree.Call Avg e) item → (grouping q.ending ≢ [] → one < head.rows) →
    IsAverage (shown head.columns query.columns item.face) (average_on query item (key_at query head cells one) (frame_of head) cells)
    (filter_map (value e) (group_of q (row_at head cells one) (rows_at head cells)))

-- an interval, as its ends are shown, contains a value, or null
abbrev pub ContainsValue : (ℤ → Option Value) → Bound → Option Value → Type 0
ContainsValue shows bound None = bound.null ≢ Never
ContainsValue shows bound (Some v) =
    (bound.null ≢ Always)
    × ((u : Value) → shows bound.lo ≡ Some u → is_after u v ≡ false)
    × ((u : Value) → shows bound.hi ≡ Some u → is_after v u ≡ false)

-- an interval that admits the answer of a typed item contains the value of the item as it is written
abbrev pub IntervalsMeanTheirTrees : Type 0
IntervalsMeanTheirTrees =
    (q : tree.Query) (head : Head) (query : Query) (cells : Cells) (one : ℕ) (item : tree.Item) (typed : Aggregate) (bound : Bound) →
    IsTyped q head query → HasValues head cells → IsAsked q query item typed → (grouping q.ending ≢ [] → one < head.rows) →
    Admits bound (answer_on query typed (key_at query head cells one) (frame_of head) cells) →
    ContainsValue (shown head.columns query.columns typed.face) bound
    (answer item (group_of q (row_at head cells one) (rows_at head cells)))

-- an end of an average, as it is shown: a number over a count
abbrev pub shown_share : (ℤ → Option Value) → Fraction → Option Share
shown_share shows end = option_map (λ u. record { total = u; count = end.den }) (shows end.num)

-- an interval of averages, as its ends are shown, contains an average, or null
abbrev pub ContainsShare : (ℤ → Option Value) → AverageBound → Option Share → Type 0
ContainsShare shows bound None = bound.null ≢ Never
ContainsShare shows bound (Some share) =
    (bound.null ≢ Always)
    × ((low : Share) × (shown_share shows bound.lo ≡ Some low) × IsTrue (is_share_at_most low share))
    × ((high : Share) × (shown_share shows bound.hi ≡ Some high) × IsTrue (is_share_at_most share high))

-- an interval that admits the average of a typed item contains that of the values of the item as it is written
abbrev pub IntervalsOfAveragesMeanTheirTrees : Type 0
IntervalsOfAveragesMeanTheirTrees =
    (q : tree.Query) (head : Head) (query : Query) (cells : Cells) (one : ℕ) (e : tree.Expr) (item : Aggregate) (bound : AverageBound) →
    IsTyped q head query → HasValues head cells → IsAsked q query (tree.Call Avg e) item → (grouping q.ending ≢ [] → one < head.rows) →
    AdmitsAverage bound (average_on query item (key_at query head cells one) (frame_of head) cells) →
    ContainsShare (shown head.columns query.columns item.face) bound
    (average (filter_map (value e) (group_of q (row_at head cells one) (rows_at head cells))))

-- what is typed of rows in an order says which rows are among the first
abbrev pub OrdersMeanTheirTrees : Type 0
OrdersMeanTheirTrees =
    (q : tree.Query) (head : Head) (query : Query) (cells : Cells) (key : tree.Name) (down : Bool) (limit : Num) (x : ℕ) →
    IsTyped q head query → HasValues head cells → x < head.rows → q.ending ≡ tree.Ordered key down limit →
    belongs_on query (frame_of head) cells x
    ≡ is_among_first (record { pred = q.pred; key = key; down = down; limit = limit }) (row_at head cells) head.rows x

-- the groups of a result: a row at which the condition is true is of one, and each is that of such a row
pub record HasGroups (q : tree.Query) (head : Head) (query : Query) (cells : Cells) : Type 0 where
  pub of_row : (r : ℕ) → r < head.rows → IsTrue (is_sql_true (truth_of_where q.pred (row_at head cells r))) →
      IsInResultOn query (key_at query head cells r) (frame_of head) cells
  pub of_key : (key : Key) → length key ≡ length (groups_of query.shape) → IsInResultOn query key (frame_of head) cells →
      (r : ℕ) × (r < head.rows) × IsTrue (is_sql_true (truth_of_where q.pred (row_at head cells r))) × (key ≡ key_at query head cells r)

abbrev pub ResultsMeanTheirTrees : Type 0
ResultsMeanTheirTrees =
    (q : tree.Query) (head : Head) (query : Query) (cells : Cells) → IsTyped q head query → HasValues head cells →
    HasGroups q head query cells

-- what is typed attains its ends, and its truths, where what is written does
pub record AttainsAsWritten (q : tree.Query) (head : Head) (query : Query) : Type 0 where
  pub ends : (item : tree.Item) (typed : Aggregate) → IsAsked q query item typed → AttainsEnds head q item →
      attaining.AttainsEnds query typed (declared_ranges (projected_frame query (frame_of head)))
  pub keys : AttainsKeys head q → attaining.AttainsTruths query.pred (groups_of query.shape)

abbrev pub AttainedEndsMeanTheirTrees : Type 0
AttainedEndsMeanTheirTrees = (q : tree.Query) (head : Head) (query : Query) → IsTyped q head query → AttainsAsWritten q head query

-- what WHERE, GROUP BY and an item name attains its ends where they name no column twice, and keys where the first two do not
pub record AttainsNamedOnce (head : Head) (q : tree.Query) : Type 0 where
  pub keys : IsTrue (names_differ (names_in_filter q.pred ++ with_names [] (grouping q.ending))) → AttainsKeys head q
  pub ends : (item : tree.Item) →
      IsTrue (names_differ (names_in_filter q.pred ++ with_names [] (grouping q.ending) ++ names_in_item item)) → AttainsEnds head q item

abbrev pub NamedOnceAttain : Type 0
NamedOnceAttain = (head : Head) (q : tree.Query) → AttainsNamedOnce head q
