-- What a condition of a query means at a row, in the three-valued logic of SQL.
use Rattle.std.specs.Prelude.{ℕ, Bool, true, false, not, List, [], ◌∷◌}
use Rattle.std.specs.declared.option.Option.{Option}
use Rattle.std.specs.declared.option.Option.TheVariants.{Some, None}
use Rattle.std.specs.Option.{option_map}
use Rattle.std.specs.declared.cmp.Ordering.{Ordering}
use Rattle.std.specs.Ordering.{is_eq, is_lt, is_gt}
use Rattle.daq_table.specs.CellTexts.{date_value}
use Rattle.query_model.specs.Meaning.{sql_not, sql_and, sql_or}
use Rattle.sql_text.specs.declared.tree.Comparison.{Comparison}
use Rattle.sql_text.specs.declared.tree.Comparison.TheVariants.{Eq, Ne, Lt, Le, Gt, Ge}
use Rattle.sql_text.specs.declared.tree.Num.{Num}
use Rattle.sql_text.specs.Tree as tree
use Rattle.sql_text.specs.Tree.{Operand, Numeric, Str, Pred, Compare, Columns, Between, OneOf, IsNull, Negation, Both, Either}
use Rattle.sql_meaning.specs.Values.{Decimal, Value, Number, Day, Text, compare, unless_null}

-- the values of a row by the names of the columns; None is null
abbrev pub Row : Type 0
Row = List ℕ → Option Value

-- ---- what is written in a query

abbrev pub decimal_of : Num → Decimal
decimal_of n = record { digits = n.units; behind = n.scale }

-- a string beside a day is the date that it writes
abbrev pub string_beside : Value → List ℕ → Value
string_beside (Number a) s = Text s
string_beside (Day d) s = Day (date_value s)
string_beside (Text t) s = Text s

-- a written value beside one of a row
abbrev pub beside : Value → Operand → Value
beside x (Numeric n) = Number (decimal_of n)
beside x (Str s) = string_beside x s.name
beside x (tree.Day s) = Day (date_value s.name)

-- ---- comparisons

abbrev pub passes : Comparison → Ordering → Bool
passes Eq o = is_eq o
passes Ne o = not (is_eq o)
passes Lt o = is_lt o
passes Le o = not (is_gt o)
passes Gt o = is_gt o
passes Ge o = not (is_lt o)

abbrev pub compared : Comparison → Value → Value → Option Bool
compared op x y = option_map (passes op) (compare x y)

-- the same with a written value
abbrev pub compared_with : Comparison → Operand → Value → Option Bool
compared_with op v x = compared op x (beside x v)

-- BETWEEN: at least the one and at most the other
abbrev pub between : Operand → Operand → Value → Option Bool
between low high x = sql_and (compared_with Ge low x) (compared_with Le high x)

-- IN: equal to the first, or to the second, and so on
abbrev pub among : List Operand → Value → Option Bool
among [] x = Some false
among (v ∷ vs) x = sql_or (compared_with Eq v x) (among vs x)

abbrev pub is_null : Option Value → Bool
is_null None = true
is_null (Some x) = false

-- ---- conditions

-- what the condition is at a row: true, false or null. To compare with null is null; IS NULL never is
abbrev pub truth : Pred → Row → Option Bool
truth (Compare n op v) row = unless_null (compared_with op v) (row n.name)
truth (Columns l op r) row = unless_null (λ x. unless_null (compared op x) (row r.name)) (row l.name)
truth (Between n low high) row = unless_null (between low high) (row n.name)
truth (OneOf n vs) row = unless_null (among vs) (row n.name)
truth (IsNull n) row = Some (is_null (row n.name))
truth (Negation a) row = sql_not (truth a row)
truth (Both a b) row = sql_and (truth a row) (truth b row)
truth (Either a b) row = sql_or (truth a row) (truth b row)

-- without WHERE each row meets the condition
abbrev pub truth_of_where : Option Pred → Row → Option Bool
truth_of_where None row = Some true
truth_of_where (Some a) row = truth a row
