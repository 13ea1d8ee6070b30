-- What an expression of a query means at a row: an exact decimal, or the value of a column.
use Rattle.std.specs.Prelude.{◌+◌, ◌^◌, pos, ◌+ℤ◌, ◌-ℤ◌, ◌*ℤ◌}
use Rattle.std.specs.declared.option.Option.{Option}
use Rattle.std.specs.declared.option.Option.TheVariants.{Some, None}
use Rattle.sql_text.specs.Tree as tree
use Rattle.sql_text.specs.Tree.{Expr, Add, Sub, Mul}
use Rattle.sql_meaning.specs.Values.{Decimal, Value, Number, unless_null}
use Rattle.sql_meaning.specs.Conditions.{Row, decimal_of}

-- sums and differences as of fractions, over the product of their powers of ten
abbrev pub plus : Decimal → Decimal → Decimal
plus a b = record { digits = (a.digits *ℤ pos (10 ^ b.behind)) +ℤ (b.digits *ℤ pos (10 ^ a.behind)); behind = a.behind + b.behind }

abbrev pub minus : Decimal → Decimal → Decimal
minus a b = record { digits = (a.digits *ℤ pos (10 ^ b.behind)) -ℤ (b.digits *ℤ pos (10 ^ a.behind)); behind = a.behind + b.behind }

abbrev pub times : Decimal → Decimal → Decimal
times a b = record { digits = a.digits *ℤ b.digits; behind = a.behind + b.behind }

-- what is computed of two numbers; days and texts are not computed with
abbrev pub of_numbers : (Decimal → Decimal → Decimal) → Value → Value → Option Value
of_numbers f (Number a) (Number b) = Some (Number (f a b))
of_numbers f u v = None

-- null where one of the two is null
abbrev pub computed : (Decimal → Decimal → Decimal) → Option Value → Option Value → Option Value
computed f u v = unless_null (λ x. unless_null (of_numbers f x) v) u

-- the value of an expression at a row
abbrev pub value : Expr → Row → Option Value
value (tree.Column n) row = row n.name
value (tree.Number n) row = Some (Number (decimal_of n))
value (Add a b) row = computed plus (value a row) (value b row)
value (Sub a b) row = computed minus (value a row) (value b row)
value (Mul at a b) row = computed times (value a row) (value b row)
