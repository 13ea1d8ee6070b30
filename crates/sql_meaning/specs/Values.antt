-- Values as people see them: exact decimals, days of the calendar, and texts.
use Rattle.std.specs.Prelude.{ℕ, ◌^◌, ℤ, pos, ◌*ℤ◌, List}
use Rattle.std.specs.declared.option.Option.{Option}
use Rattle.std.specs.declared.option.Option.TheVariants.{Some, None}
use Rattle.std.specs.Cmp.Lexicographic.{slice_cmp}
use Rattle.std.specs.declared.cmp.Ordering.{Ordering}
use Rattle.std.specs.Ordering.{int_cmp, nat_cmp}

-- an exact decimal: a whole number of which so many digits stand behind the point. 12.50 is 1250 with 2 of them
pub record Decimal : Type 0 where
  pub digits : ℤ
  pub behind : ℕ

-- a value; where there is none, there is null
pub data Value : Type 0 where
  Number : Decimal → Value
  -- a day of the calendar, counted from 1 January 1970
  Day : ℤ → Value
  -- a text, by its bytes
  Text : List ℕ → Value

-- decimals as fractions: each over its power of ten, by cross products
abbrev pub compare_decimals : Decimal → Decimal → Ordering
compare_decimals a b = int_cmp (a.digits *ℤ pos (10 ^ b.behind)) (b.digits *ℤ pos (10 ^ a.behind))

-- how a value stands to another: days by the calendar, texts by their bytes. Values of two sorts do not compare
abbrev pub compare : Value → Value → Option Ordering
compare (Number a) (Number b) = Some (compare_decimals a b)
compare (Number a) (Day e) = None
compare (Number a) (Text t) = None
compare (Day d) (Number b) = None
compare (Day d) (Day e) = Some (int_cmp d e)
compare (Day d) (Text t) = None
compare (Text s) (Number b) = None
compare (Text s) (Day e) = None
compare (Text s) (Text t) = Some (slice_cmp nat_cmp s t)

-- what is computed of a value, and null of null
abbrev pub unless_null : {A B : Type 0} → (A → Option B) → Option A → Option B
unless_null f None = None
unless_null f (Some x) = f x
