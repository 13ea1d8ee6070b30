-- Whether a test holds for all numbers of ranges, or for some, by their ends alone.
use Rattle.std.specs.Prelude.{ℤ, int_lt, int_le, Bool, not, ◌&&◌, List}
use Rattle.std.specs.List.{list_any}
use Rattle.std.specs.Ordering.{int_eq}
use Rattle.interval_calc.specs.Intervals.{Interval}
use Rattle.query_model.specs.declared.query.Comparison.{Comparison}
use Rattle.query_model.specs.declared.query.Comparison.TheVariants.{Eq, Ne, Lt, Le, Gt, Ge}
use Rattle.query_model.specs.Meaning.{between}

-- both are the one same number
abbrev pub are_one : Interval → Interval → Bool
are_one i j = int_eq i.low j.high && int_eq i.high j.low

-- they share a number
abbrev pub meet : Interval → Interval → Bool
meet i j = int_le i.low j.high && int_le j.low i.high

-- each number of the first compares so with each of the second
abbrev pub always_compares : Comparison → Interval → Interval → Bool
always_compares Eq i j = are_one i j
always_compares Ne i j = not (meet i j)
always_compares Lt i j = int_lt i.high j.low
always_compares Le i j = int_le i.high j.low
always_compares Gt i j = int_lt j.high i.low
always_compares Ge i j = int_le j.high i.low

-- some number of the first compares so with some number of the second
abbrev pub sometimes_compares : Comparison → Interval → Interval → Bool
sometimes_compares Eq i j = meet i j
sometimes_compares Ne i j = not (are_one i j)
sometimes_compares Lt i j = int_lt i.low j.high
sometimes_compares Le i j = int_le i.low j.high
sometimes_compares Gt i j = int_lt j.low i.high
sometimes_compares Ge i j = int_le j.low i.high

-- each number of the range lies between two others
abbrev pub always_between : ℤ → ℤ → Interval → Bool
always_between low high i = int_le low i.low && int_le i.high high

-- some number of the range does
abbrev pub sometimes_between : ℤ → ℤ → Interval → Bool
sometimes_between low high i = int_le low high && (int_le low i.high && int_le i.low high)

-- some of these numbers is in the range
abbrev pub some_within : List ℤ → Interval → Bool
some_within values i = list_any (between i.low i.high) values
