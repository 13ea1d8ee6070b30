-- The rows of a column at one prefix, which all have one range.
use Rattle.std.specs.Prelude.{◌≡◌, ℕ, ◌<◌, ◌^◌, ◌-ℤ◌, ℤ, nat_abs, ◌==◌, cond, Bool, List, map}
use Rattle.std.specs.declared.option.Option.TheVariants.{Some}
use Rattle.query_model.specs.Knowledge.{prefix_of, range_of}
use Rattle.known_column.specs.Columns.{KnownColumn}
use Rattle.aggregates.specs.Selections.{sum_where}
use Rattle.clip_bounds.specs.declared.level.Level.{Level}

-- how many rows of the mask have this prefix
abbrev pub count_at : ℕ → List Bool → List ℕ → ℕ
count_at prefix mask prefixes = sum_where mask (map (λ p. cond (p == prefix) 1 0) prefixes)

-- the prefix of a number, and the range of the rows that have it
pub record IsLevelOf (column : KnownColumn) (number : ℤ) (level : Level) : Type 0 where
  pub prefix : level.prefix ≡ prefix_of column.ends column.known.read (Some (nat_abs (number -ℤ column.ends.base)))
  pub few : level.prefix < 2 ^ column.known.read
  pub low : level.low ≡ (range_of column.ends column.known.read level.prefix).numbers.low
  pub high : level.high ≡ (range_of column.ends column.known.read level.prefix).numbers.high
