-- Cells, and what is known of their column after some of its planes.
use Rattle.std.specs.Prelude.{◌≡◌, ℕ, ◌+◌, ◌-◌, ◌*◌, ◌/◌, ◌%◌, ◌^◌, ◌==◌}
use Rattle.std.specs.Prelude.{pos, Bool, List, [], ◌∷◌, length, map, count_by, sum_by, IsFalse}
use Rattle.std.specs.declared.option.Option.TheVariants.{Some}
use Rattle.std.specs.List.{range_with_len}
use Rattle.daq_table.specs.declared.head.Ends.{Ends}
use Rattle.daq_table.specs.Tables.{Frame}
use Rattle.query_model.specs.declared.bounds.Truth.{Truth}
use Rattle.query_model.specs.declared.query.Atom.TheVariants.{Compare}
use Rattle.query_model.specs.declared.query.Comparison.TheVariants.{Lt}
use Rattle.query_model.specs.Queries.{Condition, Single}
use Rattle.query_model.specs.Knowledge.{known_of}
use Rattle.known_column.specs.KnownTables.{KnownTable}
use Rattle.kleene_filter.specs.Filters.{is_unknown, truths_under}
use Rattle.plane_bench.specs.declared.TheConstants.{LIMIT}
use Rattle.plane_bench.specs.declared.summing.TheConstants.{READINGS}
use Rattle.plane_bench.specs.declared.words.Work.{Work}
use Rattle.plane_bench.specs.declared.words.Work.TheVariants.{Cut, Take, Follow, Sum}

-- the cell of a row, of 32 binary digits
abbrev pub cell_of : ℕ → ℕ
cell_of row = (row * 2654435761) % 4294967296

-- the cells of so many rows
abbrev pub cells_of : ℕ → List ℕ
cells_of rows = map cell_of (range_with_len 0 rows)

-- the highest of 32 digits is 1
abbrev pub is_high : ℕ → Bool
is_high cell = (cell / 2147483648) % 2 == 1

-- the first of the 32 digits of a cell, so many, as a number
abbrev pub first_digits : ℕ → ℕ → ℕ
first_digits count cell = cell / 2 ^ (32 - count)

-- the ends of a column of all numbers of 32 digits, and no null
pub record AreWide (ends : Ends) : Type 0 where
  pub base : ends.base ≡ pos 0
  pub top : ends.top ≡ pos 4294967295
  pub plain : IsFalse ends.nullable

-- a table of one column, whose cells are these numbers
abbrev pub alone : Ends → List ℕ → Frame
alone ends cells = record { rows = length cells; columns = ends ∷ [] }

-- what is known of it after so many planes
abbrev pub table_after : Ends → List ℕ → ℕ → KnownTable
table_after ends cells read = record { frame = alone ends cells; known = known_of (alone ends cells) (map Some cells ∷ []) (read ∷ []) }

-- what is known of a condition on the number at each row, after so many planes
abbrev pub truths_after : Condition → Ends → List ℕ → ℕ → List Truth
truths_after pred ends cells read = truths_under pred (table_after ends cells read)

-- the condition that the number is below the limit
abbrev pub below_limit : Condition
below_limit = Single (Compare 0 Lt LIMIT)

-- the number that the work ends with: ones of the highest plane, planes left, rows that are not known, or the sum of all numbers read
abbrev pub IsResult : Work → ℕ → ℕ → ℕ → Type 0
IsResult Cut rows rounds number = number ≡ count_by is_high (cells_of rows)
IsResult Take rows rounds number = number + rounds ≡ 32
IsResult Follow rows rounds number =
    (ends : Ends) × AreWide ends × (number ≡ count_by is_unknown (truths_after below_limit ends (cells_of rows) rounds))
IsResult Sum rows rounds number = number ≡ READINGS * sum_by (first_digits rounds) (cells_of rows) % 2 ^ 64
