-- Rows that may count and need not, and those of them that widen a sum.
use Rattle.std.specs.Prelude.{◌≡◌, ℕ, ◌+◌, ◌*◌, ◌<◌, ◌≤◌, ℤ, pos, int_lt, ◌≤ℤ◌, ◌<ℤ◌, Bool, false, not, ◌&&◌, List, length}
use Rattle.std.specs.Simd.Lanes.{zip2}
use Rattle.daq_table.specs.declared.head.Ends.{Ends}
use Rattle.known_column.specs.Columns.{KnownColumn}
use Rattle.aggregates.specs.declared.ends.End.{End}
use Rattle.aggregates.specs.declared.ends.End.TheVariants.{Low, High}
use Rattle.aggregates.specs.Selections.{end_at, has_row, those_of}

-- a number of a row that need not count widens the sum at this end: below 0 the low end, above 0 the high end
abbrev pub widens : End → ℤ → Bool
widens Low n = int_lt n (pos 0)
widens High n = int_lt (pos 0) n

-- of the rows of a mask those that need not count, since another mask has them not, and widen the sum at this end
abbrev pub widening_rows : End → KnownColumn → List Bool → List Bool → List Bool
widening_rows end column may must = zip2 (λ a b. a && not b) (those_of may (λ row. widens end (end_at end column row))) must

-- a number of the column may do so, or none may
abbrev pub CanWiden : End → Ends → Type 0
CanWiden Low ends = ends.base <ℤ pos 0
CanWiden High ends = pos 0 <ℤ ends.top

abbrev pub NeverWidens : End → Ends → Type 0
NeverWidens Low ends = pos 0 ≤ℤ ends.base
NeverWidens High ends = ends.top ≤ℤ pos 0

-- there is a bit for each block of 512 rows, and where it is 0 both masks have the same rows
pub record CoverOthers (may must blocks : List Bool) : Type 0 where
  pub room : length may ≤ 512 * length blocks
  pub same : (block j : ℕ) → j < 512 → has_row blocks block ≡ false → has_row must (512 * block + j) ≡ has_row may (512 * block + j)
