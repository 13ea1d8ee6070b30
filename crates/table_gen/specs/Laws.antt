-- That a seed has one table for each number of rows up to the greatest, and that all of its values can be shown.
use Rattle.std.specs.Prelude.{◌≡◌, ℕ, ◌≤◌}
use Rattle.daq_table.specs.Tables.{Contents}
use Rattle.daq_table.specs.ValueTexts.{HeadHasTexts}
use Rattle.table_gen.specs.TableOf.{IsTableOfSeed}

-- one table at most
abbrev pub StandsOnce : Type 0
StandsOnce = (seed rows : ℕ) (one other : Contents) → IsTableOfSeed seed rows one → IsTableOfSeed seed rows other → one ≡ other

-- its columns have texts
abbrev pub HeadsHaveTexts : Type 0
HeadsHaveTexts = (seed rows : ℕ) (table : Contents) → IsTableOfSeed seed rows table → HeadHasTexts table.head

-- each seed has a table of so many rows, up to 2^24
abbrev pub HaveTables : Type 0
HaveTables = (seed rows : ℕ) → rows ≤ 16777216 → (table : Contents) × IsTableOfSeed seed rows table
