-- That a report shows the first rows of which parts tell, each behind those before it.
use Rattle.std.specs.Prelude.{ℕ, ◌<◌, ◌≤◌, List, length}
use Rattle.std.specs.List.{All}
use Rattle.part_rows.specs.Rising.{AreRisingLines}
use Rattle.report_text.specs.Rows.{IsShownRow}
use Rattle.report_text.specs.declared.rows.RowLine.{RowLine}
use Rattle.report_parts.specs.Blocks.{rows_of}
use Rattle.report_parts.specs.Rounds.{block_for}
use Rattle.report_parts.specs.Told.{Told}

-- rows that a report shows, each behind those before it
pub record AreTakenRows (rows : List RowLine) : Type 0 where
  pub shown : All IsShownRow rows
  pub rising : AreRisingLines rows

-- the rows that the part lists in that round and behind it, and in the block that it has begun; its tag has a byte or more
pub record IsShownFrom (round : ℕ) (told : Told) : Type 0 where
  pub tag : 0 < length told.tag
  pub blocks : (later : ℕ) → round ≤ later → AreTakenRows (rows_of (block_for later told))
  pub begun : AreTakenRows told.rows.rows

-- so it is of each part
abbrev pub AreShownFrom : ℕ → List Told → Type 0
AreShownFrom round parts = All (IsShownFrom round) parts
