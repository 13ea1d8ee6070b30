-- What a block says: of totals an entry for each item, or of groups, or of first rows.
use Rattle.std.specs.Prelude.{Bool, true, false, List, []}
use Rattle.std.specs.declared.option.Option.{Option}
use Rattle.std.specs.declared.option.Option.TheVariants.{Some, None}
use Rattle.part_groups.specs.declared.group.Group.{Group}
use Rattle.report_text.specs.declared.row_blocks.RowsTop.{RowsTop}
use Rattle.report_text.specs.declared.row_blocks.RowsTop.TheVariants.{Counts, Skipped}
use Rattle.report_text.specs.declared.rows.RowLine.{RowLine}
use Rattle.report_parts.specs.declared.block.Block.{Block}
use Rattle.report_parts.specs.declared.block.Block.TheVariants.{Groups, Rows, Totals}
use Rattle.report_parts.specs.declared.entry.Entry.{Entry}

-- what it says of the items, where it is of totals
abbrev pub entries_of : Block → List Entry
entries_of (Totals entries) = entries
entries_of (Groups groups) = []
entries_of (Rows told) = []

-- what it says of groups, where it is of groups
abbrev pub groups_of : Block → List Group
groups_of (Totals entries) = []
groups_of (Groups groups) = groups
groups_of (Rows told) = []

-- the rows that it lists, where it is of first rows
abbrev pub rows_of : Block → List RowLine
rows_of (Totals entries) = []
rows_of (Groups groups) = []
rows_of (Rows told) = told.rows

-- no row is judged
abbrev pub is_skip : Option RowsTop → Bool
is_skip None = false
is_skip (Some (Counts top)) = false
is_skip (Some (Skipped limit)) = true

-- it is of first rows, and none is judged
abbrev pub is_skipped : Block → Bool
is_skipped (Totals entries) = false
is_skipped (Groups groups) = false
is_skipped (Rows told) = is_skip told.top

-- what stands for a block that was not told
abbrev pub no_block : Block
no_block = Totals []
