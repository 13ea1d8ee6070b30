-- Which block of a part stands for a round of all parts.
use Rattle.std.specs.Prelude.{ℕ, ◌-◌, ◌+◌, nat_lt, nat_le, min, Bool, true, false, ◌&&◌, ◌||◌, List, length, map, slice_index_or}
use Rattle.report_text.specs.declared.answers.Answer.{Answer}
use Rattle.part_groups.specs.declared.group.Group.{Group as GroupTold}
use Rattle.part_rows.specs.Combined.{PartListing}
use Rattle.report_parts.specs.Blocks.{entries_of, groups_of, is_skipped, no_block, rows_of}
use Rattle.report_parts.specs.Entries.{answers_of, entry_at, extras_of}
use Rattle.report_parts.specs.Told.{Told}
use Rattle.report_parts.specs.declared.block.Block.{Block}
use Rattle.report_parts.specs.declared.entry.Entry.{Entry}
use Rattle.report_parts.specs.declared.part.Place.{Place}
use Rattle.report_parts.specs.declared.part.Place.TheVariants.{Query, Opened, Round, Group, Items, Row, Ended}

abbrev pub is_ended : Place → Bool
is_ended Query = false
is_ended Opened = false
is_ended Round = false
is_ended Group = false
is_ended Items = false
is_ended Row = false
is_ended (Ended end) = true

-- the part tells what it knows in that round: its block is whole, or its report has ended before
abbrev pub has_block : ℕ → Told → Bool
has_block round told = is_ended told.place || nat_lt round (length told.blocks)

-- its block for the round: where its report has ended before, the last
abbrev pub block_for : ℕ → Told → Block
block_for round told = slice_index_or told.blocks (min round (length told.blocks - 1)) no_block

-- what it says of an item
abbrev pub entry_in : ℕ → ℕ → Told → Entry
entry_in round item told = entry_at item (entries_of (block_for round told))

-- what all parts say of an item in that round
abbrev pub entries_in : ℕ → ℕ → List Told → List Entry
entries_in round item parts = map (entry_in round item) parts

abbrev pub answers_in : ℕ → ℕ → List Told → List Answer
answers_in round item parts = answers_of (entries_in round item parts)

abbrev pub extras_in : ℕ → ℕ → List Told → List Answer
extras_in round item parts = extras_of (entries_in round item parts)

-- what each part says of groups in that round
abbrev pub groups_in : ℕ → Told → List GroupTold
groups_in round told = groups_of (block_for round told)

abbrev pub all_groups_in : ℕ → List Told → List (List GroupTold)
all_groups_in round parts = map (groups_in round) parts

-- what each part lists of first rows in that round
abbrev pub listed_in : ℕ → Told → PartListing
listed_in round told = record { tag = told.tag; skipped = is_skipped (block_for round told); rows = rows_of (block_for round told) }

abbrev pub all_listed_in : ℕ → List Told → List PartListing
all_listed_in round parts = map (listed_in round) parts

-- no part goes on behind that round
abbrev pub is_over : ℕ → Told → Bool
is_over round told = is_ended told.place && nat_le (length told.blocks) (round + 1)
