-- The text of a combined report, by what its parts have told.
use Rattle.std.specs.Prelude.{◌≡◌, ℕ, zero, suc, ◌+◌, ◌<◌, true, List, [], ◌∷◌, ◌++◌, codes, length}
use Rattle.std.specs.List.{All, list_all}
use Rattle.std.specs.declared.option.Option.{Option}
use Rattle.std.specs.declared.option.Option.TheVariants.{Some, None}
use Rattle.query_model.specs.declared.query.ItemKind.{ItemKind}
use Rattle.query_kinds.specs.declared.beside.Beside.{Beside}
use Rattle.query_kinds.specs.declared.rows.FirstRows.{FirstRows}
use Rattle.report_text.specs.Extras.{extra_line}
use Rattle.report_text.specs.Lines.{item_line, parts_line, round_words}
use Rattle.report_text.specs.declared.answers.Answer.{Answer}
use Rattle.report_parts.specs.Combined.{HasEntryTexts, entry_over}
use Rattle.part_groups.specs.Combined.{IsShown}
use Rattle.part_groups.specs.Texts.{text_at}
use Rattle.part_groups.specs.Whole.{groups_over}
use Rattle.part_groups.specs.declared.group.Group.{Group}
use Rattle.part_rows.specs.Combined.{combined, told_by}
use Rattle.report_text.specs.Groups.{group_line}
use Rattle.report_text.specs.RowBlocks.{RowsTold, first_line}
use Rattle.report_text.specs.Rows.{IsShownRow, row_line}
use Rattle.report_text.specs.TextAnswers.{text_item_line}
use Rattle.report_text.specs.declared.row_blocks.RowsTop.{RowsTop}
use Rattle.report_text.specs.declared.rows.RowLine.{RowLine}
use Rattle.report_text.specs.declared.text_answers.TextAnswer.{TextAnswer}
use Rattle.report_parts.specs.Beside.{entries_beside, groups_beside}
use Rattle.report_parts.specs.Rounds.{all_groups_in, all_listed_in, entries_in, has_block}
use Rattle.report_parts.specs.Texts.{text_clip_line}
use Rattle.report_parts.specs.Told.{Told}
use Rattle.report_parts.specs.declared.block.Block.{Block}
use Rattle.report_parts.specs.declared.block.Block.TheVariants.{Groups, Rows, Totals}
use Rattle.report_parts.specs.declared.entry.Entry.{Entry}
use Rattle.report_parts.specs.declared.shape.Shape.{Shape}

-- what is said over all parts in a round, of the items from that one on
abbrev pub entries_over : ℕ → ℕ → List ItemKind → List Told → List Entry
entries_over round item [] parts = []
entries_over round item (kind ∷ kinds) parts = entry_over kind (entries_in round item parts) ∷ entries_over round (item + 1) kinds parts

abbrev pub line_behind : ItemKind → ℕ → Answer → Option TextAnswer → List ℕ
line_behind kind number answer None = extra_line kind number answer
line_behind kind number answer (Some clip) = text_clip_line number clip

abbrev pub extra_lines : ItemKind → ℕ → Option Answer → Option TextAnswer → List ℕ
extra_lines kind number None clip = []
extra_lines kind number (Some answer) clip = line_behind kind number answer clip ++ codes "\n"

abbrev pub answer_line : ℕ → Answer → Option TextAnswer → List ℕ
answer_line number answer None = item_line number answer
answer_line number answer (Some text) = text_item_line number text

-- the line of an item, and the one behind it, if there is one
abbrev pub entry_lines : ItemKind → ℕ → Entry → List ℕ
entry_lines kind number entry = (answer_line number entry.answer entry.text ++ codes "\n") ++ extra_lines kind number entry.extra entry.clip

-- the lines of items of these kinds, numbered from that number on
abbrev pub item_lines : ℕ → List ItemKind → List Entry → List ℕ
item_lines number [] entries = []
item_lines number (kind ∷ kinds) [] = []
item_lines number (kind ∷ kinds) (entry ∷ entries) = entry_lines kind number entry ++ item_lines (number + 1) kinds entries

-- what is said over all parts in a round: of the items, or, where there are group columns, of groups, or, where these are asked for, of
-- first rows
abbrev pub block_by : ℕ → Option FirstRows → ℕ → List ItemKind → List Told → Block
block_by zero None round kinds parts = Totals (entries_over round 0 kinds parts)
block_by zero (Some asked) round kinds parts = Rows (told_by (combined asked (all_listed_in round parts)))
block_by (suc columns) asked round kinds parts = Groups (groups_over (suc columns) kinds (all_groups_in round parts))

-- with each average of totals and of groups narrowed by what stands beside it
abbrev pub block_beside : List (Option Beside) → Block → Block
block_beside besides (Totals entries) = Totals (entries_beside besides entries)
block_beside besides (Groups groups) = Groups (groups_beside besides groups)
block_beside besides (Rows told) = Rows told

abbrev pub block_over : ℕ → Shape → List Told → Block
block_over round shape parts = block_beside shape.besides (block_by shape.columns shape.rows round shape.kinds parts)

-- the lines of the items from that place on, which is counted from 0: a text, or else an answer
abbrev pub answer_lines : ℕ → List (Option TextAnswer) → List Answer → List ℕ
answer_lines place texts [] = []
answer_lines place texts (answer ∷ answers) =
    (answer_line (place + 1) answer (text_at place texts) ++ codes "\n") ++ answer_lines (place + 1) texts answers

-- the line of each group, and those of its items
abbrev pub group_lines : List Group → List ℕ
group_lines [] = []
group_lines (group ∷ groups) = ((group_line group.line ++ codes "\n") ++ answer_lines 0 group.texts group.answers) ++ group_lines groups

abbrev pub row_lines : List RowLine → List ℕ
row_lines [] = []
row_lines (row ∷ rows) = (row_line row ++ codes "\n") ++ row_lines rows

abbrev pub top_lines : Option RowsTop → List ℕ
top_lines None = []
top_lines (Some top) = first_line top ++ codes "\n"

-- how many first rows there are, or that none is judged, and the line of each that is listed
abbrev pub rows_lines : RowsTold → List ℕ
rows_lines told = top_lines told.top ++ row_lines told.rows

abbrev pub block_lines : List ItemKind → Block → List ℕ
block_lines kinds (Totals entries) = item_lines 1 kinds entries
block_lines kinds (Groups groups) = group_lines groups
block_lines kinds (Rows told) = rows_lines told

-- each line of a block can be written
abbrev pub HasBlockTexts : List ItemKind → Block → Type 0
HasBlockTexts kinds (Totals entries) = All HasEntryTexts entries × (length kinds ≡ length entries)
HasBlockTexts kinds (Groups groups) = All IsShown groups
HasBlockTexts kinds (Rows told) = All IsShownRow told.rows

-- the block of a round: it names no column, since each part reads its own
abbrev pub block_text : ℕ → Shape → List Told → List ℕ
block_text round shape parts = (round_words round ++ codes "\n") ++ block_lines shape.kinds (block_over round shape parts)

-- the blocks of so many rounds, from 0
unfoldable pub blocks_text : ℕ → Shape → List Told → List ℕ
blocks_text zero shape parts = []
blocks_text (suc rounds) shape parts = blocks_text rounds shape parts ++ block_text rounds shape parts

-- behind the query it says of how many parts it is
abbrev pub report_text : List ℕ → ℕ → ℕ → Shape → List Told → List ℕ
report_text query count rounds shape parts =
    (query ++ codes "\n") ++ ((parts_line count ++ codes "\n") ++ blocks_text rounds shape parts)

-- all parts tell what they know in each of so many rounds
abbrev pub AreTold : ℕ → List Told → Type 0
AreTold rounds parts = (round : ℕ) → round < rounds → list_all (has_block round) parts ≡ true
