-- What the lines of a part's report have told so far, and which line comes next.
use Rattle.std.specs.Prelude.{◌≡◌, ◌⊎◌, ℕ, zero, suc, ◌+◌, ◌-◌, ◌<◌, ◌^◌, ◌==◌, Bool, true, false, ◌&&◌, List, [], ◌∷◌, ◌++◌}
use Rattle.std.specs.Prelude.{length, set, slice_get, if◌then◌else◌, IsTrue}
use Rattle.std.specs.declared.option.Option.{Option}
use Rattle.std.specs.declared.option.Option.TheVariants.{Some, None}
use Rattle.query_model.specs.declared.query.ItemKind.{ItemKind}
use Rattle.query_model.specs.declared.query.ItemKind.TheVariants.{Count, Sum, Min, Max, Avg}
use Rattle.report_text.specs.Answers.{IsAnswerOf}
use Rattle.report_text.specs.Extras.{IsExtraOf, IsRowsLine, extra_line}
use Rattle.report_text.specs.Groups.{IsShownGroup, group_line}
use Rattle.report_text.specs.Lines.{IsRoundLine, end_line, item_line, parts_line}
use Rattle.report_text.specs.RowBlocks.{IsWhole, LacksPossible, RowsTold, TakesRows, no_rows}
use Rattle.report_text.specs.TextAnswers.{IsTextAnswer, text_item_line}
use Rattle.report_text.specs.declared.answers.Answer.{Answer}
use Rattle.report_text.specs.declared.groups.GroupLine.{GroupLine}
use Rattle.report_text.specs.declared.lines.ReportEnd.{ReportEnd}
use Rattle.report_text.specs.declared.text_answers.TextAnswer.{TextAnswer}
use Rattle.part_groups.specs.Whole.{has_key}
use Rattle.part_groups.specs.declared.group.Group.{Group as GroupTold}
use Rattle.query_kinds.specs.declared.rows.FirstRows.{FirstRows}
use Rattle.report_parts.specs.Entries.{answers_of, ends_with_extra, last_entry, no_answer}
use Rattle.report_parts.specs.Texts.{group_texts, is_extreme, text_clip_line}
use Rattle.report_parts.specs.declared.block.Block.{Block}
use Rattle.report_parts.specs.declared.block.Block.TheVariants.{Groups, Rows, Totals}
use Rattle.report_parts.specs.declared.entry.Entry.{Entry}
use Rattle.report_parts.specs.declared.closing.Closing.{Closing}
use Rattle.report_parts.specs.declared.closing.Closing.TheVariants.{Unknown, Item, Extra}
use Rattle.report_parts.specs.declared.part.Place.{Place}
use Rattle.report_parts.specs.declared.part.Place.TheVariants.{Query, Opened, Round, Group, Items, Row, Ended}
use Rattle.report_parts.specs.declared.shape.Shape.{Shape}

-- the tag of the part; the whole blocks; the line with which entries end; of the block that is not whole yet the whole sections, the group
-- of the section that is not, and its entries, of totals the entries alone, and of first rows the rows; and what comes next
pub record Told : Type 0 where
  pub tag : List ℕ
  pub blocks : List Block
  pub closing : Closing
  pub sections : List GroupTold
  pub group : Option GroupLine
  pub current : List Entry
  pub rows : RowsTold
  pub place : Place

-- before the first line
abbrev pub nothing_told : List ℕ → Told
nothing_told tag =
    record { tag = tag; blocks = []; closing = Unknown; sections = []; group = None; current = []; rows = no_rows; place = Query }

abbrev pub at_place : Told → Place → Told
at_place told place = record {
  tag = told.tag;
  blocks = told.blocks;
  closing = told.closing;
  sections = told.sections;
  group = told.group;
  current = told.current;
  rows = told.rows;
  place = place;
}

-- ---- which line is the last of the entries of a block, or of a section

abbrev pub last_kind : List ItemKind → Option ItemKind
last_kind kinds = slice_get kinds (length kinds - 1)

abbrev pub is_count : Option ItemKind → Bool
is_count None = false
is_count (Some Count) = true
is_count (Some Sum) = false
is_count (Some Min) = false
is_count (Some Max) = false
is_count (Some Avg) = false

-- behind a number of rows stands no line; behind another last item one stands where it does in the first block
abbrev pub is_closed : Closing → Option ItemKind → List Entry → Bool
is_closed Unknown last block = is_count last
is_closed Item last block = true
is_closed Extra last block = ends_with_extra block

-- an entry for each item, and the line behind the last
abbrev pub is_whole : List ItemKind → Closing → List Entry → Bool
is_whole kinds closing block = (length block == length kinds) && is_closed closing (last_kind kinds) block

abbrev pub closing_of : List Entry → Closing
closing_of block = if ends_with_extra block then Extra else Item

-- the block of totals is whole, or the section of the group
abbrev pub closed_by : Option GroupLine → Told → Told
closed_by None told = record {
  tag = told.tag;
  blocks = told.blocks ++ Totals told.current ∷ [];
  closing = closing_of told.current;
  sections = told.sections;
  group = None;
  current = [];
  rows = told.rows;
  place = Round;
}
closed_by (Some group) told = record {
  tag = told.tag;
  blocks = told.blocks;
  closing = closing_of told.current;
  sections = told.sections ++ record { line = group; answers = answers_of told.current; texts = group_texts told.current } ∷ [];
  group = None;
  current = [];
  rows = told.rows;
  place = Group;
}

abbrev pub closed : Told → Told
closed told = closed_by told.group told

-- the block of these sections is whole
abbrev pub block_done : Told → Told
block_done told = record {
  tag = told.tag;
  blocks = told.blocks ++ Groups told.sections ∷ [];
  closing = told.closing;
  sections = [];
  group = told.group;
  current = told.current;
  rows = told.rows;
  place = Round;
}

-- the block is whole, with what was begun of it
abbrev pub completed_by : Option GroupLine → Told → Told
completed_by None told = closed_by None told
completed_by (Some group) told = block_done (closed_by (Some group) told)

abbrev pub completed : Told → Told
completed told = completed_by told.group told

-- what was begun goes on, if it is not whole
abbrev pub settled : List ItemKind → Told → Told
settled kinds told = if is_whole kinds told.closing told.current then closed told else at_place told Items

abbrev pub with_current : Told → List Entry → Told
with_current told current = record {
  tag = told.tag;
  blocks = told.blocks;
  closing = told.closing;
  sections = told.sections;
  group = told.group;
  current = current;
  rows = told.rows;
  place = told.place;
}

-- with one entry more
abbrev pub with_entry : List ItemKind → Told → Entry → Told
with_entry kinds told entry = settled kinds (with_current told (told.current ++ entry ∷ []))

-- an answer, or where a text lies, before a line stands behind it
abbrev pub entry_of : Answer → Entry
entry_of answer = record { answer = answer; extra = None; text = None; clip = None }

abbrev pub text_entry : TextAnswer → Entry
text_entry text = record { answer = no_answer; extra = None; text = Some text; clip = None }

-- with what the line behind tells
abbrev pub extended : Entry → Answer → Option TextAnswer → Entry
extended entry extra clip = record { answer = entry.answer; extra = Some extra; text = entry.text; clip = clip }

-- with the line behind the last answer
abbrev pub with_extra : List ItemKind → Told → Answer → Option TextAnswer → Told
with_extra kinds told extra clip = settled kinds (with_current told
    (set told.current (length told.current - 1) (extended (last_entry told.current) extra clip)))

-- with these rows of the block that is not whole
abbrev pub with_rows : Told → RowsTold → Told
with_rows told rows = record {
  tag = told.tag;
  blocks = told.blocks;
  closing = told.closing;
  sections = told.sections;
  group = told.group;
  current = told.current;
  rows = rows;
  place = told.place;
}

-- the block of these rows is whole
abbrev pub rows_done : Told → Told
rows_done told = record {
  tag = told.tag;
  blocks = told.blocks ++ Rows told.rows ∷ [];
  closing = told.closing;
  sections = told.sections;
  group = told.group;
  current = told.current;
  rows = no_rows;
  place = Round;
}

-- ---- the line that comes next, and what is told with it

-- the line of the query
pub record Opens (query : List ℕ) (told : Told) (line : List ℕ) (next : Told) : Type 0 where
  pub is_query : query ≡ line
  pub opened : next ≡ at_place told Opened

-- how many parts a combined report is of
pub record TellsParts (told : Told) (line : List ℕ) (next : Told) : Type 0 where
  pub parts : ℕ
  pub few : parts < 2 ^ 64
  pub is_line : parts_line parts ≡ line
  pub passed : next ≡ at_place told Round

-- behind the line of a round comes the first item, or, where there are group columns, the first group, or, where first rows are asked for,
-- how many there are
abbrev pub opened_with : Option FirstRows → ℕ → Place
opened_with (Some asked) columns = Row
opened_with None zero = Items
opened_with None (suc columns) = Group

abbrev pub opened_by : Shape → Place
opened_by shape = opened_with shape.rows shape.columns

-- the next round
pub record BeginsRound (shape : Shape) (told : Told) (line : List ℕ) (next : Told) : Type 0 where
  pub is_round : IsRoundLine (length told.blocks) line
  pub begun : next ≡ at_place told (opened_by shape)

abbrev pub with_group : Told → GroupLine → Told
with_group told group = record {
  tag = told.tag;
  blocks = told.blocks;
  closing = told.closing;
  sections = told.sections;
  group = Some group;
  current = told.current;
  rows = told.rows;
  place = Items;
}

-- the next group, with a key for each group column
pub record BeginsGroup (columns : ℕ) (told : Told) (line : List ℕ) (next : Told) : Type 0 where
  pub group : GroupLine
  pub shown : IsShownGroup group
  pub key : IsTrue (has_key group.keys)
  pub each : length group.keys ≡ columns
  pub is_line : group_line group ≡ line
  pub begun : next ≡ with_group told group

-- the answer of the next item
pub record IsNextAnswer (kinds : List ItemKind) (told : Told) (line : List ℕ) (kind : ItemKind) (answer : Answer) : Type 0 where
  pub there : slice_get kinds (length told.current) ≡ Some kind
  pub of_kind : IsAnswerOf kind answer
  pub is_line : item_line (length told.current + 1) answer ≡ line

pub record Answers (kinds : List ItemKind) (told : Told) (line : List ℕ) (next : Told) : Type 0 where
  pub kind : ItemKind
  pub answer : Answer
  pub is_next : IsNextAnswer kinds told line kind answer
  pub told_so : next ≡ with_entry kinds told (entry_of answer)

-- where the text of the next item lies, of the least or the greatest
pub record IsNextText (kinds : List ItemKind) (told : Told) (line : List ℕ) (text : TextAnswer) : Type 0 where
  pub extreme : is_extreme (slice_get kinds (length told.current)) ≡ true
  pub shown : IsTextAnswer text
  pub is_line : text_item_line (length told.current + 1) text ≡ line

pub record TellsText (kinds : List ItemKind) (told : Told) (line : List ℕ) (next : Told) : Type 0 where
  pub text : TextAnswer
  pub is_next : IsNextText kinds told line text
  pub told_so : next ≡ with_entry kinds told (text_entry text)

-- in the line behind, what is told in another way of the item that was answered last
pub record IsNextExtra (kinds : List ItemKind) (told : Told) (line : List ℕ) (kind : ItemKind) (extra : Answer) : Type 0 where
  pub some : 0 < length told.current
  pub first : ends_with_extra told.current ≡ false
  pub there : slice_get kinds (length told.current - 1) ≡ Some kind
  pub of_kind : IsExtraOf kind extra
  pub is_line : extra_line kind (length told.current) extra ≡ line

pub record Extends (kinds : List ItemKind) (told : Told) (line : List ℕ) (next : Told) : Type 0 where
  pub kind : ItemKind
  pub extra : Answer
  pub is_next : IsNextExtra kinds told line kind extra
  pub told_so : next ≡ with_extra kinds told extra None

-- in the line behind, where the clipped text lies: of totals alone, and of the least or the greatest
pub record IsNextClip (kinds : List ItemKind) (told : Told) (line : List ℕ) (clip : TextAnswer) : Type 0 where
  pub some : 0 < length told.current
  pub first : ends_with_extra told.current ≡ false
  pub totals : told.group ≡ None
  pub extreme : is_extreme (slice_get kinds (length told.current - 1)) ≡ true
  pub shown : IsTextAnswer clip
  pub is_line : text_clip_line (length told.current) clip ≡ line

pub record ClipsText (kinds : List ItemKind) (told : Told) (line : List ℕ) (next : Told) : Type 0 where
  pub clip : TextAnswer
  pub is_next : IsNextClip kinds told line clip
  pub told_so : next ≡ with_extra kinds told no_answer (Some clip)

-- behind the exact average that was told last, a line of the rows that it takes, which is passed over
pub record PassesInside (kinds : List ItemKind) (told : Told) (line : List ℕ) (next : Told) : Type 0 where
  pub average : slice_get kinds (length told.current - 1) ≡ Some Avg
  pub exact : ends_with_extra told.current ≡ true
  pub is_line : IsRowsLine (length told.current) line
  pub same : next ≡ told

-- so it is behind entries that end with an exact average
pub record PassesBehind (kinds : List ItemKind) (told : Told) (line : List ℕ) (next : Told) : Type 0 where
  pub average : last_kind kinds ≡ Some Avg
  pub exact : told.closing ≡ Extra
  pub is_line : IsRowsLine (length kinds) line
  pub same : next ≡ told

-- and behind those of a section
pub record PassesBehindSection (kinds : List ItemKind) (told : Told) (line : List ℕ) (next : Told) : Type 0 where
  pub some : 0 < length told.sections
  pub passes : PassesBehind kinds told line next

-- the end, behind a block at least
pub record Ends (told : Told) (line : List ℕ) (next : Told) : Type 0 where
  pub end : ReportEnd
  pub some : 0 < length told.blocks
  pub is_line : end_line end ≡ line
  pub ended : next ≡ at_place told (Ended end)

abbrev pub IsOpened : Shape → Told → List ℕ → Told → Type 0
IsOpened shape told line next = TellsParts told line next ⊎ BeginsRound shape told line next

abbrev pub GoesOn : Shape → Told → List ℕ → Told → Type 0
GoesOn shape told line next = BeginsRound shape told line next ⊎ Ends told line next

-- another group of the block, or what comes behind the block once it is whole
abbrev pub GroupsGoOn : Shape → Told → Told → List ℕ → Told → Type 0
GroupsGoOn shape told whole line next = BeginsGroup shape.columns told line next ⊎ GoesOn shape whole line next

-- the first block, or the first section, ends with the line before this one
pub record Closes (shape : Shape) (told : Told) (line : List ℕ) (next : Told) : Type 0 where
  pub first : told.closing ≡ Unknown
  pub all : length told.current ≡ length shape.kinds
  pub goes_on : GroupsGoOn shape (closed told) (completed told) line next

-- the block of these rows is whole, or goes on
abbrev pub RowsGoOn : Told → Told → Type 0
RowsGoOn told next = (IsWhole told.rows × (next ≡ rows_done told)) ⊎ ((¬ IsWhole told.rows) × (next ≡ told))

-- how many first rows there are, or the next of them
pub record ListsRow (shape : Shape) (told : Told) (line : List ℕ) (next : Told) : Type 0 where
  pub asked : FirstRows
  pub is_asked : shape.rows ≡ Some asked
  pub rows : RowsTold
  pub taken : TakesRows asked.limit told.rows line rows
  pub goes_on : RowsGoOn (with_rows told rows) next

-- the one, or else the other
abbrev pub OrElse : (Told → Type 0) → (Told → Type 0) → Told → Type 0
OrElse First Second next = First next ⊎ (((other : Told) → First other → ⊥) × Second next)

abbrev pub TakesBehind : Shape → Told → List ℕ → Told → Type 0
TakesBehind shape told line = OrElse (GoesOn shape told line) (PassesBehind shape.kinds told line)

abbrev pub TakesBetween : Shape → Told → List ℕ → Told → Type 0
TakesBetween shape told line =
    OrElse (GroupsGoOn shape told (block_done told) line) (PassesBehindSection shape.kinds told line)

abbrev pub TakesRest : Shape → Told → List ℕ → Told → Type 0
TakesRest shape told line = OrElse (PassesInside shape.kinds told line) (Closes shape told line)

-- what is told of the next item
abbrev pub TakesItem : List ItemKind → Told → List ℕ → Told → Type 0
TakesItem kinds told line = OrElse (Answers kinds told line) (TellsText kinds told line)

-- what is told of the last one in another way
abbrev pub TakesExtra : List ItemKind → Told → List ℕ → Told → Type 0
TakesExtra kinds told line = OrElse (Extends kinds told line) (ClipsText kinds told line)

abbrev pub TakesBehindAnswer : Shape → Told → List ℕ → Told → Type 0
TakesBehindAnswer shape told line = OrElse (TakesExtra shape.kinds told line) (TakesRest shape told line)

abbrev pub TakesInside : Shape → Told → List ℕ → Told → Type 0
TakesInside shape told line = OrElse (TakesItem shape.kinds told line) (TakesBehindAnswer shape told line)

abbrev pub TakesAt : Place → List ℕ → Shape → Told → List ℕ → Told → Type 0
TakesAt Query query shape told line next = Opens query told line next
TakesAt Opened query shape told line next = IsOpened shape told line next
TakesAt Round query shape told line next = TakesBehind shape told line next
TakesAt Group query shape told line next = TakesBetween shape told line next
TakesAt Items query shape told line next = TakesInside shape told line next
TakesAt Row query shape told line next = ListsRow shape told line next
TakesAt (Ended end) query shape told line next = ⊥

-- a report of that query, with blocks of this shape, may go on with this line
abbrev pub Takes : List ℕ → Shape → Told → List ℕ → Told → Type 0
Takes query shape told line next = TakesAt told.place query shape told line next

-- the block has all certain rows, and lists none of the possible ones, of which there are some
abbrev pub IsUnlisted : Told → Type 0
IsUnlisted told = (told.place ≡ Row) × LacksPossible told.rows

-- no report goes on so, and nothing changes
abbrev pub Refuses : (Told → Type 0) → Told → Told → Type 0
Refuses GoesTo old new = (new ≡ old) × ((next : Told) → GoesTo next → ⊥)
