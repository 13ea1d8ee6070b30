-- What a combined report says of the least or the greatest text over a table that is cut into parts, where each part's report is certain
-- of its own rows.
use Rattle.std.specs.Prelude.{◌≡◌, ℕ, ◌+◌, ◌<◌, false, is_some, true, List, length, slice_get, slice_index_or}
use Rattle.std.specs.declared.option.Option.{Option}
use Rattle.std.specs.declared.option.Option.TheVariants.{Some}
use Rattle.query_model.specs.declared.query.ItemKind.{ItemKind}
use Rattle.report_text.specs.declared.answers.Answer.{Answer}
use Rattle.report_text.specs.declared.text_answers.TextAnswer.{TextAnswer}
use Rattle.part_groups.specs.Texts.{extreme_of}
use Rattle.report_parts.specs.Blocks.{entries_of, no_block}
use Rattle.report_parts.specs.Combined.{may_answer}
use Rattle.report_parts.specs.Entries.{entry_at, or_no_answer}
use Rattle.report_parts.specs.Headline.{IsOfTotals, printed_in}
use Rattle.report_parts.specs.Rounds.{entry_in}
use Rattle.report_parts.specs.Told.{Told}
use Rattle.report_parts.specs.declared.entry.Entry.{Entry}
use Rattle.report_parts.specs.declared.shape.Shape.{Shape}
use Rattle.text_extremes.specs.Answers.{bound_told}
use Rattle.text_extremes.specs.Bounds.{Admits, IsNested, Tells, TextBound}
use Rattle.text_extremes.specs.Laws.{OfEach, answer_over}
use Rattle.text_extremes.specs.Texts as texts
use Rattle.text_extremes.specs.declared.extreme.Extreme.{Extreme}

-- a line of an entry: where it tells that a text lies, and the other answer that it tells
pub record TextLine : Type 0 where
  pub text : Entry → Option TextAnswer
  pub other : Entry → Answer

-- the line of the item
abbrev pub own_line : TextLine
own_line = record { text = λ entry. entry.text; other = λ entry. entry.answer }

-- the line behind, of the clipped text
abbrev pub clip_line : TextLine
clip_line = record { text = λ entry. entry.clip; other = λ entry. or_no_answer entry.extra }

-- where an entry says in that line that the text lies: where it tells none it says that there is none
abbrev pub bound_in : TextLine → Entry → Option TextBound
bound_in line entry = bound_told (line.text entry)

-- what a block says of an item
abbrev pub said_at : ℕ → ℕ → Told → Entry
said_at block item told = entry_at item (entries_of (slice_index_or told.blocks block no_block))

-- the report of a part is certain, in these lines, of the least or the greatest of these texts, which the part's rows give to the item:
-- there is a block, each contains the text, and no other answer, and each lies within the one before
pub record IsCertainText (line : TextLine) (item : ℕ) (extreme : Extreme) (told : Told) (given : List (List ℕ)) : Type 0 where
  pub some : 0 < length told.blocks
  pub contains : (block : ℕ) → block < length told.blocks →
      Admits (bound_in line (said_at block item told)) (texts.extreme_of extreme given)
  pub no_other : (block : ℕ) → block < length told.blocks → may_answer (line.other (said_at block item told)) ≡ false
  pub nests : (block : ℕ) → block + 1 < length told.blocks →
      IsNested (bound_in line (said_at block item told)) (bound_in line (said_at (block + 1) item told))

abbrev pub AreCertainTexts : ℕ → Extreme → List Told → List (List (List ℕ)) → Type 0
AreCertainTexts item extreme parts tables = OfEach (IsCertainText own_line item extreme) parts tables

-- each part says its text in the round
abbrev pub AreTextsTold : TextLine → ℕ → ℕ → Extreme → List Told → List (List (List ℕ)) → Type 0
AreTextsTold line round item extreme parts tables =
    OfEach (λ told given. Tells (bound_in line (entry_in round item told)) (texts.extreme_of extreme given)) parts tables

-- what is printed contains the text of the rows of all parts together, and no other answer, the next round's lies within it, and where each
-- part says its text, it is the text
pub record IsTextIn (line : TextLine) (round item : ℕ) (extreme : Extreme) (shape : Shape) (parts : List Told)
    (tables : List (List (List ℕ))) : Type 0 where
  pub entry : Entry
  pub next : Entry
  pub printed : slice_get (printed_in round shape parts) item ≡ Some entry
  pub printed_next : slice_get (printed_in (round + 1) shape parts) item ≡ Some next
  pub contains : Admits (bound_in line entry) (answer_over extreme tables)
  pub no_other : may_answer (line.other entry) ≡ false
  pub nests : IsNested (bound_in line entry) (bound_in line next)
  pub exact : AreTextsTold line round item extreme parts tables → Tells (bound_in line entry) (answer_over extreme tables)

abbrev pub CombinedTextsAreCertain : Type 0
CombinedTextsAreCertain =
    (item : ℕ) (kind : ItemKind) (extreme : Extreme) (shape : Shape) (parts : List Told) (tables : List (List (List ℕ))) (round : ℕ) →
    IsOfTotals shape → slice_get shape.kinds item ≡ Some kind → extreme_of kind ≡ Some extreme →
    AreCertainTexts item extreme parts tables → IsTextIn own_line round item extreme shape parts tables

-- ---- its clipped bound, in the line behind

-- each block has that line, and is certain by it
pub record IsClippedText (item : ℕ) (extreme : Extreme) (told : Told) (given : List (List ℕ)) : Type 0 where
  pub shown : (block : ℕ) → block < length told.blocks → is_some (said_at block item told).extra ≡ true
  pub certain : IsCertainText clip_line item extreme told given

abbrev pub AreClippedTexts : ℕ → Extreme → List Told → List (List (List ℕ)) → Type 0
AreClippedTexts item extreme parts tables = OfEach (IsClippedText item extreme) parts tables

-- the line is printed, and what it says is certain
pub record IsClippedTextIn (round item : ℕ) (extreme : Extreme) (shape : Shape) (parts : List Told) (tables : List (List (List ℕ)))
    : Type 0 where
  pub certain : IsTextIn clip_line round item extreme shape parts tables
  pub shown : is_some certain.entry.extra ≡ true

abbrev pub CombinedTextClipsAreCertain : Type 0
CombinedTextClipsAreCertain =
    (item : ℕ) (kind : ItemKind) (extreme : Extreme) (shape : Shape) (parts : List Told) (tables : List (List (List ℕ))) (round : ℕ) →
    IsOfTotals shape → slice_get shape.kinds item ≡ Some kind → extreme_of kind ≡ Some extreme →
    AreClippedTexts item extreme parts tables → IsClippedTextIn round item extreme shape parts tables
