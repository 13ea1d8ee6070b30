-- What becomes of the lines of an input that are combined: which of them are read, what is written of them, and why it stops.
use Rattle.std.specs.Prelude.{◌≡◌, ◌⊎◌, ℕ, ◌+◌, ◌<◌, ◌≤◌, false, List, [], ◌∷◌, ◌++◌, length, Ok, Err}
use Rattle.std.specs.Io.KnownBytes.{Consumes, IsAtEnd}
use Rattle.std.specs.declared.option.Option.{Option}
use Rattle.std.specs.declared.option.Option.TheVariants.{Some, None}
use Rattle.std.specs.declared.result.Result.{Result}
use Rattle.outer_world.specs.Device.{Rose, SinkState, SourceState}
use Rattle.outer_world.specs.Whole.{Writes}
use Rattle.query_kinds.specs.Beside.{AsksBeside}
use Rattle.query_kinds.specs.Kinds.{Asks, AsksOther, IsNoQuery}
use Rattle.query_kinds.specs.Rows.{AsksNoRows, AsksRows}
use Rattle.query_kinds.specs.declared.rows.FirstRows.{FirstRows}
use Rattle.report_text.specs.declared.lines.ReportEnd.{ReportEnd}
use Rattle.report_parts.specs.Course.{Combines, IsLineFault, IsStopped, Task, Tell, opening_text}
use Rattle.report_parts.specs.Ends.{IsEndFault, first_open}
use Rattle.report_parts.specs.Tags.{AreInOrder, HasTab, IsTag, IsTagged, behind_tag, part_at, tag_of}
use Rattle.report_parts.specs.Told.{Told}
use Rattle.report_parts.specs.declared.combination.Until.{Until}
use Rattle.report_parts.specs.declared.fault.BlockFault.{BlockFault}
use Rattle.report_parts.specs.declared.fault.EndFault.TheVariants as e
use Rattle.report_parts.specs.declared.fault.InputFault.{InputFault}
use Rattle.report_parts.specs.declared.shape.Shape.{Shape}
use Rattle.source_lines.specs.Lines.{IsRest, has_line, line_length, most_bytes, most_line}
use Rattle.report_stream.specs.Faults.{of_block, of_input}
use Rattle.report_stream.specs.declared.fault.LineRefusal.{LineRefusal}
use Rattle.report_stream.specs.declared.fault.LineRefusal.TheVariants as r
use Rattle.report_stream.specs.declared.fault.StreamFault.{StreamFault}
use Rattle.report_stream.specs.declared.fault.StreamFault.TheVariants.{EndsEarly, Line, NoMemory, OtherCount}
use Rattle.report_stream.specs.declared.fault.StreamFault.TheVariants.{ReadFault, TooLong, WriteFault}

-- ---- the lines of an input

-- lines, each with its line feed
abbrev pub lines_text : List (List ℕ) → List ℕ
lines_text [] = []
lines_text (line ∷ lines) = line ++ (10 ∷ lines_text lines)

-- no line feed stands in it, and it has no more bytes than a line may have
pub record IsLine (line : List ℕ) : Type 0 where
  pub plain : has_line line ≡ false
  pub short : length line ≤ most_line

abbrev pub AreLines : List (List ℕ) → Type 0
AreLines [] = Unit {0}
AreLines (line ∷ lines) = IsLine line × AreLines lines

-- these lines were read, and then these bytes, in all no more than may be
pub record ReadsLines (input input' : SourceState) (lines : List (List ℕ)) (rest : List ℕ) : Type 0 where
  pub came : Consumes input.left input'.left (lines_text lines ++ rest)
  pub are_lines : AreLines lines
  pub few : length (lines_text lines ++ rest) ≤ most_bytes

-- ---- what is asked

abbrev pub first_line : List (List ℕ) → List ℕ
first_line [] = []
first_line (line ∷ lines) = line

-- a query of totals or groups, whose blocks have this shape
pub record IsOfItems (query : List ℕ) (shape : Shape) : Type 0 where
  pub asks : Asks query shape.kinds shape.columns
  pub besides : AsksBeside query shape.besides
  pub no_rows : shape.rows ≡ None

-- a block of first rows has no item and no group column
abbrev pub shape_of_rows : FirstRows → Shape
shape_of_rows asked = record { kinds = []; columns = 0; besides = []; rows = Some asked }

-- a query of first rows
pub record IsOfRows (query : List ℕ) (shape : Shape) : Type 0 where
  pub asked : FirstRows
  pub asks : AsksRows query asked
  pub is : shape ≡ shape_of_rows asked

abbrev pub IsShapeOf : List ℕ → Shape → Type 0
IsShapeOf query shape = IsOfItems query shape ⊎ IsOfRows query shape

-- a query of neither: of columns without groups, of groups without an aggregate, or of a number of rows with decimals
abbrev pub AsksNothing : List ℕ → Type 0
AsksNothing query = AsksOther query × AsksNoRows query

-- the first line has the query that all parts are to answer, and tells the shape of its blocks; there are to be so many parts, up to that
-- round
pub record IsTask (wanted : ℕ) (until : Until) (first : List ℕ) (task : Task) : Type 0 where
  pub is_tag : IsTag (tag_of first)
  pub query : task.query ≡ behind_tag first
  pub is_shape : IsShapeOf task.query task.shape
  pub count : task.count ≡ wanted
  pub near : task.near ≡ until.near
  pub last : task.last ≡ until.rounds

-- ---- what is written

-- a text is written to its end, or a write fails and a part of it is written
abbrev pub Extent : Type 0
Extent = Result (Unit {0}) (Unit {0})

abbrev pub whole : Extent
whole = Ok tt

abbrev pub partly : Extent
partly = Err tt

-- the opening, and blocks behind it
abbrev pub combined_text : Task → List ℕ → List ℕ
combined_text task body = opening_text task.query task.count ++ body

-- the whole blocks that these lines tell were written behind the opening, and the report goes on
pub record GoesOn (count : ℕ) (until : Until) (out out' : SinkState) (lines : List (List ℕ)) : Type 0 where
  pub task : Task
  pub body : List ℕ
  pub is_task : IsTask count until (first_line lines) task
  pub combines : Combines task lines body None
  pub written : Writes whole out out' (combined_text task body)

-- so it is, or no line was taken and nothing was written
abbrev pub HasWritten : ℕ → Until → SinkState → SinkState → List (List ℕ) → Type 0
HasWritten count until out out' lines = ((lines ≡ []) × (out' ≡ out)) ⊎ GoesOn count until out out' lines

-- ---- where it is done

-- the last of these lines ends the report, which is written; behind it nothing is read but what came with it
pub record Combined (count : ℕ) (until : Until) (input input' : SourceState) (out out' : SinkState) : Type 0 where
  pub lines : List (List ℕ)
  pub last : List ℕ
  pub rest : List ℕ
  pub task : Task
  pub body : List ℕ
  pub end : ReportEnd
  pub read : ReadsLines input input' (lines ++ last ∷ []) rest
  pub is_task : IsTask count until (first_line (lines ++ last ∷ [])) task
  pub combines : Combines task (lines ++ last ∷ []) body (Some end)
  pub earlier : (before : List ℕ) × Combines task lines before None
  pub written : Writes whole out out' (combined_text task body)

-- ---- why a line is refused

-- why the first is refused by itself
abbrev pub IsFirstRefused : LineRefusal → List ℕ → Type 0
IsFirstRefused r.NoTab first = ¬ HasTab first
IsFirstRefused r.NoTag first = HasTab first × ¬ IsTag (tag_of first)
IsFirstRefused r.NoQuery first = IsTagged first × IsNoQuery (behind_tag first)
IsFirstRefused r.NoItems first = IsTagged first × AsksNothing (behind_tag first)
IsFirstRefused other first = ⊥

-- the first line is refused, and nothing is written
pub record RefusesFirst (input input' : SourceState) (out out' : SinkState) (number : ℕ) (why : LineRefusal) : Type 0 where
  pub first : List ℕ
  pub rest : List ℕ
  pub read : ReadsLines input input' (first ∷ []) rest
  pub counted : number ≡ 1
  pub refused : IsFirstRefused why first
  pub unwritten : out' ≡ out

-- the parts do not take a line behind these
pub record RefusesLine (count : ℕ) (until : Until) (input input' : SourceState) (out out' : SinkState) (number : ℕ) (why : LineRefusal)
    : Type 0 where
  pub lines : List (List ℕ)
  pub line : List ℕ
  pub rest : List ℕ
  pub task : Task
  pub fault : InputFault
  pub read : ReadsLines input input' (lines ++ line ∷ []) rest
  pub counted : number ≡ length lines + 1
  pub is_task : IsTask count until (first_line (lines ++ line ∷ [])) task
  pub is : Line number why ≡ of_input number fault
  pub refused : IsLineFault task lines line fault
  pub written : HasWritten count until out out' lines

-- a block that a line behind these completes is not written; those before it are
pub record RefusesBlock (count : ℕ) (until : Until) (input input' : SourceState) (out out' : SinkState) (number : ℕ) (why : LineRefusal)
    : Type 0 where
  pub lines : List (List ℕ)
  pub line : List ℕ
  pub rest : List ℕ
  pub task : Task
  pub fault : BlockFault
  pub body : List ℕ
  pub more : List ℕ
  pub read : ReadsLines input input' (lines ++ line ∷ []) rest
  pub counted : number ≡ length lines + 1
  pub is_task : IsTask count until (first_line (lines ++ line ∷ [])) task
  pub is : Line number why ≡ of_block number fault
  pub earlier : Combines task lines body None
  pub stopped : IsStopped task (lines ++ line ∷ []) body [] more fault
  pub written : Writes whole out out' (combined_text task (body ++ more))

-- more bytes than a line may have stand behind these lines before a line feed
pub record RefusesLength (count : ℕ) (until : Until) (input input' : SourceState) (out out' : SinkState) (number : ℕ) (why : LineRefusal)
    : Type 0 where
  pub lines : List (List ℕ)
  pub rest : List ℕ
  pub read : ReadsLines input input' lines rest
  pub counted : number ≡ length lines + 1
  pub is : why ≡ r.TooLong
  pub long : most_line < line_length rest
  pub written : HasWritten count until out out' lines

-- ---- why the input may not end

-- it ends behind these lines; a rest without its line feed is no line
pub record Ends (count : ℕ) (until : Until) (input input' : SourceState) (out out' : SinkState) (lines : List (List ℕ)) : Type 0 where
  pub rest : List ℕ
  pub read : ReadsLines input input' lines rest
  pub ended : IsAtEnd input'.left
  pub is_rest : IsRest rest
  pub written : HasWritten count until out out' lines

-- what the parts have told there, in the order of their tags
pub record EndsWith (count : ℕ) (until : Until) (input input' : SourceState) (out out' : SinkState) (parts : List Told) : Type 0 where
  pub lines : List (List ℕ)
  pub task : Task
  pub ends : Ends count until input input' out out' lines
  pub is_task : IsTask count until (first_line lines) task
  pub told : Tell task [] lines parts
  pub in_order : AreInOrder parts

-- the first part whose report has not ended has this tag
pub record PartEndsEarly (count : ℕ) (until : Until) (input input' : SourceState) (out out' : SinkState) (tag : List ℕ) : Type 0 where
  pub parts : List Told
  pub place : ℕ
  pub ends : EndsWith count until input input' out out' parts
  pub is_open : first_open parts ≡ Some place
  pub tagged : tag ≡ (part_at place parts).tag

-- all reports have ended, but there are not as many as are to be
pub record HasOtherCount (count : ℕ) (until : Until) (input input' : SourceState) (out out' : SinkState) (number : ℕ) : Type 0 where
  pub parts : List Told
  pub ends : EndsWith count until input input' out out' parts
  pub other : IsEndFault (e.OtherCount number) count parts

-- ---- why else it stops

-- behind these lines one byte more came than may come, and no line before it, nor more bytes than a line may have
pub record IsFull (count : ℕ) (until : Until) (input input' : SourceState) (out out' : SinkState) : Type 0 where
  pub lines : List (List ℕ)
  pub rest : List ℕ
  pub last : ℕ
  pub came : Consumes input.left input'.left (lines_text lines ++ (rest ++ last ∷ []))
  pub are_lines : AreLines lines
  pub full : length (lines_text lines ++ rest) ≡ most_bytes
  pub is_rest : IsRest rest
  pub written : HasWritten count until out out' lines

-- the input failed before a line more came
pub record IsBroken (count : ℕ) (until : Until) (input input' : SourceState) (out out' : SinkState) : Type 0 where
  pub lines : List (List ℕ)
  pub rest : List ℕ
  pub read : ReadsLines input input' lines rest
  pub is_rest : IsRest rest
  pub rose : Rose input.faults input'.faults
  pub written : HasWritten count until out out' lines

-- the whole blocks behind a line more: all that stand, or those before one that is not written
abbrev pub TellsBody : Task → List (List ℕ) → List ℕ → List ℕ → Type 0
TellsBody task lines line body =
    ((end : Option ReportEnd) × Combines task (lines ++ line ∷ []) body end)
    ⊎ ((before : List ℕ) × (more : List ℕ) × (fault : BlockFault) × (body ≡ before ++ more)
    × IsStopped task (lines ++ line ∷ []) before [] more fault)

-- a write failed: a part of the opening and the whole blocks that a line more tells was written
pub record IsCutOff (count : ℕ) (until : Until) (input input' : SourceState) (out out' : SinkState) : Type 0 where
  pub lines : List (List ℕ)
  pub line : List ℕ
  pub rest : List ℕ
  pub task : Task
  pub body : List ℕ
  pub read : ReadsLines input input' (lines ++ line ∷ []) rest
  pub is_task : IsTask count until (first_line (lines ++ line ∷ [])) task
  pub told : TellsBody task lines line body
  pub written : Writes partly out out' (combined_text task body)

-- memory ran out behind these lines
pub record IsStarved (count : ℕ) (until : Until) (input input' : SourceState) (out out' : SinkState) : Type 0 where
  pub lines : List (List ℕ)
  pub rest : List ℕ
  pub read : ReadsLines input input' lines rest
  pub written : HasWritten count until out out' lines

abbrev pub StreamCause : ℕ → Until → SourceState → SourceState → SinkState → SinkState → StreamFault → Type 0
StreamCause count until input input' out out' (Line number why) =
    RefusesFirst input input' out out' number why ⊎ RefusesLine count until input input' out out' number why
    ⊎ RefusesBlock count until input input' out out' number why ⊎ RefusesLength count until input input' out out' number why
StreamCause count until input input' out out' (EndsEarly tag) = PartEndsEarly count until input input' out out' tag
StreamCause count until input input' out out' (OtherCount number) =
    ((number ≡ 0) × Ends count until input input' out out' []) ⊎ HasOtherCount count until input input' out out' number
StreamCause count until input input' out out' TooLong = IsFull count until input input' out out'
StreamCause count until input input' out out' ReadFault = IsBroken count until input input' out out'
StreamCause count until input input' out out' WriteFault = IsCutOff count until input input' out out'
StreamCause count until input input' out out' NoMemory = IsStarved count until input input' out out'
