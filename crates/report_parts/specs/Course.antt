-- The course of a combination: which lines were taken, and what is written of them.
use Rattle.std.specs.Prelude.{◌≡◌, ◌≢◌, ℕ, zero, suc, ◌+◌, ◌<◌, ◌≤◌, ◌==◌, Bool, true, false, not, ◌&&◌, ◌||◌}
use Rattle.std.specs.Prelude.{List, [], ◌∷◌, ◌++◌, codes, length}
use Rattle.std.specs.declared.option.Option.{Option}
use Rattle.std.specs.declared.option.Option.TheVariants.{Some, None}
use Rattle.std.specs.List.{list_all}
use Rattle.report_text.specs.Lines.{parts_line}
use Rattle.report_text.specs.declared.lines.ReportEnd.{ReportEnd}
use Rattle.report_text.specs.declared.row_blocks.RowsTop.{RowsTop}
use Rattle.report_text.specs.declared.row_blocks.RowsTop.TheVariants.{Counts, Skipped}
use Rattle.report_parts.specs.Faults.{CanSay, IsBlockFault}
use Rattle.plane_schedule.specs.declared.policy.Nearness.{Nearness}
use Rattle.report_parts.specs.Narrowness.{has_near_key, is_narrow_entry, is_narrow_group}
use Rattle.report_parts.specs.Passed.{AllTellFrom}
use Rattle.report_parts.specs.Reports.{blocks_text}
use Rattle.report_parts.specs.Rounds.{has_block, is_over}
use Rattle.report_parts.specs.Tags.{IsRefused, TakesTagged, tag_of}
use Rattle.report_parts.specs.Told.{Told}
use Rattle.report_parts.specs.Written.{Wanted, Writes, is_narrow_at}
use Rattle.report_parts.specs.declared.block.Block.{Block as BlockTold}
use Rattle.report_parts.specs.declared.block.Block.TheVariants.{Groups, Rows, Totals}
use Rattle.report_parts.specs.declared.fault.BlockFault.{BlockFault}
use Rattle.report_parts.specs.declared.fault.BlockFault.TheVariants.{NoMemory, OtherColumn, OtherItem, OtherForm, TooWide, UnclearTag}
use Rattle.report_parts.specs.declared.fault.CourseFault.{CourseFault}
use Rattle.report_parts.specs.declared.fault.CourseFault.TheVariants.{Block, Input}
use Rattle.report_parts.specs.declared.fault.InputFault.{InputFault}
use Rattle.report_parts.specs.declared.shape.Shape.{Shape}

-- what is asked: the query and the shape of its blocks, how many parts there are, when a block is narrow, and the number of the last round,
-- if it is limited
pub record Task : Type 0 where
  pub query : List ℕ
  pub shape : Shape
  pub count : ℕ
  pub near : Nearness
  pub last : Option ℕ

abbrev pub is_last : Option ℕ → ℕ → Bool
is_last None round = false
is_last (Some last) round = last == round

-- it is told that no row is possible: where none is judged it is not
abbrev pub none_possible : Option RowsTop → Bool
none_possible None = false
none_possible (Some (Counts top)) = top.possible == 0
none_possible (Some (Skipped limit)) = false

-- a block is narrow where each answer is, whatever the lines behind tell, each group is in the result for certain, no row is possible, and,
-- where keys are answers too, the key of each row is near
abbrev pub is_narrow_block : Nearness → BlockTold → Bool
is_narrow_block near (Totals entries) = list_all (is_narrow_entry near.width) entries
is_narrow_block near (Groups groups) = list_all (is_narrow_group near.width) groups
is_narrow_block near (Rows told) = none_possible told.top && (not near.keys || list_all (has_near_key near.width) told.rows)

abbrev pub wanted_of : Task → Wanted
wanted_of task = record {
  shape = task.shape;
  narrow = is_narrow_block task.near;
  last = is_last task.last;
}

-- the query and the number of parts, before the blocks
abbrev pub opening_text : List ℕ → ℕ → List ℕ
opening_text query count = (query ++ codes "\n") ++ (parts_line count ++ codes "\n")

-- ---- the lines, one after another

-- the parts take a line, and there are not more of them than are asked for
pub record TakesLine (task : Task) (parts : List Told) (line : List ℕ) (next : List Told) : Type 0 where
  pub taken : TakesTagged task.query task.shape parts line next
  pub few : length next ≤ task.count

-- what the parts have told behind these lines
abbrev pub Tell : Task → List Told → List (List ℕ) → List Told → Type 0
Tell task parts [] last = last ≡ parts
Tell task parts (line ∷ lines) last = (next : List Told) × TakesLine task parts line next × Tell task next lines last

-- ---- the text

-- the blocks as far as the parts tell them, once a line of each part has come
pub record IsText (task : Task) (parts : List Told) (text : List ℕ) (end : Option ReportEnd) : Type 0 where
  pub early : length parts < task.count → (text ≡ []) × (end ≡ None)
  pub whole : length parts ≡ task.count → Writes (wanted_of task) parts 0 text end

-- the combined report of these lines, behind its opening, and how it ends, if it does
pub record Combines (task : Task) (lines : List (List ℕ)) (text : List ℕ) (end : Option ReportEnd) : Type 0 where
  pub parts : List Told
  pub told : Tell task [] lines parts
  pub is_text : IsText task parts text end

-- ---- where it stands

-- what is kept: what the parts tell from the next round on, the number of that round, and how the report has ended, if it has
pub record Course : Type 0 where
  pub task : Task
  pub parts : List Told
  pub round : ℕ
  pub end : Option ReportEnd

-- so many blocks were written, each of which can be, and the report goes on behind each
pub record Passes (wanted : Wanted) (parts : List Told) (round : ℕ) (text : List ℕ) : Type 0 where
  pub has : (r : ℕ) → r < round → list_all (has_block r) parts ≡ true
  pub said : (r : ℕ) → r < round → CanSay r wanted.shape parts
  pub wide : (r : ℕ) → r < round → is_narrow_at wanted r parts ≡ false
  pub more : (r : ℕ) → r < round → wanted.last r ≡ false
  pub goes : (r : ℕ) → r + 1 < round → list_all (is_over r) parts ≡ false
  pub is_text : text ≡ blocks_text round wanted.shape parts

-- no part goes on behind the last block that was written
abbrev pub is_over_before : ℕ → List Told → Bool
is_over_before zero parts = false
is_over_before (suc round) parts = list_all (is_over round) parts

-- no line more is written yet
pub record IsAtRest (round : ℕ) (parts : List Told) : Type 0 where
  pub waits : list_all (has_block round) parts ≡ false
  pub goes : is_over_before round parts ≡ false

-- of these parts as much was written as the course says
pub record IsAhead (course : Course) (parts : List Told) (text : List ℕ) : Type 0 where
  pub kept : AllTellFrom course.round parts course.parts
  pub passed : Passes (wanted_of course.task) parts course.round text

-- the report goes on
pub record IsOpen (course : Course) (parts : List Told) (text : List ℕ) : Type 0 where
  pub ahead : IsAhead course parts text
  pub early : length parts < course.task.count → course.round ≡ 0
  pub rests : length parts ≡ course.task.count → IsAtRest course.round parts

abbrev pub Holds : Option ReportEnd → Course → List Told → List ℕ → Type 0
Holds None course parts text = IsOpen course parts text
Holds (Some end) course parts text = Writes (wanted_of course.task) parts 0 text (Some end) × (length parts ≡ course.task.count)

-- behind these lines this text is written
pub record Stands (course : Course) (lines : List (List ℕ)) (text : List ℕ) : Type 0 where
  pub parts : List Told
  pub told : Tell course.task [] lines parts
  pub holds : Holds course.end course parts text

-- where a report stands, it is the combined report of its lines
abbrev pub StandsIsCombined : Type 0
StandsIsCombined =
    (course : Course) (lines : List (List ℕ)) (text : List ℕ) → Stands course lines text → Combines course.task lines text course.end

-- ---- between a line and what is written then

abbrev pub IsWritten : Option ReportEnd → Course → List Told → List ℕ → Type 0
IsWritten None course parts text = IsAhead course parts text × (is_over_before course.round parts ≡ false)
IsWritten (Some end) course parts text = Writes (wanted_of course.task) parts 0 text (Some end)

-- what is put behind a text is what is written behind the one that was
pub record Moves (course : Course) (parts : List Told) (text before after : List ℕ) : Type 0 where
  pub more : List ℕ
  pub put : after ≡ before ++ more
  pub written : IsWritten course.end course parts (text ++ more)

-- the next round, where a part goes on behind this one
pub record GoesOnTo (old new : Course) : Type 0 where
  pub round : new.round ≡ old.round + 1
  pub kept : AllTellFrom new.round old.parts new.parts
  pub more : list_all (is_over old.round) old.parts ≡ false

-- the parts have told nothing more
pub record Rests (course : Course) (parts : List Told) (text before after : List ℕ) : Type 0 where
  pub moves : Moves course parts text before after
  pub rests : course.end ≡ None → list_all (has_block course.round) parts ≡ false

-- ---- a line

-- what is put behind a text is what is written behind the lines, once this is the last of them
pub record Adds (new : Course) (lines : List (List ℕ)) (text before after : List ℕ) : Type 0 where
  pub more : List ℕ
  pub put : after ≡ before ++ more
  pub stands : Stands new lines (text ++ more)

abbrev pub TakesOn : Course → Course → List ℕ → List ℕ → List ℕ → Type 0
TakesOn old new line before after =
    (lines : List (List ℕ)) (text : List ℕ) → Stands old lines text → Adds new (lines ++ line ∷ []) text before after

-- ---- why a line is refused

-- the parts do not take it
pub record IsLineFault (task : Task) (lines : List (List ℕ)) (line : List ℕ) (why : InputFault) : Type 0 where
  pub parts : List Told
  pub told : Tell task [] lines parts
  pub refused : IsRefused why task.query task.shape task.count parts line

-- the blocks before a round are written, the report goes on behind them, and the block of the round is not written
pub record Stops (task : Task) (parts : List Told) (text before after : List ℕ) (why : BlockFault) : Type 0 where
  pub round : ℕ
  pub more : List ℕ
  pub put : after ≡ before ++ more
  pub passed : Passes (wanted_of task) parts round (text ++ more)
  pub goes : is_over_before round parts ≡ false
  pub has : list_all (has_block round) parts ≡ true
  pub fault : IsBlockFault why round task.shape parts

abbrev pub StopsBy : BlockFault → Task → List Told → List ℕ → List ℕ → List ℕ → Type 0
StopsBy (OtherColumn column) task parts text before after = Stops task parts text before after (OtherColumn column)
StopsBy (OtherItem item) task parts text before after = Stops task parts text before after (OtherItem item)
StopsBy (TooWide item) task parts text before after = Stops task parts text before after (TooWide item)
StopsBy (UnclearTag part) task parts text before after = Stops task parts text before after (UnclearTag part)
StopsBy OtherForm task parts text before after = Stops task parts text before after OtherForm
StopsBy NoMemory task parts text before after = Unit {0}

-- behind the lines, of which this is the last, a block is not written
pub record IsStopped (task : Task) (lines : List (List ℕ)) (text before after : List ℕ) (why : BlockFault) : Type 0 where
  pub parts : List Told
  pub told : Tell task [] lines parts
  pub all : length parts ≡ task.count
  pub stops : StopsBy why task parts text before after

abbrev pub IsCourseFault : CourseFault → Course → List ℕ → List ℕ → List ℕ → Type 0
IsCourseFault (Input why) old line before after =
    (after ≡ before) × ((lines : List (List ℕ)) (text : List ℕ) → Stands old lines text → IsLineFault old.task lines line why)
IsCourseFault (Block why) old line before after =
    (lines : List (List ℕ)) (text : List ℕ) → Stands old lines text → IsStopped old.task (lines ++ line ∷ []) text before after why

-- ---- lines in another order

-- the same lines, of which neighbours with other tags have changed places, once or many times
pub data Interleaved : List (List ℕ) → List (List ℕ) → Type 0 where
  unmoved : (lines : List (List ℕ)) → Interleaved lines lines
  swapped : (first second : List ℕ) (lines : List (List ℕ)) → tag_of first ≢ tag_of second →
      Interleaved (first ∷ second ∷ lines) (second ∷ first ∷ lines)
  farther : (line : List ℕ) (lines others : List (List ℕ)) → Interleaved lines others → Interleaved (line ∷ lines) (line ∷ others)
  twice : (lines others lasts : List (List ℕ)) → Interleaved lines others → Interleaved others lasts → Interleaved lines lasts

-- the combined report is that of the lines in any order that leaves those of each part in theirs
abbrev pub OrderIsFree : Type 0
OrderIsFree =
    (task : Task) (lines others : List (List ℕ)) (text : List ℕ) (end : Option ReportEnd) → Interleaved lines others →
    Combines task lines text end → Combines task others text end

-- what the parts tell is one text, with one end
abbrev pub TextIsOne : Type 0
TextIsOne =
    (task : Task) (parts : List Told) (text other : List ℕ) (end later : Option ReportEnd) → length parts ≤ task.count →
    IsText task parts text end → IsText task parts other later → (other ≡ text) × (later ≡ end)
