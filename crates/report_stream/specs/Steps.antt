-- What one step of the stream says: the first line is read, a line comes, a line is taken, the input ends.
use Rattle.std.specs.Prelude.{◌≡◌, ◌⊎◌, ℕ, List, []}
use Rattle.std.specs.declared.option.Option.TheVariants.{Some, None}
use Rattle.outer_world.specs.Device.{SinkState, SourceState}
use Rattle.outer_world.specs.Whole.{Writes}
use Rattle.query_kinds.specs.Kinds.{IsNoQuery}
use Rattle.query_kinds.specs.declared.fault.KindsFault.{KindsFault}
use Rattle.query_kinds.specs.declared.fault.KindsFault.TheVariants as k
use Rattle.report_parts.specs.Course.{Course, IsCourseFault, Stands, TakesOn}
use Rattle.report_parts.specs.Ends.{IsEndFault, first_open}
use Rattle.report_parts.specs.Tags.{IsTag, behind_tag, part_at, tag_of}
use Rattle.report_parts.specs.declared.fault.BlockFault.{BlockFault}
use Rattle.report_parts.specs.declared.fault.CourseFault.TheVariants.{Block, Input}
use Rattle.report_parts.specs.declared.fault.EndFault.TheVariants as e
use Rattle.report_parts.specs.declared.fault.InputFault.{InputFault}
use Rattle.report_parts.specs.declared.shape.Shape.{Shape}
use Rattle.source_lines.specs.Lines.{LinesState, StopsLines}
use Rattle.source_lines.specs.declared.fault.LineFault.{LineFault}
use Rattle.report_stream.specs.Faults.{of_block, of_input, of_source}
use Rattle.report_stream.specs.Streams.{AsksNothing, IsFirstRefused, IsShapeOf, partly, whole}
use Rattle.report_stream.specs.declared.fault.LineRefusal.{LineRefusal}
use Rattle.report_stream.specs.declared.fault.StreamFault.{StreamFault}
use Rattle.report_stream.specs.declared.fault.StreamFault.TheVariants.{EndsEarly, Line, NoMemory, OtherCount, WriteFault}

-- ---- the first line

-- the line has a tag, and behind it this query, whose blocks have this shape
pub record IsAsked (first query : List ℕ) (shape : Shape) : Type 0 where
  pub is_tag : IsTag (tag_of first)
  pub is_query : query ≡ behind_tag first
  pub is_shape : IsShapeOf query shape

abbrev pub IsFirstFault : List ℕ → StreamFault → Type 0
IsFirstFault first (Line number why) = (number ≡ 1) × IsFirstRefused why first
IsFirstFault first NoMemory = Unit {0}
IsFirstFault first other = ⊥

-- why a line asks for blocks of no shape
abbrev pub IsShapeFault : List ℕ → KindsFault → Type 0
IsShapeFault line k.NoQuery = IsNoQuery line
IsShapeFault line k.NoTotals = AsksNothing line
IsShapeFault line k.NoMemory = Unit {0}

-- ---- a line comes

-- the line with that number does not come
pub record StopsAt (number : ℕ) (old : LinesState) (source source' : SourceState) (why : StreamFault) : Type 0 where
  pub fault : LineFault
  pub is : why ≡ of_source number fault
  pub stops : StopsLines old source source' fault

-- ---- a line is taken

-- what the line puts behind the text is written, and the text is empty then
pub record PutsOut (old new : Course) (line text text' : List ℕ) (out out' : SinkState) : Type 0 where
  pub put : List ℕ
  pub takes : TakesOn old new line text put
  pub written : Writes whole out out' put
  pub empty : text' ≡ []

-- the text before a block that is refused is written, or a write fails
pub data RefusesBlocks (result : StreamFault) (number : ℕ) (why : LineRefusal) (out out' : SinkState) (text : List ℕ) : Type 0 where
  refused : result ≡ Line number why → Writes whole out out' text → RefusesBlocks result number why out out' text
  cut_off : result ≡ WriteFault → Writes partly out out' text → RefusesBlocks result number why out out' text

-- what the line puts behind the text, whether or not a block is refused behind it
pub data Puts (old : Course) (line text put : List ℕ) : Type 0 where
  taken : (new : Course) → new.task ≡ old.task → TakesOn old new line text put → Puts old line text put
  stopped : (number : ℕ) (why : LineRefusal) (fault : BlockFault) → Line number why ≡ of_block number fault →
      IsCourseFault (Block fault) old line text put → Puts old line text put

-- why a line with that number is not taken
pub data StopsTake {K : Type 0} (old : Course) (line text : List ℕ) (number : ℕ) (sink sink' : K) (out out' : SinkState)
    (result : StreamFault) : Type 0 where
  by_input : (fault : InputFault) → result ≡ of_input number fault → IsCourseFault (Input fault) old line text text → sink' ≡ sink →
      StopsTake old line text number sink sink' out out' result
  by_block : (why : LineRefusal) (fault : BlockFault) (put : List ℕ) → result ≡ Line number why → Line number why ≡ of_block number fault →
      IsCourseFault (Block fault) old line text put → Writes whole out out' put → StopsTake old line text number sink sink' out out' result
  by_memory : result ≡ NoMemory → sink' ≡ sink → StopsTake old line text number sink sink' out out' result
  by_write : (put : List ℕ) → result ≡ WriteFault → Puts old line text put → Writes partly out out' put →
      StopsTake old line text number sink sink' out out' result

-- ---- the input ends

-- some lines were taken, and the report goes on behind them
pub record IsOpen (course : Course) : Type 0 where
  pub lines : List (List ℕ)
  pub text : List ℕ
  pub stands : Stands course lines text
  pub goes_on : course.end ≡ None

abbrev pub IsEarly : List ℕ → StreamFault → Type 0
IsEarly tag (EndsEarly told) = told ≡ tag
IsEarly tag NoMemory = Unit {0}
IsEarly tag other = ⊥

-- the report of a part has not ended
pub record IsEarlyPart (course : Course) (result : StreamFault) : Type 0 where
  pub place : ℕ
  pub is_open : first_open course.parts ≡ Some place
  pub early : IsEarly (part_at place course.parts).tag result

-- there are not as many parts as are to be
pub record IsOtherCount (course : Course) (result : StreamFault) : Type 0 where
  pub number : ℕ
  pub is : result ≡ OtherCount number
  pub other : IsEndFault (e.OtherCount number) course.task.count course.parts

abbrev pub IsEnd : Course → StreamFault → Type 0
IsEnd course result = IsEarlyPart course result ⊎ IsOtherCount course result
