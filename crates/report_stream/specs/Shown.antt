-- What bytes of an input show: why they are refused, where the lines before are right.
use Rattle.std.specs.Prelude.{◌≡◌, ◌≢◌, ◌⊎◌, ℕ, ◌+◌, ◌<◌, ◌≤◌, List, [], ◌∷◌, ◌++◌, length, take}
use Rattle.std.specs.declared.option.Option.TheVariants.{Some, None}
use Rattle.outer_world.specs.Device.{Rose, SinkState, SourceState}
use Rattle.query_kinds.specs.Kinds.{IsNoQuery}
use Rattle.report_parts.specs.Course.{Combines, Stops, Task, Tell}
use Rattle.report_parts.specs.Ends.{first_open}
use Rattle.report_parts.specs.Tags.{CannotTake, HasPart, HasTab, IsTag, IsTagged, behind_tag, part_at, tag_of, told_of}
use Rattle.report_parts.specs.Told.{IsUnlisted, Told, nothing_told}
use Rattle.report_parts.specs.declared.combination.Until.{Until}
use Rattle.report_parts.specs.declared.fault.BlockFault.{BlockFault}
use Rattle.report_parts.specs.declared.fault.BlockFault.TheVariants as b
use Rattle.report_parts.specs.declared.part.Place.TheVariants.{Query}
use Rattle.source_lines.specs.Lines.{IsRest, line_length, most_bytes, most_line}
use Rattle.report_stream.specs.Faults.{of_block}
use Rattle.report_stream.specs.Streams.{AreLines, AsksNothing, Combined, IsLine, IsTask, StreamCause, first_line, lines_text}
use Rattle.report_stream.specs.declared.fault.LineRefusal.TheVariants as r
use Rattle.report_stream.specs.declared.fault.StreamFault.{StreamFault}
use Rattle.report_stream.specs.declared.fault.StreamFault.TheVariants.{EndsEarly, Line, NoMemory, OtherCount, TooLong, WriteFault}

-- the bytes begin with these lines, which the parts take, and their combined report goes on
pub record GoesRight (wanted : ℕ) (until : Until) (bytes : List ℕ) (lines : List (List ℕ)) (rest : List ℕ) : Type 0 where
  pub task : Task
  pub body : List ℕ
  pub split : bytes ≡ lines_text lines ++ rest
  pub are_lines : AreLines lines
  pub is_task : IsTask wanted until (first_line lines) task
  pub combines : Combines task lines body None

-- this line comes next
pub record IsNext (rest line behind : List ℕ) : Type 0 where
  pub split : rest ≡ line ++ 10 ∷ behind
  pub is_line : IsLine line

-- it has a tag and a tab
pub record ComesNext (rest line behind : List ℕ) : Type 0 where
  pub next : IsNext rest line behind
  pub tagged : IsTagged line

-- more bytes than a line may have come before a line feed, or the end
abbrev pub GoesTooFar : List ℕ → Type 0
GoesTooFar rest = most_line < line_length rest

-- behind these lines a block that all parts have told cannot be written, for this reason, and those before it can
pub record IsUnwritten (task : Task) (lines : List (List ℕ)) (fault : BlockFault) : Type 0 where
  pub parts : List Told
  pub told : Tell task [] lines parts
  pub all : length parts ≡ task.count
  pub body : List ℕ
  pub stops : Stops task parts [] [] body fault
  pub some : fault ≢ b.NoMemory

pub data ShowsFault (wanted : ℕ) (until : Until) (bytes : List ℕ) : StreamFault → Type 0 where
  no_line : IsRest bytes → ShowsFault wanted until bytes (OtherCount 0)
  ends_early : (lines : List (List ℕ)) (rest : List ℕ) (g : GoesRight wanted until bytes lines rest) (place : ℕ) (tag : List ℕ) →
      IsRest rest → first_open g.combines.parts ≡ Some place → tag ≡ (part_at place g.combines.parts).tag →
      ShowsFault wanted until bytes (EndsEarly tag)
  other_count : (lines : List (List ℕ)) (rest : List ℕ) (g : GoesRight wanted until bytes lines rest) (count : ℕ) → IsRest rest →
      first_open g.combines.parts ≡ None → count ≡ length g.combines.parts → ShowsFault wanted until bytes (OtherCount count)
  first_without_tab : (first behind : List ℕ) → IsNext bytes first behind → ¬ HasTab first → ShowsFault wanted until bytes (Line 1 r.NoTab)
  first_without_tag : (first behind : List ℕ) → IsNext bytes first behind → HasTab first → ¬ IsTag (tag_of first) →
      ShowsFault wanted until bytes (Line 1 r.NoTag)
  first_too_long : GoesTooFar bytes → ShowsFault wanted until bytes (Line 1 r.TooLong)
  no_query : (first behind : List ℕ) → ComesNext bytes first behind → IsNoQuery (behind_tag first) →
      ShowsFault wanted until bytes (Line 1 r.NoQuery)
  no_items : (first behind : List ℕ) → ComesNext bytes first behind → AsksNothing (behind_tag first) →
      ShowsFault wanted until bytes (Line 1 r.NoItems)
  no_tab : (lines : List (List ℕ)) (rest line behind : List ℕ) (g : GoesRight wanted until bytes lines rest) (number : ℕ) →
      IsNext rest line behind → ¬ HasTab line → number ≡ length lines + 1 → ShowsFault wanted until bytes (Line number r.NoTab)
  no_tag : (lines : List (List ℕ)) (rest line behind : List ℕ) (g : GoesRight wanted until bytes lines rest) (number : ℕ) →
      IsNext rest line behind → HasTab line → ¬ IsTag (tag_of line) → number ≡ length lines + 1 →
      ShowsFault wanted until bytes (Line number r.NoTag)
  too_long : (lines : List (List ℕ)) (rest : List ℕ) (g : GoesRight wanted until bytes lines rest) (number : ℕ) → GoesTooFar rest →
      number ≡ length lines + 1 → ShowsFault wanted until bytes (Line number r.TooLong)
  -- a part for which there is room tells another query
  other_query : (lines : List (List ℕ)) (rest line behind : List ℕ) (g : GoesRight wanted until bytes lines rest) (number : ℕ) →
      ComesNext rest line behind → told_of (tag_of line) g.combines.parts ≡ nothing_told (tag_of line) →
      length g.combines.parts < wanted → behind_tag line ≢ g.task.query → number ≡ length lines + 1 →
      ShowsFault wanted until bytes (Line number r.OtherQuery)
  -- it is of one part more, whatever it tells
  more_parts : (lines : List (List ℕ)) (rest line behind : List ℕ) (g : GoesRight wanted until bytes lines rest) (number : ℕ) →
      ComesNext rest line behind → ¬ HasPart (tag_of line) g.combines.parts →
      wanted ≤ length g.combines.parts → number ≡ length lines + 1 →
      ShowsFault wanted until bytes (Line number r.MoreParts)
  -- of the first rows before the line the possible ones are not listed
  unlisted : (lines : List (List ℕ)) (rest line behind : List ℕ) (g : GoesRight wanted until bytes lines rest) (number : ℕ) →
      ComesNext rest line behind → IsUnlisted (told_of (tag_of line) g.combines.parts) →
      CannotTake g.task.query g.task.shape (told_of (tag_of line) g.combines.parts) (behind_tag line) → number ≡ length lines + 1 →
      ShowsFault wanted until bytes (Line number r.Unlisted)
  -- the report of a part that has begun does not go on so
  other_line : (lines : List (List ℕ)) (rest line behind : List ℕ) (g : GoesRight wanted until bytes lines rest) (number : ℕ) →
      ComesNext rest line behind → (told_of (tag_of line) g.combines.parts).place ≢ Query →
      ¬ IsUnlisted (told_of (tag_of line) g.combines.parts) →
      CannotTake g.task.query g.task.shape (told_of (tag_of line) g.combines.parts) (behind_tag line) → number ≡ length lines + 1 →
      ShowsFault wanted until bytes (Line number r.OtherLine)
  -- the line completes a block that cannot be written
  other_block : (lines : List (List ℕ)) (rest line behind : List ℕ) (g : GoesRight wanted until bytes lines rest) (number : ℕ)
      (fault : BlockFault) (why : StreamFault) → IsNext rest line behind → IsUnwritten g.task (lines ++ line ∷ []) fault →
      number ≡ length lines + 1 → why ≡ of_block number fault → ShowsFault wanted until bytes why

-- ---- all that comes

-- as many of the bytes as may come
abbrev pub heard : List ℕ → List ℕ
heard bytes = take most_bytes bytes

-- it is told at the end of the input
abbrev pub IsOfEnd : StreamFault → Type 0
IsOfEnd (EndsEarly tag) = Unit {0}
IsOfEnd (OtherCount number) = Unit {0}
IsOfEnd other = ⊥

-- what is told is what the bytes show that may come; where more come, and these only end too early, it is that the input is too long
pub data TellsFault (wanted : ℕ) (until : Until) (bytes : List ℕ) : StreamFault → Type 0 where
  shown : (fault : StreamFault) → ShowsFault wanted until (heard bytes) fault → (IsOfEnd fault → length bytes ≤ most_bytes) →
      TellsFault wanted until bytes fault
  too_many : (fault : StreamFault) → ShowsFault wanted until (heard bytes) fault → IsOfEnd fault → most_bytes < length bytes →
      TellsFault wanted until bytes TooLong

-- the report is not written to its end, and nothing but this is told, or that memory ran out, unless a device fails
pub record IsTold (wanted : ℕ) (until : Until) (input input' : SourceState) (out out' : SinkState) (fault : StreamFault) : Type 0 where
  pub undone : Combined wanted until input input' out out' → ⊥
  pub stopped : (why : StreamFault) → StreamCause wanted until input input' out out' why →
      (why ≡ fault) ⊎ (why ≡ NoMemory) ⊎ Rose input.faults input'.faults ⊎ ((why ≡ WriteFault) × Rose out.faults out'.faults)

-- so it is where an input tells them
abbrev pub FaultsAreTold : Type 0
FaultsAreTold =
    (wanted : ℕ) (until : Until) (input input' : SourceState) (out out' : SinkState) (bytes : List ℕ) (fault : StreamFault) →
    input.left ≡ Some bytes → TellsFault wanted until bytes fault → IsTold wanted until input input' out out' fault
