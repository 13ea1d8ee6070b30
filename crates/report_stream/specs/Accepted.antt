-- Which bytes of an input are accepted: the lines of reports that are combined to their end, and their combined report.
use Rattle.std.specs.Prelude.{◌≡◌, ◌⊎◌, ℕ, ◌≤◌, List, ◌++◌, length}
use Rattle.std.specs.declared.option.Option.TheVariants.{Some}
use Rattle.outer_world.specs.Device.{Rose, SinkState, SourceState}
use Rattle.outer_world.specs.Whole.{Writes}
use Rattle.report_text.specs.declared.lines.ReportEnd.{ReportEnd}
use Rattle.report_parts.specs.Course.{Combines, Task}
use Rattle.report_parts.specs.declared.combination.Until.{Until}
use Rattle.source_lines.specs.Lines.{most_bytes}
use Rattle.report_stream.specs.Streams.{AreLines, Combined, IsTask, StreamCause, combined_text, first_line, lines_text, whole}
use Rattle.report_stream.specs.declared.fault.StreamFault.{StreamFault}
use Rattle.report_stream.specs.declared.fault.StreamFault.TheVariants.{NoMemory}

-- the bytes begin with the lines of reports of one query, which are combined to their end, and this is the combined report
pub record AreReports (count : ℕ) (until : Until) (bytes text : List ℕ) : Type 0 where
  pub lines : List (List ℕ)
  pub rest : List ℕ
  pub task : Task
  pub body : List ℕ
  pub end : ReportEnd
  pub split : bytes ≡ lines_text lines ++ rest
  pub are_lines : AreLines lines
  pub few : length (lines_text lines) ≤ most_bytes
  pub is_task : IsTask count until (first_line lines) task
  pub combines : Combines task lines body (Some end)
  pub is : text ≡ combined_text task body

-- the bytes have one combined report at most
abbrev pub ReportsAreOne : Type 0
ReportsAreOne =
    (count : ℕ) (until : Until) (bytes text other : List ℕ) → AreReports count until bytes text → AreReports count until bytes other →
    other ≡ text

-- what is written where it is done is their combined report, and nothing but want of memory and faults of devices stops before
pub record IsAnswered (count : ℕ) (until : Until) (input input' : SourceState) (out out' : SinkState) (text : List ℕ) : Type 0 where
  pub done : Combined count until input input' out out' → Writes whole out out' text
  pub stopped : (why : StreamFault) → StreamCause count until input input' out out' why →
      (why ≡ NoMemory) ⊎ Rose input.faults input'.faults ⊎ Rose out.faults out'.faults

-- so it is where an input tells bytes that are accepted
abbrev pub ReportsAreAnswered : Type 0
ReportsAreAnswered =
    (count : ℕ) (until : Until) (input input' : SourceState) (out out' : SinkState) (bytes text : List ℕ) → input.left ≡ Some bytes →
    AreReports count until bytes text → IsAnswered count until input input' out out' text
