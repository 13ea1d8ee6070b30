-- `combine`: the reports of the parts of a table, line by line, become one report of the whole.
use Rattle.std.specs.Prelude.{◌≡◌, ◌≢◌, ℕ, ◌<◌, ℤ, List, [], ◌++◌, slice_get, slice_index_or, Some, None}
use Rattle.std.specs.declared.option.Option.{Option}
use Rattle.std.specs.Io.KnownBytes.{Consumes}
use Rattle.command_line.specs.Commands.{Combine}
use Rattle.outer_world.specs.Device.{SinkState, SourceState}
use Rattle.query_kinds.specs.declared.beside.Beside.{Beside}
use Rattle.query_kinds.specs.declared.rows.FirstRows.{FirstRows}
use Rattle.query_model.specs.declared.query.ItemKind.{ItemKind}
use Rattle.query_model.specs.declared.query.ItemKind.TheVariants.{Avg}
use Rattle.report_parts.specs.Course.{Task, Tell}
use Rattle.report_parts.specs.GroupHeadline.{AreGroupsCertain}
use Rattle.report_parts.specs.Headline.{AreCertainAverages, AreCertainBeside, AreCertainOf, AreClippedOf, AreExactOf}
use Rattle.report_parts.specs.Headline.{IsAverageIn, IsBesideIn, IsCertainIn, IsClippedIn, IsExactIn, IsOfTotals}
use Rattle.report_parts.specs.RowHeadline.{AreRowsCertain}
use Rattle.report_parts.specs.TextHeadline.{AreCertainTexts, AreClippedTexts, IsClippedTextIn, IsTextIn, own_line}
use Rattle.part_groups.specs.Texts.{extreme_of}
use Rattle.report_parts.specs.Told.{Told}
use Rattle.report_parts.specs.declared.combination.Until.{Until}
use Rattle.report_parts.specs.declared.shape.Shape.{Shape}
use Rattle.report_stream.specs.Accepted.{AreReports}
use Rattle.report_stream.specs.Shown.{TellsFault}
use Rattle.report_stream.specs.Streams.{AreLines, Combined, IsTask, StreamCause, first_line, lines_text}
use Rattle.report_stream.specs.declared.fault.StreamFault.{StreamFault}
use Rattle.text_extremes.specs.declared.extreme.Extreme.{Extreme}
use Rattle.daq_cli.specs.Faults as of
use Rattle.daq_cli.specs.declared.refusal.Refusal.{Refusal}

-- up to which round
abbrev pub until_of : Combine → Until
until_of c = record { near = record { width = c.width; keys = c.keys }; rounds = c.rounds }

-- where an input tells these bytes, why they are refused, behind lines that are right
pub record ShowsReports (c : Combine) (bytes : List ℕ) (why : Refusal) : Type 0 where
  pub fault : StreamFault
  pub is : why ≡ of.reports c.parts fault
  pub shown : TellsFault c.parts (until_of c) bytes fault

-- what an input shows that tells its bytes
abbrev pub CombineShows : Combine → Option (List ℕ) → Refusal → Type 0
CombineShows c told why = (bytes : List ℕ) × (told ≡ Some bytes) × ShowsReports c bytes why

-- such an input is accepted, and this is the combined report of its lines
abbrev pub CombineAccepts : Combine → Option (List ℕ) → List ℕ → Type 0
CombineAccepts c told text = (bytes : List ℕ) × (told ≡ Some bytes) × AreReports c.parts (until_of c) bytes text

-- ---- what becomes of a `combine`

-- where the report of each part is certain of an item over the part's own rows, so is each block that is printed over the rows of all parts
-- together: it contains the answer, lies within the block before, and is the answer where each part says its own. So it is of the clipped
-- bounds in the lines behind, and of the least and the greatest text, in both lines. What a line behind says of an average contains it, and
-- lies within what the block before says. Of an average beside which the sum and the number of its values are asked it holds where the
-- parts are certain of these too
pub record AreCertainTogether (shape : Shape) (parts : List Told) : Type 0 where
  pub items : (item : ℕ) (kind : ItemKind) (tables : List (List ℤ)) (round : ℕ) → kind ≢ Avg → slice_get shape.kinds item ≡ Some kind →
      AreCertainOf item kind parts tables → IsCertainIn round item kind shape parts tables
  pub averages : (item : ℕ) (tables : List (List ℤ)) (round : ℕ) → slice_get shape.kinds item ≡ Some Avg →
      slice_index_or shape.besides item None ≡ None → AreCertainAverages item parts tables → IsAverageIn round item shape parts tables
  pub besides : (item : ℕ) (beside : Beside) (tables : List (List ℤ)) (round : ℕ) → slice_get shape.kinds item ≡ Some Avg →
      slice_index_or shape.besides item None ≡ Some beside → AreCertainAverages item parts tables →
      AreCertainBeside item beside shape.kinds parts tables → IsBesideIn round item beside shape parts tables
  pub clips : (item : ℕ) (kind : ItemKind) (tables : List (List ℤ)) (round : ℕ) → kind ≢ Avg → slice_get shape.kinds item ≡ Some kind →
      AreClippedOf item kind parts tables → IsClippedIn round item kind shape parts tables
  pub exact_averages : (item : ℕ) (tables : List (List ℤ)) (round : ℕ) → slice_get shape.kinds item ≡ Some Avg →
      AreExactOf item parts tables → IsExactIn round item shape parts tables
  pub texts : (item : ℕ) (kind : ItemKind) (extreme : Extreme) (tables : List (List (List ℕ))) (round : ℕ) →
      slice_get shape.kinds item ≡ Some kind → extreme_of kind ≡ Some extreme →
      AreCertainTexts item extreme parts tables → IsTextIn own_line round item extreme shape parts tables
  pub text_clips : (item : ℕ) (kind : ItemKind) (extreme : Extreme) (tables : List (List (List ℕ))) (round : ℕ) →
      slice_get shape.kinds item ≡ Some kind → extreme_of kind ≡ Some extreme →
      AreClippedTexts item extreme parts tables → IsClippedTextIn round item extreme shape parts tables

-- the combined report of the lines that were read was written to its end. Of totals each interval in it is certain, where those of the
-- parts are; so is each group of a query by groups, and each row where first rows are asked for
pub record CombinesReports (c : Combine) (input input' : SourceState) (out out' : SinkState) : Type 0 where
  pub combined : Combined c.parts (until_of c) input input' out out'
  pub headline : IsOfTotals combined.task.shape → AreCertainTogether combined.task.shape combined.combines.parts
  pub groups : 0 < combined.task.shape.columns → AreGroupsCertain combined.task.shape combined.combines.parts
  pub rows : (asked : FirstRows) → combined.task.shape.columns ≡ 0 → combined.task.shape.rows ≡ Some asked →
      AreRowsCertain asked combined.task.shape combined.combines.parts

-- why a `combine` stops, and with that what was read and written
pub record CombineCause (c : Combine) (input input' : SourceState) (out out' : SinkState) (why : Refusal) : Type 0 where
  pub fault : StreamFault
  pub is : why ≡ of.reports c.parts fault
  pub cause : StreamCause c.parts (until_of c) input input' out out' fault

-- the parts take the lines that were read, of which there are some: so the combined report can begin
pub record BeginsReport (c : Combine) (input input' : SourceState) : Type 0 where
  pub lines : List (List ℕ)
  pub rest : List ℕ
  pub task : Task
  pub parts : List Told
  pub came : Consumes input.left input'.left (lines_text lines ++ rest)
  pub are_lines : AreLines lines
  pub is_task : IsTask c.parts (until_of c) (first_line lines) task
  pub told : Tell task [] lines parts
