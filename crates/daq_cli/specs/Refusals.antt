-- The line and the status of each refusal, and how a run tells of it.
use Rattle.std.specs.Prelude.{◌≡◌, ◌⊎◌, ℕ, ◌+◌, pos, List, ◌++◌, codes, drop, length}
use Rattle.std.specs.Fmt.{signed_decimal}
use Rattle.daq_table.specs.declared.schema_fault.SchemaFault.{SchemaFault}
use Rattle.daq_table.specs.declared.schema_fault.SchemaFault.TheVariants as schema
use Rattle.csv_load.specs.declared.fault.TableFault.{TableFault}
use Rattle.csv_load.specs.declared.fault.TableFault.TheVariants as table
use Rattle.multi_session.specs.declared.limits.SessionFault.{SessionFault}
use Rattle.multi_session.specs.declared.limits.SessionFault.TheVariants as session
use Rattle.outer_world.specs.Device.{SinkState}
use Rattle.outer_world.specs.Whole.{Writes}
use Rattle.plane_file.specs.declared.file_fault.FileFault.{FileFault}
use Rattle.plane_file.specs.declared.file_fault.FileFault.TheVariants as file
use Rattle.plane_reads.specs.declared.fault.ReadsFault.{ReadsFault}
use Rattle.plane_reads.specs.declared.fault.ReadsFault.TheVariants as reads
use Rattle.report_stream.specs.declared.fault.LineRefusal.{LineRefusal}
use Rattle.report_stream.specs.declared.fault.LineRefusal.TheVariants as refusal
use Rattle.report_stream.specs.declared.fault.StreamFault.{StreamFault}
use Rattle.report_stream.specs.declared.fault.StreamFault.TheVariants as stream
use Rattle.session_script.specs.declared.fault.ScriptFault.{ScriptFault}
use Rattle.session_script.specs.declared.fault.ScriptFault.TheVariants as script
use Rattle.sql_text.specs.declared.fault.SqlFault.{SqlFault}
use Rattle.sql_text.specs.declared.fault.SqlFault.TheVariants as text
use Rattle.sql_typing.specs.declared.fault.TypeFault.{TypeFault}
use Rattle.sql_typing.specs.declared.fault.TypeFault.TheVariants as typing
use Rattle.daq_cli.specs.Worlds.{partly, whole}
use Rattle.daq_cli.specs.declared.refusal.Refusal.{Refusal}
use Rattle.daq_cli.specs.declared.refusal.Refusal.TheVariants.{Usage, Query, Schema, TooLong, Table, TooManyRows}
use Rattle.daq_cli.specs.declared.refusal.Refusal.TheVariants.{Typing, Reads, File, PadBits, OverTop, Script, LineQuery}
use Rattle.daq_cli.specs.declared.refusal.Refusal.TheVariants.{LineTyping, Session, Report, ReadFault, WriteFault, NoMemory}
use Rattle.daq_cli.specs.declared.status.Status.{Status}
use Rattle.daq_cli.specs.declared.status.Status.TheVariants as s

abbrev pub text_fault_text : SqlFault → List ℕ
text_fault_text text.TooLong = codes "query refused: longer than 4096 bytes"
text_fault_text (text.Syntax at) = codes "query refused: syntax at " ++ signed_decimal (pos at)
text_fault_text (text.TooDeep at) = codes "query refused: nested too deep at " ++ signed_decimal (pos at)
text_fault_text (text.LiteralTooLarge at) = codes "query refused: number too large at " ++ signed_decimal (pos at)
text_fault_text text.NoMemory = codes "no memory"

-- records, columns, items and reads count from 1 in a line
abbrev pub schema_fault_text : SchemaFault → List ℕ
schema_fault_text (schema.BadItem at) = codes "table refused: schema item at " ++ signed_decimal (pos at)
schema_fault_text (schema.TooMany count) = codes "table refused: " ++ signed_decimal (pos count) ++ codes " schema items"
schema_fault_text (schema.TooManyItems count) =
    codes "table refused: " ++ signed_decimal (pos count) ++ codes " schema items with those skipped"
schema_fault_text schema.NoColumn = codes "table refused: all schema items are skipped"
schema_fault_text (schema.RepeatedName first second) =
    codes "table refused: schema items " ++ signed_decimal (pos (first + 1)) ++ codes " and " ++ signed_decimal (pos (second + 1))
    ++ codes " have one name"
schema_fault_text schema.NoMemory = codes "no memory"

abbrev pub table_fault_text : TableFault → List ℕ
table_fault_text table.NoHeader = codes "table refused: no header"
table_fault_text (table.HeaderDiffers column) = codes "table refused: header differs at column " ++ signed_decimal (pos (column + 1))
table_fault_text (table.TooManyRows limit) = codes "table refused: more than " ++ signed_decimal (pos limit) ++ codes " rows"
table_fault_text (table.TooManyCells count) = codes "table refused: " ++ signed_decimal (pos count) ++ codes " cells"
table_fault_text (table.UnequalLength entry got want) =
    codes "table refused: record " ++ signed_decimal (pos (entry + 1)) ++ codes " has " ++ signed_decimal (pos got)
    ++ codes " fields, not " ++ signed_decimal (pos want)
table_fault_text (table.BadCell entry column) =
    codes "table refused: record " ++ signed_decimal (pos (entry + 1)) ++ codes " column " ++ signed_decimal (pos (column + 1))
    ++ codes " is no value of its kind"
table_fault_text (table.TooManyNames column) =
    codes "table refused: column " ++ signed_decimal (pos (column + 1)) ++ codes " has too many names"
table_fault_text table.NoMemory = codes "no memory"

abbrev pub type_fault_text : TypeFault → List ℕ
type_fault_text (typing.UnknownTable at) = codes "query refused: unknown table at " ++ signed_decimal (pos at)
type_fault_text (typing.UnknownColumn at) = codes "query refused: unknown column at " ++ signed_decimal (pos at)
type_fault_text typing.TooManyColumns = codes "query refused: more than 16 columns"
type_fault_text typing.TooManyItems = codes "query refused: more than 16 aggregates"
type_fault_text (typing.KindsDiffer at) = codes "query refused: kinds differ at " ++ signed_decimal (pos at)
type_fault_text (typing.ScaleTooFine at) = codes "query refused: scale too fine at " ++ signed_decimal (pos at)
type_fault_text (typing.NotGrouped at) = codes "query refused: not grouped at " ++ signed_decimal (pos at)
type_fault_text (typing.TooManyValues at) = codes "query refused: too many values at " ++ signed_decimal (pos at)
type_fault_text (typing.LimitOutOfRange at) = codes "query refused: limit out of range at " ++ signed_decimal (pos at)
type_fault_text (typing.GroupTooWide bits) = codes "query refused: group of " ++ signed_decimal (pos bits) ++ codes " bits"
type_fault_text (typing.TooWide item) = codes "query refused: item " ++ signed_decimal (pos (item + 1)) ++ codes " too wide"
type_fault_text typing.NoMemory = codes "no memory"

abbrev pub reads_fault_text : ReadsFault → List ℕ
reads_fault_text (reads.UnknownName place) =
    codes "query refused: read " ++ signed_decimal (pos (place + 1)) ++ codes " names no column of the query"
reads_fault_text (reads.PastEnd place) =
    codes "query refused: read " ++ signed_decimal (pos (place + 1)) ++ codes " is past its column's last plane"
reads_fault_text reads.NoMemory = codes "no memory"

-- places count from 0, from the script's first byte
abbrev pub script_fault_text : ScriptFault → List ℕ
script_fault_text (script.TooLong limit) = codes "query refused: script longer than " ++ signed_decimal (pos limit) ++ codes " bytes"
script_fault_text (script.NoText at) = codes "query refused: script is no text at " ++ signed_decimal (pos at)
script_fault_text script.NoQuery = codes "query refused: no query in the script"
script_fault_text (script.TooMany count) = codes "query refused: " ++ signed_decimal (pos count) ++ codes " queries"
script_fault_text script.NoMemory = codes "no memory"

abbrev pub session_fault_text : SessionFault → List ℕ
session_fault_text (session.TooMany count) = codes "query refused: " ++ signed_decimal (pos count) ++ codes " queries"
session_fault_text (session.TooManyColumns count) = codes "query refused: " ++ signed_decimal (pos count) ++ codes " columns in the session"
session_fault_text (session.TooLarge cells) = codes "query refused: " ++ signed_decimal (pos cells) ++ codes " cells in the session"
session_fault_text session.NoMemory = codes "no memory"

-- in a line of a script, which counts from 1, a query is refused as it is alone
abbrev pub line_fault_text : ℕ → List ℕ → List ℕ
line_fault_text line alone =
    codes "query refused: line " ++ signed_decimal (pos line) ++ codes ": " ++ drop (length (codes "query refused: ")) alone

-- places count from 0, from the file's first byte
abbrev pub file_fault_text : FileFault → List ℕ
file_fault_text file.BadMagic = codes "file refused: not a plane file"
file_fault_text (file.UnknownVersion found) = codes "file refused: version " ++ signed_decimal (pos found)
file_fault_text (file.BadHead at) = codes "file refused: bad head at " ++ signed_decimal (pos at)
file_fault_text (file.LimitPassed at) = codes "file refused: limit passed at " ++ signed_decimal (pos at)
file_fault_text (file.WrongSize found wanted) =
    codes "file refused: size " ++ signed_decimal (pos found) ++ codes ", not " ++ signed_decimal (pos wanted)
file_fault_text file.WentShort = codes "file refused: the store ended early"
file_fault_text file.Fault = codes "read fault"
file_fault_text file.NoMemory = codes "no memory"

-- the plane of a column, each counted from 1
abbrev pub plane_text : ℕ → ℕ → List ℕ
plane_text column plane =
    codes "file refused: column " ++ signed_decimal (pos (column + 1)) ++ codes " plane " ++ signed_decimal (pos (plane + 1))

abbrev pub over_top_text : ℕ → ℕ → ℕ → List ℕ
over_top_text column plane row = plane_text column plane ++ codes " row " ++ signed_decimal (pos (row + 1)) ++ codes " passes its top"

-- why a line of the reports of so many parts is refused; items count from 1
abbrev pub line_refusal_text : ℕ → LineRefusal → List ℕ
line_refusal_text parts refusal.NoTab = codes "no tab"
line_refusal_text parts refusal.NoTag = codes "a tag of no byte or more than 255"
line_refusal_text parts refusal.MoreParts = codes "more than " ++ signed_decimal (pos parts) ++ codes " parts"
line_refusal_text parts refusal.NoQuery = codes "no query"
line_refusal_text parts refusal.NoItems = codes "no query of totals, groups or first rows"
line_refusal_text parts refusal.OtherQuery = codes "another query"
line_refusal_text parts refusal.Unlisted = codes "possible rows are not listed"
line_refusal_text parts refusal.OtherLine = codes "no line of a report at this place"
line_refusal_text parts (refusal.OtherColumn column) =
    codes "scales of group column " ++ signed_decimal (pos (column + 1)) ++ codes " differ"
line_refusal_text parts (refusal.UnclearTag part) =
    codes "the tag of part " ++ signed_decimal (pos (part + 1)) ++ codes " has a space or a control character"
line_refusal_text parts refusal.OtherForm = codes "scales of the sort column differ"
line_refusal_text parts (refusal.OtherItem item) = codes "scales of item " ++ signed_decimal (pos (item + 1)) ++ codes " differ"
line_refusal_text parts (refusal.TooWide item) = codes "item " ++ signed_decimal (pos (item + 1)) ++ codes " too wide"
line_refusal_text parts refusal.TooLong = codes "longer than 65536 bytes"

-- lines of the input count from 1, and a tag is shown byte by byte as it stands
abbrev pub report_fault_text : ℕ → StreamFault → List ℕ
report_fault_text parts (stream.Line number why) =
    codes "report refused: line " ++ signed_decimal (pos number) ++ codes ": " ++ line_refusal_text parts why
report_fault_text parts (stream.EndsEarly tag) = codes "report refused: part " ++ tag ++ codes " ends early"
report_fault_text parts (stream.OtherCount count) =
    codes "report refused: " ++ signed_decimal (pos count) ++ codes " parts, not " ++ signed_decimal (pos parts)
report_fault_text parts stream.TooLong = codes "report refused: longer than 1073741824 bytes"
report_fault_text parts stream.ReadFault = codes "read fault"
report_fault_text parts stream.WriteFault = codes "write fault"
report_fault_text parts stream.NoMemory = codes "no memory"

abbrev pub fault_text : Refusal → List ℕ
fault_text (Usage place) = codes "usage: word " ++ signed_decimal (pos place)
fault_text (Query fault) = text_fault_text fault
fault_text (Schema fault) = schema_fault_text fault
fault_text (TooLong limit) = codes "table refused: longer than " ++ signed_decimal (pos limit) ++ codes " bytes"
fault_text (Table fault) = table_fault_text fault
fault_text TooManyRows = codes "table refused: more than 16777216 rows"
fault_text (Typing fault) = type_fault_text fault
fault_text (Reads fault) = reads_fault_text fault
fault_text (File fault) = file_fault_text fault
fault_text (PadBits column plane) = plane_text column plane ++ codes " has pad bits"
fault_text (OverTop column plane row) = over_top_text column plane row
fault_text (Script fault) = script_fault_text fault
fault_text (LineQuery line fault) = line_fault_text line (text_fault_text fault)
fault_text (LineTyping line fault) = line_fault_text line (type_fault_text fault)
fault_text (Session fault) = session_fault_text fault
fault_text (Report parts fault) = report_fault_text parts fault
fault_text ReadFault = codes "read fault"
fault_text WriteFault = codes "write fault"
fault_text NoMemory = codes "no memory"

abbrev pub fault_line : Refusal → List ℕ
fault_line why = codes "daq: " ++ fault_text why ++ codes "\n"

abbrev pub status_of : Refusal → Status
status_of (Usage place) = s.Usage
status_of (Query fault) = s.QueryRefused
status_of (Schema fault) = s.TableRefused
status_of (TooLong limit) = s.TableRefused
status_of (Table fault) = s.TableRefused
status_of TooManyRows = s.TableRefused
status_of (Typing fault) = s.QueryRefused
status_of (Reads fault) = s.QueryRefused
status_of (File _) = s.FileRefused
status_of (PadBits column plane) = s.FileRefused
status_of (OverTop column plane row) = s.FileRefused
status_of (Script fault) = s.QueryRefused
status_of (LineQuery line fault) = s.QueryRefused
status_of (LineTyping line fault) = s.QueryRefused
status_of (Session fault) = s.QueryRefused
status_of (Report parts fault) = s.ReportRefused
status_of ReadFault = s.ReadFault
status_of WriteFault = s.WriteFault
status_of NoMemory = s.NoMemory

-- the number that the process ends with
abbrev pub code_of : Status → ℕ
code_of s.Done = 0
code_of s.Usage = 2
code_of s.QueryRefused = 3
code_of s.TableRefused = 4
code_of s.FileRefused = 5
code_of s.ReadFault = 6
code_of s.WriteFault = 7
code_of s.NoMemory = 8
code_of s.ReportRefused = 9

-- the refusal's line was written and the status is its own, or a part of the line was written and the status is WriteFault
abbrev pub IsTold : Refusal → Status → SinkState → SinkState → Type 0
IsTold why status err err' =
    ((status ≡ status_of why) × Writes whole err err' (fault_line why))
    ⊎ ((status ≡ s.WriteFault) × Writes partly err err' (fault_line why))
