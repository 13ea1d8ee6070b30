-- What the fault of each step is to the run.
use Rattle.std.specs.Prelude.{ℕ}
use Rattle.daq_table.specs.declared.schema_fault.SchemaFault.{SchemaFault}
use Rattle.daq_table.specs.declared.schema_fault.SchemaFault.TheVariants as s
use Rattle.csv_load.specs.declared.fault.TableFault.{TableFault}
use Rattle.csv_load.specs.declared.fault.TableFault.TheVariants as t
use Rattle.multi_session.specs.declared.limits.SessionFault.{SessionFault}
use Rattle.multi_session.specs.declared.limits.SessionFault.TheVariants as m
use Rattle.outer_world.specs.declared.whole.ReadAllFault.{ReadAllFault}
use Rattle.outer_world.specs.declared.whole.ReadAllFault.TheVariants as all
use Rattle.plane_file.specs.declared.file_fault.FileFault.{FileFault}
use Rattle.plane_file.specs.declared.file_fault.FileFault.TheVariants as f
use Rattle.plane_file.specs.declared.write_fault.FileWriteFault.{FileWriteFault}
use Rattle.plane_file.specs.declared.write_fault.FileWriteFault.TheVariants as w
use Rattle.plane_file.specs.declared.plane_fault.PlaneFault.{PlaneFault}
use Rattle.plane_file.specs.declared.plane_fault.PlaneFault.TheVariants as d
use Rattle.plane_file.specs.declared.table_fault.TableReadFault.{TableReadFault}
use Rattle.plane_file.specs.declared.table_fault.TableReadFault.TheVariants as files
use Rattle.plane_reads.specs.declared.fault.ReadsFault.{ReadsFault}
use Rattle.plane_reads.specs.declared.fault.ReadsFault.TheVariants as r
use Rattle.session_script.specs.declared.fault.ScriptFault.{ScriptFault}
use Rattle.session_script.specs.declared.fault.ScriptFault.TheVariants as c
use Rattle.sql_text.specs.declared.fault.SqlFault.{SqlFault}
use Rattle.sql_text.specs.declared.fault.SqlFault.TheVariants as q
use Rattle.sql_typing.specs.declared.fault.TypeFault.{TypeFault}
use Rattle.sql_typing.specs.declared.fault.TypeFault.TheVariants as y
use Rattle.table_gen.specs.declared.fault.GenFault.{GenFault}
use Rattle.report_stream.specs.declared.fault.StreamFault.{StreamFault}
use Rattle.report_stream.specs.declared.fault.StreamFault.TheVariants as p
use Rattle.plane_course.specs.declared.reading.StepFault.{StepFault}
use Rattle.plane_course.specs.declared.reading.StepFault.TheVariants as steps
use Rattle.plane_course.specs.declared.reading.StepFault.TheVariants.{Source}
use Rattle.daq_cli.specs.declared.stop.Stop.{Stop}
use Rattle.daq_cli.specs.declared.stop.Stop.TheVariants.{Failed, Step}
use Rattle.table_gen.specs.declared.fault.GenFault.TheVariants as g
use Rattle.daq_cli.specs.declared.refusal.Refusal.{Refusal}
use Rattle.daq_cli.specs.declared.refusal.Refusal.TheVariants.{Query, Schema, TooLong, Table, TooManyRows, Typing}
use Rattle.daq_cli.specs.declared.refusal.Refusal.TheVariants.{Reads, File, PadBits, OverTop, Script, LineQuery}
use Rattle.daq_cli.specs.declared.refusal.Refusal.TheVariants.{LineTyping, Session, Report, ReadFault, WriteFault, NoMemory}

-- want of memory is the run's, and any other fault is shown as it stands
abbrev pub text : SqlFault → Refusal
text q.NoMemory = NoMemory
text fault = Query fault

abbrev pub schema : SchemaFault → Refusal
schema s.NoMemory = NoMemory
schema fault = Schema fault

abbrev pub table : TableFault → Refusal
table t.NoMemory = NoMemory
table fault = Table fault

abbrev pub typing : TypeFault → Refusal
typing y.NoMemory = NoMemory
typing fault = Typing fault

abbrev pub reads : ReadsFault → Refusal
reads r.NoMemory = NoMemory
reads fault = Reads fault

abbrev pub generator : GenFault → Refusal
generator g.TooMany = TooManyRows
generator g.NoMemory = NoMemory

abbrev pub input : ReadAllFault → Refusal
input all.Fault = ReadFault
input (all.TooLong limit) = TooLong limit
input all.NoMemory = NoMemory

-- that a script has too many bytes is a fault of the script
abbrev pub side : ReadAllFault → Refusal
side all.Fault = ReadFault
side (all.TooLong limit) = Script (c.TooLong limit)
side all.NoMemory = NoMemory

abbrev pub script : ScriptFault → Refusal
script c.NoMemory = NoMemory
script fault = Script fault

abbrev pub line_text : ℕ → SqlFault → Refusal
line_text line q.NoMemory = NoMemory
line_text line fault = LineQuery line fault

abbrev pub line_typing : ℕ → TypeFault → Refusal
line_typing line y.NoMemory = NoMemory
line_typing line fault = LineTyping line fault

abbrev pub session : SessionFault → Refusal
session m.NoMemory = NoMemory
session fault = Session fault

abbrev pub opening : FileFault → Refusal
opening f.Fault = ReadFault
opening f.NoMemory = NoMemory
opening fault = File fault

abbrev pub writing : FileWriteFault → Refusal
writing w.Fault = WriteFault
writing w.NoMemory = NoMemory

abbrev pub plane : PlaneFault → Refusal
plane d.Fault = ReadFault
plane (d.PadBits column number) = PadBits column number
plane d.WentShort = File f.WentShort

abbrev pub reading : TableReadFault → Refusal
reading (files.File fault) = opening fault
reading (files.Plane fault) = plane fault
reading (files.OverTop column number row) = OverTop column number row
reading files.NoMemory = NoMemory

abbrev pub step : StepFault PlaneFault → Refusal
step (Source fault) = plane fault
step (steps.OverTop column number row) = OverTop column number row

abbrev pub stop : Stop PlaneFault → Refusal
stop Failed = WriteFault
stop (Step fault) = step fault

-- the reports of so many parts are not combined
abbrev pub reports : ℕ → StreamFault → Refusal
reports parts p.ReadFault = ReadFault
reports parts p.WriteFault = WriteFault
reports parts p.NoMemory = NoMemory
reports parts fault = Report parts fault
