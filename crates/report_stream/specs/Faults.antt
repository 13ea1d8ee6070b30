-- What the refusals of the steps are to the whole.
use Rattle.std.specs.Prelude.{ℕ}
use Rattle.query_kinds.specs.declared.fault.KindsFault.{KindsFault}
use Rattle.query_kinds.specs.declared.fault.KindsFault.TheVariants as k
use Rattle.report_parts.specs.declared.fault.BlockFault.{BlockFault}
use Rattle.report_parts.specs.declared.fault.BlockFault.TheVariants as b
use Rattle.report_parts.specs.declared.fault.InputFault.{InputFault}
use Rattle.report_parts.specs.declared.fault.InputFault.TheVariants as i
use Rattle.report_parts.specs.declared.fault.LineFault.TheVariants as l
use Rattle.source_lines.specs.declared.fault.LineFault.{LineFault}
use Rattle.source_lines.specs.declared.fault.LineFault.TheVariants as s
use Rattle.report_stream.specs.declared.fault.LineRefusal.TheVariants as r
use Rattle.report_stream.specs.declared.fault.StreamFault.{StreamFault}
use Rattle.report_stream.specs.declared.fault.StreamFault.TheVariants.{Line, NoMemory, ReadFault, TooLong}

-- the line with that number is refused by the parts
abbrev pub of_input : ℕ → InputFault → StreamFault
of_input line i.NoTab = Line line r.NoTab
of_input line i.NoTag = Line line r.NoTag
of_input line i.OtherPart = Line line r.MoreParts
of_input line (i.Line l.OtherQuery) = Line line r.OtherQuery
of_input line (i.Line l.Unlisted) = Line line r.Unlisted
of_input line (i.Line l.OtherLine) = Line line r.OtherLine
of_input line (i.Line l.NoMemory) = NoMemory

-- the first line is that of no query of totals, groups or first rows
abbrev pub of_kinds : KindsFault → StreamFault
of_kinds k.NoQuery = Line 1 r.NoQuery
of_kinds k.NoTotals = Line 1 r.NoItems
of_kinds k.NoMemory = NoMemory

-- behind the line with that number a block is not written
abbrev pub of_block : ℕ → BlockFault → StreamFault
of_block line (b.OtherColumn column) = Line line (r.OtherColumn column)
of_block line (b.OtherItem item) = Line line (r.OtherItem item)
of_block line (b.TooWide item) = Line line (r.TooWide item)
of_block line (b.UnclearTag part) = Line line (r.UnclearTag part)
of_block line b.OtherForm = Line line r.OtherForm
of_block line b.NoMemory = NoMemory

-- the line with that number does not come
abbrev pub of_source : ℕ → LineFault → StreamFault
of_source line s.Fault = ReadFault
of_source line s.LineTooLong = Line line r.TooLong
of_source line s.TooLong = TooLong
of_source line s.NoMemory = NoMemory
