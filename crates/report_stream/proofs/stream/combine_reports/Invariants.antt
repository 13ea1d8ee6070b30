-- What holds as lines are taken: what was read, taken and written so far.
use Rattle.std.proofs.Common.{◌+◌, ◌-◌, ◌*◌, length}
use Rattle.source_lines.specs.Lines.{most_bytes}
use Rattle.report_stream.proofs.Runs.{Runs}
use Rattle.report_stream.proofs.stream.combine_reports.Given as goal

abbrev pub invariant-lines : goal.invariant-lines
invariant-lines g l =
    Runs l.fn.count l.fn.until (g.S.Source.state l.fn.input) (g.S.Source.state l.input) (g.K.Sink.state l.fn.out) (g.K.Sink.state l.out)
    l.reader l.combination l.text.items l.number

abbrev pub decreases-lines : goal.decreases-lines
decreases-lines g l = 2 * (most_bytes - l.reader.total) + length l.reader.pending
