use Rattle.std.proofs.Common.{sym}
use Rattle.daq_cli.proofs.report_faults.written_line_refusal.Goals as goal

pub returns-in-UnclearTag-clause-text : goal.returns-in-UnclearTag-clause-text
returns-in-UnclearTag-clause-text c = rw c.in-UnclearTag.is (rw (sym c.after-in-UnclearTag.ensures) c.with_number-in-UnclearTag.ensures.text)
