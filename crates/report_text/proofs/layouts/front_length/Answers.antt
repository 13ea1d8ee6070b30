use Rattle.std.proofs.Common.{sym}
use Rattle.daq_table.proofs.Places.{no_place}
use Rattle.report_text.specs.Layouts.{is_other}
use Rattle.report_text.proofs.layouts.front_length.Goals as goal

pub returns-in-None-clause-place : goal.returns-in-None-clause-place
returns-in-None-clause-place c = no_place is_other c.args.text.now (sym c.in-None.ensures)
