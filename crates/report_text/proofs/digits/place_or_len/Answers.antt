use Rattle.std.proofs.Common.{◌==◌, sym}
use Rattle.daq_table.proofs.Places.{no_place}
use Rattle.report_text.proofs.digits.place_or_len.Goals as goal

pub returns-in-None-clause-place : goal.returns-in-None-clause-place
returns-in-None-clause-place c = no_place (λ x. x == c.args.byte) c.args.bytes.now (sym c.in-None.ensures)
