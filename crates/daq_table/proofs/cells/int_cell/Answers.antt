use Rattle.std.proofs.lemmas.Str.{IsUtf8-from_ascii}
use Rattle.daq_table.proofs.Digits.{signed_ascii}
use Rattle.daq_table.proofs.cells.int_cell.Goals as goal

pub returns-in-Err : goal.returns-in-Err
returns-in-Err c = λ cell. c.in-Err.ensures.cases.0 (IsUtf8-from_ascii c.args.bytes.now (signed_ascii c.args.bytes.now cell.digits.1))
