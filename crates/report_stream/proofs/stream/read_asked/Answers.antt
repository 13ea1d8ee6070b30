use Rattle.std.proofs.Common.{sym, subst}
use Rattle.report_stream.proofs.Steps.{first_refused}
use Rattle.report_stream.specs.Steps.{IsFirstFault}
use Rattle.report_stream.proofs.stream.read_asked.Goals as goal

pub returns-in-Err-clause-refused : goal.returns-in-Err-clause-refused
returns-in-Err-clause-refused c =
    subst (IsFirstFault c.args.first.now) (sym c.of_input.ensures) (first_refused c.args.first.now c.in-Err.fault c.in-Err.ensures.refused)
