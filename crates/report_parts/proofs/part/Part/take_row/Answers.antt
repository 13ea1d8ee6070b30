use Rattle.report_parts.proofs.RowTurns.{none_listed}
use Rattle.report_parts.proofs.Turns.{refused_when}
use Rattle.report_parts.proofs.part.Part.take_row.Goals as goal

pub returns-then-not-branch-clause-taken : goal.returns-then-not-branch-clause-taken
returns-then-not-branch-clause-taken c =
    none_listed c.args.shape.now c.in-Some.asked c.args.self.now c.list_row.new.self c.args.line.now c.in-Some.is c.in_ok-list_row.ensures.rest
    (refused_when _ _ _ c.if-not-branch.true c.in_ok-list_row.ensures.listed)
