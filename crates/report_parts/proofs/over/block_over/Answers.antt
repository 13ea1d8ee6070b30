use Rattle.report_parts.proofs.Said.{said_totals}
use Rattle.report_parts.proofs.over.block_over.Goals as goal

pub returns-then-shape-eq0-clause-said : goal.returns-then-shape-eq0-clause-said
returns-then-shape-eq0-clause-said c =
    said_totals c.args.round c.args.shape.now c.args.parts.now c.as_slice-kinds.result.now c.if-shape-eq0.true c.in_default.is c.as_slice-kinds.ensures
    c.in_ok-entries.ensures.said
