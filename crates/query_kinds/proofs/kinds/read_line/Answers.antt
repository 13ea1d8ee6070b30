use Rattle.std.proofs.Common.{rules}
use Rattle.query_kinds.proofs.OneKind.{line_fault, rows_fault}
use Rattle.query_kinds.proofs.kinds.read_line.Goals as goal

pub returns-in-Err-clause-fault : goal.returns-in-Err-clause-fault
returns-in-Err-clause-fault c =
    let own = line_fault c.args.line.now c.in-Some.text.now c.in-Err.fault c.in-Some.ensures.0 c.in-Err.ensures.only in
    search (rules, own)

pub returns-in-Err-clause-rows : goal.returns-in-Err-clause-rows
returns-in-Err-clause-rows c =
    let own = rows_fault c.args.line.now c.in-Some.text.now c.in-Err.fault c.in-Some.ensures.0 c.in-Err.ensures.only in
    search (rules, own)
