use Rattle.std.proofs.Common.{None, Some, subst, ◌∙◌}
use Rattle.known_column.specs.Columns.{KnownColumn}
use Rattle.avg_exact.specs.Blocks.{IsThreshold}
use Rattle.avg_exact.proofs.ColumnPairs.{none_is, taken_is}
use Rattle.avg_exact.proofs.RowLists.{lent_column}
use Rattle.avg_exact.proofs.ways.count_taken.Goals as goal

pub returns-in-None-clause-tally : goal.returns-in-None-clause-tally
returns-in-None-clause-tally c =
    let stage = c.args.engine.now in
    let is = lent_column stage c.args.item c.args.planes.now.column c.requires.planes.over c.columns.result.now c.column.result.now c.columns.ensures c.column.ensures.column in
    none_is stage c.args.item c.args.planes.now.column c.requires.planes.over c.args.end c.args.over (subst (λ (k : KnownColumn). IsThreshold k c.args.end c.args.over None) is c.in-None.ensures)

pub returns-in-Some-clause-tally : goal.returns-in-Some-clause-tally
returns-in-Some-clause-tally c =
    let stage = c.args.engine.now in
    let is = lent_column stage c.args.item c.args.planes.now.column c.requires.planes.over c.columns.result.now c.column.result.now c.columns.ensures c.column.ensures.column in
    c.tally_part.ensures.tally
    ∙ taken_is stage c.args.item c.args.planes.now.column c.requires.planes.over c.args.end c.args.over c.in-Some.t (subst (λ (k : KnownColumn). IsThreshold k c.args.end c.args.over (Some c.in-Some.t)) is c.in-Some.ensures)
