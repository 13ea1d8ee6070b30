use Rattle.std.proofs.Common.{◌∙◌, ◌+◌, ◌-◌, drop, length, sym, take}
use Rattle.std.proofs.lemmas.List.{take_rest}
use Rattle.shard_groups.proofs.Done.{two_cells}
use Rattle.shard_groups.proofs.shares.only.Goals as goal

pub returns-then-is_some-clause-none : goal.returns-then-is_some-clause-none
returns-then-is_some-clause-none c =
    let cells = c.args.cells.now in
    let next = c.in_ok-at.at + 1 in
    two_cells c.args.line.now cells (take (length cells - next) (drop next cells)) c.in_ok-at.at c.first_within-2.result c.in_ok-at.ensures.found
    (take_rest cells next) c.first_within-2.ensures.found (sym c.is_some.ensures ∙ c.if-is_some.true)
