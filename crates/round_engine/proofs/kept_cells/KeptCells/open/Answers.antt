use Rattle.std.proofs.Common.{sym, subst}
use Rattle.std.proofs.lemmas.List.Elements.{All-push}
use Rattle.aggregates.specs.KeptSums.{MovesAnywhere}
use Rattle.round_engine.specs.KeptCells.{HaveBlocks, MayMove}
use Rattle.round_engine.proofs.kept_cells.KeptCells.open.Goals as goal

pub loop-cell-preserved : goal.loop-cell-preserved
loop-cell-preserved c =
    let known = c.args.known.now in
    let rows = c.rows-rows.ensures.rows in
    let sum = c.in_ok-open.field-0 in
    rw c.in_ok-push.ensures.items
    (All-push (MayMove known) c.loop-cell.sums.items sum c.loop-cell.invariant
    (record { is = c.in_ok-open.ensures.kept known (sym rows); moves = subst (λ n. MovesAnywhere n sum) rows c.in_ok-open.ensures.moves }))

pub returns : goal.returns
returns c = record { sums = c.loop-cell.invariant; blocks = subst (λ n. HaveBlocks n c.in_ok-blocks.blocks) c.rows-rows.ensures.rows c.in_ok-blocks.ensures }
