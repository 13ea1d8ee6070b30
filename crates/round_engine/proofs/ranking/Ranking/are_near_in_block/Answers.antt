use Rattle.std.proofs.Common.{◌*◌, sym, ◌∙◌}
use Rattle.round_engine.proofs.SortKeys.{block_of_none, one_more}
use Rattle.round_engine.proofs.ranking.Ranking.are_near_in_block.Goals as goal

pub returns-then-word-eq0-clause-near : goal.returns-then-word-eq0-clause-near
returns-then-word-eq0-clause-near c = λ near.
    block_of_none c.args.width c.args.columns.now c.args.self.now c.certain-certain.result.now c.args.block c.word.result c.requires.over c.certain-certain.ensures c.word.ensures c.if-word-eq0.true

pub loop-row-preserved : goal.loop-row-preserved
loop-row-preserved c =
    one_more c.args.width c.args.columns.now c.args.self.now (64 * c.args.block) c.loop-row.row c.loop-row.invariant (sym c.is_near_at.ensures ∙ c.if-not-is_near_at.false)
