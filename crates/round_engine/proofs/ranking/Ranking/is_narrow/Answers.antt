use Rattle.std.proofs.Common.{sym, ◌∙◌}
use Rattle.round_engine.proofs.SortKeys.{asked, is_over, narrow_ranking, not_asked, some_possible}
use Rattle.round_engine.proofs.ranking.Ranking.is_narrow.Goals as goal

pub returns-then-count-ne0 : goal.returns-then-count-ne0
returns-then-count-ne0 c =
    let count = c.count.result in
    sym (narrow_ranking c.args.near c.args.query.now c.args.columns.now c.args.self.now c.possible.result.now count c.requires.ranking c.possible.ensures c.count.ensures ∙ some_possible count _ c.if-count-ne0.true)

pub returns-then-not-near : goal.returns-then-not-near
returns-then-not-near c =
    let count = c.count.result in
    sym (narrow_ranking c.args.near c.args.query.now c.args.columns.now c.args.self.now c.possible.result.now count c.requires.ranking c.possible.ensures c.count.ensures ∙ not_asked count c.args.near.keys _ c.if-count-ne0.false c.if-not-near.true)

pub returns-else-not-near : goal.returns-else-not-near
returns-else-not-near c =
    let count = c.count.result in
    c.keys_are_near.ensures
    ∙ sym (narrow_ranking c.args.near c.args.query.now c.args.columns.now c.args.self.now c.possible.result.now count c.requires.ranking c.possible.ensures c.count.ensures ∙ asked count c.args.near.keys _ c.if-count-ne0.false c.if-not-near.false)

pub keys_are_near-requires : goal.keys_are_near-requires
keys_are_near-requires c = record { over = is_over c.args.query.now c.args.columns.now c.args.self.now c.requires.open_stage c.requires.ranking }
