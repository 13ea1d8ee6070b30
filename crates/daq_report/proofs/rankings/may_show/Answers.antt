-- A word of 0 has no row.
use Rattle.std.proofs.Common.{◌<◌, ◌*◌, ◌-◌, ◌∙◌, min, subst, sym}
use Rattle.std.proofs.lemmas.Bool.{false≢true}
use Rattle.topk_bounds.specs.Standings.{is_certain, is_possible}
use Rattle.daq_report.specs.Rankings.{standing_at}
use Rattle.daq_report.proofs.Shown.{block_hidden, empty_word, mask_rows, word_of_none}
use Rattle.daq_report.proofs.rankings.may_show.Goals as goal

pub word-requires : goal.word-requires
word-requires c = subst (λ rows. 64 * c.args.block < rows) (sym (mask_rows c.args.engine.now _ _ c.certain_rows.ensures)) c.requires.block

pub word-requires-then-list : goal.word-requires-then-list
word-requires-then-list c = subst (λ rows. 64 * c.args.block < rows) (sym (mask_rows c.args.engine.now _ _ c.possible_rows.ensures)) c.requires.block

pub returns-then-list : goal.returns-then-list
returns-then-list c = λ none.
    let stage = c.args.engine.now in
    let block = c.args.block in
    block_hidden stage c.args.list (64 * block) (min 64 (stage.frame.rows - 64 * block))
    (λ r above below. empty_word stage (λ k. is_certain (standing_at stage k)) c.certain_rows.result.now block c.word.result r c.certain_rows.ensures c.word.ensures c.if-word-ne0.false above below)
    (λ listed r above below.
    empty_word stage (λ k. is_possible (standing_at stage k)) c.possible_rows.result.now block c.word-then-list.result r c.possible_rows.ensures c.word-then-list.ensures
    (word_of_none c.word-then-list.result none) above below)

pub returns-else-list : goal.returns-else-list
returns-else-list c = λ unlisted.
    let stage = c.args.engine.now in
    let block = c.args.block in
    block_hidden stage c.args.list (64 * block) (min 64 (stage.frame.rows - 64 * block))
    (λ r above below. empty_word stage (λ k. is_certain (standing_at stage k)) c.certain_rows.result.now block c.word.result r c.certain_rows.ensures c.word.ensures c.if-word-ne0.false above below)
    (λ listed. absurd (false≢true (sym unlisted ∙ listed)))
