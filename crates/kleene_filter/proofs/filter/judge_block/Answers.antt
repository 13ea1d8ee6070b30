use Rattle.std.proofs.Common.{◌+◌, ◌*◌, arith}
use Rattle.query_model.specs.Queries.{condition_of}
use Rattle.kleene_filter.proofs.Judged.{right_behind}
use Rattle.kleene_filter.proofs.filter.judge_block.Goals as goal

pub returns-then-any-clause-same : goal.returns-then-any-clause-same
returns-then-any-clause-same c =
    let old = c.args.truths.now in
    let new = c.judge_words.new.truths in
    right_behind (condition_of c.args.pred.now) c.args.columns.now (512 * c.args.block) (512 * c.args.block + 512) old.must old.may new.must new.may c.requires.same c.judge_words.ensures.must c.judge_words.ensures.may (omega arith)

pub returns-else-any-clause-same : goal.returns-else-any-clause-same
returns-else-any-clause-same c =
    let old = c.args.truths.now in
    let new = c.judge_at_once.new.truths in
    right_behind (condition_of c.args.pred.now) c.args.columns.now (512 * c.args.block) (512 * c.args.block + 512) old.must old.may new.must new.may c.requires.same c.judge_at_once.ensures.must c.judge_at_once.ensures.may (omega arith)
