use Rattle.std.proofs.Common.{◌+◌, ◌*◌, ◌∙◌, arith}
use Rattle.query_model.specs.Queries.{condition_of}
use Rattle.kleene_filter.specs.Filters.{is_certain, is_possible}
use Rattle.kleene_filter.proofs.Judged.{judged_block, judged_to, none_judged}
use Rattle.kleene_filter.proofs.filter.judge_words.Goals as goal

pub loop-number-init : goal.loop-number-init
loop-number-init c =
    let pred = condition_of c.args.pred.now in
    let table = c.args.columns.now in
    let from = 512 * c.args.block in
    record {
      lent = c.requires.rows;
      from = omega arith;
      must = none_judged is_certain pred table from (64 * (8 * c.args.block)) c.args.truths.now.must (omega arith);
      may = none_judged is_possible pred table from (64 * (8 * c.args.block)) c.args.truths.now.may (omega arith);
      same = λ row first. c.requires.same row (omega (arith, first));
    }

pub judge_word-requires-clause-must : goal.judge_word-requires-clause-must
judge_word-requires-clause-must c = c.loop-number.invariant.must.rows ∙ c.requires.must

pub judge_word-requires-clause-may : goal.judge_word-requires-clause-may
judge_word-requires-clause-may c = c.loop-number.invariant.may.rows ∙ c.requires.may

pub loop-number-preserved : goal.loop-number-preserved
loop-number-preserved c =
    let pred = condition_of c.args.pred.now in
    let table = c.args.columns.now in
    let from = 512 * c.args.block in
    let n = c.loop-number.number in
    let done = c.loop-number.invariant in
    let old = c.args.truths.now in
    let now = c.loop-number.truths in
    let new = c.judge_word.new.truths in
    record {
      lent = c.judge_word.ensures.rows;
      from = (let first = done.from in omega (arith, first));
      must = judged_block is_certain pred table from n old.must now.must new.must done.must c.judge_word.ensures.must (omega (arith, done.from));
      may = judged_block is_possible pred table from n old.may now.may new.may done.may c.judge_word.ensures.may (omega (arith, done.from));
      same = λ row first. c.judge_word.ensures.same row (omega (arith, first));
    }

pub returns-clause-must : goal.returns-clause-must
returns-clause-must c =
    judged_to is_certain (condition_of c.args.pred.now) c.args.columns.now (512 * c.args.block) (64 * c.loop-number.number) (512 * c.args.block + 512) c.args.truths.now.must c.loop-number.truths.must c.loop-number.invariant.must
    (omega arith) (λ k h inside. omega (arith, h, inside))

pub returns-clause-may : goal.returns-clause-may
returns-clause-may c =
    judged_to is_possible (condition_of c.args.pred.now) c.args.columns.now (512 * c.args.block) (64 * c.loop-number.number) (512 * c.args.block + 512) c.args.truths.now.may c.loop-number.truths.may c.loop-number.invariant.may
    (omega arith) (λ k h inside. omega (arith, h, inside))
