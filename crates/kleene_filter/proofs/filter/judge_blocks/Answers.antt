use Rattle.std.proofs.Common.{◌≡◌, ◌+◌, ◌*◌, false, refl, sym, subst, ◌∙◌, arith}
use Rattle.std.proofs.lemmas.List.FromFn.{fill_by_all}
use Rattle.std.proofs.lemmas.Simd.{map-map}
use Rattle.daq_table.specs.Tables.{rows_of}
use Rattle.query_model.specs.Queries.{condition_of}
use Rattle.kleene_filter.proofs.Judged.{judged_on, none_judged}
use Rattle.kleene_filter.specs.Filters.{is_certain, is_possible, truth_at, AreJudged}
use Rattle.kleene_filter.proofs.filter.judge_blocks.Goals as goal

pub loop-block-init : goal.loop-block-init
loop-block-init c =
    let pred = condition_of c.args.pred.now in
    let table = c.args.columns.now in
    let masks = c.args.truths.now.masks in
    record {
      lent = c.requires.rows;
      blocks = refl;
      kept = c.requires.kept;
      must = none_judged is_certain pred table 0 (512 * 0) masks.must (omega arith);
      may = none_judged is_possible pred table 0 (512 * 0) masks.may (omega arith);
      same = λ row first. c.requires.same row (omega arith);
    }

pub decide_block-requires-clause-must : goal.decide_block-requires-clause-must
decide_block-requires-clause-must c = c.loop-block.invariant.must.rows ∙ c.requires.must

pub decide_block-requires-clause-may : goal.decide_block-requires-clause-may
decide_block-requires-clause-may c = c.loop-block.invariant.may.rows ∙ c.requires.may

pub loop-block-preserved : goal.loop-block-preserved
loop-block-preserved c =
    let done = c.loop-block.invariant in
    let pred = condition_of c.args.pred.now in
    let table = c.args.columns.now in
    let old = c.args.truths.now.masks in
    let now = c.loop-block.truths.masks in
    let new = c.decide_block.new.truths.masks in
    let at = 512 * c.loop-block.block in
    let next : at + 512 ≡ 512 * (c.loop-block.block + 1) = omega arith in
    record {
      lent = c.decide_block.ensures.rows;
      blocks = c.decide_block.ensures.blocks ∙ done.blocks;
      kept = c.decide_block.ensures.kept;
      must = subst (λ to. AreJudged is_certain pred table 0 to old.must new.must) next (judged_on is_certain pred table 0 at (at + 512) old.must now.must new.must done.must c.decide_block.ensures.must (omega arith) (omega arith));
      may = subst (λ to. AreJudged is_possible pred table 0 to old.may new.may) next (judged_on is_possible pred table 0 at (at + 512) old.may now.may new.may done.may c.decide_block.ensures.may (omega arith) (omega arith));
      same = λ row first. c.decide_block.ensures.same row (omega (arith, first));
    }

pub returns-clause-must : goal.returns-clause-must
returns-clause-must c =
    let done = c.loop-block.invariant in
    let truth = truth_at (condition_of c.args.pred.now) c.args.columns.now in
    let settled = c.requires.kept.settled in
    fill_by_all (λ row. is_certain (truth row)) c.loop-block.truths.masks.must c.args.columns.now.frame.rows false (done.must.rows ∙ c.requires.must)
    (λ k below. done.must.here k (omega arith) (omega (arith, below, settled.room, c.requires.must)) below)
    ∙ sym (map-map is_certain truth (rows_of c.args.columns.now.frame))

pub returns-clause-may : goal.returns-clause-may
returns-clause-may c =
    let done = c.loop-block.invariant in
    let truth = truth_at (condition_of c.args.pred.now) c.args.columns.now in
    let settled = c.requires.kept.settled in
    fill_by_all (λ row. is_possible (truth row)) c.loop-block.truths.masks.may c.args.columns.now.frame.rows false (done.may.rows ∙ c.requires.may)
    (λ k below. done.may.here k (omega arith) (omega (arith, below, settled.room, c.requires.must)) below)
    ∙ sym (map-map is_possible truth (rows_of c.args.columns.now.frame))
