use Rattle.std.proofs.Common.{◌≡◌, ◌*◌, length}
use Rattle.query_model.specs.Queries.{condition_of}
use Rattle.kleene_filter.specs.Filters.{is_certain, is_possible, AreJudged, AreKept, AreRightWhereSame}
use Rattle.kleene_filter.proofs.filter.judge_blocks.Given as goal

abbrev pub invariant-loop-block : goal.invariant-loop-block
invariant-loop-block l = record {
  lent : l.rows.frame.columns ≡ l.columns.frame.columns;
  blocks : length l.truths.undecided ≡ length l.fn.truths.undecided;
  kept : AreKept l.truths;
  must : AreJudged is_certain (condition_of l.pred) l.columns 0 (512 * l.block) l.fn.truths.masks.must l.truths.masks.must;
  may : AreJudged is_possible (condition_of l.pred) l.columns 0 (512 * l.block) l.fn.truths.masks.may l.truths.masks.may;
  same : AreRightWhereSame (condition_of l.pred) l.columns (512 * l.block) l.truths.masks.must l.truths.masks.may;
}
