use Rattle.std.proofs.Common.{◌≡◌, ◌*◌, ◌≤◌}
use Rattle.query_model.specs.Queries.{condition_of}
use Rattle.kleene_filter.specs.Filters.{is_certain, is_possible, AreJudged, AreRightWhereSame}
use Rattle.kleene_filter.proofs.filter.judge_words.Given as goal

abbrev pub invariant-loop-number : goal.invariant-loop-number
invariant-loop-number l = record {
  lent : l.rows.frame.columns ≡ l.columns.frame.columns;
  from : 8 * l.block ≤ l.number;
  must : AreJudged is_certain (condition_of l.pred) l.columns (512 * l.block) (64 * l.number) l.fn.truths.must l.truths.must;
  may : AreJudged is_possible (condition_of l.pred) l.columns (512 * l.block) (64 * l.number) l.fn.truths.may l.truths.may;
  same : AreRightWhereSame (condition_of l.pred) l.columns (64 * l.number) l.truths.must l.truths.may;
}
