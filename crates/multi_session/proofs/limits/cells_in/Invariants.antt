use Rattle.std.proofs.Common.{◌≡◌, ◌*◌, ◌≤◌, length, sum_by, take}
use Rattle.multi_session.proofs.limits.cells_in.Given as goal

abbrev pub invariant-loop-query : goal.invariant-loop-query
invariant-loop-query l = record {
  counted : l.columns ≡ sum_by (λ query. length query.columns) (take l.query-index l.queries);
  few : l.columns ≤ 16 * l.query-index;
}
