use Rattle.std.proofs.Common.{◌+◌, ap, sum_by}
use Rattle.std.specs.Int.Count.{ones}
use Rattle.kleene_filter.proofs.truth_masks.recounted.Goals as goal

pub returns-then-are_same : goal.returns-then-are_same
returns-then-are_same c = ap (λ l. c.args.count + sum_by ones l) (c.are_same.ensures c.if-are_same.true)
