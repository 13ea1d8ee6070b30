use Rattle.query_model.specs.Queries.{condition_of}
use Rattle.kleene_filter.proofs.Tracking.{size_of}
use Rattle.kleene_filter.proofs.unions.+union_end.Given as goal

abbrev pub decreases-union_end : goal.decreases-union_end
decreases-union_end l = size_of (condition_of l.pred.now)
