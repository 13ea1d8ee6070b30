use Rattle.query_model.specs.Queries.{condition_of}
use Rattle.kleene_filter.proofs.Tracking.{size_of}
use Rattle.kleene_filter.proofs.unions.+add_rows.Given as goal

abbrev pub decreases-add_rows : goal.decreases-add_rows
decreases-add_rows l = size_of (condition_of l.pred.now)
