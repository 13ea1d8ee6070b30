use Rattle.query_model.specs.Queries.{condition_of}
use Rattle.kleene_filter.proofs.Tracking.{size_of}
use Rattle.kleene_filter.proofs.judging.+pred_truths.Given as goal

abbrev pub decreases-pred_truths : goal.decreases-pred_truths
decreases-pred_truths g l = size_of (condition_of l.pred.now)
