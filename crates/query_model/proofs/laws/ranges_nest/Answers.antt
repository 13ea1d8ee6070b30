use Rattle.query_model.proofs.Nesting.{ranges_narrower}
use Rattle.query_model.proofs.laws.ranges_nest.Goals as goal

pub returns : goal.returns
returns c = λ frame known column bits r d k t r_in. ranges_narrower frame known column bits r k t r_in d
