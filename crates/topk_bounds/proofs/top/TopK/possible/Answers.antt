use Rattle.std.proofs.Common.{map, ap, ◌∙◌}
use Rattle.topk_bounds.specs.Standings.{Kept, is_possible}
use Rattle.topk_bounds.proofs.Judging.{possible_marks}
use Rattle.topk_bounds.proofs.top.TopK.possible.Goals as goal

pub returns : goal.returns
returns c = possible_marks c.self.inside.certain c.self.inside.possible c.self.invariant.3 ∙ ap (λ (k : Kept). map is_possible k.standings) c.self.view_is
