use Rattle.std.proofs.Common.{map, ap, ◌∙◌}
use Rattle.topk_bounds.specs.Standings.{Kept, is_certain}
use Rattle.topk_bounds.proofs.Judging.{certain_marks}
use Rattle.topk_bounds.proofs.top.TopK.certain.Goals as goal

pub returns : goal.returns
returns c = certain_marks c.self.inside.certain c.self.inside.possible c.self.invariant.3 ∙ ap (λ (k : Kept). map is_certain k.standings) c.self.view_is
