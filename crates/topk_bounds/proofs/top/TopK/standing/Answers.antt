use Rattle.std.proofs.Common.{Some, length, slice_get, sym, ap, ◌∙◌, arith}
use Rattle.topk_bounds.specs.Standings.{Kept}
use Rattle.topk_bounds.proofs.Judging.{apart_length, marks_stand, stands_length}
use Rattle.topk_bounds.proofs.top.TopK.standing.Goals as goal

pub get-requires : goal.get-requires
get-requires c = omega (arith, c.requires, ap (λ (k : Kept). length k.standings) c.self.view_is, stands_length c.self.inside.certain c.self.inside.possible c.self.invariant.3)

pub get-requires-2 : goal.get-requires-2
get-requires-2 c =
    omega (arith, c.requires, ap (λ (k : Kept). length k.standings) c.self.view_is, stands_length c.self.inside.certain c.self.inside.possible c.self.invariant.3, apart_length c.self.inside.certain c.self.inside.possible c.self.invariant.3)

pub returns : goal.returns
returns c =
    ap (λ (k : Kept). slice_get k.standings c.args.row) (sym c.self.view_is)
    ∙ marks_stand c.self.inside.certain c.self.inside.possible c.args.row c.get.result c.get-2.result c.get.ensures c.get-2.ensures ∙ ap (λ s. Some s) (sym c.standing_of_marks.ensures)
