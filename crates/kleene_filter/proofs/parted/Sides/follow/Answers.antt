use Rattle.std.proofs.Common.{◌≡◌, sym, subst, rules, to_z, of_z}
use Rattle.std.proofs.lemmas.Int.{to_z-of_z}
use Rattle.std.specs.Int.{w128}
use Rattle.kleene_filter.specs.Parted.{Had, HasSides, IsParted}
use Rattle.kleene_filter.proofs.parted.Sides.follow.Goals as goal

pub follow-requires : goal.follow-requires
follow-requires c =
    let v = c.args.value in
    let fits : to_z w128 (of_z w128 v) ≡ v = to_z-of_z w128 v (search rules) in
    subst (λ n. Had (λ before. IsParted before c.args.op n c.in-Parted.parted) c.args.column.now c.args.plane.now) (sym fits)
    (subst (λ s. Had (λ before. HasSides before c.args.op v s) c.args.column.now c.args.plane.now) c.in-Parted.is c.requires)
