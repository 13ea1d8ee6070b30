use Rattle.std.proofs.Common.{◌≡◌, Some, to_z, of_z, ap, sym, subst, ◌∙◌, arith}
use Rattle.std.specs.Int.{w128}
use Rattle.std.proofs.lemmas.Int.{ints}
use Rattle.aggregates.specs.ExtremeRows.{IsExtremeRow}
use Rattle.aggregates.proofs.EndSums.{Counts}
use Rattle.aggregates.proofs.ExtremeEnds.{extreme_nowhere, extreme_there}
use Rattle.aggregates.proofs.ends.end_if.Goals as goal

pub returns-in-Some : goal.returns-in-Some
returns-in-Some c =
    let column = c.args.known.now in
    let counts : Counts column c.args.mask.now = record { sound = c.number_planes-planes.ensures.sound; rows = c.requires.rows; values = c.requires.values } in
    let there = subst (IsExtremeRow c.args.extreme column c.args.mask.now) c.in-Some.is c.requires.row in
    ap Some (let e : to_z w128 (of_z w128 c.end_at.result) ≡ c.end_at.result = omega (arith, ints) in e) ∙ ap Some c.end_at.ensures.end ∙ sym (extreme_there c.args.extreme c.args.end column c.args.mask.now c.in-Some.row counts there)

pub returns-in-None : goal.returns-in-None
returns-in-None c = sym (extreme_nowhere c.args.extreme c.args.end c.args.known.now c.args.mask.now (subst (IsExtremeRow c.args.extreme c.args.known.now c.args.mask.now) c.in-None.is c.requires.row))
