use Rattle.std.proofs.Common.{◌≡◌, pos, ap, ◌∙◌, length, arith}
use Rattle.std.proofs.lemmas.Int.{ints}
use Rattle.aggregates.proofs.BoundFacts.{nullity_of-certain, nullity_of-uncertain}
use Rattle.query_model.specs.declared.bounds.Bound.{Bound}
use Rattle.query_model.specs.Answers.{every_row}
use Rattle.query_model.specs.Bounds.{bound_of, certain_count}
use Rattle.query_model.specs.Groups.{pairs_in_cell}
use Rattle.round_engine.proofs.CellKept.{same_cells}
use Rattle.round_engine.proofs.groups.Groups.absence.Goals as goal

pub returns-then-count-gt0 : goal.returns-then-count-gt0
returns-then-count-gt0 c = λ stage are.
    let r = c.requires in
    let cell = c.args.cell in
    let ps = pairs_in_cell stage.query every_row cell stage.frame stage.known in
    let told = c.bound-count.ensures ps (are.presence.stands cell (same_cells stage r.stage every_row every_row c.args.self.now.presence cell are.presence r.answered.presence r.within))
    ∙ ap (λ k. bound_of k ps) are.presence.has_room.kind in
    let low : c.bound-count.result.lo ≡ pos (certain_count ps) = ap (λ (b : Bound). b.lo) told in
    nullity_of-certain ps (omega (arith, ints, low, c.if-count-gt0.true))

pub returns-else-count-gt0 : goal.returns-else-count-gt0
returns-else-count-gt0 c = λ stage are.
    let r = c.requires in
    let cell = c.args.cell in
    let ps = pairs_in_cell stage.query every_row cell stage.frame stage.known in
    let told = c.bound-count.ensures ps (are.presence.stands cell (same_cells stage r.stage every_row every_row c.args.self.now.presence cell are.presence r.answered.presence r.within))
    ∙ ap (λ k. bound_of k ps) are.presence.has_room.kind in
    let low : c.bound-count.result.lo ≡ pos (certain_count ps) = ap (λ (b : Bound). b.lo) told in
    let high : c.bound-count.result.hi ≡ pos (length ps) = ap (λ (b : Bound). b.hi) told in
    nullity_of-uncertain ps (omega (arith, ints, high, c.if-count-eq0.false)) (omega (arith, ints, low, c.if-count-gt0.false))
