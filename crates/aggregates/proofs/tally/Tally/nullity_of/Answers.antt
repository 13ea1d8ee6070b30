use Rattle.std.proofs.Common.{◌≡◌, length, ap, arith}
use Rattle.query_model.specs.Bounds.{certain_count}
use Rattle.aggregates.specs.declared.tally.Tally.{Tally}
use Rattle.aggregates.proofs.BoundFacts.{nullity_of-certain, nullity_of-uncertain}
use Rattle.aggregates.proofs.tally.Tally.nullity_of.Goals as goal

pub returns-then-self-gt0 : goal.returns-then-self-gt0
returns-then-self-gt0 c = λ kind ps e.
    let certain : c.args.self.certain ≡ certain_count ps = ap (λ (t : Tally). t.certain) e in
    nullity_of-certain ps (omega (arith, certain))

pub returns-else-self-gt0 : goal.returns-else-self-gt0
returns-else-self-gt0 c = λ kind ps e.
    let certain : c.args.self.certain ≡ certain_count ps = ap (λ (t : Tally). t.certain) e in
    let all : c.args.self.all ≡ length ps = ap (λ (t : Tally). t.all) e in
    nullity_of-uncertain ps (omega (arith, all)) (omega (arith, certain))
