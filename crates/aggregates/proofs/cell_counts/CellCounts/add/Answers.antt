use Rattle.std.proofs.Common.{◌≡◌, arith, ap, subst, set}
use Rattle.query_model.specs.Bounds.{certain_count}
use Rattle.query_model.specs.declared.query.ItemKind.TheVariants.{Count}
use Rattle.aggregates.specs.declared.tally.Tally.{Tally}
use Rattle.aggregates.specs.Tallies.{pair_with}
use Rattle.aggregates.specs.Runnings.{Tallies, IsAdded}
use Rattle.aggregates.proofs.Adding.{few_certain, is_added, seen, stands_as, stands_within}
use Rattle.aggregates.proofs.cell_counts.CellCounts.add.Goals as goal

pub add-requires-clause-few_certain : goal.add-requires-clause-few_certain
add-requires-clause-few_certain c = λ may.
    let room = c.requires.room may in
    let ps = room.pairs in
    let inside = c.self.inside in
    let is = stands_as Count inside.cells inside.counts.items c.args.self.now c.args.cell ps c.index_mut.result.now c.self.view_is room.stands c.index_mut.ensures.value in
    let certain : c.index_mut.result.now.certain ≡ certain_count ps = ap (λ (t : Tally). t.certain) is in
    let few = room.few in
    omega (arith, certain, few, few_certain ps)

pub returns-clause-added : goal.returns-clause-added
returns-clause-added c = λ may span.
    let room = c.requires.room may in
    let inside = c.self.inside in
    let p = pair_with c.args.certain span in
    let within = stands_within Count inside.cells inside.counts.items c.args.self.now c.args.cell room.pairs c.self.view_is room.stands in
    subst (λ (r : Tallies). IsAdded r (seen Count inside.cells (set inside.counts.items c.args.cell c.add.new.self)) c.args.cell p) c.self.view_is
    (is_added Count inside.cells inside.counts.items c.args.cell c.index_mut.result.now c.add.new.self p within.0 within.1 span.ordered c.index_mut.ensures.value (λ ps. c.add.ensures.added may ps span))
