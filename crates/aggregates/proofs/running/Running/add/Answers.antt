use Rattle.std.proofs.Common.{◌≡◌, ◌+ℤ◌, arith, ap, sym, subst, set, FitsSigned}
use Rattle.std.specs.Int.{w128}
use Rattle.query_model.specs.Bounds.{certain_count, low_share, high_share}
use Rattle.aggregates.specs.declared.tally.Tally.{Tally}
use Rattle.aggregates.specs.Tallies.{pair_with, MayGet}
use Rattle.aggregates.specs.Runnings.{Tallies, IsAdded}
use Rattle.aggregates.proofs.Adding.{few_certain, is_added, low_sum_fits, high_sum_fits, seen, stands_as, stands_within}
use Rattle.aggregates.proofs.running.Running.add.Goals as goal

pub add-requires-clause-few_certain : goal.add-requires-clause-few_certain
add-requires-clause-few_certain c =
    let ps = c.requires.pairs in
    let inside = c.self.inside in
    let is = stands_as inside.kind inside.cells inside.tallies.items c.args.self.now c.args.cell ps c.index_mut.result.now c.self.view_is c.requires.stands c.index_mut.ensures.value in
    let certain : c.index_mut.result.now.certain ≡ certain_count ps = ap (λ (t : Tally). t.certain) is in
    let few = c.requires.may_get.few in
    omega (arith, certain, few_certain ps)

pub add-requires-clause-low : goal.add-requires-clause-low
add-requires-clause-low c = λ sums.
    let ps = c.requires.pairs in
    let inside = c.self.inside in
    let p = pair_with c.args.certain c.args.span in
    let is = stands_as inside.kind inside.cells inside.tallies.items c.args.self.now c.args.cell ps c.index_mut.result.now c.self.view_is c.requires.stands c.index_mut.ensures.value in
    let may : MayGet inside.kind ps p = subst (λ (r : Tallies). MayGet r.kind ps p) (sym c.self.view_is) c.requires.may_get in
    subst (λ (t : Tally). FitsSigned w128 (t.low_sum +ℤ low_share p)) (sym is) (low_sum_fits inside.kind ps p c.requires.stands.ordered c.args.span.ordered may sums)

pub add-requires-clause-high : goal.add-requires-clause-high
add-requires-clause-high c = λ sums.
    let ps = c.requires.pairs in
    let inside = c.self.inside in
    let p = pair_with c.args.certain c.args.span in
    let is = stands_as inside.kind inside.cells inside.tallies.items c.args.self.now c.args.cell ps c.index_mut.result.now c.self.view_is c.requires.stands c.index_mut.ensures.value in
    let may : MayGet inside.kind ps p = subst (λ (r : Tallies). MayGet r.kind ps p) (sym c.self.view_is) c.requires.may_get in
    subst (λ (t : Tally). FitsSigned w128 (t.high_sum +ℤ high_share p)) (sym is) (high_sum_fits inside.kind ps p c.requires.stands.ordered c.args.span.ordered may sums)

pub index_mut-requires : goal.index_mut-requires
index_mut-requires c =
    let inside = c.self.inside in
    let within = stands_within inside.kind inside.cells inside.tallies.items c.args.self.now c.args.cell c.requires.pairs c.self.view_is c.requires.stands in
    let in_room = within.1 in
    omega (arith, inside.tallies.ok.0)

pub returns : goal.returns
returns c =
    let inside = c.self.inside in
    let p = pair_with c.args.certain c.args.span in
    let within = stands_within inside.kind inside.cells inside.tallies.items c.args.self.now c.args.cell c.requires.pairs c.self.view_is c.requires.stands in
    subst (λ (r : Tallies). IsAdded r (seen inside.kind inside.cells (set inside.tallies.items c.args.cell c.add.new.self)) c.args.cell p) c.self.view_is
    (is_added inside.kind inside.cells inside.tallies.items c.args.cell c.index_mut.result.now c.add.new.self p within.0 within.1 c.args.span.ordered c.index_mut.ensures.value c.add.ensures)
