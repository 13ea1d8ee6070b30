use Rattle.std.proofs.Common.{◌≡◌, ◌∷◌, [], ◌++◌, ◌∙◌, arith, ap, sym, subst, set}
use Rattle.query_model.specs.Bounds.{Pair, certain_count}
use Rattle.aggregates.specs.declared.tally.Tally.{Tally}
use Rattle.std.specs.Int.{w64}
use Rattle.std.proofs.lemmas.Int.{to_z-of_z}
use Rattle.query_model.specs.declared.query.ItemKind.TheVariants.{Sum}
use Rattle.aggregates.specs.Tallies.{tally_of}
use Rattle.aggregates.specs.Runnings.{Tallies, IsAdded}
use Rattle.aggregates.proofs.Adding.{few_certain, is_added, seen, stands_as, stands_within}
use Rattle.aggregates.proofs.SumsOfCells.{again, sum_tally}
use Rattle.aggregates.proofs.cell_sums.CellSums.add.Goals as goal

pub add-requires-clause-few_certain : goal.add-requires-clause-few_certain
add-requires-clause-few_certain c = λ may.
    let room = c.requires.room may in
    let ps = room.pairs in
    let inside = c.self.inside in
    let is = stands_as inside.kind inside.cells inside.sums.items c.args.self.now c.args.cell ps c.index_mut.result.now c.self.view_is room.stands c.index_mut.ensures.value in
    let certain : c.index_mut.result.now.certain ≡ certain_count ps = ap (λ (t : Tally). t.certain) is in
    let few = room.few in
    omega (arith, certain, few, few_certain ps)

pub returns-clause-added : goal.returns-clause-added
returns-clause-added c = λ may.
    let room = c.requires.room may in
    let inside = c.self.inside in
    let sums = c.self.invariant.1 in
    let p : Pair = record { certain = c.args.certain; low = c.args.low; high = c.args.high } in
    let within = stands_within inside.kind inside.cells inside.sums.items c.args.self.now c.args.cell room.pairs c.self.view_is room.stands in
    subst (λ (r : Tallies). IsAdded r (seen inside.kind inside.cells (set inside.sums.items c.args.cell c.add.new.self)) c.args.cell p) c.self.view_is
    (is_added inside.kind inside.cells inside.sums.items c.args.cell c.index_mut.result.now c.add.new.self p within.0 within.1 c.requires.fits.ordered c.index_mut.ensures.value
    (λ ps is. c.add.ensures.added may ps (is ∙ sum_tally inside.kind ps sums)
    ∙ ap (λ n. tally_of Sum (ps ++ (record { certain = c.args.certain; low = n; high = again c.args.high }) ∷ [])) (to_z-of_z w64 c.args.low c.ranges.low)
    ∙ ap (λ n. tally_of Sum (ps ++ (record { certain = c.args.certain; low = c.args.low; high = n }) ∷ [])) (to_z-of_z w64 c.args.high c.ranges.high)
    ∙ sym (sum_tally inside.kind (ps ++ p ∷ []) sums)))
