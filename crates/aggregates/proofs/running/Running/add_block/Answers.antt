use Rattle.std.proofs.Common.{arith, sym, subst, set, length}
use Rattle.std.specs.List.{range_with_len}
use Rattle.aggregates.specs.BlockPairs.{AreAllAdded, MayGetAll, pairs_in}
use Rattle.aggregates.specs.Runnings.{Tallies}
use Rattle.aggregates.proofs.Adding.{seen, stands_as, stands_within}
use Rattle.aggregates.proofs.BlockAdding.{are_added, ordered_rows}
use Rattle.aggregates.proofs.running.Running.add_block.Goals as goal

pub add_block-requires-clause-room : goal.add_block-requires-clause-room
add_block-requires-clause-room c =
    let ps = c.requires.room.pairs in
    let inside = c.self.inside in
    let qs = pairs_in c.args.may c.args.must c.args.spans.now in
    record {
      pairs = ps;
      kept = stands_as inside.kind inside.cells inside.tallies.items c.args.self.now c.args.cell ps c.index_mut.result.now c.self.view_is c.requires.room.stands c.index_mut.ensures.value;
      ordered = c.requires.room.stands.ordered;
      may_get = subst (λ (r : Tallies). MayGetAll r.kind ps qs) (sym c.self.view_is) c.requires.room.may_get;
    }

pub index_mut-requires : goal.index_mut-requires
index_mut-requires c =
    let inside = c.self.inside in
    let within = stands_within inside.kind inside.cells inside.tallies.items c.args.self.now c.args.cell c.requires.room.pairs c.self.view_is c.requires.room.stands in
    let in_room = within.1 in
    omega (arith, inside.tallies.ok.0)

pub returns : goal.returns
returns c =
    let inside = c.self.inside in
    let qs = pairs_in c.args.may c.args.must c.args.spans.now in
    let within = stands_within inside.kind inside.cells inside.tallies.items c.args.self.now c.args.cell c.requires.room.pairs c.self.view_is c.requires.room.stands in
    subst (λ (r : Tallies). AreAllAdded r (seen inside.kind inside.cells (set inside.tallies.items c.args.cell c.add_block.new.self)) c.args.cell qs) c.self.view_is
    (are_added inside.kind inside.cells inside.tallies.items c.args.cell c.index_mut.result.now c.add_block.new.self qs within.0 within.1
    (ordered_rows c.args.may c.args.must c.args.spans.now (range_with_len 0 (length c.args.spans.now))) c.index_mut.ensures.value c.add_block.ensures)
