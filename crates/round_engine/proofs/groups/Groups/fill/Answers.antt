use Rattle.std.proofs.Common.{length, drop, sym, subst, arith}
use Rattle.round_engine.specs.CellAnswers.{HaveCells, StandForEach, most_cells}
use Rattle.round_engine.specs.Engines.{stage_of}
use Rattle.round_engine.specs.KeptCells.{HaveKeptParts}
use Rattle.round_engine.proofs.CellKept.{written}
use Rattle.round_engine.proofs.groups.Groups.fill.Goals as goal

pub fill_all-requires-clause-room : goal.fill_all-requires-clause-room
fill_all-requires-clause-room c =
    let stage = stage_of c.args.query.now c.args.columns.now in
    subst (HaveCells stage.query.items (most_cells stage)) (sym c.deref_mut.ensures.value) c.requires.room.items

pub fill_all-requires-clause-kept : goal.fill_all-requires-clause-kept
fill_all-requires-clause-kept c = subst (HaveKeptParts c.args.columns.now c.args.query.now.items) (sym c.deref_mut-2.ensures.value) c.requires.room.kept

pub returns-clause-answers : goal.returns-clause-answers
returns-clause-answers c =
    let room = c.requires.room in
    let new = c.fill_all.new.runnings in
    let old = c.args.self.now.runnings in
    let same = written new (drop (length new) old.items) old.len (omega (arith, old.ok.0, c.fill_all.ensures.stand.count, room.items.count)) in
    let new_kept = c.fill_all.new.kept in
    let old_kept = c.args.self.now.kept in
    let same_kept = written new_kept (drop (length new_kept) old_kept.items) old_kept.len (omega (arith, old_kept.ok.0, c.fill_all.ensures.kept.count, room.kept.count)) in
    record {
      grouped = room.grouped;
      parted = room.parted;
      presence = c.fill_presence-told.ensures.stand;
      items = subst (StandForEach (stage_of c.args.query.now c.args.columns.now)) (sym same) c.fill_all.ensures.stand;
      masks = c.fill_all.ensures.masks;
      seen = c.take.ensures;
      kept = subst (HaveKeptParts c.args.columns.now c.args.query.now.items) (sym same_kept) c.fill_all.ensures.kept;
    }
