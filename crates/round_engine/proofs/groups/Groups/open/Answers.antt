use Rattle.std.proofs.Common.{length, ap, sym, subst, ◌∙◌, arith}
use Rattle.query_model.specs.Answers.{groups_of}
use Rattle.round_engine.specs.CellAnswers.{HaveCells, TellSingle}
use Rattle.round_engine.specs.Engines.{stage_of}
use Rattle.round_engine.specs.OneCell.{HoldMasks}
use Rattle.round_engine.specs.SeenRows.{HoldSeen}
use Rattle.round_engine.proofs.CellKept.{opened_cells, written}
use Rattle.round_engine.proofs.CellRows.{cells_fit}
use Rattle.round_engine.proofs.groups.Groups.open.Goals as goal

pub tell_single-requires : goal.tell_single-requires
tell_single-requires c =
    let columns = c.args.columns.now in
    let groups = groups_of c.args.query.now.shape in
    let cells = c.in_ok-cells.cells in
    let are = opened_cells c.opening_stands.ensures columns groups cells c.requires.unread c.in_ok-cells.ensures in
    let counted = (c.cells_tell_keys.ensures columns.frame columns.known groups cells are).count in
    let value = ap length c.deref_mut.ensures.value in
    let len = c.in_ok-single.ensures.len in
    let ok = c.in_ok-single.single.ok.0 in
    omega (arith, counted, value, len, ok, c.most_cells-most.ensures, cells_fit (stage_of c.args.query.now columns) c.requires.open_stage)

pub returns : goal.returns
returns c =
    let columns = c.args.columns.now in
    let groups = groups_of c.args.query.now.shape in
    let cells = c.in_ok-cells.cells in
    let value = ap length c.deref_mut.ensures.value in
    let len = c.in_ok-single.ensures.len in
    let ok = c.in_ok-single.single.ok.0 in
    let room = c.tell_single.ensures.room in
    let most = c.most_cells-most.ensures in
    let same = written c.tell_single.new.single _ c.in_ok-single.single.len (omega (arith, value, ok, room)) in
    record {
      grouped = c.requires.grouped;
      parted = record {
        cells_are = opened_cells c.opening_stands.ensures columns groups cells c.requires.unread c.in_ok-cells.ensures;
        single_are = subst (TellSingle cells.parts) (sym same) c.tell_single.ensures.told;
        room = ap length same ∙ omega (arith, value, len, ok, room, most);
      };
      presence = record { kind = c.in_ok-presence.ensures.kind_is; room = c.in_ok-presence.ensures.room_is ∙ most };
      items = subst (λ n. HaveCells c.args.query.now.items n c.in_ok-runnings.runnings.items) most c.in_ok-runnings.ensures;
      masks = subst (λ n. HoldMasks n c.in_ok-masks.masks) c.rows.ensures.rows c.in_ok-masks.ensures;
      seen = subst (λ n. HoldSeen n c.in_ok-seen.seen) c.rows-2.ensures.rows c.in_ok-seen.ensures;
      kept = c.in_ok-kept.ensures;
    }
