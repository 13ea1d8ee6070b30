use Rattle.std.proofs.Common.{◌≡◌, false, length, drop, refl, ap, sym, subst, ◌∙◌, arith}
use Rattle.query_model.specs.Answers.{every_row}
use Rattle.round_engine.specs.CellAnswers.{IsParted, StandForCells, StandForEach, StandForOthers, moves_rows}
use Rattle.round_engine.specs.Engines.{stage_of}
use Rattle.round_engine.specs.KeptCells.{HaveKeptParts}
use Rattle.round_engine.specs.KeptSums.{columns_of}
use Rattle.round_engine.specs.Moves.{AreMoved}
use Rattle.round_engine.specs.ReadCells.{WereEach}
use Rattle.round_engine.specs.SeenRows.{WereRows}
use Rattle.round_engine.specs.Stages.{IsGrouped, IsOpenStage, Stage}
use Rattle.round_engine.proofs.CellKept.{moved_for_others, parted_still, rows_stay, seen_still, stand_still, written}
use Rattle.round_engine.proofs.KeptCells.{parts_stay}
use Rattle.round_engine.proofs.groups.Groups.refresh.Goals as goal

pub read_each-requires-clause-parted : goal.read_each-requires-clause-parted
read_each-requires-clause-parted c =
    let stood = c.requires.before in
    let stay = subst (λ (s : Stage). moves_rows s.query c.args.column ≡ false) stood.read (sym c.moves_rows.ensures ∙ c.if-moves_rows.false) in
    subst (IsParted (stage_of c.args.query.now c.args.columns.now) c.args.self.now.cells) (sym c.deref.ensures.value)
    (subst (λ (s : Stage). IsParted s c.args.self.now.cells c.args.self.now.single.items) (sym stood.read)
    (parted_still stood.before c.args.column c.args.plane.now stood.open_stage c.others_leave_cells.ensures c.args.self.now.cells c.args.self.now.single.items stood.answered.parted (rows_stay stood.before.query c.args.column stay)))

pub read_each-requires-clause-others : goal.read_each-requires-clause-others
read_each-requires-clause-others c =
    let stood = c.requires.before in
    let stay = subst (λ (s : Stage). moves_rows s.query c.args.column ≡ false) stood.read (sym c.moves_rows.ensures ∙ c.if-moves_rows.false) in
    let moved = subst (λ (s : Stage). AreMoved s.query c.args.column c.moved_items-moved.result) stood.read c.moved_items-moved.ensures in
    subst (StandForOthers (stage_of c.args.query.now c.args.columns.now) c.moved_items-moved.result) (sym c.deref_mut.ensures.value)
    (subst (λ (s : Stage). StandForOthers s c.moved_items-moved.result c.args.self.now.runnings.items) (sym stood.read)
    (moved_for_others stood.before c.args.column c.args.plane.now c.moved_items-moved.result c.args.self.now.runnings.items stay moved stood.answered.items))

pub read_each-requires-clause-before : goal.read_each-requires-clause-before
read_each-requires-clause-before c =
    let stood = c.requires.before in
    let stay = subst (λ (s : Stage). moves_rows s.query c.args.column ≡ false) stood.read (sym c.moves_rows.ensures ∙ c.if-moves_rows.false) in
    subst (WereEach (stage_of c.args.query.now c.args.columns.now) c.args.column c.args.plane.now) (sym c.deref_mut.ensures.value)
    (record { before = stood.before; step = record { open_stage = stood.open_stage; read = stood.read; stays = stay }; stood = stood.answered.items })

pub read_each-requires-clause-kept : goal.read_each-requires-clause-kept
read_each-requires-clause-kept c =
    let stood = c.requires.before in
    subst (HaveKeptParts c.args.columns.now c.args.query.now.items) (sym c.deref_mut-else-moves_rows.ensures.value)
    (subst (λ (s : Stage). HaveKeptParts (columns_of s) s.query.items c.args.self.now.kept.items) (sym stood.read)
    (parts_stay stood.before c.args.column c.args.plane.now c.args.self.now.kept.items stood.open_stage (subst IsOpenStage stood.read c.requires.open_stage) (c.requires.rows ∙ ap (λ (s : Stage). s.frame.rows) stood.read) stood.answered.kept))

pub returns-else-moves_rows-clause-answers : goal.returns-else-moves_rows-clause-answers
returns-else-moves_rows-clause-answers c =
    let stood = c.requires.before in
    let stay = subst (λ (s : Stage). moves_rows s.query c.args.column ≡ false) stood.read (sym c.moves_rows.ensures ∙ c.if-moves_rows.false) in
    let new = c.read_each.new.runnings in
    let old = c.args.self.now.runnings in
    let was = ap (λ (s : Stage). length s.query.items) stood.read in
    let same = written new (drop (length new) old.items) old.len (omega (arith, old.ok.0, c.read_each.ensures.stand.count, stood.answered.items.count, was)) in
    let new_kept = c.read_each.new.kept in
    let old_kept = c.args.self.now.kept in
    let same_kept = written new_kept (drop (length new_kept) old_kept.items) old_kept.len (omega (arith, old_kept.ok.0, c.read_each.ensures.kept.count, stood.answered.kept.count, was)) in
    record {
      grouped = subst (λ (s : Stage). IsGrouped s.query.shape) (sym stood.read) stood.answered.grouped;
      parted = subst (λ (s : Stage). IsParted s c.args.self.now.cells c.args.self.now.single.items) (sym stood.read)
          (parted_still stood.before c.args.column c.args.plane.now stood.open_stage c.others_leave_cells.ensures c.args.self.now.cells c.args.self.now.single.items stood.answered.parted (rows_stay stood.before.query c.args.column stay));
      presence = subst (λ (s : Stage). StandForCells s every_row c.args.self.now.presence) (sym stood.read)
          (stand_still stood.before c.args.column c.args.plane.now every_row c.args.self.now.presence stay refl stood.answered.presence);
      items = subst (StandForEach (stage_of c.args.query.now c.args.columns.now)) (sym same) c.read_each.ensures.stand;
      masks = c.read_each.ensures.masks;
      seen = subst (λ (s : Stage). WereRows s c.args.self.now.seen.must c.args.self.now.seen.may) (sym stood.read)
          (seen_still stood.before c.args.column c.args.plane.now c.args.self.now.seen stay stood.answered.seen);
      kept = subst (HaveKeptParts c.args.columns.now c.args.query.now.items) (sym same_kept) c.read_each.ensures.kept;
    }
