use Rattle.std.proofs.Common.{◌≡◌, false, length, drop, ap, sym, subst, ◌∙◌, arith}
use Rattle.query_model.specs.Answers.{groups_of}
use Rattle.row_groups.specs.Partition.{is_group}
use Rattle.round_engine.specs.CellAnswers.{IsParted, StandForEach}
use Rattle.round_engine.specs.Engines.{stage_of}
use Rattle.round_engine.specs.KeptCells.{HaveKeptParts}
use Rattle.round_engine.specs.KeptSums.{columns_of}
use Rattle.round_engine.specs.MovedCells.{WereEachBefore}
use Rattle.round_engine.specs.SeenRows.{HoldSeen}
use Rattle.round_engine.specs.Stages.{IsGrouped, IsOpenStage, Stage}
use Rattle.round_engine.proofs.CellKept.{parted_still, seen_held, written}
use Rattle.round_engine.proofs.KeptCells.{parts_stay}
use Rattle.round_engine.proofs.groups.Groups.follow_condition.Goals as goal

pub follow_presence-requires-clause-parted : goal.follow_presence-requires-clause-parted
follow_presence-requires-clause-parted c =
    let stood = c.requires.before in
    let stay = subst (λ (s : Stage). is_group (groups_of s.query.shape) c.args.column ≡ false) stood.read c.requires.cells_stay in
    subst (IsParted (stage_of c.args.query.now c.args.columns.now) c.args.self.now.cells) (sym c.deref.ensures.value)
    (subst (λ (s : Stage). IsParted s c.args.self.now.cells c.args.self.now.single.items) (sym stood.read)
    (parted_still stood.before c.args.column c.args.plane.now stood.open_stage c.others_leave_cells.ensures c.args.self.now.cells c.args.self.now.single.items stood.answered.parted stay))

pub follow_presence-requires-clause-seen : goal.follow_presence-requires-clause-seen
follow_presence-requires-clause-seen c =
    let stood = c.requires.before in
    subst (λ (s : Stage). HoldSeen s.frame.rows c.args.self.now.seen) (sym stood.read) (seen_held stood.before c.args.self.now.seen stood.answered.seen)

pub follow_presence-requires-clause-before : goal.follow_presence-requires-clause-before
follow_presence-requires-clause-before c =
    let stood = c.requires.before in
    record {
      before = stood.before;
      was = record {
        bits = c.args.plane.now;
        open_stage = stood.open_stage;
        legal = stood.legal;
        read = stood.read;
        cells_stay = subst (λ (s : Stage). is_group (groups_of s.query.shape) c.args.column ≡ false) stood.read c.requires.cells_stay;
        rows = stood.answered.seen;
      };
      stood = stood.answered.presence;
    }

pub follow_each-requires-clause-parted : goal.follow_each-requires-clause-parted
follow_each-requires-clause-parted c =
    let stood = c.requires.before in
    let stay = subst (λ (s : Stage). is_group (groups_of s.query.shape) c.args.column ≡ false) stood.read c.requires.cells_stay in
    subst (IsParted (stage_of c.args.query.now c.args.columns.now) c.args.self.now.cells) (sym c.deref.ensures.value)
    (subst (λ (s : Stage). IsParted s c.args.self.now.cells c.args.self.now.single.items) (sym stood.read)
    (parted_still stood.before c.args.column c.args.plane.now stood.open_stage c.others_leave_cells.ensures c.args.self.now.cells c.args.self.now.single.items stood.answered.parted stay))

pub follow_each-requires-clause-seen : goal.follow_each-requires-clause-seen
follow_each-requires-clause-seen c =
    let stood = c.requires.before in
    subst (λ (s : Stage). HoldSeen s.frame.rows c.args.self.now.seen) (sym stood.read) (seen_held stood.before c.args.self.now.seen stood.answered.seen)

pub take-requires-clause-rows : goal.take-requires-clause-rows
take-requires-clause-rows c =
    let stood = c.requires.before in
    subst (λ (s : Stage). HoldSeen s.frame.rows c.args.self.now.seen) (sym stood.read) (seen_held stood.before c.args.self.now.seen stood.answered.seen)

pub follow_each-requires-clause-before : goal.follow_each-requires-clause-before
follow_each-requires-clause-before c =
    let stood = c.requires.before in
    subst (WereEachBefore (stage_of c.args.query.now c.args.columns.now) c.args.column c.args.self.now.seen.must c.args.self.now.seen.may) (sym c.deref_mut.ensures.value)
    (record {
      before = stood.before;
      was = record {
        bits = c.args.plane.now;
        open_stage = stood.open_stage;
        legal = stood.legal;
        read = stood.read;
        cells_stay = subst (λ (s : Stage). is_group (groups_of s.query.shape) c.args.column ≡ false) stood.read c.requires.cells_stay;
        rows = stood.answered.seen;
      };
      stood = stood.answered.items;
    })

pub follow_each-requires-clause-kept : goal.follow_each-requires-clause-kept
follow_each-requires-clause-kept c =
    let stood = c.requires.before in
    subst (HaveKeptParts c.args.columns.now c.args.query.now.items) (sym c.deref_mut-2.ensures.value)
    (subst (λ (s : Stage). HaveKeptParts (columns_of s) s.query.items c.args.self.now.kept.items) (sym stood.read)
    (parts_stay stood.before c.args.column c.args.plane.now c.args.self.now.kept.items stood.open_stage (subst IsOpenStage stood.read c.requires.open_stage) (c.requires.rows ∙ ap (λ (s : Stage). s.frame.rows) stood.read) stood.answered.kept))

pub returns-clause-answers : goal.returns-clause-answers
returns-clause-answers c =
    let stood = c.requires.before in
    let stay = subst (λ (s : Stage). is_group (groups_of s.query.shape) c.args.column ≡ false) stood.read c.requires.cells_stay in
    let new = c.follow_each.new.runnings in
    let old = c.args.self.now.runnings in
    let was = ap (λ (s : Stage). length s.query.items) stood.read in
    let same = written new (drop (length new) old.items) old.len (omega (arith, old.ok.0, c.follow_each.ensures.stand.count, stood.answered.items.count, was)) in
    let new_kept = c.follow_each.new.kept in
    let old_kept = c.args.self.now.kept in
    let same_kept = written new_kept (drop (length new_kept) old_kept.items) old_kept.len (omega (arith, old_kept.ok.0, c.follow_each.ensures.kept.count, stood.answered.kept.count, was)) in
    record {
      grouped = subst (λ (s : Stage). IsGrouped s.query.shape) (sym stood.read) stood.answered.grouped;
      parted = subst (λ (s : Stage). IsParted s c.args.self.now.cells c.args.self.now.single.items) (sym stood.read)
          (parted_still stood.before c.args.column c.args.plane.now stood.open_stage c.others_leave_cells.ensures c.args.self.now.cells c.args.self.now.single.items stood.answered.parted stay);
      presence = c.follow_presence.ensures.stand;
      items = subst (StandForEach (stage_of c.args.query.now c.args.columns.now)) (sym same) c.follow_each.ensures.stand;
      masks = c.follow_each.ensures.masks;
      seen = c.take.ensures;
      kept = subst (HaveKeptParts c.args.columns.now c.args.query.now.items) (sym same_kept) c.follow_each.ensures.kept;
    }
