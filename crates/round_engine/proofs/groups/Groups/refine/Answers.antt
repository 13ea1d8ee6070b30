use Rattle.std.proofs.Common.{◌≡◌, ◌++◌, false, length, take, drop, IsTrue, refl, ap, sym, subst, ◌∙◌, arith}
use Rattle.query_model.specs.Answers.{groups_of}
use Rattle.row_groups.specs.Partition.{AreCells, RowCells, is_group, refined}
use Rattle.round_engine.specs.CellAnswers.{IsParted, TellSingle}
use Rattle.round_engine.specs.Stages.{IsOpenStage, Stage, stepped}
use Rattle.round_engine.proofs.CellKept.{cells_more, group_below, group_unread, parted_holds, parted_more, parted_rows, parted_still, written}
use Rattle.round_engine.proofs.CellRows.{cells_fit, groups_within}
use Rattle.round_engine.proofs.KeptCells.{parts_stay}
use Rattle.round_engine.proofs.groups.Groups.refine.Goals as goal

pub overflow_cast-column : goal.overflow_cast-column
overflow_cast-column c =
    let kept = c.requires.open_stage.open_query in
    let is : IsTrue (is_group (groups_of c.args.query.now.shape) c.args.column) = sym c.is_group.ensures ∙ c.if-is_group.true in
    let below = group_below (length c.args.columns.now.frame.columns) (groups_of c.args.query.now.shape) c.args.column (groups_within c.args.query.now c.args.columns.now.frame kept) is in
    omega (arith, below, kept.columns, kept.few_columns)

pub part_cells-requires-clause-unread : goal.part_cells-requires-clause-unread
part_cells-requires-clause-unread c =
    let stood = c.requires.before in
    let is : IsTrue (is_group (groups_of c.args.query.now.shape) c.args.column) = sym c.is_group.ensures ∙ c.if-is_group.true in
    group_unread stood.before c.args.column c.args.plane.now stood.open_stage c.args.self.now.cells stood.answered.parted.cells_are
    (subst IsOpenStage stood.read c.requires.open_stage) (subst (λ (s : Stage). IsTrue (is_group (groups_of s.query.shape) c.args.column)) stood.read is)

pub part_cells-requires-clause-rows : goal.part_cells-requires-clause-rows
part_cells-requires-clause-rows c =
    let stood = c.requires.before in
    c.requires.rows ∙ ap (λ (s : Stage). s.frame.rows) stood.read ∙ sym (parted_rows stood.before c.args.self.now.cells c.args.self.now.single.items stood.answered.parted)

pub tell_single-requires : goal.tell_single-requires
tell_single-requires c =
    let stood = c.requires.before in
    let next = stepped stood.before c.args.column c.args.plane.now in
    let kept = subst IsOpenStage stood.read c.requires.open_stage in
    let cells = c.part_cells.new.cells in
    let is = subst (λ (s : Stage). IsTrue (is_group (groups_of s.query.shape) c.args.column)) stood.read (sym c.is_group.ensures ∙ c.if-is_group.true) in
    let long = c.requires.rows ∙ ap (λ (s : Stage). s.frame.rows) stood.read in
    let are = subst (AreCells next.frame next.known (groups_of next.query.shape)) (sym c.part_cells.ensures)
    (cells_more stood.before c.args.column c.args.plane.now stood.open_stage c.refining_stands.ensures c.args.self.now.cells stood.answered.parted.cells_are long is) in
    let counted = (c.cells_tell_keys.ensures next.frame next.known (groups_of next.query.shape) cells are).count in
    omega (arith, counted, cells_fit next kept, ap length c.deref_mut.ensures.value, stood.answered.parted.room)

pub returns-then-is_group : goal.returns-then-is_group
returns-then-is_group c =
    let stood = c.requires.before in
    let is = subst (λ (s : Stage). IsTrue (is_group (groups_of s.query.shape) c.args.column)) stood.read (sym c.is_group.ensures ∙ c.if-is_group.true) in
    let long = c.requires.rows ∙ ap (λ (s : Stage). s.frame.rows) stood.read in
    let single = c.args.self.now.single in
    let value = ap length c.deref_mut.ensures.value in
    let room = c.tell_single.ensures.room in
    let same = written c.tell_single.new.single (drop (length c.tell_single.new.single) single.items) single.len (omega (arith, value, single.ok.0, room)) in
    parted_holds stood.before _ c.args.column c.args.plane.now c.args.self.now _ stood.read stood.answered
    (subst (λ cells. IsParted (stepped stood.before c.args.column c.args.plane.now) cells (take single.len (c.tell_single.new.single ++ drop (length c.tell_single.new.single) single.items))) (sym c.part_cells.ensures)
    (subst (IsParted (stepped stood.before c.args.column c.args.plane.now) (refined c.args.self.now.cells c.args.column c.args.plane.now)) (sym same)
    (parted_more stood.before c.args.column c.args.plane.now stood.open_stage c.refining_stands.ensures c.args.self.now.cells single.items c.tell_single.new.single stood.answered.parted long is
    (subst (λ (cells : RowCells). TellSingle cells.parts c.tell_single.new.single) c.part_cells.ensures c.tell_single.ensures.told) (omega (arith, value, room)))))
    refl refl refl refl refl
    (parts_stay stood.before c.args.column c.args.plane.now c.args.self.now.kept.items stood.open_stage (subst IsOpenStage stood.read c.requires.open_stage) (c.requires.rows ∙ ap (λ (s : Stage). s.frame.rows) stood.read) stood.answered.kept)

pub returns-else-is_group : goal.returns-else-is_group
returns-else-is_group c =
    let stood = c.requires.before in
    let other = subst (λ (s : Stage). is_group (groups_of s.query.shape) c.args.column ≡ false) stood.read (sym c.is_group.ensures ∙ c.if-is_group.false) in
    parted_holds stood.before _ c.args.column c.args.plane.now c.args.self.now c.args.self.now stood.read stood.answered
    (parted_still stood.before c.args.column c.args.plane.now stood.open_stage c.others_leave_cells.ensures c.args.self.now.cells c.args.self.now.single.items stood.answered.parted other)
    refl refl refl refl refl
    (parts_stay stood.before c.args.column c.args.plane.now c.args.self.now.kept.items stood.open_stage (subst IsOpenStage stood.read c.requires.open_stage) (c.requires.rows ∙ ap (λ (s : Stage). s.frame.rows) stood.read) stood.answered.kept)
