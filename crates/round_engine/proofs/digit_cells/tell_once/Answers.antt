use Rattle.std.proofs.Common.{◌≡◌, take, ap, sym, subst, ◌∙◌, arith}
use Rattle.aggregates.specs.Runnings.{IsBlank}
use Rattle.query_model.specs.Queries.{Aggregate}
use Rattle.query_model.specs.Answers.{groups_of}
use Rattle.round_engine.specs.CellAnswers.{StandBelow}
use Rattle.round_engine.specs.Cells.{cells_in}
use Rattle.round_engine.specs.DigitCells.{AreToldByDigits}
use Rattle.round_engine.specs.Engines.{stage_of}
use Rattle.round_engine.proofs.CellRows.{cells_fit}
use Rattle.round_engine.proofs.CompactCells.{blank_stand}
use Rattle.round_engine.proofs.DigitCells.{column_never}
use Rattle.round_engine.proofs.digit_cells.tell_once.Goals as goal

pub begin-requires-clause-cells : goal.begin-requires-clause-cells
begin-requires-clause-cells c =
    let stage = stage_of c.args.query.now c.args.columns.now in
    let counted = (c.cells_tell_keys.ensures c.args.columns.now.frame c.args.columns.now.known (groups_of c.args.query.now.shape) c.args.rows.cells.now c.requires.parted.cells_are).count in
    omega (arith, counted, c.count-cells.ensures, cells_fit stage c.requires.open_stage, c.requires.parted.room, c.room.ensures, c.if-room-rows.false)

pub begin-requires-clause-certain : goal.begin-requires-clause-certain
begin-requires-clause-certain c =
    let stage = stage_of c.args.query.now c.args.columns.now in
    let counted = (c.cells_tell_keys.ensures c.args.columns.now.frame c.args.columns.now.known (groups_of c.args.query.now.shape) c.args.rows.cells.now c.requires.parted.cells_are).count in
    omega (arith, counted, c.count-cells.ensures, cells_fit stage c.requires.open_stage, c.requires.parted.room)

pub sum_rows-requires-clause-before : goal.sum_rows-requires-clause-before
sum_rows-requires-clause-before c =
    let stage = stage_of c.args.query.now c.args.columns.now in
    let item = c.args.item.now in
    let counted = (c.cells_tell_keys.ensures c.args.columns.now.frame c.args.columns.now.known (groups_of c.args.query.now.shape) c.args.rows.cells.now c.requires.parted.cells_are).count in
    let many : c.count-cells.result ≡ cells_in stage = omega (arith, counted, c.count-cells.ensures) in
    record {
      tallies = c.begin.new.self.tallies;
      are = c.begin.ensures.of;
      stand = blank_stand stage item c.args.sums.now.tallies.room c.count-cells.result c.begin.new.self.tallies (subst (λ k. IsBlank c.begin.new.self.tallies k c.args.sums.now.tallies.room c.count-cells.result) (ap (λ (i : Aggregate). i.kind) c.item.view_is) c.begin.ensures.blank) (omega (arith, c.requires.parted.room, c.room.ensures, c.if-room-rows.false)) many;
      ends = rw c.begin.ensures.ends c.requires.ends;
      certain = c.begin.ensures.certain ∙ ap (λ n. take n c.args.rows.single.now) many;
    }

pub returns-then-sum_rows : goal.returns-then-sum_rows
returns-then-sum_rows c =
    let stage = stage_of c.args.query.now c.args.columns.now in
    let item = c.args.item.now in
    let sums = c.sum_rows.ensures.added c.if-sum_rows.true in
    record {
      told = λ settled. subst (AreToldByDigits stage item) (sym c.settle.ensures.same) (record {
        never_null = λ row. column_never item c.args.columns.now c.args.rows.known.now c.requires.over row sums.ends.never_null;
        stand = subst (λ t. StandBelow stage item c.args.columns.now.frame.rows t) (sym (c.settle.ensures.settled settled sums.tallies sums.are)) sums.stand;
      });
    }
