use Rattle.std.proofs.Common.{◌≡◌, ℕ, ◌<◌, List, Some, get_or, slice_get, inl, inr, ap, sym, subst, ◌∙◌, arith}
use Rattle.std.proofs.lemmas.Bool.{cases_eq}
use Rattle.std.proofs.lemmas.Option.{same_Some, slice_get-get_or}
use Rattle.aggregates.specs.Runnings.{StandsFor}
use Rattle.aggregates.specs.Tallies.{tally_of}
use Rattle.digit_sums.specs.declared.ones.RowBits.{RowBits}
use Rattle.query_model.specs.Answers.{groups_of}
use Rattle.query_model.specs.Bounds.{Pair}
use Rattle.query_model.specs.Groups.{pairs_in_cell_below}
use Rattle.round_engine.specs.Cells.{cells_in}
use Rattle.round_engine.specs.Engines.{stage_of}
use Rattle.round_engine.proofs.CellRows.{cells_fit}
use Rattle.round_engine.proofs.OneCell.{ordered_cell}
use Rattle.round_engine.proofs.read_cells.read_sums.Goals as goal

pub bounds-rows-cell : goal.bounds-rows-cell
bounds-rows-cell c =
    let stage = stage_of c.args.query.now c.args.columns.now in
    let counted = (c.cells_tell_keys.ensures c.args.columns.now.frame c.args.columns.now.known (groups_of c.args.query.now.shape) c.args.rows.cells.now c.requires.parted.cells_are).count in
    omega (arith, counted, c.count-cell-end.ensures, c.loop-cell-test.true, cells_fit stage c.requires.open_stage, c.requires.parted.room)

pub loop-cell-preserved : goal.loop-cell-preserved
loop-cell-preserved c =
    let query = c.args.query.now in
    let item = c.args.item.now in
    let columns = c.args.columns.now in
    let stage = stage_of query columns in
    let inv = c.loop-cell.invariant in
    let cell = c.loop-cell.cell in
    let new = c.set.new.self in
    let set = c.set.ensures in
    let counted = (c.cells_tell_keys.ensures columns.frame columns.known (groups_of query.shape) c.args.rows.cells.now c.requires.parted.cells_are).count in
    let within : cell < cells_in stage = omega (arith, counted, c.count-cell-end.ensures, c.loop-cell-test.true) in
    record {
      room = record { kind = set.kind ∙ inv.room.kind; room = set.room ∙ inv.room.room };
      count = set.count ∙ inv.count;
      rest = λ k later. set.others k (λ e. omega (arith, e, later)) ∙ inv.rest k (omega (arith, later));
      done = λ before rows stand read k below.
          (let pairs_now : ℕ → List Pair = λ j. pairs_in_cell_below query item j columns.frame columns.known columns.frame.rows in
          elim (cases_eq k cell) [
            | inl here ↦
                (let d : RowBits = record { ones = 0; at_top = 0 } in
                let bits = get_or c.args.ones.now.cells cell d in
                let at : slice_get c.args.ones.now.cells cell ≡ Some bits = slice_get-get_or c.args.ones.now.cells cell d (omega (arith, within, c.requires.cells)) in
                let high = get_or c.args.ones.now.highs cell 0 in
                let at_high : slice_get c.args.ones.now.highs cell ≡ Some high = slice_get-get_or c.args.ones.now.highs cell 0 (omega (arith, within, c.requires.highs)) in
                let was = stand.stands cell (omega (arith, within, c.requires.count, stand.cells)) in
                let pairs_then = pairs_in_cell_below before.query item cell before.frame before.known before.frame.rows in
                let old : c.tally.result ≡ tally_of item.kind pairs_then =
                same_Some _ _ (sym c.tally.ensures ∙ inv.rest cell (omega arith) ∙ was.kept) ∙ ap (λ kind. tally_of kind pairs_then) c.requires.room.kind in
                let as_read = ap (λ n. tally_of item.kind (pairs_in_cell_below before.query item cell before.frame before.known n)) rows in
                let told = c.in-Some.ensures bits high at at_high item.kind c.requires.kind (pairs_in_cell_below before.query item cell before.frame before.known columns.frame.rows) (pairs_now cell) (old ∙ as_read) (read.each cell bits high at at_high) in
                subst (λ j. StandsFor new j (pairs_now j)) (sym here) (record {
                  kept = set.kept ∙ ap Some told ∙ ap (λ kind. Some (tally_of kind (pairs_now cell))) (sym (set.kind ∙ inv.room.kind));
                  ordered = ordered_cell query item columns c.requires.open_stage.knowledge cell;
                }))
            | inr away ↦
                (let earlier = inv.done before rows stand read k (omega (arith, below, away)) in
                record {
                  kept = set.others k away ∙ earlier.kept ∙ ap (λ kind. Some (tally_of kind (pairs_now k))) (sym set.kind);
                  ordered = earlier.ordered;
                })
          ]);
    }

pub returns-clause-stand : goal.returns-clause-stand
returns-clause-stand c = λ all before rows stand read.
    let inv = c.loop-cell.invariant in
    let counted = (c.cells_tell_keys.ensures c.args.columns.now.frame c.args.columns.now.known (groups_of c.args.query.now.shape) c.args.rows.cells.now c.requires.parted.cells_are).count in
    record {
      has_room = inv.room;
      cells = inv.count;
      stands = λ k within. inv.done before rows stand read k (omega (arith, within, counted, c.count-cell-end.ensures, c.loop-cell-test.false));
    }
