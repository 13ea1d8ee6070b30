-- The rows of a condition before the last plane, beside what the cells stood for there.
use Rattle.std.proofs.Common.{◌≡◌, ℕ, ◌^◌, Bool, false, List, length, ap, sym, subst, ◌∙◌}
use Rattle.std.specs.List.{sum}
use Rattle.aggregates.specs.Runnings.{Tallies}
use Rattle.kleene_filter.specs.Filters.{stands_in}
use Rattle.query_model.specs.Answers.{groups_of}
use Rattle.query_model.specs.Meaning.{columns_of}
use Rattle.query_model.specs.Queries.{Aggregate}
use Rattle.round_engine.specs.CellAnswers.{HasRoom}
use Rattle.round_engine.specs.Cells.{cells_in}
use Rattle.round_engine.specs.MovedCells.{WasBefore, WereBefore, WereEachBefore, WereMoved}
use Rattle.round_engine.specs.Stages.{Stage}
use Rattle.round_engine.specs.Totals.{AreEach}
use Rattle.round_engine.proofs.CellKept.{counts_still}

-- a plane by which no rows are grouped leaves as many cells
pub cells_as_before : (stage : Stage) (column : ℕ) (must may : List Bool) (before : Stage) → WasBefore stage column must may before → cells_in stage ≡ cells_in before
cells_as_before stage column must may before was =
    ap cells_in was.read ∙ ap (λ ks. 2 ^ sum ks) (counts_still before.frame before.known column was.bits (groups_of before.query.shape) was.cells_stay)

module _ (stage : Stage) (item : Aggregate) (column : ℕ) (must may : List Bool) (running : Tallies) (were : WereBefore stage item column must may running) where
  pub room_as_before : HasRoom stage item running
  room_as_before = subst (λ s. HasRoom s item running) (sym were.was.read) (record { kind = were.stood.has_room.kind; room = were.stood.has_room.room })

  pub count_as_before : length running.cells ≡ cells_in stage
  count_as_before = were.stood.cells ∙ sym (cells_as_before stage column must may were.before were.was)

-- where the item does not read the column, the plane moves rows alone
pub were_moved : (stage : Stage) (item : Aggregate) (column : ℕ) (must may : List Bool) (running : Tallies) → WereBefore stage item column must may running →
    stands_in (columns_of item.arg) column ≡ false → WereMoved stage item must may running
were_moved stage item column must may running were stays = record {
  before = were.before;
  step = record {
    column = column;
    bits = were.was.bits;
    open_stage = were.was.open_stage;
    legal = were.was.legal;
    read = were.was.read;
    cells_stay = were.was.cells_stay;
    values_stay = stays;
  };
  rows = were.was.rows;
  stood = were.stood;
}

-- of each item what is said of all
pub each_as_before : (stage : Stage) (column : ℕ) (must may : List Bool) (runnings : List Tallies) → WereEachBefore stage column must may runnings →
    AreEach (λ i item running. WereBefore stage item column must may running) stage.query.items runnings
each_as_before stage column must may runnings were =
    subst (λ (s : Stage). AreEach (λ i item running. WereBefore stage item column must may running) s.query.items runnings) (sym were.was.read) (record {
      count = were.stood.count;
      each = λ i item running at_item at_running. record { before = were.before; was = were.was; stood = were.stood.each i item running at_item at_running };
    })
