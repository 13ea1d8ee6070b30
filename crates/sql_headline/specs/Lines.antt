-- The texts that a report shows of an item: over all rows, or for each key of a cell.
use Rattle.std.specs.Prelude.{◌≡◌, ◌⊎◌, ℕ, ◌<◌, List, []}
use Rattle.daq_report.specs.Intervals.{average_text, bound_text}
use Rattle.daq_table.specs.declared.table_head.Head.{Head}
use Rattle.query_model.specs.Answers.{Key}
use Rattle.query_model.specs.Bounds.{average_under, bound_under}
use Rattle.query_model.specs.Queries.{Aggregate}
use Rattle.query_model.specs.declared.query.Shape.TheVariants.{Plain}
use Rattle.round_engine.specs.Cells.{IsInCell, average_in_cell, bound_in_cell, cells_in}
use Rattle.round_engine.specs.Stages.{Stage}

-- the cell has the key
pub record IsCellOf (stage : Stage) (key : Key) (cell : ℕ) : Type 0 where
  pub counted : cell < cells_in stage
  pub belongs : IsInCell stage cell key

-- the report shows this text of an item for a key
abbrev pub IsShownFor : Head → Stage → Aggregate → Key → List ℕ → Type 0
IsShownFor head stage item key text =
    ((stage.query.shape ≡ Plain)
    × (text ≡ bound_text head stage.query item.face (bound_under stage.query item [] stage.frame stage.known)))
    ⊎ ((cell : ℕ) × IsCellOf stage key cell × (text ≡ bound_text head stage.query item.face (bound_in_cell stage item cell)))

-- the same of an average
abbrev pub IsAverageShownFor : Head → Stage → Aggregate → Key → List ℕ → Type 0
IsAverageShownFor head stage item key text =
    ((stage.query.shape ≡ Plain)
    × (text ≡ average_text head stage.query item.face (average_under stage.query item [] stage.frame stage.known)))
    ⊎ ((cell : ℕ) × IsCellOf stage key cell × (text ≡ average_text head stage.query item.face (average_in_cell stage item cell)))
