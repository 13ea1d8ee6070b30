-- The rows of a condition as they were at a stage.
use Rattle.std.specs.Prelude.{◌≡◌, ℕ, Bool, List, length, map}
use Rattle.kleene_filter.specs.Filters.{is_certain, is_possible, truths_under}
use Rattle.round_engine.specs.declared.seen_rows.SeenRows.{SeenRows}
use Rattle.round_engine.specs.KeptSums.{columns_of}
use Rattle.round_engine.specs.Stages.{Stage}

-- the masks have the rows at which the condition surely held there, and those at which it may have held
pub record WereRows (stage : Stage) (must may : List Bool) : Type 0 where
  pub must_is : must ≡ map is_certain (truths_under stage.query.pred (columns_of stage))
  pub may_is : may ≡ map is_possible (truths_under stage.query.pred (columns_of stage))

-- they are of so many rows
pub record HoldSeen (rows : ℕ) (seen : SeenRows) : Type 0 where
  pub must : length seen.must ≡ rows
  pub may : length seen.may ≡ rows
