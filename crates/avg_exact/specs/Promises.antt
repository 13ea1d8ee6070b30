-- What the exact ends of an average say of the answer on whole tables: on each that agrees with the planes read, for whatever head
-- the query fits.
use Rattle.std.specs.Prelude.{◌≡◌, ◌≢◌, ℕ, ◌<◌, ℤ, int_le, Bool, false}
use Rattle.std.specs.Prelude.{not, ◌&&◌, ◌||◌, [], if◌then◌else◌}
use Rattle.std.specs.declared.option.Option.{Option}
use Rattle.std.specs.declared.option.Option.TheVariants.{Some, None}
use Rattle.daq_table.specs.Tables.{Cells, Frame, row_of}
use Rattle.query_model.specs.declared.bounds.Nullity.TheVariants.{Always, Possibly}
use Rattle.query_model.specs.Queries.{Aggregate}
use Rattle.query_model.specs.Answers.{outcome_of}
use Rattle.query_model.specs.Bounds.{AdmitsAverage, IsExtremesAverage, IsNestedAverage, Pair, average_under, pair_of}
use Rattle.query_model.specs.Knowledge.{IsAllRead, ranges_of}
use Rattle.query_model.specs.Projection.{projected, projected_frame}
use Rattle.query_model.specs.Attaining.{AttainsEnds}
use Rattle.query_model.specs.Validity.{declared_ranges}
use Rattle.query_model.specs.Worlds.{AgreesWith, average_on}
use Rattle.round_engine.specs.Stages.{Stage}
use Rattle.avg_exact.specs.ExactAverages.{Cut, ExactAverage, ends_of, exact_under, takes}

-- what a row gives where exactly the certain rows and those at or above a cut give a value, their highs
abbrev pub high_given : Cut → Option Pair → Option ℤ
high_given cut None = None
high_given cut (Some p) = if p.certain || takes cut p then Some p.high else None

-- the same for lows, and the rows at or below the cut
abbrev pub takes_low : Cut → Pair → Bool
takes_low None p = false
takes_low (Some l) p = not p.certain && int_le p.low l

abbrev pub low_given : Cut → Option Pair → Option ℤ
low_given cut None = None
low_given cut (Some p) = if p.certain || takes_low cut p then Some p.low else None

-- on a whole table that agrees with what is known each row gives this, by its pair
pub record Gives (stage : Stage) (item : Aggregate) (frame : Frame) (given : Option Pair → Option ℤ) (world : Cells) : Type 0 where
  pub agrees : AgreesWith stage.query frame stage.known world
  pub rows : (r : ℕ) → r < stage.frame.rows →
      outcome_of stage.query item [] (row_of (projected_frame stage.query frame) (projected stage.query world) r)
      ≡ given (pair_of stage.query item [] (ranges_of stage.frame stage.known r))

-- the exact average of an item at a stage
abbrev pub exact_at : Stage → Aggregate → ExactAverage
exact_at stage item = exact_under stage.query item stage.frame stage.known

-- each end is the average on some table where exactly the certain and the taken rows give a value
pub record IsAttained (stage : Stage) (item : Aggregate) (frame : Frame) : Type 0 where
  pub low : (world : Cells) × Gives stage item frame (low_given (exact_at stage item).low_cut) world
      × (average_on stage.query item [] frame world ≡ Some ((exact_at stage item).lo.num, (exact_at stage item).lo.den))
  pub high : (world : Cells) × Gives stage item frame (high_given (exact_at stage item).high_cut) world
      × (average_on stage.query item [] frame world ≡ Some ((exact_at stage item).hi.num, (exact_at stage item).hi.den))

-- of an average in a query without groups, over whole tables with a frame
pub record IsCertainExact (stage : Stage) (item : Aggregate) (frame : Frame) : Type 0 where
  -- the ends admit the average on each table that agrees with what is known
  pub contains : (world : Cells) → AgreesWith stage.query frame stage.known world →
      AdmitsAverage (ends_of (exact_at stage item)) (average_on stage.query item [] frame world)
  -- they lie within the average's own bound
  pub within : IsNestedAverage (average_under stage.query item [] stage.frame stage.known) (ends_of (exact_at stage item))
  -- where the item attains its ends they are as narrow as they can be, and the rows that they take reach them
  pub tight : AttainsEnds stage.query item (declared_ranges stage.frame) →
      IsExtremesAverage (AgreesWith stage.query frame stage.known) (average_on stage.query item [] frame) (ends_of (exact_at stage item))
  pub attained : AttainsEnds stage.query item (declared_ranges stage.frame) →
      (exact_at stage item).null ≢ Always → IsAttained stage item frame
  -- where all planes are read, both are the average
  pub exact : IsAllRead stage.frame stage.known → (exact_at stage item).null ≢ Always →
      (world : Cells) → AgreesWith stage.query frame stage.known world →
      (average_on stage.query item [] frame world ≡ Some ((exact_at stage item).lo.num, (exact_at stage item).lo.den))
      × (average_on stage.query item [] frame world ≡ Some ((exact_at stage item).hi.num, (exact_at stage item).hi.den))
  -- where all planes are read, it is known whether the average is null
  pub told : IsAllRead stage.frame stage.known → (exact_at stage item).null ≢ Possibly
