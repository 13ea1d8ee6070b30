-- What a bound says of the answer on whole tables: on each that agrees with the planes read, for whatever head the query fits.
use Rattle.std.specs.Prelude.{◌≡◌, ◌≢◌, ℕ, ◌<◌}
use Rattle.std.specs.declared.option.Option.TheVariants.{Some}
use Rattle.interval_calc.specs.Intervals.{Within}
use Rattle.daq_table.specs.Tables.{Cells, Frame, ends_at}
use Rattle.query_model.specs.declared.bounds.Nullity.TheVariants.{Always, Possibly}
use Rattle.query_model.specs.declared.bounds.Standing.TheVariants.{Possible}
use Rattle.query_model.specs.declared.bounds.Bound.{Bound}
use Rattle.query_model.specs.declared.query.Face.{Face}
use Rattle.query_model.specs.declared.query.Face.TheVariants.{Number, OfColumn}
use Rattle.query_model.specs.Queries.{Aggregate}
use Rattle.query_model.specs.Answers.{Key}
use Rattle.query_model.specs.declared.query.ItemKind.TheVariants.{Avg}
use Rattle.query_model.specs.Bounds.{Admits, AdmitsAverage, IsExtremes, IsNested, IsNestedAverage, absence_of, average_under, bound_under}
use Rattle.query_model.specs.Knowledge.{IsAllRead}
use Rattle.query_model.specs.Laws.{ResultIsToldOnTables, StandingIsRightOnTables}
use Rattle.query_model.specs.Ranking.{StandingKept, standing_under}
use Rattle.query_model.specs.Attaining.{AttainsEnds}
use Rattle.query_model.specs.Validity.{declared_range, declared_ranges}
use Rattle.query_model.specs.Worlds.{AgreesWith, answer_on, average_on}
use Rattle.round_engine.specs.Stages.{Stage}

-- of an item that is no average and a key of the groups, over whole tables with a frame. A query without groups has one key, that of
-- no parts
pub record IsCertainBound (stage : Stage) (item : Aggregate) (key : Key) (frame : Frame) : Type 0 where
  -- the bound admits the answer on each table that agrees with what is known
  pub contains : (world : Cells) → AgreesWith stage.query frame stage.known world →
      Admits (bound_under stage.query item key stage.frame stage.known) (answer_on stage.query item key frame world)
  -- where the item attains its ends, as each read-once item does, the bound is as narrow as it can be: its ends are answers on such tables
  pub tight : AttainsEnds stage.query item (declared_ranges stage.frame) →
      IsExtremes (AgreesWith stage.query frame stage.known) (answer_on stage.query item key frame)
      (bound_under stage.query item key stage.frame stage.known)
  -- where all planes are read, the ends are the answer
  pub exact : IsAllRead stage.frame stage.known → (bound_under stage.query item key stage.frame stage.known).null ≢ Always →
      (world : Cells) → AgreesWith stage.query frame stage.known world →
      (answer_on stage.query item key frame world ≡ Some (bound_under stage.query item key stage.frame stage.known).lo)
      × (answer_on stage.query item key frame world ≡ Some (bound_under stage.query item key stage.frame stage.known).hi)
  -- where all planes are read, it is known whether the answer is null
  pub told : IsAllRead stage.frame stage.known → (bound_under stage.query item key stage.frame stage.known).null ≢ Possibly

-- of an average: it is not said to be as narrow as it can be
pub record IsCertainAverage (stage : Stage) (item : Aggregate) (key : Key) (frame : Frame) : Type 0 where
  pub contains : (world : Cells) → AgreesWith stage.query frame stage.known world →
      AdmitsAverage (average_under stage.query item key stage.frame stage.known) (average_on stage.query item key frame world)
  pub exact : IsAllRead stage.frame stage.known → (average_under stage.query item key stage.frame stage.known).null ≢ Always →
      (world : Cells) → AgreesWith stage.query frame stage.known world →
      let bound = average_under stage.query item key stage.frame stage.known in
      (average_on stage.query item key frame world ≡ Some (bound.lo.num, bound.lo.den))
      × (average_on stage.query item key frame world ≡ Some (bound.hi.num, bound.hi.den))
  -- where all planes are read, it is known whether the average is null
  pub told : IsAllRead stage.frame stage.known → (average_under stage.query item key stage.frame stage.known).null ≢ Possibly

-- what holds of an item's bound
pub record IsCertain (stage : Stage) (item : Aggregate) (key : Key) (frame : Frame) : Type 0 where
  pub bound : item.kind ≢ Avg → IsCertainBound stage item key frame
  pub average : item.kind ≡ Avg → IsCertainAverage stage item key frame

-- the item's bound at the second stage lies within that at the first
pub record LiesWithin (old new : Stage) (item : Aggregate) (key : Key) : Type 0 where
  pub bound : item.kind ≢ Avg →
      IsNested (bound_under old.query item key old.frame old.known) (bound_under new.query item key new.frame new.known)
  pub average : item.kind ≡ Avg →
      IsNestedAverage (average_under old.query item key old.frame old.known) (average_under new.query item key new.frame new.known)

-- the ends of a bound that is shown as a value of a column are numbers that the column may have
abbrev pub IsShownWithin : Frame → Face → Bound → Type 0
IsShownWithin frame (Number scale) bound = Unit {0}
IsShownWithin frame (OfColumn c) bound =
    bound.null ≢ Always →
    Within (declared_range (ends_at frame c)).numbers bound.lo × Within (declared_range (ends_at frame c)).numbers bound.hi

-- whether a key is in the result
pub record IsCertainKey (stage : Stage) (key : Key) (frame : Frame) : Type 0 where
  -- where a row surely counts for it, it is in the result of each table that agrees, and where none may, in that of none; else, where
  -- condition and group columns attain their truths, it is in that of one such table and missing in that of another
  pub told : ResultIsToldOnTables stage.query key frame stage.frame stage.known
  -- where all planes are read, it is known whether the key is in the result
  pub exact : IsAllRead stage.frame stage.known → absence_of stage.query key stage.frame stage.known ≢ Possibly

-- whether a row is among the first
pub record IsCertainStanding (stage : Stage) (r : ℕ) (frame : Frame) : Type 0 where
  -- a certain row is among them on each table that agrees, an excluded row on none; and where condition and sort key read no column
  -- twice these rows alone
  pub right : StandingIsRightOnTables stage.query frame stage.frame stage.known r
  -- where all planes are read, it is known whether the row is among them
  pub exact : IsAllRead stage.frame stage.known → standing_under stage.query stage.frame stage.known r ≢ Possible

-- certain and excluded rows stay so
abbrev pub StandingsStay : Stage → Stage → Type 0
StandingsStay old new =
    (r : ℕ) → r < old.frame.rows →
    StandingKept (standing_under old.query old.frame old.known r) (standing_under new.query new.frame new.known r)
