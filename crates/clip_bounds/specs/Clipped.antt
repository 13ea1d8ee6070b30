-- The bound of an item whose pairs are clipped, and what it says of the answer on whole tables.
use Rattle.std.specs.Prelude.{◌≡◌, ◌≢◌, int_le, List, [], map, if◌then◌else◌}
use Rattle.std.specs.Int.{int_min, int_max}
use Rattle.std.specs.declared.option.Option.TheVariants.{Some}
use Rattle.daq_table.specs.Tables.{Cells, Frame}
use Rattle.query_model.specs.declared.bounds.Bound.{Bound}
use Rattle.query_model.specs.declared.bounds.Nullity.TheVariants.{Always, Possibly}
use Rattle.query_model.specs.Attaining.{AttainsTruths}
use Rattle.query_model.specs.Bounds.{Admits, IsExtremes, IsNested, Pair, bound_of, bound_under, pairs}
use Rattle.query_model.specs.Knowledge.{IsAllRead, Knowledge}
use Rattle.query_model.specs.Queries.{Aggregate, Query}
use Rattle.query_model.specs.Worlds.{AgreesWith, answer_on}
use Rattle.round_engine.specs.Stages.{Stage}
use Rattle.clip_bounds.specs.declared.clip.Clip.{Clip}

-- the pair with the part of its span that lies in the clip
abbrev pub clipped : Clip → Pair → Pair
clipped clip p = record { certain = p.certain; low = int_max p.low clip.low; high = int_min p.high clip.high }

-- the pairs, each clipped; in a clip without numbers there are none, since no row passes
abbrev pub all_clipped : Clip → List Pair → List Pair
all_clipped clip ps = if int_le clip.low clip.high then map (clipped clip) ps else []

-- the bound of an item under what is known, clipped
abbrev pub clipped_under : Query → Aggregate → Clip → Frame → Knowledge → Bound
clipped_under query item clip frame known = bound_of item.kind (all_clipped clip (pairs query item [] frame known))

-- the bound with its ends clipped
abbrev pub clipped_ends : Clip → Bound → Bound
clipped_ends clip bound = record { null = bound.null; lo = int_max bound.lo clip.low; hi = int_min bound.hi clip.high }

-- the pairs of an item, and each of them clipped
abbrev pub pairs_in : Stage → Aggregate → List Pair
pairs_in stage item = pairs stage.query item [] stage.frame stage.known

abbrev pub clipped_pairs : Stage → Aggregate → Clip → List Pair
clipped_pairs stage item clip = map (clipped clip) (pairs_in stage item)

abbrev pub clipped_in : Stage → Aggregate → Clip → Bound
clipped_in stage item clip = clipped_under stage.query item clip stage.frame stage.known

-- what holds of the clipped bound, over whole tables
pub record IsCertainClip (stage : Stage) (item : Aggregate) (clip : Clip) (frame : Frame) : Type 0 where
  -- it admits the answer on each table that agrees with what is known
  pub contains : (world : Cells) → AgreesWith stage.query frame stage.known world →
      Admits (clipped_in stage item clip) (answer_on stage.query item [] frame world)
  -- where no column stands in the condition twice, or where those that do stand there in ranges that meet, it is as narrow as it can be,
  -- although the item's column stands there too
  pub tight : AttainsTruths stage.query.pred [] →
      IsExtremes (AgreesWith stage.query frame stage.known) (answer_on stage.query item [] frame) (clipped_in stage item clip)
  -- where all planes are read, the ends are the answer
  pub exact : IsAllRead stage.frame stage.known → (clipped_in stage item clip).null ≢ Always →
      (world : Cells) → AgreesWith stage.query frame stage.known world →
      (answer_on stage.query item [] frame world ≡ Some (clipped_in stage item clip).lo)
      × (answer_on stage.query item [] frame world ≡ Some (clipped_in stage item clip).hi)
  -- where all planes are read, it is known whether the answer is null
  pub told : IsAllRead stage.frame stage.known → (clipped_in stage item clip).null ≢ Possibly
  -- it lies within the item's own bound
  pub within : IsNested (bound_under stage.query item [] stage.frame stage.known) (clipped_in stage item clip)
