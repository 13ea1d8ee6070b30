-- The laws of clipped bounds, as statements. A public function with an empty body has each as its contract.
-- A frame, a knowledge and cells are those of the query's columns alone.
use Rattle.std.specs.Prelude.{◌≡◌, ℕ, ◌≤ℤ◌, Bool, List, []}
use Rattle.std.specs.declared.option.Option.TheVariants.{Some}
use Rattle.daq_table.specs.Tables.{Cells, Frame, ends_at}
use Rattle.query_model.specs.Answers.{answer_of}
use Rattle.query_model.specs.Attaining.{AttainsTruths}
use Rattle.query_model.specs.Bounds.{Admits, IsExtremes, IsNested, bound_under}
use Rattle.query_model.specs.Knowledge.{CanTake, IsCompletion, IsKnowledge, Knowledge, taken}
use Rattle.query_model.specs.Queries.{Aggregate, Query}
use Rattle.query_model.specs.Worlds.{IsPart}
use Rattle.round_engine.specs.Stages.{Stage}
use Rattle.clip_bounds.specs.declared.clip.Clip.{Clip}
use Rattle.clip_bounds.specs.Clips.{clip_of, greatest_number, least_number}
use Rattle.clip_bounds.specs.Clipped.{IsCertainClip, clipped_under}

-- the column's numbers are of 64 bits, as in every head
pub record IsOfLongs (frame : Frame) (c : ℕ) : Type 0 where
  pub base : least_number ≤ℤ (ends_at frame c).base
  pub top : (ends_at frame c).top ≤ℤ greatest_number

-- a clipped bound admits the answer of each completion
abbrev pub ClipsContain : Type 0
ClipsContain =
    (query : Query) (item : Aggregate) (clip : Clip) (frame : Frame) (known : Knowledge) (cells : Cells) →
    clip_of query item ≡ Some clip → IsOfLongs frame clip.column → IsKnowledge frame known → IsCompletion frame known cells →
    Admits (clipped_under query item clip frame known) (answer_of query item [] frame cells)

-- where no column stands in the condition twice, or where those that do stand there in ranges that meet, it is the extremes over all
-- completions
abbrev pub ClipsAreExtremes : Type 0
ClipsAreExtremes =
    (query : Query) (item : Aggregate) (clip : Clip) (frame : Frame) (known : Knowledge) →
    clip_of query item ≡ Some clip → IsOfLongs frame clip.column →
    AttainsTruths query.pred [] → IsKnowledge frame known →
    IsExtremes (IsCompletion frame known) (answer_of query item [] frame) (clipped_under query item clip frame known)

-- with one more plane read it lies within the one before
abbrev pub ClipsNest : Type 0
ClipsNest =
    (query : Query) (item : Aggregate) (clip : Clip) (frame : Frame) (known : Knowledge) (c : ℕ) (bits : List Bool) →
    clip_of query item ≡ Some clip → IsOfLongs frame clip.column → IsKnowledge frame known → CanTake frame known c bits →
    IsNested (clipped_under query item clip frame known) (clipped_under query item clip frame (taken known c bits))

-- it lies within the item's own bound
abbrev pub ClipsLieWithin : Type 0
ClipsLieWithin =
    (query : Query) (item : Aggregate) (clip : Clip) (frame : Frame) (known : Knowledge) →
    clip_of query item ≡ Some clip → IsOfLongs frame clip.column → IsKnowledge frame known →
    IsNested (bound_under query item [] frame known) (clipped_under query item clip frame known)

-- on whole tables: what is said of clipped bounds holds at each stage
abbrev pub ClipsAreCertain : Type 0
ClipsAreCertain =
    (stage : Stage) (item : Aggregate) (clip : Clip) (frame : Frame) →
    clip_of stage.query item ≡ Some clip → IsPart stage.query frame stage.frame → IsOfLongs stage.frame clip.column →
    IsKnowledge stage.frame stage.known → IsCertainClip stage item clip frame
