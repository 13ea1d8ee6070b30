-- The laws of exact averages, as statements. A public function with an empty body has each as its contract.
-- A frame, a knowledge and cells here are those of the query's columns alone.
use Rattle.std.specs.Prelude.{◌≢◌, ℕ, Bool, List, []}
use Rattle.daq_table.specs.Tables.{Cells, Frame}
use Rattle.query_model.specs.Queries.{Aggregate, Query}
use Rattle.query_model.specs.Answers.{average, average_of}
use Rattle.query_model.specs.Bounds.{AdmitsAverage, IsExtremesAverage, IsNestedAverage, Pair, average_bound_of}
use Rattle.query_model.specs.Knowledge.{CanTake, IsCompletion, IsKnowledge, Knowledge, taken}
use Rattle.query_model.specs.Laws.{AreEndOutcomes, AreOutcomes, ArePairs, present}
use Rattle.query_model.specs.Attaining.{AttainsEnds}
use Rattle.query_model.specs.Validity.{declared_ranges}
use Rattle.query_model.specs.Worlds.{IsPart}
use Rattle.round_engine.specs.Stages.{Stage}
use Rattle.avg_exact.specs.ExactAverages.{IsHighEnd, ends_of, exact_of, exact_under, high_end}
use Rattle.avg_exact.specs.Promises.{IsCertainExact}

-- where some row may count, the high end is the best choice of all, whatever their cuts
abbrev pub HighEndsAreBest : Type 0
HighEndsAreBest = (ps : List Pair) → ps ≢ [] → IsHighEnd ps (high_end ps)

-- the exact average of a list of pairs is the extremes over all choices of outcomes, and already over those of ends
abbrev pub ExactAveragesAreExtremesOfLists : Type 0
ExactAveragesAreExtremesOfLists =
    (ps : List Pair) → ArePairs ps →
    IsExtremesAverage (AreOutcomes ps) (λ os. average (present os)) (ends_of (exact_of ps))
    × IsExtremesAverage (AreEndOutcomes ps) (λ os. average (present os)) (ends_of (exact_of ps))

-- it lies within the bound of the average
abbrev pub ExactAveragesLieWithin : Type 0
ExactAveragesLieWithin = (ps : List Pair) → ArePairs ps → IsNestedAverage (average_bound_of ps) (ends_of (exact_of ps))

-- it admits the average of each completion
abbrev pub ExactAveragesContain : Type 0
ExactAveragesContain =
    (query : Query) (item : Aggregate) (frame : Frame) (known : Knowledge) (cells : Cells) →
    IsKnowledge frame known → IsCompletion frame known cells →
    AdmitsAverage (ends_of (exact_under query item frame known)) (average_of query item [] frame cells)

-- with one more plane read it lies within the one before
abbrev pub ExactAveragesNest : Type 0
ExactAveragesNest =
    (query : Query) (item : Aggregate) (frame : Frame) (known : Knowledge) (c : ℕ) (bits : List Bool) →
    IsKnowledge frame known → CanTake frame known c bits →
    IsNestedAverage (ends_of (exact_under query item frame known)) (ends_of (exact_under query item frame (taken known c bits)))

-- where the item attains its ends, it is the extremes over all completions
abbrev pub ExactAveragesAreExtremes : Type 0
ExactAveragesAreExtremes =
    (query : Query) (item : Aggregate) (frame : Frame) (known : Knowledge) →
    AttainsEnds query item (declared_ranges frame) → IsKnowledge frame known →
    IsExtremesAverage (IsCompletion frame known) (average_of query item [] frame) (ends_of (exact_under query item frame known))

-- on whole tables: what is said of exact averages holds at each stage
abbrev pub ExactAveragesAreCertain : Type 0
ExactAveragesAreCertain =
    (stage : Stage) (item : Aggregate) (frame : Frame) →
    IsPart stage.query frame stage.frame → IsKnowledge stage.frame stage.known → IsCertainExact stage item frame
