-- What the bounds of a stage say of whole tables.
use Rattle.std.proofs.Common.{◌≢◌, ℕ, ◌<◌, List, [], ◌∷◌, sym, ap, subst}
use Rattle.daq_table.specs.declared.table_head.Head.{Head}
use Rattle.daq_table.specs.Tables.{Frame, frame_of}
use Rattle.query_model.specs.Answers.{Key, every_row}
use Rattle.query_model.specs.Queries.{Aggregate}
use Rattle.query_model.specs.declared.bounds.Nullity.TheVariants.{Possibly}
use Rattle.query_model.specs.declared.query.ItemKind.{ItemKind}
use Rattle.query_model.specs.declared.query.ItemKind.TheVariants.{Count, Sum, Min, Max, Avg}
use Rattle.query_model.specs.Bounds.{Pair, average_bound_of, bound_of, nullity_of, pairs}
use Rattle.query_model.specs.Knowledge.{IsKnowledge}
use Rattle.query_model.specs.Ranking.{order_of}
use Rattle.query_model.specs.Validity.{FitsHead}
use Rattle.query_model.specs.Laws.{BoundsContainOnTables, BoundsAreExtremesOnTables, BoundsBecomeExactOnTables, AverageBoundsContainOnTables, AverageBoundsBecomeExactOnTables, FittingHeadsHaveParts, ResultsAreToldOnTables, StandingsAreRightOnTables, StandingsBecomeExact, WordsBecomeExact}
use Rattle.round_engine.specs.Promises.{IsCertainAverage, IsCertainBound, IsCertainKey, IsCertainStanding}
use Rattle.round_engine.specs.Stages.{Stage}

-- a count is never null, and every other answer where no row gives a value
pub word_of_bound : (kind : ItemKind) (ps : List Pair) → nullity_of ps ≢ Possibly → (bound_of kind ps).null ≢ Possibly
word_of_bound Count ps h = λ e. cc
word_of_bound Sum ps h = h
word_of_bound Min ps h = h
word_of_bound Max ps h = h
word_of_bound Avg ps h = h

pub word_of_average : (ps : List Pair) → nullity_of ps ≢ Possibly → (average_bound_of ps).null ≢ Possibly
word_of_average [] h = h
word_of_average (p ∷ ps) h = h

pub bound_is_certain : (stage : Stage) (i : Aggregate) (key : Key) (head : Head) →
    BoundsContainOnTables → BoundsAreExtremesOnTables → BoundsBecomeExactOnTables → WordsBecomeExact → FittingHeadsHaveParts →
    IsKnowledge stage.frame stage.known → i.kind ≢ Avg → FitsHead stage.query stage.frame head → IsCertainBound stage i key (frame_of head)
bound_is_certain stage i key head contain reach settle words parts k kind fits =
    let part = parts stage.query stage.frame head fits in
    record {
      contains = λ world agrees. contain stage.query i key (frame_of head) stage.frame stage.known world kind part k agrees;
      tight = λ attains. reach stage.query i key (frame_of head) stage.frame stage.known kind attains part k;
      exact = λ all some world agrees. settle stage.query i key (frame_of head) stage.frame stage.known world kind part k all agrees some;
      told = λ all. word_of_bound i.kind (pairs stage.query i key stage.frame stage.known) (words stage.query i key stage.frame stage.known k all);
    }

pub average_is_certain : (stage : Stage) (i : Aggregate) (key : Key) (head : Head) →
    AverageBoundsContainOnTables → AverageBoundsBecomeExactOnTables → WordsBecomeExact → FittingHeadsHaveParts →
    IsKnowledge stage.frame stage.known → FitsHead stage.query stage.frame head → IsCertainAverage stage i key (frame_of head)
average_is_certain stage i key head contain settle words parts k fits =
    let part = parts stage.query stage.frame head fits in
    record {
      contains = λ world agrees. contain stage.query i key (frame_of head) stage.frame stage.known world part k agrees;
      exact = λ all some world agrees. settle stage.query i key (frame_of head) stage.frame stage.known world part k all agrees some;
      told = λ all. word_of_average (pairs stage.query i key stage.frame stage.known) (words stage.query i key stage.frame stage.known k all);
    }

-- of the standing of a row
pub standing_is_certain : (stage : Stage) (r : ℕ) (head : Head) →
    StandingsAreRightOnTables → StandingsBecomeExact → FittingHeadsHaveParts →
    IsKnowledge stage.frame stage.known → r < stage.frame.rows → FitsHead stage.query stage.frame head → IsCertainStanding stage r (frame_of head)
standing_is_certain stage r head right exact parts k within fits =
    let part = parts stage.query stage.frame head fits in
    record {
      right = right stage.query (frame_of head) stage.frame stage.known r part k (subst (λ n. r < n) (sym (ap (λ (f : Frame). f.rows) fits.same)) within);
      exact = λ all. exact stage.query.pred (order_of stage.query.shape) stage.frame stage.known r k all within;
    }

-- of whether a key is in the result
pub key_is_certain : (stage : Stage) (key : Key) (head : Head) →
    ResultsAreToldOnTables → WordsBecomeExact → FittingHeadsHaveParts →
    IsKnowledge stage.frame stage.known → FitsHead stage.query stage.frame head → IsCertainKey stage key (frame_of head)
key_is_certain stage key head told exact parts k fits = record {
  told = told stage.query key (frame_of head) stage.frame stage.known (parts stage.query stage.frame head fits) k;
  exact = λ all. exact stage.query every_row key stage.frame stage.known k all;
}
