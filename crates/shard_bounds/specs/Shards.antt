-- Shards of a table, each under a knowledge of its own.
use Rattle.std.specs.Prelude.{◌≡◌, ◌≢◌, ◌⊎◌, Bool, ℕ, ◌+◌, ◌<◌, ℤ, List, [], ◌∷◌, map, IsTrue}
use Rattle.std.specs.declared.option.Option.{Option}
use Rattle.daq_table.specs.Tables.{Frame, Cells, row_of}
use Rattle.query_model.specs.declared.bounds.Bound.{Bound}
use Rattle.query_model.specs.declared.query.ItemKind.{ItemKind}
use Rattle.query_model.specs.declared.query.ItemKind.TheVariants.{Avg}
use Rattle.query_model.specs.Queries.{Aggregate, Query}
use Rattle.query_model.specs.Knowledge.{Knowledge, IsAllRead, IsKnowledge, IsCompletion, CanTake, taken}
use Rattle.query_model.specs.Answers.{Key, outcome_of, values_of}
use Rattle.query_model.specs.Bounds.{Admits, AdmitsAverage, AverageBound, IsExtremes, IsNested, IsNestedAverage, Pair, average_under}
use Rattle.query_model.specs.Bounds.{bound_of, bound_under, pairs}
use Rattle.query_model.specs.Validity.{reads_each_once}
use Rattle.shard_bounds.specs.Combined.{together, answer_over, average_over, combined}
use Rattle.shard_bounds.specs.Averages.{combined_average, TellsAverage}
use Rattle.shard_bounds.specs.Laws.{flattened, Tells}

-- some rows of a table as a query asks them, and what is known of them. Bases, tops and the dictionary are the shard's own,
-- so the query, the key and the item are those for this shard: a text has another number in each dictionary
pub record Shard : Type 0 where
  pub query : Query
  pub item : Aggregate
  pub key : Key
  pub frame : Frame
  pub known : Knowledge

-- all ask for the same aggregate, and what is known of each is a knowledge
abbrev pub AreKnown : ItemKind → List Shard → Type 0
AreKnown kind [] = Unit {0}
AreKnown kind (shard ∷ shards) = (shard.item.kind ≡ kind) × IsKnowledge shard.frame shard.known × AreKnown kind shards

-- a completion for each
abbrev pub AreCompletions : List Shard → List Cells → Type 0
AreCompletions [] [] = Unit {0}
AreCompletions [] (cells ∷ more) = ⊥
AreCompletions (shard ∷ shards) [] = ⊥
AreCompletions (shard ∷ shards) (cells ∷ more) = IsCompletion shard.frame shard.known cells × AreCompletions shards more

abbrev pub values_at : Shard → Cells → List ℤ
values_at shard cells = values_of shard.query shard.item shard.key shard.frame cells

abbrev pub values_in : List Shard → List Cells → List (List ℤ)
values_in [] tables = []
values_in (shard ∷ shards) [] = []
values_in (shard ∷ shards) (cells ∷ more) = values_at shard cells ∷ values_in shards more

-- the answer over all of them
abbrev pub answer_in : ItemKind → List Shard → List Cells → Option ℤ
answer_in kind shards tables = answer_over kind (values_in shards tables)

-- the bound that each reports, and the bound over all
abbrev pub reported : Shard → Bound
reported shard = bound_under shard.query shard.item shard.key shard.frame shard.known

abbrev pub bound_over : ItemKind → List Shard → Bound
bound_over kind shards = combined kind (map reported shards)

abbrev pub pairs_at : Shard → List Pair
pairs_at shard = pairs shard.query shard.item shard.key shard.frame shard.known

abbrev pub ReadOnce : List Shard → Type 0
ReadOnce [] = Unit {0}
ReadOnce (shard ∷ shards) = IsTrue (reads_each_once shard.query shard.item) × ReadOnce shards

-- ---- a table that is cut

-- the rows of the shards, one shard after another, are those from a row to another, and each gives the item the same
abbrev pub AreRowsFrom : (ℕ → Option ℤ) → ℕ → ℕ → List Shard → List Cells → Type 0
AreRowsFrom outcome from to [] [] = from ≡ to
AreRowsFrom outcome from to [] (cells ∷ more) = ⊥
AreRowsFrom outcome from to (shard ∷ shards) [] = ⊥
AreRowsFrom outcome from to (shard ∷ shards) (cells ∷ more) =
    ((r : ℕ) → r < shard.frame.rows → outcome (from + r) ≡ outcome_of shard.query shard.item shard.key (row_of shard.frame cells r))
    × AreRowsFrom outcome (from + shard.frame.rows) to shards more

-- ---- laws

-- the values of a table that is cut are those of its shards together
abbrev pub CutsKeepValues : Type 0
CutsKeepValues =
    (query : Query) (item : Aggregate) (key : Key) (frame : Frame) (cells : Cells) (shards : List Shard) (tables : List Cells) →
    AreRowsFrom (λ r. outcome_of query item key (row_of frame cells r)) 0 frame.rows shards tables →
    values_of query item key frame cells ≡ together (values_in shards tables)

-- the bound over all shards admits the answer of each choice of completions
abbrev pub ShardsContain : Type 0
ShardsContain =
    (kind : ItemKind) (shards : List Shard) (tables : List Cells) →
    kind ≢ Avg → AreKnown kind shards → AreCompletions shards tables → Admits (bound_over kind shards) (answer_in kind shards tables)

-- where the item is read-once, it is the extremes over all of them
abbrev pub ShardsAreExtremes : Type 0
ShardsAreExtremes =
    (kind : ItemKind) (shards : List Shard) →
    kind ≢ Avg → AreKnown kind shards → ReadOnce shards →
    IsExtremes (AreCompletions shards) (answer_in kind shards) (bound_over kind shards)

-- it is the bound of all rows together, as if the table had not been cut
abbrev pub ShardsLoseNothing : Type 0
ShardsLoseNothing =
    (kind : ItemKind) (shards : List Shard) →
    kind ≢ Avg → AreKnown kind shards → bound_over kind shards ≡ bound_of kind (flattened (map pairs_at shards))

-- a shard of which nothing or one plane more is read
abbrev pub IsReadOn : Shard → Shard → Type 0
IsReadOn old new =
    (new ≡ old)
    ⊎ ((c : ℕ) × (bits : List Bool) × CanTake old.frame old.known c bits × (new ≡ record old { known = taken old.known c bits }))

abbrev pub AreReadOn : List Shard → List Shard → Type 0
AreReadOn [] [] = Unit {0}
AreReadOn [] (new ∷ news) = ⊥
AreReadOn (old ∷ olds) [] = ⊥
AreReadOn (old ∷ olds) (new ∷ news) = IsReadOn old new × AreReadOn olds news

-- with more of the shards read, each at its own pace, the bound over all lies within the one before
abbrev pub ShardsNest : Type 0
ShardsNest =
    (kind : ItemKind) (olds news : List Shard) →
    kind ≢ Avg → AreKnown kind olds → AreReadOn olds news → IsNested (bound_over kind olds) (bound_over kind news)

abbrev pub AreAllRead : List Shard → Type 0
AreAllRead [] = Unit {0}
AreAllRead (shard ∷ shards) = IsAllRead shard.frame shard.known × AreAllRead shards

-- with nothing unread it says the answer
abbrev pub ShardsBecomeExact : Type 0
ShardsBecomeExact =
    (kind : ItemKind) (shards : List Shard) (tables : List Cells) →
    kind ≢ Avg → AreKnown kind shards → AreAllRead shards → AreCompletions shards tables →
    Tells (bound_over kind shards) (answer_in kind shards tables)

-- ---- averages

abbrev pub AreAnyKnown : List Shard → Type 0
AreAnyKnown [] = Unit {0}
AreAnyKnown (shard ∷ shards) = IsKnowledge shard.frame shard.known × AreAnyKnown shards

abbrev pub average_reported : Shard → AverageBound
average_reported shard = average_under shard.query shard.item shard.key shard.frame shard.known

-- the bound of the average over all shards admits the average of each choice of completions
abbrev pub ShardsContainAverages : Type 0
ShardsContainAverages =
    (shards : List Shard) (tables : List Cells) → AreAnyKnown shards → AreCompletions shards tables →
    AdmitsAverage (combined_average (map average_reported shards)) (average_over (values_in shards tables))

-- with more of the shards read it lies within the one before
abbrev pub ShardsNestAverages : Type 0
ShardsNestAverages =
    (olds news : List Shard) → AreAnyKnown olds → AreReadOn olds news →
    IsNestedAverage (combined_average (map average_reported olds)) (combined_average (map average_reported news))

-- with nothing unread it says the sum and the number of the values
abbrev pub ShardsBecomeExactAverages : Type 0
ShardsBecomeExactAverages =
    (shards : List Shard) (tables : List Cells) → AreAnyKnown shards → AreAllRead shards → AreCompletions shards tables →
    TellsAverage (combined_average (map average_reported shards)) (average_over (values_in shards tables))
