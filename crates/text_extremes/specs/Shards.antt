-- Shards of a table, each under a knowledge of its own. The numbers of a column of texts stand for these in the shard's own dictionary.
use Rattle.std.specs.Prelude.{◌≡◌, ℕ, zero, suc, ℤ, pos, negsuc, true, false, List, [], ◌∷◌, map, IsTrue}
use Rattle.std.specs.declared.option.Option.{Option}
use Rattle.std.specs.declared.option.Option.TheVariants.{Some, None}
use Rattle.daq_table.specs.ColumnFacts.{is_ascending}
use Rattle.daq_table.specs.Tables.{Cells}
use Rattle.query_model.specs.declared.bounds.Bound.{Bound}
use Rattle.query_model.specs.declared.bounds.Nullity.{Nullity}
use Rattle.query_model.specs.declared.bounds.Nullity.TheVariants.{Never, Possibly, Always}
use Rattle.query_model.specs.declared.query.ItemKind.{ItemKind}
use Rattle.query_model.specs.declared.query.ItemKind.TheVariants.{Min, Max}
use Rattle.shard_bounds.specs.Shards.{Shard, AreAllRead, AreCompletions, AreKnown, IsReadOn, ReadOnce, reported, values_at}
use Rattle.text_extremes.specs.Bounds.{Admits, IsExtremes, IsNested, Tells, TextBound, combined}
use Rattle.text_extremes.specs.Laws.{OfEach, answer_over}
use Rattle.text_extremes.specs.declared.extreme.Extreme.{Extreme}
use Rattle.text_extremes.specs.declared.extreme.Extreme.TheVariants.{Least, Greatest}

-- a shard, and its dictionary: the texts of the column, each before the next
pub record TextShard : Type 0 where
  pub shard : Shard
  pub names : List (List ℕ)

abbrev pub AreAscending : List TextShard → Type 0
AreAscending [] = Unit {0}
AreAscending (part ∷ parts) = IsTrue (is_ascending part.names) × AreAscending parts

-- the text at a place, counted from 0; behind the last it is the last
abbrev pub name_from : List (List ℕ) → ℕ → List ℕ
name_from [] place = []
name_from (name ∷ []) place = name
name_from (name ∷ next ∷ names) zero = name
name_from (name ∷ next ∷ names) (suc place) = name_from (next ∷ names) place

-- the text that a number stands for
abbrev pub name_in : List (List ℕ) → ℤ → List ℕ
name_in names (pos place) = name_from names place
name_in names (negsuc n) = name_from names 0

abbrev pub name_of : TextShard → ℤ → List ℕ
name_of part number = name_in part.names number

abbrev pub shards_of : List TextShard → List Shard
shards_of parts = map (λ part. part.shard) parts

abbrev pub kind_of : Extreme → ItemKind
kind_of Least = Min
kind_of Greatest = Max

-- the texts that a shard gives to the item
abbrev pub texts_in : List TextShard → List Cells → List (List (List ℕ))
texts_in [] tables = []
texts_in (part ∷ parts) [] = []
texts_in (part ∷ parts) (cells ∷ more) = map (name_of part) (values_at part.shard cells) ∷ texts_in parts more

abbrev pub answer_in : Extreme → List TextShard → List Cells → Option (List ℕ)
answer_in extreme parts tables = answer_over extreme (texts_in parts tables)

-- the bound of numbers, by the texts that they stand for
abbrev pub named_by : (ℤ → List ℕ) → Nullity → ℤ → ℤ → Option TextBound
named_by name Never low high = Some (record { certain = true; low = name low; high = name high })
named_by name Possibly low high = Some (record { certain = false; low = name low; high = name high })
named_by name Always low high = None

abbrev pub named : (ℤ → List ℕ) → Bound → Option TextBound
named name bound = named_by name bound.null bound.lo bound.hi

-- the bound that each reports, and the bound over all
abbrev pub told : TextShard → Option TextBound
told part = named (name_of part) (reported part.shard)

abbrev pub bound_over : Extreme → List TextShard → Option TextBound
bound_over extreme parts = combined extreme (map told parts)

-- ---- laws

-- the bound over all shards admits the answer of each choice of completions
abbrev pub ShardsContain : Type 0
ShardsContain =
    (extreme : Extreme) (parts : List TextShard) (tables : List Cells) →
    AreAscending parts → AreKnown (kind_of extreme) (shards_of parts) → AreCompletions (shards_of parts) tables →
    Admits (bound_over extreme parts) (answer_in extreme parts tables)

-- where the item is read-once, it is the extremes over all of them
abbrev pub ShardsAreExtremes : Type 0
ShardsAreExtremes =
    (extreme : Extreme) (parts : List TextShard) →
    AreAscending parts → AreKnown (kind_of extreme) (shards_of parts) → ReadOnce (shards_of parts) →
    IsExtremes (AreCompletions (shards_of parts)) (answer_in extreme parts) (bound_over extreme parts)

-- a shard of which nothing or one plane more is read, with the same dictionary
pub record IsPartReadOn (old new : TextShard) : Type 0 where
  pub shard : IsReadOn old.shard new.shard
  pub names : new.names ≡ old.names

-- with more of the shards read, each at its own pace, the bound over all lies within the one before
abbrev pub ShardsNest : Type 0
ShardsNest =
    (extreme : Extreme) (olds news : List TextShard) →
    AreAscending olds → AreKnown (kind_of extreme) (shards_of olds) → OfEach IsPartReadOn olds news →
    IsNested (bound_over extreme olds) (bound_over extreme news)

-- with nothing unread it says the answer
abbrev pub ShardsBecomeExact : Type 0
ShardsBecomeExact =
    (extreme : Extreme) (parts : List TextShard) (tables : List Cells) →
    AreAscending parts → AreKnown (kind_of extreme) (shards_of parts) →
    AreAllRead (shards_of parts) → AreCompletions (shards_of parts) tables →
    Tells (bound_over extreme parts) (answer_in extreme parts tables)
