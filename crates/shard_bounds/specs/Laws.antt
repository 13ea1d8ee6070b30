-- The laws of bounds over shards, as statements. A public function with an empty body has each as its contract.
use Rattle.std.specs.Prelude.{pos, IsTrue, ◌≡◌, ◌≢◌, ℕ, suc, ℤ, List, [], ◌∷◌, map}
use Rattle.std.specs.declared.option.Option.{Option}
use Rattle.std.specs.declared.option.Option.TheVariants.{Some, None}
use Rattle.std.specs.List.{flat_map, list_all}
use Rattle.query_model.specs.declared.bounds.Bound.{Bound}
use Rattle.query_model.specs.declared.bounds.Nullity.TheVariants.{Never, Always}
use Rattle.query_model.specs.declared.query.ItemKind.{ItemKind}
use Rattle.query_model.specs.declared.query.ItemKind.TheVariants.{Count, Sum, Avg}
use Rattle.query_model.specs.Answers.{answer, average}
use Rattle.query_model.specs.Bounds.{Admits, AdmitsAverage, AverageBound, IsExtremes, IsNested, IsNestedAverage, Pair, average_bound_of}
use Rattle.query_model.specs.Bounds.{bound_of}
use Rattle.query_model.specs.Laws.{AreOutcomes, ArePairs, present}
use Rattle.shard_bounds.specs.Averages.{average_from, hull_of_averages, is_exact, combined_average, meet_of_two, IsDivisible, AreDivisible}
use Rattle.shard_bounds.specs.Averages.{TellsAverage, ReportsAverage}
use Rattle.shard_bounds.specs.Combined.{answer_over, average_over, combined, IsBoundOf, AreBoundsOf, Reordered}

-- ---- contains

-- the bound of each shard admits the shard's answer
abbrev pub AreAdmitted : ItemKind → List Bound → List (List ℤ) → Type 0
AreAdmitted kind [] [] = Unit {0}
AreAdmitted kind [] (values ∷ shards) = ⊥
AreAdmitted kind (bound ∷ bounds) [] = ⊥
AreAdmitted kind (bound ∷ bounds) (values ∷ shards) = Admits bound (answer kind values) × AreAdmitted kind bounds shards

-- where the bound of each shard admits the shard's answer, the bound over all shards admits the answer over all
abbrev pub CombinationsContain : Type 0
CombinationsContain =
    (kind : ItemKind) (bounds : List Bound) (shards : List (List ℤ)) →
    kind ≢ Avg → AreAdmitted kind bounds shards → Admits (combined kind bounds) (answer_over kind shards)

-- ---- nested

-- the new bound of each shard lies within its old one
abbrev pub AreNested : List Bound → List Bound → Type 0
AreNested [] [] = Unit {0}
AreNested [] (new ∷ news) = ⊥
AreNested (old ∷ olds) [] = ⊥
AreNested (old ∷ olds) (new ∷ news) = IsNested old new × AreNested olds news

abbrev pub CombinationsNest : Type 0
CombinationsNest =
    (kind : ItemKind) (olds news : List Bound) →
    kind ≢ Avg → AreBoundsOf kind news → AreNested olds news → IsNested (combined kind olds) (combined kind news)

-- ---- extremes

-- some values are possible for the shard, and its bound is the extremes of the answers over all that are
pub record IsTightShard (kind : ItemKind) (IsPossible : List ℤ → Type 0) (bound : Bound) : Type 0 where
  pub some : (values : List ℤ) × IsPossible values
  pub extremes : IsExtremes IsPossible (answer kind) bound

abbrev pub AreTightShards : ItemKind → (ℕ → List ℤ → Type 0) → List Bound → Type 0
AreTightShards kind possible [] = Unit {0}
AreTightShards kind possible (bound ∷ bounds) = IsTightShard kind (possible 0) bound × AreTightShards kind (λ i. possible (suc i)) bounds

-- a choice of possible values for each shard, whatever is chosen for the others
abbrev pub AreChoices : (ℕ → List ℤ → Type 0) → List Bound → List (List ℤ) → Type 0
AreChoices possible [] [] = Unit {0}
AreChoices possible [] (values ∷ shards) = ⊥
AreChoices possible (bound ∷ bounds) [] = ⊥
AreChoices possible (bound ∷ bounds) (values ∷ shards) = possible 0 values × AreChoices (λ i. possible (suc i)) bounds shards

-- ---- exact

-- the bound says what the answer is
abbrev pub Tells : Bound → Option ℤ → Type 0
Tells bound None = bound.null ≡ Always
Tells bound (Some v) = (bound.null ≡ Never) × (bound.lo ≡ v) × (bound.hi ≡ v)

abbrev pub AreTold : ItemKind → List Bound → List (List ℤ) → Type 0
AreTold kind [] [] = Unit {0}
AreTold kind [] (values ∷ shards) = ⊥
AreTold kind (bound ∷ bounds) [] = ⊥
AreTold kind (bound ∷ bounds) (values ∷ shards) = Tells bound (answer kind values) × AreTold kind bounds shards

-- where the bound of each shard says the shard's answer, the bound over all shards says the answer over all
abbrev pub CombinationsTell : Type 0
CombinationsTell =
    (kind : ItemKind) (bounds : List Bound) (shards : List (List ℤ)) →
    kind ≢ Avg → AreTold kind bounds shards → Tells (combined kind bounds) (answer_over kind shards)

-- ---- any cut, any order

-- the bound over one shard is that shard's
abbrev pub OneShardIsAll : Type 0
OneShardIsAll = (kind : ItemKind) (bound : Bound) → kind ≢ Avg → IsBoundOf kind bound → combined kind (bound ∷ []) ≡ bound

-- the order of the shards makes no difference
abbrev pub OrderIsFree : Type 0
OrderIsFree = (kind : ItemKind) (bounds others : List Bound) → Reordered bounds others → combined kind bounds ≡ combined kind others

-- all lists, laid end to end
abbrev pub flattened : {X : Type 0} → List (List X) → List X
flattened xss = flat_map (λ xs. xs) xss

abbrev pub AreAllPairs : List (List Pair) → Type 0
AreAllPairs [] = Unit {0}
AreAllPairs (ps ∷ pss) = ArePairs ps × AreAllPairs pss

-- the shards' bounds tell of the whole what all rows together tell
abbrev pub NothingIsLost : Type 0
NothingIsLost =
    (kind : ItemKind) (pss : List (List Pair)) → kind ≢ Avg → AreAllPairs pss →
    combined kind (map (bound_of kind) pss) ≡ bound_of kind (flattened pss)

abbrev pub AreAllBoundsOf : ItemKind → List (List Bound) → Type 0
AreAllBoundsOf kind [] = Unit {0}
AreAllBoundsOf kind (bounds ∷ groups) = AreBoundsOf kind bounds × AreAllBoundsOf kind groups

-- shards may be combined group by group, and then the groups
abbrev pub GroupsCombine : Type 0
GroupsCombine =
    (kind : ItemKind) (groups : List (List Bound)) → kind ≢ Avg → AreAllBoundsOf kind groups →
    combined kind (map (combined kind) groups) ≡ combined kind (flattened groups)

-- what is combined is again what a report gives
abbrev pub CombinedIsBound : Type 0
CombinedIsBound = (kind : ItemKind) (bounds : List Bound) → kind ≢ Avg → AreBoundsOf kind bounds → IsBoundOf kind (combined kind bounds)

-- and so is the bound of a list of rows
abbrev pub ListsGiveBounds : Type 0
ListsGiveBounds = (kind : ItemKind) (ps : List Pair) → kind ≢ Avg → ArePairs ps → IsBoundOf kind (bound_of kind ps)

-- ---- averages

-- the bound of each shard admits the shard's average
abbrev pub AreAveragesAdmitted : List AverageBound → List (List ℤ) → Type 0
AreAveragesAdmitted [] [] = Unit {0}
AreAveragesAdmitted [] (values ∷ shards) = ⊥
AreAveragesAdmitted (bound ∷ bounds) [] = ⊥
AreAveragesAdmitted (bound ∷ bounds) (values ∷ shards) = AdmitsAverage bound (average values) × AreAveragesAdmitted bounds shards

-- the average over all shards lies between the shards' bounds
abbrev pub HullsContain : Type 0
HullsContain =
    (bounds : List AverageBound) (shards : List (List ℤ)) →
    AreDivisible bounds → AreAveragesAdmitted bounds shards → AdmitsAverage (hull_of_averages bounds) (average_over shards)

abbrev pub AreNestedAverages : List AverageBound → List AverageBound → Type 0
AreNestedAverages [] [] = Unit {0}
AreNestedAverages [] (new ∷ news) = ⊥
AreNestedAverages (old ∷ olds) [] = ⊥
AreNestedAverages (old ∷ olds) (new ∷ news) = IsNestedAverage old new × AreNestedAverages olds news

-- with narrower bounds of the shards it is narrower
abbrev pub HullsNest : Type 0
HullsNest =
    (olds news : List AverageBound) → AreDivisible olds → AreDivisible news →
    AreNestedAverages olds news → IsNestedAverage (hull_of_averages olds) (hull_of_averages news)

abbrev pub AreAveragesTold : List AverageBound → List (List ℤ) → Type 0
AreAveragesTold [] [] = Unit {0}
AreAveragesTold [] (values ∷ shards) = ⊥
AreAveragesTold (bound ∷ bounds) [] = ⊥
AreAveragesTold (bound ∷ bounds) (values ∷ shards) = TellsAverage bound (average values) × AreAveragesTold bounds shards

-- where the bound of each shard says the shard's sum and number, the bound over all shards says those over all
abbrev pub CombinationsTellAverages : Type 0
CombinationsTellAverages =
    (bounds : List AverageBound) (shards : List (List ℤ)) → AreAveragesTold bounds shards →
    TellsAverage (combined_average bounds) (average_over shards)

abbrev pub AreAveragesReported : List AverageBound → List (List ℤ) → Type 0
AreAveragesReported [] [] = Unit {0}
AreAveragesReported [] (values ∷ shards) = ⊥
AreAveragesReported (bound ∷ bounds) [] = ⊥
AreAveragesReported (bound ∷ bounds) (values ∷ shards) = ReportsAverage bound (average values) × AreAveragesReported bounds shards

-- the bound over all shards is again such a report of the average over all
abbrev pub CombinationsReportAverages : Type 0
CombinationsReportAverages =
    (bounds : List AverageBound) (shards : List (List ℤ)) →
    AreDivisible bounds → AreAveragesReported bounds shards → ReportsAverage (combined_average bounds) (average_over shards)

-- that bound looks exact only where each shard's does
abbrev pub CombinationsLookExact : Type 0
CombinationsLookExact =
    (bounds : List AverageBound) → AreDivisible bounds → IsTrue (is_exact (combined_average bounds)) → IsTrue (list_all is_exact bounds)

-- the bound of a list of rows is such a report of each choice of outcomes
abbrev pub ListsReportAverages : Type 0
ListsReportAverages =
    (ps : List Pair) (os : List (Option ℤ)) → ArePairs ps → AreOutcomes ps os → ReportsAverage (average_bound_of ps) (average (present os))

-- the bound over one shard is that shard's; where there is no average its ends are 0
abbrev pub OneAverageIsAll : Type 0
OneAverageIsAll =
    (bound : AverageBound) → IsDivisible bound →
    (bound.null ≡ Always → (bound.lo ≡ record { num = pos 0; den = 1 }) × (bound.hi ≡ record { num = pos 0; den = 1 })) →
    combined_average (bound ∷ []) ≡ bound

-- in another order the bound says the same: each of the two lies within the other. Equal fractions may stand as 1/2 and as 2/4
abbrev pub OrderOfAveragesIsFree : Type 0
OrderOfAveragesIsFree =
    (bounds others : List AverageBound) → AreDivisible bounds → Reordered bounds others →
    IsNestedAverage (combined_average bounds) (combined_average others)
    × IsNestedAverage (combined_average others) (combined_average bounds)

-- the new report lies within the old one, and where the old one looks exact it stays as it is
pub record IsNestedReport (old new : AverageBound) : Type 0 where
  pub nested : IsNestedAverage old new
  pub kept : IsTrue (is_exact old) → new ≡ old

abbrev pub AreNestedReports : List AverageBound → List AverageBound → Type 0
AreNestedReports [] [] = Unit {0}
AreNestedReports [] (new ∷ news) = ⊥
AreNestedReports (old ∷ olds) [] = ⊥
AreNestedReports (old ∷ olds) (new ∷ news) = IsNestedReport old new × AreNestedReports olds news

-- with narrower reports of the shards the bound over all is narrower
abbrev pub AveragesNest : Type 0
AveragesNest =
    (olds news : List AverageBound) → AreDivisible olds → AreDivisible news → AreNestedReports olds news →
    IsNestedAverage (combined_average olds) (combined_average news)

-- from the shards' bounds of SUM and of the number of values follows the bound that all rows together have
abbrev pub SumsGiveAverages : Type 0
SumsGiveAverages =
    (pss : List (List Pair)) → AreAllPairs pss →
    average_from (combined Sum (map (bound_of Sum) pss)) (combined Count (map (bound_of Count) pss)) ≡ average_bound_of (flattened pss)

-- the bound that follows from those of the sum and of the number of some values
pub record AveragesFollow : Type 0 where
  -- where these are admitted, so is the average
  pub contain : (sum count : Bound) (values : List ℤ) → Admits sum (answer Sum values) → Admits count (answer Count values) →
      AdmitsAverage (average_from sum count) (average values)
  -- with narrower ones it is narrower
  pub nest : (sum count new_sum new_count : Bound) → IsNested sum new_sum → IsNested count new_count → new_count.null ≢ Always →
      IsNestedAverage (average_from sum count) (average_from new_sum new_count)
  -- where they are said, it says them
  pub tell : (sum count : Bound) (values : List ℤ) → Tells sum (answer Sum values) → Tells count (answer Count values) →
      TellsAverage (average_from sum count) (average values)

-- what lies in two bounds of an average
pub record MeetsStand : Type 0 where
  -- an average that lies in both
  pub contain : (a b : AverageBound) (x : Option (ℤ × ℕ)) → AdmitsAverage a x → AdmitsAverage b x → AdmitsAverage (meet_of_two a b) x
  -- with narrower ones it is narrower, where some average lies in both of these
  pub nest : (a b new other : AverageBound) (x : Option (ℤ × ℕ)) → AreDivisible (new ∷ other ∷ []) →
      IsNestedAverage a new → IsNestedAverage b other →
      AdmitsAverage new x → AdmitsAverage other x → IsNestedAverage (meet_of_two a b) (meet_of_two new other)
  -- where the first says the sum and the number of values, and the second admits them
  pub tell : (a b : AverageBound) (x : Option (ℤ × ℕ)) → TellsAverage a x → AdmitsAverage b x → TellsAverage (meet_of_two a b) x
  -- it lies in each of the two
  pub narrow : (a b : AverageBound) (x : Option (ℤ × ℕ)) → AdmitsAverage a x → AdmitsAverage b x →
      IsNestedAverage a (meet_of_two a b) × IsNestedAverage b (meet_of_two a b)
