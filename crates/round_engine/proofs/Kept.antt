-- What is kept of each item, at the stage that an engine stands for.
use Rattle.std.proofs.Common.{◌≡◌, ◌≢◌, ℕ, ◌<◌, Bool, List, [], length, map, Option, Some, None, IfSome, slice_get, get_or, subst, sym, refl, ap, ◌∙◌, arith, inl, inr}
use Rattle.std.specs.List.{range_with_len}
use Rattle.std.proofs.lemmas.List.{length-map, get_or-map}
use Rattle.std.proofs.lemmas.List.Elements.{All-from_recursion, All-get_or}
use Rattle.std.proofs.lemmas.List.FromFn.{length-map-range_with_len, get_or-map-range_with_len}
use Rattle.std.proofs.lemmas.Option.{get_or_from_slice_get, slice_get_within, slice_get_cases}
use Rattle.query_model.specs.declared.bounds.AverageBound as code
use Rattle.query_model.specs.declared.bounds.Bound.{Bound}
use Rattle.query_model.specs.declared.bounds.Truth.{Truth}
use Rattle.known_column.specs.KnownTables.{KnownTable}
use Rattle.query_model.specs.Queries.{Aggregate}
use Rattle.query_model.specs.declared.query.ItemKind.{ItemKind}
use Rattle.query_model.specs.declared.query.ItemKind.TheVariants.{Avg}
use Rattle.query_model.specs.Bounds.{Pair, average_under, bound_under, fractions_of, pairs}
use Rattle.query_model.specs.Knowledge.{ranges_of}
use Rattle.query_model.specs.Truths.{truth_of}
use Rattle.round_engine.specs.declared.answers.Answers.TheVariants.{Totals, Groups, Ranking}
use Rattle.round_engine.specs.declared.follower.Follower.{Follower}
use Rattle.round_engine.specs.declared.totals.Totals as declared
use Rattle.round_engine.specs.declared.groups.Groups as cells
use Rattle.round_engine.specs.declared.ranking.Ranking as rankings
use Rattle.round_engine.specs.CellAnswers.{AreGroups}
use Rattle.round_engine.specs.Rankings.{IsRanking}
use Rattle.round_engine.specs.Engines.{AreAnswers, stage_of}
use Rattle.round_engine.specs.Followers.{query_of, Follows}
use Rattle.round_engine.specs.Stages.{IsOpenItem, IsOpenStage, Stage}
use Rattle.round_engine.specs.declared.item_bound.ItemBound.{ItemBound}
use Rattle.round_engine.specs.declared.item_bound.ItemBound.TheVariants.{Numbers, Fractions}
use Rattle.round_engine.specs.Totals.{AreEach, AreTotals, HasFractions, HasNumbers, IsBoundOf}

-- ---- the value of an option

pub if_some : {X : Type 0} (o : Option X) (P : X → Type 0) → ((x : X) → o ≡ Some x → P x) → IfSome o P
if_some None P h = tt
if_some (Some x) P h = h x refl

pub if_some_also : {X : Type 0} (o : Option X) (P Q : X → Type 0) → IfSome o P → ((x : X) → o ≡ Some x → P x → Q x) → IfSome o Q
if_some_also None P Q p h = tt
if_some_also (Some x) P Q p h = h x refl p

pub of_some : {X : Type 0} (o : Option X) (P : X → Type 0) (x : X) → IfSome o P → o ≡ Some x → P x
of_some o P x p e = subst (λ w. IfSome w P) e p

-- ---- the totals of a stage

-- a place within the items has one
pub item_at : (items : List Aggregate) (n : ℕ) → n < length items → (i : Aggregate) × (slice_get items n ≡ Some i)
item_at items n within =
    elim (slice_get_cases items n).1 [
      | inl found ↦ (found.0, found.2)
      | inr past ↦ (let beyond = past.0 in absurd (omega arith))
    ]

-- each total has its item
pub item_of : {X : Type 0} (R : ℕ → Aggregate → X → Type 0) (items : List Aggregate) (xs : List X) (n : ℕ) (x : X) → AreEach R items xs → slice_get xs n ≡ Some x → (i : Aggregate) × (slice_get items n ≡ Some i) × R n i x
item_of R items xs n x are there =
    let within = slice_get_within xs n x there in
    let count = are.count in
    elim (slice_get_cases items n).1 [
      | inl found ↦ (found.0, found.2, are.each n found.0 x found.2 there)
      | inr past ↦ (let beyond = past.0 in absurd (omega arith))
    ]

numbers_if : (bounds : List ItemBound) (n : ℕ) (kind : ItemKind) (ps : List Pair) (bound : ItemBound) → slice_get bounds n ≡ Some bound → IsBoundOf kind ps bound → kind ≢ Avg → HasNumbers bounds n
numbers_if bounds n kind ps (Numbers bound) there is h = record { bound = bound; there = there }
numbers_if bounds n kind ps (Fractions bound) there is h = absurd (h is.0)

fractions_if : (bounds : List ItemBound) (n : ℕ) (kind : ItemKind) (ps : List Pair) (bound : ItemBound) → slice_get bounds n ≡ Some bound → IsBoundOf kind ps bound → kind ≡ Avg → HasFractions bounds n
fractions_if bounds n kind ps (Numbers bound) there is h = absurd (is.0 h)
fractions_if bounds n kind ps (Fractions bound) there is h = record { bound = bound; there = there }

module _ (stage : Stage) (bounds : List ItemBound) (n : ℕ) (are : AreTotals stage bounds) where
  total_there : n < length stage.query.items → (bound : ItemBound) × (slice_get bounds n ≡ Some bound)
  total_there within =
      let count = are.count in
      elim (slice_get_cases bounds n).1 [
        | inl found ↦ (found.0, found.2)
        | inr past ↦ (let beyond = past.0 in absurd (omega arith))
      ]

  pub has_numbers : n < length stage.query.items → IfSome (slice_get stage.query.items n) (λ i. i.kind ≢ Avg) → HasNumbers bounds n
  has_numbers within h =
      let (bound, there) = total_there within in
      let (i, at, is) = item_of _ stage.query.items bounds n bound are there in
      numbers_if bounds n i.kind (pairs stage.query i [] stage.frame stage.known) bound there is (of_some (slice_get stage.query.items n) (λ i. i.kind ≢ Avg) i h at)

  pub has_fractions : n < length stage.query.items → IfSome (slice_get stage.query.items n) (λ i. i.kind ≡ Avg) → HasFractions bounds n
  has_fractions within h =
      let (bound, there) = total_there within in
      let (i, at, is) = item_of _ stage.query.items bounds n bound are there in
      fractions_if bounds n i.kind (pairs stage.query i [] stage.frame stage.known) bound there is (of_some (slice_get stage.query.items n) (λ i. i.kind ≡ Avg) i h at)

  pub bound_at : (bound : Bound) → slice_get bounds n ≡ Some (Numbers bound) → IfSome (slice_get stage.query.items n) (λ i. bound ≡ bound_under stage.query i [] stage.frame stage.known)
  bound_at bound there = if_some (slice_get stage.query.items n) _ (λ i at. (are.each n i (Numbers bound) at there).1)

  pub average_at : (bound : code.AverageBound) → slice_get bounds n ≡ Some (Fractions bound) → IfSome (slice_get stage.query.items n) (λ i. fractions_of bound ≡ average_under stage.query i [] stage.frame stage.known)
  average_at bound there = if_some (slice_get stage.query.items n) _ (λ i at. (are.each n i (Fractions bound) at there).1)

pub open_item_at : (stage : Stage) (n : ℕ) (i : Aggregate) → IsOpenStage stage → slice_get stage.query.items n ≡ Some i → IsOpenItem stage.frame i
open_item_at stage n i kept e =
    let within = slice_get_within stage.query.items n i e in
    subst (IsOpenItem stage.frame) (get_or_from_slice_get stage.query.items n i i e)
    (All-get_or (IsOpenItem stage.frame) stage.query.items n i within (All-from_recursion (IsOpenItem stage.frame) stage.query.items kept.open_query.items))

-- ---- what is kept at the stage that an engine stands for

-- the answers of an engine
pub answers_at : (columns : KnownTable) (follower : Follower) (stage : Stage) → Follows columns follower → stage_of (query_of follower) columns ≡ stage → AreAnswers stage follower.state.answers
answers_at columns follower stage kept is = subst (λ s. AreAnswers s follower.state.answers) is kept.answered

pub totals_at : (columns : KnownTable) (follower : Follower) (stage : Stage) (totals : declared.Totals) → Follows columns follower → stage_of (query_of follower) columns ≡ stage → follower.state.answers ≡ Totals totals → AreTotals stage totals.bounds.items
totals_at columns follower stage totals kept is form = (subst (AreAnswers stage) form (answers_at columns follower stage kept is)).1

pub ranking_at : (columns : KnownTable) (follower : Follower) (stage : Stage) (ranking : rankings.Ranking) → Follows columns follower → stage_of (query_of follower) columns ≡ stage → follower.state.answers ≡ Ranking ranking → IsRanking stage ranking
ranking_at columns follower stage ranking kept is form = subst (AreAnswers stage) form (answers_at columns follower stage kept is)

pub groups_at : (columns : KnownTable) (follower : Follower) (stage : Stage) (groups : cells.Groups) → Follows columns follower → stage_of (query_of follower) columns ≡ stage → follower.state.answers ≡ Groups groups → AreGroups stage groups
groups_at columns follower stage groups kept is form = subst (AreAnswers stage) form (answers_at columns follower stage kept is)

pub open_at : (columns : KnownTable) (follower : Follower) (stage : Stage) → Follows columns follower → stage_of (query_of follower) columns ≡ stage → IsOpenStage stage
open_at columns follower stage kept is = subst IsOpenStage is kept.open_stage

-- ---- what is kept of each row

-- the truths are those of the stage's rows
abbrev pub AreJudged : Stage → List Truth → Type 0
AreJudged stage truths = truths ≡ map (λ r. truth_of stage.query.pred (ranges_of stage.frame stage.known r)) (range_with_len 0 stage.frame.rows)

pub judged_at : (columns : KnownTable) (follower : Follower) (stage : Stage) → Follows columns follower → stage_of (query_of follower) columns ≡ stage → AreJudged stage follower.state.filter.truths
judged_at columns follower stage k e = subst (λ s. AreJudged s follower.state.filter.truths) e k.judged.truths

pub rows_judged : (stage : Stage) (truths : List Truth) (test : Truth → Bool) → AreJudged stage truths → length (map test truths) ≡ stage.frame.rows
rows_judged stage truths test j =
    length-map truths test ∙ ap length j ∙ length-map-range_with_len (λ r. truth_of stage.query.pred (ranges_of stage.frame stage.known r)) 0 stage.frame.rows

-- what the mask of a test has at a row is the test of the truth there
pub bit_at : (stage : Stage) (truths : List Truth) (test : Truth → Bool) (row : ℕ) (mask : List Bool) (bit : Bool) →
    AreJudged stage truths → mask ≡ map test truths → slice_get mask row ≡ Some bit → test (truth_of stage.query.pred (ranges_of stage.frame stage.known row)) ≡ bit
bit_at stage truths test row mask bit j m e =
    let within = slice_get_within mask row bit e in
    let rows = rows_judged stage truths test j in
    let long = ap length m in
    let inside : row < length truths = omega (arith, length-map truths test) in
    let here : row < stage.frame.rows = omega arith in
    let truth = truth_of stage.query.pred (ranges_of stage.frame stage.known row) in
    sym (ap test (ap (λ ts. get_or ts row truth) j ∙ get_or-map-range_with_len (λ r. truth_of stage.query.pred (ranges_of stage.frame stage.known r)) 0 stage.frame.rows row row truth here (omega arith)))
    ∙ sym (get_or-map test truths row truth bit inside)
    ∙ sym (ap (λ bs. get_or bs row bit) m)
    ∙ get_or_from_slice_get mask row bit bit e
