-- Parts of a table, each under a knowledge of its own.
use Rattle.std.proofs.Common.{◌≡◌, ◌≢◌, ℕ, zero, suc, ◌+◌, ◌-◌, ◌<◌, ◌≤◌, ℤ, List, [], ◌∷◌, ◌++◌, inl, inr, refl, arith, map, subst, sym, ap, ◌∙◌, Option, Some, None, filter_map}
use Rattle.std.specs.List.{range_with_len, cons_option}
use Rattle.daq_table.specs.Tables.{Cells, row_of}
use lib.Signed.{≤ℤ_refl}
use Rattle.query_model.specs.declared.bounds.Bound.{Bound}
use Rattle.query_model.specs.declared.bounds.Nullity.{Nullity}
use Rattle.query_model.specs.declared.bounds.Nullity.TheVariants.{Never, Possibly, Always}
use Rattle.query_model.specs.declared.query.ItemKind.{ItemKind}
use Rattle.query_model.specs.declared.query.ItemKind.TheVariants.{Count, Sum, Min, Max, Avg}
use Rattle.query_model.specs.Knowledge.{IsAllRead, IsKnowledge, IsCompletion}
use Rattle.query_model.specs.Answers.{answer, answer_of, outcome_of}
use Rattle.query_model.specs.Bounds.{Admits, IsExtremes, IsNested, Pair, bound_of, nullity_of}
use Rattle.query_model.proofs.Exact.{words_become_exact, bounds_become_exact}
use Rattle.query_model.proofs.Nesting.{bounds_nest, taken_is_knowledge}
use Rattle.query_model.specs.Validity.{declared_ranges}
use Rattle.query_model.proofs.Attaining.{once_attains}
use Rattle.query_model.proofs.Queries.{bounds_contain, bounds_are_extremes, completions_exist, pairs_ordered}
use Rattle.shard_bounds.specs.Combined.{together, answer_over, combined, IsBoundOf, AreBoundsOf}
use Rattle.shard_bounds.specs.Laws.{AreAdmitted, AreChoices, AreTightShards, IsTightShard, AreAllPairs, AreNested, AreTold, Tells}
use Rattle.shard_bounds.specs.Shards.{Shard, AreKnown, AreCompletions, values_at, values_in, answer_in, reported, bound_over, pairs_at, ReadOnce, AreRowsFrom, CutsKeepValues, ShardsContain, ShardsAreExtremes, ShardsLoseNothing, IsReadOn, AreReadOn, ShardsNest, AreAllRead, ShardsBecomeExact}
use Rattle.shard_bounds.proofs.Contains.{combinations_contain}
use Rattle.shard_bounds.proofs.Exact.{combinations_tell}
use Rattle.shard_bounds.proofs.Extremes.{combinations_are_extremes}
use Rattle.shard_bounds.proofs.Nests.{combinations_nest}
use Rattle.shard_bounds.proofs.Unions.{extremes_there, filter_map-append, lists_give_bounds, map-map, nothing_is_lost}

-- ---- contains

admitted_at : (kind : ItemKind) (shard : Shard) (cells : Cells) → kind ≢ Avg → shard.item.kind ≡ kind → IsCompletion shard.frame shard.known cells →
    (Admits (reported shard) (answer_of shard.query shard.item shard.key shard.frame cells)) → Admits (reported shard) (answer kind (values_at shard cells))
admitted_at kind shard cells k e c h = subst (λ n. Admits (reported shard) (answer n (values_at shard cells))) e h

not_average : (kind : ItemKind) (shard : Shard) → kind ≢ Avg → shard.item.kind ≡ kind → shard.item.kind ≢ Avg
not_average kind shard k e f = k (sym e ∙ f)

admitted : (kind : ItemKind) (shards : List Shard) (tables : List Cells) → kind ≢ Avg → AreKnown kind shards → AreCompletions shards tables →
    AreAdmitted kind (map reported shards) (values_in shards tables)
admitted kind [] [] k h c = tt
admitted kind [] (cells ∷ more) k h c = absurd c
admitted kind (shard ∷ shards) [] k h c = absurd c
admitted kind (shard ∷ shards) (cells ∷ more) k h c = (
  admitted_at kind shard cells k h.0 c.0 (bounds_contain shard.query shard.item shard.key shard.frame shard.known cells (not_average kind shard k h.0) h.1 c.0),
  admitted kind shards more k h.2 c.1,
)

pub shards_contain : ShardsContain
shards_contain kind shards tables k h c = combinations_contain kind (map reported shards) (values_in shards tables) k (admitted kind shards tables k h c)

-- ---- extremes

-- the values of a completion
abbrev pub IsValuesOf : Shard → List ℤ → Type 0
IsValuesOf shard values = (cells : Cells) × IsCompletion shard.frame shard.known cells × (values_at shard cells ≡ values)

abbrev pub possible_at : List Shard → ℕ → List ℤ → Type 0
possible_at [] i values = ⊥
possible_at (shard ∷ shards) zero values = IsValuesOf shard values
possible_at (shard ∷ shards) (suc i) values = possible_at shards i values

shard_is_tight : (kind : ItemKind) (shard : Shard) (e : shard.item.kind ≡ kind) → IsExtremes (IsCompletion shard.frame shard.known) (λ cells. answer kind (values_at shard cells)) (reported shard) →
    (cells : Cells) × IsCompletion shard.frame shard.known cells → IsTightShard kind (IsValuesOf shard) (reported shard)
shard_is_tight kind shard e law some = record {
  some = (values_at shard some.0, (some.0, some.1, refl));
  extremes = extremes_there (IsCompletion shard.frame shard.known) (λ cells. answer kind (values_at shard cells)) (IsValuesOf shard) (answer kind)
      (λ cells c. (values_at shard cells, (cells, c, refl), refl)) (λ values given. (given.0, given.1, ap (answer kind) given.2)) (reported shard) law;
}

shards_are_tight : (kind : ItemKind) (shards : List Shard) → kind ≢ Avg → AreKnown kind shards → ReadOnce shards → AreTightShards kind (possible_at shards) (map reported shards)
shards_are_tight kind [] k h o = tt
shards_are_tight kind (shard ∷ shards) k h o = (
  shard_is_tight kind shard h.0
      (subst (λ n. IsExtremes (IsCompletion shard.frame shard.known) (λ cells. answer n (values_at shard cells)) (reported shard)) h.0
      (bounds_are_extremes shard.query shard.item shard.key shard.frame shard.known (not_average kind shard k h.0)
      (once_attains shard.query shard.item (declared_ranges shard.frame) o.0) h.1))
      (completions_exist shard.frame shard.known h.1),
  shards_are_tight kind shards k h.2 o.1,
)

-- completions and choices of values
pub record Tables (shards : List Shard) (lists : List (List ℤ)) : Type 0 where
  pub tables : List Cells
  pub are : AreCompletions shards tables
  pub gives : values_in shards tables ≡ lists

tables_of : (shards : List Shard) (lists : List (List ℤ)) → AreChoices (possible_at shards) (map reported shards) lists → Tables shards lists
tables_of [] [] c = record { tables = []; are = tt; gives = refl }
tables_of [] (values ∷ lists) c = absurd c
tables_of (shard ∷ shards) [] c = absurd c
tables_of (shard ∷ shards) (values ∷ lists) c =
    let rest = tables_of shards lists c.1 in
    record { tables = c.0.0 ∷ rest.tables; are = (c.0.1, rest.are); gives = ap (λ vs. vs ∷ values_in shards rest.tables) c.0.2 ∙ ap (λ vss. values ∷ vss) rest.gives }

choice_of : (shards : List Shard) (tables : List Cells) → AreCompletions shards tables → AreChoices (possible_at shards) (map reported shards) (values_in shards tables)
choice_of [] [] c = tt
choice_of [] (cells ∷ more) c = absurd c
choice_of (shard ∷ shards) [] c = absurd c
choice_of (shard ∷ shards) (cells ∷ more) c = ((cells, c.0, refl), choice_of shards more c.1)

pub shards_are_extremes : ShardsAreExtremes
shards_are_extremes kind shards k h o =
    extremes_there (AreChoices (possible_at shards) (map reported shards)) (answer_over kind) (AreCompletions shards) (answer_in kind shards)
    (λ lists c. (let found = tables_of shards lists c in (found.tables, found.are, ap (answer_over kind) found.gives)))
    (λ tables c. (values_in shards tables, choice_of shards tables c, refl))
    (bound_over kind shards) (combinations_are_extremes kind (possible_at shards) (map reported shards) k (shards_are_tight kind shards k h o))

-- ---- nothing is lost

reported_same : (kind : ItemKind) (shards : List Shard) → AreKnown kind shards → map reported shards ≡ map (λ s. bound_of kind (pairs_at s)) shards
reported_same kind [] h = refl
reported_same kind (shard ∷ shards) h =
    ap (λ n. bound_of n (pairs_at shard) ∷ map reported shards) h.0 ∙ ap (λ bs. bound_of kind (pairs_at shard) ∷ bs) (reported_same kind shards h.2)

all_pairs : (kind : ItemKind) (shards : List Shard) → AreKnown kind shards → AreAllPairs (map pairs_at shards)
all_pairs kind [] h = tt
all_pairs kind (shard ∷ shards) h = (pairs_ordered shard.query shard.item shard.key shard.frame shard.known h.1, all_pairs kind shards h.2)

pub shards_lose_nothing : ShardsLoseNothing
shards_lose_nothing kind shards k h =
    ap (combined kind) (reported_same kind shards h ∙ sym (map-map (bound_of kind) pairs_at shards))
    ∙ nothing_is_lost kind (map pairs_at shards) k (all_pairs kind shards h)

-- ---- a table that is cut

from_below : (outcome : ℕ → Option ℤ) (from to : ℕ) (shards : List Shard) (tables : List Cells) → AreRowsFrom outcome from to shards tables → from ≤ to
from_below outcome from to [] [] h = omega arith
from_below outcome from to [] (cells ∷ more) h = absurd h
from_below outcome from to (shard ∷ shards) [] h = absurd h
from_below outcome from to (shard ∷ shards) (cells ∷ more) h = (let rest = from_below outcome (from + shard.frame.rows) to shards more h.1 in omega arith)

range-append : (a m n : ℕ) → range_with_len a (m + n) ≡ range_with_len a m ++ range_with_len (a + m) n
range-append a zero n = (let e : zero + n ≡ n = omega arith in let f : a + zero ≡ a = omega arith in ap (range_with_len a) e ∙ ap (λ b. range_with_len b n) (sym f))
range-append a (suc m) n =
    let e : suc m + n ≡ suc (m + n) = omega arith in
    let f : (a + 1) + m ≡ a + suc m = omega arith in
    ap (range_with_len a) e ∙ ap (λ xs. a ∷ xs) (range-append (a + 1) m n) ∙ ap (λ b. a ∷ range_with_len (a + 1) m ++ range_with_len b n) f

same_outcomes : (f g : ℕ → Option ℤ) (from a n m : ℕ) → a + n ≤ m → ((r : ℕ) → r < m → f (from + r) ≡ g r) → filter_map f (range_with_len (from + a) n) ≡ filter_map g (range_with_len a n)
same_outcomes f g from a zero m h same = refl
same_outcomes f g from a (suc n) m h same =
    let e : (from + a) + 1 ≡ from + (a + 1) = omega arith in
    let here : f (from + a) ≡ g a = same a (omega arith) in
    ap (λ b. cons_option (f (from + a)) (filter_map f (range_with_len b n))) e
    ∙ ap (λ xs. cons_option (f (from + a)) xs) (same_outcomes f g from (a + 1) n m (omega arith) same)
    ∙ ap (λ o. cons_option o (filter_map g (range_with_len (a + 1) n))) here

cut_values : (outcome : ℕ → Option ℤ) (from to n : ℕ) (shards : List Shard) (tables : List Cells) → AreRowsFrom outcome from to shards tables → to ≡ from + n →
    filter_map outcome (range_with_len from n) ≡ together (values_in shards tables)
cut_values outcome from to n [] [] h e = (let z : n ≡ 0 = omega arith in ap (λ m. filter_map outcome (range_with_len from m)) z)
cut_values outcome from to n [] (cells ∷ more) h e = absurd h
cut_values outcome from to n (shard ∷ shards) [] h e = absurd h
cut_values outcome from to n (shard ∷ shards) (cells ∷ more) h e =
    let rows = shard.frame.rows in
    let below = from_below outcome (from + rows) to shards more h.1 in
    let split : n ≡ rows + (n - rows) = omega arith in
    let rest : to ≡ (from + rows) + (n - rows) = omega arith in
    let start : from + 0 ≡ from = omega arith in
    let g : ℕ → Option ℤ = λ r. outcome_of shard.query shard.item shard.key (row_of shard.frame cells r) in
    ap (λ m. filter_map outcome (range_with_len from m)) split
    ∙ ap (filter_map outcome) (range-append from rows (n - rows))
    ∙ filter_map-append outcome (range_with_len from rows) (range_with_len (from + rows) (n - rows))
    ∙ ap (λ xs. xs ++ filter_map outcome (range_with_len (from + rows) (n - rows)))
    (ap (λ b. filter_map outcome (range_with_len b rows)) (sym start) ∙ same_outcomes outcome g from 0 rows rows (omega arith) h.0)
    ∙ ap (λ xs. values_at shard cells ++ xs) (cut_values outcome (from + rows) to (n - rows) shards more h.1 rest)

pub cuts_keep_values : CutsKeepValues
cuts_keep_values query item key frame cells shards tables h =
    cut_values (λ r. outcome_of query item key (row_of frame cells r)) 0 frame.rows frame.rows shards tables h (omega arith)

-- ---- nested

same_is_nested : (bound : Bound) → IsNested bound bound
same_is_nested bound = record { null = λ w. w; full = λ w. w; lo = λ w. ≤ℤ_refl bound.lo; hi = λ w. ≤ℤ_refl bound.hi }

read_nests : (kind : ItemKind) (old new : Shard) → kind ≢ Avg → old.item.kind ≡ kind → IsKnowledge old.frame old.known → IsReadOn old new → IsNested (reported old) (reported new)
read_nests kind old new k e h (inl same) = subst (λ s. IsNested (reported old) (reported s)) (sym same) (same_is_nested (reported old))
read_nests kind old new k e h (inr (c, bits, can, is)) =
    subst (λ s. IsNested (reported old) (reported s)) (sym is) (bounds_nest old.query old.item old.key old.frame old.known c bits (not_average kind old k e) h can)

still_known : (kind : ItemKind) (old new : Shard) → old.item.kind ≡ kind → IsKnowledge old.frame old.known → IsReadOn old new → (new.item.kind ≡ kind) × IsKnowledge new.frame new.known
still_known kind old new e h (inl same) = subst (λ s. (s.item.kind ≡ kind) × IsKnowledge s.frame s.known) (sym same) (e, h)
still_known kind old new e h (inr (c, bits, can, is)) =
    subst (λ s. (s.item.kind ≡ kind) × IsKnowledge s.frame s.known) (sym is) (e, taken_is_knowledge old.frame old.known c bits h can)

read_on_nest : (kind : ItemKind) (olds news : List Shard) → kind ≢ Avg → AreKnown kind olds → AreReadOn olds news → AreNested (map reported olds) (map reported news)
read_on_nest kind [] [] k h r = tt
read_on_nest kind [] (new ∷ news) k h r = r
read_on_nest kind (old ∷ olds) [] k h r = r
read_on_nest kind (old ∷ olds) (new ∷ news) k h r = (read_nests kind old new k h.0 h.1 r.0, read_on_nest kind olds news k h.2 r.1)

known_on : (kind : ItemKind) (olds news : List Shard) → AreKnown kind olds → AreReadOn olds news → AreKnown kind news
known_on kind [] [] h r = tt
known_on kind [] (new ∷ news) h r = absurd r
known_on kind (old ∷ olds) [] h r = absurd r
known_on kind (old ∷ olds) (new ∷ news) h r =
    let here = still_known kind old new h.0 h.1 r.0 in
    (here.0, here.1, known_on kind olds news h.2 r.1)

shard_bounds : (kind : ItemKind) (shards : List Shard) → kind ≢ Avg → AreKnown kind shards → AreBoundsOf kind (map reported shards)
shard_bounds kind [] k h = tt
shard_bounds kind (shard ∷ shards) k h = (
  subst (λ n. IsBoundOf kind (bound_of n (pairs_at shard))) (sym h.0)
      (lists_give_bounds kind (pairs_at shard) k (pairs_ordered shard.query shard.item shard.key shard.frame shard.known h.1)),
  shard_bounds kind shards k h.2,
)

pub shards_nest : ShardsNest
shards_nest kind olds news k h r =
    combinations_nest kind (map reported olds) (map reported news) k (shard_bounds kind news k (known_on kind olds news h r)) (read_on_nest kind olds news k h r)

-- ---- exact

word_decided : (kind : ItemKind) (ps : List Pair) → nullity_of ps ≢ Possibly → (bound_of kind ps).null ≢ Possibly
word_decided Count ps n e = cc
word_decided Sum ps n e = n e
word_decided Min ps n e = n e
word_decided Max ps n e = n e
word_decided Avg ps n e = n e

tells_by_word : (bound : Bound) (a : Option ℤ) (w : Nullity) → bound.null ≡ w → w ≢ Possibly → Admits bound a → (bound.null ≢ Always → (a ≡ Some bound.lo) × (a ≡ Some bound.hi)) → Tells bound a
tells_by_word bound a Possibly e d h is = absurd (d refl)
tells_by_word bound a Never e d h is =
    let both = is (λ f. apart (sym e ∙ f)) in
    subst (Tells bound) (sym both.0) (e, refl, some_same bound.hi bound.lo (sym both.1 ∙ both.0))
  where
    apart : ◌≡◌ {A = Nullity} Never Always → ⊥
    apart q = cc

    some_same : (x y : ℤ) → ◌≡◌ {A = Option ℤ} (Some x) (Some y) → x ≡ y
    some_same x y q = cc
tells_by_word bound None Always e d h is = e
tells_by_word bound (Some v) Always e d h is = absurd (h.0 e)

told_at : (kind : ItemKind) (shard : Shard) (cells : Cells) → kind ≢ Avg → shard.item.kind ≡ kind → IsKnowledge shard.frame shard.known → IsAllRead shard.frame shard.known →
    IsCompletion shard.frame shard.known cells → Tells (reported shard) (answer kind (values_at shard cells))
told_at kind shard cells k e h all c =
    let not_avg = not_average kind shard k e in
    subst (λ n. Tells (reported shard) (answer n (values_at shard cells))) e
    (tells_by_word (reported shard) (answer shard.item.kind (values_at shard cells)) (reported shard).null refl
    (word_decided shard.item.kind (pairs_at shard) (words_become_exact shard.query shard.item shard.key shard.frame shard.known h all))
    (bounds_contain shard.query shard.item shard.key shard.frame shard.known cells not_avg h c)
    (bounds_become_exact shard.query shard.item shard.key shard.frame shard.known cells not_avg h all c))

all_told : (kind : ItemKind) (shards : List Shard) (tables : List Cells) → kind ≢ Avg → AreKnown kind shards → AreAllRead shards → AreCompletions shards tables →
    AreTold kind (map reported shards) (values_in shards tables)
all_told kind [] [] k h all c = tt
all_told kind [] (cells ∷ more) k h all c = absurd c
all_told kind (shard ∷ shards) [] k h all c = absurd c
all_told kind (shard ∷ shards) (cells ∷ more) k h all c = (told_at kind shard cells k h.0 h.1 all.0 c.0, all_told kind shards more k h.2 all.1 c.1)

pub shards_become_exact : ShardsBecomeExact
shards_become_exact kind shards tables k h all c = combinations_tell kind (map reported shards) (values_in shards tables) k (all_told kind shards tables k h all c)
