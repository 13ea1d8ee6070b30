-- The shards' bounds tell of the whole what all rows together tell.
use Rattle.std.proofs.Common.{◌≡◌, ◌≢◌, ℕ, ℤ, pos, ◌+ℤ◌, ◌≤ℤ◌, List, [], ◌∷◌, ◌++◌, get_or, refl, arith, map, subst, sym, ap, ◌∙◌, Option, Some, None, filter_map}
use Rattle.std.specs.List.{cons_option}
use Rattle.std.proofs.lemmas.Int.{ints}
use lib.Signed.{≤ℤ_refl}
use Rattle.query_model.specs.declared.bounds.Bound.{Bound}
use Rattle.query_model.specs.declared.bounds.Nullity.{Nullity}
use Rattle.query_model.specs.declared.bounds.Nullity.TheVariants.{Never, Possibly, Always}
use Rattle.query_model.specs.declared.query.ItemKind.{ItemKind}
use Rattle.query_model.specs.declared.query.ItemKind.TheVariants.{Count, Sum, Min, Max, Avg}
use Rattle.query_model.specs.Answers.{total, answer}
use Rattle.query_model.specs.Bounds.{Admits, Pair, bound_of, Occurs, WordIsRight, IsExtremes}
use Rattle.query_model.specs.Laws.{AreOutcomes, ArePairs, present}
use Rattle.query_model.proofs.ListBounds.{nullity_of-no_pair}
use Rattle.query_model.proofs.ListExtremes.{bounds_are_extremes_of_lists}
use Rattle.shard_bounds.specs.Combined.{together, answer_over, pair_of_shard, pairs_of_shards, combined, IsBoundOf, AreBoundsOf}
use Rattle.shard_bounds.specs.Laws.{AreChoices, AreTightShards, IsTightShard, flattened, AreAllPairs, AreAllBoundsOf, NothingIsLost, GroupsCombine, CombinedIsBound, ListsGiveBounds}
use Rattle.shard_bounds.proofs.Extremes.{combinations_are_extremes}
use Rattle.shard_bounds.proofs.Nests.{are_pairs, told}
use Rattle.shard_bounds.proofs.Single.{same_bound}

-- ---- what bounds of lists are like

ends_in_order : {W : Type 0} (IsWorld : W → Type 0) (answer_in : W → Option ℤ) (bound : Bound) → IsExtremes IsWorld answer_in bound → bound.null ≢ Always → bound.lo ≤ℤ bound.hi
ends_in_order IsWorld answer_in bound law w =
    let found = law.lo w in
    (subst (Admits bound) found.2 (law.admits found.0 found.1)).2

no_rows : (kind : ItemKind) (ps : List Pair) → (bound_of kind ps).null ≡ Always → ((bound_of kind ps).lo ≡ pos 0) × ((bound_of kind ps).hi ≡ pos 0)
no_rows Count ps e = absurd (apart e)
  where
    apart : ◌≡◌ {A = Nullity} Never Always → ⊥
    apart q = cc
no_rows Sum ps e = subst (λ qs. ((bound_of Sum qs).lo ≡ pos 0) × ((bound_of Sum qs).hi ≡ pos 0)) (sym (nullity_of-no_pair ps e)) (refl, refl)
no_rows Min ps e = subst (λ qs. ((bound_of Min qs).lo ≡ pos 0) × ((bound_of Min qs).hi ≡ pos 0)) (sym (nullity_of-no_pair ps e)) (refl, refl)
no_rows Max ps e = subst (λ qs. ((bound_of Max qs).lo ≡ pos 0) × ((bound_of Max qs).hi ≡ pos 0)) (sym (nullity_of-no_pair ps e)) (refl, refl)
no_rows Avg ps e = subst (λ qs. ((bound_of Avg qs).lo ≡ pos 0) × ((bound_of Avg qs).hi ≡ pos 0)) (sym (nullity_of-no_pair ps e)) (refl, refl)

never_null : (kind : ItemKind) (ps : List Pair) → kind ≡ Count → (bound_of kind ps).null ≡ Never
never_null kind ps e = subst (λ k. (bound_of k ps).null ≡ Never) (sym e) refl

pub lists_give_bounds : ListsGiveBounds
lists_give_bounds kind ps k h = record {
  ends = λ w. ends_in_order (AreOutcomes ps) (λ os. answer kind (present os)) (bound_of kind ps) (bounds_are_extremes_of_lists kind ps k h).0 w;
  none = λ e. no_rows kind ps e;
  count = λ e. never_null kind ps e;
}

counts_in_order : (bounds : List Bound) → AreBoundsOf Count bounds → total (map (λ b. b.lo) bounds) ≤ℤ total (map (λ b. b.hi) bounds)
counts_in_order [] h = omega (arith, ints)
counts_in_order (bound ∷ bounds) h =
    let here = h.0.ends (told bound.null (h.0.count refl)) in
    let rest = counts_in_order bounds h.1 in
    omega (arith, ints)

pub combined_is_bound : CombinedIsBound
combined_is_bound Count bounds k h = record { ends = λ w. counts_in_order bounds h; none = λ e. absurd (apart e); count = λ e. refl }
  where
    apart : ◌≡◌ {A = Nullity} Never Always → ⊥
    apart q = cc
combined_is_bound Sum bounds k h = lists_give_bounds Sum (pairs_of_shards bounds) k (are_pairs Sum bounds h)
combined_is_bound Min bounds k h = lists_give_bounds Min (pairs_of_shards bounds) k (are_pairs Min bounds h)
combined_is_bound Max bounds k h = lists_give_bounds Max (pairs_of_shards bounds) k (are_pairs Max bounds h)
combined_is_bound Avg bounds k h = absurd (k refl)

-- ---- worlds with the same answers have the same extremes

-- each world of one kind has one of the other with its answer
abbrev pub AnswersOccur : {V W : Type 0} → (V → Type 0) → (V → Option ℤ) → (W → Type 0) → (W → Option ℤ) → Type 0
AnswersOccur {V} {W} IsV in_v IsW in_w = (v : V) → IsV v → Occurs IsW in_w (in_v v)

module _ {V W : Type 0} (IsV : V → Type 0) (in_v : V → Option ℤ) (IsW : W → Type 0) (in_w : W → Option ℤ) (to : AnswersOccur IsV in_v IsW in_w) (back : AnswersOccur IsW in_w IsV in_v) where
  occurs_there : (a : Option ℤ) → Occurs IsV in_v a → Occurs IsW in_w a
  occurs_there a (v, is, e) = (let found = to v is in (found.0, found.1, found.2 ∙ e))

  word_there : (w : Nullity) → WordIsRight IsV in_v w → WordIsRight IsW in_w w
  word_there Never law = λ w is e. (let found = back w is in law found.0 found.1 (found.2 ∙ e))
  word_there Possibly law = occurs_there None law
  word_there Always law = λ w is. (let found = back w is in sym found.2 ∙ law found.0 found.1)

  pub extremes_there : (bound : Bound) → IsExtremes IsV in_v bound → IsExtremes IsW in_w bound
  extremes_there bound law = record {
    admits = λ w is. (let found = back w is in subst (Admits bound) found.2 (law.admits found.0 found.1));
    null = word_there bound.null law.null;
    lo = λ n. occurs_there (Some bound.lo) (law.lo n);
    hi = λ n. occurs_there (Some bound.hi) (law.hi n);
  }

-- there is one bound that is the extremes
module _ {W : Type 0} (IsWorld : W → Type 0) (answer_in : W → Option ℤ) where
  some_and_none : (x : ℤ) → Occurs IsWorld answer_in (Some x) → ((w : W) → IsWorld w → answer_in w ≡ None) → ⊥
  some_and_none x (w, is, e) all = apart x (sym e ∙ all w is)
    where
      apart : (x : ℤ) → ◌≡◌ {A = Option ℤ} (Some x) None → ⊥
      apart x q = cc

  word_unique : (u v : Nullity) (x y : ℤ) → WordIsRight IsWorld answer_in u → WordIsRight IsWorld answer_in v →
      (u ≢ Always → Occurs IsWorld answer_in (Some x)) → (v ≢ Always → Occurs IsWorld answer_in (Some y)) → u ≡ v
  word_unique Never Never x y p q f g = refl
  word_unique Never Possibly x y p q f g = absurd (p q.0 q.1 q.2)
  word_unique Never Always x y p q f g = absurd (some_and_none x (f (λ e. cc)) q)
  word_unique Possibly Never x y p q f g = absurd (q p.0 p.1 p.2)
  word_unique Possibly Possibly x y p q f g = refl
  word_unique Possibly Always x y p q f g = absurd (some_and_none x (f (λ e. cc)) q)
  word_unique Always Never x y p q f g = absurd (some_and_none y (g (λ e. cc)) p)
  word_unique Always Possibly x y p q f g = absurd (some_and_none y (g (λ e. cc)) p)
  word_unique Always Always x y p q f g = refl

  -- an end that occurs is admitted by the other bound
  end_admitted : (bound : Bound) (x : ℤ) → IsExtremes IsWorld answer_in bound → Occurs IsWorld answer_in (Some x) → (bound.lo ≤ℤ x) × (x ≤ℤ bound.hi)
  end_admitted bound x law (w, is, e) = (let in_it = subst (Admits bound) e (law.admits w is) in (in_it.1, in_it.2))

  told_ends : (a b : Bound) → a.null ≢ Always → b.null ≢ Always → IsExtremes IsWorld answer_in a → IsExtremes IsWorld answer_in b → (a.lo ≡ b.lo) × (a.hi ≡ b.hi)
  told_ends a b na nb p q =
      let al = end_admitted b a.lo q (p.lo na) in
      let ah = end_admitted b a.hi q (p.hi na) in
      let bl = end_admitted a b.lo p (q.lo nb) in
      let bh = end_admitted a b.hi p (q.hi nb) in
      let i = al.0 in
      let j = bl.0 in
      let m = ah.1 in
      let n = bh.1 in
      (omega (arith, ints), omega (arith, ints))

  ends_unique : (w : Nullity) (kind : ItemKind) (a b : Bound) → a.null ≡ w → a.null ≡ b.null → IsExtremes IsWorld answer_in a → IsExtremes IsWorld answer_in b → IsBoundOf kind a → IsBoundOf kind b →
      (a.lo ≡ b.lo) × (a.hi ≡ b.hi)
  ends_unique Always kind a b e same p q ha hb =
      let za = ha.none e in
      let zb = hb.none (sym same ∙ e) in
      (za.0 ∙ sym zb.0, za.1 ∙ sym zb.1)
  ends_unique Never kind a b e same p q ha hb = told_ends a b (not_always e) (not_always (sym same ∙ e)) p q
    where
      not_always : {w : Nullity} → w ≡ Never → w ≢ Always
      not_always {w} r f = apart (sym r ∙ f)
        where
          apart : ◌≡◌ {A = Nullity} Never Always → ⊥
          apart z = cc
  ends_unique Possibly kind a b e same p q ha hb = told_ends a b (not_always e) (not_always (sym same ∙ e)) p q
    where
      not_always : {w : Nullity} → w ≡ Possibly → w ≢ Always
      not_always {w} r f = apart (sym r ∙ f)
        where
          apart : ◌≡◌ {A = Nullity} Possibly Always → ⊥
          apart z = cc

  pub unique : (kind : ItemKind) (a b : Bound) → IsExtremes IsWorld answer_in a → IsExtremes IsWorld answer_in b → IsBoundOf kind a → IsBoundOf kind b → a ≡ b
  unique kind a b p q ha hb =
      let same = word_unique a.null b.null a.lo b.lo p.null q.null p.lo q.lo in
      let ends = ends_unique a.null kind a b refl same p q ha hb in
      same_bound a b same ends.0 ends.1

-- ---- choices of outcomes, shard by shard and all together

pub filter_map-append : {X Y : Type 0} (f : X → Option Y) (xs ys : List X) → filter_map f (xs ++ ys) ≡ filter_map f xs ++ filter_map f ys
filter_map-append f [] ys = refl
filter_map-append f (x ∷ xs) ys = ap (cons_option (f x)) (filter_map-append f xs ys) ∙ one (f x) (filter_map f xs) (filter_map f ys)
  where
    one : {Y : Type 0} (o : Option Y) (us vs : List Y) → cons_option o (us ++ vs) ≡ cons_option o us ++ vs
    one None us vs = refl
    one (Some y) us vs = refl

-- the values of a choice of outcomes
abbrev pub IsGivenBy : List Pair → List ℤ → Type 0
IsGivenBy ps values = (os : List (Option ℤ)) × AreOutcomes ps os × (present os ≡ values)

abbrev pub is_given_at : List (List Pair) → ℕ → List ℤ → Type 0
is_given_at pss i = IsGivenBy (get_or pss i [])

some_outcomes : (ps : List Pair) → ArePairs ps → (os : List (Option ℤ)) × AreOutcomes ps os
some_outcomes [] o = ([], tt)
some_outcomes (p ∷ ps) o = (let rest = some_outcomes ps o.1 in (Some p.low ∷ rest.0, ((≤ℤ_refl p.low, o.0), rest.1)))

list_is_tight : (kind : ItemKind) (ps : List Pair) → kind ≢ Avg → ArePairs ps → IsTightShard kind (IsGivenBy ps) (bound_of kind ps)
list_is_tight kind ps k h =
    let some = some_outcomes ps h in
    record {
      some = (present some.0, (some.0, some.1, refl));
      extremes = extremes_there (AreOutcomes ps) (λ os. answer kind (present os)) (IsGivenBy ps) (answer kind)
          (λ os c. (present os, (os, c, refl), refl)) (λ values given. (given.0, given.1, ap (answer kind) given.2))
          (bound_of kind ps) (bounds_are_extremes_of_lists kind ps k h).0;
    }

lists_are_tight : (kind : ItemKind) (pss : List (List Pair)) → kind ≢ Avg → AreAllPairs pss → AreTightShards kind (is_given_at pss) (map (bound_of kind) pss)
lists_are_tight kind [] k h = tt
lists_are_tight kind (ps ∷ pss) k h = (list_is_tight kind ps k h.0, lists_are_tight kind pss k h.1)

outcomes_append : (ps qs : List Pair) (os us : List (Option ℤ)) → AreOutcomes ps os → AreOutcomes qs us → AreOutcomes (ps ++ qs) (os ++ us)
outcomes_append [] qs [] us c d = d
outcomes_append [] qs (o ∷ os) us c d = absurd c
outcomes_append (p ∷ ps) qs [] us c d = absurd c
outcomes_append (p ∷ ps) qs (o ∷ os) us c d = (c.0, outcomes_append ps qs os us c.1 d)

-- a choice for two lists is one for each
pub record Split (ps qs : List Pair) (os : List (Option ℤ)) : Type 0 where
  pub first : List (Option ℤ)
  pub second : List (Option ℤ)
  pub first_are : AreOutcomes ps first
  pub second_are : AreOutcomes qs second
  pub both : os ≡ first ++ second

outcomes_split : (ps qs : List Pair) (os : List (Option ℤ)) → AreOutcomes (ps ++ qs) os → Split ps qs os
outcomes_split [] qs os c = record { first = []; second = os; first_are = tt; second_are = c; both = refl }
outcomes_split (p ∷ ps) qs [] c = absurd c
outcomes_split (p ∷ ps) qs (o ∷ os) c =
    let rest = outcomes_split ps qs os c.1 in
    record { first = o ∷ rest.first; second = rest.second; first_are = (c.0, rest.first_are); second_are = rest.second_are; both = ap (λ us. o ∷ us) rest.both }

-- shard by shard, then all together
pub record Flattened (ps : List Pair) (values : List ℤ) : Type 0 where
  pub outcomes : List (Option ℤ)
  pub are : AreOutcomes ps outcomes
  pub gives : present outcomes ≡ values

all_together : (kind : ItemKind) (pss : List (List Pair)) (shards : List (List ℤ)) → AreChoices (is_given_at pss) (map (bound_of kind) pss) shards → Flattened (flattened pss) (together shards)
all_together kind [] [] c = record { outcomes = []; are = tt; gives = refl }
all_together kind [] (values ∷ shards) c = absurd c
all_together kind (ps ∷ pss) [] c = absurd c
all_together kind (ps ∷ pss) (values ∷ shards) c =
    let rest = all_together kind pss shards c.1 in
    record {
      outcomes = c.0.0 ++ rest.outcomes;
      are = outcomes_append ps (flattened pss) c.0.0 rest.outcomes c.0.1 rest.are;
      gives = filter_map-append (λ o. o) c.0.0 rest.outcomes ∙ ap (λ vs. vs ++ present rest.outcomes) c.0.2 ∙ ap (λ vs. values ++ vs) rest.gives;
    }

-- and back
pub record Parted (kind : ItemKind) (pss : List (List Pair)) (values : List ℤ) : Type 0 where
  pub shards : List (List ℤ)
  pub are : AreChoices (is_given_at pss) (map (bound_of kind) pss) shards
  pub gives : together shards ≡ values

shard_by_shard : (kind : ItemKind) (pss : List (List Pair)) (os : List (Option ℤ)) → AreOutcomes (flattened pss) os → Parted kind pss (present os)
shard_by_shard kind [] [] c = record { shards = []; are = tt; gives = refl }
shard_by_shard kind [] (o ∷ os) c = absurd c
shard_by_shard kind (ps ∷ pss) os c =
    let split = outcomes_split ps (flattened pss) os c in
    let rest = shard_by_shard kind pss split.second split.second_are in
    record {
      shards = present split.first ∷ rest.shards;
      are = ((split.first, split.first_are, refl), rest.are);
      gives = ap (λ vs. present split.first ++ vs) rest.gives ∙ sym (filter_map-append (λ o. o) split.first split.second) ∙ ap present (sym split.both);
    }

pairs_append : (ps qs : List Pair) → ArePairs ps → ArePairs qs → ArePairs (ps ++ qs)
pairs_append [] qs h k = k
pairs_append (p ∷ ps) qs h k = (h.0, pairs_append ps qs h.1 k)

pairs_flattened : (pss : List (List Pair)) → AreAllPairs pss → ArePairs (flattened pss)
pairs_flattened [] h = tt
pairs_flattened (ps ∷ pss) h = pairs_append ps (flattened pss) h.0 (pairs_flattened pss h.1)

all_bounds : (kind : ItemKind) (pss : List (List Pair)) → kind ≢ Avg → AreAllPairs pss → AreBoundsOf kind (map (bound_of kind) pss)
all_bounds kind [] k h = tt
all_bounds kind (ps ∷ pss) k h = (lists_give_bounds kind ps k h.0, all_bounds kind pss k h.1)

pub nothing_is_lost : NothingIsLost
nothing_is_lost kind pss k h =
    let bounds = map (bound_of kind) pss in
    let in_lists = λ (os : List (Option ℤ)). answer kind (present os) in
    let there = extremes_there (AreChoices (is_given_at pss) bounds) (answer_over kind) (AreOutcomes (flattened pss)) in_lists
    (λ shards c. (let found = all_together kind pss shards c in (found.outcomes, found.are, ap (answer kind) found.gives)))
    (λ os c. (let found = shard_by_shard kind pss os c in (found.shards, found.are, ap (answer kind) found.gives)))
    (combined kind bounds) (combinations_are_extremes kind (is_given_at pss) bounds k (lists_are_tight kind pss k h)) in
    unique (AreOutcomes (flattened pss)) in_lists kind (combined kind bounds) (bound_of kind (flattened pss)) there
    (bounds_are_extremes_of_lists kind (flattened pss) k (pairs_flattened pss h)).0
    (combined_is_bound kind bounds k (all_bounds kind pss k h)) (lists_give_bounds kind (flattened pss) k (pairs_flattened pss h))

-- ---- groups of shards

pairs-flattened : (groups : List (List Bound)) → flattened (map pairs_of_shards groups) ≡ pairs_of_shards (flattened groups)
pairs-flattened [] = refl
pairs-flattened (bounds ∷ groups) = ap (λ ps. pairs_of_shards bounds ++ ps) (pairs-flattened groups) ∙ sym (filter_map-append pair_of_shard bounds (flattened groups))

group_pairs : (kind : ItemKind) (groups : List (List Bound)) → AreAllBoundsOf kind groups → AreAllPairs (map pairs_of_shards groups)
group_pairs kind [] h = tt
group_pairs kind (bounds ∷ groups) h = (are_pairs kind bounds h.0, group_pairs kind groups h.1)

pub map-map : {X Y Z : Type 0} (f : Y → Z) (g : X → Y) (xs : List X) → map f (map g xs) ≡ map (λ x. f (g x)) xs
map-map f g [] = refl
map-map f g (x ∷ xs) = ap (λ ys. f (g x) ∷ ys) (map-map f g xs)

rows_combine : (kind : ItemKind) (groups : List (List Bound)) → kind ≢ Avg → kind ≢ Count → AreAllBoundsOf kind groups →
    combined kind (map (λ bounds. bound_of kind (pairs_of_shards bounds)) groups) ≡ bound_of kind (pairs_of_shards (flattened groups))
rows_combine kind groups k c h =
    ap (combined kind) (sym (map-map (bound_of kind) pairs_of_shards groups))
    ∙ nothing_is_lost kind (map pairs_of_shards groups) k (group_pairs kind groups h)
    ∙ ap (bound_of kind) (pairs-flattened groups)

total-map-append : {X : Type 0} (f : X → ℤ) (xs ys : List X) → total (map f (xs ++ ys)) ≡ total (map f xs) +ℤ total (map f ys)
total-map-append f [] ys = omega (arith, ints)
total-map-append f (x ∷ xs) ys = (let rest = total-map-append f xs ys in omega (arith, ints))

total-groups : (f : Bound → ℤ) (groups : List (List Bound)) → total (map (λ bounds. total (map f bounds)) groups) ≡ total (map f (flattened groups))
total-groups f [] = refl
total-groups f (bounds ∷ groups) =
    let rest = total-groups f groups in
    let both = total-map-append f bounds (flattened groups) in
    omega (arith, ints)

pub groups_combine : GroupsCombine
groups_combine Count groups k h =
    same_bound (combined Count (map (combined Count) groups)) (combined Count (flattened groups)) refl
    (ap total (map-map (λ b. b.lo) (combined Count) groups) ∙ total-groups (λ b. b.lo) groups)
    (ap total (map-map (λ b. b.hi) (combined Count) groups) ∙ total-groups (λ b. b.hi) groups)
groups_combine Sum groups k h = rows_combine Sum groups k (λ e. cc) h
groups_combine Min groups k h = rows_combine Min groups k (λ e. cc) h
groups_combine Max groups k h = rows_combine Max groups k (λ e. cc) h
groups_combine Avg groups k h = absurd (k refl)
