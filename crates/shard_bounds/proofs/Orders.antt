-- The order of the shards makes no difference.
use Rattle.std.proofs.Common.{◌≡◌, ◌≢◌, suc, ℤ, pos, ◌+ℤ◌, Bool, true, false, cond, ◌||◌, List, [], ◌∷◌, length, refl, arith, map, sym, ap, ◌∙◌, Option, Some, None, filter_map}
use Rattle.std.specs.Int.{int_min, int_max}
use Rattle.std.specs.List.{list_any, cons_option}
use Rattle.std.proofs.lemmas.Int.{ints, clamps}
use Rattle.query_model.specs.declared.bounds.Nullity.{Nullity}
use Rattle.query_model.specs.declared.bounds.Nullity.TheVariants.{Never, Possibly, Always}
use Rattle.query_model.specs.declared.query.ItemKind.{ItemKind}
use Rattle.query_model.specs.declared.query.ItemKind.TheVariants.{Count, Sum, Min, Max, Avg}
use Rattle.query_model.specs.Answers.{total, least, greatest, answer}
use Rattle.query_model.specs.Bounds.{Pair, bound_of, some_certain, lows, highs, certain_lows, certain_highs, low_share, high_share, least_sum, greatest_sum, nullity_of}
use Rattle.query_model.proofs.ListBounds.{keeps_low, keeps_high}
use Rattle.shard_bounds.specs.Combined.{pair_of_shard, pairs_of_shards, combined, Reordered}
use Rattle.shard_bounds.specs.Combined.Reordered.{same, swapped, farther, both}
use Rattle.shard_bounds.specs.Laws.{OrderIsFree}
use Rattle.shard_bounds.proofs.Answers.{join, mins_go, maxs_go}
use Rattle.shard_bounds.proofs.Single.{same_bound}

-- what goes over a list by a step that may change places with the next is the same in any order
pub folded : {X A : Type 0} (over : List X → A) (step : X → A → A) → ((x : X) (xs : List X) → over (x ∷ xs) ≡ step x (over xs)) → ((x y : X) (a : A) → step x (step y a) ≡ step y (step x a)) →
    (xs ys : List X) → Reordered xs ys → over xs ≡ over ys
folded over step more free xs ys (same zs) = refl
folded over step more free xs ys (swapped x y zs) =
    more x (y ∷ zs) ∙ ap (step x) (more y zs) ∙ free x y (over zs) ∙ ap (step y) (sym (more x zs)) ∙ sym (more y (x ∷ zs))
folded over step more free xs ys (farther x us vs r) = more x us ∙ ap (step x) (folded over step more free us vs r) ∙ sym (more x vs)
folded over step more free xs ys (both us vs ws r q) = folded over step more free us vs r ∙ folded over step more free vs ws q

-- ---- steps that may change places

or_free : (a b c : Bool) → (a || (b || c)) ≡ (b || (a || c))
or_free true true c = refl
or_free true false c = refl
or_free false true c = refl
or_free false false c = refl

list_any-reordered : {X : Type 0} (test : X → Bool) (xs ys : List X) → Reordered xs ys → list_any test xs ≡ list_any test ys
list_any-reordered test xs ys r = folded (list_any test) (λ x b. test x || b) (λ x xs. refl) (λ x y a. or_free (test x) (test y) a) xs ys r

total-reordered : {X : Type 0} (f : X → ℤ) (xs ys : List X) → Reordered xs ys → total (map f xs) ≡ total (map f ys)
total-reordered f xs ys r = folded (λ xs. total (map f xs)) (λ x a. f x +ℤ a) (λ x xs. refl) (λ x y a. omega (arith, ints)) xs ys r

length-reordered : {X : Type 0} (xs ys : List X) → Reordered xs ys → length xs ≡ length ys
length-reordered xs ys r = folded length (λ x n. suc n) (λ x xs. refl) (λ x y a. refl) xs ys r

pub map-reordered : {X Y : Type 0} (f : X → Y) (xs ys : List X) → Reordered xs ys → Reordered (map f xs) (map f ys)
map-reordered f xs ys (same zs) = same (map f zs)
map-reordered f xs ys (swapped x y zs) = swapped (f x) (f y) (map f zs)
map-reordered f xs ys (farther x us vs r) = farther (f x) (map f us) (map f vs) (map-reordered f us vs r)
map-reordered f xs ys (both us vs ws r q) = both (map f us) (map f vs) (map f ws) (map-reordered f us vs r) (map-reordered f vs ws q)

cons_options_swap : {Y : Type 0} (a b : Option Y) (ys : List Y) → Reordered (cons_option a (cons_option b ys)) (cons_option b (cons_option a ys))
cons_options_swap None b ys = same (cons_option b ys)
cons_options_swap (Some x) None ys = same (x ∷ ys)
cons_options_swap (Some x) (Some y) ys = swapped x y ys

cons_option-farther : {Y : Type 0} (a : Option Y) (us vs : List Y) → Reordered us vs → Reordered (cons_option a us) (cons_option a vs)
cons_option-farther None us vs r = r
cons_option-farther (Some x) us vs r = farther x us vs r

pub filter_map-reordered : {X Y : Type 0} (f : X → Option Y) (xs ys : List X) → Reordered xs ys → Reordered (filter_map f xs) (filter_map f ys)
filter_map-reordered f xs ys (same zs) = same (filter_map f zs)
filter_map-reordered f xs ys (swapped x y zs) = cons_options_swap (f x) (f y) (filter_map f zs)
filter_map-reordered f xs ys (farther x us vs r) = cons_option-farther (f x) (filter_map f us) (filter_map f vs) (filter_map-reordered f us vs r)
filter_map-reordered f xs ys (both us vs ws r q) =
    both (filter_map f us) (filter_map f vs) (filter_map f ws) (filter_map-reordered f us vs r) (filter_map-reordered f vs ws q)

-- ---- the least and the greatest

abbrev pub number_of : Option ℤ → ℤ
number_of None = pos 0
number_of (Some x) = x

join-free : (f : ℤ → ℤ → ℤ) → ((x y z : ℤ) → f x (f y z) ≡ f y (f x z)) → ((x y : ℤ) → f x y ≡ f y x) → (x y : ℤ) (a : Option ℤ) →
    join f (Some x) (join f (Some y) a) ≡ join f (Some y) (join f (Some x) a)
join-free f free turn x y None = ap (λ z. Some z) (turn x y)
join-free f free turn x y (Some z) = ap (λ z. Some z) (free x y z)

pub least_by_answer : (xs : List ℤ) → least xs ≡ number_of (answer Min xs)
least_by_answer [] = refl
least_by_answer (x ∷ xs) = refl

pub greatest_by_answer : (xs : List ℤ) → greatest xs ≡ number_of (answer Max xs)
greatest_by_answer [] = refl
greatest_by_answer (x ∷ xs) = refl

least-reordered : (xs ys : List ℤ) → Reordered xs ys → least xs ≡ least ys
least-reordered xs ys r =
    least_by_answer xs
    ∙ ap number_of (folded (answer Min) (λ x a. join int_min (Some x) a) mins_go.one_more
    (λ x y a. join-free int_min (λ x y z. omega (arith, ints, clamps)) (λ x y. omega (arith, ints, clamps)) x y a) xs ys r)
    ∙ sym (least_by_answer ys)

greatest-reordered : (xs ys : List ℤ) → Reordered xs ys → greatest xs ≡ greatest ys
greatest-reordered xs ys r =
    greatest_by_answer xs
    ∙ ap number_of (folded (answer Max) (λ x a. join int_max (Some x) a) maxs_go.one_more
    (λ x y a. join-free int_max (λ x y z. omega (arith, ints, clamps)) (λ x y. omega (arith, ints, clamps)) x y a) xs ys r)
    ∙ sym (greatest_by_answer ys)

-- ---- the bound of a list of pairs

-- a word with one more pair
word_with : Bool → Nullity → Nullity
word_with true w = Never
word_with false Never = Never
word_with false Possibly = Possibly
word_with false Always = Possibly

kept_word : (b : Bool) → word_with false (cond b Never Possibly) ≡ cond b Never Possibly
unfolding word_with
kept_word true = refl
kept_word false = refl

word_more : (b : Bool) (ps : List Pair) → cond (b || some_certain ps) Never Possibly ≡ word_with b (nullity_of ps)
unfolding word_with
word_more true ps = refl
word_more false [] = refl
word_more false (p ∷ ps) = sym (kept_word (some_certain (p ∷ ps)))

word_free : (a b : Bool) (w : Nullity) → word_with a (word_with b w) ≡ word_with b (word_with a w)
unfolding word_with
word_free true true w = refl
word_free true false w = refl
word_free false true w = refl
word_free false false w = refl

nullity_of-reordered : (ps qs : List Pair) → Reordered ps qs → nullity_of ps ≡ nullity_of qs
nullity_of-reordered ps qs r = folded nullity_of (λ p w. word_with p.certain w) (λ p ps. word_more p.certain ps) (λ p q w. word_free p.certain q.certain w) ps qs r

cond_same : {A : Type 0} (b b' : Bool) (x x' y y' : A) → b ≡ b' → x ≡ x' → y ≡ y' → cond b x y ≡ cond b' x' y'
cond_same b b' x x' y y' e f g = ap (λ b. cond b x y) e ∙ ap (λ x. cond b' x y) f ∙ ap (cond b' x') g

module _ (ps qs : List Pair) (r : Reordered ps qs) where
  lows_same : least (lows ps) ≡ least (lows qs)
  lows_same = least-reordered (lows ps) (lows qs) (map-reordered (λ p. p.low) ps qs r)

  highs_same : greatest (highs ps) ≡ greatest (highs qs)
  highs_same = greatest-reordered (highs ps) (highs qs) (map-reordered (λ p. p.high) ps qs r)

  some_same : some_certain ps ≡ some_certain qs
  some_same = list_any-reordered (λ p. p.certain) ps qs r

  rows_reordered : (kind : ItemKind) → kind ≢ Count → bound_of kind ps ≡ bound_of kind qs
  rows_reordered Count c = absurd (c refl)
  rows_reordered Sum c = same_bound (bound_of Sum ps) (bound_of Sum qs) (nullity_of-reordered ps qs r) sum_low sum_high
    where
      sum_low : least_sum ps ≡ least_sum qs
      sum_low = cond_same _ _ _ _ _ _ (list_any-reordered keeps_low ps qs r) (total-reordered low_share ps qs r) lows_same

      sum_high : greatest_sum ps ≡ greatest_sum qs
      sum_high = cond_same _ _ _ _ _ _ (list_any-reordered keeps_high ps qs r) (total-reordered high_share ps qs r) highs_same
  rows_reordered Min c = same_bound (bound_of Min ps) (bound_of Min qs) (nullity_of-reordered ps qs r) lows_same
      (cond_same _ _ _ _ _ _ some_same (least-reordered (certain_highs ps) (certain_highs qs) (filter_map-reordered (λ p. cond p.certain (Some p.high) None) ps qs r)) highs_same)
  rows_reordered Max c = same_bound (bound_of Max ps) (bound_of Max qs) (nullity_of-reordered ps qs r)
      (cond_same _ _ _ _ _ _ some_same (greatest-reordered (certain_lows ps) (certain_lows qs) (filter_map-reordered (λ p. cond p.certain (Some p.low) None) ps qs r)) lows_same)
      highs_same
  rows_reordered Avg c = same_bound (bound_of Avg ps) (bound_of Avg qs) (nullity_of-reordered ps qs r)
      (cond_same _ _ _ _ _ _ (list_any-reordered keeps_low ps qs r) (total-reordered low_share ps qs r) lows_same)
      (cond_same _ _ _ _ _ _ (list_any-reordered keeps_high ps qs r) (total-reordered high_share ps qs r) highs_same)

pub order_is_free : OrderIsFree
order_is_free Count bounds others r =
    same_bound (combined Count bounds) (combined Count others) refl (total-reordered (λ b. b.lo) bounds others r) (total-reordered (λ b. b.hi) bounds others r)
order_is_free Sum bounds others r = rows_reordered (pairs_of_shards bounds) (pairs_of_shards others) (filter_map-reordered pair_of_shard bounds others r) Sum (λ e. cc)
order_is_free Min bounds others r = rows_reordered (pairs_of_shards bounds) (pairs_of_shards others) (filter_map-reordered pair_of_shard bounds others r) Min (λ e. cc)
order_is_free Max bounds others r = rows_reordered (pairs_of_shards bounds) (pairs_of_shards others) (filter_map-reordered pair_of_shard bounds others r) Max (λ e. cc)
order_is_free Avg bounds others r = rows_reordered (pairs_of_shards bounds) (pairs_of_shards others) (filter_map-reordered pair_of_shard bounds others r) Avg (λ e. cc)
