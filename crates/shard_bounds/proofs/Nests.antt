-- With narrower bounds of the shards the bound over all is narrower.
use Rattle.std.proofs.Common.{◌≡◌, ◌≢◌, ℤ, ◌≤ℤ◌, Bool, true, false, List, [], ◌∷◌, refl, arith, map, sym, ap, ◌∙◌, IsTrue, IsFalse, Option, Some, None}
use Rattle.std.specs.List.{cons_option}
use Rattle.std.proofs.lemmas.Bool.{true≢false}
use Rattle.std.proofs.lemmas.Int.{ints}
use Rattle.query_model.specs.declared.bounds.Bound.{Bound}
use Rattle.query_model.specs.declared.bounds.Nullity.{Nullity}
use Rattle.query_model.specs.declared.bounds.Nullity.TheVariants.{Never, Possibly, Always}
use Rattle.query_model.specs.declared.query.ItemKind.{ItemKind}
use Rattle.query_model.specs.declared.query.ItemKind.TheVariants.{Count, Sum, Min, Max, Avg}
use Rattle.query_model.specs.Answers.{total}
use Rattle.query_model.specs.Bounds.{Pair, IsNested, bound_of}
use Rattle.query_model.specs.Laws.{IsOutcome, AreOutcomes, ArePairs, present}
use Rattle.query_model.proofs.Nesting.{TellsMore, nested_by_choices}
use Rattle.shard_bounds.specs.Combined.{pair_by_word, pair_of_shard, pairs_of_shards, AreBoundsOf}
use Rattle.shard_bounds.specs.Laws.{AreNested, CombinationsNest}
use Rattle.shard_bounds.proofs.Contains.{Chosen}

kept : (old new : Bool) → (IsTrue old → IsTrue new) → IsFalse new → IsFalse old
kept true new more f = absurd (true≢false (sym (more refl) ∙ f))
kept false new more f = refl

old_outcome : (old new : Pair) (o : Option ℤ) → TellsMore (Some old) (Some new) → IsOutcome new o → IsOutcome old o
old_outcome old new None more f = kept old.certain new.certain more.0 f
old_outcome old new (Some v) more w =
    let low = more.1 in
    let high = more.2 in
    let above = w.0 in
    let below = w.1 in
    (omega (arith, ints), omega (arith, ints))

old_more : (old new : Option Pair) (ps ps' : List Pair) → TellsMore old new → ((os : List (Option ℤ)) → AreOutcomes ps' os → Chosen ps (present os)) →
    (os : List (Option ℤ)) → AreOutcomes (cons_option new ps') os → Chosen (cons_option old ps) (present os)
old_more None None ps ps' h rest os c = rest os c
old_more None (Some new) ps ps' h rest os c = absurd h
old_more (Some old) None ps ps' h rest os c =
    let found = rest os c in
    record { outcomes = None ∷ found.outcomes; are = (h, found.are); values = found.values }
old_more (Some old) (Some new) ps ps' h rest [] c = absurd c
old_more (Some old) (Some new) ps ps' h rest (o ∷ os) c =
    let found = rest os c.1 in
    record { outcomes = o ∷ found.outcomes; are = (old_outcome old new o h c.0, found.are); values = ap (cons_option o) found.values }

shard_tells_more : (w w' : Nullity) (l h l' h' : ℤ) → IsNested (record { null = w; lo = l; hi = h }) (record { null = w'; lo = l'; hi = h' }) →
    TellsMore (pair_by_word w l h) (pair_by_word w' l' h')
shard_tells_more Never Never l h l' h' n = ((λ t. t), n.lo (λ e. cc), n.hi (λ e. cc))
shard_tells_more Never Possibly l h l' h' n = absurd (n.null (λ e. cc) refl)
shard_tells_more Never Always l h l' h' n = absurd (n.null (λ e. cc) refl)
shard_tells_more Possibly Never l h l' h' n = ((λ t. refl), n.lo (λ e. cc), n.hi (λ e. cc))
shard_tells_more Possibly Possibly l h l' h' n = ((λ t. t), n.lo (λ e. cc), n.hi (λ e. cc))
shard_tells_more Possibly Always l h l' h' n = refl
shard_tells_more Always Never l h l' h' n = absurd (n.full (λ e. cc) refl)
shard_tells_more Always Possibly l h l' h' n = absurd (n.full (λ e. cc) refl)
shard_tells_more Always Always l h l' h' n = tt

older : (olds news : List Bound) → AreNested olds news → (os : List (Option ℤ)) → AreOutcomes (pairs_of_shards news) os → Chosen (pairs_of_shards olds) (present os)
older [] [] n [] c = record { outcomes = []; are = tt; values = refl }
older [] [] n (o ∷ os) c = absurd c
older [] (new ∷ news) n os c = absurd n
older (old ∷ olds) [] n os c = absurd n
older (old ∷ olds) (new ∷ news) n os c =
    old_more (pair_of_shard old) (pair_of_shard new) (pairs_of_shards olds) (pairs_of_shards news)
    (shard_tells_more old.null new.null old.lo old.hi new.lo new.hi n.0) (λ os c. older olds news n.1 os c) os c

pair_more : (w : Nullity) (lo hi : ℤ) (ps : List Pair) → (w ≢ Always → lo ≤ℤ hi) → ArePairs ps → ArePairs (cons_option (pair_by_word w lo hi) ps)
pair_more Never lo hi ps h rest = (h (λ e. cc), rest)
pair_more Possibly lo hi ps h rest = (h (λ e. cc), rest)
pair_more Always lo hi ps h rest = rest

pub are_pairs : (kind : ItemKind) (bounds : List Bound) → AreBoundsOf kind bounds → ArePairs (pairs_of_shards bounds)
are_pairs kind [] h = tt
are_pairs kind (bound ∷ bounds) h = pair_more bound.null bound.lo bound.hi (pairs_of_shards bounds) h.0.ends (are_pairs kind bounds h.1)

rows_nest : (kind : ItemKind) (olds news : List Bound) → kind ≢ Avg → AreBoundsOf kind news → AreNested olds news →
    IsNested (bound_of kind (pairs_of_shards olds)) (bound_of kind (pairs_of_shards news))
rows_nest kind olds news k h n =
    nested_by_choices kind (pairs_of_shards olds) (pairs_of_shards news) k (are_pairs kind news h)
    (λ os c. let found = older olds news n os c in (found.outcomes, found.are, found.values))

pub told : (w : Nullity) → w ≡ Never → w ≢ Always
told Never e = λ f. cc
told Possibly e = absurd (never_possibly e)
  where
    never_possibly : ◌≡◌ {A = Nullity} Possibly Never → ⊥
    never_possibly q = cc
told Always e = absurd (never_always e)
  where
    never_always : ◌≡◌ {A = Nullity} Always Never → ⊥
    never_always q = cc

counts_nest : (olds news : List Bound) → AreBoundsOf Count news → AreNested olds news →
    (total (map (λ b. b.lo) olds) ≤ℤ total (map (λ b. b.lo) news)) × (total (map (λ b. b.hi) news) ≤ℤ total (map (λ b. b.hi) olds))
counts_nest [] [] h n = (omega (arith, ints), omega (arith, ints))
counts_nest [] (new ∷ news) h n = absurd n
counts_nest (old ∷ olds) [] h n = absurd n
counts_nest (old ∷ olds) (new ∷ news) h n =
    let rest = counts_nest olds news h.1 n.1 in
    let low = rest.0 in
    let high = rest.1 in
    let full = told new.null (h.0.count refl) in
    let here = n.0.lo full in
    let there = n.0.hi full in
    (omega (arith, ints), omega (arith, ints))

pub combinations_nest : CombinationsNest
combinations_nest Count olds news k h n =
    (let ends = counts_nest olds news h n in
    record { null = λ w. absurd (w refl); full = λ w e. cc; lo = λ w. ends.0; hi = λ w. ends.1 })
combinations_nest Sum olds news k h n = rows_nest Sum olds news k h n
combinations_nest Min olds news k h n = rows_nest Min olds news k h n
combinations_nest Max olds news k h n = rows_nest Max olds news k h n
combinations_nest Avg olds news k h n = absurd (k refl)
