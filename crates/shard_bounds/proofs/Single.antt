-- The bound over one shard.
use Rattle.std.proofs.Common.{◌≡◌, ◌≢◌, ℤ, pos, ◌+ℤ◌, int_le, Bool, true, false, cond, ◌||◌, [], ◌∷◌, refl, arith, sym, ap, ◌∙◌}
use Rattle.std.specs.Int.{int_min, int_max}
use Rattle.std.proofs.lemmas.Bool.{cond_both}
use Rattle.std.proofs.lemmas.Int.{ints, clamps}
use Rattle.query_model.specs.declared.bounds.Bound.{Bound}
use Rattle.query_model.specs.declared.bounds.Nullity.{Nullity}
use Rattle.query_model.specs.declared.bounds.Nullity.TheVariants.{Never, Possibly, Always}
use Rattle.query_model.specs.declared.query.ItemKind.{ItemKind}
use Rattle.query_model.specs.declared.query.ItemKind.TheVariants.{Count, Sum, Min, Max, Avg}
use Rattle.query_model.specs.Bounds.{bound_of, least_sum, greatest_sum}
use Rattle.shard_bounds.specs.Combined.{combined, pairs_of_shards}
use Rattle.shard_bounds.specs.Laws.{OneShardIsAll}

pub same_bound : (a b : Bound) → a.null ≡ b.null → a.lo ≡ b.lo → a.hi ≡ b.hi → a ≡ b
same_bound a b n l h =
    let make : Nullity → ℤ → ℤ → Bound = λ n l h. record { null = n; lo = l; hi = h } in
    ap (λ n. make n a.lo a.hi) n ∙ ap (λ l. make b.null l a.hi) l ∙ ap (make b.null b.lo) h

or_false : (b : Bool) → (b || false) ≡ b
or_false true = refl
or_false false = refl

least_share : (l h : ℤ) → least_sum (record { certain = false; low = l; high = h } ∷ []) ≡ l
least_share l h =
    ap (λ b. cond b (int_min l (pos 0) +ℤ pos 0) l) (or_false (int_le l (pos 0)))
    ∙ cond_both (int_le l (pos 0)) (int_min l (pos 0) +ℤ pos 0) l (λ x. x ≡ l) (λ t. omega (arith, ints, clamps)) (λ f. refl)

greatest_share : (l h : ℤ) → greatest_sum (record { certain = false; low = l; high = h } ∷ []) ≡ h
greatest_share l h =
    ap (λ b. cond b (int_max h (pos 0) +ℤ pos 0) h) (or_false (int_le (pos 0) h))
    ∙ cond_both (int_le (pos 0) h) (int_max h (pos 0) +ℤ pos 0) h (λ x. x ≡ h) (λ t. omega (arith, ints, clamps)) (λ f. refl)

one_row : (kind : ItemKind) (w : Nullity) (lo hi : ℤ) → kind ≢ Count → kind ≢ Avg → (w ≡ Always → (lo ≡ pos 0) × (hi ≡ pos 0)) →
    let bound : Bound = record { null = w; lo = lo; hi = hi } in
    bound_of kind (pairs_of_shards (bound ∷ [])) ≡ bound
one_row Count w lo hi c k z = absurd (c refl)
one_row Avg w lo hi c k z = absurd (k refl)
one_row Sum Never lo hi c k z = same_bound _ _ refl (omega (arith, ints)) (omega (arith, ints))
one_row Sum Possibly lo hi c k z = same_bound _ _ refl (least_share lo hi) (greatest_share lo hi)
one_row Sum Always lo hi c k z = same_bound _ _ refl (sym (z refl).0) (sym (z refl).1)
one_row Min Never lo hi c k z = refl
one_row Min Possibly lo hi c k z = refl
one_row Min Always lo hi c k z = same_bound _ _ refl (sym (z refl).0) (sym (z refl).1)
one_row Max Never lo hi c k z = refl
one_row Max Possibly lo hi c k z = refl
one_row Max Always lo hi c k z = same_bound _ _ refl (sym (z refl).0) (sym (z refl).1)

pub one_shard_is_all : OneShardIsAll
one_shard_is_all Count bound k h = same_bound (combined Count (bound ∷ [])) bound (sym (h.count refl)) (omega (arith, ints)) (omega (arith, ints))
one_shard_is_all Sum bound k h = one_row Sum bound.null bound.lo bound.hi (λ e. cc) k h.none
one_shard_is_all Min bound k h = one_row Min bound.null bound.lo bound.hi (λ e. cc) k h.none
one_shard_is_all Max bound k h = one_row Max bound.null bound.lo bound.hi (λ e. cc) k h.none
one_shard_is_all Avg bound k h = absurd (k refl)
