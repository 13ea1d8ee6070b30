-- The ends of shards are those of their pairs.
use Rattle.std.proofs.Common.{◌≡◌, ℤ, pos, int_le, Bool, true, false, cond, ◌||◌, List, [], ◌∷◌, refl, map, sym, ap, ◌∙◌, IsTrue, IsFalse, Some, None}
use Rattle.std.specs.Int.{int_min, int_max}
use Rattle.std.specs.List.{cons_option, list_any}
use Rattle.std.specs.Option.{is_some}
use Rattle.std.proofs.lemmas.Bool.{false≢true}
use Rattle.query_model.specs.declared.bounds.Bound.{Bound}
use Rattle.query_model.specs.declared.bounds.Nullity.{Nullity}
use Rattle.query_model.specs.declared.bounds.Nullity.TheVariants.{Never, Possibly, Always}
use Rattle.query_model.specs.declared.query.ItemKind.TheVariants.{Min}
use Rattle.query_model.specs.Answers.{total, least, greatest, answer}
use Rattle.query_model.specs.Bounds.{Pair, lows, highs, certain_lows, certain_highs, low_share, high_share, some_certain, least_sum, greatest_sum, high_of_least, low_of_greatest, nullity_of}
use Rattle.query_model.proofs.ListBounds.{keeps_low, keeps_high}
use Rattle.shard_bounds.specs.declared.ends.End.TheVariants.{RowsLow, RowsHigh, Low, High, CertainLow, CertainHigh, LowShare, HighShare}
use Rattle.shard_bounds.specs.declared.ends.Test.TheVariants.{IsCertain, KeepsLow, KeepsHigh}
use Rattle.shard_bounds.specs.Ends.{by_word, ends_of, keeps_by, holds_of}
use Rattle.shard_bounds.specs.Combined.{pair_by_word, pairs_of_shards}

low_more : (w : Nullity) (lo hi : ℤ) (ps : List Pair) → cons_option (by_word w (Some lo) (Some lo)) (lows ps) ≡ lows (cons_option (pair_by_word w lo hi) ps)
low_more Never lo hi ps = refl
low_more Possibly lo hi ps = refl
low_more Always lo hi ps = refl

high_more : (w : Nullity) (lo hi : ℤ) (ps : List Pair) → cons_option (by_word w (Some hi) (Some hi)) (highs ps) ≡ highs (cons_option (pair_by_word w lo hi) ps)
high_more Never lo hi ps = refl
high_more Possibly lo hi ps = refl
high_more Always lo hi ps = refl

certain_low_more : (w : Nullity) (lo hi : ℤ) (ps : List Pair) → cons_option (by_word w (Some lo) None) (certain_lows ps) ≡ certain_lows (cons_option (pair_by_word w lo hi) ps)
certain_low_more Never lo hi ps = refl
certain_low_more Possibly lo hi ps = refl
certain_low_more Always lo hi ps = refl

certain_high_more : (w : Nullity) (lo hi : ℤ) (ps : List Pair) → cons_option (by_word w (Some hi) None) (certain_highs ps) ≡ certain_highs (cons_option (pair_by_word w lo hi) ps)
certain_high_more Never lo hi ps = refl
certain_high_more Possibly lo hi ps = refl
certain_high_more Always lo hi ps = refl

low_share_more : (w : Nullity) (lo hi : ℤ) (ps : List Pair) →
    cons_option (by_word w (Some lo) (Some (int_min lo (pos 0)))) (map low_share ps) ≡ map low_share (cons_option (pair_by_word w lo hi) ps)
low_share_more Never lo hi ps = refl
low_share_more Possibly lo hi ps = refl
low_share_more Always lo hi ps = refl

high_share_more : (w : Nullity) (lo hi : ℤ) (ps : List Pair) →
    cons_option (by_word w (Some hi) (Some (int_max hi (pos 0)))) (map high_share ps) ≡ map high_share (cons_option (pair_by_word w lo hi) ps)
high_share_more Never lo hi ps = refl
high_share_more Possibly lo hi ps = refl
high_share_more Always lo hi ps = refl

pub ends_of-Low : (bounds : List Bound) → ends_of Low bounds ≡ lows (pairs_of_shards bounds)
ends_of-Low [] = refl
ends_of-Low (b ∷ bounds) = ap (cons_option (by_word b.null (Some b.lo) (Some b.lo))) (ends_of-Low bounds) ∙ low_more b.null b.lo b.hi (pairs_of_shards bounds)

pub ends_of-High : (bounds : List Bound) → ends_of High bounds ≡ highs (pairs_of_shards bounds)
ends_of-High [] = refl
ends_of-High (b ∷ bounds) = ap (cons_option (by_word b.null (Some b.hi) (Some b.hi))) (ends_of-High bounds) ∙ high_more b.null b.lo b.hi (pairs_of_shards bounds)

pub ends_of-CertainLow : (bounds : List Bound) → ends_of CertainLow bounds ≡ certain_lows (pairs_of_shards bounds)
ends_of-CertainLow [] = refl
ends_of-CertainLow (b ∷ bounds) = ap (cons_option (by_word b.null (Some b.lo) None)) (ends_of-CertainLow bounds) ∙ certain_low_more b.null b.lo b.hi (pairs_of_shards bounds)

pub ends_of-CertainHigh : (bounds : List Bound) → ends_of CertainHigh bounds ≡ certain_highs (pairs_of_shards bounds)
ends_of-CertainHigh [] = refl
ends_of-CertainHigh (b ∷ bounds) = ap (cons_option (by_word b.null (Some b.hi) None)) (ends_of-CertainHigh bounds) ∙ certain_high_more b.null b.lo b.hi (pairs_of_shards bounds)

pub ends_of-LowShare : (bounds : List Bound) → ends_of LowShare bounds ≡ map low_share (pairs_of_shards bounds)
ends_of-LowShare [] = refl
ends_of-LowShare (b ∷ bounds) =
    ap (cons_option (by_word b.null (Some b.lo) (Some (int_min b.lo (pos 0))))) (ends_of-LowShare bounds) ∙ low_share_more b.null b.lo b.hi (pairs_of_shards bounds)

pub ends_of-HighShare : (bounds : List Bound) → ends_of HighShare bounds ≡ map high_share (pairs_of_shards bounds)
ends_of-HighShare [] = refl
ends_of-HighShare (b ∷ bounds) =
    ap (cons_option (by_word b.null (Some b.hi) (Some (int_max b.hi (pos 0))))) (ends_of-HighShare bounds) ∙ high_share_more b.null b.lo b.hi (pairs_of_shards bounds)

pub ends_of-RowsLow : (bounds : List Bound) → ends_of RowsLow bounds ≡ map (λ b. b.lo) bounds
ends_of-RowsLow [] = refl
ends_of-RowsLow (b ∷ bounds) = ap (λ xs. b.lo ∷ xs) (ends_of-RowsLow bounds)

pub ends_of-RowsHigh : (bounds : List Bound) → ends_of RowsHigh bounds ≡ map (λ b. b.hi) bounds
ends_of-RowsHigh [] = refl
ends_of-RowsHigh (b ∷ bounds) = ap (λ xs. b.hi ∷ xs) (ends_of-RowsHigh bounds)

-- ---- tests

any_more : (test : Pair → Bool) (w : Nullity) (within : Bool) (lo hi : ℤ) (ps : List Pair) →
    test (record { certain = true; low = lo; high = hi }) ≡ true → test (record { certain = false; low = lo; high = hi }) ≡ within →
    (keeps_by w within || list_any test ps) ≡ list_any test (cons_option (pair_by_word w lo hi) ps)
any_more test Never within lo hi ps t f = ap (λ b. b || list_any test ps) (sym t)
any_more test Possibly within lo hi ps t f = ap (λ b. b || list_any test ps) (sym f)
any_more test Always within lo hi ps t f = refl

pub any_keeps_low : (bounds : List Bound) → list_any (holds_of KeepsLow) bounds ≡ list_any keeps_low (pairs_of_shards bounds)
any_keeps_low [] = refl
any_keeps_low (b ∷ bounds) = ap (λ c. holds_of KeepsLow b || c) (any_keeps_low bounds) ∙ any_more keeps_low b.null (int_le b.lo (pos 0)) b.lo b.hi (pairs_of_shards bounds) refl refl

pub any_keeps_high : (bounds : List Bound) → list_any (holds_of KeepsHigh) bounds ≡ list_any keeps_high (pairs_of_shards bounds)
any_keeps_high [] = refl
any_keeps_high (b ∷ bounds) = ap (λ c. holds_of KeepsHigh b || c) (any_keeps_high bounds) ∙ any_more keeps_high b.null (int_le (pos 0) b.hi) b.lo b.hi (pairs_of_shards bounds) refl refl

pub any_certain : (bounds : List Bound) → list_any (holds_of IsCertain) bounds ≡ some_certain (pairs_of_shards bounds)
any_certain [] = refl
any_certain (b ∷ bounds) = ap (λ c. holds_of IsCertain b || c) (any_certain bounds) ∙ any_more (λ p. p.certain) b.null false b.lo b.hi (pairs_of_shards bounds) refl refl

-- ---- what is computed of them

cond_at_true : {A : Type 0} (b : Bool) (x y : A) → b ≡ true → cond b x y ≡ x
cond_at_true b x y e = ap (λ c. cond c x y) e

cond_at_false : {A : Type 0} (b : Bool) (x y : A) → b ≡ false → cond b x y ≡ y
cond_at_false b x y e = ap (λ c. cond c x y) e

pub sum_of_low_shares : (bounds : List Bound) → list_any (holds_of KeepsLow) bounds ≡ true → least_sum (pairs_of_shards bounds) ≡ total (ends_of LowShare bounds)
sum_of_low_shares bounds t = cond_at_true _ _ _ (sym (any_keeps_low bounds) ∙ t) ∙ sym (ap total (ends_of-LowShare bounds))

pub lone_low : (bounds : List Bound) → list_any (holds_of KeepsLow) bounds ≡ false → least_sum (pairs_of_shards bounds) ≡ least (ends_of Low bounds)
lone_low bounds f = cond_at_false _ _ _ (sym (any_keeps_low bounds) ∙ f) ∙ sym (ap least (ends_of-Low bounds))

pub sum_of_high_shares : (bounds : List Bound) → list_any (holds_of KeepsHigh) bounds ≡ true → greatest_sum (pairs_of_shards bounds) ≡ total (ends_of HighShare bounds)
sum_of_high_shares bounds t = cond_at_true _ _ _ (sym (any_keeps_high bounds) ∙ t) ∙ sym (ap total (ends_of-HighShare bounds))

pub lone_high : (bounds : List Bound) → list_any (holds_of KeepsHigh) bounds ≡ false → greatest_sum (pairs_of_shards bounds) ≡ greatest (ends_of High bounds)
lone_high bounds f = cond_at_false _ _ _ (sym (any_keeps_high bounds) ∙ f) ∙ sym (ap greatest (ends_of-High bounds))

pub least_of_certain : (bounds : List Bound) → list_any (holds_of IsCertain) bounds ≡ true → high_of_least (pairs_of_shards bounds) ≡ least (ends_of CertainHigh bounds)
least_of_certain bounds t = cond_at_true _ _ _ (sym (any_certain bounds) ∙ t) ∙ sym (ap least (ends_of-CertainHigh bounds))

pub least_of_any : (bounds : List Bound) → list_any (holds_of IsCertain) bounds ≡ false → high_of_least (pairs_of_shards bounds) ≡ greatest (ends_of High bounds)
least_of_any bounds f = cond_at_false _ _ _ (sym (any_certain bounds) ∙ f) ∙ sym (ap greatest (ends_of-High bounds))

pub greatest_of_certain : (bounds : List Bound) → list_any (holds_of IsCertain) bounds ≡ true → low_of_greatest (pairs_of_shards bounds) ≡ greatest (ends_of CertainLow bounds)
greatest_of_certain bounds t = cond_at_true _ _ _ (sym (any_certain bounds) ∙ t) ∙ sym (ap greatest (ends_of-CertainLow bounds))

pub greatest_of_any : (bounds : List Bound) → list_any (holds_of IsCertain) bounds ≡ false → low_of_greatest (pairs_of_shards bounds) ≡ least (ends_of Low bounds)
greatest_of_any bounds f = cond_at_false _ _ _ (sym (any_certain bounds) ∙ f) ∙ sym (ap least (ends_of-Low bounds))

-- ---- the word on NULL

word_of : Bool → List ℤ → Nullity
word_of true xs = Never
word_of false [] = Always
word_of false (x ∷ xs) = Possibly

word_of-pairs : (ps : List Pair) → nullity_of ps ≡ word_of (some_certain ps) (lows ps)
unfolding word_of
word_of-pairs [] = refl
word_of-pairs (p ∷ ps) = either (some_certain (p ∷ ps))
  where
    either : (b : Bool) → cond b Never Possibly ≡ word_of b (lows (p ∷ ps))
    either true = refl
    either false = refl

word_of-shards : (bounds : List Bound) → nullity_of (pairs_of_shards bounds) ≡ word_of (list_any (holds_of IsCertain) bounds) (ends_of Low bounds)
word_of-shards bounds =
    word_of-pairs (pairs_of_shards bounds)
    ∙ ap (λ b. word_of b (lows (pairs_of_shards bounds))) (sym (any_certain bounds))
    ∙ ap (word_of (list_any (holds_of IsCertain) bounds)) (sym (ends_of-Low bounds))

word_by_least : (xs : List ℤ) → (IsTrue (is_some (answer Min xs)) → word_of false xs ≡ Possibly) × (IsFalse (is_some (answer Min xs)) → word_of false xs ≡ Always)
unfolding word_of
word_by_least [] = ((λ t. absurd (false≢true t)), (λ f. refl))
word_by_least (x ∷ xs) = ((λ t. refl), (λ f. absurd (false≢true (sym f))))

pub word_never : (bounds : List Bound) → list_any (holds_of IsCertain) bounds ≡ true → nullity_of (pairs_of_shards bounds) ≡ Never
unfolding word_of
word_never bounds t = word_of-shards bounds ∙ ap (λ b. word_of b (ends_of Low bounds)) t

pub word_possibly : (bounds : List Bound) → list_any (holds_of IsCertain) bounds ≡ false → IsTrue (is_some (answer Min (ends_of Low bounds))) → nullity_of (pairs_of_shards bounds) ≡ Possibly
word_possibly bounds f t = word_of-shards bounds ∙ ap (λ b. word_of b (ends_of Low bounds)) f ∙ (word_by_least (ends_of Low bounds)).0 t

pub word_always : (bounds : List Bound) → list_any (holds_of IsCertain) bounds ≡ false → IsFalse (is_some (answer Min (ends_of Low bounds))) → nullity_of (pairs_of_shards bounds) ≡ Always
word_always bounds f n = word_of-shards bounds ∙ ap (λ b. word_of b (ends_of Low bounds)) f ∙ (word_by_least (ends_of Low bounds)).1 n
