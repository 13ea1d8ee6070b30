-- Where the shards' answers are told, so is the answer over all.
use Rattle.std.proofs.Common.{◌≡◌, ◌≢◌, ℕ, ℤ, List, [], ◌∷◌, get_or, refl, arith, subst, sym, ap, ◌∙◌, Option, Some, None}
use Rattle.std.proofs.lemmas.Int.{ints}
use Rattle.query_model.specs.declared.bounds.Bound.{Bound}
use Rattle.query_model.specs.declared.bounds.Nullity.{Nullity}
use Rattle.query_model.specs.declared.bounds.Nullity.TheVariants.{Never, Possibly, Always}
use Rattle.query_model.specs.declared.query.ItemKind.{ItemKind}
use Rattle.query_model.specs.Answers.{answer}
use Rattle.query_model.specs.Bounds.{Admits, WordIsRight, IsExtremes}
use Rattle.shard_bounds.specs.Combined.{answer_over, combined}
use Rattle.shard_bounds.specs.Laws.{AreChoices, AreTightShards, IsTightShard, AreTold, Tells, CombinationsTell}
use Rattle.shard_bounds.proofs.Extremes.{combinations_are_extremes}

-- only these values are possible for each shard
abbrev pub only_at : List (List ℤ) → ℕ → List ℤ → Type 0
only_at shards i values = values ≡ get_or shards i []

pub told_admits : (bound : Bound) (a : Option ℤ) → Tells bound a → Admits bound a
told_admits bound None t = λ e. cc
told_admits bound (Some v) t = (let low = t.1 in let high = t.2 in ((λ e. cc), omega (arith, ints), omega (arith, ints)))

told_at_low : (bound : Bound) (a : Option ℤ) → Tells bound a → bound.null ≢ Always → a ≡ Some bound.lo
told_at_low bound None t w = absurd (w t)
told_at_low bound (Some v) t w = ap (λ z. Some z) (sym t.1)

told_at_high : (bound : Bound) (a : Option ℤ) → Tells bound a → bound.null ≢ Always → a ≡ Some bound.hi
told_at_high bound None t w = absurd (w t)
told_at_high bound (Some v) t w = ap (λ z. Some z) (sym t.2)

told_word : (bound : Bound) (values : List ℤ) (answer_in : List ℤ → Option ℤ) (a : Option ℤ) → answer_in values ≡ a → Tells bound a → (w : Nullity) → bound.null ≡ w →
    WordIsRight (λ (vs : List ℤ). vs ≡ values) answer_in w
told_word bound values answer_in None is t Never e = absurd (apart (sym t ∙ e))
  where
    apart : ◌≡◌ {A = Nullity} Always Never → ⊥
    apart q = cc
told_word bound values answer_in (Some v) is t Never e = λ vs same none. some_none v (sym is ∙ ap answer_in (sym same) ∙ none)
  where
    some_none : (v : ℤ) → ◌≡◌ {A = Option ℤ} (Some v) None → ⊥
    some_none v q = cc
told_word bound values answer_in None is t Possibly e = absurd (apart (sym t ∙ e))
  where
    apart : ◌≡◌ {A = Nullity} Always Possibly → ⊥
    apart q = cc
told_word bound values answer_in (Some v) is t Possibly e = absurd (apart (sym t.0 ∙ e))
  where
    apart : ◌≡◌ {A = Nullity} Never Possibly → ⊥
    apart q = cc
told_word bound values answer_in None is t Always e = λ vs same. ap answer_in same ∙ is
told_word bound values answer_in (Some v) is t Always e = absurd (apart (sym t.0 ∙ e))
  where
    apart : ◌≡◌ {A = Nullity} Never Always → ⊥
    apart q = cc

told_is_tight : (kind : ItemKind) (bound : Bound) (values : List ℤ) → Tells bound (answer kind values) → IsTightShard kind (λ vs. vs ≡ values) bound
told_is_tight kind bound values t = record {
  some = (values, refl);
  extremes = record {
    admits = λ vs same. subst (Admits bound) (ap (answer kind) (sym same)) (told_admits bound (answer kind values) t);
    null = told_word bound values (answer kind) (answer kind values) refl t bound.null refl;
    lo = λ w. (values, refl, told_at_low bound (answer kind values) t w);
    hi = λ w. (values, refl, told_at_high bound (answer kind values) t w);
  };
}

told_are_tight : (kind : ItemKind) (bounds : List Bound) (shards : List (List ℤ)) → AreTold kind bounds shards → AreTightShards kind (only_at shards) bounds
told_are_tight kind [] shards t = tt
told_are_tight kind (bound ∷ bounds) [] t = absurd t
told_are_tight kind (bound ∷ bounds) (values ∷ shards) t = (told_is_tight kind bound values t.0, told_are_tight kind bounds shards t.1)

only_choice : (kind : ItemKind) (bounds : List Bound) (shards other : List (List ℤ)) → AreTold kind bounds shards → AreChoices (only_at shards) bounds other → other ≡ shards
only_choice kind [] [] [] t c = refl
only_choice kind [] [] (values ∷ other) t c = absurd c
only_choice kind [] (values ∷ shards) other t c = absurd t
only_choice kind (bound ∷ bounds) [] other t c = absurd t
only_choice kind (bound ∷ bounds) (values ∷ shards) [] t c = absurd c
only_choice kind (bound ∷ bounds) (values ∷ shards) (others ∷ other) t c =
    ap (λ vs. vs ∷ other) c.0 ∙ ap (λ vss. values ∷ vss) (only_choice kind bounds shards other t.1 c.1)

the_choice : (kind : ItemKind) (bounds : List Bound) (shards : List (List ℤ)) → AreTold kind bounds shards → AreChoices (only_at shards) bounds shards
the_choice kind [] [] t = tt
the_choice kind [] (values ∷ shards) t = t
the_choice kind (bound ∷ bounds) [] t = t
the_choice kind (bound ∷ bounds) (values ∷ shards) t = (refl, the_choice kind bounds shards t.1)

-- the extremes over worlds of one answer are that answer
one_answer : {W : Type 0} (IsWorld : W → Type 0) (answer_in : W → Option ℤ) (bound : Bound) (a : Option ℤ) → (world : W) → IsWorld world →
    ((world : W) → IsWorld world → answer_in world ≡ a) → IsExtremes IsWorld answer_in bound → (w : Nullity) → bound.null ≡ w → WordIsRight IsWorld answer_in w → Tells bound a
one_answer IsWorld answer_in bound a world is same law Never e word =
    let low = law.lo (not_always e) in
    let high = law.hi (not_always e) in
    let at_low : a ≡ Some bound.lo = sym (same low.0 low.1) ∙ low.2 in
    let at_high : a ≡ Some bound.hi = sym (same high.0 high.1) ∙ high.2 in
    subst (Tells bound) (sym at_low) (e, refl, some_same bound.hi bound.lo (sym at_high ∙ at_low))
  where
    some_same : (x y : ℤ) → ◌≡◌ {A = Option ℤ} (Some x) (Some y) → x ≡ y
    some_same x y q = cc

    not_always : bound.null ≡ Never → bound.null ≢ Always
    not_always e f = apart (sym e ∙ f)
      where
        apart : ◌≡◌ {A = Nullity} Never Always → ⊥
        apart q = cc
one_answer IsWorld answer_in bound a world is same law Possibly e word =
    let low = law.lo (not_always e) in
    absurd (some_none bound.lo (sym low.2 ∙ same low.0 low.1 ∙ sym (same word.0 word.1) ∙ word.2))
  where
    some_none : (v : ℤ) → ◌≡◌ {A = Option ℤ} (Some v) None → ⊥
    some_none v q = cc

    not_always : bound.null ≡ Possibly → bound.null ≢ Always
    not_always e f = apart (sym e ∙ f)
      where
        apart : ◌≡◌ {A = Nullity} Possibly Always → ⊥
        apart q = cc
one_answer IsWorld answer_in bound a world is same law Always e word = subst (Tells bound) (sym (word world is) ∙ same world is) e

pub combinations_tell : CombinationsTell
combinations_tell kind bounds shards k t =
    let law = combinations_are_extremes kind (only_at shards) bounds k (told_are_tight kind bounds shards t) in
    one_answer (AreChoices (only_at shards) bounds) (answer_over kind) (combined kind bounds) (answer_over kind shards) shards (the_choice kind bounds shards t)
    (λ other c. ap (answer_over kind) (only_choice kind bounds shards other t c)) law (combined kind bounds).null refl law.null
