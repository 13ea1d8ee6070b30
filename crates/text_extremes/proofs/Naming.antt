-- Bounds of numbers, by the texts that the numbers stand for.
use Rattle.std.proofs.Common.{◌≡◌, ◌≢◌, ℕ, ℤ, ◌≤ℤ◌, List, [], ◌∷◌, map, Option, Some, None, refl, sym, ap, subst, ◌∙◌, arith, IsTrue}
use Rattle.std.specs.Int.{int_max, int_min}
use Rattle.std.specs.Option.{option_map}
use Rattle.std.proofs.lemmas.Bool.{cond_both, true≢false}
use Rattle.std.proofs.lemmas.Int.{ints, clamps}
use Rattle.query_model.specs.declared.bounds.Bound.{Bound}
use Rattle.query_model.specs.declared.bounds.Nullity.{Nullity}
use Rattle.query_model.specs.declared.bounds.Nullity.TheVariants.{Never, Possibly, Always}
use Rattle.query_model.specs.Answers.{answer, greatest, least}
use Rattle.query_model.specs.Bounds as numbers
use Rattle.query_model.specs.Bounds.{Occurs, WordIsRight}
use Rattle.shard_bounds.specs.Laws as numbers_laws
use Rattle.text_extremes.proofs.TextOrder.{before_first, first_left, first_right, one_text}
use Rattle.text_extremes.specs.Bounds.{Admits, IsAttained, IsExtremes, IsNested, Tells}
use Rattle.text_extremes.specs.Shards.{kind_of, named, named_by}
use Rattle.text_extremes.specs.Texts.{comes_first, extreme_of, first_of, of_both, text_le}
use Rattle.text_extremes.specs.declared.extreme.Extreme.{Extreme}
use Rattle.text_extremes.specs.declared.extreme.Extreme.TheVariants.{Least, Greatest}

never_always : Never ≡ Always → ⊥
never_always e = cc

never_possibly : Never ≡ Possibly → ⊥
never_possibly e = cc

possibly_always : Possibly ≡ Always → ⊥
possibly_always e = cc

-- of two numbers the greater one has no lesser text
abbrev pub IsRising : (ℤ → List ℕ) → Type 0
IsRising name = (x y : ℤ) → x ≤ℤ y → IsTrue (text_le (name x) (name y))

module _ (name : ℤ → List ℕ) (rise : IsRising name) where
  -- ---- answers

  least_named : (x y : ℤ) → first_of Least (name x) (name y) ≡ name (int_min x y)
  least_named x y =
      let first = first_of Least (name x) (name y) in
      let low : int_min x y ≤ℤ x = omega (arith, ints, clamps) in
      let down : int_min x y ≤ℤ y = omega (arith, ints, clamps) in
      one_text Least first (name (int_min x y))
      (chosen_min x y (λ z. IsTrue (comes_first Least first (name z))) (first_left Least (name x) (name y)) (first_right Least (name x) (name y)))
      (before_first Least (name (int_min x y)) (name x) (name y) (rise (int_min x y) x low) (rise (int_min x y) y down))
    where
      chosen_min : (x y : ℤ) (P : ℤ → Type 0) → P x → P y → P (int_min x y)
      chosen_min x y P h k = cond_both _ y x P (λ t. k) (λ f. h)

  greatest_named : (x y : ℤ) → first_of Greatest (name x) (name y) ≡ name (int_max x y)
  greatest_named x y =
      let first = first_of Greatest (name x) (name y) in
      let high : x ≤ℤ int_max x y = omega (arith, ints, clamps) in
      let up : y ≤ℤ int_max x y = omega (arith, ints, clamps) in
      one_text Greatest first (name (int_max x y))
      (chosen_max x y (λ z. IsTrue (comes_first Greatest first (name z))) (first_left Greatest (name x) (name y)) (first_right Greatest (name x) (name y)))
      (before_first Greatest (name (int_max x y)) (name x) (name y) (rise x (int_max x y) high) (rise y (int_max x y) up))
    where
      chosen_max : (x y : ℤ) (P : ℤ → Type 0) → P x → P y → P (int_max x y)
      chosen_max x y P h k = cond_both _ x y P (λ t. h) (λ f. k)

  pub named_answer : (e : Extreme) (values : List ℤ) → extreme_of e (map name values) ≡ option_map name (answer (kind_of e) values)
  named_answer Least [] = refl
  named_answer Least (x ∷ []) = refl
  named_answer Least (x ∷ y ∷ values) =
      ap (of_both (first_of Least) (Some (name x))) (named_answer Least (y ∷ values))
      ∙ ap (λ (t : List ℕ). Some t) (least_named x (least (y ∷ values)))
  named_answer Greatest [] = refl
  named_answer Greatest (x ∷ []) = refl
  named_answer Greatest (x ∷ y ∷ values) =
      ap (of_both (first_of Greatest) (Some (name x))) (named_answer Greatest (y ∷ values))
      ∙ ap (λ (t : List ℕ). Some t) (greatest_named x (greatest (y ∷ values)))

  -- ---- what bounds say

  admits_by : (bound : Bound) (a : Option ℤ) (null : Nullity) → bound.null ≡ null → numbers.Admits bound a →
      Admits (named_by name null bound.lo bound.hi) (option_map name a)
  admits_by bound None Never is h = absurd (h is)
  admits_by bound (Some v) Never is h = (rise bound.lo v h.1, rise v bound.hi h.2)
  admits_by bound None Possibly is h = refl
  admits_by bound (Some v) Possibly is h = (rise bound.lo v h.1, rise v bound.hi h.2)
  admits_by bound None Always is h = tt
  admits_by bound (Some v) Always is h = absurd (h.0 is)

  pub named_admits : (bound : Bound) (a : Option ℤ) → numbers.Admits bound a → Admits (named name bound) (option_map name a)
  named_admits bound a h = admits_by bound a bound.null refl h

  tells_by : (bound : Bound) (a : Option ℤ) (null : Nullity) → bound.null ≡ null → numbers_laws.Tells bound a →
      Tells (named_by name null bound.lo bound.hi) (option_map name a)
  tells_by bound None Never is h = absurd (never_always (sym is ∙ h))
  tells_by bound (Some v) Never is h = (refl, ap name h.1, ap name h.2)
  tells_by bound None Possibly is h = absurd (possibly_always (sym is ∙ h))
  tells_by bound (Some v) Possibly is h = absurd (never_possibly (sym h.0 ∙ is))
  tells_by bound None Always is h = tt
  tells_by bound (Some v) Always is h = absurd (never_always (sym h.0 ∙ is))

  pub named_tells : (bound : Bound) (a : Option ℤ) → numbers_laws.Tells bound a → Tells (named name bound) (option_map name a)
  named_tells bound a h = tells_by bound a bound.null refl h

  nests_by : (old new : Bound) (v w : Nullity) → old.null ≡ v → new.null ≡ w → numbers.IsNested old new →
      IsNested (named_by name v old.lo old.hi) (named_by name w new.lo new.hi)
  nests_by old new Never Never p q h =
      let some : new.null ≢ Always = λ f. never_always (sym q ∙ f) in
      record { certain = λ c. refl; low = rise old.lo new.lo (h.lo some); high = rise new.hi old.hi (h.hi some) }
  nests_by old new Never Possibly p q h = absurd (h.null (λ f. never_possibly (sym f ∙ q)) p)
  nests_by old new Never Always p q h = absurd (h.null (λ f. never_always (sym f ∙ q)) p)
  nests_by old new Possibly Never p q h =
      let some : new.null ≢ Always = λ f. never_always (sym q ∙ f) in
      record { certain = λ c. refl; low = rise old.lo new.lo (h.lo some); high = rise new.hi old.hi (h.hi some) }
  nests_by old new Possibly Possibly p q h =
      let some : new.null ≢ Always = λ f. possibly_always (sym q ∙ f) in
      record { certain = λ c. c; low = rise old.lo new.lo (h.lo some); high = rise new.hi old.hi (h.hi some) }
  nests_by old new Possibly Always p q h = refl
  nests_by old new Always Never p q h = absurd (h.full (λ f. never_always (sym q ∙ f)) p)
  nests_by old new Always Possibly p q h = absurd (h.full (λ f. possibly_always (sym q ∙ f)) p)
  nests_by old new Always Always p q h = tt

  pub named_nests : (old new : Bound) → numbers.IsNested old new → IsNested (named name old) (named name new)
  named_nests old new h = nests_by old new old.null new.null refl refl h

  -- ---- extremes

  occurs : {W : Type 0} (IsWorld : W → Type 0) (answer_in : W → Option ℤ) (a : Option ℤ) → Occurs IsWorld answer_in a →
      Occurs IsWorld (λ world. option_map name (answer_in world)) (option_map name a)
  occurs {W} IsWorld answer_in a found = (found.0, found.1, ap (option_map name) found.2)

  attained_by : {W : Type 0} (IsWorld : W → Type 0) (answer_in : W → Option ℤ) (bound : Bound) (null : Nullity) → bound.null ≡ null →
      numbers.IsExtremes IsWorld answer_in bound →
      IsAttained IsWorld (λ world. option_map name (answer_in world)) (named_by name null bound.lo bound.hi)
  attained_by {W} IsWorld answer_in bound Never is h =
      let some : bound.null ≢ Always = λ f. never_always (sym is ∙ f) in
      (λ c. absurd (true≢false c), occurs IsWorld answer_in (Some bound.lo) (h.lo some), occurs IsWorld answer_in (Some bound.hi) (h.hi some))
  attained_by {W} IsWorld answer_in bound Possibly is h =
      let some : bound.null ≢ Always = λ f. possibly_always (sym is ∙ f) in
      let none : Occurs IsWorld answer_in None = subst (λ (w : Nullity). WordIsRight IsWorld answer_in w) is h.null in
      (λ c. occurs IsWorld answer_in None none, occurs IsWorld answer_in (Some bound.lo) (h.lo some), occurs IsWorld answer_in (Some bound.hi) (h.hi some))
  attained_by {W} IsWorld answer_in bound Always is h = tt

  pub named_extremes : {W : Type 0} (IsWorld : W → Type 0) (answer_in : W → Option ℤ) (bound : Bound) → numbers.IsExtremes IsWorld answer_in bound →
      IsExtremes IsWorld (λ world. option_map name (answer_in world)) (named name bound)
  named_extremes {W} IsWorld answer_in bound h = record {
    admits = λ world is. named_admits bound (answer_in world) (h.admits world is);
    attained = attained_by IsWorld answer_in bound bound.null refl h;
  }
