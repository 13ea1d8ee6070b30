-- The bound over all shards is the extremes over all choices of what is possible for each shard.
use Rattle.std.proofs.Common.{◌≡◌, ◌≢◌, ℕ, suc, ℤ, pos, ◌≤ℤ◌, List, [], ◌∷◌, ◌⊎◌, inl, inr, refl, arith, map, length, subst, sym, ap, ◌∙◌, Option, Some, None}
use Rattle.std.specs.List.{cons_option}
use Rattle.std.proofs.lemmas.Bool.{true≢false}
use Rattle.std.proofs.lemmas.Int.{ints}
use Rattle.query_model.specs.declared.bounds.Bound.{Bound}
use Rattle.query_model.specs.declared.bounds.Nullity.{Nullity}
use Rattle.query_model.specs.declared.bounds.Nullity.TheVariants.{Never, Possibly, Always}
use Rattle.query_model.specs.declared.query.ItemKind.{ItemKind}
use Rattle.query_model.specs.declared.query.ItemKind.TheVariants.{Count, Sum, Min, Max, Avg}
use Rattle.query_model.specs.Answers.{total, answer}
use Rattle.query_model.specs.Bounds.{Admits, Pair, bound_of, Occurs, WordIsRight, IsExtremes}
use Rattle.query_model.specs.Laws.{AreEndOutcomes, ArePairs, present}
use Rattle.query_model.proofs.ListExtremes.{bounds_are_extremes_of_lists}
use Rattle.shard_bounds.specs.Combined.{together, answer_over, pair_by_word, pairs_of_shards, combined}
use Rattle.shard_bounds.specs.Laws.{AreAdmitted, AreChoices, AreTightShards, IsTightShard}
use Rattle.shard_bounds.proofs.Answers.{answers, length-append, sum_over, min_over, max_over}
use Rattle.shard_bounds.proofs.Contains.{combinations_contain}

-- the answers of a choice are admitted
pub choice_admitted : (kind : ItemKind) (possible : ℕ → List ℤ → Type 0) (bounds : List Bound) (shards : List (List ℤ)) →
    AreTightShards kind possible bounds → AreChoices possible bounds shards → AreAdmitted kind bounds shards
choice_admitted kind possible [] [] t c = tt
choice_admitted kind possible [] (values ∷ shards) t c = c
choice_admitted kind possible (bound ∷ bounds) [] t c = c
choice_admitted kind possible (bound ∷ bounds) (values ∷ shards) t c =
    (t.0.extremes.admits values c.0, choice_admitted kind (λ i. possible (suc i)) bounds shards t.1 c.1)

-- a tight bound has its ends in order
ordered : (kind : ItemKind) (IsPossible : List ℤ → Type 0) (bound : Bound) → IsTightShard kind IsPossible bound → bound.null ≢ Always → bound.lo ≤ℤ bound.hi
ordered kind IsPossible bound t w =
    let found = t.extremes.lo w in
    (subst (Admits bound) found.2 (t.extremes.admits found.0 found.1)).2

pair_more : (w : Nullity) (lo hi : ℤ) (ps : List Pair) → (w ≢ Always → lo ≤ℤ hi) → ArePairs ps → ArePairs (cons_option (pair_by_word w lo hi) ps)
pair_more Never lo hi ps h rest = (h (λ e. cc), rest)
pair_more Possibly lo hi ps h rest = (h (λ e. cc), rest)
pair_more Always lo hi ps h rest = rest

tight_pairs : (kind : ItemKind) (possible : ℕ → List ℤ → Type 0) (bounds : List Bound) → AreTightShards kind possible bounds → ArePairs (pairs_of_shards bounds)
tight_pairs kind possible [] t = tt
tight_pairs kind possible (bound ∷ bounds) t =
    pair_more bound.null bound.lo bound.hi (pairs_of_shards bounds) (ordered kind (possible 0) bound t.0) (tight_pairs kind (λ i. possible (suc i)) bounds t.1)

-- a choice with these answers of the shards that have one
pub record ChoiceGives (kind : ItemKind) (possible : ℕ → List ℤ → Type 0) (bounds : List Bound) (given : List ℤ) : Type 0 where
  pub shards : List (List ℤ)
  pub are : AreChoices possible bounds shards
  pub gives : answers kind shards ≡ given

one_more : (kind : ItemKind) (possible : ℕ → List ℤ → Type 0) (bound : Bound) (bounds : List Bound) (a : Option ℤ) (given : List ℤ) →
    Occurs (possible 0) (answer kind) a → ChoiceGives kind (λ i. possible (suc i)) bounds given → ChoiceGives kind possible (bound ∷ bounds) (cons_option a given)
one_more kind possible bound bounds a given found rest = record {
  shards = found.0 ∷ rest.shards;
  are = (found.1, rest.are);
  gives = ap (λ b. cons_option b (answers kind rest.shards)) found.2 ∙ ap (cons_option a) rest.gives;
}

-- an end of a pair is the answer of some possible values
end_occurs : (kind : ItemKind) (IsPossible : List ℤ → Type 0) (bound : Bound) → IsTightShard kind IsPossible bound → bound.null ≢ Always → (v : ℤ) →
    (v ≡ bound.lo) ⊎ (v ≡ bound.hi) → Occurs IsPossible (answer kind) (Some v)
end_occurs kind IsPossible bound t w v (inl e) = subst (λ z. Occurs IsPossible (answer kind) (Some z)) (sym e) (t.extremes.lo w)
end_occurs kind IsPossible bound t w v (inr e) = subst (λ z. Occurs IsPossible (answer kind) (Some z)) (sym e) (t.extremes.hi w)

shard_reached : (kind : ItemKind) (possible : ℕ → List ℤ → Type 0) (bound : Bound) (bounds : List Bound) → IsTightShard kind (possible 0) bound →
    (w : Nullity) → bound.null ≡ w → WordIsRight (possible 0) (answer kind) w → (ps : List Pair) →
    ((os : List (Option ℤ)) → AreEndOutcomes ps os → ChoiceGives kind (λ i. possible (suc i)) bounds (present os)) →
    (os : List (Option ℤ)) → AreEndOutcomes (cons_option (pair_by_word w bound.lo bound.hi) ps) os → ChoiceGives kind possible (bound ∷ bounds) (present os)
shard_reached kind possible bound bounds t Never e told ps rest [] c = absurd c
shard_reached kind possible bound bounds t Never e told ps rest (None ∷ os) c = absurd (true≢false c.0)
shard_reached kind possible bound bounds t Never e told ps rest (Some v ∷ os) c =
    one_more kind possible bound bounds (Some v) (present os) (end_occurs kind (possible 0) bound t (λ q. cc) v c.0) (rest os c.1)
shard_reached kind possible bound bounds t Possibly e told ps rest [] c = absurd c
shard_reached kind possible bound bounds t Possibly e told ps rest (None ∷ os) c =
    one_more kind possible bound bounds None (present os) told (rest os c.1)
shard_reached kind possible bound bounds t Possibly e told ps rest (Some v ∷ os) c =
    one_more kind possible bound bounds (Some v) (present os) (end_occurs kind (possible 0) bound t (λ q. cc) v c.0) (rest os c.1)
shard_reached kind possible bound bounds t Always e told ps rest os c =
    one_more kind possible bound bounds None (present os) (t.some.0, t.some.1, told t.some.0 t.some.1) (rest os c)

reached : (kind : ItemKind) (possible : ℕ → List ℤ → Type 0) (bounds : List Bound) → AreTightShards kind possible bounds →
    (os : List (Option ℤ)) → AreEndOutcomes (pairs_of_shards bounds) os → ChoiceGives kind possible bounds (present os)
reached kind possible [] t [] c = record { shards = []; are = tt; gives = refl }
reached kind possible [] t (o ∷ os) c = absurd c
reached kind possible (bound ∷ bounds) t os c =
    shard_reached kind possible bound bounds t.0 bound.null refl t.0.extremes.null (pairs_of_shards bounds)
    (λ os c. reached kind (λ i. possible (suc i)) bounds t.1 os c) os c

-- a word that admits what occurs, and occurs where it says possibly
word_right : {W : Type 0} (IsWorld : W → Type 0) (answer_in : W → Option ℤ) (bound : Bound) (w : Nullity) → bound.null ≡ w →
    ((world : W) → IsWorld world → Admits bound (answer_in world)) → (w ≡ Possibly → Occurs IsWorld answer_in None) → WordIsRight IsWorld answer_in w
word_right IsWorld answer_in bound Never e admits some = λ world h is. subst (Admits bound) is (admits world h) e
word_right IsWorld answer_in bound Possibly e admits some = some refl
word_right IsWorld answer_in bound Always e admits some = λ world h. only_none (answer_in world) (admits world h)
  where
    only_none : (a : Option ℤ) → Admits bound a → a ≡ None
    only_none None h = refl
    only_none (Some v) h = absurd (h.0 e)

possibly_occurs : (w : Nullity) (ps : List Pair) (answer_of : List (Option ℤ) → Option ℤ) → WordIsRight (AreEndOutcomes ps) answer_of w → w ≡ Possibly → Occurs (AreEndOutcomes ps) answer_of None
possibly_occurs w ps answer_of told e = subst (WordIsRight (AreEndOutcomes ps) answer_of) e told

module _ (kind : ItemKind) (not_avg : kind ≢ Avg) (possible : ℕ → List ℤ → Type 0) (bounds : List Bound) (tight : AreTightShards kind possible bounds) (over : (shards : List (List ℤ)) → answer kind (answers kind shards) ≡ answer_over kind shards) where
  -- what occurs for ends occurs for the shards
  occurs : (a : Option ℤ) → Occurs (AreEndOutcomes (pairs_of_shards bounds)) (λ os. answer kind (present os)) a → Occurs (AreChoices possible bounds) (answer_over kind) a
  occurs a (os, c, is) =
      let found = reached kind possible bounds tight os c in
      (found.shards, found.are, sym (over found.shards) ∙ ap (answer kind) found.gives ∙ is)

  pub rows_are_extremes : ((shards : List (List ℤ)) → AreChoices possible bounds shards → Admits (bound_of kind (pairs_of_shards bounds)) (answer_over kind shards)) →
      IsExtremes (AreChoices possible bounds) (answer_over kind) (bound_of kind (pairs_of_shards bounds))
  rows_are_extremes admits =
      let law = (bounds_are_extremes_of_lists kind (pairs_of_shards bounds) not_avg (tight_pairs kind possible bounds tight)).1 in
      record {
        admits = admits;
        null = word_right (AreChoices possible bounds) (answer_over kind) (bound_of kind (pairs_of_shards bounds)) (bound_of kind (pairs_of_shards bounds)).null refl admits
            (λ e. occurs None (possibly_occurs (bound_of kind (pairs_of_shards bounds)).null (pairs_of_shards bounds) (λ os. answer kind (present os)) law.null e));
        lo = λ w. occurs _ (law.lo w);
        hi = λ w. occurs _ (law.hi w);
      }

-- numbers of rows

-- a count is never NULL, so its bound has ends that occur
counted : (IsPossible : List ℤ → Type 0) (bound : Bound) → IsTightShard Count IsPossible bound → bound.null ≢ Always
counted IsPossible bound t = (t.extremes.admits t.some.0 t.some.1).0

some_number : (x y : ℤ) → ◌≡◌ {A = Option ℤ} (Some x) (Some y) → x ≡ y
some_number x y e = cc

counts_at_low : (possible : ℕ → List ℤ → Type 0) (bounds : List Bound) → AreTightShards Count possible bounds →
    (shards : List (List ℤ)) × AreChoices possible bounds shards × (pos (length (together shards)) ≡ total (map (λ b. b.lo) bounds))
counts_at_low possible [] t = ([], tt, refl)
counts_at_low possible (bound ∷ bounds) t =
    let here = t.0.extremes.lo (counted (possible 0) bound t.0) in
    let rest = counts_at_low (λ i. possible (suc i)) bounds t.1 in
    let long = length-append here.0 (together rest.0) in
    let first = some_number (pos (length here.0)) bound.lo here.2 in
    let others = rest.2 in
    (here.0 ∷ rest.0, (here.1, rest.1), omega (arith, ints))

counts_at_high : (possible : ℕ → List ℤ → Type 0) (bounds : List Bound) → AreTightShards Count possible bounds →
    (shards : List (List ℤ)) × AreChoices possible bounds shards × (pos (length (together shards)) ≡ total (map (λ b. b.hi) bounds))
counts_at_high possible [] t = ([], tt, refl)
counts_at_high possible (bound ∷ bounds) t =
    let here = t.0.extremes.hi (counted (possible 0) bound t.0) in
    let rest = counts_at_high (λ i. possible (suc i)) bounds t.1 in
    let long = length-append here.0 (together rest.0) in
    let first = some_number (pos (length here.0)) bound.hi here.2 in
    let others = rest.2 in
    (here.0 ∷ rest.0, (here.1, rest.1), omega (arith, ints))

-- where the bound of each shard is the extremes over what is possible for it, the bound over all shards is the extremes over all choices.
-- It speaks of any sets, so it is no statement of Type 0, and stands here and not among the laws
pub combinations_are_extremes : (kind : ItemKind) (possible : ℕ → List ℤ → Type 0) (bounds : List Bound) →
    kind ≢ Avg → AreTightShards kind possible bounds → IsExtremes (AreChoices possible bounds) (answer_over kind) (combined kind bounds)
combinations_are_extremes Count possible bounds k t =
    let low = counts_at_low possible bounds t in
    let high = counts_at_high possible bounds t in
    record {
      admits = λ shards c. combinations_contain Count bounds shards k (choice_admitted Count possible bounds shards t c);
      null = λ shards c e. cc;
      lo = λ w. (low.0, low.1, ap (λ n. Some n) low.2);
      hi = λ w. (high.0, high.1, ap (λ n. Some n) high.2);
    }
combinations_are_extremes Sum possible bounds k t =
    rows_are_extremes Sum k possible bounds t sum_over (λ shards c. combinations_contain Sum bounds shards k (choice_admitted Sum possible bounds shards t c))
combinations_are_extremes Min possible bounds k t =
    rows_are_extremes Min k possible bounds t min_over (λ shards c. combinations_contain Min bounds shards k (choice_admitted Min possible bounds shards t c))
combinations_are_extremes Max possible bounds k t =
    rows_are_extremes Max k possible bounds t max_over (λ shards c. combinations_contain Max bounds shards k (choice_admitted Max possible bounds shards t c))
combinations_are_extremes Avg possible bounds k t = absurd (k refl)
