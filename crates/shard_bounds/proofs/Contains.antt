-- The bound over all shards admits the answer over all.
use Rattle.std.proofs.Common.{◌≡◌, ◌≢◌, ℤ, pos, ◌≤ℤ◌, List, [], ◌∷◌, refl, arith, map, length, subst, ap, ◌∙◌, Option, Some, None}
use Rattle.std.specs.List.{cons_option}
use Rattle.std.proofs.lemmas.Int.{ints}
use Rattle.query_model.specs.declared.bounds.Bound.{Bound}
use Rattle.query_model.specs.declared.bounds.Nullity.{Nullity}
use Rattle.query_model.specs.declared.bounds.Nullity.TheVariants.{Never, Possibly, Always}
use Rattle.query_model.specs.declared.query.ItemKind.{ItemKind}
use Rattle.query_model.specs.declared.query.ItemKind.TheVariants.{Count, Sum, Min, Max, Avg}
use Rattle.query_model.specs.Answers.{total, answer}
use Rattle.query_model.specs.Bounds.{Admits, Pair, bound_of}
use Rattle.query_model.specs.Laws.{AreOutcomes, present}
use Rattle.query_model.proofs.ListExtremes.{admits_choice}
use Rattle.shard_bounds.specs.Combined.{together, answer_over, pair_by_word, pairs_of_shards}
use Rattle.shard_bounds.specs.Laws.{AreAdmitted, CombinationsContain}
use Rattle.shard_bounds.proofs.Answers.{answers, length-append, sum_over, min_over, max_over}

-- an outcome for each pair, and the same values
pub record Chosen (ps : List Pair) (given : List ℤ) : Type 0 where
  pub outcomes : List (Option ℤ)
  pub are : AreOutcomes ps outcomes
  pub values : present outcomes ≡ given

-- the answer of a shard is an outcome of its pair
outcome_more : (w : Nullity) (lo hi : ℤ) (a : Option ℤ) (ps : List Pair) (values : List ℤ) →
    Admits (record { null = w; lo = lo; hi = hi }) a → Chosen ps values → Chosen (cons_option (pair_by_word w lo hi) ps) (cons_option a values)
outcome_more Never lo hi None ps values h rest = absurd (h refl)
outcome_more Never lo hi (Some v) ps values h rest =
    record { outcomes = Some v ∷ rest.outcomes; are = ((h.1, h.2), rest.are); values = ap (λ vs. v ∷ vs) rest.values }
outcome_more Possibly lo hi None ps values h rest =
    record { outcomes = None ∷ rest.outcomes; are = (refl, rest.are); values = rest.values }
outcome_more Possibly lo hi (Some v) ps values h rest =
    record { outcomes = Some v ∷ rest.outcomes; are = ((h.1, h.2), rest.are); values = ap (λ vs. v ∷ vs) rest.values }
outcome_more Always lo hi None ps values h rest = rest
outcome_more Always lo hi (Some v) ps values h rest = absurd (h.0 refl)

answers_chosen : (kind : ItemKind) (bounds : List Bound) (shards : List (List ℤ)) → AreAdmitted kind bounds shards → Chosen (pairs_of_shards bounds) (answers kind shards)
answers_chosen kind [] [] h = record { outcomes = []; are = tt; values = refl }
answers_chosen kind [] (values ∷ shards) h = absurd h
answers_chosen kind (bound ∷ bounds) [] h = absurd h
answers_chosen kind (bound ∷ bounds) (values ∷ shards) h =
    outcome_more bound.null bound.lo bound.hi (answer kind values) (pairs_of_shards bounds) (answers kind shards) h.0 (answers_chosen kind bounds shards h.1)

-- the bound of the shards as rows admits the answer over all
rows_contain : (kind : ItemKind) (bounds : List Bound) (shards : List (List ℤ)) → kind ≢ Avg →
    answer kind (answers kind shards) ≡ answer_over kind shards → AreAdmitted kind bounds shards → Admits (bound_of kind (pairs_of_shards bounds)) (answer_over kind shards)
rows_contain kind bounds shards k e h =
    let chosen = answers_chosen kind bounds shards h in
    subst (Admits (bound_of kind (pairs_of_shards bounds))) (ap (answer kind) chosen.values ∙ e)
    (admits_choice kind (pairs_of_shards bounds) chosen.outcomes k chosen.are)

-- numbers of rows add up
counts_contain : (bounds : List Bound) (shards : List (List ℤ)) → AreAdmitted Count bounds shards →
    (total (map (λ b. b.lo) bounds) ≤ℤ pos (length (together shards))) × (pos (length (together shards)) ≤ℤ total (map (λ b. b.hi) bounds))
counts_contain [] [] h = (omega (arith, ints), omega (arith, ints))
counts_contain [] (values ∷ shards) h = absurd h
counts_contain (bound ∷ bounds) [] h = absurd h
counts_contain (bound ∷ bounds) (values ∷ shards) h =
    let rest = counts_contain bounds shards h.1 in
    let low = rest.0 in
    let high = rest.1 in
    let here = h.0.1 in
    let there = h.0.2 in
    let long = length-append values (together shards) in
    (omega (arith, ints), omega (arith, ints))

pub combinations_contain : CombinationsContain
combinations_contain Count bounds shards k h = (let ends = counts_contain bounds shards h in ((λ e. cc), ends.0, ends.1))
combinations_contain Sum bounds shards k h = rows_contain Sum bounds shards k (sum_over shards) h
combinations_contain Min bounds shards k h = rows_contain Min bounds shards k (min_over shards) h
combinations_contain Max bounds shards k h = rows_contain Max bounds shards k (max_over shards) h
combinations_contain Avg bounds shards k h = absurd (k refl)
