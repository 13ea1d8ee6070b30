-- A walk over a list that has an element for each item: those behind the place are done, the rest are as they were.
use Rattle.std.proofs.Common.{◌≡◌, ℕ, ◌+◌, ◌<◌, ◌≤◌, List, length, length-set, set, slice_get, Some, inl, inr, sym, subst, ◌∙◌, arith}
use Rattle.std.proofs.lemmas.Bool.{cases_eq}
use Rattle.std.proofs.lemmas.Option.{same_Some, slice_get_within}
use Rattle.aggregates.proofs.Adding.{set_at, set_elsewhere}
use Rattle.query_model.specs.Queries.{Aggregate}
use Rattle.round_engine.specs.Totals.{AreEach}

pub record Walks {X : Type 0} (Before After : ℕ → Aggregate → X → Type 0) (items : List Aggregate) (xs : List X) (i : ℕ) : Type 0 where
  pub count : length xs ≡ length items
  pub done : (j : ℕ) (item : Aggregate) (x : X) → j < i → slice_get items j ≡ Some item → slice_get xs j ≡ Some x → After j item x
  pub rest : (j : ℕ) (item : Aggregate) (x : X) → i ≤ j → slice_get items j ≡ Some item → slice_get xs j ≡ Some x → Before j item x

module _ {X : Type 0} (Before After : ℕ → Aggregate → X → Type 0) (items : List Aggregate) (xs : List X) where
  pub walk_start : AreEach Before items xs → Walks Before After items xs 0
  walk_start each = record {
    count = each.count;
    done = λ j a b below at_a at_b. absurd (omega arith);
    rest = λ j a b later at_a at_b. each.each j a b at_a at_b;
  }

  pub walk_end : (i : ℕ) → length items ≤ i → Walks Before After items xs i → AreEach After items xs
  walk_end i past walk = record {
    count = walk.count;
    each = λ j a b at_a at_b. walk.done j a b (let within = slice_get_within items j a at_a in omega arith) at_a at_b;
  }

  -- an element is replaced
  pub walk_set : (i : ℕ) (item : Aggregate) (x : X) → slice_get items i ≡ Some item → After i item x → Walks Before After items xs i → Walks Before After items (set xs i x) (i + 1)
  walk_set i item x there after walk =
      let within = slice_get_within items i item there in
      let count = walk.count in
      record {
        count = length-set xs i x ∙ walk.count;
        done = λ j a b below at_a at_b. elim (cases_eq j i) [
          | inl here ↦
              (let at_item : slice_get items i ≡ Some a = subst (λ k. slice_get items k ≡ Some a) here at_a in
              let at_x : slice_get (set xs i x) i ≡ Some b = subst (λ k. slice_get (set xs i x) k ≡ Some b) here at_b in
              let same_item : item ≡ a = same_Some item a (sym there ∙ at_item) in
              let same_x : x ≡ b = same_Some x b (sym (set_at xs i x (omega arith)) ∙ at_x) in
              subst (λ k. After k a b) (sym here) (subst (After i a) same_x (subst (λ v. After i v x) same_item after)))
          | inr other ↦ walk.done j a b (omega (arith, other)) at_a (sym (set_elsewhere xs i j x other) ∙ at_b)
        ];
        rest = λ j a b later at_a at_b. walk.rest j a b (omega arith) at_a (sym (set_elsewhere xs i j x (λ same. omega (arith, same, later))) ∙ at_b);
      }

  -- an element stays, since it is as it has to become
  pub walk_keep : (i : ℕ) → ((item : Aggregate) (x : X) → slice_get items i ≡ Some item → Before i item x → After i item x) → Walks Before After items xs i → Walks Before After items xs (i + 1)
  walk_keep i stays walk = record {
    count = walk.count;
    done = λ j a b below at_a at_b. elim (cases_eq j i) [
      | inl here ↦
          (let at_item : slice_get items i ≡ Some a = subst (λ k. slice_get items k ≡ Some a) here at_a in
          let before : Before i a b = subst (λ k. Before k a b) here (walk.rest j a b (omega (arith, here)) at_a at_b) in
          subst (λ k. After k a b) (sym here) (stays a b at_item before))
      | inr other ↦ walk.done j a b (omega (arith, other)) at_a at_b
    ];
    rest = λ j a b later at_a at_b. walk.rest j a b (omega arith) at_a at_b;
  }
