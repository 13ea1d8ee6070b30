-- Elements of lists, by their places.
use Rattle.std.proofs.Common.{◌≡◌, ℕ, ◌+◌, ◌<◌, Bool, false, List, length, get_or, set, slice_get, Some, ap, ◌∙◌, arith, inl, inr, sym, subst}
use Rattle.std.proofs.lemmas.Bool.{cases_eq}
use Rattle.std.proofs.lemmas.List.{get_or-set_same, get_or-set_other}
use Rattle.std.proofs.lemmas.Option.{same_Some, slice_get-get_or}
use Rattle.query_model.specs.Queries.{Aggregate}
use Rattle.round_engine.specs.Moves.{is_marked}

-- what is read at a place within a list is there
pub read_there : {X : Type 0} (xs read : List X) (i : ℕ) (x : X) → i < length xs → read ≡ xs → x ≡ get_or read i x → slice_get xs i ≡ Some x
read_there xs read i x within same is = slice_get-get_or xs i x within ∙ ap Some (sym (is ∙ ap (λ ys. get_or ys i x) same))

-- one more item has the mark that it has to have
pub marked_more : (want : ℕ → Aggregate → Bool) (items : List Aggregate) (marks : List Bool) (i : ℕ) (item : Aggregate) (mark : Bool) → i < length marks → slice_get items i ≡ Some item → mark ≡ want i item →
    ((j : ℕ) (a : Aggregate) → j < i → slice_get items j ≡ Some a → is_marked marks j ≡ want j a) →
    (j : ℕ) (a : Aggregate) → j < i + 1 → slice_get items j ≡ Some a → is_marked (set marks i mark) j ≡ want j a
marked_more want items marks i item mark within there is before j a below at =
    elim (cases_eq j i) [
      | inl here ↦
          (let same : item ≡ a = same_Some item a (sym there ∙ subst (λ k. slice_get items k ≡ Some a) here at) in
          subst (λ k. is_marked (set marks i mark) k ≡ want k a) (sym here) (get_or-set_same marks i mark false within ∙ is ∙ ap (want i) same))
      | inr other ↦ get_or-set_other marks i j mark false other ∙ before j a (omega (arith, other)) at
    ]
