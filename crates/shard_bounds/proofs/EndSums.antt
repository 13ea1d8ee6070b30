-- Sums and extremes of ends.
use Rattle.std.proofs.Common.{◌≡◌, ℕ, ◌+◌, ◌<◌, ℤ, ◌+ℤ◌, List, length, get_or, drop, refl, arith, sym, ap, ◌∙◌, Option, Some, None}
use Rattle.std.specs.List.{cons_option}
use Rattle.std.proofs.lemmas.Int.{ints}
use Rattle.std.proofs.lemmas.List.{drop_more}
use Rattle.query_model.specs.declared.bounds.Bound.{Bound}
use Rattle.query_model.specs.Answers.{total}
use Rattle.query_model.proofs.ListBounds.{or_zero}
use Rattle.shard_bounds.specs.declared.ends.End.{End}
use Rattle.shard_bounds.specs.Ends.{end_of, ends_of}

total-cons_option : (o : Option ℤ) (xs : List ℤ) → total (cons_option o xs) ≡ or_zero o +ℤ total xs
total-cons_option None xs = omega (arith, ints)
total-cons_option (Some x) xs = refl

total-drop : (end : End) (bounds : List Bound) (i : ℕ) (d : Bound) (o : Option ℤ) → i < length bounds → o ≡ end_of end (get_or bounds i d) →
    total (ends_of end (drop i bounds)) ≡ or_zero o +ℤ total (ends_of end (drop (i + 1) bounds))
total-drop end bounds i d o h e =
    ap (λ bs. total (ends_of end bs)) (drop_more bounds i d h)
    ∙ ap (λ o. total (cons_option o (ends_of end (drop (i + 1) bounds)))) (sym e)
    ∙ total-cons_option o (ends_of end (drop (i + 1) bounds))

-- a sum so far and the sum of what is left, one end on
pub total_more : (end : End) (bounds : List Bound) (i : ℕ) (d : Bound) (o : Option ℤ) (before after whole : ℤ) → i < length bounds → o ≡ end_of end (get_or bounds i d) →
    before +ℤ total (ends_of end (drop i bounds)) ≡ whole → after ≡ before +ℤ or_zero o → after +ℤ total (ends_of end (drop (i + 1) bounds)) ≡ whole
total_more end bounds i d o before after whole h e inv next =
    let left = total-drop end bounds i d o h e in
    omega (arith, ints)
