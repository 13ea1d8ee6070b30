-- How many rows of a ranked list come before a mark.
use Rattle.std.proofs.Common.{◌≡◌, ℕ, zero, suc, ◌≤◌, Bool, true, false, ◌&&◌, cond, List, [], ◌∷◌, length, get_or, refl, sym, ap, ◌∙◌, arith, inl, inr, Bor}
use Rattle.std.specs.declared.cmp.Ordering.{Ordering}
use Rattle.std.specs.declared.cmp.Ordering.TheVariants.{Less, Equal, Greater}
use Rattle.std.specs.List.{count_by, filter}
use Rattle.std.specs.List.Sorted.{IsPartitionPoint, IsPartitionedBy, IsPermutation, IsSortedBy}
use Rattle.std.specs.Cmp.{IsStrictWeakOrder}
use Rattle.std.specs.Fn.{Called, ComparesAs, Mut}
use Rattle.std.specs.Ordering.{is_gt, is_lt, ordering_reverse}
use Rattle.std.proofs.lemmas.Fn.{always_returns_same}
use Rattle.std.proofs.lemmas.Bool.{cases_Bool, true≢false}
use Rattle.std.proofs.lemmas.List.Sorted.{ranks_by, sorted_far, sum_by-IsPermutation}
use Rattle.part_rows.specs.declared.row.End.{End}
use Rattle.part_rows.specs.declared.row.PartRow.{PartRow}
use Rattle.part_rows.specs.Marks.{Mark, comes_before, mark_at, mark_cmp}
use Rattle.part_rows.specs.Ranked.{AreRankedBy, rows_behind}
use Rattle.part_rows.proofs.Counts.{as_number, step}
use Rattle.part_rows.proofs.Orders.{mark_total, up_to_before}

-- as many pass as there are ahead of the first that fails, where none behind it passes
pub count_at_point : {X : Type 0} (p : X → Bool) (xs : List X) (i : ℕ) → i ≤ length xs →
    IsPartitionPoint (λ y. p y ≡ true) (λ y. p y ≡ false) xs i → i ≡ count_by p xs
count_at_point p [] i short point = omega (arith, short)
count_at_point p (x ∷ xs) zero short point =
    omega (
      arith,
      step p x xs,
      ap as_number (point.1 0 x (omega arith) (omega arith)),
      count_at_point p xs zero (omega arith)
          ((λ k d a b. absurd (omega (arith, b))), (λ k d a b. point.1 (suc k) d (omega arith) (omega (arith, b)))),
    )
count_at_point p (x ∷ xs) (suc i) short point =
    omega (
      arith,
      step p x xs,
      ap as_number (point.0 0 x (omega arith) (omega arith)),
      count_at_point p xs i (omega (arith, short))
          ((λ k d a b. point.0 (suc k) d (omega arith) (omega (arith, b))), (λ k d a b. point.1 (suc k) d (omega (arith, a)) (omega (arith, b)))),
    )

not_behind : (o p : Ordering) → o ≡ ordering_reverse p → is_lt p ≡ false → is_gt o ≡ false
not_behind o Less e f = absurd (true≢false f)
not_behind o Equal e f = ap is_gt e
not_behind o Greater e f = ap is_gt e

-- the mark of a row in the list
abbrev mark_of : Bool → End → Bor PartRow → Mark
mark_of down end row = mark_at down end row.now

pub is_parted : (down : Bool) (end : End) (rows : List (Bor PartRow)) (mark : Mark) → AreRankedBy down end rows →
    IsPartitionedBy (λ y. comes_before down (mark_at down end y.now) mark) rows
is_parted down end rows mark up i j d a b t =
    let far = sorted_far (λ x y. comes_before down (mark_of down end x) (mark_of down end y)) (ranks_by (mark_total down) (mark_of down end)) rows up i j d a b in
    let first = mark_of down end (get_or rows i d) in
    let second = mark_of down end (get_or rows j d) in
    up_to_before down first second mark
    (not_behind (mark_cmp down first second) (mark_cmp down second first) ((mark_total down).antisymm first second) far) t

-- from what a sort ensures, where each call compares the marks of two rows
pub is_ranked : (down : Bool) (end : End) {F : Type 0} {g : Mut F (Bor (Bor PartRow) × (Bor (Bor PartRow) × Unit {0})) Ordering} {f : F}
    (rows : List (Bor PartRow)) → ((lt : Bor PartRow → Bor PartRow → Bool) → IsStrictWeakOrder lt → ComparesAs g lt f → IsSortedBy lt rows) →
    ((a : Bor (Bor PartRow) × (Bor (Bor PartRow) × Unit {0})) (r : Ordering) (f' : F) → Called g f a r f' →
    (r ≡ mark_cmp down (mark_of down end a.0.now) (mark_of down end a.1.0.now)) × (f' ≡ f)) → AreRankedBy down end rows
is_ranked down end {g = g} {f = f} rows sorted calls =
    sorted (λ a b. comes_before down (mark_of down end a) (mark_of down end b)) (ranks_by (mark_total down) (mark_of down end))
    (always_returns_same g (λ a r. is_lt r ≡ comes_before down (mark_of down end a.0.now) (mark_of down end a.1.0.now)) f
    (λ a r f' k. (ap is_lt (calls a r f' k).0, (calls a r f' k).1)))

pub count_behind : (test : PartRow → Bool) (rows : List (Bor PartRow)) → count_by test (rows_behind rows) ≡ count_by (λ y. test y.now) rows
count_behind test [] = refl
count_behind test (row ∷ rows) =
    omega (arith, step test row.now (rows_behind rows), step (λ y. test y.now) row rows, count_behind test rows)

pub count_filtered : {X : Type 0} (p q : X → Bool) (rows : List X) → count_by q (filter p rows) ≡ count_by (λ y. p y && q y) rows
count_filtered p q [] = refl
count_filtered p q (row ∷ rows) =
    elim (cases_Bool (p row)) [
      | inl t ↦
          ap (λ b. count_by q (cond b (row ∷ filter p rows) (filter p rows))) t
          ∙ omega (arith, step q row (filter p rows), count_filtered p q rows, step (λ y. p y && q y) row rows, both_alike t)
      | inr f ↦
          ap (λ b. count_by q (cond b (row ∷ filter p rows) (filter p rows))) f
          ∙ omega (arith, count_filtered p q rows, step (λ y. p y && q y) row rows, both_alike f)
    ]
  where
    both_alike : {b : Bool} → p row ≡ b → as_number (p row && q row) ≡ as_number (b && q row)
    both_alike e = ap (λ b. as_number (b && q row)) e

pub count_alike : (test : PartRow → Bool) (rows others : List PartRow) → IsPermutation rows others → count_by test rows ≡ count_by test others
count_alike test rows others p = sym (sum_by-IsPermutation (λ z. cond (test z) 1 0) rows others p)
