-- Numbers of rows, added up over the rows of a mask.
use Rattle.std.proofs.Common.{◌≡◌, ℕ, suc, ◌+◌, ℤ, pos, ◌+ℤ◌, ◌-ℤ◌, ◌*ℤ◌, ◌≤ℤ◌, Bool, true, false, ◌&&◌, cond, List, [], ◌∷◌, ◌++◌, length, map, count_by, IsTrue, refl, ap, sym, ◌∙◌, arith}
use Rattle.std.specs.Simd.Lanes.{zip2}
use Rattle.std.proofs.lemmas.Int.{ints}
use Rattle.std.proofs.lemmas.List.Sums.{sum_by-cons}
use Rattle.std.proofs.Math.IntN.{*ℤ-zero}
use Rattle.query_model.specs.Answers.{total}
use Rattle.aggregates.specs.Selections.{has_row, rows_in}
use Rattle.aggregates.proofs.MaskSums.{first_row}
use Rattle.product_sums.specs.Products.{sum_over}
use Rattle.product_sums.proofs.Distributing.{times_sum}

-- the same numbers
pub over_same : (mask : List Bool) (f g : ℕ → ℤ) → ((i : ℕ) → IsTrue (has_row mask i) → f i ≡ g i) → sum_over mask f ≡ sum_over mask g
over_same [] f g each = refl
over_same (true ∷ mask) f g each =
    ap (λ z. z +ℤ sum_over mask (λ r. f (suc r))) (each 0 refl)
    ∙ ap (λ z. g 0 +ℤ z) (over_same mask (λ r. f (suc r)) (λ r. g (suc r)) (λ i has. each (suc i) has))
over_same (false ∷ mask) f g each = ap (λ z. pos 0 +ℤ z) (over_same mask (λ r. f (suc r)) (λ r. g (suc r)) (λ i has. each (suc i) has))

added_first : (b : Bool) (x y u v : ℤ) → cond b (x +ℤ y) (pos 0) +ℤ (u +ℤ v) ≡ (cond b x (pos 0) +ℤ u) +ℤ (cond b y (pos 0) +ℤ v)
added_first true x y u v = omega (arith, ints)
added_first false x y u v = omega (arith, ints)

-- sums, differences and multiples
pub over_sum : (mask : List Bool) (f g : ℕ → ℤ) → sum_over mask (λ i. f i +ℤ g i) ≡ sum_over mask f +ℤ sum_over mask g
over_sum [] f g = omega (arith, ints)
over_sum (b ∷ mask) f g =
    ap (λ z. cond b (f 0 +ℤ g 0) (pos 0) +ℤ z) (over_sum mask (λ r. f (suc r)) (λ r. g (suc r)))
    ∙ added_first b (f 0) (g 0) (sum_over mask (λ r. f (suc r))) (sum_over mask (λ r. g (suc r)))

taken_first : (b : Bool) (x y u v : ℤ) → cond b (x -ℤ y) (pos 0) +ℤ (u -ℤ v) ≡ (cond b x (pos 0) +ℤ u) -ℤ (cond b y (pos 0) +ℤ v)
taken_first true x y u v = omega (arith, ints)
taken_first false x y u v = omega (arith, ints)

pub over_difference : (mask : List Bool) (f g : ℕ → ℤ) → sum_over mask (λ i. f i -ℤ g i) ≡ sum_over mask f -ℤ sum_over mask g
over_difference [] f g = omega (arith, ints)
over_difference (b ∷ mask) f g =
    ap (λ z. cond b (f 0 -ℤ g 0) (pos 0) +ℤ z) (over_difference mask (λ r. f (suc r)) (λ r. g (suc r)))
    ∙ taken_first b (f 0) (g 0) (sum_over mask (λ r. f (suc r))) (sum_over mask (λ r. g (suc r)))

multiplied_first : (b : Bool) (k x u : ℤ) → cond b (k *ℤ x) (pos 0) +ℤ (k *ℤ u) ≡ k *ℤ (cond b x (pos 0) +ℤ u)
multiplied_first true k x u = sym (times_sum k x u)
multiplied_first false k x u = ap (λ z. z +ℤ (k *ℤ u)) (sym (*ℤ-zero k)) ∙ sym (times_sum k (pos 0) u)

pub over_multiple : (mask : List Bool) (k : ℤ) (f : ℕ → ℤ) → sum_over mask (λ i. k *ℤ f i) ≡ k *ℤ sum_over mask f
over_multiple [] k f = sym (*ℤ-zero k)
over_multiple (b ∷ mask) k f =
    ap (λ z. cond b (k *ℤ f 0) (pos 0) +ℤ z) (over_multiple mask k (λ r. f (suc r))) ∙ multiplied_first b k (f 0) (sum_over mask (λ r. f (suc r)))

-- only some rows of the mask
both_first : (b x : Bool) (z : ℤ) → cond (b && x) z (pos 0) ≡ cond b (cond x z (pos 0)) (pos 0)
both_first true x z = refl
both_first false x z = refl

pub over_both : (mask bits : List Bool) (f : ℕ → ℤ) → length bits ≡ length mask → sum_over (zip2 (λ a b. a && b) mask bits) f ≡ sum_over mask (λ i. cond (has_row bits i) (f i) (pos 0))
over_both [] [] f e = refl
over_both [] (x ∷ bits) f e = absurd (omega (arith, e))
over_both (b ∷ mask) [] f e = absurd (omega (arith, e))
over_both (b ∷ mask) (x ∷ bits) f e =
    ap (λ z. z +ℤ sum_over (zip2 (λ a b. a && b) mask bits) (λ r. f (suc r))) (both_first b x (f 0))
    ∙ ap (λ z. cond b (cond x (f 0) (pos 0)) (pos 0) +ℤ z) (over_both mask bits (λ r. f (suc r)) (omega (arith, e)))

-- rows of two masks, one behind the other
pub over_parts : (mask more : List Bool) (f : ℕ → ℤ) → sum_over (mask ++ more) f ≡ sum_over mask f +ℤ sum_over more (λ i. f (length mask + i))
over_parts [] more f = over_same more f (λ i. f (0 + i)) (λ i has. ap f (omega arith)) ∙ alone (sum_over more (λ i. f (0 + i)))
  where
    alone : (z : ℤ) → z ≡ pos 0 +ℤ z
    alone z = omega (arith, ints)
over_parts (b ∷ mask) more f =
    ap (λ z. cond b (f 0) (pos 0) +ℤ z) (over_parts mask more (λ r. f (suc r)))
    ∙ moved (cond b (f 0) (pos 0)) (sum_over mask (λ r. f (suc r))) (sum_over more (λ i. f (suc (length mask + i))))
    ∙ ap (λ z. (cond b (f 0) (pos 0) +ℤ sum_over mask (λ r. f (suc r))) +ℤ z) (over_same more (λ i. f (suc (length mask + i))) (λ i. f (suc (length mask) + i)) (λ i has. ap f (omega arith)))
  where
    moved : (x y z : ℤ) → x +ℤ (y +ℤ z) ≡ (x +ℤ y) +ℤ z
    moved x y z = omega (arith, ints)

-- how many rows there are
pub over_ones : (mask : List Bool) → sum_over mask (λ i. pos 1) ≡ pos (count_by (λ b. b) mask)
over_ones [] = refl
over_ones (b ∷ mask) =
    ap (λ z. cond b (pos 1) (pos 0) +ℤ z) (over_ones mask) ∙ counted b (count_by (λ b. b) mask) ∙ ap pos (sym (sum_by-cons (λ b. cond {A = ℕ} b 1 0) b mask))
  where
    counted : (b : Bool) (n : ℕ) → cond b (pos 1) (pos 0) +ℤ pos n ≡ pos (cond b 1 0 + n)
    counted true n = omega (arith, ints)
    counted false n = omega (arith, ints)

-- no row
pub over_none : (mask : List Bool) (f : ℕ → ℤ) → count_by (λ b. b) mask ≡ 0 → sum_over mask f ≡ pos 0
over_none [] f none = refl
over_none (true ∷ mask) f none = absurd (omega (arith, none, sum_by-cons (λ b. cond {A = ℕ} b 1 0) true mask))
over_none (false ∷ mask) f none = ap (λ z. pos 0 +ℤ z) (over_none mask (λ r. f (suc r)) (omega (arith, none, sum_by-cons (λ b. cond {A = ℕ} b 1 0) false mask)))

-- nothing of each row
pub over_nothing : (mask : List Bool) (f : ℕ → ℤ) → ((i : ℕ) → IsTrue (has_row mask i) → f i ≡ pos 0) → sum_over mask f ≡ pos 0
over_nothing mask f each = over_same mask f (λ i. pos 0) each ∙ zeros mask
  where
    zeros : (mask : List Bool) → sum_over mask (λ i. pos 0) ≡ pos 0
    zeros [] = refl
    zeros (true ∷ mask) = ap (λ z. pos 0 +ℤ z) (zeros mask)
    zeros (false ∷ mask) = ap (λ z. pos 0 +ℤ z) (zeros mask)

-- the numbers of the rows by their list
pub over_rows : (f : ℕ → ℤ) (mask : List Bool) → total (map f (rows_in mask)) ≡ sum_over mask f
over_rows f [] = refl
over_rows f (true ∷ mask) = ap total (first_row f true mask) ∙ ap (λ z. f 0 +ℤ z) (over_rows (λ r. f (suc r)) mask)
over_rows f (false ∷ mask) = ap total (first_row f false mask) ∙ over_rows (λ r. f (suc r)) mask ∙ alone (sum_over mask (λ r. f (suc r)))
  where
    alone : (z : ℤ) → z ≡ pos 0 +ℤ z
    alone z = omega (arith, ints)

-- numbers between two others, one of them not above 0 and the other not below, add up to no more than so many times these
pub over_between : (mask : List Bool) (f : ℕ → ℤ) (low high : ℤ) → low ≤ℤ pos 0 → pos 0 ≤ℤ high → ((i : ℕ) → IsTrue (has_row mask i) → (low ≤ℤ f i) × (f i ≤ℤ high)) →
    ((pos (length mask) *ℤ low) ≤ℤ sum_over mask f) × (sum_over mask f ≤ℤ (pos (length mask) *ℤ high))
over_between [] f low high below above each = (omega (arith, ints), omega (arith, ints))
over_between (true ∷ mask) f low high below above each =
    let here = each 0 refl in
    let rest = over_between mask (λ r. f (suc r)) low high below above (λ i has. each (suc i) has) in
    step (length mask) (f 0) (sum_over mask (λ r. f (suc r))) low high here.0 here.1 rest.0 rest.1
  where
    step : (n : ℕ) (x s low high : ℤ) → low ≤ℤ x → x ≤ℤ high → (pos n *ℤ low) ≤ℤ s → s ≤ℤ (pos n *ℤ high) → ((pos (suc n) *ℤ low) ≤ℤ (x +ℤ s)) × ((x +ℤ s) ≤ℤ (pos (suc n) *ℤ high))
    step n x s low high a b c d = (omega (arith, ints), omega (arith, ints))
over_between (false ∷ mask) f low high below above each =
    let rest = over_between mask (λ r. f (suc r)) low high below above (λ i has. each (suc i) has) in
    step (length mask) (sum_over mask (λ r. f (suc r))) low high below above rest.0 rest.1
  where
    step : (n : ℕ) (s low high : ℤ) → low ≤ℤ pos 0 → pos 0 ≤ℤ high → (pos n *ℤ low) ≤ℤ s → s ≤ℤ (pos n *ℤ high) → ((pos (suc n) *ℤ low) ≤ℤ (pos 0 +ℤ s)) × ((pos 0 +ℤ s) ≤ℤ (pos (suc n) *ℤ high))
    step n s low high a b c d = (omega (arith, ints), omega (arith, ints))
