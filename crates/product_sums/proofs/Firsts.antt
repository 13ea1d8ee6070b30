-- A product by its first factor: a number, a sum, a difference or a product.
use Rattle.std.proofs.Common.{◌≡◌, ℕ, ◌+◌, ◌*◌, ◌<◌, ℤ, pos, ◌+ℤ◌, ◌-ℤ◌, ◌*ℤ◌, Bool, ◌&&◌, true, List, [], ◌∷◌, length, count_by, IsTrue, refl, ap, sym, ◌∙◌, arith}
use Rattle.aggregates.specs.declared.ends.End.{End}
use Rattle.aggregates.specs.declared.ends.End.TheVariants.{Low, High}
use Rattle.aggregates.specs.Selections.{end_of, has_row}
use Rattle.aggregates.proofs.BlockWords.{row_within}
use Rattle.interval_calc.specs.Intervals.{only}
use Rattle.known_column.specs.KnownTables.{KnownTable}
use Rattle.query_model.specs.Knowledge.{ranges_of}
use Rattle.query_model.specs.Queries.{Term, Literal, Add, Sub, Mul, term_of}
use Rattle.query_model.specs.Truths.{span_of}
use Rattle.product_sums.specs.declared.factors.Factor.{Factor}
use Rattle.product_sums.specs.Products.{CanMultiply, end_beside, has_signs, is_never_negative, keeps_sign, other_end, product_at, sum_of_products, term_end}
use Rattle.product_sums.proofs.Distributing.{difference_times, product_times, sum_times, swapped}
use Rattle.product_sums.proofs.Multiplying.{both_true}
use Rattle.product_sums.proofs.RowSums.{over_difference, over_multiple, over_ones, over_same, over_sum}
use Rattle.product_sums.proofs.TermEnds.{end_of_difference, end_of_sum, product_end}

-- without a factor each row counts once
pub empty_sum : (table : KnownTable) (block : ℕ) (rows : List Bool) (fs : List Factor) → length fs < 1 → sum_of_products table block rows fs ≡ pos (count_by (λ b. b) rows)
empty_sum table block rows [] few = over_ones rows
empty_sum table block rows (f ∷ fs) few = absurd (omega (arith, few))

pub only_end : (e : End) (n : ℤ) → end_of e (only n) ≡ n
only_end Low n = refl
only_end High n = refl

module _ (table : KnownTable) (block : ℕ) (rows : List Bool) (fs : List Factor) where
  abbrev product : ℕ → ℤ
  product i = product_at table fs (512 * block + i)

  abbrev end_there : End → Term → ℕ → ℤ
  end_there e t i = term_end table e t (512 * block + i)

  abbrev total_of : List Factor → ℤ
  total_of factors = sum_of_products table block rows factors

  pub literal_sum : (f : Factor) (n : ℤ) → term_of f.term.now ≡ Literal n → total_of (f ∷ fs) ≡ n *ℤ total_of fs
  literal_sum f n is =
      over_same rows (λ i. end_there f.end (term_of f.term.now) i *ℤ product i) (λ i. n *ℤ product i) (λ i has. ap (λ z. z *ℤ product i) (ap (λ t. end_there f.end t i) is ∙ only_end f.end n))
      ∙ over_multiple rows n product

  -- a sum, whose parts are g and h
  pub add_sum : (f g h : Factor) (a b : Term) → term_of f.term.now ≡ Add a b → term_of g.term.now ≡ a → term_of h.term.now ≡ b → g.end ≡ f.end → h.end ≡ f.end → total_of (f ∷ fs) ≡ total_of (g ∷ fs) +ℤ total_of (h ∷ fs)
  add_sum f g h a b is is_a is_b same_a same_b =
      let left : ℕ → ℤ = λ i. end_there g.end (term_of g.term.now) i in
      let right : ℕ → ℤ = λ i. end_there h.end (term_of h.term.now) i in
      over_same rows (λ i. end_there f.end (term_of f.term.now) i *ℤ product i) (λ i. (left i *ℤ product i) +ℤ (right i *ℤ product i))
      (λ i has.
      ap (λ z. z *ℤ product i) (ap (λ t. end_there f.end t i) is ∙ end_of_sum f.end (span_of a (ranges_of table.frame table.known (512 * block + i))) (span_of b (ranges_of table.frame table.known (512 * block + i)))
      ∙ ap (λ z. z +ℤ end_there f.end b i) (ap (λ t. end_there f.end t i) (sym is_a) ∙ ap (λ e. end_there e (term_of g.term.now) i) (sym same_a))
      ∙ ap (λ z. left i +ℤ z) (ap (λ t. end_there f.end t i) (sym is_b) ∙ ap (λ e. end_there e (term_of h.term.now) i) (sym same_b)))
      ∙ sum_times (left i) (right i) (product i))
      ∙ over_sum rows (λ i. left i *ℤ product i) (λ i. right i *ℤ product i)

  -- a difference
  pub sub_sum : (f g h : Factor) (a b : Term) → term_of f.term.now ≡ Sub a b → term_of g.term.now ≡ a → term_of h.term.now ≡ b → g.end ≡ f.end → h.end ≡ other_end f.end →
      total_of (f ∷ fs) ≡ total_of (g ∷ fs) -ℤ total_of (h ∷ fs)
  sub_sum f g h a b is is_a is_b same_a same_b =
      let left : ℕ → ℤ = λ i. end_there g.end (term_of g.term.now) i in
      let right : ℕ → ℤ = λ i. end_there h.end (term_of h.term.now) i in
      over_same rows (λ i. end_there f.end (term_of f.term.now) i *ℤ product i) (λ i. (left i *ℤ product i) -ℤ (right i *ℤ product i))
      (λ i has.
      ap (λ z. z *ℤ product i) (ap (λ t. end_there f.end t i) is ∙ end_of_difference f.end (span_of a (ranges_of table.frame table.known (512 * block + i))) (span_of b (ranges_of table.frame table.known (512 * block + i)))
      ∙ ap (λ z. z -ℤ end_there (other_end f.end) b i) (ap (λ t. end_there f.end t i) (sym is_a) ∙ ap (λ e. end_there e (term_of g.term.now) i) (sym same_a))
      ∙ ap (λ z. left i -ℤ z) (ap (λ t. end_there (other_end f.end) t i) (sym is_b) ∙ ap (λ e. end_there e (term_of h.term.now) i) (sym same_b)))
      ∙ difference_times (left i) (right i) (product i))
      ∙ over_difference rows (λ i. left i *ℤ product i) (λ i. right i *ℤ product i)

  -- a product
  module _ (f g h : Factor) (can : CanMultiply table block rows (f ∷ fs)) (a b : Term) (is : term_of f.term.now ≡ Mul a b) (is_a : term_of g.term.now ≡ a) (is_b : term_of h.term.now ≡ b) (same_a : g.end ≡ end_beside (is_never_negative table.frame b) f.end) (same_b : h.end ≡ end_beside (is_never_negative table.frame a) f.end) where
    abbrev left : ℕ → ℤ
    left i = end_there g.end (term_of g.term.now) i

    abbrev right : ℕ → ℤ
    right i = end_there h.end (term_of h.term.now) i

    below : (i : ℕ) → IsTrue (has_row rows i) → 512 * block + i < table.frame.rows
    below i has = (let low : i < length rows = row_within rows i has in omega (arith, low, can.count, can.within))

    keep : (keeps_sign table.frame a && keeps_sign table.frame b) ≡ true
    keep = (both_true _ _ (sym (ap (has_signs table.frame) is) ∙ can.factors_are.1)).1

    both_ends : (i : ℕ) → IsTrue (has_row rows i) → end_there f.end (term_of f.term.now) i ≡ left i *ℤ right i
    both_ends i has =
        ap (λ t. end_there f.end t i) is ∙ product_end table can.known (512 * block + i) (below i has) f.end a b keep
        ∙ ap (λ z. z *ℤ end_there (end_beside (is_never_negative table.frame a) f.end) b i) (ap (λ t. end_there (end_beside (is_never_negative table.frame b) f.end) t i) (sym is_a) ∙ ap (λ e. end_there e (term_of g.term.now) i) (sym same_a))
        ∙ ap (λ z. left i *ℤ z) (ap (λ t. end_there (end_beside (is_never_negative table.frame a) f.end) t i) (sym is_b) ∙ ap (λ e. end_there e (term_of h.term.now) i) (sym same_b))

    pub mul_sum : total_of (f ∷ fs) ≡ total_of (g ∷ h ∷ fs)
    mul_sum = over_same rows (λ i. end_there f.end (term_of f.term.now) i *ℤ product i) (λ i. left i *ℤ (right i *ℤ product i)) (λ i has. ap (λ z. z *ℤ product i) (both_ends i has) ∙ product_times (left i) (right i) (product i))

    pub mul_turned : total_of (f ∷ fs) ≡ total_of (h ∷ g ∷ fs)
    mul_turned =
        over_same rows (λ i. end_there f.end (term_of f.term.now) i *ℤ product i) (λ i. right i *ℤ (left i *ℤ product i))
        (λ i has. ap (λ z. z *ℤ product i) (both_ends i has ∙ swapped (left i) (right i)) ∙ product_times (right i) (left i) (product i))
