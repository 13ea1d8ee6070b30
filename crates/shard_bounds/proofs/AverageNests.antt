-- With narrower reports of the shards the bound of the average over all is narrower.
use Rattle.std.proofs.Common.{◌≡◌, ◌+◌, ◌<◌, pos, ◌+ℤ◌, Bool, cond, ◌&&◌, ◌==◌, List, [], ◌∷◌, ◌⊎◌, inl, inr, refl, arith, subst, sym, ap, ◌∙◌, IsTrue}
use Rattle.std.specs.List.{cons_option, list_all}
use Rattle.std.specs.Ordering.{int_eq}
use Rattle.std.proofs.lemmas.Bool.{cases_Bool, and_parts, false≢true}
use Rattle.std.proofs.lemmas.Int.{ints}
use Rattle.interval_calc.specs.Intervals.{Fraction}
use Rattle.query_model.specs.declared.bounds.Nullity.{Nullity}
use Rattle.query_model.specs.declared.bounds.Nullity.TheVariants.{Never, Possibly, Always}
use Rattle.query_model.specs.Bounds.{AverageBound, IsNestedAverage}
use Rattle.query_model.proofs.Integers.{equal_when}
use Rattle.shard_bounds.specs.Averages.{apart, is_exact, exact_by, fraction_by, sums_of, added_up, exactly, combined_average, hull_by, hull_of_averages, no_average, IsDivisible, AreDivisible}
use Rattle.shard_bounds.specs.Laws.{AreNestedAverages, AreNestedReports, AveragesNest}
use Rattle.shard_bounds.proofs.EqualEnds.{apart_same, aparts_nest, nested-refl, nested-trans}
use Rattle.shard_bounds.proofs.AverageOrders.{positive, same_fraction, equal_numbers}
use Rattle.shard_bounds.proofs.FractionOrder.{IsAtMost, at_most-trans, at_most-refl, at_most-added, added-at_most}
use Rattle.shard_bounds.proofs.Hulls.{round_first, round_second, hulls_divide, hulls_nest}

-- ---- sums lie in the hull of exact shards

-- no shard has rows, or their sums added up lie in the hull
abbrev pub LiesIn : AverageBound → Fraction → Type 0
LiesIn hull sum = ((hull.null ≡ Always) × (sum ≡ record { num = pos 0; den = 0 })) ⊎ ((hull.null ≡ Never) × (0 < sum.den) × IsAtMost hull.lo sum × IsAtMost sum hull.hi)

-- a hull with a shard that is never NULL is never NULL
never_null : (w : Nullity) (a b : AverageBound) → a.null ≡ Never → (hull_by Never w a b).null ≡ Never
never_null Never a b e = refl
never_null Possibly a b e = refl
never_null Always a b e = e

first_alone : (w : Nullity) (a b : AverageBound) → w ≡ Always → hull_by Never w a b ≡ a
first_alone w a b e = ap (λ v. hull_by Never v a b) e

sum_with : (a b : AverageBound) (sum : Fraction) → IsDivisible a → IsDivisible b → a.null ≡ Never → a.lo ≡ a.hi → LiesIn b sum →
    LiesIn (hull_by Never b.null a b) (record { num = a.lo.num +ℤ sum.num; den = a.lo.den + sum.den })
sum_with a b sum da db e same (inl (none, zero_sum)) =
    let is : record { num = a.lo.num +ℤ sum.num; den = a.lo.den + sum.den } ≡ a.lo =
    same_fraction (record { num = a.lo.num +ℤ sum.num; den = a.lo.den + sum.den }) a.lo
    (ap (λ (f : Fraction). a.lo.num +ℤ f.num) zero_sum ∙ omega (arith, ints)) (ap (λ (f : Fraction). a.lo.den + f.den) zero_sum ∙ omega arith) in
    subst (λ h. LiesIn h (record { num = a.lo.num +ℤ sum.num; den = a.lo.den + sum.den })) (sym (first_alone b.null a b none))
    (subst (LiesIn a) (sym is) (inr (e, da.lo, at_most-refl a.lo, subst (λ f. IsAtMost a.lo f) same (at_most-refl a.lo))))
sum_with a b sum da db e same (inr (never, some, low, high)) =
    let hull = hull_by Never b.null a b in
    let ra = round_first Never b.null a b e refl (λ f. differ (sym e ∙ f)) in
    let rb = round_second Never b.null a b e refl (λ f. differ (sym never ∙ f)) in
    let high_a : IsAtMost a.lo hull.hi = subst (λ f. IsAtMost f hull.hi) (sym same) ra.hi in
    inr (
      never_null b.null a b e,
      omega arith,
      at_most-added hull.lo a.lo sum ra.lo (at_most-trans hull.lo b.lo sum db.lo rb.lo low),
      added-at_most a.lo sum hull.hi high_a (at_most-trans sum b.hi hull.hi db.hi high rb.hi),
    )
  where
    differ : ◌≡◌ {A = Nullity} Never Always → ⊥
    differ q = cc

-- one more exact shard
sum_more : (w : Nullity) (a b : AverageBound) (sums : List Fraction) → a.null ≡ w → IsDivisible a → IsDivisible b →
    IsTrue (exact_by w (int_eq a.lo.num a.hi.num && (a.lo.den == a.hi.den))) → LiesIn b (added_up sums) → LiesIn (hull_by w b.null a b) (added_up (cons_option (fraction_by w a.lo) sums))
sum_more Never a b sums e da db t rest =
    let both = and_parts (int_eq a.lo.num a.hi.num) (a.lo.den == a.hi.den) t in
    sum_with a b (added_up sums) da db e (same_fraction a.lo a.hi (equal_when a.lo.num a.hi.num both.0) (equal_numbers a.lo.den a.hi.den both.1)) rest
sum_more Possibly a b sums e da db t rest = absurd (false≢true t)
sum_more Always a b sums e da db t rest = rest

sums_lie : (bounds : List AverageBound) → AreDivisible bounds → IsTrue (list_all is_exact bounds) → LiesIn (hull_of_averages bounds) (added_up (sums_of bounds))
sums_lie [] d t = inl (refl, refl)
sums_lie (bound ∷ bounds) d t =
    let both = and_parts (is_exact bound) (list_all is_exact bounds) t in
    sum_more bound.null bound (hull_of_averages bounds) (sums_of bounds) refl d.0 (hulls_divide bounds d.1) both.0 (sums_lie bounds d.1 both.1)

exact_in_hull : (hull : AverageBound) (sum : Fraction) → LiesIn hull sum → IsNestedAverage hull (exactly sum)
exact_in_hull hull sum (inl (none, zero_sum)) =
    subst (λ f. IsNestedAverage hull (exactly f)) (sym zero_sum)
    (record { null = λ w e. differ (sym none ∙ e); full = λ w. absurd (w refl); lo = λ w. absurd (w refl); hi = λ w. absurd (w refl) })
  where
    differ : ◌≡◌ {A = Nullity} Always Never → ⊥
    differ q = cc
exact_in_hull hull sum (inr (never, some, low, high)) =
    subst (λ b. IsNestedAverage hull (cond b no_average (record { null = Never; lo = sum; hi = sum }))) (sym (positive sum.den some))
    (record { null = λ w. absurd (w refl); full = λ w e. differ (sym never ∙ e); lo = λ w. low; hi = λ w. high })
  where
    differ : ◌≡◌ {A = Nullity} Never Always → ⊥
    differ q = cc

-- ---- reports

reports_nest : (olds news : List AverageBound) → AreNestedReports olds news → AreNestedAverages olds news
reports_nest [] [] n = tt
reports_nest [] (new ∷ news) n = n
reports_nest (old ∷ olds) [] n = n
reports_nest (old ∷ olds) (new ∷ news) n = (n.0.nested, reports_nest olds news n.1)

reports_stay : (olds news : List AverageBound) → AreNestedReports olds news → IsTrue (list_all is_exact olds) → news ≡ olds
reports_stay [] [] n t = refl
reports_stay [] (new ∷ news) n t = absurd n
reports_stay (old ∷ olds) [] n t = absurd n
reports_stay (old ∷ olds) (new ∷ news) n t =
    let both = and_parts (is_exact old) (list_all is_exact olds) t in
    ap (λ b. b ∷ news) (n.0.kept both.0) ∙ ap (λ bs. old ∷ bs) (reports_stay olds news n.1 both.1)

pub averages_nest : AveragesNest
averages_nest olds news d c n =
    let pick : Bool → List AverageBound → AverageBound = λ b bs. cond b (exactly (added_up (sums_of bs))) (apart (hull_of_averages bs)) in
    let hulls = hulls_nest olds news d c (reports_nest olds news n) in
    let hull = hull_of_averages olds in
    let new_hull = hull_of_averages news in
    let divides = hulls_divide olds d in
    let new_divides = hulls_divide news c in
    let sum = added_up (sums_of news) in
    elim (cases_Bool (list_all is_exact olds)) [
      | inl t ↦ subst (λ bs. IsNestedAverage (combined_average olds) (combined_average bs)) (sym (reports_stay olds news n t)) (nested-refl (combined_average olds))
      | inr f ↦ subst (λ b. IsNestedAverage (pick b olds) (combined_average news)) (sym f)
          (elim (cases_Bool (list_all is_exact news)) [
            | inl t ↦ subst (λ b. IsNestedAverage (apart hull) (pick b news)) (sym t)
                (nested-trans (apart hull) hull (exactly sum) divides (apart_same hull).round
                (nested-trans hull new_hull (exactly sum) new_divides hulls (exact_in_hull new_hull sum (sums_lie news c t))))
            | inr g ↦ subst (λ b. IsNestedAverage (apart hull) (pick b news)) (sym g) (aparts_nest hull new_hull divides new_divides hulls)
          ])
    ]
