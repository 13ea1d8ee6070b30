-- Sums and numbers of shards that are exact add up.
use Rattle.std.proofs.Common.{◌≡◌, ◌≢◌, ℕ, suc, ℤ, pos, ◌*ℤ◌, ◌≤ℤ◌, Bool, false, cond, ◌&&◌, ◌==◌, List, [], ◌∷◌, ◌++◌, inl, inr, length, refl, arith, subst, sym, ap, ◌∙◌, IsTrue, Option, Some, None}
use Rattle.std.specs.List.{cons_option, list_all}
use Rattle.std.specs.Ordering.{int_eq}
use Rattle.std.proofs.lemmas.Bool.{cases_Bool, and_from, and_parts}
use Rattle.std.proofs.lemmas.Int.{ints}
use Rattle.interval_calc.specs.Intervals.{Fraction}
use Rattle.query_model.specs.declared.bounds.Nullity.{Nullity}
use Rattle.query_model.specs.declared.bounds.Nullity.TheVariants.{Never, Possibly, Always}
use Rattle.query_model.specs.Answers.{total, average}
use Rattle.query_model.specs.Bounds.{AverageBound, AdmitsAverage}
use Rattle.query_model.proofs.Integers.{when_equal}
use Rattle.shard_bounds.specs.Averages.{apart, is_exact, exact_by, fraction_by, sums_of, added_up, exactly, combined_average, hull_of_averages, no_average, AreDivisible, TellsAverage}
use Rattle.shard_bounds.specs.Combined.{together, average_over}
use Rattle.shard_bounds.specs.Laws.{AreAveragesAdmitted, AreAveragesTold, AreAveragesReported, CombinationsLookExact, CombinationsTellAverages, CombinationsReportAverages}
use Rattle.shard_bounds.proofs.Answers.{length-append}
use Rattle.shard_bounds.proofs.EqualEnds.{apart_looks, apart_same, nested_admits, no_hull}
use Rattle.shard_bounds.proofs.Hulls.{total-append, hulls_contain, hulls_divide}

-- ---- sums of told shards

-- either there is no value and no sum, or there are values and their sum and number
pub record SumsAre (sums : List Fraction) (values : List ℤ) : Type 0 where
  pub empty : values ≡ [] → sums ≡ []
  pub full : (v : ℤ) (vs : List ℤ) → values ≡ v ∷ vs → sums ≢ []
  pub num : (added_up sums).num ≡ total values
  pub den : (added_up sums).den ≡ length values

no_more : (w : Nullity) (lo : Fraction) (sums : List Fraction) (values : List ℤ) → w ≡ Always → SumsAre sums values → SumsAre (cons_option (fraction_by w lo) sums) values
no_more Never lo sums values e rest = absurd (differ e)
  where
    differ : ◌≡◌ {A = Nullity} Never Always → ⊥
    differ q = cc
no_more Possibly lo sums values e rest = absurd (differ e)
  where
    differ : ◌≡◌ {A = Nullity} Possibly Always → ⊥
    differ q = cc
no_more Always lo sums values e rest = rest

one_more : (w : Nullity) (lo : Fraction) (v : ℤ) (vs : List ℤ) (sums : List Fraction) (values : List ℤ) → w ≡ Never → lo ≡ record { num = total (v ∷ vs); den = length (v ∷ vs) } →
    SumsAre sums values → SumsAre (cons_option (fraction_by w lo) sums) (v ∷ vs ++ values)
one_more Never lo v vs sums values e is rest =
    let num = ap (λ f. f.num) is in
    let den = ap (λ f. f.den) is in
    let sum = total-append (v ∷ vs) values in
    let long = length-append (v ∷ vs) values in
    let rest_num = rest.num in
    let rest_den = rest.den in
    record { empty = λ q. cc; full = λ u us q r. cc; num = omega (arith, ints); den = omega arith }
one_more Possibly lo v vs sums values e is rest = absurd (differ e)
  where
    differ : ◌≡◌ {A = Nullity} Possibly Never → ⊥
    differ q = cc
one_more Always lo v vs sums values e is rest = absurd (differ e)
  where
    differ : ◌≡◌ {A = Nullity} Always Never → ⊥
    differ q = cc

sums_are : (bounds : List AverageBound) (shards : List (List ℤ)) → AreAveragesTold bounds shards → SumsAre (sums_of bounds) (together shards)
sums_are [] [] t = record { empty = λ e. refl; full = λ v vs e q. cc; num = refl; den = refl }
sums_are [] (values ∷ shards) t = absurd t
sums_are (bound ∷ bounds) [] t = absurd t
sums_are (bound ∷ bounds) ([] ∷ shards) t = no_more bound.null bound.lo (sums_of bounds) (together shards) t.0 (sums_are bounds shards t.1)
sums_are (bound ∷ bounds) ((v ∷ vs) ∷ shards) t = one_more bound.null bound.lo v vs (sums_of bounds) (together shards) t.0.0 t.0.1 (sums_are bounds shards t.1)

not_zero : (n : ℕ) → (suc n == 0) ≡ false
not_zero n = grind arith

tells_sum : (s : ℤ) (n : ℕ) → TellsAverage (exactly (record { num = s; den = suc n })) (Some (s, suc n))
tells_sum s n =
    let sum : Fraction = record { num = s; den = suc n } in
    subst (λ b. TellsAverage (cond b no_average (record { null = Never; lo = sum; hi = sum })) (Some (s, suc n))) (sym (not_zero n)) (refl, refl, refl)

tells_exactly : (sums : List Fraction) (values : List ℤ) → SumsAre sums values → TellsAverage (exactly (added_up sums)) (average values)
tells_exactly sums [] s = subst (λ n. (cond (n == 0) no_average (record { null = Never; lo = added_up sums; hi = added_up sums })).null ≡ Always) (sym s.den) refl
tells_exactly sums (v ∷ vs) s =
    let make : ℤ → ℕ → Fraction = λ n d. record { num = n; den = d } in
    let is : added_up sums ≡ make (total (v ∷ vs)) (length (v ∷ vs)) = ap (λ n. make n (added_up sums).den) s.num ∙ ap (make (total (v ∷ vs))) s.den in
    subst (λ f. TellsAverage (exactly f) (Some (total (v ∷ vs), length (v ∷ vs)))) (sym is) (tells_sum (total (v ∷ vs)) (length vs))

-- ---- told shards look exact

nat_same : (m n : ℕ) → m ≡ n → IsTrue (m == n)
nat_same m n e = grind arith

looks_by : (w : Nullity) (lo hi : Fraction) (s : ℤ) (n : ℕ) → w ≡ Never → lo ≡ record { num = s; den = n } → hi ≡ record { num = s; den = n } →
    IsTrue (exact_by w (int_eq lo.num hi.num && (lo.den == hi.den)))
looks_by Never lo hi s n e p q =
    and_from (int_eq lo.num hi.num) (lo.den == hi.den) (when_equal lo.num hi.num (ap (λ f. f.num) p ∙ sym (ap (λ f. f.num) q))) (nat_same lo.den hi.den (ap (λ f. f.den) p ∙ sym (ap (λ f. f.den) q)))
looks_by Possibly lo hi s n e p q = absurd (differ e)
  where
    differ : ◌≡◌ {A = Nullity} Possibly Never → ⊥
    differ z = cc
looks_by Always lo hi s n e p q = refl

looks_always : (w : Nullity) (b : Bool) → w ≡ Always → IsTrue (exact_by w b)
looks_always w b e = subst (λ w. IsTrue (exact_by w b)) (sym e) refl

looks_exact : (bound : AverageBound) (values : List ℤ) → TellsAverage bound (average values) → IsTrue (is_exact bound)
looks_exact bound [] t = looks_always bound.null _ t
looks_exact bound (v ∷ vs) t = looks_by bound.null bound.lo bound.hi (total (v ∷ vs)) (length (v ∷ vs)) t.0 t.1 t.2

all_look_exact : (bounds : List AverageBound) (shards : List (List ℤ)) → AreAveragesTold bounds shards → IsTrue (list_all is_exact bounds)
all_look_exact [] [] t = refl
all_look_exact [] (values ∷ shards) t = absurd t
all_look_exact (bound ∷ bounds) [] t = absurd t
all_look_exact (bound ∷ bounds) (values ∷ shards) t = and_from (is_exact bound) (list_all is_exact bounds) (looks_exact bound values t.0) (all_look_exact bounds shards t.1)

pub combinations_tell_averages : CombinationsTellAverages
combinations_tell_averages bounds shards t =
    subst (λ b. TellsAverage (cond b (exactly (added_up (sums_of bounds))) (apart (hull_of_averages bounds))) (average_over shards)) (sym (all_look_exact bounds shards t))
    (tells_exactly (sums_of bounds) (together shards) (sums_are bounds shards t))

-- ---- reports

pub told_is_admitted : (bound : AverageBound) (a : Option (ℤ × ℕ)) → TellsAverage bound a → AdmitsAverage bound a
told_is_admitted bound None t = λ e. differ (sym t ∙ e)
  where
    differ : ◌≡◌ {A = Nullity} Always Never → ⊥
    differ z = cc
told_is_admitted bound (Some (s, n)) t =
    let value : Fraction = record { num = s; den = n } in (
      (λ e. differ (sym t.0 ∙ e)),
      subst (λ (f : Fraction). (f.num *ℤ pos n) ≤ℤ (s *ℤ pos f.den)) (sym t.1) (omega (arith, ints)),
      subst (λ (f : Fraction). (s *ℤ pos f.den) ≤ℤ (f.num *ℤ pos n)) (sym t.2) (omega (arith, ints)),
    )
  where
    differ : ◌≡◌ {A = Nullity} Never Always → ⊥
    differ z = cc

reports_admit : (bounds : List AverageBound) (shards : List (List ℤ)) → AreAveragesReported bounds shards → AreAveragesAdmitted bounds shards
reports_admit [] [] r = tt
reports_admit [] (values ∷ shards) r = r
reports_admit (bound ∷ bounds) [] r = r
reports_admit (bound ∷ bounds) (values ∷ shards) r = (r.0.admits, reports_admit bounds shards r.1)

reports_tell : (bounds : List AverageBound) (shards : List (List ℤ)) → AreAveragesReported bounds shards → IsTrue (list_all is_exact bounds) → AreAveragesTold bounds shards
reports_tell [] [] r t = tt
reports_tell [] (values ∷ shards) r t = r
reports_tell (bound ∷ bounds) [] r t = r
reports_tell (bound ∷ bounds) (values ∷ shards) r t =
    let both = and_parts (is_exact bound) (list_all is_exact bounds) t in
    (r.0.tells both.0, reports_tell bounds shards r.1 both.1)

apart_admits : (bounds : List AverageBound) (shards : List (List ℤ)) → AreDivisible bounds → AreAveragesReported bounds shards →
    AdmitsAverage (apart (hull_of_averages bounds)) (average_over shards)
apart_admits bounds shards d r =
    let hull = hull_of_averages bounds in
    nested_admits (apart hull) hull (average_over shards) (hulls_divide bounds d) (apart_same hull).round (hulls_contain bounds shards d (reports_admit bounds shards r))

admits : (bounds : List AverageBound) (shards : List (List ℤ)) → AreDivisible bounds → AreAveragesReported bounds shards →
    AdmitsAverage (combined_average bounds) (average_over shards)
admits bounds shards d r =
    elim (cases_Bool (list_all is_exact bounds)) [
      | inl t ↦ told_is_admitted (combined_average bounds) (average_over shards) (combinations_tell_averages bounds shards (reports_tell bounds shards r t))
      | inr f ↦ subst (λ b. AdmitsAverage (cond b (exactly (added_up (sums_of bounds))) (apart (hull_of_averages bounds))) (average_over shards)) (sym f)
          (apart_admits bounds shards d r)
    ]

pub combinations_look_exact : CombinationsLookExact
combinations_look_exact bounds d t =
    elim (cases_Bool (list_all is_exact bounds)) [
      | inl all ↦ all
      | inr f ↦
          (let hull = hull_of_averages bounds in
          let looks : IsTrue (is_exact (apart hull)) = subst (λ b. IsTrue (is_exact (cond b (exactly (added_up (sums_of bounds))) (apart hull)))) f t in
          no_hull bounds (apart_looks hull (hulls_divide bounds d) looks))
    ]

pub combinations_report_averages : CombinationsReportAverages
combinations_report_averages bounds shards d r = record {
  admits = admits bounds shards d r;
  tells = λ t. combinations_tell_averages bounds shards (reports_tell bounds shards r (combinations_look_exact bounds d t));
}
