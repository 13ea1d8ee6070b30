-- The bound of a list of pairs from what is kept of it.
use Rattle.std.proofs.Common.{◌≡◌, ℕ, suc, ◌<◌, ℤ, pos, ◌≤ℤ◌, ◌<ℤ◌, int_le, Bool, true, false, ◌||◌, cond, List, [], ◌∷◌, length, map, refl, ap, sym, ◌∙◌, inl, inr, arith, Some, max}
use Rattle.std.specs.Int.{int_min, int_max}
use Rattle.std.specs.List.{list_any}
use Rattle.std.specs.Option.{option_or, unwrap_or}
use Rattle.std.proofs.lemmas.Bool.{or_parts, cases_Bool, cases_eq}
use Rattle.std.proofs.lemmas.Int.{ints, clamps}
use Rattle.query_model.specs.declared.bounds.Nullity.{Nullity}
use Rattle.query_model.specs.declared.bounds.Nullity.TheVariants.{Never, Possibly, Always}
use Rattle.query_model.specs.declared.query.ItemKind.TheVariants.{Min, Max}
use Rattle.query_model.specs.Answers.{total, least, greatest, answer}
use Rattle.query_model.specs.Bounds.{AverageBound, average_bound_of, Pair, some_certain, certain_count, lows, highs, certain_lows, certain_highs, low_share, high_share, least_sum, greatest_sum, high_of_least, low_of_greatest, nullity_of}
use Rattle.query_model.proofs.ListBounds.{keeps_low, keeps_high}

-- ---- some pair is certain

pub some_counted : (ps : List Pair) → 0 < certain_count ps → some_certain ps ≡ true
some_counted [] h = absurd (omega (arith, h))
some_counted (p ∷ ps) h =
    elim (cases_Bool p.certain) [
      | inl t ↦ rw t refl
      | inr f ↦ (let rest : 0 < certain_count ps = rw f at h in rw f (some_counted ps rest))
    ]

pub none_counted : (ps : List Pair) → certain_count ps ≡ 0 → some_certain ps ≡ false
none_counted [] h = refl
none_counted (p ∷ ps) h =
    elim (cases_Bool p.certain) [
      | inl t ↦ (let one : suc (certain_count ps) ≡ 0 = rw t at h in absurd (omega (arith, one)))
      | inr f ↦ (let rest : certain_count ps ≡ 0 = rw f at h in rw f (none_counted ps rest))
    ]

pub nullity_of-none : (ps : List Pair) → length ps ≡ 0 → Always ≡ nullity_of ps
nullity_of-none [] e = refl
nullity_of-none (p ∷ ps) e = absurd (omega (arith, e))

pub nullity_of-certain : (ps : List Pair) → 0 < certain_count ps → Never ≡ nullity_of ps
nullity_of-certain [] h = absurd (omega (arith, h))
nullity_of-certain (p ∷ ps) h = rw (some_counted (p ∷ ps) h) refl

pub nullity_of-uncertain : (ps : List Pair) → 0 < length ps → certain_count ps ≡ 0 → Possibly ≡ nullity_of ps
nullity_of-uncertain [] some none = absurd (omega (arith, some))
nullity_of-uncertain (p ∷ ps) some none = rw (none_counted (p ∷ ps) none) refl

-- ---- the least sum

one_test : (c l : Bool) → ((c || l) || false) ≡ ((c || false) || l)
one_test true l = refl
one_test false true = refl
one_test false false = refl

both_tests : (c l s m : Bool) → ((c || l) || (s || m)) ≡ ((c || s) || (l || m))
both_tests true l s m = refl
both_tests false true true m = refl
both_tests false true false m = refl
both_tests false false s m = refl

low_test : (x y z : ℤ) → int_le (int_min x y) z ≡ (int_le x z || int_le y z)
low_test x y z =
    elim (cases_Bool (int_le x z)) [
      | inl a ↦ (let e : true ≡ int_le (int_min x y) z = omega (arith, ints, clamps) in rw a (sym e))
      | inr a ↦ elim (cases_Bool (int_le y z)) [
        | inl b ↦ (let e : true ≡ int_le (int_min x y) z = omega (arith, ints, clamps) in rw a (rw b (sym e)))
        | inr b ↦ (let e : false ≡ int_le (int_min x y) z = omega (arith, ints, clamps) in rw a (rw b (sym e)))
      ]
    ]

high_test : (x y z : ℤ) → int_le z (int_max x y) ≡ (int_le z x || int_le z y)
high_test x y z =
    elim (cases_Bool (int_le z x)) [
      | inl a ↦ (let e : true ≡ int_le z (int_max x y) = omega (arith, ints, clamps) in rw a (sym e))
      | inr a ↦ elim (cases_Bool (int_le z y)) [
        | inl b ↦ (let e : true ≡ int_le z (int_max x y) = omega (arith, ints, clamps) in rw a (rw b (sym e)))
        | inr b ↦ (let e : false ≡ int_le z (int_max x y) = omega (arith, ints, clamps) in rw a (rw b (sym e)))
      ]
    ]

-- the sum of the shares stands where a pair is certain, or the least low is not above 0
keeps_low_is : (p : Pair) (ps : List Pair) → list_any keeps_low (p ∷ ps) ≡ (some_certain (p ∷ ps) || int_le (least (lows (p ∷ ps))) (pos 0))
keeps_low_is p [] = one_test p.certain (int_le p.low (pos 0))
keeps_low_is p (q ∷ qs) =
    let rest = keeps_low_is q qs in
    let m = least (lows (q ∷ qs)) in
    ap (λ b. keeps_low p || b) rest ∙ both_tests p.certain (int_le p.low (pos 0)) (some_certain (q ∷ qs)) (int_le m (pos 0))
    ∙ ap (λ b. some_certain (p ∷ q ∷ qs) || b) (sym (low_test p.low m (pos 0)))

keeps_high_is : (p : Pair) (ps : List Pair) → list_any keeps_high (p ∷ ps) ≡ (some_certain (p ∷ ps) || int_le (pos 0) (greatest (highs (p ∷ ps))))
keeps_high_is p [] = one_test p.certain (int_le (pos 0) p.high)
keeps_high_is p (q ∷ qs) =
    let rest = keeps_high_is q qs in
    let m = greatest (highs (q ∷ qs)) in
    ap (λ b. keeps_high p || b) rest ∙ both_tests p.certain (int_le (pos 0) p.high) (some_certain (q ∷ qs)) (int_le (pos 0) m)
    ∙ ap (λ b. some_certain (p ∷ q ∷ qs) || b) (sym (high_test p.high m (pos 0)))

pub same_numbers : (x y : ℤ) → Some x ≡ Some y → x ≡ y
same_numbers x y e = cc

-- where no pair is certain and each low is above 0, the least low stands
pub lone_low : (ps : List Pair) (low : ℤ) → Some low ≡ answer Min (lows ps) → certain_count ps ≡ 0 → pos 0 <ℤ low → low ≡ least_sum ps
lone_low [] low is none above = cc
lone_low (p ∷ ps) low is none above =
    let m = least (lows (p ∷ ps)) in
    let same : low ≡ m = same_numbers low m is in
    let test : false ≡ int_le m (pos 0) = omega (arith, ints) in
    let keeps : list_any keeps_low (p ∷ ps) ≡ false = keeps_low_is p ps ∙ ap (λ b. b || int_le m (pos 0)) (none_counted (p ∷ ps) none) ∙ sym test in
    rw keeps same

pub low_sum_stands : (ps : List Pair) → (certain_count ps ≡ 0 → (low : ℤ) → Some low ≡ answer Min (lows ps) → low ≤ℤ pos 0) → total (map low_share ps) ≡ least_sum ps
low_sum_stands [] h = refl
low_sum_stands (p ∷ ps) h =
    let m = least (lows (p ∷ ps)) in
    let keeps : list_any keeps_low (p ∷ ps) ≡ true = elim (cases_eq (certain_count (p ∷ ps)) 0) [
      | inl none ↦ (
          let low : m ≤ℤ pos 0 = h none m refl in
          let test : true ≡ int_le m (pos 0) = omega (arith, ints) in
          keeps_low_is p ps ∙ ap (λ b. b || int_le m (pos 0)) (none_counted (p ∷ ps) none) ∙ sym test
          )
      | inr some ↦ keeps_low_is p ps ∙ ap (λ b. b || int_le m (pos 0)) (some_counted (p ∷ ps) (omega (arith, some)))
    ] in
    rw keeps refl

-- ---- the greatest sum

pub lone_high : (ps : List Pair) (high : ℤ) → Some high ≡ answer Max (highs ps) → certain_count ps ≡ 0 → high <ℤ pos 0 → high ≡ greatest_sum ps
lone_high [] high is none below = cc
lone_high (p ∷ ps) high is none below =
    let m = greatest (highs (p ∷ ps)) in
    let same : high ≡ m = same_numbers high m is in
    let test : false ≡ int_le (pos 0) m = omega (arith, ints) in
    let keeps : list_any keeps_high (p ∷ ps) ≡ false = keeps_high_is p ps ∙ ap (λ b. b || int_le (pos 0) m) (none_counted (p ∷ ps) none) ∙ sym test in
    rw keeps same

pub high_sum_stands : (ps : List Pair) → (certain_count ps ≡ 0 → (high : ℤ) → Some high ≡ answer Max (highs ps) → pos 0 ≤ℤ high) → total (map high_share ps) ≡ greatest_sum ps
high_sum_stands [] h = refl
high_sum_stands (p ∷ ps) h =
    let m = greatest (highs (p ∷ ps)) in
    let keeps : list_any keeps_high (p ∷ ps) ≡ true = elim (cases_eq (certain_count (p ∷ ps)) 0) [
      | inl none ↦ (
          let high : pos 0 ≤ℤ m = h none m refl in
          let test : true ≡ int_le (pos 0) m = omega (arith, ints) in
          keeps_high_is p ps ∙ ap (λ b. b || int_le (pos 0) m) (none_counted (p ∷ ps) none) ∙ sym test
          )
      | inr some ↦ keeps_high_is p ps ∙ ap (λ b. b || int_le (pos 0) m) (some_counted (p ∷ ps) (omega (arith, some)))
    ] in
    rw keeps refl

-- ---- the least and the greatest value

pub least_or_zero : (xs : List ℤ) → unwrap_or (answer Min xs) (pos 0) ≡ least xs
least_or_zero [] = refl
least_or_zero (x ∷ xs) = refl

pub greatest_or_zero : (xs : List ℤ) → unwrap_or (answer Max xs) (pos 0) ≡ greatest xs
greatest_or_zero [] = refl
greatest_or_zero (x ∷ xs) = refl

no_certain_highs : (ps : List Pair) → some_certain ps ≡ false → certain_highs ps ≡ []
no_certain_highs [] h = refl
no_certain_highs (p ∷ ps) h =
    let each = or_parts p.certain (some_certain ps) h in
    rw each.0 (no_certain_highs ps each.1)

no_certain_lows : (ps : List Pair) → some_certain ps ≡ false → certain_lows ps ≡ []
no_certain_lows [] h = refl
no_certain_lows (p ∷ ps) h =
    let each = or_parts p.certain (some_certain ps) h in
    rw each.0 (no_certain_lows ps each.1)

some_certain_highs : (ps : List Pair) → some_certain ps ≡ true → answer Min (certain_highs ps) ≡ Some (least (certain_highs ps))
some_certain_highs [] h = cc
some_certain_highs (p ∷ ps) h =
    elim (cases_Bool p.certain) [
      | inl t ↦ rw t refl
      | inr f ↦ (let rest : some_certain ps ≡ true = rw f at h in rw f (some_certain_highs ps rest))
    ]

some_certain_lows : (ps : List Pair) → some_certain ps ≡ true → answer Max (certain_lows ps) ≡ Some (greatest (certain_lows ps))
some_certain_lows [] h = cc
some_certain_lows (p ∷ ps) h =
    elim (cases_Bool p.certain) [
      | inl t ↦ rw t refl
      | inr f ↦ (let rest : some_certain ps ≡ true = rw f at h in rw f (some_certain_lows ps rest))
    ]

pub high_of_least_is : (ps : List Pair) → unwrap_or (option_or (answer Min (certain_highs ps)) (answer Max (highs ps))) (pos 0) ≡ high_of_least ps
high_of_least_is ps =
    elim (cases_Bool (some_certain ps)) [
      | inl t ↦ rw t (rw (some_certain_highs ps t) refl)
      | inr f ↦ rw f (rw (no_certain_highs ps f) (greatest_or_zero (highs ps)))
    ]

pub low_of_greatest_is : (ps : List Pair) → unwrap_or (option_or (answer Max (certain_lows ps)) (answer Min (lows ps))) (pos 0) ≡ low_of_greatest ps
low_of_greatest_is ps =
    elim (cases_Bool (some_certain ps)) [
      | inl t ↦ rw t (rw (some_certain_lows ps t) refl)
      | inr f ↦ rw f (rw (no_certain_lows ps f) (least_or_zero (lows ps)))
    ]

-- ---- averages

either : (b : Bool) (x y z : ℕ) → x ≡ z → y ≡ z → cond b x y ≡ z
either true x y z e f = e
either false x y z e f = f

-- the parts of an average's bound
pub record AveragesOf (ps : List Pair) (word : Nullity) (low high : ℤ) (low_den high_den most fewest : ℕ) : Type 0 where
  pub word_is : word ≡ nullity_of ps
  pub low_is : low ≡ least_sum ps
  pub high_is : high ≡ greatest_sum ps
  pub most_is : most ≡ max (length ps) 1
  pub fewest_is : fewest ≡ max (certain_count ps) 1
  pub low_den_is : low_den ≡ cond (int_le (pos 0) low) most fewest
  pub high_den_is : high_den ≡ cond (int_le (pos 0) high) fewest most

same_average : (w w' : Nullity) (l l' h h' : ℤ) (d d' e e' : ℕ) → w ≡ w' → l ≡ l' → h ≡ h' → d ≡ d' → e ≡ e' →
    ◌≡◌ {A = AverageBound} (record { null = w; lo = record { num = l; den = d }; hi = record { num = h; den = e } }) (record { null = w'; lo = record { num = l'; den = d' }; hi = record { num = h'; den = e' } })
same_average w w' l l' h h' d d' e e' a b c f g = cc

pub average_is : (ps : List Pair) (word : Nullity) (low high : ℤ) (low_den high_den most fewest : ℕ) → AveragesOf ps word low high low_den high_den most fewest →
    ◌≡◌ {A = AverageBound} (record { null = word; lo = record { num = low; den = low_den }; hi = record { num = high; den = high_den } }) (average_bound_of ps)
average_is [] word low high low_den high_den most fewest a =
    same_average _ _ _ _ _ _ _ _ _ _ a.word_is a.low_is a.high_is
    (a.low_den_is ∙ either (int_le (pos 0) low) most fewest 1 a.most_is a.fewest_is)
    (a.high_den_is ∙ either (int_le (pos 0) high) fewest most 1 a.fewest_is a.most_is)
average_is (p ∷ ps) word low high low_den high_den most fewest a =
    let all = p ∷ ps in
    let most_is : most ≡ length all = a.most_is ∙ omega arith in
    same_average _ _ _ _ _ _ _ _ _ _ a.word_is a.low_is a.high_is
    (a.low_den_is ∙ ap (λ n. cond (int_le (pos 0) n) most fewest) a.low_is ∙ ap (λ n. cond (int_le (pos 0) (least_sum all)) n fewest) most_is
    ∙ ap (λ n. cond (int_le (pos 0) (least_sum all)) (length all) n) a.fewest_is)
    (a.high_den_is ∙ ap (λ n. cond (int_le (pos 0) n) fewest most) a.high_is ∙ ap (λ n. cond (int_le (pos 0) (greatest_sum all)) n most) a.fewest_is
    ∙ ap (λ n. cond (int_le (pos 0) (greatest_sum all)) (max (certain_count all) 1) n) most_is)
