-- The ends of a sum over clipped pairs, by those of the sum and what the shares of the pairs add up to.
use Rattle.std.proofs.Common.{◌≡◌, ℤ, pos, ◌+ℤ◌, ◌≤ℤ◌, ◌<ℤ◌, int_le, Bool, true, false, cond, ◌||◌, List, [], ◌∷◌, map, ◌⊎◌, inl, inr, refl, sym, ap, ◌∙◌, arith}
use Rattle.std.specs.Int.{int_min, int_max}
use Rattle.std.specs.List.{list_any}
use Rattle.std.proofs.lemmas.Bool.{cases_Bool, cond-true, cond-false, false≢true, or_cases, or_from, or_left, or_parts, or_right, true≢false}
use Rattle.std.proofs.lemmas.Int.{ints, clamps}
use Rattle.query_model.specs.Answers.{greatest, least, total}
use Rattle.query_model.specs.Bounds.{Pair, greatest_sum, high_share, highs, least_sum, low_share, lows, some_certain}
use Rattle.query_model.proofs.Extremes.{Has, greatest_above, least_below}
use Rattle.query_model.proofs.ListBounds.{keeps_high, keeps_low}
use Rattle.clip_bounds.specs.declared.clip.Clip.{Clip}
use Rattle.clip_bounds.specs.Clipped.{clipped}
use Rattle.clip_bounds.proofs.ClippedEnds.{greatest_high_clipped, least_low_clipped, some_certain_clipped}

-- ---- tests of numbers

pub at_most : (x y : ℤ) → x ≤ℤ y → int_le x y ≡ true
at_most x y h = grind (arith, ints)

pub above : (x y : ℤ) → y <ℤ x → int_le x y ≡ false
above x y h = grind (arith, ints)

is_at_most : (x y : ℤ) → int_le x y ≡ true → x ≤ℤ y
is_at_most x y h = grind (arith, ints)

is_above : (x y : ℤ) → int_le x y ≡ false → y <ℤ x
is_above x y h = grind (arith, ints)

same_test : (x y z w : ℤ) → (x ≤ℤ y → z ≤ℤ w) → (y <ℤ x → w <ℤ z) → int_le z w ≡ int_le x y
same_test x y z w le more =
    elim (cases_Bool (int_le x y)) [
      | inl t ↦ at_most z w (le (is_at_most x y t)) ∙ sym t
      | inr f ↦ above z w (more (is_above x y f)) ∙ sym f
    ]

-- a certain pair keeps the sum at the shares
certain_keeps : (other : Pair → Bool) (ps : List Pair) → some_certain ps ≡ true → list_any (λ p. p.certain || other p) ps ≡ true
certain_keeps other [] h = absurd (false≢true h)
certain_keeps other (p ∷ ps) h =
    elim (or_cases p.certain (some_certain ps) h) [
      | inl t ↦ or_left (p.certain || other p) _ (or_left p.certain (other p) t)
      | inr rest ↦ or_right (p.certain || other p) _ (certain_keeps other ps rest)
    ]

-- ---- low ends

module _ (clip : Clip) where
  -- a clip that does not begin above 0 changes no sign
  low_keeps : (p : Pair) → clip.low ≤ℤ pos 0 → keeps_low (clipped clip p) ≡ keeps_low p
  low_keeps p h = ap (λ b. p.certain || b) (same_test p.low (pos 0) (int_max p.low clip.low) (pos 0) (λ le. omega (arith, ints, clamps)) (λ more. omega (arith, ints, clamps)))

  lows_keep : (ps : List Pair) → clip.low ≤ℤ pos 0 → list_any keeps_low (map (clipped clip) ps) ≡ list_any keeps_low ps
  lows_keep [] h = refl
  lows_keep (p ∷ ps) h = ap (λ b. b || list_any keeps_low (map (clipped clip) ps)) (low_keeps p h) ∙ ap (λ b. keeps_low p || b) (lows_keep ps h)

  -- where no pair keeps the sum at the shares, none is changed
  share_same : (c : Bool) (l : ℤ) → clip.low ≤ℤ pos 0 → (c || int_le l (pos 0)) ≡ false → cond c (int_max l clip.low) (int_min (int_max l clip.low) (pos 0)) ≡ cond c l (int_min l (pos 0))
  share_same true l h none = absurd (true≢false none)
  share_same false l h none = (let more = is_above l (pos 0) none in omega (arith, ints, clamps))

  low_same : (c : Bool) (l : ℤ) → clip.low ≤ℤ pos 0 → (c || int_le l (pos 0)) ≡ false → int_max l clip.low ≡ l
  low_same true l h none = absurd (true≢false none)
  low_same false l h none = (let more = is_above l (pos 0) none in omega (arith, ints, clamps))

  low_shares_same : (ps : List Pair) → clip.low ≤ℤ pos 0 → list_any keeps_low ps ≡ false → total (map low_share (map (clipped clip) ps)) ≡ total (map low_share ps)
  low_shares_same [] h none = refl
  low_shares_same (p ∷ ps) h none =
      let parts = or_parts (keeps_low p) (list_any keeps_low ps) none in
      ap (λ x. x +ℤ total (map low_share (map (clipped clip) ps))) (share_same p.certain p.low h parts.0) ∙ ap (λ x. low_share p +ℤ x) (low_shares_same ps h parts.1)

  lows_same : (ps : List Pair) → clip.low ≤ℤ pos 0 → list_any keeps_low ps ≡ false → lows (map (clipped clip) ps) ≡ lows ps
  lows_same [] h none = refl
  lows_same (p ∷ ps) h none =
      let parts = or_parts (keeps_low p) (list_any keeps_low ps) none in
      ap (λ x. x ∷ lows (map (clipped clip) ps)) (low_same p.certain p.low h parts.0) ∙ ap (λ xs. p.low ∷ xs) (lows_same ps h parts.1)

  -- both sums are those of the shares
  low_both_shares : (ps : List Pair) (raise : ℤ) → total (map low_share (map (clipped clip) ps)) ≡ (total (map low_share ps) +ℤ raise) → list_any keeps_low (map (clipped clip) ps) ≡ true → list_any keeps_low ps ≡ true →
      least_sum (map (clipped clip) ps) ≡ (least_sum ps +ℤ raise)
  low_both_shares ps raise moved new old =
      cond-true (list_any keeps_low (map (clipped clip) ps)) (total (map low_share (map (clipped clip) ps))) (least (lows (map (clipped clip) ps))) new
      ∙ moved ∙ ap (λ x. x +ℤ raise) (sym (cond-true (list_any keeps_low ps) (total (map low_share ps)) (least (lows ps)) old))

  low_neither : (ps : List Pair) (raise : ℤ) → total (map low_share (map (clipped clip) ps)) ≡ (total (map low_share ps) +ℤ raise) → clip.low ≤ℤ pos 0 → list_any keeps_low ps ≡ false →
      least_sum (map (clipped clip) ps) ≡ (least_sum ps +ℤ raise)
  low_neither ps raise moved h none =
      let same = low_shares_same ps h none in
      let still : raise ≡ pos 0 = no_change (total (map low_share (map (clipped clip) ps))) (total (map low_share ps)) raise moved same in
      cond-false (list_any keeps_low (map (clipped clip) ps)) (total (map low_share (map (clipped clip) ps))) (least (lows (map (clipped clip) ps))) (lows_keep ps h ∙ none)
      ∙ ap least (lows_same ps h none) ∙ sym (cond-false (list_any keeps_low ps) (total (map low_share ps)) (least (lows ps)) none)
      ∙ nothing_added (least_sum ps) raise still
    where
      no_change : (x y d : ℤ) → x ≡ (y +ℤ d) → x ≡ y → d ≡ pos 0
      no_change x y d e f = omega (arith, ints)

      nothing_added : (x d : ℤ) → d ≡ pos 0 → x ≡ (x +ℤ d)
      nothing_added x d e = omega (arith, ints)

  -- the least sum moves by what the shares do
  pub least_sum_moved : (ps : List Pair) (raise : ℤ) → total (map low_share (map (clipped clip) ps)) ≡ (total (map low_share ps) +ℤ raise) → (clip.low ≤ℤ pos 0) ⊎ (some_certain ps ≡ true) →
      least_sum (map (clipped clip) ps) ≡ (least_sum ps +ℤ raise)
  least_sum_moved ps raise moved (inl h) =
      elim (cases_Bool (list_any keeps_low ps)) [
        | inl some ↦ low_both_shares ps raise moved (lows_keep ps h ∙ some) some
        | inr none ↦ low_neither ps raise moved h none
      ]
  least_sum_moved ps raise moved (inr some) =
      low_both_shares ps raise moved (certain_keeps (λ p. int_le p.low (pos 0)) (map (clipped clip) ps) (some_certain_clipped clip ps ∙ some)) (certain_keeps (λ p. int_le p.low (pos 0)) ps some)

  -- where the clip begins above 0, only a certain pair keeps the sum at the shares
  none_keeps_low : (ps : List Pair) → pos 0 <ℤ clip.low → some_certain ps ≡ false → list_any keeps_low (map (clipped clip) ps) ≡ false
  none_keeps_low [] h none = refl
  none_keeps_low (p ∷ ps) h none =
      let parts = or_parts p.certain (some_certain ps) none in
      let more : pos 0 <ℤ int_max p.low clip.low = omega (arith, ints, clamps) in
      or_from (keeps_low (clipped clip p)) _ (or_from p.certain (int_le (int_max p.low clip.low) (pos 0)) parts.0 (above (int_max p.low clip.low) (pos 0) more)) (none_keeps_low ps h parts.1)

  -- an uncertain pair adds at most 0
  low_share_small : (c : Bool) (l : ℤ) → c ≡ false → cond c l (int_min l (pos 0)) ≤ℤ pos 0
  low_share_small true l e = absurd (true≢false e)
  low_share_small false l e = omega (arith, ints, clamps)

  low_shares_small : (ps : List Pair) → some_certain ps ≡ false → total (map low_share ps) ≤ℤ pos 0
  low_shares_small [] none = omega (arith, ints)
  low_shares_small (p ∷ ps) none =
      let parts = or_parts p.certain (some_certain ps) none in
      let here = low_share_small p.certain p.low parts.0 in
      let rest = low_shares_small ps parts.1 in
      add_small (low_share p) (total (map low_share ps)) here rest
    where
      add_small : (x y : ℤ) → x ≤ℤ pos 0 → y ≤ℤ pos 0 → (x +ℤ y) ≤ℤ pos 0
      add_small x y h k = omega (arith, ints)

  some_low : (ps : List Pair) → some_certain ps ≡ false → list_any keeps_low ps ≡ true → (x : ℤ) × Has x (lows ps) × (x ≤ℤ pos 0)
  some_low [] none some = absurd (false≢true some)
  some_low (p ∷ ps) none some =
      let parts = or_parts p.certain (some_certain ps) none in
      elim (or_cases (keeps_low p) (list_any keeps_low ps) some) [
        | inl here ↦ elim (or_cases p.certain (int_le p.low (pos 0)) here) [
          | inl t ↦ absurd (true≢false (sym t ∙ parts.0))
          | inr le ↦ (p.low, inl refl, is_at_most p.low (pos 0) le)
        ]
        | inr rest ↦ (let found = some_low ps parts.1 rest in (found.0, inr found.1, found.2))
      ]

  -- then the least sum is one low end, no less than where the clip begins
  pub least_sum_raised : (p : Pair) (ps : List Pair) → pos 0 <ℤ clip.low → some_certain (p ∷ ps) ≡ false → least_sum (map (clipped clip) (p ∷ ps)) ≡ int_max (least_sum (p ∷ ps)) clip.low
  least_sum_raised p ps h none =
      let all = p ∷ ps in
      cond-false (list_any keeps_low (map (clipped clip) all)) (total (map low_share (map (clipped clip) all))) (least (lows (map (clipped clip) all))) (none_keeps_low all h none)
      ∙ least_low_clipped clip p ps ∙ elim (cases_Bool (list_any keeps_low all)) [
        | inl some ↦ both_below (least (lows all)) (total (map low_share all)) (lowest_small some) (low_shares_small all none)
            ∙ ap (λ x. int_max x clip.low) (sym (cond-true (list_any keeps_low all) (total (map low_share all)) (least (lows all)) some))
        | inr above ↦ ap (λ x. int_max x clip.low) (sym (cond-false (list_any keeps_low all) (total (map low_share all)) (least (lows all)) above))
      ]
    where
      lowest_small : list_any keeps_low (p ∷ ps) ≡ true → least (lows (p ∷ ps)) ≤ℤ pos 0
      lowest_small some =
          let found = some_low (p ∷ ps) none some in
          let below = least_below found.0 (lows (p ∷ ps)) found.1 in
          no_more (least (lows (p ∷ ps))) found.0 below found.2
        where
          no_more : (x y : ℤ) → x ≤ℤ y → y ≤ℤ pos 0 → x ≤ℤ pos 0
          no_more x y h k = omega (arith, ints)

      both_below : (x y : ℤ) → x ≤ℤ pos 0 → y ≤ℤ pos 0 → int_max x clip.low ≡ int_max y clip.low
      both_below x y a b = omega (arith, ints, clamps)

-- ---- high ends

module _ (clip : Clip) where
  -- a clip that does not end below 0 changes no sign
  high_keeps : (p : Pair) → pos 0 ≤ℤ clip.high → keeps_high (clipped clip p) ≡ keeps_high p
  high_keeps p h = ap (λ b. p.certain || b) (same_test (pos 0) p.high (pos 0) (int_min p.high clip.high) (λ le. omega (arith, ints, clamps)) (λ more. omega (arith, ints, clamps)))

  highs_keep : (ps : List Pair) → pos 0 ≤ℤ clip.high → list_any keeps_high (map (clipped clip) ps) ≡ list_any keeps_high ps
  highs_keep [] h = refl
  highs_keep (p ∷ ps) h = ap (λ b. b || list_any keeps_high (map (clipped clip) ps)) (high_keeps p h) ∙ ap (λ b. keeps_high p || b) (highs_keep ps h)

  -- where no pair keeps the sum at the shares, none is changed
  high_one_same : (c : Bool) (l : ℤ) → pos 0 ≤ℤ clip.high → (c || int_le (pos 0) l) ≡ false → cond c (int_min l clip.high) (int_max (int_min l clip.high) (pos 0)) ≡ cond c l (int_max l (pos 0))
  high_one_same true l h none = absurd (true≢false none)
  high_one_same false l h none = (let more = is_above (pos 0) l none in omega (arith, ints, clamps))

  high_same : (c : Bool) (l : ℤ) → pos 0 ≤ℤ clip.high → (c || int_le (pos 0) l) ≡ false → int_min l clip.high ≡ l
  high_same true l h none = absurd (true≢false none)
  high_same false l h none = (let more = is_above (pos 0) l none in omega (arith, ints, clamps))

  high_shares_same : (ps : List Pair) → pos 0 ≤ℤ clip.high → list_any keeps_high ps ≡ false → total (map high_share (map (clipped clip) ps)) ≡ total (map high_share ps)
  high_shares_same [] h none = refl
  high_shares_same (p ∷ ps) h none =
      let parts = or_parts (keeps_high p) (list_any keeps_high ps) none in
      ap (λ x. x +ℤ total (map high_share (map (clipped clip) ps))) (high_one_same p.certain p.high h parts.0) ∙ ap (λ x. high_share p +ℤ x) (high_shares_same ps h parts.1)

  highs_same : (ps : List Pair) → pos 0 ≤ℤ clip.high → list_any keeps_high ps ≡ false → highs (map (clipped clip) ps) ≡ highs ps
  highs_same [] h none = refl
  highs_same (p ∷ ps) h none =
      let parts = or_parts (keeps_high p) (list_any keeps_high ps) none in
      ap (λ x. x ∷ highs (map (clipped clip) ps)) (high_same p.certain p.high h parts.0) ∙ ap (λ xs. p.high ∷ xs) (highs_same ps h parts.1)

  -- both sums are those of the shares
  high_both_shares : (ps : List Pair) (raise : ℤ) → total (map high_share (map (clipped clip) ps)) ≡ (total (map high_share ps) +ℤ raise) → list_any keeps_high (map (clipped clip) ps) ≡ true → list_any keeps_high ps ≡ true →
      greatest_sum (map (clipped clip) ps) ≡ (greatest_sum ps +ℤ raise)
  high_both_shares ps raise moved new old =
      cond-true (list_any keeps_high (map (clipped clip) ps)) (total (map high_share (map (clipped clip) ps))) (greatest (highs (map (clipped clip) ps))) new
      ∙ moved ∙ ap (λ x. x +ℤ raise) (sym (cond-true (list_any keeps_high ps) (total (map high_share ps)) (greatest (highs ps)) old))

  high_neither : (ps : List Pair) (raise : ℤ) → total (map high_share (map (clipped clip) ps)) ≡ (total (map high_share ps) +ℤ raise) → pos 0 ≤ℤ clip.high → list_any keeps_high ps ≡ false →
      greatest_sum (map (clipped clip) ps) ≡ (greatest_sum ps +ℤ raise)
  high_neither ps raise moved h none =
      let same = high_shares_same ps h none in
      let still : raise ≡ pos 0 = no_change (total (map high_share (map (clipped clip) ps))) (total (map high_share ps)) raise moved same in
      cond-false (list_any keeps_high (map (clipped clip) ps)) (total (map high_share (map (clipped clip) ps))) (greatest (highs (map (clipped clip) ps))) (highs_keep ps h ∙ none)
      ∙ ap greatest (highs_same ps h none) ∙ sym (cond-false (list_any keeps_high ps) (total (map high_share ps)) (greatest (highs ps)) none)
      ∙ nothing_added (greatest_sum ps) raise still
    where
      no_change : (x y d : ℤ) → x ≡ (y +ℤ d) → x ≡ y → d ≡ pos 0
      no_change x y d e f = omega (arith, ints)

      nothing_added : (x d : ℤ) → d ≡ pos 0 → x ≡ (x +ℤ d)
      nothing_added x d e = omega (arith, ints)

  -- the greatest sum moves by what the shares do
  pub greatest_sum_moved : (ps : List Pair) (raise : ℤ) → total (map high_share (map (clipped clip) ps)) ≡ (total (map high_share ps) +ℤ raise) → (pos 0 ≤ℤ clip.high) ⊎ (some_certain ps ≡ true) →
      greatest_sum (map (clipped clip) ps) ≡ (greatest_sum ps +ℤ raise)
  greatest_sum_moved ps raise moved (inl h) =
      elim (cases_Bool (list_any keeps_high ps)) [
        | inl some ↦ high_both_shares ps raise moved (highs_keep ps h ∙ some) some
        | inr none ↦ high_neither ps raise moved h none
      ]
  greatest_sum_moved ps raise moved (inr some) =
      high_both_shares ps raise moved (certain_keeps (λ p. int_le (pos 0) p.high) (map (clipped clip) ps) (some_certain_clipped clip ps ∙ some)) (certain_keeps (λ p. int_le (pos 0) p.high) ps some)

  -- where the clip ends below 0, only a certain pair keeps the sum at the shares
  none_keeps_high : (ps : List Pair) → clip.high <ℤ pos 0 → some_certain ps ≡ false → list_any keeps_high (map (clipped clip) ps) ≡ false
  none_keeps_high [] h none = refl
  none_keeps_high (p ∷ ps) h none =
      let parts = or_parts p.certain (some_certain ps) none in
      let more : int_min p.high clip.high <ℤ pos 0 = omega (arith, ints, clamps) in
      or_from (keeps_high (clipped clip p)) _ (or_from p.certain (int_le (pos 0) (int_min p.high clip.high)) parts.0 (above (pos 0) (int_min p.high clip.high) more)) (none_keeps_high ps h parts.1)

  -- an uncertain pair adds at greatest 0
  high_share_great : (c : Bool) (l : ℤ) → c ≡ false → pos 0 ≤ℤ cond c l (int_max l (pos 0))
  high_share_great true l e = absurd (true≢false e)
  high_share_great false l e = omega (arith, ints, clamps)

  high_shares_great : (ps : List Pair) → some_certain ps ≡ false → pos 0 ≤ℤ total (map high_share ps)
  high_shares_great [] none = omega (arith, ints)
  high_shares_great (p ∷ ps) none =
      let parts = or_parts p.certain (some_certain ps) none in
      let here = high_share_great p.certain p.high parts.0 in
      let rest = high_shares_great ps parts.1 in
      add_great (high_share p) (total (map high_share ps)) here rest
    where
      add_great : (x y : ℤ) → pos 0 ≤ℤ x → pos 0 ≤ℤ y → pos 0 ≤ℤ (x +ℤ y)
      add_great x y h k = omega (arith, ints)

  some_high : (ps : List Pair) → some_certain ps ≡ false → list_any keeps_high ps ≡ true → (x : ℤ) × Has x (highs ps) × (pos 0 ≤ℤ x)
  some_high [] none some = absurd (false≢true some)
  some_high (p ∷ ps) none some =
      let parts = or_parts p.certain (some_certain ps) none in
      elim (or_cases (keeps_high p) (list_any keeps_high ps) some) [
        | inl here ↦ elim (or_cases p.certain (int_le (pos 0) p.high) here) [
          | inl t ↦ absurd (true≢false (sym t ∙ parts.0))
          | inr le ↦ (p.high, inl refl, is_at_most (pos 0) p.high le)
        ]
        | inr rest ↦ (let found = some_high ps parts.1 rest in (found.0, inr found.1, found.2))
      ]

  -- then the greatest sum is one high end, no greater than where the clip ends
  pub greatest_sum_lowered : (p : Pair) (ps : List Pair) → clip.high <ℤ pos 0 → some_certain (p ∷ ps) ≡ false → greatest_sum (map (clipped clip) (p ∷ ps)) ≡ int_min (greatest_sum (p ∷ ps)) clip.high
  greatest_sum_lowered p ps h none =
      let all = p ∷ ps in
      cond-false (list_any keeps_high (map (clipped clip) all)) (total (map high_share (map (clipped clip) all))) (greatest (highs (map (clipped clip) all))) (none_keeps_high all h none)
      ∙ greatest_high_clipped clip p ps ∙ elim (cases_Bool (list_any keeps_high all)) [
        | inl some ↦ both_below (greatest (highs all)) (total (map high_share all)) (highest_great some) (high_shares_great all none)
            ∙ ap (λ x. int_min x clip.high) (sym (cond-true (list_any keeps_high all) (total (map high_share all)) (greatest (highs all)) some))
        | inr above ↦ ap (λ x. int_min x clip.high) (sym (cond-false (list_any keeps_high all) (total (map high_share all)) (greatest (highs all)) above))
      ]
    where
      highest_great : list_any keeps_high (p ∷ ps) ≡ true → pos 0 ≤ℤ greatest (highs (p ∷ ps))
      highest_great some =
          let found = some_high (p ∷ ps) none some in
          let below = greatest_above found.0 (highs (p ∷ ps)) found.1 in
          no_more (greatest (highs (p ∷ ps))) found.0 below found.2
        where
          no_more : (x y : ℤ) → y ≤ℤ x → pos 0 ≤ℤ y → pos 0 ≤ℤ x
          no_more x y h k = omega (arith, ints)

      both_below : (x y : ℤ) → pos 0 ≤ℤ x → pos 0 ≤ℤ y → int_min x clip.high ≡ int_min y clip.high
      both_below x y a b = omega (arith, ints, clamps)
