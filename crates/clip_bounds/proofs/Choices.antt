-- Choices of one outcome for each pair, where the pairs are clipped.
use Rattle.std.proofs.Common.{◌≡◌, ℕ, zero, suc, ◌+◌, ◌<◌, ◌≤◌, ℤ, ◌≤ℤ◌, List, [], ◌∷◌, map, filter_map, refl, ap, ◌∙◌, arith, Option, Some, None}
use Rattle.std.specs.List.{cons_option, range_with_len}
use Rattle.std.specs.Option.{option_map}
use Rattle.std.proofs.lemmas.Int.{ints, clamps}
use Rattle.interval_calc.specs.Intervals.{Within}
use Rattle.query_model.specs.Bounds.{Pair}
use Rattle.query_model.specs.Laws.{AreOutcomes, ArePairs, IsOutcome, present}
use Rattle.clip_bounds.specs.declared.clip.Clip.{Clip}
use Rattle.clip_bounds.specs.Clipped.{clipped}
use Rattle.clip_bounds.proofs.Passing.{range_of_clip}

-- each number lies in the clip
abbrev pub AreWithin : Clip → List ℤ → Type 0
AreWithin clip [] = Unit {0}
AreWithin clip (x ∷ xs) = Within (range_of_clip clip) x × AreWithin clip xs

clipped_outcome : (clip : Clip) (p : Pair) (v : ℤ) → IsOutcome p (Some v) → Within (range_of_clip clip) v → IsOutcome (clipped clip p) (Some v)
clipped_outcome clip p v h w =
    let low = h.0 in
    let high = h.1 in
    let above = w.above in
    let below = w.below in
    (omega (arith, ints, clamps), omega (arith, ints, clamps))

unclipped_outcome : (clip : Clip) (p : Pair) (v : ℤ) → IsOutcome (clipped clip p) (Some v) → IsOutcome p (Some v) × Within (range_of_clip clip) v
unclipped_outcome clip p v h =
    let low = h.0 in
    let high = h.1 in
    ((omega (arith, ints, clamps), omega (arith, ints, clamps)), record { above = omega (arith, ints, clamps); below = omega (arith, ints, clamps) })

-- a choice whose values lie in the clip is one for the clipped pairs
pub clipped_choice : (clip : Clip) (ps : List Pair) (os : List (Option ℤ)) → AreOutcomes ps os → AreWithin clip (present os) → AreOutcomes (map (clipped clip) ps) os
clipped_choice clip [] [] c w = tt
clipped_choice clip [] (o ∷ os) c w = c
clipped_choice clip (p ∷ ps) [] c w = c
clipped_choice clip (p ∷ ps) (None ∷ os) c w = (c.0, clipped_choice clip ps os c.1 w)
clipped_choice clip (p ∷ ps) (Some v ∷ os) c w = (clipped_outcome clip p v c.0 w.0, clipped_choice clip ps os c.1 w.1)

-- and the other way round
pub unclipped_choice : (clip : Clip) (ps : List Pair) (os : List (Option ℤ)) → AreOutcomes (map (clipped clip) ps) os → AreOutcomes ps os × AreWithin clip (present os)
unclipped_choice clip [] [] c = (tt, tt)
unclipped_choice clip [] (o ∷ os) c = absurd c
unclipped_choice clip (p ∷ ps) [] c = absurd c
unclipped_choice clip (p ∷ ps) (None ∷ os) c = (let rest = unclipped_choice clip ps os c.1 in ((c.0, rest.0), rest.1))
unclipped_choice clip (p ∷ ps) (Some v ∷ os) c =
    let here = unclipped_outcome clip p v c.0 in
    let rest = unclipped_choice clip ps os c.1 in
    ((here.0, rest.0), (here.1, rest.1))

-- ---- lists of what rows give

-- numbers that rows give
within_more : (clip : Clip) (o : Option ℤ) (xs : List ℤ) → ((x : ℤ) → o ≡ Some x → Within (range_of_clip clip) x) → AreWithin clip xs → AreWithin clip (cons_option o xs)
within_more clip None xs h rest = rest
within_more clip (Some x) xs h rest = (h x refl, rest)

pub rows_within : (clip : Clip) (f : ℕ → Option ℤ) (a n m : ℕ) → a + n ≤ m → ((r : ℕ) → r < m → (x : ℤ) → f r ≡ Some x → Within (range_of_clip clip) x) →
    AreWithin clip (filter_map f (range_with_len a n))
rows_within clip f a zero m below h = tt
rows_within clip f a (suc n) m below h = within_more clip (f a) _ (h a (omega arith)) (rows_within clip f (a + 1) n m (omega arith) h)

-- clipped pairs that rows give
ordered_more : (clip : Clip) (o : Option Pair) (ps : List Pair) → ((p : Pair) → o ≡ Some p → (clipped clip p).low ≤ℤ (clipped clip p).high) →
    ArePairs (map (clipped clip) ps) → ArePairs (map (clipped clip) (cons_option o ps))
ordered_more clip None ps h rest = rest
ordered_more clip (Some p) ps h rest = (h p refl, rest)

pub rows_ordered : (clip : Clip) (f : ℕ → Option Pair) (a n m : ℕ) → a + n ≤ m → ((r : ℕ) → r < m → (p : Pair) → f r ≡ Some p → (clipped clip p).low ≤ℤ (clipped clip p).high) →
    ArePairs (map (clipped clip) (filter_map f (range_with_len a n)))
rows_ordered clip f a zero m below h = tt
rows_ordered clip f a (suc n) m below h = ordered_more clip (f a) _ (h a (omega arith)) (rows_ordered clip f (a + 1) n m (omega arith) h)

one_clipped : (clip : Clip) (o : Option Pair) (ps : List Pair) → map (clipped clip) (cons_option o ps) ≡ cons_option (option_map (clipped clip) o) (map (clipped clip) ps)
one_clipped clip None ps = refl
one_clipped clip (Some p) ps = refl

pub rows_clipped : (clip : Clip) (f : ℕ → Option Pair) (rs : List ℕ) → map (clipped clip) (filter_map f rs) ≡ filter_map (λ r. option_map (clipped clip) (f r)) rs
rows_clipped clip f [] = refl
rows_clipped clip f (r ∷ rs) = one_clipped clip (f r) (filter_map f rs) ∙ ap (cons_option (option_map (clipped clip) (f r))) (rows_clipped clip f rs)
