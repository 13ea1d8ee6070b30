-- Bounds that are shown as values of a column lie in what is declared of it.
use Rattle.std.proofs.Common.{◌≡◌, ◌≢◌, ℕ, zero, suc, ◌+◌, ◌<◌, ◌≤◌, ℤ, Bool, true, false, cond, List, [], ◌∷◌, length, filter_map, Some, None, inl, inr, refl, sym, subst, arith}
use Rattle.std.specs.List.{range_with_len, cons_option}
use Rattle.std.proofs.lemmas.Bool.{cases_Bool}
use Rattle.std.proofs.lemmas.Int.{ints}
use Rattle.interval_calc.specs.Intervals.{Interval, Within}
use Rattle.daq_table.specs.Tables.{Frame, ends_at}
use Rattle.query_model.specs.declared.bounds.Bound.{Bound}
use Rattle.query_model.specs.declared.bounds.Nullity.TheVariants.{Always}
use Rattle.query_model.specs.declared.bounds.Truth.{Truth}
use Rattle.query_model.specs.declared.bounds.Truth.TheVariants.{False, Unknown, True}
use Rattle.query_model.specs.Queries.{Term, Column, Literal, Add, Sub, Mul, Aggregate, Query}
use Rattle.query_model.specs.declared.query.Face.{Face}
use Rattle.query_model.specs.declared.query.Face.TheVariants.{Number}
use Rattle.query_model.specs.declared.query.ItemKind.{ItemKind}
use Rattle.query_model.specs.declared.query.ItemKind.TheVariants.{Count, Sum, Min, Max, Avg}
use Rattle.query_model.specs.Answers.{Key, least, greatest}
use Rattle.query_model.specs.Bounds.{Pair, bound_of, pair_by, pair_unless_false, truth_of_row, pairs, some_certain, lows, highs, certain_lows, certain_highs, high_of_least, low_of_greatest}
use Rattle.query_model.specs.Knowledge.{Knowledge, IsKnowledge, ranges_of}
use Rattle.query_model.specs.Truths.{and_of, null_of, span_of, truth_of_number}
use Rattle.query_model.specs.Validity.{FaceOf, declared_range, declared_ranges}
use Rattle.query_model.proofs.Extremes.{Has, least_stands, greatest_stands}
use Rattle.query_model.proofs.Spans.{IsSmaller, span_inside, declared_outside}
use Rattle.query_model.proofs.Queries.{ranges_ordered}
use Rattle.round_engine.specs.Promises.{IsShownWithin}

-- ---- pairs lie in the declared span

-- the ends of each pair lie in the interval
abbrev pub AreWithin : Interval → List Pair → Type 0
AreWithin i [] = Unit {0}
AreWithin i (p ∷ ps) = Within i p.low × Within i p.high × AreWithin i ps

ends_within : (s i : Interval) → IsSmaller s i → Within i s.low × Within i s.high
ends_within s i h =
    let ordered = h.ordered in
    let low = h.inside.low in
    let high = h.inside.high in
    (record { above = omega (arith, ints); below = omega (arith, ints) }, record { above = omega (arith, ints); below = omega (arith, ints) })

one_within : (t : Truth) (s i : Interval) (ps : List Pair) → IsSmaller s i → AreWithin i ps → AreWithin i (cons_option (pair_unless_false t s) ps)
one_within False s i ps h rest = rest
one_within Unknown s i ps h rest = (let ends = ends_within s i h in (ends.0, ends.1, rest))
one_within True s i ps h rest = (let ends = ends_within s i h in (ends.0, ends.1, rest))

pub rows_within : (counts : ℕ → Truth) (i : Aggregate) (frame : Frame) (known : Knowledge) (a n : ℕ) → IsKnowledge frame known → a + n ≤ frame.rows →
    AreWithin (span_of i.arg (declared_ranges frame)) (filter_map (λ r. pair_by (counts r) i (ranges_of frame known r)) (range_with_len a n))
rows_within counts i frame known a zero k h = tt
rows_within counts i frame known a (suc n) k h =
    one_within (and_of (counts a) (truth_of_number (null_of i.arg (ranges_of frame known a)))) (span_of i.arg (ranges_of frame known a)) (span_of i.arg (declared_ranges frame)) _
    (span_inside i.arg (ranges_of frame known a) (declared_ranges frame) (ranges_ordered frame known a k (omega arith)) (declared_outside frame known a))
    (rows_within counts i frame known (a + 1) n k (omega arith))

pub pairs_within : (query : Query) (i : Aggregate) (key : Key) (frame : Frame) (known : Knowledge) → IsKnowledge frame known →
    AreWithin (span_of i.arg (declared_ranges frame)) (pairs query i key frame known)
pairs_within query i key frame known k = rows_within (λ r. truth_of_row query key (ranges_of frame known r)) i frame known 0 frame.rows k (omega arith)

-- ---- least and greatest ends

low_within : (i : Interval) (ps : List Pair) (x : ℤ) → AreWithin i ps → Has x (lows ps) → Within i x
low_within i [] x h has = absurd has
low_within i (p ∷ ps) x h (inl e) = subst (Within i) (sym e) h.0
low_within i (p ∷ ps) x h (inr has) = low_within i ps x h.2 has

high_within : (i : Interval) (ps : List Pair) (x : ℤ) → AreWithin i ps → Has x (highs ps) → Within i x
high_within i [] x h has = absurd has
high_within i (p ∷ ps) x h (inl e) = subst (Within i) (sym e) h.1
high_within i (p ∷ ps) x h (inr has) = high_within i ps x h.2 has

-- the values of the pairs that are certain
abbrev kept : Bool → ℤ → List ℤ → List ℤ
kept b z zs = cons_option (cond b (Some z) None) zs

has_kept : (b : Bool) (z x : ℤ) (zs : List ℤ) (P : Type 0) → Has x (kept b z zs) → (x ≡ z → P) → (Has x zs → P) → P
has_kept true z x zs P (inl e) first rest = first e
has_kept true z x zs P (inr h) first rest = rest h
has_kept false z x zs P h first rest = rest h

certain_low_within : (i : Interval) (ps : List Pair) (x : ℤ) → AreWithin i ps → Has x (certain_lows ps) → Within i x
certain_low_within i [] x h has = absurd has
certain_low_within i (p ∷ ps) x h has =
    has_kept p.certain p.low x (certain_lows ps) (Within i x) has (λ e. subst (Within i) (sym e) h.0) (λ rest. certain_low_within i ps x h.2 rest)

certain_high_within : (i : Interval) (ps : List Pair) (x : ℤ) → AreWithin i ps → Has x (certain_highs ps) → Within i x
certain_high_within i [] x h has = absurd has
certain_high_within i (p ∷ ps) x h has =
    has_kept p.certain p.high x (certain_highs ps) (Within i x) has (λ e. subst (Within i) (sym e) h.1) (λ rest. certain_high_within i ps x h.2 rest)

some_lows : (ps : List Pair) → some_certain ps ≡ true → 0 < length (certain_lows ps)
some_lows [] h = absurd (search (arith, h))
some_lows (p ∷ ps) h =
    elim (cases_Bool p.certain) [
      | inl t ↦ rw t (omega arith)
      | inr f ↦ (let rest : some_certain ps ≡ true = rw f at h in rw f (some_lows ps rest))
    ]

some_highs : (ps : List Pair) → some_certain ps ≡ true → 0 < length (certain_highs ps)
some_highs [] h = absurd (search (arith, h))
some_highs (p ∷ ps) h =
    elim (cases_Bool p.certain) [
      | inl t ↦ rw t (omega arith)
      | inr f ↦ (let rest : some_certain ps ≡ true = rw f at h in rw f (some_highs ps rest))
    ]

least_within : (i : Interval) (xs : List ℤ) → 0 < length xs → ((x : ℤ) → Has x xs → Within i x) → Within i (least xs)
least_within i [] some h = absurd (omega arith)
least_within i (x ∷ xs) some h = h (least (x ∷ xs)) (least_stands x xs)

greatest_within : (i : Interval) (xs : List ℤ) → 0 < length xs → ((x : ℤ) → Has x xs → Within i x) → Within i (greatest xs)
greatest_within i [] some h = absurd (omega arith)
greatest_within i (x ∷ xs) some h = h (greatest (x ∷ xs)) (greatest_stands x xs)

pub least_low_within : (i : Interval) (p : Pair) (ps : List Pair) → AreWithin i (p ∷ ps) → Within i (least (lows (p ∷ ps)))
least_low_within i p ps h = least_within i (lows (p ∷ ps)) (omega arith) (λ x has. low_within i (p ∷ ps) x h has)

pub greatest_high_within : (i : Interval) (p : Pair) (ps : List Pair) → AreWithin i (p ∷ ps) → Within i (greatest (highs (p ∷ ps)))
greatest_high_within i p ps h = greatest_within i (highs (p ∷ ps)) (omega arith) (λ x has. high_within i (p ∷ ps) x h has)

high_of_least_within : (i : Interval) (p : Pair) (ps : List Pair) → AreWithin i (p ∷ ps) → Within i (high_of_least (p ∷ ps))
high_of_least_within i p ps h =
    elim (cases_Bool (some_certain (p ∷ ps))) [
      | inl t ↦ rw t (least_within i (certain_highs (p ∷ ps)) (some_highs (p ∷ ps) t) (λ x has. certain_high_within i (p ∷ ps) x h has))
      | inr f ↦ rw f (greatest_high_within i p ps h)
    ]

low_of_greatest_within : (i : Interval) (p : Pair) (ps : List Pair) → AreWithin i (p ∷ ps) → Within i (low_of_greatest (p ∷ ps))
low_of_greatest_within i p ps h =
    elim (cases_Bool (some_certain (p ∷ ps))) [
      | inl t ↦ rw t (greatest_within i (certain_lows (p ∷ ps)) (some_lows (p ∷ ps) t) (λ x has. certain_low_within i (p ∷ ps) x h has))
      | inr f ↦ rw f (least_low_within i p ps h)
    ]

-- ---- faces

min_within : (i : Interval) (ps : List Pair) → AreWithin i ps → (bound_of Min ps).null ≢ Always → Within i (bound_of Min ps).lo × Within i (bound_of Min ps).hi
min_within i [] h some = absurd (some refl)
min_within i (p ∷ ps) h some = (least_low_within i p ps h, high_of_least_within i p ps h)

max_within : (i : Interval) (ps : List Pair) → AreWithin i ps → (bound_of Max ps).null ≢ Always → Within i (bound_of Max ps).lo × Within i (bound_of Max ps).hi
max_within i [] h some = absurd (some refl)
max_within i (p ∷ ps) h some = (low_of_greatest_within i p ps h, greatest_high_within i p ps h)

number_shown : (frame : Frame) (face : Face) (bound : Bound) → (scale : ℕ) × (scale ≤ 18) × (face ≡ Number scale) → IsShownWithin frame face bound
number_shown frame face bound h = subst (λ f. IsShownWithin frame f bound) (sym h.2) tt

pub shown_within : (kind : ItemKind) (arg : Term) (face : Face) (frame : Frame) (ps : List Pair) → FaceOf kind arg face → AreWithin (span_of arg (declared_ranges frame)) ps →
    IsShownWithin frame face (bound_of kind ps)
shown_within Count arg face frame ps f h = number_shown frame face _ f
shown_within Sum arg face frame ps f h = number_shown frame face _ f
shown_within Avg arg face frame ps f h = number_shown frame face _ f
shown_within Min (Column c) face frame ps f h = subst (λ w. IsShownWithin frame w (bound_of Min ps)) (sym f) (min_within (declared_range (ends_at frame c)).numbers ps h)
shown_within Min (Literal n) face frame ps f h = number_shown frame face _ f
shown_within Min (Add a b) face frame ps f h = number_shown frame face _ f
shown_within Min (Sub a b) face frame ps f h = number_shown frame face _ f
shown_within Min (Mul a b) face frame ps f h = number_shown frame face _ f
shown_within Max (Column c) face frame ps f h = subst (λ w. IsShownWithin frame w (bound_of Max ps)) (sym f) (max_within (declared_range (ends_at frame c)).numbers ps h)
shown_within Max (Literal n) face frame ps f h = number_shown frame face _ f
shown_within Max (Add a b) face frame ps f h = number_shown frame face _ f
shown_within Max (Sub a b) face frame ps f h = number_shown frame face _ f
shown_within Max (Mul a b) face frame ps f h = number_shown frame face _ f
