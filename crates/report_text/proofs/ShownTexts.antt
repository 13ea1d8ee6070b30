-- Which numbers the lines of a report show.
use Rattle.std.proofs.Common.{◌≡◌, ◌≢◌, ℕ, ◌==◌, Bool, true, false, List, refl, sym, ap, subst, ◌∙◌, arith, ℤ, pos, FitsSigned}
use Rattle.std.proofs.lemmas.Bool.{and_parts, false≢true}
use Rattle.std.proofs.lemmas.Bool.Decides.{Decides-eqb, Decides-int_eq}
use Rattle.std.proofs.lemmas.Slice.Eq.{bytes_eq-Decides}
use Rattle.std.specs.Int.{w128}
use Rattle.std.specs.Ordering.{int_eq}
use Rattle.std.specs.Str.{bytes_eq}
use Rattle.query_model.specs.declared.bounds.Nullity.{Nullity}
use Rattle.query_model.specs.declared.bounds.Nullity.TheVariants.{Never, Possibly, Always}
use Rattle.report_text.proofs.EndTexts.{end_is_end}
use Rattle.report_text.specs.Averages.{AreRatios, CanBeDivided, IsShownAverage, IsShownAverageBy, is_same_ratio, ratio_text}
use Rattle.report_text.specs.Bounds.{AreEnds, IsShown, IsShownBy, high_text, low_text}
use Rattle.report_text.specs.Forms.{HasTextsIn, IsIntervalEnd, text_in}
use Rattle.report_text.specs.Layouts.{IsEnd}
use Rattle.report_text.specs.declared.forms.Form.{Form}
use Rattle.report_text.specs.declared.forms.Form.TheVariants.{Decimals}
use Rattle.report_text.specs.declared.forms.IntervalEnd.{IntervalEnd}
use Rattle.report_text.specs.declared.averages.Ratio.{Ratio}
use Rattle.report_text.specs.declared.averages.ShownAverage.{ShownAverage}
use Rattle.report_text.specs.declared.bounds.ShownBound.{ShownBound}

-- a text is no other text
pub other_text : (xs ys : List ℕ) → false ≡ bytes_eq xs ys → xs ≡ ys → ⊥
other_text xs ys h e = false≢true (h ∙ (bytes_eq-Decides xs ys).1 e)

-- ---- bounds

abbrev pub low_of : ShownBound → IntervalEnd
low_of shown = record { form = shown.form; value = shown.bound.lo }

abbrev pub high_of : ShownBound → IntervalEnd
high_of shown = record { form = shown.form; value = shown.bound.hi }

zero_fits : FitsSigned w128 (pos 0)
zero_fits = record { sfits = omega arith }

no_end : (form : Form) (value : ℤ) → form ≡ Decimals 0 → value ≡ pos 0 → IsIntervalEnd (record { form = form; value = value })
no_end form value f v =
    subst (λ (x : Form). IsIntervalEnd (record { form = x; value = value })) (sym f)
    (subst (λ (x : ℤ). IsIntervalEnd (record { form = Decimals 0; value = x })) (sym v) (record { has = omega arith; fits = zero_fits }))

low_by : (null : Nullity) (shown : ShownBound) → IsShownBy null shown → IsIntervalEnd (low_of shown)
low_by Never shown h = record { has = h.texts.0; fits = h.low }
low_by Possibly shown h = record { has = h.texts.0; fits = h.low }
low_by Always shown h = no_end shown.form shown.bound.lo h.form h.low

high_by : (null : Nullity) (shown : ShownBound) → IsShownBy null shown → IsIntervalEnd (high_of shown)
high_by Never shown h = record { has = h.texts.1; fits = h.high }
high_by Possibly shown h = record { has = h.texts.1; fits = h.high }
high_by Always shown h = no_end shown.form shown.bound.hi h.form h.high

pub low_can : (shown : ShownBound) → IsShown shown → IsIntervalEnd (low_of shown)
low_can shown h = low_by shown.bound.null shown h

pub high_can : (shown : ShownBound) → IsShown shown → IsIntervalEnd (high_of shown)
high_can shown h = high_by shown.bound.null shown h

-- both ends have texts
pub texts_of : (shown : ShownBound) → IsShown shown → HasTextsIn shown.form shown.bound
texts_of shown h = ((low_can shown h).has, (high_can shown h).has)

pub low_end : (shown : ShownBound) → IsShown shown → IsEnd (low_text shown)
low_end shown h = end_is_end (low_of shown) (low_can shown h)

pub high_end : (shown : ShownBound) → IsShown shown → IsEnd (high_text shown)
high_end shown h = end_is_end (high_of shown) (high_can shown h)

pub equal_ends : (shown : ShownBound) → int_eq shown.bound.lo shown.bound.hi ≡ true → low_text shown ≡ high_text shown
equal_ends shown h = ap (λ (z : ℤ). text_in shown.form z) ((Decides-int_eq shown.bound.lo shown.bound.hi).0 h)

single_by : (null : Nullity) (shown : ShownBound) (single : Bool) → IsShownBy null shown → (null ≢ Always → single ≡ int_eq shown.bound.lo shown.bound.hi) →
    (null ≡ Always → single ≡ true) → single ≡ int_eq shown.bound.lo shown.bound.hi
single_by Never shown single h some nothing = some (λ e. absurd cc)
single_by Possibly shown single h some nothing = some (λ e. absurd cc)
single_by Always shown single h some nothing = nothing refl ∙ sym (rw (h.low, h.high) refl)

-- a single end stands just where both are the same
pub single_is : (shown : ShownBound) (null : Nullity) (single : Bool) → IsShown shown → null ≡ shown.bound.null →
    (shown.bound.null ≢ Always → single ≡ int_eq shown.bound.lo shown.bound.hi) → (null ≡ Always → single ≡ true) →
    single ≡ int_eq shown.bound.lo shown.bound.hi
single_is shown null single h word some nothing = single_by shown.bound.null shown single h some (λ e. nothing (word ∙ e))

ends_by : (null : Nullity) (shown : ShownBound) → null ≢ Always → IsShownBy null shown → AreEnds shown
ends_by Never shown k h = h
ends_by Possibly shown k h = h
ends_by Always shown k h = absurd (k refl)

-- a bound with an answer has ends in order
pub ends_of : (shown : ShownBound) (null : Nullity) → null ≢ Always → shown.bound.null ≡ null → IsShown shown → AreEnds shown
ends_of shown null k e h = ends_by shown.bound.null shown (λ (a : shown.bound.null ≡ Always). k (sym e ∙ a)) h

shown_from : (null : Nullity) (shown : ShownBound) → null ≢ Always → AreEnds shown → IsShownBy null shown
shown_from Never shown k h = h
shown_from Possibly shown k h = h
shown_from Always shown k h = absurd (k refl)

pub ends_shown : (shown : ShownBound) → shown.bound.null ≢ Always → AreEnds shown → IsShown shown
ends_shown shown k h = shown_from shown.bound.null shown k h

-- ---- averages

no_ratio_can : (ratio : Ratio) → ratio ≡ record { sum = record { decimals = 0; units = pos 0 }; rows = 1 } → CanBeDivided ratio
no_ratio_can ratio e =
    subst CanBeDivided (sym e) (record { sum = record { few = omega arith; fits = zero_fits }; few = omega arith; some = omega arith })

low_ratio_by : (null : Nullity) (shown : ShownAverage) → IsShownAverageBy null shown → CanBeDivided shown.low
low_ratio_by Never shown h = h.low
low_ratio_by Possibly shown h = h.low
low_ratio_by Always shown h = no_ratio_can shown.low h.low

high_ratio_by : (null : Nullity) (shown : ShownAverage) → IsShownAverageBy null shown → CanBeDivided shown.high
high_ratio_by Never shown h = h.high
high_ratio_by Possibly shown h = h.high
high_ratio_by Always shown h = no_ratio_can shown.high h.high

pub low_ratio_can : (shown : ShownAverage) → IsShownAverage shown → CanBeDivided shown.low
low_ratio_can shown h = low_ratio_by shown.null shown h

pub high_ratio_can : (shown : ShownAverage) → IsShownAverage shown → CanBeDivided shown.high
high_ratio_can shown h = high_ratio_by shown.null shown h

decimals_by : (null : Nullity) (shown : ShownAverage) → IsShownAverageBy null shown → shown.low.sum.decimals ≡ shown.high.sum.decimals
decimals_by Never shown h = h.decimals
decimals_by Possibly shown h = h.decimals
decimals_by Always shown h = ap (λ (r : Ratio). r.sum.decimals) (h.low ∙ sym h.high)

pub decimals_same : (shown : ShownAverage) → IsShownAverage shown → shown.low.sum.decimals ≡ shown.high.sum.decimals
decimals_same shown h = decimals_by shown.null shown h

-- the same sum over the same number of rows, with equally many decimals
pub same_ratios : (shown : ShownAverage) → IsShownAverage shown → is_same_ratio shown.low shown.high ≡ true → ratio_text shown.low ≡ ratio_text shown.high
same_ratios shown h same =
    let a = shown.low in
    let b = shown.high in
    let parts = and_parts (int_eq a.sum.units b.sum.units) (a.rows == b.rows) same in
    let units = (Decides-int_eq a.sum.units b.sum.units).0 parts.0 in
    let rows = (Decides-eqb a.rows b.rows).0 parts.1 in
    let decimals = decimals_same shown h in
    rw (units, rows, decimals)

same_single_by : (null : Nullity) (shown : ShownAverage) (single : Bool) → IsShownAverageBy null shown → (null ≢ Always → single ≡ is_same_ratio shown.low shown.high) →
    (null ≡ Always → single ≡ true) → single ≡ is_same_ratio shown.low shown.high
same_single_by Never shown single h some nothing = some (λ e. absurd cc)
same_single_by Possibly shown single h some nothing = some (λ e. absurd cc)
same_single_by Always shown single h some nothing = nothing refl ∙ sym (rw (h.low, h.high) refl)

-- a single end stands just where both are the same
pub same_single : (shown : ShownAverage) (null : Nullity) (single : Bool) → IsShownAverage shown → null ≡ shown.null →
    (shown.null ≢ Always → single ≡ is_same_ratio shown.low shown.high) → (null ≡ Always → single ≡ true) → single ≡ is_same_ratio shown.low shown.high
same_single shown null single h word some nothing = same_single_by shown.null shown single h some (λ e. nothing (word ∙ e))

average_from : (null : Nullity) (shown : ShownAverage) → null ≢ Always → AreRatios shown → IsShownAverageBy null shown
average_from Never shown k h = h
average_from Possibly shown k h = h
average_from Always shown k h = absurd (k refl)

pub ratios_shown : (shown : ShownAverage) → shown.null ≢ Always → AreRatios shown → IsShownAverage shown
ratios_shown shown k h = average_from shown.null shown k h

-- ---- what is read from two ends

pub bound_is : (shown : ShownBound) (null : Nullity) (low high : IntervalEnd) → low ≡ low_of shown → high ≡ high_of shown → shown.bound.null ≡ null →
    record { form = low.form; bound = record { null = null; lo = low.value; hi = high.value } } ≡ shown
bound_is shown null low high is_low is_high is_null = rw (is_low, is_high, ← is_null)

pub average_is : (shown : ShownAverage) (null : Nullity) (low high : Ratio) → low ≡ shown.low → high ≡ shown.high → shown.null ≡ null →
    record { null = null; low = low; high = high } ≡ shown
average_is shown null low high is_low is_high is_null = rw (is_low, is_high, ← is_null)
