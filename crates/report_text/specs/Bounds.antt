-- What a line says of an answer that is no average.
use Rattle.std.specs.Prelude.{◌≡◌, ◌≢◌, ℕ, pos, ◌≤ℤ◌, List, FitsSigned}
use Rattle.std.specs.Int.{w128}
use Rattle.std.specs.Ordering.{int_eq}
use Rattle.report_text.specs.Forms.{HasTextsIn, text_in}
use Rattle.report_text.specs.Words.{ends_text, interval_text}
use Rattle.query_model.specs.declared.bounds.Nullity.{Nullity}
use Rattle.query_model.specs.declared.bounds.Nullity.TheVariants.{Never, Possibly, Always}
use Rattle.report_text.specs.declared.bounds.ShownBound.{ShownBound}
use Rattle.report_text.specs.declared.forms.Form.TheVariants.{Decimals}
use Rattle.report_text.specs.declared.layouts.Layout.{Layout}

-- the texts of the ends
abbrev pub low_text : ShownBound → List ℕ
low_text shown = text_in shown.form shown.bound.lo

abbrev pub high_text : ShownBound → List ℕ
high_text shown = text_in shown.form shown.bound.hi

-- one end where both are equal, else both
abbrev pub shown_ends : ShownBound → List ℕ
shown_ends shown = ends_text (int_eq shown.bound.lo shown.bound.hi) (low_text shown) (high_text shown)

-- and whether there may be no answer
abbrev pub shown_text : ShownBound → List ℕ
shown_text shown = interval_text shown.bound.null (shown_ends shown)

-- ends of 128 bits in order, which have texts in the form
pub record AreEnds (shown : ShownBound) : Type 0 where
  pub texts : HasTextsIn shown.form shown.bound
  pub low : FitsSigned w128 shown.bound.lo
  pub high : FitsSigned w128 shown.bound.hi
  pub ordered : shown.bound.lo ≤ℤ shown.bound.hi

-- no answer has no ends
pub record IsNothing (shown : ShownBound) : Type 0 where
  pub form : shown.form ≡ Decimals 0
  pub low : shown.bound.lo ≡ pos 0
  pub high : shown.bound.hi ≡ pos 0

abbrev pub IsShownBy : Nullity → ShownBound → Type 0
IsShownBy Never shown = AreEnds shown
IsShownBy Possibly shown = AreEnds shown
IsShownBy Always shown = IsNothing shown

-- a bound that a report shows
abbrev pub IsShown : ShownBound → Type 0
IsShown shown = IsShownBy shown.bound.null shown

-- a bound with these ends
pub record HasEnds (null : Nullity) (low high : List ℕ) (shown : ShownBound) : Type 0 where
  pub word : shown.bound.null ≡ null
  pub low_so : low_text shown ≡ low
  pub high_so : high_text shown ≡ high

-- the bound of a layout
pub record IsBoundIn (layout : Layout) (shown : ShownBound) : Type 0 where
  pub word : shown.bound.null ≡ layout.null
  pub ends : layout.null ≢ Always → HasEnds layout.null layout.low.now layout.high.now shown
