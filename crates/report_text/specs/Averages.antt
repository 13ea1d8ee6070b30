-- What a line says of an average.
use Rattle.std.specs.Prelude.{◌≡◌, ◌≢◌, ℕ, ◌<◌, ◌^◌, ◌==◌, ◌&&◌, Bool, pos, List, ◌++◌, codes, decimal}
use Rattle.std.specs.Ordering.{int_eq}
use Rattle.report_text.specs.Words.{ends_text, interval_text}
use Rattle.query_model.specs.declared.bounds.Nullity.{Nullity}
use Rattle.query_model.specs.declared.bounds.Nullity.TheVariants.{Never, Possibly, Always}
use Rattle.report_text.specs.Numbers.{CanBeRead, number_text}
use Rattle.report_text.specs.declared.averages.Ratio.{Ratio}
use Rattle.report_text.specs.declared.averages.ShownAverage.{ShownAverage}
use Rattle.report_text.specs.declared.layouts.Layout.{Layout}

-- a sum over a number of rows
abbrev pub ratio_text : Ratio → List ℕ
ratio_text ratio = number_text ratio.sum ++ (codes "/" ++ decimal ratio.rows)

-- two ratios are the same only where their parts are
abbrev pub is_same_ratio : Ratio → Ratio → Bool
is_same_ratio a b = int_eq a.sum.units b.sum.units && a.rows == b.rows

-- one end where both are the same, else both
abbrev pub average_ends : ShownAverage → List ℕ
average_ends shown = ends_text (is_same_ratio shown.low shown.high) (ratio_text shown.low) (ratio_text shown.high)

-- and whether there may be no answer
abbrev pub average_text : ShownAverage → List ℕ
average_text shown = interval_text shown.null (average_ends shown)

-- a number over a count that is not 0
pub record CanBeDivided (ratio : Ratio) : Type 0 where
  pub sum : CanBeRead ratio.sum
  pub few : ratio.rows < 2 ^ 64
  pub some : 0 < ratio.rows

-- ends with equally many decimals
pub record AreRatios (shown : ShownAverage) : Type 0 where
  pub low : CanBeDivided shown.low
  pub high : CanBeDivided shown.high
  pub decimals : shown.low.sum.decimals ≡ shown.high.sum.decimals

abbrev pub no_ratio : Ratio
no_ratio = record { sum = record { decimals = 0; units = pos 0 }; rows = 1 }

-- no answer has no ends
pub record IsNoAverage (shown : ShownAverage) : Type 0 where
  pub low : shown.low ≡ no_ratio
  pub high : shown.high ≡ no_ratio

abbrev pub IsShownAverageBy : Nullity → ShownAverage → Type 0
IsShownAverageBy Never shown = AreRatios shown
IsShownAverageBy Possibly shown = AreRatios shown
IsShownAverageBy Always shown = IsNoAverage shown

-- an average that a report shows
abbrev pub IsShownAverage : ShownAverage → Type 0
IsShownAverage shown = IsShownAverageBy shown.null shown

-- an average with these ends
pub record HasRatios (null : Nullity) (low high : List ℕ) (shown : ShownAverage) : Type 0 where
  pub word : shown.null ≡ null
  pub low_so : ratio_text shown.low ≡ low
  pub high_so : ratio_text shown.high ≡ high

-- the average of a layout
pub record IsAverageIn (layout : Layout) (shown : ShownAverage) : Type 0 where
  pub word : shown.null ≡ layout.null
  pub ends : layout.null ≢ Always → HasRatios layout.null layout.low.now layout.high.now shown
