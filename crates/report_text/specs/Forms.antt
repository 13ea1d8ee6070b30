-- The forms in which a report writes the ends of an answer.
use Rattle.std.specs.Prelude.{ℕ, ◌≤◌, ℤ, List, FitsSigned}
use Rattle.std.specs.Int.{w128}
use Rattle.daq_table.specs.Numbers.{scaled_text}
use Rattle.daq_table.specs.ValueTexts.{IsDay, text_of_date}
use Rattle.query_model.specs.declared.bounds.Bound.{Bound}
use Rattle.report_text.specs.declared.forms.Form.{Form}
use Rattle.report_text.specs.declared.forms.Form.TheVariants.{Date, Decimals}
use Rattle.report_text.specs.declared.forms.IntervalEnd.{IntervalEnd}

-- the text of a value: a number with its decimals, or the date of a day number
abbrev pub text_in : Form → ℤ → List ℕ
text_in (Decimals decimals) value = scaled_text decimals value
text_in Date value = text_of_date value

-- a number has as many decimals as a column may have, and a date lies in the years 0000 to 9999
abbrev pub HasTextIn : Form → ℤ → Type 0
HasTextIn (Decimals decimals) value = decimals ≤ 18
HasTextIn Date value = IsDay value

-- so do both ends of a bound
abbrev pub HasTextsIn : Form → Bound → Type 0
HasTextsIn form bound = HasTextIn form bound.lo × HasTextIn form bound.hi

-- the ends are numbers
abbrev pub IsOfNumbers : Form → Type 0
IsOfNumbers (Decimals decimals) = Unit {0}
IsOfNumbers Date = ⊥

abbrev pub text_of_end : IntervalEnd → List ℕ
text_of_end end = text_in end.form end.value

-- an end of 128 bits that has a text
pub record IsIntervalEnd (end : IntervalEnd) : Type 0 where
  pub has : HasTextIn end.form end.value
  pub fits : FitsSigned w128 end.value
