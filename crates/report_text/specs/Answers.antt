-- What a line says of an answer of any kind.
use Rattle.std.specs.Prelude.{◌≡◌, ℕ, ◌≤◌, List}
use Rattle.query_model.specs.declared.bounds.Nullity.TheVariants.{Never}
use Rattle.query_model.specs.declared.query.ItemKind.{ItemKind}
use Rattle.query_model.specs.declared.query.ItemKind.TheVariants.{Count, Sum, Min, Max, Avg}
use Rattle.report_text.specs.Averages.{IsShownAverage, average_text}
use Rattle.report_text.specs.Bounds.{IsShown, shown_text}
use Rattle.report_text.specs.Forms.{HasTextsIn, IsOfNumbers}
use Rattle.report_text.specs.declared.answers.Answer.{Answer}
use Rattle.report_text.specs.declared.answers.Answer.TheVariants.{Average, Value}
use Rattle.report_text.specs.declared.averages.ShownAverage.{ShownAverage}
use Rattle.report_text.specs.declared.bounds.ShownBound.{ShownBound}
use Rattle.report_text.specs.declared.forms.Form.TheVariants.{Decimals}

abbrev pub answer_text : Answer → List ℕ
answer_text (Value shown) = shown_text shown
answer_text (Average shown) = average_text shown

-- a number of rows is never null, and has no decimals
pub record IsRowCount (shown : ShownBound) : Type 0 where
  pub never : shown.bound.null ≡ Never
  pub whole : shown.form ≡ Decimals 0

-- a bound that a report shows of an item of that kind: a sum is a number, the least and the greatest may be dates
abbrev pub IsBoundFor : ItemKind → ShownBound → Type 0
IsBoundFor Count shown = IsShown shown × IsRowCount shown
IsBoundFor Sum shown = IsShown shown × IsOfNumbers shown.form
IsBoundFor Min shown = IsShown shown
IsBoundFor Max shown = IsShown shown
IsBoundFor Avg shown = ⊥

abbrev pub IsAverageFor : ItemKind → ShownAverage → Type 0
IsAverageFor Count shown = ⊥
IsAverageFor Sum shown = ⊥
IsAverageFor Min shown = ⊥
IsAverageFor Max shown = ⊥
IsAverageFor Avg shown = IsShownAverage shown

-- an answer that a report shows of such an item
abbrev pub IsAnswerOf : ItemKind → Answer → Type 0
IsAnswerOf kind (Value shown) = IsBoundFor kind shown
IsAnswerOf kind (Average shown) = IsAverageFor kind shown

-- its ends have texts: numbers with as many decimals as a column may have, or dates
abbrev pub CanBeWritten : Answer → Type 0
CanBeWritten (Value shown) = HasTextsIn shown.form shown.bound
CanBeWritten (Average shown) = (shown.low.sum.decimals ≤ 18) × (shown.high.sum.decimals ≤ 18)
