-- What a line says of the least or the greatest text.
use Rattle.std.specs.Prelude.{◌≡◌, ◌≢◌, ℕ, List, ◌++◌, codes, decimal}
use Rattle.std.specs.declared.option.Option.{Option}
use Rattle.std.specs.declared.option.Option.TheVariants.{Some, None}
use Rattle.report_text.specs.Bounds.{IsShown, shown_text}
use Rattle.report_text.specs.Intervals.{key_interval}
use Rattle.report_text.specs.Keys.{IsShownSpan}
use Rattle.report_text.specs.declared.bounds.ShownBound.{ShownBound}
use Rattle.report_text.specs.declared.keys.ShownEnds.{ShownEnds}
use Rattle.report_text.specs.declared.keys.ShownEnds.TheVariants.{NoText, Texts}
use Rattle.report_text.specs.declared.keys.ShownSpan.{ShownSpan}
use Rattle.report_text.specs.declared.keys.TextEnds.{TextEnds}
use Rattle.report_text.specs.declared.text_answers.TextAnswer.{TextAnswer}

-- between two texts, or a dash where the column has none
abbrev pub ends_of : Option TextEnds → ShownEnds
ends_of None = NoText
ends_of (Some ends) = Texts ends

-- it is told as where the key of a row lies
abbrev pub span_of : TextAnswer → ShownSpan
span_of answer = record { null = answer.null; ends = Some (ends_of answer.ends) }

abbrev pub text_of : TextAnswer → List ℕ
text_of answer = key_interval (span_of answer)

-- its ends are in order
abbrev pub IsTextAnswer : TextAnswer → Type 0
IsTextAnswer answer = IsShownSpan (span_of answer)

-- the number of an item, and where its text lies
abbrev pub text_item_line : ℕ → TextAnswer → List ℕ
text_item_line number answer = decimal number ++ (codes " " ++ text_of answer)

-- ---- laws

-- the line of an item says one such answer
abbrev pub TextItemsSayOne : Type 0
TextItemsSayOne =
    (number : ℕ) (answer other : TextAnswer) → IsTextAnswer answer → IsTextAnswer other →
    text_item_line number answer ≡ text_item_line number other → answer ≡ other

-- and none that says it says where a number or a date lies, or that there is no answer
abbrev pub TextsAreNoValues : Type 0
TextsAreNoValues = (answer : TextAnswer) (shown : ShownBound) → IsTextAnswer answer → IsShown shown → text_of answer ≢ shown_text shown
