-- What the lines of parts say of the least or the greatest text, and what is said over all. No answer is null.
use Rattle.std.specs.Prelude.{Bool, not, List, map, IfSome}
use Rattle.std.specs.declared.option.Option.{Option}
use Rattle.std.specs.declared.option.Option.TheVariants.{Some, None}
use Rattle.std.specs.List.{All}
use Rattle.report_text.specs.TextAnswers.{IsTextAnswer}
use Rattle.report_text.specs.declared.keys.TextEnds.{TextEnds}
use Rattle.report_text.specs.declared.text_answers.TextAnswer.{TextAnswer}
use Rattle.text_extremes.specs.Bounds.{TextBound, combined}
use Rattle.text_extremes.specs.declared.combined.Loan.{Loan}
use Rattle.text_extremes.specs.declared.extreme.Extreme.{Extreme}

-- the bound whose texts stand elsewhere
abbrev pub bound_of : Loan → TextBound
bound_of loan = record { certain = loan.certain; low = loan.low.now; high = loan.high.now }

abbrev pub bound_by : Bool → Option TextEnds → Option TextBound
bound_by null None = None
bound_by null (Some ends) = Some (record { certain = not null; low = ends.low; high = ends.high })

-- the bound that a line tells: none where it says null, or that its column has no text
abbrev pub bound_told : Option TextAnswer → Option TextBound
bound_told None = None
bound_told (Some answer) = bound_by answer.null answer.ends

-- what is said of a bound
abbrev pub answer_by : Option TextBound → Option TextAnswer
answer_by None = None
answer_by (Some bound) = Some (record { null = not bound.certain; ends = Some (record { low = bound.low; high = bound.high }) })

abbrev pub said_over : Extreme → List (Option TextAnswer) → Option TextAnswer
said_over extreme answers = answer_by (combined extreme (map bound_told answers))

-- where a report can show what each part says, it can show what is said over all
abbrev pub AnswersAreShown : Type 0
AnswersAreShown =
    (extreme : Extreme) (answers : List (Option TextAnswer)) →
    All (λ answer. IfSome answer IsTextAnswer) answers → IfSome (said_over extreme answers) IsTextAnswer
