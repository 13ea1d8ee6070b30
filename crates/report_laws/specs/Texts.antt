-- What reports show of the least or the greatest text is the answer that is read back, as a statement.
use Rattle.std.specs.Prelude.{◌≡◌, ◌≢◌, ℕ, Bool, true, false, List}
use Rattle.std.specs.declared.option.Option.{Option}
use Rattle.std.specs.declared.option.Option.TheVariants.{Some, None}
use Rattle.daq_table.specs.declared.head.ColumnHead.{ColumnHead}
use Rattle.daq_table.specs.declared.head.Kind.TheVariants as kinds
use Rattle.daq_table.specs.declared.table_head.Head.{Head}
use Rattle.query_model.specs.declared.bounds.Bound.{Bound}
use Rattle.query_model.specs.declared.bounds.Nullity.{Nullity}
use Rattle.query_model.specs.declared.bounds.Nullity.TheVariants.{Never, Possibly, Always}
use Rattle.query_model.specs.declared.query.Face.TheVariants.{OfColumn}
use Rattle.query_model.specs.declared.query.TypedQuery.{TypedQuery}
use Rattle.daq_report.specs.Intervals.{bound_text, column_of}
use Rattle.report_text.specs.TextAnswers.{IsTextAnswer, text_of}
use Rattle.report_text.specs.declared.keys.TextEnds.{TextEnds}
use Rattle.report_text.specs.declared.text_answers.TextAnswer.{TextAnswer}
use Rattle.report_laws.specs.Groups.{IsPlainPart, name_at}

abbrev pub may_be_null : Nullity → Bool
may_be_null Never = false
may_be_null Possibly = true
may_be_null Always = true

-- both texts, if they are there
abbrev pub both_names : Option (List ℕ) → Option (List ℕ) → Option TextEnds
both_names (Some low) (Some high) = Some (record { low = low; high = high })
both_names (Some low) None = None
both_names None high = None

-- what a line says of a bound in a column of these texts
abbrev pub answer_of : List (List ℕ) → Bound → TextAnswer
answer_of names bound = record { null = may_be_null bound.null; ends = both_names (name_at names bound.lo) (name_at names bound.hi) }

-- what is shown of the bound is this answer, and it is read back
pub record IsTextShown (head : Head) (query : TypedQuery) (c : ℕ) (names : List (List ℕ)) (bound : Bound) : Type 0 where
  pub text : bound_text head query (OfColumn c) bound ≡ text_of (answer_of names bound)
  pub is_answer : IsTextAnswer (answer_of names bound)

-- so it is where there may be an answer, of numbers that a column of texts may have
abbrev pub TextsAreShown : Type 0
TextsAreShown =
    (head : Head) (query : TypedQuery) (c : ℕ) (column : ColumnHead) (bound : Bound) →
    column_of head query c ≡ Some column → column.kind ≡ kinds.Text → bound.null ≢ Always →
    IsPlainPart column (record { low = bound.lo; high = bound.hi }) → IsTextShown head query c column.names bound
