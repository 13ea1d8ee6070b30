-- The line of a group that says what a cell tells, and the answers of its items.
use Rattle.std.specs.Prelude.{ℕ, ◌+◌, ℤ, pos, neg_ℤ, int_le, nat_le, Bool, true, false, ◌&&◌, List, [], ◌∷◌, slice_get, if◌then◌else◌}
use Rattle.std.specs.Cmp.Lexicographic.{slice_cmp}
use Rattle.std.specs.Ordering.{is_le, nat_cmp}
use Rattle.std.specs.declared.option.Option.{Option}
use Rattle.std.specs.declared.option.Option.TheVariants.{Some, None}
use Rattle.interval_calc.specs.Intervals.{Fraction}
use Rattle.query_model.specs.Bounds.{AverageBound}
use Rattle.query_model.specs.declared.bounds.Nullity.{Nullity}
use Rattle.query_model.specs.declared.bounds.Nullity.TheVariants.{Never, Possibly, Always}
use Rattle.report_text.specs.declared.answers.Answer.{Answer}
use Rattle.report_text.specs.declared.answers.Answer.TheVariants as report
use Rattle.report_text.specs.declared.averages.Ratio.{Ratio}
use Rattle.report_text.specs.declared.averages.ShownAverage.{ShownAverage}
use Rattle.report_text.specs.declared.forms.Form.{Form}
use Rattle.report_text.specs.declared.forms.Form.TheVariants.{Date, Decimals}
use Rattle.report_text.specs.declared.keys.ShownEnds.{ShownEnds}
use Rattle.report_text.specs.declared.keys.ShownEnds.TheVariants as shown
use Rattle.report_text.specs.declared.keys.ShownSpan.{ShownSpan}
use Rattle.report_text.specs.declared.text_answers.TextAnswer.{TextAnswer}
use Rattle.shard_groups.specs.declared.keys.Ends.{Ends}
use Rattle.shard_groups.specs.declared.keys.KeyValue.{KeyValue}
use Rattle.shard_groups.specs.declared.keys.KeyValue.TheVariants.{Number, Text}
use Rattle.shard_groups.specs.declared.keys.Span.{Span}
use Rattle.shard_groups.specs.Groups.{Average, Said, Value}
use Rattle.part_groups.specs.Cells.{Told}
use Rattle.part_groups.specs.Forms.{form_at}
use Rattle.part_groups.specs.declared.forms.EndsForm.{EndsForm}
use Rattle.part_groups.specs.declared.forms.EndsForm.TheVariants.{Texts, Values}
use Rattle.part_groups.specs.declared.group.Group.{Group}

-- ---- its keys

-- numbers with as many decimals as a column may have, and the days of the years 0000 to 9999
abbrev pub has_text : Form → ℤ → Bool
has_text (Decimals decimals) value = nat_le decimals 18
has_text Date value = int_le (neg_ℤ (pos 719528)) value && int_le value (pos 2932896)

abbrev pub are_written : Form → ℤ → ℤ → Bool
are_written form low high = int_le low high && (has_text form low && has_text form high)

-- the values from one to the other, in a form; none where they are not in order, or where the form does not write them
abbrev pub values_between : Form → ℤ → ℤ → Option ShownEnds
values_between form low high =
    if are_written form low high then Some (shown.Values (record { form = form; low = low; high = high })) else None

abbrev pub texts_between : List ℕ → List ℕ → Option ShownEnds
texts_between low high = if is_le (slice_cmp nat_cmp low high) then Some (shown.Texts (record { low = low; high = high })) else None

abbrev pub ends_between : EndsForm → KeyValue → KeyValue → Option ShownEnds
ends_between (Values form) (Number low) (Number high) = values_between form low high
ends_between (Values form) (Number low) (Text high) = None
ends_between (Values form) (Text low) high = None
ends_between Texts (Number low) high = None
ends_between Texts (Text low) (Number high) = None
ends_between Texts (Text low) (Text high) = texts_between low high

abbrev pub shown_ends : Option EndsForm → Option Ends → Option ShownEnds
shown_ends None ends = None
shown_ends (Some form) None = None
shown_ends (Some form) (Some ends) = ends_between form ends.low ends.high

-- where neither null nor a value is allowed, a dash says so
abbrev pub or_dash : Bool → Option ShownEnds → Option ShownEnds
or_dash null (Some ends) = Some ends
or_dash true None = None
or_dash false None = Some shown.NoText

abbrev pub shown_span : Option EndsForm → Span → ShownSpan
shown_span form span = record { null = span.null; ends = or_dash span.null (shown_ends form span.ends) }

abbrev pub span_or_none : Option Span → Span
span_or_none None = record { null = false; ends = None }
span_or_none (Some span) = span

-- what is allowed in a column
abbrev pub span_at : ℕ → List Span → Span
span_at column spans = span_or_none (slice_get spans column)

-- for each column, from one on, what is allowed in it, in its form
abbrev pub shown_from : ℕ → List (Option EndsForm) → List Span → List ShownSpan
shown_from column [] spans = []
shown_from column (form ∷ forms) spans = shown_span form (span_at column spans) ∷ shown_from (column + 1) forms spans

-- ---- its answers

abbrev pub number_form : Option EndsForm → Form
number_form None = Decimals 0
number_form (Some Texts) = Decimals 0
number_form (Some (Values form)) = form

-- no answer is one of numbers without decimals
abbrev pub form_for : Nullity → Option EndsForm → Form
form_for Never form = number_form form
form_for Possibly form = number_form form
form_for Always form = Decimals 0

abbrev pub decimals_in : Form → ℕ
decimals_in (Decimals decimals) = decimals
decimals_in Date = 0

abbrev pub ratio_in : ℕ → Fraction → Ratio
ratio_in decimals fraction = record { sum = record { decimals = decimals; units = fraction.num }; rows = fraction.den }

abbrev pub average_in : ℕ → AverageBound → ShownAverage
average_in decimals bound = record { null = bound.null; low = ratio_in decimals bound.lo; high = ratio_in decimals bound.hi }

abbrev pub answer_in : Option EndsForm → Said → Answer
answer_in form (Value bound) = report.Value (record { form = form_for bound.null form; bound = bound })
answer_in form (Average bound) = report.Average (average_in (decimals_in (form_for bound.null form)) bound)

-- item by item, from one on
abbrev pub answers_from : ℕ → List (Option EndsForm) → List Said → List Answer
answers_from item forms [] = []
answers_from item forms (said ∷ others) = answer_in (form_at item forms) said ∷ answers_from (item + 1) forms others

-- ---- the group

-- the forms of the columns, and of the items, and the texts of keys
abbrev pub group_in : List (Option EndsForm) → List (Option EndsForm) → (List Span → List (Option TextAnswer)) → Told → Group
group_in columns items texts told = record {
  line = record { keys = shown_from 0 columns told.keys; present = told.present };
  answers = answers_from 0 items told.items;
  texts = texts told.keys;
}
