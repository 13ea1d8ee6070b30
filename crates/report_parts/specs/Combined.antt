-- What a line says of an answer over all parts, from what the lines of the parts say of it.
use Rattle.std.specs.Prelude.{ℕ, ◌==◌, max, pos, ◌≡◌, Bool, true, false, not, ◌||◌, ◌&&◌, nat_le, List, [], ◌∷◌, map, IsTrue, if◌then◌else◌}
use Rattle.std.specs.List.{list_all}
use Rattle.std.specs.declared.option.Option.{Option}
use Rattle.std.specs.declared.option.Option.TheVariants.{Some, None}
use Rattle.interval_calc.specs.Intervals.{Fraction}
use Rattle.query_model.specs.Bounds.{AverageBound}
use Rattle.query_model.specs.declared.bounds.Bound.{Bound}
use Rattle.query_model.specs.declared.bounds.Nullity.{Nullity}
use Rattle.query_model.specs.declared.bounds.Nullity.TheVariants.{Never, Possibly, Always}
use Rattle.query_model.specs.declared.query.ItemKind.{ItemKind}
use Rattle.query_model.specs.declared.query.ItemKind.TheVariants.{Count, Sum, Min, Max, Avg}
use Rattle.report_text.specs.declared.answers.Answer.{Answer}
use Rattle.report_text.specs.declared.answers.Answer.TheVariants.{Average, Value}
use Rattle.report_text.specs.Answers.{CanBeWritten}
use Rattle.report_text.specs.Forms.{HasTextsIn}
use Rattle.report_text.specs.declared.averages.Ratio.{Ratio}
use Rattle.report_text.specs.declared.averages.ShownAverage.{ShownAverage}
use Rattle.report_text.specs.declared.forms.Form.{Form}
use Rattle.report_text.specs.declared.forms.Form.TheVariants.{Date, Decimals}
use Rattle.report_text.specs.declared.text_answers.TextAnswer.{TextAnswer}
use Rattle.report_parts.specs.Entries.{answers_of, extras_of, have_extras}
use Rattle.report_parts.specs.Texts.{clips_of, tell_text, text_over, texts_of}
use Rattle.report_parts.specs.declared.entry.Entry.{Entry}
use Rattle.shard_bounds.specs.Averages.{FitsAverage, combined_average, hull_of_averages, no_average}
use Rattle.shard_bounds.specs.Combined.{FitsBound, combined}

-- ---- in which form the ends are written

abbrev pub null_of : Answer → Nullity
null_of (Value shown) = shown.bound.null
null_of (Average shown) = shown.null

-- the sums of an average are numbers
abbrev pub form_of : Answer → Form
form_of (Value shown) = shown.form
form_of (Average shown) = Decimals shown.low.sum.decimals

-- there may be an answer
abbrev pub is_possible : Nullity → Bool
is_possible Never = true
is_possible Possibly = true
is_possible Always = false

abbrev pub may_answer : Answer → Bool
may_answer answer = is_possible (null_of answer)

-- none may have an answer
abbrev pub are_all_null : List Answer → Bool
are_all_null answers = list_all (λ answer. not (may_answer answer)) answers

-- the form of the first part that may have an answer
abbrev pub shared_form : List Answer → Form
shared_form [] = Decimals 0
shared_form (answer ∷ answers) = if may_answer answer then form_of answer else shared_form answers

abbrev pub is_same_form : Form → Form → Bool
is_same_form (Decimals one) (Decimals other) = one == other
is_same_form (Decimals one) Date = false
is_same_form Date (Decimals other) = false
is_same_form Date Date = true

-- where there may be an answer it has this form
abbrev pub has_form : Form → Answer → Bool
has_form form answer = not (may_answer answer) || is_same_form (form_of answer) form

-- numbers have as many decimals as a column may have
abbrev pub is_few : Form → Bool
is_few (Decimals decimals) = nat_le decimals 18
is_few Date = true

-- all have one form: dates, or numbers of equally many decimals
abbrev pub are_alike : List Answer → Bool
are_alike answers = is_few (shared_form answers) && list_all (has_form (shared_form answers)) answers

abbrev pub AreAlike : List Answer → Type 0
AreAlike answers = IsTrue (are_alike answers)

-- ---- the answer over all parts

-- the bound that an answer tells; an average tells none
abbrev pub bound_of : Answer → Bound
bound_of (Value shown) = shown.bound
bound_of (Average shown) = record { null = Always; lo = pos 0; hi = pos 0 }

abbrev pub fraction_of : Ratio → Fraction
fraction_of ratio = record { num = ratio.sum.units; den = max ratio.rows 1 }

-- the bound of an average that an answer tells; another answer tells none
abbrev pub average_of : Answer → AverageBound
average_of (Value shown) = no_average
average_of (Average shown) = record { null = shown.null; lo = fraction_of shown.low; hi = fraction_of shown.high }

abbrev pub value_over : ItemKind → List Answer → Answer
value_over kind answers = Value (record { form = shared_form answers; bound = combined kind (map bound_of answers) })

abbrev pub ratio_of : ℕ → Fraction → Ratio
ratio_of decimals fraction = record { sum = record { decimals = decimals; units = fraction.num }; rows = fraction.den }

abbrev pub shown_average : ℕ → AverageBound → ShownAverage
shown_average decimals bound = record { null = bound.null; low = ratio_of decimals bound.lo; high = ratio_of decimals bound.hi }

-- the decimals of the sums
abbrev pub decimals_in : Form → ℕ
decimals_in (Decimals decimals) = decimals
decimals_in Date = 0

abbrev pub average_over : List Answer → Answer
average_over answers = Average (shown_average (decimals_in (shared_form answers)) (combined_average (map average_of answers)))

abbrev pub answer_over : ItemKind → List Answer → Answer
answer_over Count answers = value_over Count answers
answer_over Sum answers = value_over Sum answers
answer_over Min answers = value_over Min answers
answer_over Max answers = value_over Max answers
answer_over Avg answers = average_over answers

-- what the lines behind tell is combined as the answers are, but for averages: of two exact averages that are one the rows are not
-- known, so the whole lies between the least and the greatest of them
abbrev pub exact_over : List Answer → Answer
exact_over answers = Average (shown_average (decimals_in (shared_form answers)) (hull_of_averages (map average_of answers)))

abbrev pub extra_over : ItemKind → List Answer → Answer
extra_over Count answers = value_over Count answers
extra_over Sum answers = value_over Sum answers
extra_over Min answers = value_over Min answers
extra_over Max answers = value_over Max answers
extra_over Avg answers = exact_over answers

-- there is a line behind where each part has one
abbrev pub extra_of_all : ItemKind → List Entry → Option Answer
extra_of_all kind entries = if have_extras entries then Some (extra_over kind (extras_of entries)) else None

abbrev pub clip_of_all : ItemKind → List Entry → Option TextAnswer
clip_of_all kind entries = if have_extras entries then text_over kind (clips_of entries) else None

-- what the entries of all parts say of the item over all
abbrev pub entry_over : ItemKind → List Entry → Entry
entry_over kind entries = record {
  answer = answer_over kind (answers_of entries);
  extra = extra_of_all kind entries;
  text = text_over kind (texts_of entries);
  clip = clip_of_all kind entries;
}

-- the answers have one form, and so do those of the lines behind, where there is one over all; where a part tells a text, the others tell
-- texts too, or that there is no answer, and so it is in the lines behind
pub record AreAlikeEntries (entries : List Entry) : Type 0 where
  pub answers : AreAlike (answers_of entries)
  pub extras : have_extras entries ≡ true → AreAlike (extras_of entries)
  pub texts : tell_text (texts_of entries) ≡ true → are_all_null (answers_of entries) ≡ true
  pub clips : have_extras entries ≡ true → tell_text (clips_of entries) ≡ true → are_all_null (extras_of entries) ≡ true

-- ---- what can be written

-- its ends are numbers of 128 bits, which have texts in that form
pub record FitsValue (form : Form) (bound : Bound) : Type 0 where
  pub fits : FitsBound bound
  pub texts : HasTextsIn form bound

abbrev pub FitsValues : ItemKind → List Answer → Type 0
FitsValues kind answers = FitsValue (shared_form answers) (combined kind (map bound_of answers))

-- so are those of an average, and its numbers of rows have 64 bits
abbrev pub FitsOver : ItemKind → List Answer → Type 0
FitsOver Count answers = FitsValues Count answers
FitsOver Sum answers = FitsValues Sum answers
FitsOver Min answers = FitsValues Min answers
FitsOver Max answers = FitsValues Max answers
FitsOver Avg answers = FitsAverage (combined_average (map average_of answers))

-- the ends of exact averages are numbers of 128 bits over 64, and so is the hull
abbrev pub FitsExtra : ItemKind → List Answer → Type 0
FitsExtra Count answers = FitsValues Count answers
FitsExtra Sum answers = FitsValues Sum answers
FitsExtra Min answers = FitsValues Min answers
FitsExtra Max answers = FitsValues Max answers
FitsExtra Avg answers = Unit {0}

pub record FitEntries (kind : ItemKind) (entries : List Entry) : Type 0 where
  pub answers : FitsOver kind (answers_of entries)
  pub extras : have_extras entries ≡ true → FitsExtra kind (extras_of entries)

abbrev pub HasExtraText : Option Answer → Type 0
HasExtraText None = Unit {0}
HasExtraText (Some answer) = CanBeWritten answer

abbrev pub HasEntryTexts : Entry → Type 0
HasEntryTexts entry = CanBeWritten entry.answer × HasExtraText entry.extra
