-- In which form the values of a column, or the ends of the answers of an item, are written.
use Rattle.std.specs.Prelude.{◌≡◌, ℕ, ◌<◌, ◌==◌, Bool, true, false, List, [], ◌∷◌, IsTrue, is_some, length, map, slice_get, if◌then◌else◌}
use Rattle.std.specs.List.{flat_map, list_all}
use Rattle.std.specs.declared.option.Option.{Option}
use Rattle.std.specs.declared.option.Option.TheVariants.{Some, None}
use Rattle.query_model.specs.declared.bounds.Nullity.{Nullity}
use Rattle.query_model.specs.declared.bounds.Nullity.TheVariants.{Never, Possibly, Always}
use Rattle.query_model.specs.declared.query.ItemKind.{ItemKind}
use Rattle.report_text.specs.declared.answers.Answer.{Answer}
use Rattle.report_text.specs.declared.answers.Answer.TheVariants.{Average, Value}
use Rattle.report_text.specs.declared.forms.Form.{Form}
use Rattle.report_text.specs.declared.forms.Form.TheVariants.{Date, Decimals}
use Rattle.report_text.specs.declared.keys.ShownEnds.{ShownEnds}
use Rattle.report_text.specs.declared.keys.ShownEnds.TheVariants as shown
use Rattle.report_text.specs.declared.keys.ShownSpan.{ShownSpan}
use Rattle.part_groups.specs.Texts.{text_at}
use Rattle.part_groups.specs.declared.forms.EndsForm.{EndsForm}
use Rattle.part_groups.specs.declared.forms.EndsForm.TheVariants.{Texts, Values}
use Rattle.part_groups.specs.declared.forms.Places.{Places}
use Rattle.part_groups.specs.declared.forms.Places.TheVariants.{Columns, Items}
use Rattle.part_groups.specs.declared.group.Group.{Group}

-- ---- what a line tells

abbrev pub told_by_ends : Option ShownEnds → Option EndsForm
told_by_ends None = None
told_by_ends (Some (shown.Values ends)) = Some (Values ends.form)
told_by_ends (Some (shown.Texts ends)) = Some Texts
told_by_ends (Some shown.NoText) = Some Texts

-- null alone has no form
abbrev pub told_by_span : ShownSpan → Option EndsForm
told_by_span span = told_by_ends span.ends

-- no answer has none
abbrev pub told_by_null : Nullity → Form → Option EndsForm
told_by_null Never form = Some (Values form)
told_by_null Possibly form = Some (Values form)
told_by_null Always form = None

-- the sums of an average are numbers
abbrev pub told_by_answer : Answer → Option EndsForm
told_by_answer (Value shown) = told_by_null shown.bound.null shown.form
told_by_answer (Average shown) = told_by_null shown.null (Decimals shown.low.sum.decimals)

abbrev pub told_of_span : Option ShownSpan → Option EndsForm
told_of_span None = None
told_of_span (Some span) = told_by_span span

abbrev pub told_of_answer : Option Answer → Option EndsForm
told_of_answer None = None
told_of_answer (Some answer) = told_by_answer answer

-- a text, or else an answer
abbrev pub told_by_item : ℕ → Group → Option EndsForm
told_by_item item group = if is_some (text_at item group.texts) then Some Texts else told_of_answer (slice_get group.answers item)

-- of a column or an item, counted from 0
abbrev pub told_at : Places → ℕ → Group → Option EndsForm
told_at Columns number group = told_of_span (slice_get group.line.keys number)
told_at Items number group = told_by_item number group

-- line by line, over all parts
abbrev pub told_over : Places → ℕ → List (List Group) → List (Option EndsForm)
told_over places number parts = flat_map (map (told_at places number)) parts

-- ---- the form that they share

-- the first that is told
abbrev pub shared_form : List (Option EndsForm) → Option EndsForm
shared_form [] = None
shared_form (None ∷ forms) = shared_form forms
shared_form (Some form ∷ forms) = Some form

abbrev pub is_same : Form → Form → Bool
is_same (Decimals one) (Decimals other) = one == other
is_same (Decimals one) Date = false
is_same Date (Decimals other) = false
is_same Date Date = true

abbrev pub is_same_form : EndsForm → EndsForm → Bool
is_same_form (Values one) (Values other) = is_same one other
is_same_form (Values one) Texts = false
is_same_form Texts (Values other) = false
is_same_form Texts Texts = true

-- what is told, if anything, is the shared form
abbrev pub fits : Option EndsForm → Option EndsForm → Bool
fits shared None = true
fits None (Some form) = false
fits (Some other) (Some form) = is_same_form form other

-- all that are told are one: numbers of equally many decimals, dates, or texts
abbrev pub are_alike : List (Option EndsForm) → Bool
are_alike forms = list_all (fits (shared_form forms)) forms

abbrev pub AreAlike : Places → ℕ → List (List Group) → Type 0
AreAlike places number parts = IsTrue (are_alike (told_over places number parts))

abbrev pub AreAllAlike : Places → ℕ → List (List Group) → Type 0
AreAllAlike places count parts = (number : ℕ) → number < count → AreAlike places number parts

-- the lines of all parts write each of so many columns in one form, and so each item
pub record AreWrittenAlike (count : ℕ) (kinds : List ItemKind) (parts : List (List Group)) : Type 0 where
  pub columns : AreAllAlike Columns count parts
  pub items : AreAllAlike Items (length kinds) parts

abbrev pub told_form : Option (Option EndsForm) → Option EndsForm
told_form None = None
told_form (Some form) = form

abbrev pub form_at : ℕ → List (Option EndsForm) → Option EndsForm
form_at number forms = told_form (slice_get forms number)

-- the lines of all parts share these forms of so many columns or items
pub record AreSharedForms (places : Places) (count : ℕ) (parts : List (List Group)) (forms : List (Option EndsForm)) : Type 0 where
  pub all : length forms ≡ count
  pub alike : AreAllAlike places count parts
  pub each : (number : ℕ) → number < count → form_at number forms ≡ shared_form (told_over places number parts)
