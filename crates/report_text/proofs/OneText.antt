-- That the line of an item that is a text says one text, and no number.
use Rattle.std.proofs.Common.{◌≡◌, Bool, true, false, codes, decimal, Option, Some, None, refl, sym, ap, ◌∙◌}
use Rattle.std.proofs.lemmas.Bool.{false≢true}
use Rattle.std.proofs.lemmas.List.{append_cancel_left}
use Rattle.std.proofs.lemmas.Option.{none-some}
use Rattle.query_model.specs.declared.bounds.Nullity.{Nullity}
use Rattle.query_model.specs.declared.bounds.Nullity.TheVariants.{Never, Possibly, Always}
use Rattle.report_text.proofs.OneRow.{interval_one}
use Rattle.report_text.specs.Bounds.{AreEnds, IsShownBy, shown_ends}
use Rattle.report_text.specs.Keys.{AreValueEnds}
use Rattle.report_text.specs.TextAnswers.{IsTextAnswer, TextItemsSayOne, TextsAreNoValues, ends_of, span_of, text_of}
use Rattle.report_text.specs.Words.{interval_text}
use Rattle.report_text.specs.declared.bounds.ShownBound.{ShownBound}
use Rattle.report_text.specs.declared.keys.ShownEnds.{ShownEnds}
use Rattle.report_text.specs.declared.keys.ShownEnds.TheVariants.{NoText, Texts, Values}
use Rattle.report_text.specs.declared.keys.ShownSpan.{ShownSpan}
use Rattle.report_text.specs.declared.keys.TextEnds.{TextEnds}
use Rattle.report_text.specs.declared.keys.ValueEnds.{ValueEnds}
use Rattle.report_text.specs.declared.text_answers.TextAnswer.{TextAnswer}

-- ---- one answer

abbrev texts_in : ShownEnds → Option TextEnds
texts_in (Values ends) = None
texts_in (Texts ends) = Some ends
texts_in NoText = None

back : (ends : Option TextEnds) → texts_in (ends_of ends) ≡ ends
back None = refl
back (Some ends) = refl

abbrev ends_in : Option ShownEnds → Option TextEnds
ends_in None = None
ends_in (Some ends) = texts_in ends

-- the span has the answer
pub answer_from : (a b : TextAnswer) → span_of a ≡ span_of b → a ≡ b
answer_from a b e =
    let null : a.null ≡ b.null = ap (λ (s : ShownSpan). s.null) e in
    let ends : a.ends ≡ b.ends = sym (back a.ends) ∙ ap (λ (s : ShownSpan). ends_in s.ends) e ∙ back b.ends in
    ap (λ (x : Bool). record { null = x; ends = a.ends }) null ∙ ap (λ (x : Option TextEnds). record { null = b.null; ends = x }) ends

pub text_one : (a b : TextAnswer) → IsTextAnswer a → IsTextAnswer b → text_of a ≡ text_of b → a ≡ b
text_one a b h k e = answer_from a b (interval_one (span_of a) (span_of b) h k e)

pub text_items_say_one : TextItemsSayOne
text_items_say_one number a b h k e =
    text_one a b h k (append_cancel_left (codes " ") (text_of a) (text_of b) (append_cancel_left (decimal number) _ _ e))

-- ---- no number

abbrev is_value : ShownEnds → Bool
is_value (Values ends) = true
is_value (Texts ends) = false
is_value NoText = false

abbrev any_value : Option ShownEnds → Bool
any_value None = false
any_value (Some ends) = is_value ends

no_value : (ends : Option TextEnds) → is_value (ends_of ends) ≡ false
no_value None = refl
no_value (Some ends) = refl

-- a bound is told as where a key lies
abbrev bound_ends : ShownBound → ValueEnds
bound_ends shown = record { form = shown.form; low = shown.bound.lo; high = shown.bound.hi }

abbrev bound_span : Bool → ShownBound → ShownSpan
bound_span null shown = record { null = null; ends = Some (Values (bound_ends shown)) }

are_values : (shown : ShownBound) → AreEnds shown → AreValueEnds (bound_ends shown)
are_values shown h = record {
  low = record { has = h.texts.0; fits = h.low };
  high = record { has = h.texts.1; fits = h.high };
  ordered = h.ordered;
}

not_value : (answer : TextAnswer) (shown : ShownBound) (null : Bool) → span_of answer ≡ bound_span null shown → ⊥
not_value answer shown null e =
    false≢true (sym (no_value answer.ends) ∙ ap (λ (s : ShownSpan). any_value s.ends) e)

by_null : (answer : TextAnswer) (shown : ShownBound) (null : Nullity) → IsTextAnswer answer → IsShownBy null shown →
    text_of answer ≡ interval_text null (shown_ends shown) → ⊥
by_null answer shown Never h k e =
    not_value answer shown false (interval_one (span_of answer) (bound_span false shown) h (are_values shown k) e)
by_null answer shown Possibly h k e =
    not_value answer shown true (interval_one (span_of answer) (bound_span true shown) h (are_values shown k) e)
by_null answer shown Always h k e =
    none-some (ends_of answer.ends) (sym (ap (λ (s : ShownSpan). s.ends) (interval_one (span_of answer) (record { null = true; ends = None }) h tt e)))

pub texts_are_no_values : TextsAreNoValues
texts_are_no_values answer shown h k e = by_null answer shown shown.bound.null h k e
