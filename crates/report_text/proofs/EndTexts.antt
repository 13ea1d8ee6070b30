-- That the text of an end of an interval is read back as that end.
use Rattle.std.proofs.Common.{◌≡◌, ℕ, List, ℤ, Option, Some, sym, ap, ◌∙◌}
use Rattle.daq_table.specs.ValueTexts.{IsDay, text_of_date}
use Rattle.report_text.proofs.DateTexts.{date_is_end, date_is_no_number, date_one}
use Rattle.report_text.proofs.NumberTexts.{number_is_end, number_of_text, numbers_read}
use Rattle.report_text.specs.Forms.{IsIntervalEnd, text_in, text_of_end}
use Rattle.report_text.specs.Layouts.{IsEnd}
use Rattle.report_text.specs.Numbers.{CanBeRead, number_text}
use Rattle.report_text.specs.declared.forms.Form.{Form}
use Rattle.report_text.specs.declared.forms.Form.TheVariants.{Date, Decimals}
use Rattle.report_text.specs.declared.forms.IntervalEnd.{IntervalEnd}
use Rattle.report_text.specs.declared.numbers.Number.{Number}

pub number_one : (a b : Number) → CanBeRead a → CanBeRead b → number_text a ≡ number_text b → a ≡ b
number_one a b h k e = sym (numbers_read a h).is ∙ ap number_of_text e ∙ (numbers_read b k).is

abbrev number_as : ℕ → ℤ → Number
number_as decimals value = record { decimals = decimals; units = value }

abbrev pub end_of_number : Number → IntervalEnd
end_of_number number = record { form = Decimals number.decimals; value = number.units }

abbrev pub end_of_day : ℤ → IntervalEnd
end_of_day day = record { form = Date; value = day }

-- its text is an end
by_form : (form : Form) (value : ℤ) → IsIntervalEnd (record { form = form; value = value }) → IsEnd (text_in form value)
by_form (Decimals decimals) value h = number_is_end (number_as decimals value) (record { few = h.has; fits = h.fits })
by_form Date value h = date_is_end value h.has

pub end_is_end : (end : IntervalEnd) → IsIntervalEnd end → IsEnd (text_of_end end)
end_is_end end h = by_form end.form end.value h

-- two ends with one text are one
one_by : (f g : Form) (v w : ℤ) → IsIntervalEnd (record { form = f; value = v }) → IsIntervalEnd (record { form = g; value = w }) → text_in f v ≡ text_in g w →
    ◌≡◌ {A = IntervalEnd} (record { form = f; value = v }) (record { form = g; value = w })
one_by (Decimals d) (Decimals e) v w h k same =
    ap end_of_number (number_one (number_as d v) (number_as e w) (record { few = h.has; fits = h.fits }) (record { few = k.has; fits = k.fits }) same)
one_by Date Date v w h k same = ap end_of_day (date_one v w h.has k.has same)
one_by (Decimals d) Date v w h k same = absurd (date_is_no_number (number_as d v) w (record { few = h.has; fits = h.fits }) k.has same)
one_by Date (Decimals e) v w h k same = absurd (date_is_no_number (number_as e w) v (record { few = k.has; fits = k.fits }) h.has (sym same))

pub end_one : (a b : IntervalEnd) → IsIntervalEnd a → IsIntervalEnd b → text_of_end a ≡ text_of_end b → a ≡ b
end_one a b h k e = one_by a.form b.form a.value b.value h k e

-- a number that is read is the end
pub number_found : (text : List ℕ) (number : Number) (end : IntervalEnd) → CanBeRead number → number_text number ≡ text → IsIntervalEnd end → text_of_end end ≡ text →
    end_of_number number ≡ end
number_found text number end h e k f = end_one (end_of_number number) end (record { has = h.few; fits = h.fits }) k (e ∙ sym f)

-- where no number is read it is a date
found_by : (form : Form) (value : ℤ) (text : List ℕ) (r : Option IntervalEnd) → ((number : Number) → CanBeRead number → number_text number ≡ text → ⊥) →
    ((day : ℤ) → IsDay day → text_of_date day ≡ text → r ≡ Some (end_of_day day)) → IsIntervalEnd (record { form = form; value = value }) → text_in form value ≡ text →
    r ≡ Some (record { form = form; value = value })
found_by (Decimals decimals) value text r numberless dates h e = absurd (numberless (number_as decimals value) (record { few = h.has; fits = h.fits }) e)
found_by Date value text r numberless dates h e = dates value h.has e

pub date_found : (text : List ℕ) (r : Option IntervalEnd) (end : IntervalEnd) → ((number : Number) → CanBeRead number → number_text number ≡ text → ⊥) →
    ((day : ℤ) → IsDay day → text_of_date day ≡ text → r ≡ Some (end_of_day day)) → IsIntervalEnd end → text_of_end end ≡ text → r ≡ Some end
date_found text r end numberless dates h e = found_by end.form end.value text r numberless dates h e
