-- When it is known well enough where an answer lies, in the words in which a report says it of its rounds.
use Rattle.std.specs.Prelude.{◌≡◌, ℕ, ℤ, ◌<◌, ◌*◌, pos, ◌+ℤ◌, ◌-ℤ◌, ◌*ℤ◌, int_le, ◌&&◌, not, Bool, true, false}
use Rattle.std.specs.List.{list_all}
use Rattle.std.specs.Str.{bytes_eq}
use Rattle.std.specs.declared.option.Option.{Option}
use Rattle.std.specs.declared.option.Option.TheVariants.{Some, None}
use Rattle.interval_calc.specs.Intervals.{Fraction}
use Rattle.query_model.specs.declared.bounds.Nullity.{Nullity}
use Rattle.query_model.specs.declared.bounds.Nullity.TheVariants.{Never, Possibly, Always}
use Rattle.report_text.specs.declared.answers.Answer.{Answer}
use Rattle.report_text.specs.declared.answers.Answer.TheVariants.{Average, Value}
use Rattle.report_text.specs.declared.keys.ShownEnds.{ShownEnds}
use Rattle.report_text.specs.declared.keys.ShownEnds.TheVariants.{NoText, Texts, Values}
use Rattle.report_text.specs.declared.keys.TextEnds.{TextEnds}
use Rattle.report_text.specs.declared.rows.RowLine.{RowLine}
use Rattle.report_text.specs.declared.text_answers.TextAnswer.{TextAnswer}
use Rattle.part_groups.specs.declared.group.Group.{Group}
use Rattle.report_parts.specs.Combined.{fraction_of}
use Rattle.report_parts.specs.declared.entry.Entry.{Entry}

-- it is known that there is an answer, and its ends are near, or that there is none
abbrev pub is_told : Nullity → Bool → Bool
is_told Never near = near
is_told Possibly near = false
is_told Always near = true

-- the ends are at most so many units apart
abbrev pub near_numbers : ℕ → ℤ → ℤ → Bool
near_numbers width low high = int_le (high -ℤ low) (pos width)

-- the difference of two fractions is compared by cross products
abbrev pub near_fractions : ℕ → Fraction → Fraction → Bool
near_fractions width low high = int_le ((high.num *ℤ pos low.den) -ℤ (low.num *ℤ pos high.den)) (pos (width * low.den * high.den))

abbrev pub is_narrow : ℕ → Answer → Bool
is_narrow width (Value shown) = is_told shown.bound.null (near_numbers width shown.bound.lo shown.bound.hi)
is_narrow width (Average shown) = is_told shown.null (near_fractions width (fraction_of shown.low) (fraction_of shown.high))

-- it is known which text there is, or that there is none
abbrev pub is_told_text : Bool → Option TextEnds → Bool
is_told_text null None = true
is_told_text null (Some ends) = not null && bytes_eq ends.low ends.high

abbrev pub is_narrow_text : Option TextAnswer → Bool
is_narrow_text None = true
is_narrow_text (Some text) = is_told_text text.null text.ends

-- what a block says of an item, whatever the line behind tells
abbrev pub is_narrow_entry : ℕ → Entry → Bool
is_narrow_entry width entry = is_narrow width entry.answer && is_narrow_text entry.text

-- a group is in the result for certain, with narrow answers and texts
abbrev pub is_narrow_group : ℕ → Group → Bool
is_narrow_group width group =
    group.line.present && (list_all (is_narrow width) group.answers && list_all is_narrow_text group.texts)

-- the values are at most so many units apart; of texts there is to be one
abbrev pub near_ends : ℕ → ShownEnds → Bool
near_ends width (Values ends) = near_numbers width ends.low ends.high
near_ends width (Texts ends) = bytes_eq ends.low ends.high
near_ends width NoText = true

-- it is known of a key that it is null, or that it is not, and its values are near
abbrev pub is_near_key : ℕ → Bool → Option ShownEnds → Bool
is_near_key width null None = true
is_near_key width null (Some ends) = not null && near_ends width ends

abbrev pub has_near_key : ℕ → RowLine → Bool
has_near_key width row = is_near_key width row.key.null row.key.ends

-- a number is so many times a denominator, and a rest below it
pub record IsSplit (number whole : ℤ) (den rest : ℕ) : Type 0 where
  pub is : number ≡ (whole *ℤ pos den) +ℤ pos rest
  pub below : rest < den
