-- What the kinds of columns allow.
use Rattle.std.specs.Prelude.{ℕ, ◌==◌, nat_lt, Bool, true, false, not, ◌&&◌, ◌||◌, List, length, pos, slice_index}
use Rattle.std.specs.Char.{digit_value}
use Rattle.std.specs.Str.Parse.{digits_value}
use Rattle.std.specs.List.{list_all}
use Rattle.jiff_core.specs.Calendar.{days_in_month}
use Rattle.daq_table.specs.ColumnFacts.{is_text}
use Rattle.daq_table.specs.CellTexts.{day_digits, month_digits, year_digits}
use Rattle.daq_table.specs.declared.head.Kind.{Kind}
use Rattle.daq_table.specs.declared.head.Kind.TheVariants.{Int, Dec, Date, Text}
use Rattle.sql_text.specs.Tree.{Operand, Numeric, Str, Day}

abbrev pub is_number : Kind → Bool
is_number Int = true
is_number (Dec scale) = true
is_number Date = false
is_number Text = false

abbrev pub is_day : Kind → Bool
is_day Int = false
is_day (Dec scale) = false
is_day Date = true
is_day Text = false

-- the decimals of a column's numbers
abbrev pub scale_of_kind : Kind → ℕ
scale_of_kind Int = 0
scale_of_kind (Dec scale) = scale
scale_of_kind Date = 0
scale_of_kind Text = 0

-- the most decimals of a number in a query
abbrev pub most_scale : ℕ
most_scale = 18

-- two columns can be compared: both are dates, or both are numbers of one scale
abbrev pub can_compare : Kind → Kind → Bool
can_compare k l = (is_day k && is_day l) || (is_number k && is_number l && (scale_of_kind k == scale_of_kind l))

abbrev pub are_digits : List ℕ → Bool
are_digits bytes = list_all (λ c. nat_lt (digit_value c) 10) bytes

abbrev pub is_from_one : ℕ → ℕ → Bool
is_from_one most n = nat_lt 0 n && not (nat_lt most n)

-- the text is a date `YYYY-MM-DD` of the calendar
abbrev pub is_date : List ℕ → Bool
is_date bytes = (length bytes == 10) && (slice_index bytes 4 == 45) && (slice_index bytes 7 == 45)
    && are_digits (year_digits bytes) && are_digits (month_digits bytes) && are_digits (day_digits bytes)
    && is_from_one 12 (digits_value 10 (month_digits bytes))
    && is_from_one (days_in_month (pos (digits_value 10 (year_digits bytes))) (digits_value 10 (month_digits bytes)))
    (digits_value 10 (day_digits bytes))

-- the sort of a value suits a column: numbers to numbers, strings to texts, and to dates DATE strings and strings that are dates
abbrev pub suits : Kind → Operand → Bool
suits kind (Numeric n) = is_number kind
suits kind (Str s) = is_text kind || (is_day kind && is_date s.name)
suits kind (Day s) = is_day kind && is_date s.name

-- the decimals of a value, and its place in the text
abbrev pub scale_of_operand : Operand → ℕ
scale_of_operand (Numeric n) = n.scale
scale_of_operand (Str s) = 0
scale_of_operand (Day s) = 0

abbrev pub place_of_operand : Operand → ℕ
place_of_operand (Numeric n) = n.at
place_of_operand (Str s) = s.at
place_of_operand (Day s) = s.at
