-- The texts of values.
use Rattle.std.specs.Prelude.{◌≡◌, ℕ, zero, suc, ◌≤◌, ◌==◌, ⊤, if◌then◌else◌}
use Rattle.std.specs.Prelude.{ℤ, pos, negsuc, neg_ℤ, ◌≤ℤ◌, int_le, nat_abs, ◌-ℤ◌, List}
use Rattle.std.specs.Prelude.{[], ◌∷◌, ◌++◌, codes, length, slice_get, Option, Some, None}
use Rattle.std.specs.List.{All, flat_map}
use Rattle.jiff_core.specs.Calendar.{IsBetween, days_from_civil}
use Rattle.daq_table.specs.Numbers.{digits_text, scaled_text}
use Rattle.daq_table.specs.declared.head.ColumnHead.{ColumnHead}
use Rattle.daq_table.specs.declared.head.Kind.{Kind}
use Rattle.daq_table.specs.declared.head.Kind.TheVariants.{Int, Dec, Date, Text}
use Rattle.daq_table.specs.declared.table_head.Head.{Head}

-- the last year, up to a greatest one, that begins no later than the day
unfoldable pub last_year : ℕ → ℤ → ℕ
last_year zero day = 0
last_year (suc year) day = if int_le (days_from_civil (pos (suc year)) 1 1) day then suc year else last_year year day

-- the last month of the year, up to a greatest one, that begins no later than the day
unfoldable pub last_month : ℕ → ℕ → ℤ → ℕ
last_month year zero day = 0
last_month year (suc month) day = if int_le (days_from_civil (pos year) (suc month) 1) day then suc month else last_month year month day

abbrev pub year_of : ℤ → ℕ
year_of day = last_year 9999 day

abbrev pub month_of : ℤ → ℕ
month_of day = last_month (year_of day) 12 day

-- the day of the month, from 1
abbrev pub day_of : ℤ → ℕ
day_of day = suc (nat_abs (day -ℤ days_from_civil (pos (year_of day)) (month_of day) 1))

-- `YYYY-MM-DD`
abbrev pub ymd_text : ℕ → ℕ → ℕ → List ℕ
ymd_text year month day = digits_text 4 year ++ codes "-" ++ digits_text 2 month ++ codes "-" ++ digits_text 2 day

-- the text of the date with that day number
abbrev pub text_of_date : ℤ → List ℕ
text_of_date day = ymd_text (year_of day) (month_of day) (day_of day)

-- the day numbers of the years 0000 to 9999
abbrev pub IsDay : ℤ → Type 0
IsDay day = IsBetween (neg_ℤ (pos 719528)) (pos 2932896) day

-- a quote is written twice
abbrev pub doubled : ℕ → List ℕ
doubled c = if c == 39 then 39 ∷ 39 ∷ [] else c ∷ []

-- the name in quotes
abbrev pub quoted_text : List ℕ → List ℕ
quoted_text name = codes "'" ++ (flat_map doubled name ++ codes "'")

abbrev pub text_of_name : Option (List ℕ) → List ℕ
text_of_name (Some name) = quoted_text name
text_of_name None = codes "-"

-- the name of that rank, and `-` where there is none
abbrev pub text_of_rank : List (List ℕ) → ℤ → List ℕ
text_of_rank names (pos rank) = text_of_name (slice_get names rank)
text_of_rank names (negsuc n) = codes "-"

abbrev pub text_by_kind : Kind → List (List ℕ) → ℤ → List ℕ
text_by_kind Int names value = scaled_text 0 value
text_by_kind (Dec scale) names value = scaled_text scale value
text_by_kind Date names value = text_of_date value
text_by_kind Text names value = text_of_rank names value

-- the text of a value of the column
abbrev pub text_of_value : ColumnHead → ℤ → List ℕ
text_of_value head value = text_by_kind head.kind head.names value

-- a date lies in the years 0000 to 9999, and other values have no bound
abbrev pub HasText : Kind → ℤ → Type 0
HasText Int value = ⊤
HasText (Dec scale) value = ⊤
HasText Date value = IsDay value
HasText Text value = ⊤

-- each number that the column may have has a text, and its names have at most 255 bytes
pub record HasTexts (column : ColumnHead) : Type 0 where
  pub between : (value : ℤ) → column.base ≤ℤ value → value ≤ℤ column.top → HasText column.kind value
  pub names : All (λ name. length name ≤ 255) column.names

-- so has each column of the table
abbrev pub HeadHasTexts : Head → Type 0
HeadHasTexts head = (i : ℕ) (column : ColumnHead) → slice_get head.columns i ≡ Some column → HasTexts column
