-- The lines of first rows, each without its line feed.
use Rattle.std.specs.Prelude.{◌≡◌, ℕ, ◌<◌, ◌^◌, Bool, true, false, List, ◌++◌, codes, decimal, length}
use Rattle.std.specs.declared.option.Option.{Option}
use Rattle.std.specs.declared.option.Option.TheVariants.{Some, None}
use Rattle.report_text.specs.Intervals.{key_interval}
use Rattle.report_text.specs.Keys.{IsShownSpan}
use Rattle.report_text.specs.declared.rows.RowLine.{RowLine}
use Rattle.report_text.specs.declared.rows.RowName.{RowName}
use Rattle.report_text.specs.declared.rows.TopLine.{TopLine}

-- how many rows are asked for, how many are among the first for certain, and how many perhaps
abbrev pub counts_text : TopLine → List ℕ
counts_text top = decimal top.limit ++ (codes " certain " ++ (decimal top.certain ++ (codes " possible " ++ decimal top.possible)))

abbrev pub top_line : TopLine → List ℕ
top_line top = codes "top " ++ counts_text top

-- of so many rows that are asked for none is judged
abbrev pub skip_line : ℕ → List ℕ
skip_line limit = codes "top " ++ (decimal limit ++ codes " certain 0")

pub record IsTopLine (top : TopLine) : Type 0 where
  pub limit : top.limit < 2 ^ 64
  pub certain : top.certain < 2 ^ 64
  pub possible : top.possible < 2 ^ 64

-- the number of a row, behind the tag of its part where the report is of several
abbrev pub name_by : Option (List ℕ) → ℕ → List ℕ
name_by None number = decimal number
name_by (Some tag) number = tag ++ (codes " " ++ decimal number)

abbrev pub name_text : RowName → List ℕ
name_text name = name_by name.tag name.number

-- whether the row is among the first for certain
abbrev pub standing_word : Bool → List ℕ
standing_word true = codes "certain "
standing_word false = codes "possible "

-- the row, its standing, and where its sort key lies
abbrev pub row_line : RowLine → List ℕ
row_line row = codes "row " ++ (name_text row.name ++ (codes " " ++ (standing_word row.certain ++ key_interval row.key)))

-- a tag has a byte or more
abbrev pub IsRowTag : Option (List ℕ) → Type 0
IsRowTag None = Unit {0}
IsRowTag (Some tag) = 0 < length tag

pub record IsRowName (name : RowName) : Type 0 where
  pub tag : IsRowTag name.tag
  pub number : name.number < 2 ^ 64

-- a row that a report shows
pub record IsShownRow (row : RowLine) : Type 0 where
  pub name : IsRowName row.name
  pub key : IsShownSpan row.key

-- ---- laws

-- the line of a row says one row
abbrev pub RowsSayOne : Type 0
RowsSayOne = (row other : RowLine) → IsShownRow row → IsShownRow other → row_line row ≡ row_line other → row ≡ other

-- the line before the rows says one number of each
abbrev pub TopsSayOne : Type 0
TopsSayOne = (top other : TopLine) → IsTopLine top → IsTopLine other → top_line top ≡ top_line other → top ≡ other
