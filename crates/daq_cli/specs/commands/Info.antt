-- `info`: what the head of a file of planes declares.
use Rattle.std.specs.Prelude.{◌≡◌, ℕ, ◌+◌, Bool, cond, List, [], ◌∷◌, ◌++◌, length, codes, decimal, Some}
use Rattle.std.specs.declared.option.Option.{Option}
use Rattle.daq_table.specs.Tables.{ends_of, width}
use Rattle.daq_table.specs.ValueTexts.{text_of_value}
use Rattle.daq_table.specs.declared.head.ColumnHead.{ColumnHead}
use Rattle.daq_table.specs.declared.head.Kind.{Kind}
use Rattle.daq_table.specs.declared.head.Kind.TheVariants.{Int, Dec, Date, Text}
use Rattle.outer_world.specs.Device.{SinkState, StoreState}
use Rattle.outer_world.specs.Whole.{Writes}
use Rattle.plane_file.specs.Opening.{Opened, Opens}
use Rattle.daq_cli.specs.Files.{StopsOpening, file_step}
use Rattle.daq_cli.specs.Worlds.{Extent, partly}
use Rattle.daq_cli.specs.declared.refusal.Refusal.{Refusal}
use Rattle.daq_cli.specs.declared.refusal.Refusal.TheVariants.{WriteFault}

-- ---- the lines

-- a kind, as a schema names it
abbrev pub kind_text : Kind → List ℕ
kind_text Int = codes "int"
kind_text (Dec scale) = codes "dec" ++ decimal scale
kind_text Date = codes "date"
kind_text Text = codes "text"

-- a nullable column's kind has a mark behind it
abbrev pub null_mark : Bool → List ℕ
null_mark nullable = cond nullable (codes "?") []

-- the column: its number, its name, its kind and its width
abbrev pub column_front : ℕ → ColumnHead → List ℕ
column_front number column =
    codes "column " ++ (decimal number ++ (codes " " ++ (column.name ++ (codes " " ++ (kind_text column.kind ++ (null_mark column.nullable
    ++ (codes " width " ++ decimal (width (ends_of column)))))))))

-- and then its least and its greatest value
abbrev pub column_line : ℕ → ColumnHead → List ℕ
column_line number column =
    column_front number column
    ++ (codes " from " ++ (text_of_value column column.base ++ (codes " to " ++ (text_of_value column column.top ++ codes "\n"))))

-- the columns, numbered from this number on
abbrev pub column_lines : ℕ → List ColumnHead → List ℕ
column_lines number [] = []
column_lines number (column ∷ columns) = column_line number column ++ column_lines (number + 1) columns

-- the file as a whole
abbrev pub first_line : Opened → List ℕ
first_line file =
    codes "version " ++ (decimal file.version ++ (codes " rows " ++ (decimal file.head.rows ++ (codes " columns "
    ++ (decimal (length file.head.columns) ++ codes "\n")))))

-- and then each column, numbered from 1
abbrev pub info_text : Opened → List ℕ
info_text file = first_line file ++ column_lines 1 file.head.columns

-- ---- the step

-- what a store shows that tells its bytes
abbrev pub InfoShows : Option (List ℕ) → Refusal → Type 0
InfoShows told why = (bytes : List ℕ) × (told ≡ Some bytes) × (file_step bytes).shows why

-- such a store is accepted, as this file
abbrev pub InfoAccepts : Option (List ℕ) → Opened → Type 0
InfoAccepts told file = (bytes : List ℕ) × (told ≡ Some bytes) × (file_step bytes).accepts file

-- ---- what becomes of an `info`

-- the file was opened, and its lines were written, whole or in part
pub record Informs (extent : Extent) (planes planes' : StoreState) (out out' : SinkState) : Type 0 where
  pub file : Opened
  pub opened : Opens planes planes' file
  pub written : Writes extent out out' (info_text file)

-- why an `info` stops; but for a failed write nothing was written
pub data InfoCause (planes planes' : StoreState) (out out' : SinkState) : Refusal → Type 0 where
  at_file : {why : Refusal} → StopsOpening planes planes' why → out' ≡ out → InfoCause planes planes' out out' why
  write_fault : Informs partly planes planes' out out' → InfoCause planes planes' out out' WriteFault
