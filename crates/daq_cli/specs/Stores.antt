-- A table that is written as a file of planes, and the line that says how large it is.
use Rattle.std.specs.Prelude.{◌≡◌, ◌⊎◌, ℕ, List, ◌++◌, length, codes, decimal}
use Rattle.daq_table.specs.Tables.{Contents}
use Rattle.outer_world.specs.Device.{SinkState}
use Rattle.outer_world.specs.Whole.{Writes}
use Rattle.plane_file.specs.Format.{file, plane_count}
use Rattle.daq_cli.specs.Worlds.{Extent, partly, whole}
use Rattle.daq_cli.specs.declared.refusal.Refusal.{Refusal}
use Rattle.daq_cli.specs.declared.refusal.Refusal.TheVariants.{NoMemory, WriteFault}

-- what was done, how many rows, columns and planes the table has, and how many bytes its file
abbrev pub table_line : List ℕ → Contents → List ℕ
table_line word table =
    word ++ (codes " " ++ (decimal table.head.rows ++ (codes " rows, " ++ (decimal (length table.head.columns) ++ (codes " columns, "
    ++ (decimal (plane_count table.head.columns) ++ (codes " planes, " ++ (decimal (length (file 2 table)) ++ codes " bytes\n"))))))))

-- the file of the table was written, and then the line, whole or in part
pub record WritesTable (word : List ℕ) (table : Contents) (extent : Extent) (made made' out out' : SinkState) : Type 0 where
  pub file_is : Writes whole made made' (file 2 table)
  pub line : Writes extent out out' (table_line word table)

-- a part of the file was written, or all of it and a part of the line
abbrev pub IsCutOff : List ℕ → Contents → SinkState → SinkState → SinkState → SinkState → Type 0
IsCutOff word table made made' out out' =
    (Writes partly made made' (file 2 table) × (out' ≡ out)) ⊎ WritesTable word table partly made made' out out'

-- why both were not written; but for a failed write nothing was
pub data StoreCause (word : List ℕ) (table : Contents) (made made' out out' : SinkState) : Refusal → Type 0 where
  write_fault : IsCutOff word table made made' out out' → StoreCause word table made made' out out' WriteFault
  no_memory : made' ≡ made → out' ≡ out → StoreCause word table made made' out out' NoMemory
