-- An end of a column at a row as a sum: a number for every row, another for each digit that was read, and less at the prefix of top.
use Rattle.std.specs.Prelude.{ℕ, ◌-◌, ◌%◌, ℤ, pos, ◌+ℤ◌}
use Rattle.aggregates.specs.declared.ends.End.{End}
use Rattle.aggregates.specs.declared.ends.End.TheVariants.{Low, High}
use Rattle.daq_table.specs.Tables.{spread}
use Rattle.known_column.specs.Columns.{KnownColumn}
use Rattle.query_model.specs.Knowledge.{block}

-- how many numbers share the digits that were read
abbrev pub numbers_alike : KnownColumn → ℕ
numbers_alike column = block column.ends column.known.read

-- what each row adds: base, and at the high end 1 for each digit that is unread
abbrev pub weight_of_all : End → KnownColumn → ℤ
weight_of_all Low column = column.ends.base
weight_of_all High column = column.ends.base +ℤ pos (numbers_alike column - 1)

-- what the number of the digits that were read is multiplied by
abbrev pub weight_of_digits : KnownColumn → ℤ
weight_of_digits column = pos (numbers_alike column)

-- what a row at top's prefix adds less: there the high end is top
abbrev pub weight_of_top : End → KnownColumn → ℤ
weight_of_top Low column = pos 0
weight_of_top High column = pos (numbers_alike column - 1 - spread column.ends % numbers_alike column)
