-- The text of a block: the line of the round, and the lines of the query's form.
use Rattle.std.specs.Prelude.{ℕ, List, ◌++◌, codes, decimal}
use Rattle.std.specs.declared.option.Option.{Option}
use Rattle.std.specs.declared.option.Option.TheVariants.{Some, None}
use Rattle.daq_table.specs.Tables.{ends_at, planes}
use Rattle.daq_table.specs.declared.table_head.Head.{Head}
use Rattle.plane_schedule.specs.declared.policy.Extras.{Extras}
use Rattle.plane_schedule.specs.declared.policy.Listing.{Listing}
use Rattle.query_model.specs.Knowledge.{known_at}
use Rattle.query_model.specs.declared.query.Shape.{Shape}
use Rattle.query_model.specs.declared.query.Shape.TheVariants.{Plain, Grouped, Top}
use Rattle.round_engine.specs.Stages.{Stage}
use Rattle.daq_report.specs.Intervals.{column_of, name_of}
use Rattle.daq_report.specs.Groups.{groups_text}
use Rattle.daq_report.specs.Items.{items_text}
use Rattle.daq_report.specs.Rankings.{ranking_text}
use Rattle.daq_report.specs.declared.scope.Scope.TheVariants.{AllRows}

-- a column by its name, how many of its planes are read, and of how many
abbrev pub planes_text : Head → Stage → ℕ → List ℕ
planes_text head stage c =
    codes " " ++ (name_of (column_of head stage.query c) ++ (codes " " ++ (decimal (known_at stage.known c).read ++ (codes "/" ++
    decimal (planes (ends_at stage.frame c))))))

-- the round, and the column that was read in it
abbrev pub round_line : Head → Stage → ℕ → Option ℕ → List ℕ
round_line head stage round None = codes "round " ++ (decimal round ++ codes "\n")
round_line head stage round (Some c) = codes "round " ++ (decimal round ++ (planes_text head stage c ++ codes "\n"))

-- the lines of the query's form: the items over all rows, the groups, or the first rows in an order
abbrev pub form_text : Head → Listing → Extras → Stage → Shape → List ℕ
form_text head listing extras stage Plain = items_text head stage (AllRows extras)
form_text head listing extras stage (Grouped columns) = groups_text head stage columns
form_text head listing extras stage (Top key down limit) = ranking_text head stage key limit listing

-- the listing says which rows in an order are shown; with extras, the items over all rows have more lines
abbrev pub block_text : Head → Listing → Extras → Stage → ℕ → Option ℕ → List ℕ
block_text head listing extras stage round last =
    round_line head stage round last ++ form_text head listing extras stage stage.query.shape
