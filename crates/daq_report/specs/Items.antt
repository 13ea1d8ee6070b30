-- The lines of items: where the answer of each lies, over all rows, with the lines that are wanted besides, or for each key of a cell.
use Rattle.std.specs.Prelude.{◌≡◌, ℕ, ◌+◌, ◌<◌, List, [], ◌∷◌, ◌++◌, codes, decimal, if◌then◌else◌}
use Rattle.daq_table.specs.declared.table_head.Head.{Head}
use Rattle.query_model.specs.Bounds.{AverageBound, average_under, bound_under}
use Rattle.query_model.specs.declared.bounds.Bound.{Bound}
use Rattle.query_model.specs.declared.query.Item.{Item}
use Rattle.query_model.specs.declared.query.Shape.TheVariants.{Plain}
use Rattle.round_engine.specs.Cells.{average_in_cell, bound_in_cell, cells_in}
use Rattle.round_engine.specs.Stages.{IsGrouped, Stage}
use Rattle.daq_report.specs.Extras.{extra_lines, is_average}
use Rattle.daq_report.specs.Intervals.{average_text, bound_text}
use Rattle.daq_report.specs.declared.scope.Scope.{Scope}
use Rattle.daq_report.specs.declared.scope.Scope.TheVariants.{AllRows, InCell}

-- the query is answered over all rows, or has such a cell
abbrev pub IsScope : Stage → Scope → Type 0
IsScope stage (AllRows extras) = stage.query.shape ≡ Plain
IsScope stage (InCell cell) = IsGrouped stage.query.shape × (cell < cells_in stage)

-- the bound of an item that is no average
abbrev pub bound_in : Stage → Scope → Item → Bound
bound_in stage (AllRows extras) item = bound_under stage.query item [] stage.frame stage.known
bound_in stage (InCell cell) item = bound_in_cell stage item cell

abbrev pub average_in : Stage → Scope → Item → AverageBound
average_in stage (AllRows extras) item = average_under stage.query item [] stage.frame stage.known
average_in stage (InCell cell) item = average_in_cell stage item cell

-- where the answer of an item lies
abbrev pub answer_text : Head → Stage → Scope → Item → List ℕ
answer_text head stage scope item =
    if is_average item.kind
    then average_text head stage.query item.face (average_in stage scope item)
    else bound_text head stage.query item.face (bound_in stage scope item)

-- the item with its number
abbrev pub answer_line : Head → Stage → Scope → ℕ → Item → List ℕ
answer_line head stage scope number item = decimal number ++ (codes " " ++ (answer_text head stage scope item ++ codes "\n"))

-- over all rows the lines that are wanted besides
abbrev pub lines_behind : Head → Stage → Scope → ℕ → Item → List ℕ
lines_behind head stage (AllRows extras) number item = extra_lines head stage extras number item
lines_behind head stage (InCell cell) number item = []

abbrev pub item_line : Head → Stage → Scope → ℕ → Item → List ℕ
item_line head stage scope number item = answer_line head stage scope number item ++ lines_behind head stage scope number item

-- these items, numbered from this number on
abbrev pub item_lines : Head → Stage → Scope → ℕ → List Item → List ℕ
item_lines head stage scope number [] = []
item_lines head stage scope number (item ∷ items) =
    item_line head stage scope number item ++ item_lines head stage scope (number + 1) items

-- the items of the query, numbered from 1
abbrev pub items_text : Head → Stage → Scope → List ℕ
items_text head stage scope = item_lines head stage scope 1 stage.query.items
