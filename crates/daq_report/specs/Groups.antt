-- The lines of groups: of each cell that a row may be in, the keys that it holds, and where the answer of each item lies.
use Rattle.std.specs.Prelude.{ℕ, zero, suc, Bool, List, [], ◌∷◌, ◌++◌, codes, if◌then◌else◌}
use Rattle.std.specs.declared.option.Option.{Option}
use Rattle.std.specs.declared.option.Option.TheVariants.{Some, None}
use Rattle.std.specs.List.{flat_map, range_with_len}
use Rattle.std.specs.Ordering.{int_eq}
use Rattle.std.specs.Simd.Lanes.{zip2}
use Rattle.interval_calc.specs.Intervals.{Interval}
use Rattle.daq_table.specs.ValueTexts.{text_of_value}
use Rattle.daq_table.specs.declared.head.ColumnHead.{ColumnHead}
use Rattle.daq_table.specs.declared.table_head.Head.{Head}
use Rattle.query_model.specs.Queries.{Query}
use Rattle.query_model.specs.Truths.{Range}
use Rattle.query_model.specs.declared.bounds.Nullity.{Nullity}
use Rattle.query_model.specs.declared.bounds.Nullity.TheVariants.{Never, Possibly, Always}
use Rattle.row_groups.specs.Partition.{ranges_of_cell}
use Rattle.round_engine.specs.Cells.{absence_in_cell, cells_in, parts_in}
use Rattle.round_engine.specs.Stages.{Stage}
use Rattle.daq_report.specs.Intervals.{column_of, interval_text}
use Rattle.daq_report.specs.Items.{items_text}
use Rattle.daq_report.specs.declared.scope.Scope.TheVariants.{InCell}

-- ---- keys

-- one text where the ends are equal, else both
abbrev pub dotted : Bool → List ℕ → List ℕ → List ℕ
dotted equal low high = if equal then low else low ++ (codes ".." ++ high)

-- a value of the column, or the first and the last of several
abbrev pub span_text : ColumnHead → Interval → List ℕ
span_text column numbers =
    dotted (int_eq numbers.low numbers.high) (text_of_value column numbers.low) (text_of_value column numbers.high)

-- what the key's part of a column may be: values, null, or both
abbrev pub part_text : Option ColumnHead → Range → List ℕ
part_text None range = []
part_text (Some column) range = interval_text range.null (span_text column range.numbers)

-- texts parted by commas
abbrev pub listed : List (List ℕ) → List ℕ
listed [] = []
listed (text ∷ texts) = text ++ flat_map (λ next. codes ", " ++ next) texts

-- a text with a comma before it, but for the first
abbrev pub behind_comma : ℕ → List ℕ → List ℕ
behind_comma zero text = text
behind_comma (suc place) text = codes ", " ++ text

-- for each group column, in order, what the key's part may be
abbrev pub key_text : Head → Query → List ℕ → List Range → List ℕ
key_text head query columns ranges = listed (zip2 (λ c range. part_text (column_of head query c) range) columns ranges)

-- ---- cells

-- the keys of a cell, with what is known of them, and the lines of the items
abbrev pub group_text : Head → Stage → List ℕ → ℕ → List ℕ → List ℕ
group_text head stage columns cell presence =
    codes "group " ++ (key_text head stage.query columns (ranges_of_cell (parts_in stage) cell)
    ++ (presence ++ items_text head stage (InCell cell)))

-- where a row surely counts for the keys of a cell they are present, where one may they are possible, and else nothing is shown of them
abbrev pub cell_text : Head → Stage → List ℕ → ℕ → Nullity → List ℕ
cell_text head stage columns cell Never = group_text head stage columns cell (codes " present\n")
cell_text head stage columns cell Possibly = group_text head stage columns cell (codes " possible\n")
cell_text head stage columns cell Always = []

-- the cells in order
abbrev pub groups_text : Head → Stage → List ℕ → List ℕ
groups_text head stage columns =
    flat_map (λ cell. cell_text head stage columns cell (absence_in_cell stage cell)) (range_with_len 0 (cells_in stage))
