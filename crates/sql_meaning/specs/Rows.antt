-- The rows of a table, as rows of values.
use Rattle.std.specs.Prelude.{ℕ, ℤ, pos, negsuc, List, map, slice_get}
use Rattle.std.specs.declared.option.Option.{Option}
use Rattle.std.specs.declared.option.Option.TheVariants.{Some, None}
use Rattle.std.specs.List.{position}
use Rattle.std.specs.Option.{option_map}
use Rattle.std.specs.Str.{bytes_eq}
use Rattle.daq_table.specs.Numbers.{scaled_text}
use Rattle.daq_table.specs.ValueTexts.{quoted_text, text_of_date}
use Rattle.daq_table.specs.Tables.{Cells, frame_of, row_of, rows_of}
use Rattle.daq_table.specs.declared.head.ColumnHead.{ColumnHead}
use Rattle.daq_table.specs.declared.head.Kind.{Kind}
use Rattle.daq_table.specs.declared.head.Kind.TheVariants as kinds
use Rattle.daq_table.specs.declared.table_head.Head.{Head}
use Rattle.query_model.specs.declared.query.Face.{Face}
use Rattle.query_model.specs.declared.query.Face.TheVariants as faces
use Rattle.sql_meaning.specs.Values.{Value, Number, Day, Text, unless_null}
use Rattle.sql_meaning.specs.Conditions.{Row}

-- the name at a place of a dictionary
abbrev pub text_at : List (List ℕ) → ℤ → Option Value
text_at names (pos n) = option_map Text (slice_get names n)
text_at names (negsuc n) = None

-- the value that a number of a column stands for
abbrev pub value_in : Kind → List (List ℕ) → ℤ → Option Value
value_in kinds.Int names n = Some (Number (record { digits = n; behind = 0 }))
value_in (kinds.Dec places) names n = Some (Number (record { digits = n; behind = places }))
value_in kinds.Date names n = Some (Day n)
value_in kinds.Text names n = text_at names n

-- the value of a number in a column, and null of null; a column that is not there has none
abbrev pub value_of : Option ColumnHead → Option ℤ → Option Value
value_of None n = None
value_of (Some column) n = unless_null (value_in column.kind column.names) n

-- the value of a number of a typed query, as its face has it: one of a column, or a number of so many decimals
abbrev pub shown : List ColumnHead → List ℕ → Face → ℤ → Option Value
shown table columns (faces.Number places) n = Some (Number (record { digits = n; behind = places }))
shown table columns (faces.OfColumn c) n = value_of (unless_null (slice_get table) (slice_get columns c)) (Some n)

-- the value of a row in the column at a place
abbrev pub value_at : Head → Cells → ℕ → ℕ → Option Value
value_at head cells r c = value_of (slice_get head.columns c) (row_of (frame_of head) cells r c)

-- the values of a row of a table, by the names of its columns
abbrev pub row_at : Head → Cells → ℕ → Row
row_at head cells r name = unless_null (value_at head cells r) (position (λ column. bytes_eq column.name name) head.columns)

-- all rows of a table
abbrev pub rows_at : Head → Cells → List Row
rows_at head cells = map (row_at head cells) (rows_of (frame_of head))

-- how a report writes a value
abbrev pub text_of : Value → List ℕ
text_of (Number a) = scaled_text a.behind a.digits
text_of (Day d) = text_of_date d
text_of (Text t) = quoted_text t
