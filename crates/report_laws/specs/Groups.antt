-- What reports show of groups is the line that is read back, as statements.
use Rattle.std.specs.Prelude.{◌≡◌, ◌≢◌, ℕ, ◌<◌, ◌≤◌, ℤ, pos, negsuc, ◌≤ℤ◌, FitsSigned, Bool, true, false}
use Rattle.std.specs.Prelude.{List, [], ◌∷◌, ◌++◌, codes, length, slice_get}
use Rattle.std.specs.Int.{w128}
use Rattle.std.specs.Simd.Lanes.{zip2}
use Rattle.std.specs.declared.option.Option.{Option}
use Rattle.std.specs.declared.option.Option.TheVariants.{Some, None}
use Rattle.interval_calc.specs.Intervals.{Interval}
use Rattle.daq_table.specs.ValueTexts.{HasTexts}
use Rattle.daq_table.specs.declared.head.ColumnHead.{ColumnHead}
use Rattle.daq_table.specs.declared.head.Kind.{Kind}
use Rattle.daq_table.specs.declared.head.Kind.TheVariants as kinds
use Rattle.daq_table.specs.declared.table_head.Head.{Head}
use Rattle.query_model.specs.Knowledge.{IsKnowledge}
use Rattle.query_model.specs.Truths.{Range}
use Rattle.query_model.specs.Validity.{FitsHead}
use Rattle.query_model.specs.declared.bounds.Nullity.{Nullity}
use Rattle.query_model.specs.declared.bounds.Nullity.TheVariants.{Never, Possibly, Always}
use Rattle.query_model.specs.declared.query.Shape.TheVariants.{Grouped}
use Rattle.query_model.specs.declared.query.TypedQuery.{TypedQuery}
use Rattle.row_groups.specs.Partition.{ranges_of_cell}
use Rattle.round_engine.specs.Cells.{absence_in_cell, parts_in}
use Rattle.round_engine.specs.Stages.{Stage}
use Rattle.daq_report.specs.Ends.{decimals_of}
use Rattle.daq_report.specs.Groups.{cell_text, group_text, key_text}
use Rattle.daq_report.specs.Intervals.{column_of}
use Rattle.report_text.specs.Groups.{AreShownKeys, IsShownGroup, group_line}
use Rattle.report_text.specs.Keys.{keys_text}
use Rattle.report_text.specs.declared.forms.Form.TheVariants.{Date, Decimals}
use Rattle.report_text.specs.declared.groups.GroupLine.{GroupLine}
use Rattle.report_text.specs.declared.keys.ShownEnds.{ShownEnds}
use Rattle.report_text.specs.declared.keys.ShownEnds.TheVariants.{NoText, Texts, Values}
use Rattle.report_text.specs.declared.keys.ShownSpan.{ShownSpan}

-- ---- what a line says of the parts of a key

-- the text of that rank, if there is one
abbrev pub name_at : List (List ℕ) → ℤ → Option (List ℕ)
name_at names (pos rank) = slice_get names rank
name_at names (negsuc n) = None

abbrev pub text_ends : Option (List ℕ) → Option (List ℕ) → ShownEnds
text_ends (Some low) (Some high) = Texts (record { low = low; high = high })
text_ends (Some low) None = NoText
text_ends None high = NoText

-- the values of a kind from one number to another; ranks stand for texts
abbrev pub ends_of : Kind → List (List ℕ) → Interval → ShownEnds
ends_of kinds.Int names numbers = Values (record { form = Decimals 0; low = numbers.low; high = numbers.high })
ends_of (kinds.Dec scale) names numbers = Values (record { form = Decimals scale; low = numbers.low; high = numbers.high })
ends_of kinds.Date names numbers = Values (record { form = Date; low = numbers.low; high = numbers.high })
ends_of kinds.Text names numbers = text_ends (name_at names numbers.low) (name_at names numbers.high)

abbrev pub span_by : Nullity → ShownEnds → ShownSpan
span_by Never ends = record { null = false; ends = Some ends }
span_by Possibly ends = record { null = true; ends = Some ends }
span_by Always ends = record { null = true; ends = None }

-- values of the column, null, or both
abbrev pub span_of : Option ColumnHead → Range → ShownSpan
span_of None range = record { null = false; ends = None }
span_of (Some column) range = span_by range.null (ends_of column.kind column.names range.numbers)

-- column by column
abbrev pub spans_of : Head → TypedQuery → List ℕ → List Range → List ShownSpan
spans_of head query columns ranges = zip2 (λ c range. span_of (column_of head query c) range) columns ranges

-- ---- which of them are read back

-- the values of the column are numbers of 128 bits with few decimals, dates that have a text, or texts
pub record IsPlainColumn (column : ColumnHead) : Type 0 where
  pub few : decimals_of column.kind ≤ 18
  pub texts : HasTexts column
  pub low : FitsSigned w128 column.base
  pub high : FitsSigned w128 column.top

-- numbers in order that such a column may have
pub record IsPlainPart (column : ColumnHead) (numbers : Interval) : Type 0 where
  pub plain : IsPlainColumn column
  pub above : column.base ≤ℤ numbers.low
  pub ordered : numbers.low ≤ℤ numbers.high
  pub below : numbers.high ≤ℤ column.top

abbrev pub HasPlainPart : Option ColumnHead → Interval → Type 0
HasPlainPart None numbers = ⊥
HasPlainPart (Some column) numbers = IsPlainPart column numbers

-- for each group column there is such a part
abbrev pub ArePlainParts : Head → TypedQuery → List ℕ → List Range → Type 0
ArePlainParts head query [] [] = Unit {0}
ArePlainParts head query [] (range ∷ ranges) = ⊥
ArePlainParts head query (c ∷ cs) [] = ⊥
ArePlainParts head query (c ∷ cs) (range ∷ ranges) =
    HasPlainPart (column_of head query c) range.numbers × ArePlainParts head query cs ranges

-- ---- keys

-- the text of these parts is that of keys which are read back
pub record AreKeysShown (head : Head) (query : TypedQuery) (columns : List ℕ) (ranges : List Range) : Type 0 where
  pub text : key_text head query columns ranges ≡ keys_text (spans_of head query columns ranges)
  pub are_shown : AreShownKeys (spans_of head query columns ranges)

abbrev pub KeysAreShown : Type 0
KeysAreShown =
    (head : Head) (query : TypedQuery) (columns : List ℕ) (ranges : List Range) →
    0 < length columns → ArePlainParts head query columns ranges → AreKeysShown head query columns ranges

-- ---- the cells of a query in progress

-- a query by groups at work on a table with this head, whose columns have such values
pub record AreGroupsOf (head : Head) (stage : Stage) (columns : List ℕ) : Type 0 where
  pub fits : FitsHead stage.query stage.frame head
  pub plain : (i : ℕ) (column : ColumnHead) → slice_get head.columns i ≡ Some column → IsPlainColumn column
  pub shape : stage.query.shape ≡ Grouped columns
  pub some : 0 < length columns
  pub knowledge : IsKnowledge stage.frame stage.known

-- the keys of a cell are present where they are never absent
abbrev pub is_present : Nullity → Bool
is_present Never = true
is_present Possibly = false
is_present Always = false

-- the line of a cell
abbrev pub line_of : Head → Stage → List ℕ → ℕ → GroupLine
line_of head stage columns cell = record {
  keys = spans_of head stage.query columns (ranges_of_cell (parts_in stage) cell);
  present = is_present (absence_in_cell stage cell);
}

-- what is shown of the cell is this line, and behind it what stands behind the keys of the cell and their presence: the lines of items
pub record IsCellShown (head : Head) (stage : Stage) (columns : List ℕ) (cell : ℕ) : Type 0 where
  pub items : List ℕ
  pub behind : (presence : List ℕ) → group_text head stage columns cell presence
      ≡ codes "group " ++ (key_text head stage.query columns (ranges_of_cell (parts_in stage) cell) ++ (presence ++ items))
  pub text : cell_text head stage columns cell (absence_in_cell stage cell)
      ≡ group_line (line_of head stage columns cell) ++ (codes "\n" ++ items)
  pub is_shown : IsShownGroup (line_of head stage columns cell)

-- so is each cell of which something is shown
abbrev pub GroupsAreShown : Type 0
GroupsAreShown =
    (head : Head) (stage : Stage) (columns : List ℕ) (cell : ℕ) → AreGroupsOf head stage columns →
    absence_in_cell stage cell ≢ Always → IsCellShown head stage columns cell
