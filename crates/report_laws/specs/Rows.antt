-- What reports show of first rows is the lines that are read back, as statements.
use Rattle.std.specs.Prelude.{◌≡◌, ℕ, ◌+◌, ◌<◌, ◌^◌, Bool, true, false, List, ◌++◌, codes, count_by, length, slice_get}
use Rattle.std.specs.declared.option.Option.TheVariants.{Some, None}
use Rattle.daq_table.specs.Tables.{rows_of}
use Rattle.daq_table.specs.declared.head.ColumnHead.{ColumnHead}
use Rattle.daq_table.specs.declared.table_head.Head.{Head}
use Rattle.query_model.specs.Knowledge.{IsKnowledge, ranges_of}
use Rattle.query_model.specs.Validity.{FitsHead}
use Rattle.topk_bounds.specs.Standings.{is_certain, is_possible}
use Rattle.round_engine.specs.Stages.{Stage}
use Rattle.daq_report.specs.Intervals.{column_of}
use Rattle.daq_report.specs.Rankings as report
use Rattle.daq_report.specs.Rankings.{standing_at}
use Rattle.report_text.specs.Rows.{IsShownRow, IsTopLine, row_line, skip_line, top_line}
use Rattle.report_text.specs.declared.rows.RowLine.{RowLine}
use Rattle.report_text.specs.declared.rows.TopLine.{TopLine}
use Rattle.report_laws.specs.Groups.{IsPlainColumn, span_of}

-- a query of rows in the order of this column at work on a table with this head, whose columns have values that are read back
pub record IsInOrder (head : Head) (stage : Stage) (key : ℕ) : Type 0 where
  pub fits : FitsHead stage.query stage.frame head
  pub plain : (i : ℕ) (column : ColumnHead) → slice_get head.columns i ≡ Some column → IsPlainColumn column
  pub there : key < length stage.query.columns
  pub knowledge : IsKnowledge stage.frame stage.known
  pub few : stage.frame.rows < 2 ^ 64

-- how many rows are among the first
abbrev pub top_of : Stage → ℕ → TopLine
top_of stage limit = record {
  limit = limit;
  certain = count_by (λ r. is_certain (standing_at stage r)) (rows_of stage.frame);
  possible = count_by (λ r. is_possible (standing_at stage r)) (rows_of stage.frame);
}

-- a row of one table has no tag, and is counted from 1
abbrev pub row_of : Head → Stage → ℕ → Bool → ℕ → RowLine
row_of head stage key certain r = record {
  name = record { tag = None; number = r + 1 };
  certain = certain;
  key = span_of (column_of head stage.query key) (ranges_of stage.frame stage.known r key);
}

-- what is shown of the row with this standing is this line, and the line is read back
pub record IsRowShown (head : Head) (stage : Stage) (key : ℕ) (certain : Bool) (standing : List ℕ) (r : ℕ) : Type 0 where
  pub text : report.row_line head stage key standing r ≡ row_line (row_of head stage key certain r) ++ codes "\n"
  pub is_shown : IsShownRow (row_of head stage key certain r)

-- so it is with the numbers of rows
pub record IsTopShown (stage : Stage) (limit : ℕ) : Type 0 where
  pub text : report.top_line stage limit ≡ top_line (top_of stage limit) ++ codes "\n"
  pub is_top : IsTopLine (top_of stage limit)

pub record FirstRowsAreShown : Type 0 where
  pub top : (head : Head) (stage : Stage) (key limit : ℕ) → IsInOrder head stage key → limit < 2 ^ 64 → IsTopShown stage limit
  pub certain : (head : Head) (stage : Stage) (key r : ℕ) → IsInOrder head stage key → r < stage.frame.rows →
      IsRowShown head stage key true (codes " certain ") r
  pub possible : (head : Head) (stage : Stage) (key r : ℕ) → IsInOrder head stage key → r < stage.frame.rows →
      IsRowShown head stage key false (codes " possible ") r
  pub untold : (limit : ℕ) → report.untold_line limit ≡ skip_line limit ++ codes "\n"
