use Rattle.std.proofs.Common.{◌≡◌, ◌++◌, drop}
use Rattle.report_parts.specs.Reports.{row_lines}
use Rattle.report_parts.proofs.rows_over.push_row_lines.Given as goal

abbrev pub invariant-loop-row : goal.invariant-loop-row
invariant-loop-row l = l.text.items ++ row_lines (drop l.row-index l.rows) ≡ l.fn.text.items ++ row_lines l.rows
