use Rattle.report_parts.proofs.RowHeadlines.{rows_certain}
use Rattle.report_parts.proofs.laws.combined_rows_are_certain.Goals as goal

pub returns : goal.returns
returns c =
    rows_certain c.names_are_apart.ensures c.named_lines_are_right.ensures c.parts_are_later.ensures c.joined_lines_nest.ensures
    c.joined_lines_become_exact.ensures c.rising_lines_are_listed_once.ensures c.lines_hold.ensures
