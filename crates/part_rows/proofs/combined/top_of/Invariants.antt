use Rattle.std.proofs.Common.{◌≡◌, take}
use Rattle.report_text.specs.RowBlocks.{certain_rows}
use Rattle.part_rows.proofs.combined.top_of.Given as goal

abbrev pub invariant-loop-line : goal.invariant-loop-line
invariant-loop-line l = l.certain ≡ certain_rows (take l.line-index l.lines)
