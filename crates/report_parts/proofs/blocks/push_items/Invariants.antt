use Rattle.std.proofs.Common.{◌≡◌, ◌+◌, ◌++◌, drop}
use Rattle.report_parts.specs.Reports.{item_lines}
use Rattle.report_parts.proofs.blocks.push_items.Given as goal

abbrev pub invariant-loop-place : goal.invariant-loop-place
invariant-loop-place l =
    l.text.items ++ item_lines (l.place + 1) (drop l.place l.kinds) (drop l.place l.entries) ≡ l.fn.text.items ++ item_lines 1 l.kinds l.entries
