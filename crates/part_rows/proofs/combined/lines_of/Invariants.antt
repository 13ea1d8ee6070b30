use Rattle.std.proofs.Common.{◌≡◌, ◌++◌, drop, map}
use Rattle.part_rows.specs.Combined.{lines_of, listing}
use Rattle.part_rows.proofs.combined.lines_of.Given as goal

abbrev pub invariant-loop-place : goal.invariant-loop-place
invariant-loop-place l =
    l.lines.items ++ lines_of l.fn.asked l.rows (map listing (drop l.place l.listed)) ≡ lines_of l.fn.asked l.rows (map listing l.listed)
