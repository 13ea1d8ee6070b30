use Rattle.std.proofs.Common.{◌≡◌, map, take}
use Rattle.part_rows.specs.Combined.{part_listings}
use Rattle.report_parts.specs.Rounds.{listed_in}
use Rattle.report_parts.proofs.rows_over.all_listed_in.Given as goal

abbrev pub invariant-loop-part : goal.invariant-loop-part
invariant-loop-part l = part_listings l.listed.items ≡ map (listed_in l.round) (take l.part-index l.parts)
