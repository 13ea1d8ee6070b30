use Rattle.std.proofs.Common.{◌≡◌, ◌+◌, drop}
use Rattle.part_rows.specs.Combined.{part_listings}
use Rattle.part_rows.specs.Faults.{first_unclear}
use Rattle.part_rows.proofs.combined.check_tags.Given as goal

abbrev pub invariant-loop-place : goal.invariant-loop-place
invariant-loop-place l = l.place + first_unclear (part_listings (drop l.place l.parts)) ≡ first_unclear (part_listings l.parts)
