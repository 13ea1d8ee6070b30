use Rattle.std.proofs.Common.{◌≡◌, drop}
use Rattle.part_rows.specs.Combined.{is_skipped, part_listings}
use Rattle.part_rows.proofs.combined.is_skipped.Given as goal

abbrev pub invariant-loop-part : goal.invariant-loop-part
invariant-loop-part l = is_skipped (part_listings (drop l.part-index l.parts)) ≡ is_skipped (part_listings l.parts)
