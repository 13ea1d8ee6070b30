use Rattle.std.proofs.Common.{◌≡◌, ◌++◌, drop, map}
use Rattle.part_rows.specs.Combined.{listing, listings, listings_from, part_listings}
use Rattle.part_rows.proofs.listed.listed_rows.Given as goal

abbrev pub invariant-loop-place : goal.invariant-loop-place
invariant-loop-place l = map listing l.rows.items ++ listings_from l.place (part_listings (drop l.place l.parts)) ≡ listings (part_listings l.parts)
