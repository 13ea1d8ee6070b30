use Rattle.std.proofs.Common.{◌≡◌, drop}
use Rattle.part_rows.specs.Faults.{is_clear}
use Rattle.part_rows.proofs.combined.is_clear.Given as goal

abbrev pub invariant-loop-byte : goal.invariant-loop-byte
invariant-loop-byte l = is_clear (drop l.byte-index l.tag) ≡ is_clear l.tag
