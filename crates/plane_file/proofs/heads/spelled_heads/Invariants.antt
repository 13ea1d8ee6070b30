-- What holds as heads are appended: they are those of the columns so far.
use Rattle.std.proofs.Common.{◌≡◌, take}
use Rattle.plane_file.specs.Format.{heads_bytes}
use Rattle.plane_file.proofs.heads.spelled_heads.Given as goal

abbrev pub invariant-loop-column : goal.invariant-loop-column
invariant-loop-column l = l.bytes.items ≡ heads_bytes (take l.column-index l.column-items)
