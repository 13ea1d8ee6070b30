use Rattle.std.proofs.Common.{◌≡◌, ℕ, ◌-◌, ◌*◌, ◌<◌, min, Bool, List, length, get_or}
use Rattle.plane_kernels.specs.Rows.{bits_of}
use Rattle.known_column.specs.Columns.{block_rows}
use Rattle.known_column.proofs.blocks.read_words.Given as goal

abbrev pub invariant-loop-j : goal.invariant-loop-j
invariant-loop-j l = (k : ℕ) (none : List Bool) → k < l.j → bits_of (min 64 (length (get_or l.planes k none) - 64 * l.block)) (get_or l.words k 0) ≡ block_rows l.block (get_or l.planes k none)
