use Rattle.std.proofs.Common.{◌≡◌, ℕ, ◌<◌, [], false, get_or}
use Rattle.std.specs.Str.{bytes_eq}
use Rattle.table_gen.specs.Draws.{text_of}
use Rattle.table_gen.proofs.names.place_of.Given as goal

abbrev pub invariant-loop-place : goal.invariant-loop-place
invariant-loop-place l = (k : ℕ) → k < l.place → bytes_eq (text_of l.code) (get_or l.names k []) ≡ false
