-- What holds as pieces are written: what is done and the text of those left make the whole text.
use Rattle.std.proofs.Common.{◌≡◌, ◌≤◌, ℕ, List, ◌++◌, drop}
use Rattle.std.specs.Io.KnownBytes.{Appends}
use Rattle.outer_world.specs.Whole.{text_of}
use Rattle.outer_world.proofs.whole.write_pieces.Given as goal

abbrev pub invariant-loop-piece : goal.invariant-loop-piece
invariant-loop-piece g l = record {
  count : (g.K.Sink.state l.fn.sink).faults ≤ (g.K.Sink.state l.sink).faults;
  done : (bytes : List ℕ) × (text_of l.pieces ≡ bytes ++ text_of (drop l.piece-index l.pieces)) × Appends (g.K.Sink.state l.fn.sink).written (g.K.Sink.state l.sink).written bytes;
}
