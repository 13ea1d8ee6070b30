-- What holds as a plane is read: its words so far were.
use Rattle.std.proofs.Common.{◌≡◌, ◌≤◌, ◌-◌, length}
use Rattle.plane_file.proofs.Pieces.{ReadSoFar}
use Rattle.plane_file.proofs.reading.read_words.Given as goal

abbrev pub invariant-loop-first : goal.invariant-loop-first
invariant-loop-first g l = record {
  within : l.first ≤ l.words;
  rows : length l.into ≡ length l.initial.into;
  so_far : ReadSoFar l.place l.first (g.P.Store.state l.initial.store) (g.P.Store.state l.store) l.into;
}

abbrev pub decreases-loop-first : goal.decreases-loop-first
decreases-loop-first g l = l.words - l.first
