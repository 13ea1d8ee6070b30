use Rattle.std.proofs.Common.{◌≡◌, ◌-◌, false}
use Rattle.aggregates.specs.ExtremeRows.{is_ahead}
use Rattle.aggregates.proofs.BlockWords.{AreLeading}
use Rattle.aggregates.proofs.NumberRows.{first_plane}
use Rattle.aggregates.proofs.extreme_rows.extreme_in_block.Given as goal

abbrev pub invariant-loop-j : goal.invariant-loop-j
invariant-loop-j l =
    AreLeading l.extreme l.known l.mask l.block (l.known.known.read - l.j) (l.j - first_plane l.known.ends l.known.known.read) l.candidates l.number
    × (is_ahead l.extreme l.best l.number (l.known.known.read - l.j) ≡ false)
