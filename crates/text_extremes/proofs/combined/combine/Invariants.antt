use Rattle.std.proofs.Common.{◌≡◌, ◌≤◌, drop, length, map}
use Rattle.std.specs.Option.{option_map}
use Rattle.text_extremes.specs.Answers.{bound_of, bound_told}
use Rattle.text_extremes.specs.Bounds.{combined}
use Rattle.text_extremes.proofs.combined.combine.Given as goal

abbrev pub invariant-loop-i : goal.invariant-loop-i
invariant-loop-i l = (option_map bound_of l.whole ≡ combined l.extreme (map bound_told (drop l.i l.answers))) × (l.i ≤ length l.answers)

abbrev pub decreases-loop-i : goal.decreases-loop-i
decreases-loop-i l = l.i
