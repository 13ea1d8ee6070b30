use Rattle.std.proofs.Common.{List, sym, subst}
use Rattle.part_groups.specs.Whole.{AreKeyed}
use Rattle.report_parts.proofs.Keyed.{keyed_here}
use Rattle.report_parts.specs.Rounds.{all_groups_in}
use Rattle.report_parts.specs.Shown.{AreShownFrom}
use Rattle.report_parts.specs.Told.{Told}
use Rattle.report_parts.proofs.combination.Combination.block.Goals as goal

pub block_over-requires-clause-keyed : goal.block_over-requires-clause-keyed
block_over-requires-clause-keyed c =
    let columns = c.self.inside.asked.shape.columns in
    let round = c.self.inside.round in
    subst (λ (parts : List Told). AreKeyed columns (all_groups_in round parts)) (sym c.as_slice-parts.ensures)
    (keyed_here columns round c.self.inside.parts c.self.invariant.1)

pub block_over-requires-clause-shown : goal.block_over-requires-clause-shown
block_over-requires-clause-shown c =
    subst (λ (parts : List Told). AreShownFrom c.self.inside.round parts) (sym c.as_slice-parts.ensures) c.self.invariant.2
