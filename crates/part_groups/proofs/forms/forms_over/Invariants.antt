use Rattle.part_groups.specs.Cells.{slices}
use Rattle.part_groups.specs.Forms.{AreSharedForms}
use Rattle.part_groups.proofs.forms.forms_over.Given as goal

abbrev pub invariant-loop-number : goal.invariant-loop-number
invariant-loop-number l =
    AreSharedForms l.places l.number (slices l.parts) l.forms.items
