use Rattle.std.proofs.Common.{◌≡◌, ◌∙◌, false, ap, subst, sym}
use Rattle.part_groups.specs.Cells.{slices}
use Rattle.part_groups.specs.Faults.{IsFormFault}
use Rattle.part_groups.specs.Forms.{are_alike}
use Rattle.part_groups.specs.declared.fault.CombineFault.{CombineFault}
use Rattle.part_groups.proofs.Shared.{no_form}
use Rattle.part_groups.proofs.forms.form_over.Goals as goal

pub returns-then-not-are_alike-clause-fault : goal.returns-then-not-are_alike-clause-fault
returns-then-not-are_alike-clause-fault c =
    let parts = slices c.args.parts.now in
    let other : are_alike c.in_ok-forms.forms.items ≡ false = ap are_alike (sym c.deref.ensures.value) ∙ sym c.are_alike.ensures ∙ c.if-not-are_alike.true in
    subst (λ (why : CombineFault). IsFormFault why c.args.places c.args.number parts) (sym c.other_form.ensures)
    (no_form c.args.places c.args.number parts c.in_ok-forms.forms.items c.in_ok-forms.ensures other)
