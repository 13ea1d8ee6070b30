use Rattle.std.proofs.Common.{subst, sym}
use Rattle.std.proofs.lemmas.Result.{err_from_is_err_and}
use Rattle.part_groups.specs.Cells.{slices}
use Rattle.part_groups.specs.Faults.{IsOtherForm}
use Rattle.part_groups.specs.declared.fault.CombineFault.{CombineFault}
use Rattle.part_groups.proofs.Shared.{one_more, other_than}
use Rattle.part_groups.proofs.forms.forms_over.Goals as goal

pub returns-in_err-form_over-clause-fault : goal.returns-in_err-form_over-clause-fault
returns-in_err-form_over-clause-fault c =
    let parts = slices c.args.parts.now in
    let p = err_from_is_err_and c.from_residual-in_err-form_over.result c.from_residual-in_err-form_over.ensures.1 in
    let fault = other_than c.in_err-form_over.field-0.0 c.args.places c.loop-number.number c.args.count parts c.loop-number-test.true
    c.loop-number.invariant.alike c.in_err-form_over.ensures.fault in
    rw p.1 (subst (λ (why : CombineFault). IsOtherForm why c.args.places c.args.count parts) (sym p.2) fault)

pub loop-number-preserved : goal.loop-number-preserved
loop-number-preserved c =
    one_more c.args.places c.loop-number.number (slices c.args.parts.now) c.loop-number.forms.items c.push.new.self.items c.in_ok-form_over.field-0
    c.in_ok-push.ensures.items c.in_ok-form_over.ensures.form c.in_ok-form_over.ensures.alike c.loop-number.invariant
