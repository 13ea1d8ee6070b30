-- Why a line is not taken, and what is written then.
use Rattle.std.proofs.Common.{refl, subst}
use Rattle.std.proofs.lemmas.Result.{err_from_is_err_and}
use Rattle.report_parts.specs.Course.{IsCourseFault}
use Rattle.report_parts.specs.declared.fault.BlockFault.{BlockFault}
use Rattle.report_parts.specs.declared.fault.BlockFault.TheVariants as b
use Rattle.report_parts.specs.declared.fault.CourseFault.{CourseFault}
use Rattle.report_parts.specs.declared.fault.CourseFault.TheVariants.{Block}
use Rattle.report_stream.proofs.Takes.{block_stops, partly_written}
use Rattle.report_stream.specs.Steps.Puts.{taken}
use Rattle.report_stream.specs.Steps.StopsTake.{by_input, by_write}
use Rattle.report_stream.specs.declared.fault.LineRefusal.TheVariants as r
use Rattle.report_stream.proofs.stream.take.Goals as goal

pub returns-in_err-write_whole-in-Ok-clause-refused : goal.returns-in_err-write_whole-in-Ok-clause-refused
returns-in_err-write_whole-in-Ok-clause-refused g c =
    let p = err_from_is_err_and c.from_residual.result c.from_residual.ensures.1 in
    let state = g.K.Sink.state in
    rw (p.1, p.2)
    (by_write c.take.new.text.items refl (taken c.take.new.self c.take.ensures.task c.in-Ok.ensures.taken)
    (partly_written _ (state c.args.out.now) (state c.write_whole.new.sink) c.deref.result.now c.take.new.text.items c.deref.ensures.value
    c.in_err-write_whole-in-Ok.ensures))

pub returns-in-Err-Input-clause-refused : goal.returns-in-Err-Input-clause-refused
returns-in-Err-Input-clause-refused g c =
    let refused = subst (λ (f : CourseFault). IsCourseFault f c.args.combination.now c.args.line.now c.args.text.now.items c.take.new.text.items)
    c.in-Err-Input.field-0-is c.in-Err-Input.ensures.refused in
    by_input c.in-Err-Input.fault c.of_input.ensures (refl, refused.1) refl

pub returns-in-Err-Block-OtherColumn-clause-refused : goal.returns-in-Err-Block-OtherColumn-clause-refused
returns-in-Err-Block-OtherColumn-clause-refused g c =
    let arm = c.in-Err-Block-OtherColumn in
    let stopped = subst (λ (f : BlockFault). IsCourseFault (Block f) c.args.combination.now c.args.line.now c.args.text.now.items c.take.new.text.items)
    arm.field-0-0-is (subst (λ (f : CourseFault). IsCourseFault f c.args.combination.now c.args.line.now c.args.text.now.items c.take.new.text.items)
    arm.field-0-is arm.ensures.refused) in
    block_stops g.K.Sink.state c.args.combination.now c.args.line.now c.args.text.now.items c.take.new.text.items
    c.deref-in-Err-Block-OtherColumn.result.now c.args.number c.args.out.now c.write_before.new.out (b.OtherColumn arm.column)
    (r.OtherColumn arm.column) c.write_before.result refl stopped c.deref-in-Err-Block-OtherColumn.ensures.value c.write_before.ensures

pub returns-in-Err-Block-OtherItem-clause-refused : goal.returns-in-Err-Block-OtherItem-clause-refused
returns-in-Err-Block-OtherItem-clause-refused g c =
    let arm = c.in-Err-Block-OtherItem in
    let stopped = subst (λ (f : BlockFault). IsCourseFault (Block f) c.args.combination.now c.args.line.now c.args.text.now.items c.take.new.text.items)
    arm.field-0-0-is (subst (λ (f : CourseFault). IsCourseFault f c.args.combination.now c.args.line.now c.args.text.now.items c.take.new.text.items)
    arm.field-0-is arm.ensures.refused) in
    block_stops g.K.Sink.state c.args.combination.now c.args.line.now c.args.text.now.items c.take.new.text.items
    c.deref-in-Err-Block-OtherItem.result.now c.args.number c.args.out.now c.write_before-in-Err-Block-OtherItem.new.out (b.OtherItem arm.item)
    (r.OtherItem arm.item) c.write_before-in-Err-Block-OtherItem.result refl stopped c.deref-in-Err-Block-OtherItem.ensures.value
    c.write_before-in-Err-Block-OtherItem.ensures

pub returns-in-Err-Block-TooWide-clause-refused : goal.returns-in-Err-Block-TooWide-clause-refused
returns-in-Err-Block-TooWide-clause-refused g c =
    let arm = c.in-Err-Block-TooWide in
    let stopped = subst (λ (f : BlockFault). IsCourseFault (Block f) c.args.combination.now c.args.line.now c.args.text.now.items c.take.new.text.items)
    arm.field-0-0-is (subst (λ (f : CourseFault). IsCourseFault f c.args.combination.now c.args.line.now c.args.text.now.items c.take.new.text.items)
    arm.field-0-is arm.ensures.refused) in
    block_stops g.K.Sink.state c.args.combination.now c.args.line.now c.args.text.now.items c.take.new.text.items
    c.deref-in-Err-Block-TooWide.result.now c.args.number c.args.out.now c.write_before-in-Err-Block-TooWide.new.out (b.TooWide arm.item)
    (r.TooWide arm.item) c.write_before-in-Err-Block-TooWide.result refl stopped c.deref-in-Err-Block-TooWide.ensures.value
    c.write_before-in-Err-Block-TooWide.ensures

pub returns-in-Err-Block-UnclearTag-clause-refused : goal.returns-in-Err-Block-UnclearTag-clause-refused
returns-in-Err-Block-UnclearTag-clause-refused g c =
    let arm = c.in-Err-Block-UnclearTag in
    let stopped = subst (λ (f : BlockFault). IsCourseFault (Block f) c.args.combination.now c.args.line.now c.args.text.now.items c.take.new.text.items)
    arm.field-0-0-is (subst (λ (f : CourseFault). IsCourseFault f c.args.combination.now c.args.line.now c.args.text.now.items c.take.new.text.items)
    arm.field-0-is arm.ensures.refused) in
    block_stops g.K.Sink.state c.args.combination.now c.args.line.now c.args.text.now.items c.take.new.text.items
    c.deref-in-Err-Block-UnclearTag.result.now c.args.number c.args.out.now c.write_before-in-Err-Block-UnclearTag.new.out (b.UnclearTag arm.part)
    (r.UnclearTag arm.part) c.write_before-in-Err-Block-UnclearTag.result refl stopped c.deref-in-Err-Block-UnclearTag.ensures.value
    c.write_before-in-Err-Block-UnclearTag.ensures

pub returns-in-Err-Block-OtherForm-clause-refused : goal.returns-in-Err-Block-OtherForm-clause-refused
returns-in-Err-Block-OtherForm-clause-refused g c =
    let arm = c.in-Err-Block-OtherForm in
    let stopped = subst (λ (f : BlockFault). IsCourseFault (Block f) c.args.combination.now c.args.line.now c.args.text.now.items c.take.new.text.items)
    arm.field-0-0-is (subst (λ (f : CourseFault). IsCourseFault f c.args.combination.now c.args.line.now c.args.text.now.items c.take.new.text.items)
    arm.field-0-is arm.ensures.refused) in
    block_stops g.K.Sink.state c.args.combination.now c.args.line.now c.args.text.now.items c.take.new.text.items
    c.deref-in-Err-Block-OtherForm.result.now c.args.number c.args.out.now c.write_before-in-Err-Block-OtherForm.new.out b.OtherForm
    r.OtherForm c.write_before-in-Err-Block-OtherForm.result refl stopped c.deref-in-Err-Block-OtherForm.ensures.value
    c.write_before-in-Err-Block-OtherForm.ensures
