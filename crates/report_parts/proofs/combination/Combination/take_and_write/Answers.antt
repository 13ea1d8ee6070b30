use Rattle.std.proofs.Common.{[], ◌∷◌, ◌++◌, sym, refl, ◌∙◌, length}
use Rattle.std.proofs.lemmas.Result.{err_from_is_err_and}
use Rattle.report_parts.proofs.Courses.{adds_rests, line_fault, other_number, ready_behind, same_number, stopped_behind, waits_for_parts}
use Rattle.report_parts.proofs.combination.Combination.take_and_write.Goals as goal

pub returns-in_err-take_line-clause-refused : goal.returns-in_err-take_line-clause-refused
returns-in_err-take_line-clause-refused c =
    let p = err_from_is_err_and c.from_residual.result c.from_residual.ensures.1 in
    rw (p.1, p.2)
    (refl, λ lines text h. line_fault c.in_err-take_line.field-0.0 c.args.self.now lines text c.args.line.now c.requires c.in_err-take_line.ensures.refused h)

pub returns-in_err-write-clause-refused : goal.returns-in_err-write-clause-refused
returns-in_err-write-clause-refused c =
    let p = err_from_is_err_and c.from_residual-in_err-write.result c.from_residual-in_err-write.ensures.1 in
    let all = same_number (length c.take_line.new.self.parts) c.take_line.new.self.task.count (sym c.if-is_whole.ensures) in
    rw (p.1, p.2)
    (λ lines text h. stopped_behind c.in_err-write.field-0.0 c.args.self.now c.take_line.new.self (lines ++ c.args.line.now ∷ []) text c.args.text.now.items c.write.new.text.items
    c.take_line.ensures.task all c.in_err-write.ensures.fault
    (ready_behind c.args.self.now c.take_line.new.self lines text c.args.line.now c.requires c.take_line.ensures.task c.take_line.ensures.round
    c.in_ok-take_line.ensures.taken c.in_ok-take_line.ensures.few h))

pub returns-in_ok-write-clause-taken : goal.returns-in_ok-write-clause-taken
returns-in_ok-write-clause-taken c =
    let all = same_number (length c.take_line.new.self.parts) c.take_line.new.self.task.count (sym c.if-is_whole.ensures) in
    λ lines text h. adds_rests c.take_line.new.self c.write.new.self (lines ++ c.args.line.now ∷ []) text c.args.text.now.items c.write.new.text.items
    c.write.ensures.task all c.in_ok-write.ensures.written
    (ready_behind c.args.self.now c.take_line.new.self lines text c.args.line.now c.requires c.take_line.ensures.task c.take_line.ensures.round
    c.in_ok-take_line.ensures.taken c.in_ok-take_line.ensures.few h)

pub returns-else-is_whole-clause-taken : goal.returns-else-is_whole-clause-taken
returns-else-is_whole-clause-taken c =
    let other = other_number (length c.take_line.new.self.parts) c.take_line.new.self.task.count (sym c.if-is_whole.ensures) in
    λ lines text h. waits_for_parts c.args.text.now.items c.take_line.new.self (lines ++ c.args.line.now ∷ []) text (c.take_line.ensures.end ∙ c.requires) other
    (ready_behind c.args.self.now c.take_line.new.self lines text c.args.line.now c.requires c.take_line.ensures.task c.take_line.ensures.round
    c.in_ok-take_line.ensures.taken c.in_ok-take_line.ensures.few h)
