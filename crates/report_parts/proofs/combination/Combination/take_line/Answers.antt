use Rattle.std.proofs.Common.{◌≡◌, ◌∙◌, ap, sym}
use Rattle.report_parts.proofs.Keyed.{tagged_keyed}
use Rattle.report_parts.proofs.Ordered.{starved_refused}
use Rattle.report_parts.proofs.Shown.{tagged_shown}
use Rattle.report_parts.specs.Course.{Course}
use Rattle.report_parts.specs.declared.fault.InputFault.TheVariants.{Line}
use Rattle.report_parts.specs.declared.fault.LineFault.{LineFault}
use Rattle.report_parts.specs.declared.fault.LineFault.TheVariants.{NoMemory}
use Rattle.report_parts.proofs.combination.Combination.take_line.Goals as goal

pub invariant_of-self : goal.invariant_of-self
invariant_of-self c =
    let query = c.self.inside.asked.query.items in
    let shape = c.self.inside.asked.shape in
    let round = c.self.inside.round in
    let before = c.self.inside.parts in
    let after = c.take.new.self in (
      c.self.invariant.0,
      tagged_keyed query shape round before c.args.line.now after c.in-Ok.ensures.taken c.self.invariant.1,
      tagged_shown query shape round before c.args.line.now after c.in-Ok.ensures.taken c.self.invariant.2,
    )

pub returns-in-Err-Line-NoMemory-clause-refused : goal.returns-in-Err-Line-NoMemory-clause-refused
returns-in-Err-Line-NoMemory-clause-refused c =
    let why : c.in-Err-Line-NoMemory.field-0 ≡ Line NoMemory =
    c.in-Err-Line-NoMemory.field-0-is ∙ ap (λ (f : LineFault). Line f) c.in-Err-Line-NoMemory.field-0-0-is in
    starved_refused c.in-Err-Line-NoMemory.field-0 c.self.inside.asked.query.items c.self.inside.asked.shape c.self.inside.count c.self.inside.parts
    c.args.line.now c.args.self.now.task.count c.args.self.now.parts why (sym (ap (λ (k : Course). k.task.count) c.self.view_is))
    (sym (ap (λ (k : Course). k.parts) c.self.view_is)) c.in-Err-Line-NoMemory.ensures.refused
