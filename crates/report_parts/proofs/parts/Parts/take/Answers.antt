use Rattle.report_parts.proofs.Ordered.{order_at, order_first}
use Rattle.report_parts.specs.Told.{Takes, nothing_told}
use Rattle.report_parts.proofs.parts.Parts.take.Goals as goal

pub invariant_of-self : goal.invariant_of-self
invariant_of-self c =
    order_at c.in_ok-tagged.tagged.tag.now c.deref.result.now c.self.inside.parts.items c.take_at.new.parts.items c.in-Ok.place c.deref.ensures.value
    c.in-Ok.ensures c.self.invariant c.take_at.ensures.tag

pub invariant_of-self-in-Err : goal.invariant_of-self-in-Err
invariant_of-self-in-Err c =
    order_first c.in_ok-tagged.tagged.tag.now c.deref.result.now c.self.inside.parts.items c.take_first.new.parts.items c.in-Err.place c.take_first.result
    (λ told. Takes c.args.asked.now.query.items c.args.asked.now.shape (nothing_told c.in_ok-tagged.tagged.tag.now) c.in_ok-tagged.tagged.line.now told)
    c.deref.ensures.value c.in-Err.ensures c.self.invariant c.take_first.ensures.taken c.take_first.ensures.kept
