use Rattle.std.proofs.Common.{◌≡◌, length, rules}
use Rattle.report_parts.proofs.FromRounds.{order_behind}
use Rattle.report_parts.proofs.parts.Parts.pass.Goals as goal

pub invariant_of-self : goal.invariant_of-self
invariant_of-self c =
    let size : c.self.inside.parts.len ≡ length c.self.inside.parts.items = search rules in
    order_behind c.self.inside.parts.len c.args.round c.self.inside.parts.items c.deref_mut.result.now c.pass_all.new.parts c.deref_mut.ensures.value size
    c.self.invariant c.pass_all.ensures
