use Rattle.std.proofs.Common.{◌+◌, arith}
use Rattle.report_parts.proofs.Keyed.{passed_keyed}
use Rattle.report_parts.proofs.Shown.{passed_shown}
use Rattle.report_parts.proofs.combination.Combination.go_on.Goals as goal

pub invariant_of-self : goal.invariant_of-self
invariant_of-self c =
    let columns = c.self.inside.asked.shape.columns in
    let from = c.self.inside.round in
    let to = c.self.inside.round + 1 in
    let before = c.self.inside.parts in
    let after = c.pass.new.self in (
      c.if-self-ge-MOST_ROUNDS.false,
      passed_keyed columns from to before after c.pass.ensures (omega arith) c.self.invariant.1,
      passed_shown from to before after c.pass.ensures (omega arith) c.self.invariant.2,
    )
