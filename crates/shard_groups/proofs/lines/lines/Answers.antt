use Rattle.std.proofs.Common.{◌≡◌, ◌∙◌, IsTrue, ap, subst, sym}
use Rattle.shard_groups.specs.Groups.{all_keys}
use Rattle.shard_groups.specs.Lines.{AreLines, IsAscending, in_order}
use Rattle.shard_groups.specs.Steps.{in_steps}
use Rattle.shard_groups.proofs.Ascending.{ordered_ascends, ordered_lines}
use Rattle.shard_groups.proofs.Narrow.{narrow_lines}
use Rattle.shard_groups.proofs.Steps.{steps_ascend}
use Rattle.shard_groups.proofs.lines.lines.Goals as goal

pub returns-then-in_steps-clause-lines : goal.returns-then-in_steps-clause-lines
returns-then-in_steps-clause-lines c =
    let t : IsTrue (in_steps c.in_ok-lines.lines.items) = ap in_steps (sym c.deref.ensures.value) ∙ sym c.in_steps.ensures ∙ c.if-in_steps.true in
    narrow_lines (all_keys c.args.shards.now) c.in_ok-lines.lines.items c.in_ok-lines.ensures t

pub returns-then-in_steps-clause-ascending : goal.returns-then-in_steps-clause-ascending
returns-then-in_steps-clause-ascending c =
    let t : IsTrue (in_steps c.in_ok-lines.lines.items) = ap in_steps (sym c.deref.ensures.value) ∙ sym c.in_steps.ensures ∙ c.if-in_steps.true in
    steps_ascend c.in_ok-lines.lines.items t

pub returns-clause-lines : goal.returns-clause-lines
returns-clause-lines c =
    let e : c.in_ok-ordered.ordered.items ≡ in_order c.in_ok-lines-2.lines.items = c.in_ok-ordered.ensures ∙ ap in_order c.deref-2.ensures.value in
    subst (AreLines (all_keys c.args.shards.now)) (sym e) (ordered_lines (all_keys c.args.shards.now) c.in_ok-lines-2.lines.items c.in_ok-lines-2.ensures)

pub returns-clause-ascending : goal.returns-clause-ascending
returns-clause-ascending c =
    let e : c.in_ok-ordered.ordered.items ≡ in_order c.in_ok-lines-2.lines.items = c.in_ok-ordered.ensures ∙ ap in_order c.deref-2.ensures.value in
    subst IsAscending (sym e) (ordered_ascends c.in_ok-lines-2.lines.items)
