use Rattle.std.proofs.Common.{rules, arith, ◌≡◌, ◌<◌, ◌≤◌, ◌+◌, ◌∷◌, List, get_or, length, subst, take}
use Rattle.shard_groups.specs.declared.keys.Span.{Span}
use Rattle.shard_groups.specs.Groups.{keys_in}
use Rattle.shard_groups.specs.Steps.{AreNarrow}
use Rattle.shard_groups.proofs.Narrow.{narrow_cell, narrow_line}
use Rattle.shard_groups.proofs.merged.merged.Goals as goal

pub loop-done-preserved-then-comes_before : goal.loop-done-preserved-then-comes_before
loop-done-preserved-then-comes_before c =
    let lines = c.args.lines.now in
    let at = c.loop-done.at in
    let line = c.as_slice-then-comes_before.result.now in
    let is : line ≡ get_or lines at line = cc in
    let h : at < length lines = c.if-at-lines-2.true in
    let end : at + 1 ≤ length lines = omega (arith, h) in (
      narrow_line (keys_in (take c.loop-done.done c.args.cells.now)) lines c.loop-done.merged.items c.join.new.lines.items line at h is
          c.loop-done.invariant.0 c.in_ok-join.ensures,
      c.loop-done.invariant.1,
      end,
    )

pub loop-done-preserved : goal.loop-done-preserved
loop-done-preserved c =
    let cells = c.args.cells.now in
    let done = c.loop-done.done in
    let cell = c.index-cells-done-else-at-lines-2.result in
    let is : cell ≡ get_or cells done cell = cc in
    let own : c.as_slice-else-at-lines-2.result.now ≡ cell.keys = cc in
    let h : done < length cells = search rules in
    let end : done + 1 ≤ length cells = omega (arith, h) in
    let next = c.join-else-at-lines-2.new.lines.items in
    let joined : AreNarrow (cell.keys ∷ c.loop-done.merged.items) next =
    subst (λ (keys : List Span). AreNarrow (keys ∷ c.loop-done.merged.items) next) own c.in_ok-join-2.ensures in (
      narrow_cell cells (take c.loop-done.at c.args.lines.now) c.loop-done.merged.items next cell done h is c.loop-done.invariant.0 joined,
      end,
      c.loop-done.invariant.2,
    )
