use Rattle.std.proofs.Common.{◌≡◌, ◌∙◌, List, ◌∷◌, ap, get_or, sym, subst}
use Rattle.shard_groups.specs.declared.keys.Span.{Span}
use Rattle.std.specs.List.{remove}
use Rattle.shard_groups.specs.Keys.{hull}
use Rattle.shard_groups.specs.Lines.{AreJoining}
use Rattle.shard_groups.proofs.LineSets.{joined, joining_none}
use Rattle.shard_groups.proofs.lines.add.Goals as goal

pub loop-at-init : goal.loop-at-init
loop-at-init c =
    let e : c.in_ok-line.line ≡ c.args.cell.now = c.in_ok-line.ensures in
    λ cells h. subst (λ l. AreJoining (c.args.cell.now ∷ cells) l c.args.lines.now.items) (sym e) (joining_none c.args.cell.now cells c.args.lines.now.items h)

pub loop-at-preserved : goal.loop-at-preserved
loop-at-preserved c =
    let line = c.loop-at.line in
    let lines = c.loop-at.lines.items in
    let at = c.in-Some.at in
    let other = c.remove-other.result in
    let e : c.deref.result.now ≡ lines = cc in
    let f : c.as_slice.result.now ≡ line = cc in
    let o : other ≡ get_or lines at other = cc in
    let r : c.remove-other.new.self.items ≡ remove lines at = cc in
    let first : c.as_slice-in-Some.result.now ≡ line = cc in
    let second : c.as_slice-in-Some-2.result.now ≡ other = cc in
    let both : c.in_ok-line-2.line ≡ hull c.as_slice-in-Some.result.now c.as_slice-in-Some-2.result.now = c.in_ok-line-2.ensures in
    let n : c.in_ok-line-2.line ≡ hull line other =
    both ∙ ap (λ (l : List Span). hull l c.as_slice-in-Some-2.result.now) first ∙ ap (hull line) second in
    λ cells h. joined (c.args.cell.now ∷ cells) line c.as_slice.result.now c.in_ok-line-2.line lines c.deref.result.now c.remove-other.new.self.items other at
    e f c.in-Some.ensures.found o r n (c.loop-at.invariant cells h)
