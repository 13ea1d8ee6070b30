use Rattle.std.proofs.Common.{◌≡◌, ◌∙◌, List, [], ◌∷◌, ◌++◌, IsTrue, ap, subst, sym}
use Rattle.shard_groups.specs.declared.keys.Span.{Span}
use Rattle.shard_groups.specs.Keys.{hull, meets}
use Rattle.shard_groups.specs.Steps.{AreNarrow}
use Rattle.shard_groups.proofs.Narrow.{narrow_itself, narrow_joined, narrow_push}
use Rattle.shard_groups.proofs.merged.join.Goals as goal

pub loop-last-init : goal.loop-last-init
loop-last-init c =
    let from = c.args.cell.now ∷ c.args.lines.now.items in
    let e : c.in_ok-line.line ≡ c.args.cell.now = c.in_ok-line.ensures in
    subst (λ (l : List Span). AreNarrow from (l ∷ c.args.lines.now.items)) (sym e) (narrow_itself from)

pub loop-last-preserved : goal.loop-last-preserved
loop-last-preserved c =
    let line = c.loop-last.line in
    let last = c.in-Some.last in
    let f : c.as_slice.result.now ≡ line = cc in
    let first : c.as_slice-in-Some.result.now ≡ line = cc in
    let second : c.as_slice-in-Some-2.result.now ≡ last = cc in
    let both : c.in_ok-line-2.line ≡ hull c.as_slice-in-Some.result.now c.as_slice-in-Some-2.result.now = c.in_ok-line-2.ensures in
    let next : c.in_ok-line-2.line ≡ hull line last =
    both ∙ ap (λ (l : List Span). hull l c.as_slice-in-Some-2.result.now) first ∙ ap (hull line) second in
    narrow_joined c.args.cell.now c.args.lines.now.items c.loop-last.lines.items c.take_if_meets.new.lines.items line last c.in_ok-line-2.line
    (subst (λ (l : List Span). IsTrue (meets l last)) f c.in-Some.ensures.taken.0) c.in-Some.ensures.taken.1 next c.loop-last.invariant

pub returns : goal.returns
returns c =
    let line = c.loop-last.line in
    let lines = c.loop-last.lines.items in
    let from = c.args.cell.now ∷ c.args.lines.now.items in
    let kept : c.take_if_meets.new.lines.items ≡ lines = c.in_default.ensures.kept in
    let pushed : c.push.new.self.items ≡ lines ++ line ∷ [] =
    c.in_ok-push.ensures.items ∙ ap (λ (ls : List (List Span)). ls ++ line ∷ []) kept in
    subst (AreNarrow from) (sym pushed) (narrow_push from line lines c.loop-last.invariant)
