use Rattle.std.proofs.Common.{arith, ◌≡◌, List, drop, get_or, subst, sym}
use Rattle.std.proofs.lemmas.Result.{err_from_is_err_and}
use Rattle.shard_groups.specs.declared.fault.GroupFault.{GroupFault}
use Rattle.shard_groups.specs.declared.keys.Span.{Span}
use Rattle.shard_groups.specs.Cuts.{AreNear, AreOn, ArePartsOf}
use Rattle.shard_groups.specs.Groups.{IsGroupFault}
use Rattle.shard_groups.proofs.Cutting.{on_next, parts_of}
use Rattle.shard_groups.proofs.Done.{all_fit, combined_at, done_more, group_fault}
use Rattle.shard_groups.proofs.combined.combine_groups.Goals as goal

pub next_runs-requires : goal.next_runs-requires
next_runs-requires c =
    let shards = c.args.shards.now in
    subst (ArePartsOf shards) (sym c.deref-in-loop-line.ensures.value)
    (parts_of (drop c.loop-line.line-index c.deref-line-items.result.now) shards c.loop-line.runs.items c.loop-line.invariant.3)

pub line_over-requires : goal.line_over-requires
line_over-requires c =
    let lines = c.deref-line-items.result.now in
    let shards = c.args.shards.now in
    let i = c.loop-line.line-index in
    let line = c.as_slice.result.now in
    let same = c.as_slice-in-loop-line.result.now in
    let is : line ≡ get_or lines i line = cc in
    let again : same ≡ line = cc in
    let before = c.deref-in-loop-line.result.now in
    let after = c.in_ok-runs-2.runs.items in
    let on : AreOn (drop i lines) shards before = subst (AreOn (drop i lines) shards) (sym c.deref-in-loop-line.ensures.value) c.loop-line.invariant.3 in
    let next = on_next lines shards before after i line c.loop-line-test.true is c.loop-line.invariant.1.apart on c.in_ok-runs-2.ensures in
    subst (AreNear same shards) (sym c.deref-in-loop-line-2.ensures.value) (subst (λ (l : List Span). AreNear l shards after) (sym again) next.0)

pub loop-line-preserved : goal.loop-line-preserved
loop-line-preserved c =
    let lines = c.deref-line-items.result.now in
    let kinds = c.args.kinds.now in
    let shards = c.args.shards.now in
    let i = c.loop-line.line-index in
    let line = c.as_slice.result.now in
    let same = c.as_slice-in-loop-line.result.now in
    let is : line ≡ get_or lines i line = cc in
    let here : same ≡ get_or lines i same = cc in
    let before = c.deref-in-loop-line.result.now in
    let after = c.in_ok-runs-2.runs.items in
    let on : AreOn (drop i lines) shards before = subst (AreOn (drop i lines) shards) (sym c.deref-in-loop-line.ensures.value) c.loop-line.invariant.3 in
    let next = on_next lines shards before after i line c.loop-line-test.true is c.loop-line.invariant.1.apart on c.in_ok-runs-2.ensures in (
      done_more kinds shards lines c.loop-line.cells.items c.push.new.self.items c.in_ok-cell.cell i same c.loop-line-test.true here
          c.in_ok-cell.ensures.keys c.in_ok-cell.ensures.line c.in_ok-cell.ensures.fit c.in_ok-push.ensures.items c.loop-line.invariant.0,
      c.loop-line.invariant.1,
      c.loop-line.invariant.2,
      next.1,
    )

pub returns-clause-cells : goal.returns-clause-cells
returns-clause-cells c =
    combined_at c.args.kinds.now c.args.shards.now c.deref-line-items.result.now c.loop-line.cells.items c.loop-line.line-index (omega arith)
    c.loop-line.invariant.0 c.loop-line.invariant.1 c.loop-line.invariant.2

pub returns-clause-fit : goal.returns-clause-fit
returns-clause-fit c =
    all_fit c.args.kinds.now c.args.shards.now c.deref-line-items.result.now c.loop-line.cells.items c.loop-line.line-index (omega arith)
    c.loop-line.invariant.0 c.loop-line.invariant.1 c.loop-line.invariant.2

pub returns-in_err-cell-clause-fault : goal.returns-in_err-cell-clause-fault
returns-in_err-cell-clause-fault c =
    let kinds = c.args.kinds.now in
    let shards = c.args.shards.now in
    let lines = c.deref-line-items.result.now in
    let same = c.as_slice-in-loop-line.result.now in
    let here : same ≡ get_or lines c.loop-line.line-index same = cc in
    let p = err_from_is_err_and c.from_residual-in_err-cell.result c.from_residual-in_err-cell.ensures.1 in
    let fault = group_fault c.in_err-cell.field-0.0 kinds shards lines c.loop-line.cells.items c.loop-line.line-index same c.loop-line-test.true here
    c.loop-line.invariant.0 c.loop-line.invariant.1 c.loop-line.invariant.2 c.in_err-cell.ensures.fault in
    rw p.1 (subst (λ (e : GroupFault). IsGroupFault e kinds shards) (sym p.2) fault)
