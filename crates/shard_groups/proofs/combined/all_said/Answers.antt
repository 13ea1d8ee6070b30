use Rattle.std.proofs.Common.{subst, sym}
use Rattle.std.proofs.lemmas.Result.{err_from_is_err_and}
use Rattle.shard_groups.specs.declared.fault.GroupFault.{GroupFault}
use Rattle.shard_groups.specs.Groups.{IsLineFault}
use Rattle.shard_groups.proofs.Done.{line_fault}
use Rattle.shard_groups.proofs.combined.all_said.Goals as goal

pub returns-in_err-bound-clause-fault : goal.returns-in_err-bound-clause-fault
returns-in_err-bound-clause-fault c =
    let kinds = c.args.kinds.now in
    let line = c.args.line.now in
    let shards = c.args.shards.now in
    let p = err_from_is_err_and c.from_residual-in_err-bound.result c.from_residual-in_err-bound.ensures.1 in
    let fault = line_fault c.in_err-bound.field-0.0 c.loop-item.item line _ kinds shards c.loop-item.bounds.items c.loop-item.invariant.0
    c.loop-item.invariant.1 c.loop-item.invariant.2 c.loop-item-test.true c.in_err-bound.ensures.fault in
    rw p.1 (subst (λ (e : GroupFault). IsLineFault e kinds line shards) (sym p.2) fault)
