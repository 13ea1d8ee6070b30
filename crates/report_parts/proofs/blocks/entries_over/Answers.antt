-- That each item before the one that is looked at can be said.
use Rattle.std.proofs.Common.{◌≡◌, arith}
use Rattle.std.proofs.lemmas.Grind.{common_steps}
use Rattle.std.proofs.lemmas.Option.{slice_get-get_or}
use Rattle.std.proofs.lemmas.Result.{err_from_is_err_and}
use Rattle.report_parts.proofs.Said.{all_said, first_fault, said_more}
use Rattle.report_parts.proofs.blocks.entries_over.Goals as goal

pub returns-in_err-entry-clause-fault : goal.returns-in_err-entry-clause-fault
returns-in_err-entry-clause-fault c =
    let kinds = c.args.kinds.now in
    let i = c.loop-kind.kind-index in
    let at : c.len.result ≡ i = omega (arith, c.len.ensures, c.loop-kind.invariant.2, c.loop-kind.entries.ok.0) in
    let p = err_from_is_err_and c.from_residual-in_err-entry.result c.from_residual-in_err-entry.ensures.1 in
    rw (p.1, p.2)
    (first_fault c.in_err-entry.field-0.0 c.args.round c.len.result i kinds c.args.parts.now _ at (slice_get-get_or kinds i _ c.loop-kind-test.true)
    c.loop-kind.invariant.3 c.in_err-entry.ensures.fault)

pub loop-kind-preserved : goal.loop-kind-preserved
loop-kind-preserved c =
    let kinds = c.args.kinds.now in
    let i = c.loop-kind.kind-index in
    let at : c.len.result ≡ i = omega (arith, c.len.ensures, c.loop-kind.invariant.2, c.loop-kind.entries.ok.0) in
    let said = said_more c.args.round c.len.result i kinds c.args.parts.now _ at (slice_get-get_or kinds i _ c.loop-kind-test.true)
    c.in_ok-entry.ensures.said c.loop-kind.invariant.3 in
    (grind (arith, common_steps), grind (arith, common_steps), grind (arith, common_steps), said)

pub returns-clause-said : goal.returns-clause-said
returns-clause-said c = all_said c.args.round c.loop-kind.kind-index c.args.kinds.now c.args.parts.now c.loop-kind-test.false c.loop-kind.invariant.3
