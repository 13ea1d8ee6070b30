-- The loop goes over the names of the word.
use Rattle.std.proofs.Common.{rules, tests, ◌==◌, length, sym, ap, ◌∙◌, subst, arith, length-append, [], ◌∷◌}
use Rattle.std.proofs.lemmas.Iterator.Consumers.{YieldsList-at, YieldsList-turn, YieldsList-end}
use Rattle.std.proofs.lemmas.Iterator.Splits.{YieldsList-from_slice_split}
use Rattle.plane_reads.specs.Next.{IsNext, IsNextFault}
use Rattle.plane_reads.specs.Reads.{AreFirstReads, Refuses}
use Rattle.plane_reads.proofs.Turns.{fault_there, next_read, refused, turn_of}
use Rattle.plane_reads.proofs.reads.check_reads.Goals as goal

pub returns-in_err-next_column-clause-err : goal.returns-in_err-next_column-clause-err
returns-in_err-next_column-clause-err c =
    let turn = turn_of c.args.word.now c.names.columns.items c.in-Some.name.now (length c.names.yielded) c.names.invariant.count
    (YieldsList-turn (YieldsList-at c.into_iter-name-iterator.ensures.into_iter_gives (YieldsList-from_slice_split _ (λ b. b == 44) c.args.word.now c.split-name-items.ensures.rest c.split-name-items.ensures.done c.split-name-items.ensures.closure (λ x r q k. search (rules, tests)))) c.names.yielded _ c.names.yielded_by _ _ c.in-Some.name c.in-Some.is c.next.ensures.steps) in
    refused c.from_residual.result c.in_err-next_column.field-0.0 (Refuses c.args.word.now c.args.query.now c.args.head.now) (search rules)
    (fault_there c.args.word.now c.args.query.now c.args.head.now c.names.columns.items c.in-Some.name.now c.in_err-next_column.field-0.0 c.names.invariant.first turn
    (subst (λ columns. IsNextFault c.args.query.now c.args.head.now columns c.in-Some.name.now c.in_err-next_column.field-0.0) c.deref.ensures.value c.in_err-next_column.ensures.err))

pub names-preserved : goal.names-preserved
names-preserved c =
    let turn = turn_of c.args.word.now c.names.columns.items c.in-Some.name.now (length c.names.yielded) c.names.invariant.count
    (YieldsList-turn (YieldsList-at c.into_iter-name-iterator.ensures.into_iter_gives (YieldsList-from_slice_split _ (λ b. b == 44) c.args.word.now c.split-name-items.ensures.rest c.split-name-items.ensures.done c.split-name-items.ensures.closure (λ x r q k. search (rules, tests)))) c.names.yielded _ c.names.yielded_by _ _ c.in-Some.name c.in-Some.is c.next.ensures.steps) in
    let more = next_read c.args.word.now c.args.query.now c.args.head.now c.names.columns.items c.in-Some.name.now c.in_ok-next_column.field-0 c.names.invariant.first turn
    (subst (λ columns. IsNext c.args.query.now c.args.head.now columns c.in-Some.name.now c.in_ok-next_column.field-0) c.deref.ensures.value c.in_ok-next_column.ensures.ok) in
    let longer = length-append c.names.columns.items (c.in_ok-next_column.field-0 ∷ []) in
    let further = length-append c.names.yielded (c.in-Some.name ∷ []) in
    let count = c.names.invariant.count in
    record {
      first = subst (λ xs. AreFirstReads c.args.word.now c.args.query.now c.args.head.now xs) (sym c.in_ok-push.ensures.items) more;
      count = ap length c.in_ok-push.ensures.items ∙ omega (arith, longer, further, count);
    }

pub returns-clause-ok : goal.returns-clause-ok
returns-clause-ok c =
    let last = YieldsList-end (YieldsList-at c.into_iter-name-iterator.ensures.into_iter_gives (YieldsList-from_slice_split _ (λ b. b == 44) c.args.word.now c.split-name-items.ensures.rest c.split-name-items.ensures.done c.split-name-items.ensures.closure (λ x r q k. search (rules, tests)))) c.names.yielded _ c.names.yielded_by _ _ c.in-None.is c.next.ensures.steps in
    record {
      first = subst (λ xs. AreFirstReads c.args.word.now c.args.query.now c.args.head.now xs) (sym c.new.ensures) c.names.invariant.first;
      all = ap length c.new.ensures ∙ c.names.invariant.count ∙ last.1;
    }
