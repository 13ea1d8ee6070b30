-- One more item is typed, or is the first fault.
use Rattle.std.proofs.Common.{map}
use Rattle.std.proofs.lemmas.Result.{err_from_is_err_and}
use Rattle.sql_text.specs.Tree.{item_of, name_of}
use Rattle.sql_typing.specs.Faults.{item_fault}
use Rattle.sql_typing.specs.Typing.{typed_item}
use Rattle.sql_typing.proofs.Firsts.{bad_first, next_first}
use Rattle.sql_typing.proofs.Lists.{next_given, rest_is}
use Rattle.sql_typing.proofs.item.typed_list.Goals as goal

pub returns-in_err-aggregate : goal.returns-in_err-aggregate
returns-in_err-aggregate c =
    let p = err_from_is_err_and c.from_residual.result c.from_residual.ensures.1 in
    let rest = rest_is item_of c.args.items.now c.loop-item.item-index c.item-item.result c.loop-item-test.true c.item-item.is in
    rw p.1 (rw p.2 (bad_first (item_fault c.args.table.now (map name_of c.args.groups.now)) (item_of c.item-item.result) _ _ _ c.in_err-aggregate.field-0.0 rest c.loop-item.invariant.faults c.in_err-aggregate.ensures))

pub loop-item-preserved : goal.loop-item-preserved
loop-item-preserved c =
    let rest = rest_is item_of c.args.items.now c.loop-item.item-index c.item-item.result c.loop-item-test.true c.item-item.is in
    record {
      faults = next_first (item_fault c.args.table.now (map name_of c.args.groups.now)) (item_of c.item-item.result) _ _ _ rest c.loop-item.invariant.faults c.in_ok-aggregate.ensures.0;
      items = next_given (typed_item c.args.table.now c.args.columns.now) c.loop-item.typed.items _ _ (item_of c.item-item.result) _ _ _ rest c.in_ok-aggregate.ensures.1 c.in_ok-push_some.ensures c.loop-item.invariant.items;
    }
