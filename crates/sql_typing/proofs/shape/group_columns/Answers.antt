-- One more name keeps the columns.
use Rattle.std.proofs.Common.{◌≡◌, ◌∙◌, ap}
use Rattle.sql_text.specs.Tree.{Name, name_of}
use Rattle.sql_typing.specs.Names.{number_of}
use Rattle.sql_typing.proofs.Lists.{next_distinct, rest_is}
use Rattle.sql_typing.proofs.shape.group_columns.Goals as goal

pub loop-name-preserved : goal.loop-name-preserved
loop-name-preserved c =
    let rest = rest_is name_of c.args.names.now c.loop-name.name-index c.name-item.result c.loop-name-test.true c.name-item.is in
    let number : c.number_of-number.result ≡ number_of c.args.table.now c.args.columns.now c.name-item.result.name.items = c.number_of-number.ensures ∙ ap (λ t. number_of c.args.table.now c.args.columns.now t) c.as_slice.ensures.value in
    let pushed = c.in_ok-push_new.ensures in
    next_distinct (λ (n : Name). number_of c.args.table.now c.args.columns.now n.name) _ _ _ (name_of c.name-item.result) _ _ _ rest number pushed c.loop-name.invariant
