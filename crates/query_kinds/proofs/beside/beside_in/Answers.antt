use Rattle.std.proofs.Common.{◌≡◌, ◌∙◌, ap, sym}
use Rattle.sql_text.specs.declared.tree.CallKind.TheVariants as calls
use Rattle.sql_text.specs.Tree.{Call, expr_of, item_of}
use Rattle.query_kinds.specs.Beside.{beside_in}
use Rattle.query_kinds.specs.Kinds.{items_in}
use Rattle.query_kinds.proofs.beside.beside_in.Goals as goal

pub returns-in-Avg : goal.returns-in-Avg
returns-in-Avg c =
    let argument = expr_of c.in-Call.arg in
    let is : item_of c.args.item.now ≡ Call calls.Avg argument = ap item_of c.in-Call.is ∙ ap (λ kind. Call kind argument) c.in-Avg.is in
    c.beside_average.ensures ∙ ap (beside_in (items_in c.args.items.now)) (sym is)
