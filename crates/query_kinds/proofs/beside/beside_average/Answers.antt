use Rattle.std.proofs.Common.{◌∙◌, ap, sym}
use Rattle.std.specs.List.{position}
use Rattle.sql_text.specs.Tree.{expr_of, item_of}
use Rattle.query_kinds.specs.Beside.{beside_at, is_count_of, is_sum_of}
use Rattle.query_kinds.specs.Kinds.{items_in}
use Rattle.query_kinds.proofs.Besides.{position_mapped}
use Rattle.query_kinds.proofs.beside.beside_average.Goals as goal

pub returns : goal.returns
returns c =
    let argument = expr_of c.args.argument.now in
    let items = c.args.items.now in
    c.beside_at.ensures
    ∙ ap (λ o. beside_at o c.place_of_count.result) (c.place_of_sum.ensures ∙ sym (position_mapped (λ tree. item_of tree.now) (is_sum_of argument) items))
    ∙ ap (beside_at (position (is_sum_of argument) (items_in items))) (c.place_of_count.ensures ∙ sym (position_mapped (λ tree. item_of tree.now) (is_count_of argument) items))
