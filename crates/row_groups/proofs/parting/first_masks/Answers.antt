use Rattle.std.proofs.Common.{◌==◌, ◌∷◌, [], length-append, replicate, sym, ap, ◌∙◌, arith}
use Rattle.row_groups.proofs.Picked.{first_more}
use Rattle.row_groups.proofs.parting.first_masks.Goals as goal

pub loop-cell-preserved : goal.loop-cell-preserved
loop-cell-preserved c =
    let before = c.loop-cell.invariant in
    let masks = c.loop-cell.masks.items in
    let mask = c.in_ok-first_mask.field-0 in
    rw c.in_ok-push.ensures.items (record {
      count = length-append masks (mask ∷ []) ∙ (let count = before.count in omega (arith, count));
      first = first_more c.args.rows masks mask (c.in_ok-first_mask.ensures ∙ ap (λ n. replicate c.args.rows (n == 0)) (sym before.count)) before.first;
    })
