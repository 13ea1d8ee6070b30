use Rattle.std.proofs.Common.{◌≡◌, sym, ◌∙◌}
use Rattle.product_sums.proofs.Thirds.{third_opened}
use Rattle.product_sums.proofs.kept_planes.Kept.open.Goals as goal

pub returns : goal.returns
returns c =
    let table = c.args.columns.now in
    let pair = c.args.chosen.pair in
    let rows : c.rows-rows.result ≡ table.frame.rows = c.rows-rows.ensures.rows in
    record {
      whole = c.in_ok-open.ensures.kept table pair (sym rows) c.requires.pair;
      planes = third_opened table c.rows-rows.ensures.known c.in_ok-open.field-0.mask pair c.requires.pair (c.in_ok-open.ensures.rows ∙ rows) c.args.chosen.third c.planes_to_keep.result c.in_ok-unread_planes.field-0.items c.requires.third c.planes_to_keep.ensures c.in_ok-unread_planes.ensures;
      top = c.in_ok-open-2.ensures.kept table pair (sym rows) c.requires.pair;
    }
