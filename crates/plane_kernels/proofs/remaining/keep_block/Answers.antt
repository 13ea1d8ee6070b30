use Rattle.plane_kernels.specs.Rows.{kept_rows}
use Rattle.plane_kernels.proofs.RemainingRows.{kept_block, kept_none, kept_part, none_left, not_true, parts_agree}
use Rattle.plane_kernels.proofs.remaining.keep_block.Goals as goal

pub with_bit-kept-requires : goal.with_bit-kept-requires
with_bit-kept-requires c = parts_agree c.args.block c.args.rows.now c.args.plane.now c.of_mask.result c.of_plane.result c.of_mask.ensures c.of_plane.ensures c.requires.plane

pub put-requires-clause-rows : goal.put-requires-clause-rows
put-requires-clause-rows c =
    (kept_part c.args.block c.args.bit c.args.rows.now c.args.plane.now c.of_mask.result c.of_plane.result c.with_bit-kept.result c.requires.plane c.of_mask.ensures c.of_plane.ensures c.with_bit-kept.ensures).long

pub returns-clause-rows : goal.returns-clause-rows
returns-clause-rows c =
    let part = kept_part c.args.block c.args.bit c.args.rows.now c.args.plane.now c.of_mask.result c.of_plane.result c.with_bit-kept.result c.requires.plane c.of_mask.ensures c.of_plane.ensures c.with_bit-kept.ensures in
    kept_block c.args.block c.args.bit c.args.rows.now c.args.plane.now c.with_bit-kept.result c.put.new.self c.requires.plane part c.put.ensures

pub returns-clause-left : goal.returns-clause-left
returns-clause-left c = λ e.
    let rows = c.args.rows.now in
    let plane = c.args.plane.now in
    let part = kept_part c.args.block c.args.bit rows plane c.of_mask.result c.of_plane.result c.with_bit-kept.result c.requires.plane c.of_mask.ensures c.of_plane.ensures c.with_bit-kept.ensures in
    none_left c.args.block (kept_rows c.args.bit rows plane) rows c.put.new.self (kept_block c.args.block c.args.bit rows plane c.with_bit-kept.result c.put.new.self c.requires.plane part c.put.ensures)
    (kept_none c.args.block c.args.bit rows plane c.with_bit-kept.result part (c.is_empty.ensures (not_true _ e)))
