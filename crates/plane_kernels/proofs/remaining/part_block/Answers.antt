use Rattle.std.proofs.Common.{◌∙◌, not, length, ap, arith}
use Rattle.std.proofs.lemmas.Simd.{length-zip2}
use Rattle.plane_kernels.specs.Rows.{kept_rows}
use Rattle.plane_kernels.proofs.RemainingRows.{added_block, kept_block, kept_none, kept_part, none_left, not_true, part_rows, parts_agree}
use Rattle.plane_kernels.proofs.remaining.part_block.Goals as goal

pub with_bit-kept-requires : goal.with_bit-kept-requires
with_bit-kept-requires c = parts_agree c.args.block c.args.rows.now c.args.plane.now c.of_mask-all.result c.of_plane-ones.result c.of_mask-all.ensures c.of_plane-ones.ensures c.requires.plane

pub with_bit-moved-requires : goal.with_bit-moved-requires
with_bit-moved-requires c = parts_agree c.args.block c.args.rows.now c.args.plane.now c.of_mask-all.result c.of_plane-ones.result c.of_mask-all.ensures c.of_plane-ones.ensures c.requires.plane

pub or-requires : goal.or-requires
or-requires c =
    let moved = kept_part c.args.block (not c.args.bit) c.args.rows.now c.args.plane.now c.of_mask-all.result c.of_plane-ones.result c.with_bit-moved.result c.requires.plane c.of_mask-all.ensures c.of_plane-ones.ensures c.with_bit-moved.ensures in
    omega (arith, moved.long, ap length c.of_mask.ensures, part_rows c.args.block c.args.others.now, c.requires.others)

pub put-requires-clause-rows : goal.put-requires-clause-rows
put-requires-clause-rows c =
    let moved = kept_part c.args.block (not c.args.bit) c.args.rows.now c.args.plane.now c.of_mask-all.result c.of_plane-ones.result c.with_bit-moved.result c.requires.plane c.of_mask-all.ensures c.of_plane-ones.ensures c.with_bit-moved.ensures in
    let own = ap length c.of_mask.ensures ∙ part_rows c.args.block c.args.others.now in
    ap length c.or.ensures ∙ length-zip2 _ c.of_mask.result c.with_bit-moved.result (omega (arith, moved.long, own, c.requires.others)) ∙ own

pub put-requires-2-clause-rows : goal.put-requires-2-clause-rows
put-requires-2-clause-rows c =
    (kept_part c.args.block c.args.bit c.args.rows.now c.args.plane.now c.of_mask-all.result c.of_plane-ones.result c.with_bit-kept.result c.requires.plane c.of_mask-all.ensures c.of_plane-ones.ensures c.with_bit-kept.ensures).long

pub returns-clause-others : goal.returns-clause-others
returns-clause-others c =
    let moved = kept_part c.args.block (not c.args.bit) c.args.rows.now c.args.plane.now c.of_mask-all.result c.of_plane-ones.result c.with_bit-moved.result c.requires.plane c.of_mask-all.ensures c.of_plane-ones.ensures c.with_bit-moved.ensures in
    added_block c.args.block (not c.args.bit) c.args.others.now c.args.rows.now c.args.plane.now c.of_mask.result c.with_bit-moved.result c.or.result c.put.new.self c.requires.others c.requires.plane c.of_mask.ensures moved c.or.ensures c.put.ensures

pub returns-clause-rows : goal.returns-clause-rows
returns-clause-rows c =
    let part = kept_part c.args.block c.args.bit c.args.rows.now c.args.plane.now c.of_mask-all.result c.of_plane-ones.result c.with_bit-kept.result c.requires.plane c.of_mask-all.ensures c.of_plane-ones.ensures c.with_bit-kept.ensures in
    kept_block c.args.block c.args.bit c.args.rows.now c.args.plane.now c.with_bit-kept.result c.put-2.new.self c.requires.plane part c.put-2.ensures

pub returns-clause-left : goal.returns-clause-left
returns-clause-left c = λ e.
    let rows = c.args.rows.now in
    let plane = c.args.plane.now in
    let part = kept_part c.args.block c.args.bit rows plane c.of_mask-all.result c.of_plane-ones.result c.with_bit-kept.result c.requires.plane c.of_mask-all.ensures c.of_plane-ones.ensures c.with_bit-kept.ensures in
    none_left c.args.block (kept_rows c.args.bit rows plane) rows c.put-2.new.self (kept_block c.args.block c.args.bit rows plane c.with_bit-kept.result c.put-2.new.self c.requires.plane part c.put-2.ensures)
    (kept_none c.args.block c.args.bit rows plane c.with_bit-kept.result part (c.is_empty.ensures (not_true _ e)))
