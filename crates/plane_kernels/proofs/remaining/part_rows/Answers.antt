use Rattle.std.proofs.Common.{◌*◌, ◌||◌, not, ◌∙◌, arith}
use Rattle.std.specs.Simd.Lanes.{zip2}
use Rattle.plane_kernels.specs.Rows.{kept_rows}
use Rattle.plane_kernels.proofs.RemainingRows.{added_behind, done_all, done_more, kept_behind, length-added_rows, length-kept_rows}
use Rattle.plane_kernels.proofs.remaining.part_rows.Goals as goal

pub loop-block-preserved : goal.loop-block-preserved
loop-block-preserved c =
    let bit = c.args.bit in
    let old = c.args.rows.now in
    let others = c.args.others.now in
    let plane = c.args.plane.now in
    let now = c.loop-block.rows in
    let now' = c.loop-block.others in
    let done = c.loop-block.invariant.done in
    let added = c.loop-block.invariant.added in
    let at = 512 * c.loop-block.block in
    let source = kept_rows bit old plane in
    let source' = zip2 (λ a b. a || b) others (kept_rows (not bit) old plane) in
    record {
      count = c.part_in.ensures.count ∙ c.loop-block.invariant.count;
      blocks = c.part_in.ensures.blocks;
      done = done_more c.loop-block.block old source now (kept_rows bit now plane) c.part_in.new.rows done c.part_in.ensures.rows (kept_behind at bit old source now plane done c.requires.plane);
      added = done_more c.loop-block.block others source' now' (zip2 (λ a b. a || b) now' (kept_rows (not bit) now plane)) c.part_in.new.others added c.part_in.ensures.others
          (added_behind at (not bit) old source now others source' now' plane done added c.requires.plane c.requires.others);
    }

pub returns-clause-rows : goal.returns-clause-rows
returns-clause-rows c =
    let bit = c.args.bit in
    let old = c.args.rows.now in
    let plane = c.args.plane.now in
    done_all (512 * c.loop-block.block) old (kept_rows bit old plane) c.loop-block.rows c.loop-block.invariant.done (length-kept_rows bit old plane c.requires.plane) (omega (arith, c.requires.blocks.room))

pub returns-clause-others : goal.returns-clause-others
returns-clause-others c =
    let bit = not c.args.bit in
    let old = c.args.rows.now in
    let others = c.args.others.now in
    let plane = c.args.plane.now in
    done_all (512 * c.loop-block.block) others (zip2 (λ a b. a || b) others (kept_rows bit old plane)) c.loop-block.others c.loop-block.invariant.added
    (length-added_rows bit others old plane c.requires.others c.requires.plane) (omega (arith, c.requires.blocks.room, c.requires.others))
