use Rattle.std.proofs.Common.{◌*◌, ◌∙◌, arith}
use Rattle.plane_kernels.specs.Rows.{kept_rows}
use Rattle.plane_kernels.proofs.RemainingRows.{done_all, done_more, kept_behind, length-kept_rows}
use Rattle.plane_kernels.proofs.remaining.keep_rows.Goals as goal

pub loop-block-preserved : goal.loop-block-preserved
loop-block-preserved c =
    let bit = c.args.bit in
    let old = c.args.rows.now in
    let plane = c.args.plane.now in
    let now = c.loop-block.rows in
    let done = c.loop-block.invariant.done in
    record {
      count = c.keep_in.ensures.count ∙ c.loop-block.invariant.count;
      blocks = c.keep_in.ensures.blocks;
      done = done_more c.loop-block.block old (kept_rows bit old plane) now (kept_rows bit now plane) c.keep_in.new.rows done c.keep_in.ensures.rows
          (kept_behind (512 * c.loop-block.block) bit old (kept_rows bit old plane) now plane done c.requires.plane);
    }

pub returns-clause-rows : goal.returns-clause-rows
returns-clause-rows c =
    let bit = c.args.bit in
    let old = c.args.rows.now in
    let plane = c.args.plane.now in
    done_all (512 * c.loop-block.block) old (kept_rows bit old plane) c.loop-block.rows c.loop-block.invariant.done (length-kept_rows bit old plane c.requires.plane) (omega (arith, c.requires.blocks.room))
