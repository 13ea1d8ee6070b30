use Rattle.std.proofs.Common.{◌≡◌, not, false, cond, get_or, arith, rules}
use Rattle.plane_kernels.proofs.Packing.{put_next}
use Rattle.plane_kernels.proofs.words.gather_unset.Goals as goal

pub loop-i-preserved : goal.loop-i-preserved
loop-i-preserved c =
    let unset : c.from.result ≡ cond (not (get_or c.args.marks.now c.loop-i.i false)) 1 0 = search rules in
    put_next not c.args.marks.now false c.loop-i.i c.loop-i.word _ (omega arith) (omega arith) c.loop-i.invariant unset
