use Rattle.std.proofs.Common.{◌≡◌, ◌/◌, length, take}
use Rattle.std.specs.Simd.Lanes.{put_chunk}
use Rattle.plane_kernels.specs.Words.{unpacked}
use Rattle.plane_kernels.proofs.bytes.load_words.Given as goal

abbrev pub invariant-loop-i : goal.invariant-loop-i
invariant-loop-i l = l.words ≡ put_chunk l.first l.fn.words (take l.i (unpacked (length l.bytes / 8) l.bytes))
