use Rattle.std.proofs.Common.{◌≡◌, length, get_or, sym, arith}
use Rattle.std.specs.Simd.Lanes.{zip2}
use Rattle.std.proofs.lemmas.Simd.{length-zip2, get_or-zip2}
use Rattle.std.specs.Int.Bits.{bit_and}
use Rattle.plane_kernels.proofs.FirstBit.{found_here, not_here, nowhere}
use Rattle.plane_kernels.proofs.triples.first_both.Goals as goal

pub loop-i-preserved : goal.loop-i-preserved
loop-i-preserved c =
    let a = c.args.words.now in
    let b = c.args.other.now in
    let i = c.loop-i.i in
    let long : length (zip2 bit_and a b) ≡ length a = length-zip2 bit_and a b (omega arith) in
    let word : get_or (zip2 bit_and a b) i 0 ≡ bit_and (get_or a i 0) (get_or b i 0) = get_or-zip2 bit_and a b i 0 0 0 (omega arith) (omega arith) in
    not_here (zip2 bit_and a b) i (bit_and (get_or a i 0) (get_or b i 0)) (omega (arith, long)) (sym word) c.if-both-ne0.false c.loop-i.invariant

pub returns-then-both-ne0 : goal.returns-then-both-ne0
returns-then-both-ne0 c =
    let a = c.args.words.now in
    let b = c.args.other.now in
    let i = c.loop-i.i in
    let long : length (zip2 bit_and a b) ≡ length a = length-zip2 bit_and a b (omega arith) in
    let word : get_or (zip2 bit_and a b) i 0 ≡ bit_and (get_or a i 0) (get_or b i 0) = get_or-zip2 bit_and a b i 0 0 0 (omega arith) (omega arith) in
    found_here (zip2 bit_and a b) i (bit_and (get_or a i 0) (get_or b i 0)) (omega (arith, long)) (sym word) c.if-both-ne0.true c.loop-i.invariant

pub returns : goal.returns
returns c =
    let a = c.args.words.now in
    let b = c.args.other.now in
    let long : length (zip2 bit_and a b) ≡ length a = length-zip2 bit_and a b (omega arith) in
    sym (nowhere (zip2 bit_and a b) c.loop-i.i (omega (arith, long)) c.loop-i.invariant)
