use Rattle.std.proofs.Common.{◌≡◌, ◌∙◌, ◌/◌, length, ◌+◌, get_or, slice_set, sym, ap, arith}
use Rattle.std.proofs.lemmas.List.{take_all}
use Rattle.std.specs.Simd.Lanes.{put_chunk}
use Rattle.plane_kernels.specs.Words.{unpacked}
use Rattle.plane_kernels.proofs.BytesLemmas.{get_or-unpacked, length-unpacked}
use Rattle.plane_kernels.proofs.Puts.{put_next, put_none}
use Rattle.plane_kernels.proofs.bytes.load_words.Goals as goal

pub loop-i-init : goal.loop-i-init
loop-i-init c = sym (put_none c.args.first c.args.words.now)

pub loop-i-preserved : goal.loop-i-preserved
loop-i-preserved c =
    let count = length c.args.bytes.now / 8 in
    let new = unpacked count c.args.bytes.now in
    let i = c.loop-i.i in
    let long = length-unpacked count c.args.bytes.now in
    let word : c.word_at.result ≡ get_or new i 0 = c.word_at.ensures ∙ sym (get_or-unpacked count c.args.bytes.now i (omega arith)) in
    ap (λ l. slice_set l (c.args.first + i) c.word_at.result) c.loop-i.invariant
    ∙ put_next c.args.first i c.args.words.now new c.word_at.result (omega (arith, long)) (omega arith) word

pub returns : goal.returns
returns c =
    let count = length c.args.bytes.now / 8 in
    let new = unpacked count c.args.bytes.now in
    c.loop-i.invariant ∙ ap (put_chunk c.args.first c.args.words.now) (take_all c.loop-i.i new (omega (arith, length-unpacked count c.args.bytes.now)))
