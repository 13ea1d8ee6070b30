use Rattle.std.proofs.Common.{◌+◌, ◌-◌, ◌*◌, ◌/◌, length, sym, ◌∙◌, arith}
use Rattle.plane_kernels.proofs.Evens.{even_bytes, even_words, get_or-even, length-even, store_step}
use Rattle.plane_kernels.proofs.bytes.store_even.Goals as goal

pub loop-at-preserved : goal.loop-at-preserved
loop-at-preserved c =
    let at = c.loop-at.at in
    let count = length c.args.out.now / 8 in
    let ws = even_words count c.args.rows c.args.bit in
    let long = length-even count c.args.rows c.args.bit in
    let word = c.even_word.ensures ∙ sym (get_or-even count c.args.rows c.args.bit at (omega arith)) in
    store_step ws at c.even_word.result (8 * at + 8 - 8 * at) c.loop-at.out c.args.out.now c.copy_from_slice.new.self (omega (arith, long)) word
    (c.copy_from_slice.ensures.after ∙ c.to_le_bytes.ensures) (omega arith) (omega (arith, long, c.requires)) c.loop-at.invariant

pub returns : goal.returns
returns c =
    let count = length c.args.out.now / 8 in
    even_bytes count c.args.rows c.args.bit c.loop-at.at c.loop-at.out c.args.out.now (omega (arith, c.requires)) (omega (arith, c.loop-at-test.false)) (omega (arith, c.requires)) c.loop-at.invariant
