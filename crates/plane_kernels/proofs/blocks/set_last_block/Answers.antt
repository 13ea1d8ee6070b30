use Rattle.std.proofs.Common.{◌≡◌, ◌+◌, ◌-◌, ◌*◌, ◌^◌, ◌∙◌, bit_and, min, length, get_or, slice_set, sym, ap, arith, rules}
use Rattle.plane_kernels.specs.Words.{trimmed}
use Rattle.plane_kernels.proofs.BlockLemmas.{get_or-trimmed, length-trimmed}
use Rattle.plane_kernels.proofs.Puts.{put_clipped, put_next, put_none}
use Rattle.plane_kernels.proofs.blocks.set_last_block.Goals as goal

pub loop-i-init : goal.loop-i-init
loop-i-init c = sym (put_none (8 * c.args.block) c.args.words.now)

pub loop-i-preserved : goal.loop-i-preserved
loop-i-preserved c =
    let first = 8 * c.args.block in
    let left = c.args.rows - 512 * c.args.block in
    let eight = c.args.eight.now in
    let i = c.loop-i.i in
    let few : c.min-count.result ≡ min (length c.args.words.now - first) 8 = search rules in
    let count : length eight ≡ 8 = omega arith in
    let rest : c.args.rows - 64 * (first + i) ≡ left - 64 * i = omega arith in
    let word : bit_and (get_or eight i 0) c.low_ones.result ≡ get_or (trimmed left eight) i 0 =
    ap (bit_and (get_or eight i 0)) (c.low_ones.ensures ∙ ap (λ m. 2 ^ min m 64 - 1) rest) ∙ sym (get_or-trimmed left eight i (omega (arith, few, count))) in
    ap (λ l. slice_set l (first + i) (bit_and (get_or eight i 0) c.low_ones.result)) c.loop-i.invariant
    ∙ put_next first i c.args.words.now (trimmed left eight) _ (omega (arith, few, count, length-trimmed left eight)) (omega (arith, few)) word

pub returns : goal.returns
returns c =
    let first = 8 * c.args.block in
    let new = trimmed (c.args.rows - 512 * c.args.block) c.args.eight.now in
    let few : c.min-count.result ≡ min (length c.args.words.now - first) 8 = search rules in
    c.loop-i.invariant ∙ put_clipped first c.loop-i.i c.args.words.now new (omega (arith, few, length-trimmed (c.args.rows - 512 * c.args.block) c.args.eight.now))
