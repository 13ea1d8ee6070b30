use Rattle.std.proofs.Common.{◌≡◌, ◌∙◌, ◌-◌, ◌*◌, min, length, get_or, map, not, sym, rules, arith}
use Rattle.plane_kernels.specs.Words.{packed}
use Rattle.plane_kernels.proofs.WordSteps.{next_word, all_words}
use Rattle.plane_kernels.proofs.Packing.{length-packed, get_or-packed, cut_out}
use Rattle.plane_kernels.proofs.words.gather_unset_words.Goals as goal

pub loop-i-preserved : goal.loop-i-preserved
loop-i-preserved c =
    let count = length c.args.words.now in
    let bits = map not c.args.marks.now in
    let few : c.min.result ≡ min (length c.args.marks.now - 64 * c.loop-i.i) 64 = search rules in
    let word : c.gather_unset.result ≡ get_or (packed count bits) c.loop-i.i 0 =
    c.gather_unset.ensures ∙ cut_out not c.args.marks.now (64 * c.loop-i.i) c.min.result few ∙ sym (get_or-packed count bits c.loop-i.i (omega arith)) in
    next_word (packed count bits) c.args.words.now c.loop-i.words c.loop-i.i c.gather_unset.result (length-packed count bits) (omega arith) c.loop-i.invariant word

pub returns : goal.returns
returns c =
    let count = length c.args.words.now in
    let bits = map not c.args.marks.now in
    all_words (packed count bits) c.args.words.now c.loop-i.words c.loop-i.i (length-packed count bits) (omega arith) c.loop-i.invariant
