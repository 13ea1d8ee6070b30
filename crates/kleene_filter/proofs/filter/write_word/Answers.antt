use Rattle.std.proofs.Common.{◌+◌, ◌-◌, ◌*◌, min, false, length, refl, ap, sym, ◌∙◌, arith, get_or}
use Rattle.std.proofs.lemmas.Option.{get_or_from_slice_get}
use Rattle.std.proofs.lemmas.Simd.{get_or-put_chunk_above, get_or-put_chunk_at, get_or-put_chunk_below, length-put_chunk}
use Rattle.plane_kernels.specs.Rows.{bits_of, digit_at}
use Rattle.plane_kernels.proofs.RowLemmas.{get-bits_of, length-bits_of}
use Rattle.kleene_filter.proofs.Parting.{mask_bit}
use Rattle.kleene_filter.proofs.filter.write_word.Goals as goal

pub returns-then-word : goal.returns-then-word
returns-then-word c =
    let mask = c.args.mask.now in
    let block = c.args.number in
    record {
      rows = refl;
      before = λ k below. refl;
      behind = λ k above. refl;
      here = λ r few. sym (mask_bit mask c.word.result block r c.word.ensures (omega arith) (omega arith)) ∙ ap (digit_at r) c.if-word.true;
    }

pub returns : goal.returns
returns c =
    let mask = c.args.mask.now in
    let at = 64 * c.args.number in
    let n = min 64 (length mask - at) in
    let bits = bits_of n c.args.word in
    let long = length-bits_of n c.args.word in
    let put = c.set_word.ensures in
    record {
      rows = ap length put ∙ length-put_chunk at mask bits;
      before = λ k below. ap (λ l. get_or l k false) put ∙ get_or-put_chunk_below at mask bits k false below;
      behind = λ k above. ap (λ l. get_or l k false) put ∙ get_or-put_chunk_above at mask bits k false (omega (arith, long, above));
      here = λ r few. ap (λ l. get_or l (at + r) false) put ∙ get_or-put_chunk_at at mask bits r false (omega (arith, long, few)) (omega (arith, long, c.requires))
          ∙ get_or_from_slice_get bits r (digit_at r c.args.word) false (get-bits_of n c.args.word r (omega (arith, few)));
    }
