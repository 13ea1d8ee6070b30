-- The next word goes behind those that were written.
use Rattle.std.proofs.Common.{◌≡◌, ◌+◌, ◌-◌, ◌*◌, ℕ, List, [], get_or, length, sym, ◌∙◌, arith}
use Rattle.std.proofs.lemmas.List.{get_or-map, length-map}
use Rattle.plane_kernels.proofs.Evens.{store_step}
use Rattle.plane_file.specs.ByteDigits.{words_at}
use Rattle.plane_file.proofs.byte_digits.store_digit.Goals as goal

pub loop-i-preserved : goal.loop-i-preserved
loop-i-preserved c =
    let blocks = c.args.blocks.now in
    let i = c.loop-i.i in
    let pick = λ (digits : List ℕ). get_or digits c.args.place 0 in
    let long : length (words_at c.args.place blocks) ≡ length blocks = length-map blocks pick in
    store_step (words_at c.args.place blocks) i (pick (get_or blocks i [])) (8 * i + 8 - 8 * i) c.loop-i.out c.args.out.now c.copy_from_slice.new.self
    (omega (arith, long, c.loop-i-test.true)) (sym (get_or-map pick blocks i [] 0 (omega (arith, c.loop-i-test.true))))
    (c.copy_from_slice.ensures.after ∙ c.to_le_bytes.ensures) (omega arith) (omega (arith, long, c.requires.size)) c.loop-i.invariant
