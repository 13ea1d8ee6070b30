use Rattle.std.proofs.Common.{◌≡◌, ◌-◌, ◌^◌, ap, ◌∙◌, arith}
use Rattle.std.specs.Int.Bits.{bit_and}
use Rattle.std.proofs.lemmas.Nat.{and_mask}
use Rattle.std.proofs.lemmas.Nat.Bits.{ones_shr}
use Rattle.round_engine.proofs.read_cells.first_bits.Goals as goal

pub returns : goal.returns
returns c =
    let count = c.args.count in
    let left : 64 - (64 - count) ≡ count = omega (arith, c.requires.fits) in
    ap (bit_and c.args.word) (ones_shr 64 (64 - count) (omega arith) ∙ ap (λ k. 2 ^ k - 1) left) ∙ and_mask c.args.word count
