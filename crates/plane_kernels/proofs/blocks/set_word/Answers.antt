use Rattle.std.proofs.Common.{◌≡◌, zero, suc, ◌-◌, ◌*◌, ◌^◌, ◌<◌, ℕ, List, [], ◌∷◌, length, min, set, sym, ap, ◌∙◌, arith}
use Rattle.std.specs.Int.Bits.{bit_and}
use Rattle.std.specs.Simd.Lanes.{put_chunk}
use Rattle.plane_kernels.proofs.Puts.{put_none}
use Rattle.plane_kernels.proofs.blocks.set_word.Goals as goal

-- a word that is set is put
set_put : (q v : ℕ) (xs : List ℕ) → q < length xs → set xs q v ≡ put_chunk q xs (v ∷ [])
set_put q v [] h = absurd (omega (arith, h))
set_put zero v (x ∷ xs) h = ap (λ l. v ∷ l) (sym (put_none 0 xs))
set_put (suc q) v (x ∷ xs) h = ap (λ l. x ∷ l) (set_put q v xs (omega (arith, h)))

pub returns : goal.returns
returns c =
    let n = c.args.rows - 64 * c.args.block in
    ap (λ m. set c.args.words.now c.args.block (bit_and c.args.word m)) c.low_ones.ensures ∙ set_put c.args.block (bit_and c.args.word (2 ^ min n 64 - 1)) c.args.words.now c.requires.within
