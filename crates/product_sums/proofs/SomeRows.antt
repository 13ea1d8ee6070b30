-- Some rows of a mask, and those of them in a block.
use Rattle.std.proofs.Common.{◌≡◌, ℕ, ◌*◌, ◌<◌, Bool, ◌&&◌, List, length, option_map, IfSome, refl, sym, ◌∙◌, arith}
use Rattle.std.specs.Prelude.{None, Some}
use Rattle.std.specs.declared.option.Option.{Option}
use Rattle.std.proofs.lemmas.Simd.{length-zip2}
use Rattle.aggregates.specs.Selections.{block_of}
use Rattle.aggregates.proofs.Widening.{block-zip2}
use Rattle.product_sums.specs.SomeRows.{among, HaveBits}
use Rattle.product_sums.proofs.DigitSums.{long_block}

pub length_among : (rows : List Bool) (bits : Option (List Bool)) → HaveBits rows bits → length (among rows bits) ≡ length rows
length_among rows None have = refl
length_among rows (Some bits) have = length-zip2 (λ a b. a && b) rows bits (sym have)

-- bits in two steps
pub fused : {A : Type 0} (f : A → List Bool) (g : List Bool → List Bool) (given : Option A) → option_map (λ x. g (f x)) given ≡ option_map g (option_map f given)
fused f g None = refl
fused f g (Some x) = refl

pub block_among : (block : ℕ) (rows : List Bool) (bits : Option (List Bool)) → block_of block (among rows bits) ≡ among (block_of block rows) (option_map (block_of block) bits)
block_among block rows None = refl
block_among block rows (Some bits) = block-zip2 (λ a b. a && b) block rows bits

-- a block of the bits has as many as one of the rows
pub can_keep : {A : Type 0} (f : A → List Bool) (given : Option A) (block : ℕ) (rows : List Bool) → HaveBits rows (option_map f given) → 512 * block < length rows →
    IfSome given (λ x. (512 * block < length (f x)) × (length (block_of block (f x)) ≡ length (block_of block rows)))
can_keep f None block rows have within = tt
can_keep f (Some x) block rows have within = (omega (arith, have, within), long_block (f x) block (length rows) have ∙ sym (long_block rows block (length rows) refl))

-- bits of rows are bits of as many others
pub still_have : (rows others : List Bool) (bits : Option (List Bool)) → length others ≡ length rows → HaveBits rows bits → HaveBits others bits
still_have rows others None same have = tt
still_have rows others (Some bits) same have = have ∙ sym same
