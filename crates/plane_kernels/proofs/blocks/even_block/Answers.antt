use Rattle.std.proofs.Common.{◌≡◌, ◌≤◌, ◌-◌, ◌+◌, ◌/◌, ◌%◌, ◌++◌, ℕ, List, min, take, drop, replicate, sym, ap, subst, ◌∙◌, arith}
use Rattle.std.proofs.lemmas.List.{drop-replicate, take-replicate}
use Rattle.plane_kernels.specs.Words.{flipped}
use Rattle.plane_kernels.proofs.Evens.{HaveRows, even_block_words}
use Rattle.plane_kernels.proofs.Flips.{rows_of-zeros}
use Rattle.plane_kernels.proofs.blocks.even_block.Goals as goal

-- what the words hold once the first of them are turned round
eight_words : (rows count : ℕ) (new : List ℕ) → rows ≤ 512 → count ≡ rows / 64 + min 1 (rows % 64) → new ≡ flipped rows (take count (replicate 8 0)) → HaveRows rows (new ++ drop count (replicate 8 0))
eight_words rows count new few e is =
    let front : new ≡ flipped rows (replicate count 0) = is ∙ ap (flipped rows) (take-replicate count 8 0 (omega (arith, few, e))) in
    let words : new ++ drop count (replicate 8 0) ≡ flipped rows (replicate count 0) ++ replicate (8 - count) 0 =
    ap (λ l. l ++ drop count (replicate 8 0)) front ∙ ap (λ l. flipped rows (replicate count 0) ++ l) (drop-replicate count 8 0) in
    subst (HaveRows rows) (sym words) (even_block_words rows count e (8 - count))

pub returns-then-bit-clause-rows : goal.returns-then-bit-clause-rows
returns-then-bit-clause-rows c =
    (eight_words c.args.rows c.div_ceil.result c.flip_words.new.words c.requires c.div_ceil.ensures c.flip_words.ensures).rows ∙ ap (replicate c.args.rows) (sym c.if-bit.true)

pub returns-then-bit-clause-padded : goal.returns-then-bit-clause-padded
returns-then-bit-clause-padded c = (eight_words c.args.rows c.div_ceil.result c.flip_words.new.words c.requires c.div_ceil.ensures c.flip_words.ensures).padded

pub returns-else-bit-clause-rows : goal.returns-else-bit-clause-rows
returns-else-bit-clause-rows c = rows_of-zeros 8 c.args.rows (omega (arith, c.requires)) ∙ ap (replicate c.args.rows) (sym c.if-bit.false)
