-- What is said in a round once a block more stands at the end.
use Rattle.std.proofs.Common.{◌≡◌, ℕ, ◌+◌, ◌-◌, ◌<◌, ◌≤◌, min, Bool, true, false, ltb, List, [], ◌∷◌, ◌++◌, length, get_or, refl, sym, ap, subst, ◌∙◌, arith, length-append}
use Rattle.std.proofs.lemmas.Bool.{ltb-false, ltb-true}
use Rattle.std.proofs.lemmas.List.{get_or_append_left, get_or_push}
use Rattle.report_parts.specs.Blocks.{no_block}
use Rattle.report_parts.specs.declared.block.Block.{Block}

in_blocks : (P : Block → Type 0) (b : Bool) (later : ℕ) (blocks : List Block) (block : Block) → ltb later (length blocks) ≡ b →
    P (get_or blocks (min later (length blocks - 1)) no_block) → P block →
    P (get_or (blocks ++ block ∷ []) (min later (length (blocks ++ block ∷ []) - 1)) no_block)
in_blocks P true later blocks block e h k =
    let below : later < length blocks = ltb-true later (length blocks) e in
    let more : length (blocks ++ block ∷ []) ≡ length blocks + 1 = length-append blocks (block ∷ []) in
    let now : min later (length (blocks ++ block ∷ []) - 1) ≡ later = omega (arith, below, more) in
    let before : min later (length blocks - 1) ≡ later = omega (arith, below) in
    subst P
    (ap (λ (i : ℕ). get_or blocks i no_block) before
    ∙ sym (get_or_append_left blocks (block ∷ []) no_block later below)
    ∙ sym (ap (λ (i : ℕ). get_or (blocks ++ block ∷ []) i no_block) now)) h
in_blocks P false later blocks block e h k =
    let behind : length blocks ≤ later = ltb-false later (length blocks) e in
    let more : length (blocks ++ block ∷ []) ≡ length blocks + 1 = length-append blocks (block ∷ []) in
    let now : length blocks ≡ min later (length (blocks ++ block ∷ []) - 1) = omega (arith, behind, more) in
    subst P (sym (get_or_push blocks block no_block (min later (length (blocks ++ block ∷ []) - 1)) now)) k

-- that block is what is said in each round behind the blocks before it
pub at_later : (P : Block → Type 0) (later : ℕ) (blocks : List Block) (block : Block) →
    P (get_or blocks (min later (length blocks - 1)) no_block) → P block →
    P (get_or (blocks ++ block ∷ []) (min later (length (blocks ++ block ∷ []) - 1)) no_block)
at_later P later blocks block h k = in_blocks P (ltb later (length blocks)) later blocks block refl h k
