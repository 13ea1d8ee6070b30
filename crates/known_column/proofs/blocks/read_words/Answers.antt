use Rattle.std.proofs.Common.{◌≡◌, ◌-◌, ◌*◌, min, length, get_or, set, inl, inr, sym, subst, ap, ◌∙◌, arith}
use Rattle.std.proofs.lemmas.Bool.{cases_eq}
use Rattle.std.proofs.lemmas.List.{get_or_default, get_or-set_same, get_or-set_other}
use Rattle.plane_kernels.specs.Rows.{bits_of}
use Rattle.known_column.specs.Columns.{block_rows}
use Rattle.known_column.proofs.blocks.read_words.Goals as goal

pub loop-j-preserved : goal.loop-j-preserved
loop-j-preserved c = λ k none below.
    let planes = c.args.planes.now in
    let block = c.args.block in
    let words = c.loop-j.words in
    let j = c.loop-j.j in
    let word = c.word.result in
    let plane : c.index-planes-j.result ≡ get_or planes j none = c.index-planes-j.is ∙ get_or_default planes j c.index-planes-j.result none c.loop-j-test.true in
    elim (cases_eq k j) [
      | inl here ↦ subst (λ i. bits_of (min 64 (length (get_or planes i none) - 64 * block)) (get_or (set words j word) i 0) ≡ block_rows block (get_or planes i none)) (sym here)
          (ap (bits_of (min 64 (length (get_or planes j none) - 64 * block))) (get_or-set_same words j word 0 (omega arith))
          ∙ subst (λ p. bits_of (min 64 (length p - 64 * block)) word ≡ block_rows block p) plane c.word.ensures)
      | inr other ↦ ap (bits_of (min 64 (length (get_or planes k none) - 64 * block))) (get_or-set_other words j k word 0 other) ∙ c.loop-j.invariant k none (omega arith)
    ]
