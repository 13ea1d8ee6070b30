use Rattle.std.proofs.Common.{replicate, refl, ap, ◌∙◌, arith}
use Rattle.std.proofs.lemmas.List.{take_all}
use Rattle.known_column.specs.BlockDigits.{digits_after}
use Rattle.known_column.proofs.BitBytes.{put_all, word_further}
use Rattle.known_column.proofs.octets.byte_digits.Goals as goal

pub loop-word-init : goal.loop-word-init
loop-word-init c = refl

pub loop-word-preserved : goal.loop-word-preserved
loop-word-preserved c = word_further c.args.words.now c.loop-word.word-index _ c.loop-word.sum c.bit_bytes.result c.requires.few c.loop-word-test.true refl c.bit_bytes.ensures c.loop-word.invariant

pub returns : goal.returns
returns c =
    let words = c.args.words.now in
    let long = c.loop-word.auto.sum.0 in
    put_all c.args.digits.now c.loop-word.sum (omega (arith, long, c.requires.count)) ∙ c.loop-word.invariant
    ∙ ap (λ l. digits_after l (replicate 64 0)) (take_all c.loop-word.word-index words c.loop-word-test.false)
