-- The words of the digit are those of its byte.
use Rattle.std.proofs.Common.{◌≡◌, ◌+◌, ◌-◌, ◌*◌, ◌/◌, ◌%◌, length, map, sym, ap, ◌∙◌, arith}
use Rattle.std.proofs.lemmas.List.{length-map}
use Rattle.plane_kernels.specs.Bytes.{bytes_of_words, word_count}
use Rattle.plane_kernels.specs.Rows.{digit_at}
use Rattle.plane_kernels.specs.Words.{packed}
use Rattle.plane_file.specs.ByteDigits.{plane_of_digit, words_at}
use Rattle.plane_file.proofs.DigitBlocks.{words_at-digit_blocks}
use Rattle.plane_file.proofs.planes.cut_digit.Goals as goal

pub returns-clause-bytes : goal.returns-clause-bytes
returns-clause-bytes c =
    let cells = c.args.cells.now in
    let shift = c.args.width - (c.args.place + 1) in
    let n = length c.args.blocks.now in
    let rows = plane_of_digit c.args.width c.args.place cells in
    let same : 8 * (shift / 8) + shift % 8 ≡ shift = omega arith in
    let count : n ≡ word_count (length rows) = c.requires.blocks ∙ ap word_count (sym (length-map cells (digit_at shift))) in
    c.store_digit.ensures ∙ ap (λ blocks. bytes_of_words (words_at (shift % 8) blocks)) c.cut_next.ensures
    ∙ ap bytes_of_words (words_at-digit_blocks n (shift / 8) (shift % 8) cells (omega arith))
    ∙ ap (λ s. bytes_of_words (packed n (map (digit_at s) cells))) same ∙ ap (λ k. bytes_of_words (packed k rows)) count
