-- The eight digits are listed.
use Rattle.std.proofs.Common.{◌≡◌, ℕ, ◌+◌, ◌*◌, ◌<◌, map, take, arith}
use Rattle.std.specs.Simd.Lanes.{mask_l}
use Rattle.plane_kernels.specs.Rows.{digit_at}
use Rattle.plane_file.proofs.DigitBlocks.{eight_listed, word_of_bytes}
use Rattle.plane_file.proofs.byte_digits.eight_digits.Goals as goal

pub returns : goal.returns
returns c =
    let xs = take 64 c.args.cells.now in
    let bytes = c.bytes_of-bytes.result in
    let word : (place word : ℕ) → place < 8 → word ≡ mask_l (map (digit_at place) bytes) → word ≡ mask_l (map (digit_at (8 * c.args.byte + place)) xs) =
    λ place word h is. word_of_bytes c.args.byte place word bytes xs h c.bytes_of-bytes.ensures is in
    eight_listed (λ place. mask_l (map (digit_at (8 * c.args.byte + place)) xs)) c.digit.result c.digit-2.result c.digit-3.result c.digit-4.result
    c.digit-5.result c.digit-6.result c.digit-7.result c.digit-8.result
    (word 0 _ (omega arith) c.digit.ensures) (word 1 _ (omega arith) c.digit-2.ensures) (word 2 _ (omega arith) c.digit-3.ensures) (word 3 _ (omega arith) c.digit-4.ensures)
    (word 4 _ (omega arith) c.digit-5.ensures) (word 5 _ (omega arith) c.digit-6.ensures) (word 6 _ (omega arith) c.digit-7.ensures) (word 7 _ (omega arith) c.digit-8.ensures)
