-- Zeros behind the last cell have no digits.
use Rattle.std.proofs.Common.{◌≡◌, ◌-◌, ◌*◌, length, take, drop, ap, ◌∙◌, arith, length-drop}
use Rattle.std.proofs.lemmas.List.{take_rest}
use Rattle.plane_file.proofs.DigitBlocks.{padded_digits}
use Rattle.plane_file.proofs.byte_digits.block_digits.Goals as goal

pub returns : goal.returns
returns c =
    let cells = c.args.cells.now in
    let at = 64 * c.args.block in
    let rest = take (length cells - at) (drop at cells) in
    let long : length rest ≡ length cells - at = ap length (take_rest cells at) ∙ length-drop at cells in
    c.eight_digits-2.ensures
    ∙ padded_digits c.args.byte cells c.copy_from_slice.new.self at (length rest) long (omega (arith, long, c.if-rest-ge64.false)) (c.copy_from_slice.ensures.after ∙ take_rest cells at)
