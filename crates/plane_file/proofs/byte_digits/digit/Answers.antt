-- A bit of each byte is compared with 0.
use Rattle.std.proofs.Common.{refl}
use Rattle.plane_file.proofs.DigitBlocks.{digit_of_lanes}
use Rattle.plane_file.proofs.byte_digits.digit.Goals as goal

pub returns : goal.returns
returns c = digit_of_lanes c.args.bytes c.args.place _ c.requires.lanes c.requires.place refl
