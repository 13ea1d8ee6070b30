-- Lanes that are shifted and masked fit a byte.
use Rattle.std.proofs.Common.{refl, take}
use Rattle.std.proofs.lemmas.List.{length-take-le}
use Rattle.plane_file.proofs.DigitBlocks.{bytes_of_lanes, fits_bytes}
use Rattle.plane_file.proofs.byte_digits.bytes_of.Goals as goal

pub overflow_cast-result : goal.overflow_cast-result
overflow_cast-result c = fits_bytes _ 64

pub returns : goal.returns
returns c = bytes_of_lanes _ (λ x h. refl) (take 64 c.args.cells.now) c.args.byte _ (length-take-le 64 c.args.cells.now c.requires.some) refl
