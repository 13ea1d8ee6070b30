use Rattle.known_column.proofs.BitBytes.{bit_bytes_of}
use Rattle.known_column.proofs.octets.bit_bytes.Goals as goal

pub returns : goal.returns
returns c = bit_bytes_of c.args.word c.ranges.word.fits
