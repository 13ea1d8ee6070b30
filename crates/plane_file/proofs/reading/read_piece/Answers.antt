-- The bytes that were fetched have a pad bit.
use Rattle.std.proofs.Common.{◌≡◌, length, arith}
use Rattle.plane_file.proofs.Pieces.{padded_piece, small_from_all}
use Rattle.plane_file.proofs.reading.read_piece.Goals as goal

pub returns-in-Err-clause-stopped : goal.returns-in-Err-clause-stopped
returns-in-Err-clause-stopped g c =
    let long : length c.fetch.new.bytes ≡ length c.args.bytes.now = omega arith in
    padded_piece c.args.place c.args.first (length c.args.bytes.now) (length c.args.into.now) c.in-Err.field-0.word _ _ c.fetch.new.bytes
    (small_from_all c.fetch.new.bytes c.fetch.ensures.bytes) long c.requires.within c.in_ok-fetch.ensures.filled c.in-Err.ensures.pad
