use Rattle.plane_file.proofs.Bytes.{number64_read}
use Rattle.std.proofs.Common.{◌∙◌}
use Rattle.plane_file.proofs.places.number64_at.Goals as goal

pub returns : goal.returns
returns c =
    let read = number64_read c.args.bytes.now c.args.at c.byte_at.result c.byte_at-2.result c.byte_at-3.result c.byte_at-4.result c.byte_at-5.result c.byte_at-6.result c.byte_at-7.result c.byte_at-8.result
    c.byte_at.ensures c.byte_at-2.ensures c.byte_at-3.ensures c.byte_at-4.ensures c.byte_at-5.ensures c.byte_at-6.ensures c.byte_at-7.ensures c.byte_at-8.ensures in
    c.from_le_bytes.ensures ∙ read
