use Rattle.plane_file.proofs.Bytes.{number32_read}
use Rattle.std.proofs.Common.{◌∙◌}
use Rattle.plane_file.proofs.places.number32_at.Goals as goal

pub returns : goal.returns
returns c =
    let read = number32_read c.args.bytes.now c.args.at c.byte_at.result c.byte_at-2.result c.byte_at-3.result c.byte_at-4.result c.byte_at.ensures c.byte_at-2.ensures c.byte_at-3.ensures c.byte_at-4.ensures in
    c.from_le_bytes.ensures ∙ read
