-- Three numbers between words.
use Rattle.std.proofs.Common.{codes, ◌+◌}
use Rattle.daq_cli.proofs.Texts.{with_three}
use Rattle.daq_cli.proofs.fault_lines.written_lengths.Goals as goal

pub returns-clause-text : goal.returns-clause-text
returns-clause-text c =
    with_three (codes "table refused: record ") (codes " has ") (codes " fields, not ") c.with_number-front.result c.bytes.result.now c.with_number-middle.result c.bytes-2.result.now c.with_number.result
    c.after.result c.counted.result c.counted-2.result (c.args.entry + 1) c.args.got c.args.want c.after.ensures c.counted.ensures c.counted-2.ensures
    c.with_number-front.ensures.text c.bytes.ensures.text c.with_number-middle.ensures.text c.bytes-2.ensures.text c.with_number.ensures.text
