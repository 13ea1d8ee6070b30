-- Two numbers between words.
use Rattle.std.proofs.Common.{codes}
use Rattle.daq_cli.proofs.Texts.{with_two}
use Rattle.daq_cli.proofs.report_faults.written_counts.Goals as goal

pub returns-clause-text : goal.returns-clause-text
returns-clause-text c =
    with_two (codes "report refused: ") (codes " parts, not ") c.with_number-front.result c.bytes.result.now c.with_number.result c.counted.result c.from.result c.args.count c.args.parts
    c.counted.ensures c.from.ensures c.with_number-front.ensures.text c.bytes.ensures.text c.with_number.ensures.text
