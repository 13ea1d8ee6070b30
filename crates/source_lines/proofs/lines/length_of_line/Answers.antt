use Rattle.std.proofs.Common.{sym, ◌∙◌}
use Rattle.daq_table.proofs.Places.{no_place}
use Rattle.source_lines.specs.Lines.{is_feed}
use Rattle.source_lines.proofs.lines.length_of_line.Goals as goal

pub returns-in-None-clause-length : goal.returns-in-None-clause-length
returns-in-None-clause-length c = no_place is_feed c.args.bytes.now (sym c.feed_place.ensures ∙ c.in-None.is)
