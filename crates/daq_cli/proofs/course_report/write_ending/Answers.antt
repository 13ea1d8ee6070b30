-- Each ending has its line.
use Rattle.std.proofs.Common.{sym, subst}
use Rattle.outer_world.specs.Whole.{Writes}
use Rattle.daq_cli.specs.Report.{ending_line}
use Rattle.daq_cli.proofs.course_report.write_ending.Goals as goal

pub returns-in-Narrow : goal.returns-in-Narrow
returns-in-Narrow g c = subst (λ e. Writes c.write_whole.result (g.K.Sink.state c.args.out.now) (g.K.Sink.state c.write_whole.new.sink) (ending_line e)) (sym c.in-Narrow.is) c.write_whole.ensures

pub returns-in-Rounds : goal.returns-in-Rounds
returns-in-Rounds g c = subst (λ e. Writes c.write_whole-in-Rounds.result (g.K.Sink.state c.args.out.now) (g.K.Sink.state c.write_whole-in-Rounds.new.sink) (ending_line e)) (sym c.in-Rounds.is) c.write_whole-in-Rounds.ensures
