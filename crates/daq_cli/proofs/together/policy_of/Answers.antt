use Rattle.std.proofs.Common.{ap}
use Rattle.command_line.specs.Values.{order_of}
use Rattle.daq_cli.proofs.together.policy_of.Goals as goal

pub unreachable-requires : goal.unreachable-requires
unreachable-requires c = c.requires.by_policy c.in-Reads.field-0.now (ap order_of c.in-Reads.is)
