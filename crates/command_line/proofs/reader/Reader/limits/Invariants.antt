use Rattle.std.proofs.Common.{length}
use Rattle.command_line.specs.Commands.{no_limits}
use Rattle.command_line.specs.Reading.{AddsLimit}
use Rattle.command_line.specs.Values.{limits_of}
use Rattle.command_line.proofs.reader.Reader.limits.Given as goal

abbrev pub invariant-loop-self : goal.invariant-loop-self
invariant-loop-self l = AddsLimit no_limits l.fn.self (limits_of l.limits) l.self

abbrev pub decreases-loop-self : goal.decreases-loop-self
decreases-loop-self l = length l.self.words
