use Rattle.std.proofs.Common.{length}
use Rattle.command_line.specs.Commands.{nothing_given}
use Rattle.command_line.specs.Reading.{Adds}
use Rattle.command_line.specs.Values.{given_of}
use Rattle.command_line.proofs.reader.Reader.options.Given as goal

abbrev pub invariant-loop-self : goal.invariant-loop-self
invariant-loop-self l = Adds l.fn.by_name nothing_given l.fn.self (given_of l.given) l.self

abbrev pub decreases-loop-self : goal.decreases-loop-self
decreases-loop-self l = length l.self.words
