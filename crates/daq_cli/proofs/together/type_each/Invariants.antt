-- The queries so far are typed.
use Rattle.table_rounds.specs.SessionLaws.{AreValid}
use Rattle.daq_cli.specs.ScriptValues.{scripted_of}
use Rattle.daq_cli.specs.commands.Session.{typing_step}
use Rattle.daq_cli.proofs.Steps.{IsLeft}
use Rattle.daq_cli.proofs.together.type_each.Given as goal

abbrev pub invariant-loop-one : goal.invariant-loop-one
invariant-loop-one l = record {
  left : IsLeft (typing_step l.head) scripted_of l.queries l.one-index l.typed.items;
  valid : AreValid l.head l.typed.items;
}
