-- The queries so far are printed.
use Rattle.std.proofs.Common.{◌≡◌, map, take}
use Rattle.std.specs.Prelude.{string_bytes}
use Rattle.daq_cli.specs.ScriptValues.{scripted_of}
use Rattle.daq_cli.specs.commands.Session.{printed_forms}
use Rattle.daq_cli.proofs.together.print_each.Given as goal

abbrev pub invariant-loop-one : goal.invariant-loop-one
invariant-loop-one l = map string_bytes l.sqls.items ≡ printed_forms (map scripted_of (take l.one-index l.queries))
