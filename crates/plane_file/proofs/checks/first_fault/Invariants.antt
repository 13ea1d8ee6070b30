use Rattle.std.proofs.Common.{◌≡◌, drop}
use Rattle.plane_file.specs.Checks.{first_fault}
use Rattle.plane_file.proofs.checks.first_fault.Given as goal

abbrev pub invariant-loop-holds : goal.invariant-loop-holds
invariant-loop-holds l = first_fault (drop l.holds-index l.checks) ≡ first_fault l.checks
