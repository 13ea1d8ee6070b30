use Rattle.std.proofs.Common.{◌≡◌, ◌-◌, ◌≤◌, ◌++◌, None, length}
use Rattle.std.specs.Prelude.{IfSome}
use Rattle.plane_file.specs.Checks.{first_fault, names_at, names_checks, names_end}
use Rattle.plane_file.proofs.names.read_names.Given as goal

abbrev pub invariant-loop : goal.invariant-loop
invariant-loop l = record {
  names : l.names.items ++ names_at (l.count - l.counter) l.bytes l.place ≡ names_at l.count l.bytes l.at;
  end : names_end (l.count - l.counter) l.bytes l.place ≡ names_end l.count l.bytes l.at;
  checks : first_fault (names_checks (l.count - l.counter) l.bytes l.before l.place) ≡ first_fault (names_checks l.count l.bytes None l.at);
  within : l.place ≤ length l.bytes;
  before : IfSome l.before (λ p. p ≤ length l.bytes);
}
