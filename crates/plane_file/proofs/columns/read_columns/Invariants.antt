use Rattle.std.proofs.Common.{◌≡◌, ◌+◌, ◌-◌, length, []}
use Rattle.plane_file.specs.Checks.{columns_checks, first_fault, planes_in, titles_of}
use Rattle.plane_file.specs.Format.{plane_count}
use Rattle.plane_file.specs.Fronts.{AreHeads}
use Rattle.plane_file.proofs.columns.read_columns.Given as goal

abbrev pub invariant-loop : goal.invariant-loop
invariant-loop l = record {
  heads : AreHeads l.bytes l.columns.items l.place;
  many : length l.columns.items ≡ l.counter;
  planes : plane_count l.columns.items + planes_in (l.count - l.counter) l.bytes l.place ≡ planes_in l.count l.bytes 32;
  checks : first_fault (columns_checks (l.count - l.counter) l.bytes (titles_of l.columns.items) l.place) ≡ first_fault (columns_checks l.count l.bytes [] 32);
}
