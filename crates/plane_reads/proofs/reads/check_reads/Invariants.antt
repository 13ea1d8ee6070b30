use Rattle.std.proofs.Common.{◌≡◌, length}
use Rattle.plane_reads.specs.Reads.{AreFirstReads}
use Rattle.plane_reads.proofs.reads.check_reads.Given as goal

abbrev pub invariant-names : goal.invariant-names
invariant-names l = record {
  first : AreFirstReads l.word l.query l.head l.columns.items;
  count : length l.columns.items ≡ length l.yielded;
}
