use Rattle.std.proofs.Common.{◌≡◌, ◌*◌, ◌≤◌, sum, take}
use Rattle.multi_session.proofs.member.Member.reads.Given as goal

abbrev pub invariant-loop-count : goal.invariant-loop-count
invariant-loop-count l = record {
  counted : l.reads ≡ sum (take l.count-index l.self.counts.items);
  few : l.reads ≤ 255 * l.count-index;
}
