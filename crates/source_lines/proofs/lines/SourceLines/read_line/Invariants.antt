-- What holds as lines are read on: what came so far, and that nothing is read where a line stands there.
use Rattle.std.proofs.Common.{◌≡◌, ◌≤◌, ◌-◌, true}
use Rattle.source_lines.specs.Lines.{ReadsOn, has_line, most_bytes}
use Rattle.source_lines.proofs.lines.SourceLines.read_line.Given as goal

abbrev pub invariant-loop-alloc : goal.invariant-loop-alloc
invariant-loop-alloc g l = record {
  reads : ReadsOn l.initial.self l.self (g.S.Source.state l.initial.source) (g.S.Source.state l.source);
  faults : (g.S.Source.state l.initial.source).faults ≤ (g.S.Source.state l.source).faults;
  idle : has_line l.initial.self.pending ≡ true → (l.self ≡ l.initial.self) × (l.source ≡ l.initial.source);
}

abbrev pub decreases-loop-alloc : goal.decreases-loop-alloc
decreases-loop-alloc g l = most_bytes - l.self.total
