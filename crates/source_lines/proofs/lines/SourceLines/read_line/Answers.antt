-- Reading on: what several reads come to, and that none is made where a line stands.
use Rattle.std.proofs.Common.{ℕ, ◌≡◌, ◌≤◌, ◌∙◌, ap, false, refl, sym, rules, arith}
use Rattle.source_lines.specs.declared.fault.LineFault.{LineFault}
use Rattle.source_lines.specs.Lines.{Comes, LinesState, StopsLines, has_line, most_bytes}
use Rattle.source_lines.proofs.Steps.{never_idle, reads_both, reads_none, stops_behind}
use Rattle.source_lines.proofs.lines.SourceLines.read_line.Goals as goal

pub loop-alloc-init : goal.loop-alloc-init
loop-alloc-init g c =
    let total_of : LinesState → ℕ = λ s. s.total in
    let total = ap total_of c.self.view_is in
    let within = c.self.invariant.1 in
    let few : c.args.self.now.total ≤ most_bytes = omega (arith, within, total) in
    record {
      reads = reads_none c.args.self.now (g.S.Source.state c.args.source.now) few;
      faults = omega arith;
      idle = λ some. (refl, refl);
    }

pub returns-in_err-read_more-clause-stopped : goal.returns-in_err-read_more-clause-stopped
returns-in_err-read_more-clause-stopped g c =
    let state = g.S.Source.state in
    let none : has_line c.loop-alloc.self.pending ≡ false = sym c.has_line.ensures ∙ c.loop-alloc-test.true in
    let own : (why : LineFault) → StopsLines c.loop-alloc.self (state c.loop-alloc.source) (state c.read_more.new.source) why →
    StopsLines c.args.self.now (state c.args.source.now) (state c.read_more.new.source) why =
    λ why stop. stops_behind c.args.self.now c.loop-alloc.self (state c.args.source.now) (state c.loop-alloc.source)
    (state c.read_more.new.source) why c.loop-alloc.invariant.faults c.loop-alloc.invariant.reads stop in
    let stop = c.in_err-read_more.ensures.stopped (record { no_line = none; short = search (rules, arith, c.line_length.ensures) }) in
    search (rules, own, stop)

pub returns-in_err-read_more-clause-idle : goal.returns-in_err-read_more-clause-idle
returns-in_err-read_more-clause-idle g c = λ some.
    never_idle c.args.self.now c.loop-alloc.self some (c.loop-alloc.invariant.idle some).0 (sym c.has_line.ensures ∙ c.loop-alloc-test.true)

pub returns-then-not-branch-clause-idle : goal.returns-then-not-branch-clause-idle
returns-then-not-branch-clause-idle g c = λ some.
    never_idle c.args.self.now c.loop-alloc.self some (c.loop-alloc.invariant.idle some).0 (sym c.has_line.ensures ∙ c.loop-alloc-test.true)

pub loop-alloc-smaller : goal.loop-alloc-smaller
loop-alloc-smaller g c =
    let state = g.S.Source.state in
    let came : Comes c.loop-alloc.self c.read_more.new.self (state c.loop-alloc.source) (state c.read_more.new.source) =
    search (rules, c.in_ok-read_more.ensures.came, c.if-not-branch.false) in
    let some = came.some in
    let within = came.reads.within in
    omega (arith, some, within)

pub loop-alloc-preserved : goal.loop-alloc-preserved
loop-alloc-preserved g c =
    let state = g.S.Source.state in
    let came : Comes c.loop-alloc.self c.read_more.new.self (state c.loop-alloc.source) (state c.read_more.new.source) =
    search (rules, c.in_ok-read_more.ensures.came, c.if-not-branch.false) in
    let before = c.loop-alloc.invariant.faults in
    let behind = c.in_ok-read_more.ensures.faults in
    record {
      reads = reads_both c.args.self.now c.loop-alloc.self c.read_more.new.self (state c.args.source.now) (state c.loop-alloc.source)
          (state c.read_more.new.source) c.loop-alloc.invariant.reads came.reads;
      faults = omega (arith, before, behind);
      idle = λ some. never_idle c.args.self.now c.loop-alloc.self some (c.loop-alloc.invariant.idle some).0
          (sym c.has_line.ensures ∙ c.loop-alloc-test.true);
    }
