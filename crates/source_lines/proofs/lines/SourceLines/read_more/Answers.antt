-- Where a byte came more than may come, as many as may come had come before.
use Rattle.std.proofs.Common.{ℕ, ◌≤◌, length, take, ap, arith, rules}
use Rattle.source_lines.specs.Lines.{LinesState}
use Rattle.source_lines.proofs.Steps.{stops_full}
use Rattle.source_lines.proofs.lines.SourceLines.read_more.Goals as goal

pub returns-then-count-room-clause-stopped : goal.returns-then-count-room-clause-stopped
returns-then-count-room-clause-stopped g c = λ none.
    let state = g.S.Source.state in
    let bytes = take c.in_ok-count.count c.read.new.buf in
    let bound = c.in_ok-count.ensures.bound in
    let within = c.self.invariant.1 in
    let clamp = c.clamp.ensures in
    let short : length c.read.new.buf ≤ c.clamp.result = search (rules, c.read.auto.buf) in
    let more = c.if-count-room.true in
    let total_of : LinesState → ℕ = λ s. s.total in
    let total = ap total_of c.self.view_is in
    stops_full c.args.self.now (state c.args.source.now) (state c.read.new.self) bytes c.in_ok-count.ensures.bytes.0
    (omega (arith, bound.0, bound.1, within, clamp, short, more)) (omega (arith, bound.0, bound.1, within, clamp, short, more, total)) none
