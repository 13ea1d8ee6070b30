-- How each exit of the loop is told, and that the invariant stays.
use Rattle.std.proofs.Common.{◌≡◌, ℕ, ◌+◌, Result, Ok, Err, IfErr, IsErrAnd, List, refl, sym, subst, ◌∙◌, arith, rules}
use Rattle.report_parts.specs.Course.{opening_text}
use Rattle.source_lines.specs.Lines.{Stands}
use Rattle.report_stream.proofs.Begun.{first_read, no_first, none_at_all, not_asked, starts, starved}
use Rattle.report_stream.proofs.Ended.{done_where, may_not_end}
use Rattle.report_stream.proofs.Goes.{at_line, goes_on}
use Rattle.report_stream.proofs.NoLines.{no_line_more}
use Rattle.report_stream.proofs.Passed.{less}
use Rattle.report_stream.proofs.Refused.{not_taken}
use Rattle.report_stream.specs.Steps.{IsAsked, IsFirstFault, PutsOut, StopsTake}
use Rattle.report_stream.specs.Streams.{StreamCause}
use Rattle.report_stream.specs.declared.fault.StreamFault.{StreamFault}
use Rattle.report_stream.specs.declared.fault.StreamFault.TheVariants.{NoMemory}
use Rattle.report_stream.proofs.stream.combine_reports.Goals as goal

-- a fault that is handed on
handed_on : (P : StreamFault → Type 0) (why : StreamFault) (r : Result (Unit {0}) StreamFault) → IsErrAnd r (λ own. own ≡ why) → P why → IfErr r P
handed_on P why (Ok x) h p = absurd h
handed_on P why (Err own) h p = subst P (sym h) p

-- ---- the first line

pub returns-in_err-read_line-clause-refused : goal.returns-in_err-read_line-clause-refused
returns-in_err-read_line-clause-refused g c =
    let state = g.S.Source.state in
    let out = g.K.Sink.state c.args.out.now in
    let why = c.in_err-read_line.field-0.0 in
    handed_on (StreamCause c.args.count c.args.until (state c.args.input.now) (state c.read_line.new.input) out out) why c.from_residual.result
    c.from_residual.ensures.1
    (no_first c.args.count c.args.until (state c.args.input.now) (state c.read_line.new.input) out c.new-reader.result why c.new-reader.ensures
    c.in_err-read_line.ensures.stopped)

pub returns-then-not-branch-clause-refused : goal.returns-then-not-branch-clause-refused
returns-then-not-branch-clause-refused g c =
    let state = g.S.Source.state in
    none_at_all c.args.count c.args.until (state c.args.input.now) (state c.read_line.new.input) (g.K.Sink.state c.args.out.now)
    c.new-reader.result c.read_line.new.reader c.new-reader.ensures
    (search (rules, c.in_ok-read_line.ensures.ended, c.if-not-branch.true)) c.in_ok-read_line.ensures.faults

pub returns-in_err-asked-clause-refused : goal.returns-in_err-asked-clause-refused
returns-in_err-asked-clause-refused g c =
    let state = g.S.Source.state in
    let out = g.K.Sink.state c.args.out.now in
    let why = c.in_err-asked.field-0.0 in
    let came : Stands c.new-reader.result c.read_line.new.reader (state c.args.input.now) (state c.read_line.new.input) =
    search (rules, c.in_ok-read_line.ensures.line, c.if-not-branch.false) in
    handed_on (StreamCause c.args.count c.args.until (state c.args.input.now) (state c.read_line.new.input) out out) why
    c.from_residual-in_err-asked.result c.from_residual-in_err-asked.ensures.1
    (not_asked c.args.count c.args.until (state c.args.input.now) (state c.read_line.new.input) out c.read_line.new.reader
    (first_read (state c.args.input.now) (state c.read_line.new.input) c.new-reader.result c.read_line.new.reader c.new-reader.ensures came
    c.in_ok-read_line.ensures.faults)
    came.line came.short why (subst (λ (line : List ℕ). IsFirstFault line why) c.line.ensures c.in_err-asked.ensures.refused))

pub returns-in_err-text-clause-refused : goal.returns-in_err-text-clause-refused
returns-in_err-text-clause-refused g c =
    let state = g.S.Source.state in
    let out = g.K.Sink.state c.args.out.now in
    let came : Stands c.new-reader.result c.read_line.new.reader (state c.args.input.now) (state c.read_line.new.input) =
    search (rules, c.in_ok-read_line.ensures.line, c.if-not-branch.false) in
    handed_on (StreamCause c.args.count c.args.until (state c.args.input.now) (state c.read_line.new.input) out out) NoMemory
    c.from_residual-in_err-text.result c.from_residual-in_err-text.ensures.1
    (starved c.args.count c.args.until (state c.args.input.now) (state c.read_line.new.input) out c.read_line.new.reader
    (first_read (state c.args.input.now) (state c.read_line.new.input) c.new-reader.result c.read_line.new.reader c.new-reader.ensures came
    c.in_ok-read_line.ensures.faults)
    NoMemory refl)

pub new-combination-requires : goal.new-combination-requires
new-combination-requires g c = c.requires

pub lines-init : goal.lines-init
lines-init g c =
    let state = g.S.Source.state in
    let came : Stands c.new-reader.result c.read_line.new.reader (state c.args.input.now) (state c.read_line.new.input) =
    search (rules, c.in_ok-read_line.ensures.line, c.if-not-branch.false) in
    let asked = subst (λ (line : List ℕ). IsAsked line c.in_ok-asked.asked.query.items c.in_ok-asked.asked.shape) c.line.ensures
    c.in_ok-asked.ensures.asked in
    let opening = subst (λ (query : List ℕ). c.in_ok-text.text.items ≡ opening_text query c.args.count) c.deref.ensures.value c.in_ok-text.ensures in
    starts c.args.count c.args.until (state c.args.input.now) (state c.read_line.new.input) (g.K.Sink.state c.args.out.now) c.read_line.new.reader
    c.new-combination.result c.in_ok-text.text.items c.in_ok-asked.asked.query.items c.in_ok-asked.asked.shape
    (first_read (state c.args.input.now) (state c.read_line.new.input) c.new-reader.result c.read_line.new.reader c.new-reader.ensures came
    c.in_ok-read_line.ensures.faults)
    came.line asked opening c.new-combination.ensures.query c.new-combination.ensures.shape c.new-combination.ensures.count
    c.new-combination.ensures.near c.new-combination.ensures.last c.new-combination.ensures.stands c.new-combination.ensures.open

-- ---- a line more

pub overflow_add-number : goal.overflow_add-number
overflow_add-number g c = let few = c.lines.invariant.few in omega (arith, few)

pub returns-in_err-read_line-2-clause-refused : goal.returns-in_err-read_line-2-clause-refused
returns-in_err-read_line-2-clause-refused g c =
    let state = g.S.Source.state in
    let out = g.K.Sink.state c.args.out.now in
    let why = c.in_err-read_line-2.field-0.0 in
    handed_on (StreamCause c.args.count c.args.until (state c.args.input.now) (state c.read_line-in-lines.new.input) out (g.K.Sink.state c.lines.out)) why
    c.from_residual-in_err-read_line-2.result c.from_residual-in_err-read_line-2.ensures.1
    (no_line_more c.args.count c.args.until (state c.args.input.now) (state c.lines.input) (state c.read_line-in-lines.new.input) out
    (g.K.Sink.state c.lines.out) c.lines.reader c.lines.combination c.lines.text.items c.lines.number why c.lines.invariant
    (c.has_ended.ensures.open c.lines-test.true) c.in_err-read_line-2.ensures.stopped)

pub end_fault-requires : goal.end_fault-requires
end_fault-requires g c = record {
  lines = c.lines.invariant.lines;
  text = c.lines.invariant.body;
  stands = c.lines.invariant.stands;
  goes_on = c.has_ended.ensures.open c.lines-test.true;
}

pub returns-then-not-branch-2-clause-refused : goal.returns-then-not-branch-2-clause-refused
returns-then-not-branch-2-clause-refused g c =
    let state = g.S.Source.state in
    may_not_end c.args.count c.args.until (state c.args.input.now) (state c.lines.input) (state c.read_line-in-lines.new.input)
    (g.K.Sink.state c.args.out.now) (g.K.Sink.state c.lines.out) c.lines.reader c.read_line-in-lines.new.reader c.lines.combination c.lines.text.items
    c.lines.number c.lines.invariant (c.has_ended.ensures.open c.lines-test.true)
    (search (rules, c.in_ok-read_line-2.ensures.ended, c.if-not-branch-2.true)) c.in_ok-read_line-2.ensures.faults
    (λ some. (c.in_ok-read_line-2.ensures.idle some).0) c.end_fault.result c.end_fault.ensures

pub take-requires : goal.take-requires
take-requires g c = c.has_ended.ensures.open c.lines-test.true

pub returns-clause-done : goal.returns-clause-done
returns-clause-done g c =
    let state = g.S.Source.state in
    done_where c.args.count c.args.until (state c.args.input.now) (state c.lines.input) (g.K.Sink.state c.args.out.now) (g.K.Sink.state c.lines.out)
    c.lines.reader c.lines.combination c.lines.text.items c.lines.number c.lines.invariant (sym c.has_ended.ensures.ended ∙ c.lines-test.false)

-- ---- the line is taken, or is not

pub returns-in_err-take-clause-refused : goal.returns-in_err-take-clause-refused
returns-in_err-take-clause-refused g c =
    let state = g.S.Source.state in
    let source = state c.read_line-in-lines.new.input in
    let out = g.K.Sink.state c.args.out.now in
    let sink = g.K.Sink.state c.lines.out in
    let next = g.K.Sink.state c.take.new.out in
    let reader = c.read_line-in-lines.new.reader in
    let why = c.in_err-take.field-0.0 in
    let came : Stands c.lines.reader reader (state c.lines.input) source = search (rules, c.in_ok-read_line-2.ensures.line, c.if-not-branch-2.false) in
    let there = at_line c.args.count c.args.until (state c.args.input.now) (state c.lines.input) source out sink c.lines.reader reader c.lines.combination
    c.lines.text.items c.lines.number c.lines.invariant came (λ some. (c.in_ok-read_line-2.ensures.idle some).0) c.in_ok-read_line-2.ensures.faults in
    handed_on (StreamCause c.args.count c.args.until (state c.args.input.now) source out next) why c.from_residual-in_err-take.result
    c.from_residual-in_err-take.ensures.1
    (not_taken c.args.count c.args.until (state c.args.input.now) source out sink next reader c.lines.combination c.lines.text.items c.lines.number there
    (c.has_ended.ensures.open c.lines-test.true) g.K.Sink.state c.lines.out c.take.new.out why refl refl
    (subst (λ (line : List ℕ). StopsTake c.lines.combination line c.lines.text.items (c.lines.number + 1) c.lines.out c.take.new.out sink next why)
    c.line-line.ensures c.in_err-take.ensures.refused))

pub lines-smaller : goal.lines-smaller
lines-smaller g c =
    let state = g.S.Source.state in
    let came : Stands c.lines.reader c.read_line-in-lines.new.reader (state c.lines.input) (state c.read_line-in-lines.new.input) =
    search (rules, c.in_ok-read_line-2.ensures.line, c.if-not-branch-2.false) in
    less c.lines.reader c.read_line-in-lines.new.reader c.pass.new.self (state c.lines.input) (state c.read_line-in-lines.new.input) came
    c.pass.ensures.pending c.pass.ensures.total c.pass.ensures.within

pub lines-preserved : goal.lines-preserved
lines-preserved g c =
    let state = g.S.Source.state in
    let source = state c.read_line-in-lines.new.input in
    let out = g.K.Sink.state c.args.out.now in
    let sink = g.K.Sink.state c.lines.out in
    let next = g.K.Sink.state c.take.new.out in
    let reader = c.read_line-in-lines.new.reader in
    let came : Stands c.lines.reader reader (state c.lines.input) source = search (rules, c.in_ok-read_line-2.ensures.line, c.if-not-branch-2.false) in
    let there = at_line c.args.count c.args.until (state c.args.input.now) (state c.lines.input) source out sink c.lines.reader reader c.lines.combination
    c.lines.text.items c.lines.number c.lines.invariant came (λ some. (c.in_ok-read_line-2.ensures.idle some).0) c.in_ok-read_line-2.ensures.faults in
    goes_on c.args.count c.args.until (state c.args.input.now) source out sink next reader c.pass.new.self c.lines.combination c.take.new.combination
    c.lines.text.items c.take.new.text.items c.lines.number there (c.has_ended.ensures.open c.lines-test.true) c.in_ok-take.ensures.task
    (subst (λ (line : List ℕ). PutsOut c.lines.combination c.take.new.combination line c.lines.text.items c.take.new.text.items sink next)
    c.line-line.ensures c.in_ok-take.ensures.taken)
    c.pass.ensures.pending c.pass.ensures.total c.pass.ensures.within
