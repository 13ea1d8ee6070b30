use Rattle.std.proofs.Common.{◌+◌, ℕ, length, sym, ap, ◌∙◌, arith}
use Rattle.std.proofs.lemmas.Result.{err_from_is_err_and}
use Rattle.plane_file.proofs.OpeningSteps.{header_refused, header_stops, room_refused, small_refused, started}
use Rattle.plane_file.proofs.Refusals.{fails}
use Rattle.plane_file.proofs.opening.read_header.Goals as goal

pub returns-in-Err-clause-refused : goal.returns-in-Err-clause-refused
returns-in-Err-clause-refused g c = fails (g.P.Store.state c.args.store.now) (g.P.Store.state c.size.new.self) c.size.ensures.pieces c.in-Err.ensures.cause.failed

pub returns-then-size-lt32-clause-refused : goal.returns-then-size-lt32-clause-refused
returns-then-size-lt32-clause-refused g c =
    small_refused (g.P.Store.state c.args.store.now) (g.P.Store.state c.size.new.self) c.in-Ok.size c.size.ensures.pieces c.in-Ok.ensures.size c.if-size-lt32.true

pub returns-in_err-fill-clause-refused : goal.returns-in_err-fill-clause-refused
returns-in_err-fill-clause-refused g c =
    let old = g.P.Store.state c.args.store.now in
    let mid = g.P.Store.state c.size.new.self in
    let p = err_from_is_err_and c.from_residual.result c.from_residual.ensures.1 in
    rw (p.1, p.2) (header_stops old mid (g.P.Store.state c.fill.new.store) c.in-Ok.size (length c.fill.new.buf) c.in_err-fill.field-0.0
    c.size.ensures.held c.size.ensures.pieces c.size.ensures.cause.later c.size.ensures.ends c.in-Ok.ensures.size c.if-size-lt32.false (omega arith) c.in_err-fill.ensures.stopped)

pub returns-in-Some-clause-refused : goal.returns-in-Some-clause-refused
returns-in-Some-clause-refused g c =
    let old = g.P.Store.state c.args.store.now in
    let new = g.P.Store.state c.fill.new.store in
    let header = c.fill.new.buf in
    let size = c.in-Ok.size in
    let read = started old (g.P.Store.state c.size.new.self) new size header c.size.ensures.held c.size.ensures.pieces c.in-Ok.ensures.size c.if-size-lt32.false (omega arith) c.in_ok-fill.ensures.filled in
    header_refused old new header size c.in-Some.fault read (sym c.header_fault.ensures ∙ c.in-Some.is)

pub returns-then-size-wanted-clause-refused : goal.returns-then-size-wanted-clause-refused
returns-then-size-wanted-clause-refused g c =
    let old = g.P.Store.state c.args.store.now in
    let new = g.P.Store.state c.fill.new.store in
    let header = c.fill.new.buf in
    let size = c.in-Ok.size in
    let read = started old (g.P.Store.state c.size.new.self) new size header c.size.ensures.held c.size.ensures.pieces c.in-Ok.ensures.size c.if-size-lt32.false (omega arith) c.in_ok-fill.ensures.filled in
    room_refused old new header size (32 + c.number64_at-wanted.result) read (sym c.in_default.ensures) (ap (λ (n : ℕ). 32 + n) c.number64_at-wanted.ensures) c.if-size-wanted.true
