use Rattle.std.proofs.Common.{◌≡◌, ◌+◌, ◌-◌, length, arith}
use Rattle.std.proofs.lemmas.Result.{err_from_is_err_and}
use Rattle.plane_file.proofs.OpeningSteps.{behind_stops, given_back, hands_front, header_starves}
use Rattle.plane_file.specs.Checks.{heads_in}
use Rattle.plane_file.proofs.opening.read_front.Goals as goal

pub returns-in_err-front-clause-refused : goal.returns-in_err-front-clause-refused
returns-in_err-front-clause-refused g c =
    let p = err_from_is_err_and c.from_residual-in_err-front.result c.from_residual-in_err-front.ensures.1 in
    rw (p.1, p.2) (header_starves (g.P.Store.state c.args.store.now) (g.P.Store.state c.read_header.new.store) c.in_ok-header.header c.in_ok-header.size c.in_ok-header.ensures.read)

pub returns-in_err-read_behind-clause-refused : goal.returns-in_err-read_behind-clause-refused
returns-in_err-read_behind-clause-refused g c =
    let old = g.P.Store.state c.args.store.now in
    let mid = g.P.Store.state c.read_header.new.store in
    let front = c.read_behind.new.front in
    let header = c.in_ok-header.header in
    let count : length front - 32 ≡ heads_in header = omega (arith, c.in_ok-front.ensures.len, c.number64_at-heads.ensures, c.deref_mut.ensures.len, c.in_ok-front.front.ok.0) in
    let p = err_from_is_err_and c.from_residual-in_err-read_behind.result c.from_residual-in_err-read_behind.ensures.1 in
    rw (p.1, p.2) (behind_stops old mid (g.P.Store.state c.read_behind.new.store) header c.in_ok-header.size (length front - 32) c.in_err-read_behind.field-0.0
    c.read_header.ensures.same c.in_ok-header.ensures.read count c.in_err-read_behind.ensures.stopped)

pub returns-clause-read : goal.returns-clause-read
returns-clause-read g c =
    let old = g.P.Store.state c.args.store.now in
    let mid = g.P.Store.state c.read_header.new.store in
    let front = c.read_behind.new.front in
    let header = c.in_ok-header.header in
    let items = c.in_ok-front.front.items in
    let long : length front ≡ 32 + heads_in header = omega (arith, c.in_ok-front.ensures.len, c.number64_at-heads.ensures, c.deref_mut.ensures.len, c.in_ok-front.front.ok.0) in
    let same : length front ≡ length items = omega (arith, c.deref_mut.ensures.len, c.in_ok-front.front.ok.0) in
    rw (given_back c.in_ok-front.front.len front items same (omega (arith, c.in_ok-front.front.ok.0)))
    (hands_front old mid (g.P.Store.state c.read_behind.new.store) header c.in_ok-header.size front c.read_header.ensures.same c.in_ok-header.ensures.read c.in_ok-read_behind.ensures.read long)
