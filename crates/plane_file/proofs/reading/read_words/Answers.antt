-- Each piece goes behind those that were read.
use Rattle.std.proofs.Common.{rules, ◌≡◌, ◌+◌, ◌/◌, ◌≤◌, length, take, refl, sym, subst, ◌∙◌, arith, IfSome, List, ℕ}
use Rattle.std.proofs.lemmas.Result.{err_from_is_err_and}
use Rattle.plane_kernels.specs.Bytes.{word_count}
use Rattle.plane_file.specs.Format.{plane_size}
use Rattle.plane_file.specs.Reading.{StopsAtWords}
use Rattle.plane_file.specs.declared.words_fault.WordsFault.{WordsFault}
use Rattle.plane_file.proofs.Pieces.{all_read, nothing_read, piece_read, stops_whole}
use Rattle.plane_file.proofs.reading.read_words.Goals as goal

pub loop-first-init : goal.loop-first-init
loop-first-init g c = record {
  within = omega arith;
  rows = refl;
  so_far = nothing_read c.args.place (g.P.Store.state c.args.store.now) c.args.into.now;
}

pub returns-in_err-read_piece-clause-stopped : goal.returns-in_err-read_piece-clause-stopped
returns-in_err-read_piece-clause-stopped g c =
    let place = c.args.place in
    let rows = length c.args.into.now in
    let inv = c.loop-first.invariant in
    let fault = c.in_err-read_piece.field-0.0 in
    let old = g.P.Store.state c.args.store.now in
    let new = g.P.Store.state c.read_piece.new.store in
    let p = err_from_is_err_and c.from_residual.result c.from_residual.ensures.1 in
    let size = length (take c.min-size.result c.loop-first.buffer) in
    let stopped = subst (λ n. StopsAtWords place c.loop-first.first size n (g.P.Store.state c.loop-first.store) new fault) inv.rows c.in_err-read_piece.ensures.stopped in
    rw p.1 (subst (λ (e : WordsFault). StopsAtWords place 0 (plane_size rows) rows old new e) (sym p.2)
    (stops_whole place c.loop-first.first size rows old (g.P.Store.state c.loop-first.store) new fault stopped (search rules) c.requires.holds inv.so_far.same inv.so_far.handed))

pub loop-first-preserved : goal.loop-first-preserved
loop-first-preserved g c =
    let inv = c.loop-first.invariant in
    let holds = subst (λ n. IfSome (g.P.Store.state c.args.store.now).held (λ (held : List ℕ). c.args.place + plane_size n ≤ length held)) (sym inv.rows) c.requires.holds in
    record {
      within = omega arith;
      rows = c.read_piece.ensures.rows ∙ inv.rows;
      so_far = piece_read c.args.place c.loop-first.first _ (c.min-size.result / 8) _ _ _ c.loop-first.into c.read_piece.new.into c.in_ok-read_piece.ensures.read inv.so_far
          c.in_ok-read_piece.ensures.same (search rules) holds (search rules);
    }

pub returns-clause-read : goal.returns-clause-read
returns-clause-read g c =
    let inv = c.loop-first.invariant in
    let all : c.loop-first.first ≡ word_count (length c.loop-first.into) = omega (arith, inv.within, inv.rows, c.loop-first-test.false, c.div_ceil-words.ensures, c.rows.ensures) in
    all_read c.args.place c.loop-first.first _ _ c.loop-first.into all inv.so_far
