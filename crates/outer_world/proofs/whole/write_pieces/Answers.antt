-- Each piece goes from the text that is left to that which is done.
use Rattle.std.proofs.Common.{◌++◌, ℕ, List, [], Bor, ap, sym, subst, ◌∙◌, get_or, arith, append_assoc}
use Rattle.std.proofs.KnownBytes.{Appends-trans}
use Rattle.outer_world.specs.Whole.{Writes}
use Rattle.outer_world.proofs.Writes.{text_from, writes_both, writes_cut}
use Rattle.outer_world.proofs.whole.write_pieces.Goals as goal

pub returns-in_err-write_whole : goal.returns-in_err-write_whole
returns-in_err-write_whole g c =
    let (done, split, appended) = c.loop-piece.invariant.done in
    let next = text_from c.args.pieces.now c.loop-piece.piece-index (record { ref_ptr = (0, 0); now = [] }) c.loop-piece-test.true in
    subst (Writes _ _ _) (sym (split ∙ ap (λ l. done ++ l) next))
    (writes_both {A = Unit {0}} tt _ _ _ _ done _
    (record { done = appended; part = tt; cause = record { later = c.loop-piece.invariant.count; failed = tt } })
    (writes_cut _ _ _ _ _ _ c.from_residual.ensures.0 c.in_err-write_whole.ensures))

pub loop-piece-preserved : goal.loop-piece-preserved
loop-piece-preserved g c =
    let (done, split, appended) = c.loop-piece.invariant.done in
    let none : Bor (List ℕ) = record { ref_ptr = (0, 0); now = [] } in
    let next = text_from c.args.pieces.now c.loop-piece.piece-index none c.loop-piece-test.true in
    let written = c.in_ok-write_whole.ensures in
    record {
      count = omega (arith, c.loop-piece.invariant.count, written.cause.later);
      done = (done ++ (get_or c.args.pieces.now c.loop-piece.piece-index none).now, split ∙ ap (λ l. done ++ l) next ∙ sym (append_assoc done _ _), Appends-trans _ _ _ done _ appended written.done);
    }
