use Rattle.std.proofs.Common.{◌≡◌, ◌≢◌, ◌+◌, ◌-◌, ◌*◌, ◌/◌, inl, inr, subst, arith}
use Rattle.std.proofs.lemmas.Bool.{cases_lt}
use Rattle.query_model.specs.Knowledge.{ranges_of}
use Rattle.query_model.specs.Truths.{truths_of_atom}
use Rattle.kleene_filter.specs.Blocks.{HasTruths}
use Rattle.kleene_filter.proofs.judging.truths_by_rows.Goals as goal

pub loop-word-init : goal.loop-word-init
loop-word-init g c = record { from = omega arith; told = λ row from below early. absurd (omega (arith, from, early)) }

pub loop-word-preserved : goal.loop-word-preserved
loop-word-preserved g c =
    let atom = c.args.atom.now in
    let other = g.R.KnownRows.table c.args.rows.now in
    let place = c.args.place in
    let word = c.loop-word.word in
    let first = place.first + 64 * (word - place.word) in
    let started = c.loop-word.invariant.from in
    record {
      from = omega (arith, started);
      told = λ row from below early. elim (cases_lt row (64 * word)) [
        | inl low ↦
            (let apart : row / 64 ≢ word = omega (arith, low) in
            c.with_words-truths.ensures.others row _ apart (c.loop-word.invariant.told row from below low))
        | inr high ↦
            (let at : first + (row - 64 * word) ≡ place.first + (row - 64 * place.word) = omega (arith, high, from, started) in
            subst (λ n. HasTruths row (truths_of_atom atom (ranges_of other.frame other.known n)) c.with_words-truths.result) at
            (c.with_words-truths.ensures.here c.min-count.result (λ r. truths_of_atom atom (ranges_of other.frame other.known (first + r))) (omega (arith, c.min-count.ensures)) c.word_by_rows.ensures
            row high (omega (arith, c.min-count.ensures, high, below, early))))
      ];
    }

pub returns : goal.returns
returns g c = λ row from below. c.loop-word.invariant.told row from below (omega (arith, below, c.div_ceil-word-end.ensures))
