use Rattle.std.proofs.Common.{◌≡◌, ◌+◌, ◌-◌, sym, ap, ◌∙◌, arith}
use Rattle.std.specs.Int.{bit_at, trailing_zeros, w64}
use Rattle.std.proofs.lemmas.Nat.Bits.{bit_at-trailing_zeros, bit_at-zero}
use Rattle.row_groups.proofs.Told.{all_written, next_written, rest_from, rest_is, rest_next}
use Rattle.row_groups.proofs.telling.write_word.Goals as goal

pub returns-then-place-cells : goal.returns-then-place-cells
returns-then-place-cells c =
    let rest = c.loop-rest.rest in
    let at = c.loop-rest.at in
    let word = c.args.word in
    let old = c.args.cells.now in
    let long = c.loop-rest.invariant.below.long in
    let past = c.if-place-cells.true in
    let first = bit_at-trailing_zeros w64 rest (omega (arith, c.loop-rest-test.true)) c.loop-rest.auto.rest-fits.fits in
    all_written old c.loop-rest.cells word c.args.number at c.loop-rest.invariant.below (λ i h lt.
    rest_from word at rest c.loop-rest.invariant.rest i h ∙ first.2 (i - at) (omega (arith, h, lt, past, long)))

pub loop-rest-preserved : goal.loop-rest-preserved
loop-rest-preserved c =
    let rest = c.loop-rest.rest in
    let at = c.loop-rest.at in
    let word = c.args.word in
    let old = c.args.cells.now in
    let long = c.loop-rest.invariant.below.long in
    let within = c.if-place-cells.false in
    let skipped = trailing_zeros w64 rest in
    let is = c.loop-rest.invariant.rest in
    let first = bit_at-trailing_zeros w64 rest (omega (arith, c.loop-rest-test.true)) c.loop-rest.auto.rest-fits.fits in
    record {
      within = omega (arith, within, long);
      rest = rest_next word at rest is skipped;
      below = next_written old c.loop-rest.cells word c.args.number at (at + skipped) c.loop-rest.invariant.below (omega arith) (omega (arith, within))
          (λ i h lt. rest_from word at rest is i h ∙ first.2 (i - at) (omega (arith, h, lt))) (sym (rest_is word at rest is skipped) ∙ first.1);
    }

pub returns : goal.returns
returns c =
    let rest = c.loop-rest.rest in
    let at = c.loop-rest.at in
    let word = c.args.word in
    let none : rest ≡ 0 = omega (arith, c.loop-rest-test.false) in
    all_written c.args.cells.now c.loop-rest.cells word c.args.number at c.loop-rest.invariant.below (λ i h lt.
    rest_from word at rest c.loop-rest.invariant.rest i h ∙ ap (λ n. bit_at n (i - at)) none ∙ bit_at-zero (i - at))
