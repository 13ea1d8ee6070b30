use Rattle.std.proofs.Common.{◌≡◌, ◌+ℤ◌, ℤ, cond, pos, ap, sym, refl, ◌∙◌, arith, to_z, of_z}
use Rattle.std.specs.Int.{w128}
use Rattle.std.proofs.lemmas.Int.{ints}
use Rattle.aggregates.proofs.Appending.{same_tally}
use Rattle.aggregates.specs.SumsOfCells.{end_if}
use Rattle.digit_sums.specs.Digits.{RowDigits, certain_rows, high_by, low_by, lows_of, tally_by}
use Rattle.digit_sums.proofs.cell.CellDigits.tally.Goals as goal

abbrev again : ℤ → ℤ
again z = to_z w128 (of_z w128 z)

pub returns : goal.returns
returns c =
    let inside = c.self.inside in
    let ends = c.args.ends in
    let cell : RowDigits = record { certain = inside.certain; rows = inside.rows; at_top = inside.at_top; least = inside.least; greatest = inside.greatest; sum = inside.sum } in
    let certain : c.certain_rows-certain.result ≡ certain_rows cell = c.certain_rows-certain.ensures ∙ ap certain_rows (sym c.self.view_is) in
    let low : again c.low.result ≡ low_by ends inside.least = (let same : again c.low.result ≡ c.low.result = omega (arith, ints) in same ∙ c.low.ensures) in
    let high : again c.high.result ≡ high_by ends inside.greatest = (let same : again c.high.result ≡ c.high.result = omega (arith, ints) in same ∙ c.high.ensures) in
    let lows : again c.lows-low.result ≡ lows_of ends cell = (let same : again c.lows-low.result ≡ c.lows-low.result = omega (arith, ints) in same ∙ c.lows-low.ensures.sum) in
    let sum : again c.sum_if.result ≡ c.sum_if.result = omega (arith, ints) in
    let few = c.lows-low.ensures.few in
    let both : again (again c.lows-low.result +ℤ again c.from-3.result) ≡ c.lows-low.result +ℤ pos c.spans-spans.result = omega (arith, ints, few, c.spans-spans.ensures.few, c.from-3.ensures) in
    sym (same_tally _ _ _ _ _ _ _ _ (tally_by ends cell)
    (c.from.ensures ∙ certain) c.from-2.ensures
    (c.end_of.ensures ∙ ap (λ k. end_if k inside.rows (again c.low.result)) certain ∙ ap (end_if (certain_rows cell) inside.rows) low)
    (c.end_of-2.ensures ∙ ap (λ k. end_if k inside.rows (again c.high.result)) certain ∙ ap (end_if (certain_rows cell) inside.rows) high)
    refl refl
    (sum ∙ c.sum_if.ensures ∙ ap (λ z. cond inside.certain z (pos 0)) lows)
    (both ∙ ap (λ z. z +ℤ pos c.spans-spans.result) c.lows-low.ensures.sum ∙ ap (λ k. lows_of ends cell +ℤ pos k) c.spans-spans.ensures.sum))
    ∙ ap (tally_by ends) c.self.view_is
