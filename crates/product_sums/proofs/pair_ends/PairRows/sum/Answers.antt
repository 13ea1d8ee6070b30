use Rattle.std.proofs.Common.{◌≡◌, ℕ, ℤ, pos, ◌*ℤ◌, to_z, of_z, ap, sym, ◌∙◌, arith}
use Rattle.std.specs.Int.{w128}
use Rattle.std.proofs.lemmas.Int.{ints}
use Rattle.known_column.specs.KnownTables.{column_at}
use Rattle.product_sums.specs.ColumnEnds.{weight_of_all, weight_of_digits}
use Rattle.query_model.specs.Knowledge.{known_at}
use Rattle.product_sums.specs.KeptProducts.{factor_end, first_number}
use Rattle.product_sums.specs.Products.{sum_over}
use Rattle.product_sums.proofs.KeptProducts.{kept_end}
use Rattle.product_sums.proofs.Residues.{minus_is, plus_is, times_is, wrapped}
use Rattle.product_sums.proofs.pair_ends.PairRows.sum.Goals as goal

pub returns : goal.returns
returns c =
    let table = c.args.columns.now in
    let first = c.args.self.now.pair.first in
    let f : ℕ → ℤ = factor_end table c.args.parts.other in
    let e = c.args.parts.column in
    let is : c.column-known.result.now ≡ column_at table first = c.column-known.ensures.column ∙ ap (column_at table) c.from.ensures in
    let whole : to_z w128 (of_z w128 c.minus.result) ≡ c.minus.result = omega (arith, ints) in
    let digits_weigh : to_z w128 (of_z w128 c.weight_of_digits.result) ≡ weight_of_digits (column_at table first) = omega (arith, ints) ∙ c.weight_of_digits.ensures ∙ ap weight_of_digits is in
    let all_weigh : to_z w128 (of_z w128 c.weight_of_all.result) ≡ weight_of_all e (column_at table first) = omega (arith, ints) ∙ c.weight_of_all.ensures ∙ ap (weight_of_all e) is in
    let mask = c.args.self.now.rows.now in
    let numbered = c.sum_numbered.ensures in
    let alone = c.sum_alone-alone.ensures in
    let digits = times_is c.times-digits.result (weight_of_digits (column_at table first)) c.sum_numbered.result (sum_over mask (λ r. pos (first_number table first (known_at table.known first).read r) *ℤ f r))
    (c.times-digits.ensures ∙ ap (λ z. wrapped (z *ℤ to_z w128 (of_z w128 c.sum_numbered.result))) digits_weigh) (omega (arith, ints)) numbered in
    let all = times_is c.times-all.result (weight_of_all e (column_at table first)) c.sum_alone-alone.result (sum_over mask f)
    (c.times-all.ensures ∙ ap (λ z. wrapped (z *ℤ to_z w128 (of_z w128 c.sum_alone-alone.result))) all_weigh) (omega (arith, ints)) alone in
    whole
    ∙ minus_is c.minus.result c.plus.result c.sum_clipped-less.result _ _ c.minus.ensures (omega (arith, ints)) (omega (arith, ints))
    (plus_is c.plus.result c.times-digits.result c.times-all.result _ _ c.plus.ensures (omega (arith, ints)) (omega (arith, ints)) digits all) c.sum_clipped-less.ensures
    ∙ ap wrapped (sym (kept_end table c.rows-rows.ensures.known mask c.requires.follow.follow.rows first c.requires.follow.follow.there f e c.requires.follow.values))
