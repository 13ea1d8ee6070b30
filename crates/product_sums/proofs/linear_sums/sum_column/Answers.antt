use Rattle.std.proofs.Common.{◌≡◌, ◌*ℤ◌, to_z, of_z, ap, sym, ◌∙◌, arith}
use Rattle.std.specs.Int.{w128}
use Rattle.std.proofs.lemmas.Int.{ints}
use Rattle.aggregates.specs.declared.ends.End.TheVariants.{High, Low}
use Rattle.known_column.specs.KnownTables.{column_at}
use Rattle.query_model.specs.Queries.{Column}
use Rattle.product_sums.specs.ColumnEnds.{weight_of_all, weight_of_digits}
use Rattle.product_sums.specs.KeptProducts.{is_high}
use Rattle.product_sums.proofs.KeptProducts.{kept_end}
use Rattle.product_sums.proofs.LinearSums.{low_times, times_end}
use Rattle.product_sums.proofs.Residues.{minus_is, plus_is, times_is, wrapped}
use Rattle.product_sums.proofs.linear_sums.sum_column.Goals as goal

pub returns-in-Low : goal.returns-in-Low
returns-in-Low c = λ mask f are values.
    let table = c.args.columns.now in
    let column = c.args.column in
    let sums = c.args.sums.now in
    let is : c.column-known.result.now ≡ column_at table column = c.column-known.ensures.column ∙ ap (column_at table) c.from.ensures in
    let whole : to_z w128 (of_z w128 c.plus.result) ≡ c.plus.result = omega (arith, ints) in
    let digits_weigh : to_z w128 (of_z w128 c.weight_of_digits.result) ≡ weight_of_digits (column_at table column) = omega (arith, ints) ∙ c.weight_of_digits.ensures ∙ ap weight_of_digits is in
    let all_weigh : to_z w128 (of_z w128 c.weight_of_all.result) ≡ weight_of_all Low (column_at table column) = omega (arith, ints) ∙ c.weight_of_all.ensures ∙ ap (weight_of_all c.args.end) is ∙ ap (λ e. weight_of_all e (column_at table column)) c.in-Low.is in
    let digits = times_is c.times-digits.result (weight_of_digits (column_at table column)) sums.numbers _ (c.times-digits.ensures ∙ ap (λ z. wrapped (z *ℤ to_z w128 (of_z w128 sums.numbers))) digits_weigh) (omega (arith, ints)) are.numbers in
    let all = times_is c.times-all.result (weight_of_all Low (column_at table column)) sums.all _ (c.times-all.ensures ∙ ap (λ z. wrapped (z *ℤ to_z w128 (of_z w128 sums.all))) all_weigh) (omega (arith, ints)) are.all in
    whole ∙ plus_is c.plus.result c.times-digits.result c.times-all.result _ _ c.plus.ensures (omega (arith, ints)) (omega (arith, ints)) digits all
    ∙ ap wrapped (sym (low_times table mask f c.rows-rows.ensures.known are.rows column c.requires.column values))
    ∙ ap (λ e. wrapped (times_end table mask f e (Column column))) (sym c.in-Low.is)

pub returns-in-High : goal.returns-in-High
returns-in-High c = λ mask f are values.
    let table = c.args.columns.now in
    let column = c.args.column in
    let sums = c.args.sums.now in
    let is : c.column-known.result.now ≡ column_at table column = c.column-known.ensures.column ∙ ap (column_at table) c.from.ensures in
    let whole : to_z w128 (of_z w128 c.minus.result) ≡ c.minus.result = omega (arith, ints) in
    let digits_weigh : to_z w128 (of_z w128 c.weight_of_digits.result) ≡ weight_of_digits (column_at table column) = omega (arith, ints) ∙ c.weight_of_digits.ensures ∙ ap weight_of_digits is in
    let all_weigh : to_z w128 (of_z w128 c.weight_of_all.result) ≡ weight_of_all High (column_at table column) = omega (arith, ints) ∙ c.weight_of_all.ensures ∙ ap (weight_of_all c.args.end) is ∙ ap (λ e. weight_of_all e (column_at table column)) c.in-High.is in
    let digits = times_is c.times-digits.result (weight_of_digits (column_at table column)) sums.numbers _ (c.times-digits.ensures ∙ ap (λ z. wrapped (z *ℤ to_z w128 (of_z w128 sums.numbers))) digits_weigh) (omega (arith, ints)) are.numbers in
    let all = times_is c.times-all.result (weight_of_all High (column_at table column)) sums.all _ (c.times-all.ensures ∙ ap (λ z. wrapped (z *ℤ to_z w128 (of_z w128 sums.all))) all_weigh) (omega (arith, ints)) are.all in
    whole
    ∙ minus_is c.minus.result c.plus-in-High.result sums.clipped _ _ c.minus.ensures (omega (arith, ints)) (omega (arith, ints))
    (plus_is c.plus-in-High.result c.times-digits.result c.times-all.result _ _ c.plus-in-High.ensures (omega (arith, ints)) (omega (arith, ints)) digits all) (are.clipped (ap is_high c.in-High.is))
    ∙ ap wrapped (sym (kept_end table c.rows-rows.ensures.known mask are.rows column c.requires.column f High values))
    ∙ ap (λ e. wrapped (times_end table mask f e (Column column))) (sym c.in-High.is)
