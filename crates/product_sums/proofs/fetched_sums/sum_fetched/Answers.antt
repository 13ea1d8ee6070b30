use Rattle.std.proofs.Common.{◌≡◌, ◌-◌, ◌*◌, min, ◌*ℤ◌, ◌&&◌, [], length, map, take, drop, count_by, to_z, of_z, ap, sym, ◌∙◌, arith}
use Rattle.std.specs.Int.{w128}
use Rattle.std.specs.Simd.Lanes.{zip2}
use Rattle.std.proofs.lemmas.Int.{ints}
use Rattle.std.proofs.lemmas.List.{length-map}
use Rattle.known_column.specs.Columns.{is_at_top}
use Rattle.known_column.specs.KnownTables.{column_at}
use Rattle.product_sums.specs.ColumnEnds.{weight_of_all, weight_of_digits, weight_of_top}
use Rattle.product_sums.specs.Products.{product_at}
use Rattle.product_sums.proofs.DigitSums.{column_sum}
use Rattle.product_sums.proofs.Fetching.{bits_there, count_is}
use Rattle.product_sums.proofs.Residues.{minus_is, plus_is, times_is, wrapped}
use Rattle.product_sums.proofs.fetched_sums.sum_fetched.Goals as goal

pub returns : goal.returns
returns c =
    let table = c.args.columns.now in
    let column = c.args.fetched.now.column in
    let end = c.args.fetched.now.end in
    let known = column_at table column in
    let rows = c.args.rows.now in
    let block = c.args.block in
    let top = map (is_at_top known.ends known.known.read) known.known.prefixes in
    let is : c.column-known.result.now ≡ known = c.column-known.ensures.column ∙ ap (column_at table) c.from.ensures in
    let whole : to_z w128 (of_z w128 c.minus.result) ≡ c.minus.result = omega (arith, ints) in
    let digits_weigh : to_z w128 (of_z w128 c.weight_of_digits.result) ≡ weight_of_digits known = omega (arith, ints) ∙ c.weight_of_digits.ensures ∙ ap weight_of_digits is in
    let all_weigh : to_z w128 (of_z w128 c.weight_of_all.result) ≡ weight_of_all end known = omega (arith, ints) ∙ c.weight_of_all.ensures ∙ ap (weight_of_all end) is in
    let top_weighs : to_z w128 (of_z w128 c.weight_of_top.result) ≡ weight_of_top end known = omega (arith, ints) ∙ c.weight_of_top.ensures ∙ ap (weight_of_top end) is in
    let long : length top ≡ table.frame.rows = length-map known.known.prefixes (is_at_top known.ends known.known.read) ∙ c.requires.rows.known.knowledge.rows column c.requires.column in
    let bits = bits_there top rows block c.args.fetched.now.tops c.requires.fetched.tops (c.requires.rows.count ∙ ap (λ n. min 512 (n - 512 * block)) (sym long)) in
    let digits = times_is c.times-digits.result (weight_of_digits known) c.sum_fetched_digits.result _
    (c.times-digits.ensures ∙ ap (λ z. wrapped (z *ℤ to_z w128 (of_z w128 c.sum_fetched_digits.result))) digits_weigh) (omega (arith, ints)) c.sum_fetched_digits.ensures in
    let all = times_is c.times-all.result (weight_of_all end known) c.from-2.result _
    (c.times-all.ensures ∙ ap (λ z. wrapped (z *ℤ to_z w128 (of_z w128 c.from-2.result))) all_weigh) (omega (arith, ints))
    (count_is table block rows c.count.result c.from-2.result c.from-2.ensures c.count.ensures (omega (arith, c.count.type_inv))) in
    let less = times_is c.times-less.result (weight_of_top end known) c.from-tops.result _
    (c.times-less.ensures ∙ ap (λ z. wrapped (z *ℤ to_z w128 (of_z w128 c.from-tops.result))) top_weighs) (omega (arith, ints))
    (count_is table block (zip2 (λ a b. a && b) rows (take 512 (drop (512 * block) top))) c.count_words.result c.from-tops.result c.from-tops.ensures (c.count_words.ensures ∙ ap (count_by (λ b. b)) bits.1) (omega (arith, c.count_words.type_inv))) in
    whole
    ∙ minus_is c.minus.result c.plus.result c.times-less.result _ _ c.minus.ensures (omega (arith, ints)) (omega (arith, ints))
    (plus_is c.plus.result c.times-digits.result c.times-all.result _ _ c.plus.ensures (omega (arith, ints)) (omega (arith, ints)) digits all) less
    ∙ ap wrapped (sym (column_sum table block rows (product_at table []) c.requires.rows column c.requires.column end c.requires.values))
