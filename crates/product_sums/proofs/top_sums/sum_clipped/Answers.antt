use Rattle.std.proofs.Common.{◌≡◌, ◌&&◌, ℕ, ℤ, pos, ◌*ℤ◌, FitsSigned, length, to_z, of_z, ap, sym, subst, ◌∙◌, arith}
use Rattle.std.specs.Int.{w128}
use Rattle.std.specs.Simd.Lanes.{zip2}
use Rattle.std.proofs.Math.IntN.{zero-*ℤ}
use Rattle.std.proofs.lemmas.Int.{ints, int_wrap_fits}
use Rattle.std.proofs.lemmas.List.{length-map}
use Rattle.std.proofs.lemmas.Simd.{length-zip2}
use Rattle.known_column.specs.Columns.{is_at_top, rows_where}
use Rattle.known_column.specs.KnownTables.{column_at}
use Rattle.query_model.specs.Queries.{term_of}
use Rattle.product_sums.specs.ColumnEnds.{weight_of_top}
use Rattle.product_sums.specs.KeptProducts.{factor_end}
use Rattle.product_sums.specs.Products.{HasValues, sum_over}
use Rattle.product_sums.proofs.EvenMasks.{among_all}
use Rattle.product_sums.proofs.KeptProducts.{values_among}
use Rattle.product_sums.proofs.Residues.{times_is, wrapped}
use Rattle.product_sums.proofs.top_sums.sum_clipped.Goals as goal

pub returns-then-weight-eq0 : goal.returns-then-weight-eq0
returns-then-weight-eq0 c =
    let table = c.args.columns.now in
    let is : c.column-known.result.now ≡ column_at table c.args.column = c.column-known.ensures.column ∙ ap (column_at table) c.from.ensures in
    let none : weight_of_top c.args.parts.column (column_at table c.args.column) ≡ pos 0 = sym (c.weight_of_top-weight.ensures ∙ ap (weight_of_top c.args.parts.column) is) ∙ omega (arith, ints, c.if-weight-eq0.true) in
    let fits : FitsSigned w128 (pos 0) = record { sfits = omega arith } in
    let sum = sum_over (zip2 (λ a b. a && b) c.args.rows.now (rows_where is_at_top (column_at table c.args.column))) (factor_end table c.args.parts.other) in
    sym (ap (λ z. wrapped (z *ℤ sum)) none ∙ ap wrapped (zero-*ℤ sum) ∙ int_wrap_fits w128 (pos 0) fits)

pub returns-then-has_all_rows : goal.returns-then-has_all_rows
returns-then-has_all_rows c =
    let table = c.args.columns.now in
    let rows = c.args.rows.now in
    let e = c.args.parts.column in
    let f : ℕ → ℤ = factor_end table c.args.parts.other in
    let tops = c.at_top.result.now in
    let is : c.column-known.result.now ≡ column_at table c.args.column = c.column-known.ensures.column ∙ ap (column_at table) c.from.ensures in
    let whole : to_z w128 (of_z w128 c.times.result) ≡ c.times.result = omega (arith, ints) in
    let weighs : to_z w128 (of_z w128 c.weight_of_top-weight.result) ≡ weight_of_top e (column_at table c.args.column) = omega (arith, ints) ∙ c.weight_of_top-weight.ensures ∙ ap (weight_of_top e) is in
    let long : length tops ≡ length rows = ap length c.at_top.ensures ∙ length-map _ _ ∙ c.column-known.ensures.rows ∙ sym c.requires.follow.rows in
    let all : rows ≡ zip2 (λ a b. a && b) rows (rows_where is_at_top (column_at table c.args.column)) =
    sym (among_all rows tops long (c.has_all_rows.ensures c.if-has_all_rows.true)) ∙ ap (zip2 (λ a b. a && b) rows) (c.at_top.ensures ∙ ap (rows_where is_at_top) is) in
    whole
    ∙ times_is c.times.result (weight_of_top e (column_at table c.args.column)) c.args.whole _ (c.times.ensures ∙ ap (λ z. wrapped (z *ℤ to_z w128 (of_z w128 c.args.whole))) weighs) (omega (arith, ints))
    (c.requires.whole ∙ ap (λ m. wrapped (sum_over m f)) all)

pub within-tops-requires : goal.within-tops-requires
within-tops-requires c = ap length c.at_top-2.ensures ∙ length-map _ _ ∙ c.column-known.ensures.rows ∙ sym c.requires.follow.rows

pub sum_wrapped-requires-clause-rows : goal.sum_wrapped-requires-clause-rows
sum_wrapped-requires-clause-rows c =
    let tops = c.at_top-2.result.now in
    let long : length tops ≡ length c.args.rows.now = ap length c.at_top-2.ensures ∙ length-map _ _ ∙ c.column-known.ensures.rows ∙ sym c.requires.follow.rows in
    ap length c.within-tops.ensures ∙ length-zip2 (λ a b. a && b) c.args.rows.now tops (sym long) ∙ c.requires.follow.rows

pub sum_wrapped-requires-clause-values : goal.sum_wrapped-requires-clause-values
sum_wrapped-requires-clause-values c =
    let table = c.args.columns.now in
    let tops = c.at_top-2.result.now in
    let long : length tops ≡ length c.args.rows.now = ap length c.at_top-2.ensures ∙ length-map _ _ ∙ c.column-known.ensures.rows ∙ sym c.requires.follow.rows in
    subst (HasValues table (term_of c.args.parts.other.term.now)) (sym c.within-tops.ensures) (values_among table (term_of c.args.parts.other.term.now) c.args.rows.now tops long c.requires.follow.values)

pub returns : goal.returns
returns c =
    let table = c.args.columns.now in
    let rows = c.args.rows.now in
    let e = c.args.parts.column in
    let f : ℕ → ℤ = factor_end table c.args.parts.other in
    let is : c.column-known.result.now ≡ column_at table c.args.column = c.column-known.ensures.column ∙ ap (column_at table) c.from.ensures in
    let whole : to_z w128 (of_z w128 c.times-2.result) ≡ c.times-2.result = omega (arith, ints) in
    let weighs : to_z w128 (of_z w128 c.weight_of_top-weight.result) ≡ weight_of_top e (column_at table c.args.column) = omega (arith, ints) ∙ c.weight_of_top-weight.ensures ∙ ap (weight_of_top e) is in
    let some = c.within-tops.ensures ∙ ap (zip2 (λ a b. a && b) rows) (c.at_top-2.ensures ∙ ap (rows_where is_at_top) is) in
    whole
    ∙ times_is c.times-2.result (weight_of_top e (column_at table c.args.column)) c.sum_wrapped.result _ (c.times-2.ensures ∙ ap (λ z. wrapped (z *ℤ to_z w128 (of_z w128 c.sum_wrapped.result))) weighs) (omega (arith, ints))
    (c.sum_wrapped.ensures ∙ ap (λ m. wrapped (sum_over m f)) some)
