use Rattle.std.proofs.Common.{◌≡◌, ◌&&◌, ℕ, ℤ, pos, ◌*ℤ◌, FitsSigned, length, to_z, of_z, ap, sym, ◌∙◌, arith}
use Rattle.std.specs.Int.{w128}
use Rattle.std.specs.Simd.Lanes.{zip2}
use Rattle.std.proofs.Math.IntN.{zero-*ℤ}
use Rattle.std.proofs.lemmas.Int.{ints, int_wrap_fits}
use Rattle.std.proofs.lemmas.List.{length-map}
use Rattle.std.proofs.lemmas.Simd.{length-zip2}
use Rattle.aggregates.specs.declared.ends.End.TheVariants.{High}
use Rattle.known_column.specs.Columns.{is_at_top, rows_where}
use Rattle.known_column.specs.KnownTables.{column_at}
use Rattle.query_model.specs.Knowledge.{known_at}
use Rattle.product_sums.specs.ColumnEnds.{weight_of_top}
use Rattle.product_sums.specs.KeptProducts.{first_number}
use Rattle.product_sums.specs.Products.{sum_over}
use Rattle.product_sums.proofs.EvenMasks.{among_all}
use Rattle.product_sums.proofs.PairSums.{nothing}
use Rattle.product_sums.proofs.Residues.{times_is, wrapped}
use Rattle.product_sums.proofs.RowSums.{over_ones}
use Rattle.product_sums.proofs.pair_ends.PairRows.clip.Goals as goal

pub returns-then-weight-eq0 : goal.returns-then-weight-eq0
returns-then-weight-eq0 c =
    let table = c.args.columns.now in
    let pair = c.args.self.now.pair in
    let second = column_at table pair.second in
    let rows = c.args.self.now.rows.now in
    let is : c.column-known.result.now ≡ second = c.column-known.ensures.column ∙ ap (column_at table) c.from.ensures in
    let none : weight_of_top High second ≡ pos 0 = sym (c.weight_of_top-weight.ensures ∙ ap (weight_of_top High) is) ∙ omega (arith, ints, c.if-weight-eq0.true) in
    let empty : (f : ℕ → ℤ) → pos 0 ≡ wrapped (weight_of_top High second *ℤ sum_over (zip2 (λ a b. a && b) rows (rows_where is_at_top second)) f) =
    λ f. nothing ∙ ap wrapped (sym (zero-*ℤ (sum_over (zip2 (λ a b. a && b) rows (rows_where is_at_top second)) f))) ∙ ap (λ z. wrapped (z *ℤ sum_over (zip2 (λ a b. a && b) rows (rows_where is_at_top second)) f)) (sym none) in
    record { rows = empty (λ r. pos 1); numbers = empty (λ r. pos (first_number table pair.first (known_at table.known pair.first).read r)) }

pub returns-then-has_all_rows : goal.returns-then-has_all_rows
returns-then-has_all_rows c =
    let table = c.args.columns.now in
    let pair = c.args.self.now.pair in
    let sums = c.args.self.now.sums in
    let second = column_at table pair.second in
    let rows = c.args.self.now.rows.now in
    let f : ℕ → ℤ = λ r. pos (first_number table pair.first (known_at table.known pair.first).read r) in
    let tops = c.at_top.result.now in
    let is : c.column-known.result.now ≡ second = c.column-known.ensures.column ∙ ap (column_at table) c.from.ensures in
    let weighs : to_z w128 (of_z w128 c.weight_of_top-weight.result) ≡ weight_of_top High second = omega (arith, ints) ∙ c.weight_of_top-weight.ensures ∙ ap (weight_of_top High) is in
    let long : length tops ≡ length rows = ap length c.at_top.ensures ∙ length-map _ _ ∙ c.column-known.ensures.rows ∙ sym c.requires.sums.sums_are.rows in
    let all : rows ≡ zip2 (λ a b. a && b) rows (rows_where is_at_top second) =
    sym (among_all rows tops long (c.has_all_rows.ensures c.if-has_all_rows.true)) ∙ ap (zip2 (λ a b. a && b) rows) (c.at_top.ensures ∙ ap (rows_where is_at_top) is) in
    let small : FitsSigned w128 (pos c.count.result) = record { sfits = omega (arith, c.count.type_inv) } in
    let counted : c.from-then-has_all_rows.result ≡ wrapped (sum_over rows (λ r. pos 1)) = c.from-then-has_all_rows.ensures ∙ sym (int_wrap_fits w128 (pos c.count.result) small) ∙ ap (λ n. wrapped (pos n)) c.count.ensures ∙ ap wrapped (sym (over_ones rows)) in
    let numbers = c.requires.sums.sums_are.first ∙ ap (λ n. wrapped (sum_over rows (λ r. pos (first_number table pair.first n r)))) c.requires.sums.all_first in
    record {
      rows = omega (arith, ints)
          ∙ times_is c.times.result (weight_of_top High second) c.from-then-has_all_rows.result _ (c.times.ensures ∙ ap (λ z. wrapped (z *ℤ to_z w128 (of_z w128 c.from-then-has_all_rows.result))) weighs) (omega (arith, ints))
          (counted ∙ ap (λ m. wrapped (sum_over m (λ r. pos 1))) all);
      numbers = omega (arith, ints)
          ∙ times_is c.times-then-has_all_rows.result (weight_of_top High second) sums.first _ (c.times-then-has_all_rows.ensures ∙ ap (λ z. wrapped (z *ℤ to_z w128 (of_z w128 sums.first))) weighs) (omega (arith, ints))
          (numbers ∙ ap (λ m. wrapped (sum_over m f)) all);
    }

pub within-tops-requires : goal.within-tops-requires
within-tops-requires c = ap length c.at_top-2.ensures ∙ length-map _ _ ∙ c.column-known.ensures.rows ∙ sym c.requires.sums.sums_are.rows

pub sum_first-less-requires-clause-rows : goal.sum_first-less-requires-clause-rows
sum_first-less-requires-clause-rows c =
    let rows = c.args.self.now.rows.now in
    let tops = c.at_top-2.result.now in
    let long : length tops ≡ length rows = ap length c.at_top-2.ensures ∙ length-map _ _ ∙ c.column-known.ensures.rows ∙ sym c.requires.sums.sums_are.rows in
    ap length c.within-tops.ensures ∙ length-zip2 (λ a b. a && b) rows tops (sym long) ∙ c.requires.sums.sums_are.rows

pub returns : goal.returns
returns c =
    let table = c.args.columns.now in
    let pair = c.args.self.now.pair in
    let second = column_at table pair.second in
    let rows = c.args.self.now.rows.now in
    let is : c.column-known.result.now ≡ second = c.column-known.ensures.column ∙ ap (column_at table) c.from.ensures in
    let weighs : to_z w128 (of_z w128 c.weight_of_top-weight.result) ≡ weight_of_top High second = omega (arith, ints) ∙ c.weight_of_top-weight.ensures ∙ ap (weight_of_top High) is in
    let some = c.within-tops.ensures ∙ ap (zip2 (λ a b. a && b) rows) (c.at_top-2.ensures ∙ ap (rows_where is_at_top) is) in
    record {
      rows = omega (arith, ints)
          ∙ times_is c.times-2.result (weight_of_top High second) c.sum_first-less.result.rows _ (c.times-2.ensures ∙ ap (λ z. wrapped (z *ℤ to_z w128 (of_z w128 c.sum_first-less.result.rows))) weighs) (omega (arith, ints))
          (c.sum_first-less.ensures.rows ∙ ap (λ m. wrapped (sum_over m (λ r. pos 1))) some);
      numbers = omega (arith, ints)
          ∙ times_is c.times-3.result (weight_of_top High second) c.sum_first-less.result.numbers _ (c.times-3.ensures ∙ ap (λ z. wrapped (z *ℤ to_z w128 (of_z w128 c.sum_first-less.result.numbers))) weighs) (omega (arith, ints))
          (c.sum_first-less.ensures.numbers ∙ ap (λ m. wrapped (sum_over m (λ r. pos (first_number table pair.first c.args.self.now.sums.first_read r)))) some
          ∙ ap (λ n. wrapped (sum_over (zip2 (λ a b. a && b) rows (rows_where is_at_top second)) (λ r. pos (first_number table pair.first n r)))) c.requires.sums.all_first);
    }
