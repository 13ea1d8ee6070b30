use Rattle.std.proofs.Common.{◌≡◌, ℕ, pos, ◌*ℤ◌, FitsSigned, to_z, of_z, ap, sym, ◌∙◌, arith}
use Rattle.std.specs.Int.{w128}
use Rattle.std.proofs.lemmas.Int.{ints, int_wrap_fits}
use Rattle.query_model.specs.Knowledge.{known_at}
use Rattle.product_sums.specs.KeptProducts.{factor_end, first_number}
use Rattle.product_sums.specs.Products.{sum_over}
use Rattle.product_sums.proofs.PairSums.{alone}
use Rattle.product_sums.proofs.Residues.{wrapped}
use Rattle.product_sums.proofs.RowSums.{over_ones, over_same}
use Rattle.product_sums.proofs.pair_ends.PairRows.sum_alone.Goals as goal

pub returns : goal.returns
returns c =
    let table = c.args.columns.now in
    let mask = c.args.self.now.rows.now in
    let second = c.args.self.now.pair.second in
    let reads : ℕ = (known_at table.known second).read in
    let sums = c.requires.sums in
    let whole : to_z w128 (of_z w128 c.sum_linear.result) ≡ c.sum_linear.result = omega (arith, ints) in
    let small : FitsSigned w128 (pos c.count.result) = record { sfits = omega (arith, c.count.type_inv) } in
    let counted : c.from.result ≡ wrapped (sum_over mask (λ r. pos 1)) = c.from.ensures ∙ sym (int_wrap_fits w128 (pos c.count.result) small) ∙ ap (λ n. wrapped (pos n)) c.count.ensures ∙ ap wrapped (sym (over_ones mask)) in
    let numbers = sums.sums_are.second ∙ ap (λ n. wrapped (sum_over mask (λ r. pos (first_number table second n r)))) sums.all_second
    ∙ ap wrapped (over_same mask (λ r. pos (first_number table second reads r)) (λ r. pos (first_number table second reads r) *ℤ pos 1) (λ r has. sym (alone (pos (first_number table second reads r))))) in
    let told = c.sum_linear.ensures mask (λ r. pos 1) (record { rows = sums.sums_are.rows; all = omega (arith, ints) ∙ counted; numbers = omega (arith, ints) ∙ numbers; clipped = λ wanted. omega (arith, ints) ∙ (c.requires.clipped wanted).rows }) c.requires.values in
    whole ∙ told ∙ ap wrapped (over_same mask (λ r. factor_end table c.args.other r *ℤ pos 1) (factor_end table c.args.other) (λ r has. alone (factor_end table c.args.other r)))
