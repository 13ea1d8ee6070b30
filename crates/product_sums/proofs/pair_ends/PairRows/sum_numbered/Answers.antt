use Rattle.std.proofs.Common.{◌≡◌, ℕ, ℤ, pos, ◌*ℤ◌, to_z, of_z, ap, ◌∙◌, arith}
use Rattle.std.specs.Int.{w128}
use Rattle.std.proofs.lemmas.Int.{ints}
use Rattle.query_model.specs.Knowledge.{known_at}
use Rattle.product_sums.specs.KeptProducts.{factor_end, first_number}
use Rattle.product_sums.specs.Products.{sum_over}
use Rattle.product_sums.proofs.Distributing.{swapped}
use Rattle.product_sums.proofs.Residues.{wrapped}
use Rattle.product_sums.proofs.RowSums.{over_same}
use Rattle.product_sums.proofs.pair_ends.PairRows.sum_numbered.Goals as goal

pub returns : goal.returns
returns c =
    let table = c.args.columns.now in
    let mask = c.args.self.now.rows.now in
    let pair = c.args.self.now.pair in
    let first : ℕ → ℕ → ℤ = λ n r. pos (first_number table pair.first n r) in
    let second : ℕ → ℕ → ℤ = λ n r. pos (first_number table pair.second n r) in
    let reads : ℕ = (known_at table.known pair.first).read in
    let others : ℕ = (known_at table.known pair.second).read in
    let sums = c.requires.sums in
    let whole : to_z w128 (of_z w128 c.sum_linear.result) ≡ c.sum_linear.result = omega (arith, ints) in
    let all = sums.sums_are.first ∙ ap (λ n. wrapped (sum_over mask (first n))) sums.all_first in
    let numbers = sums.sums_are.both ∙ ap (λ n. wrapped (sum_over mask (λ r. first n r *ℤ second c.args.self.now.sums.second_read r))) sums.all_first
    ∙ ap (λ n. wrapped (sum_over mask (λ r. first reads r *ℤ second n r))) sums.all_second
    ∙ ap wrapped (over_same mask (λ r. first reads r *ℤ second others r) (λ r. second others r *ℤ first reads r) (λ r has. swapped (first reads r) (second others r))) in
    let told = c.sum_linear.ensures mask (first reads) (record { rows = sums.sums_are.rows; all = omega (arith, ints) ∙ all; numbers = omega (arith, ints) ∙ numbers; clipped = λ wanted. omega (arith, ints) ∙ (c.requires.clipped wanted).numbers }) c.requires.values in
    whole ∙ told ∙ ap wrapped (over_same mask (λ r. factor_end table c.args.other r *ℤ first reads r) (λ r. first reads r *ℤ factor_end table c.args.other r) (λ r has. swapped (factor_end table c.args.other r) (first reads r)))
