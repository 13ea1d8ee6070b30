use Rattle.std.proofs.Common.{◌≡◌, ◌+◌, ◌*◌, ◌*ℤ◌, pos, FitsSigned, IfSome, count_by, to_z, of_z, ap, sym, subst, ◌∙◌, arith}
use Rattle.std.specs.Int.{w128}
use Rattle.std.proofs.lemmas.Int.{ints, int_wrap_fits}
use Rattle.aggregates.specs.ExtremeRows.{number_at}
use Rattle.known_column.specs.KnownTables.{column_at}
use Rattle.product_sums.specs.Fetched.{IsFetchedColumn}
use Rattle.product_sums.specs.KeptProducts.{whole_number}
use Rattle.product_sums.specs.Products.{sum_over}
use Rattle.product_sums.proofs.FirstNumbers.{once_whole}
use Rattle.product_sums.proofs.Residues.{wrapped}
use Rattle.product_sums.proofs.RowSums.{over_none}
use Rattle.product_sums.proofs.moved_sums.sum_numbers.Goals as goal

pub returns-then-count-eq0 : goal.returns-then-count-eq0
returns-then-count-eq0 c =
    let fits : FitsSigned w128 (pos 0) = record { sfits = omega arith } in
    let none : count_by (λ b. b) c.args.rows.now ≡ 0 = omega (arith, c.count.ensures, c.if-count-eq0.true) in
    sym (int_wrap_fits w128 (pos 0) fits) ∙ ap wrapped (sym (over_none c.args.rows.now (λ i. whole_number c.args.columns.now c.args.column (512 * c.args.block + i)) none))

pub returns-in-Some : goal.returns-in-Some
returns-in-Some c =
    let table = c.args.columns.now in
    let block = c.args.block in
    let rows = c.args.rows.now in
    let is = subst (λ o. IfSome o (λ words. IsFetchedColumn table c.args.column block words c.args.room.now.planes)) c.in-Some.is c.requires.fetched in
    let whole : to_z w128 (of_z w128 c.sum_fetched_digits.result) ≡ c.sum_fetched_digits.result = omega (arith, ints) in
    whole ∙ c.sum_fetched_digits.ensures ∙ ap (λ n. wrapped (sum_over rows (λ i. pos (number_at (column_at table n) (512 * block + i)) *ℤ pos 1))) is.column
    ∙ ap wrapped (once_whole table rows c.args.column (512 * block))
