use Rattle.std.proofs.Common.{◌≡◌, ◌+◌, ◌*◌, ◌*ℤ◌, pos, count_by, ap, sym, ◌∙◌, arith}
use Rattle.std.proofs.lemmas.Int.{ints}
use Rattle.known_column.specs.Columns.{KnownColumn}
use Rattle.known_column.specs.KnownTables.{column_at}
use Rattle.query_model.specs.Knowledge.{known_at}
use Rattle.product_sums.specs.KeptProducts.{first_number, whole_number}
use Rattle.product_sums.specs.Products.{sum_over}
use Rattle.product_sums.proofs.PairSums.{nothing}
use Rattle.product_sums.proofs.Residues.{wrapped}
use Rattle.product_sums.proofs.RowSums.{over_none}
use Rattle.product_sums.proofs.moved_sums.sums_in_block.Goals as goal

pub returns-then-count-eq0 : goal.returns-then-count-eq0
returns-then-count-eq0 c =
    let table = c.args.columns.now in
    let pair = c.args.pair in
    let block = c.args.block in
    let none : count_by (λ b. b) c.args.rows.now ≡ 0 = omega (arith, c.count.ensures, c.if-count-eq0.true) in
    record {
      first = omega (arith, ints) ∙ nothing ∙ ap wrapped (sym (over_none c.args.rows.now (λ i. whole_number table pair.first (512 * block + i)) none));
      second = omega (arith, ints) ∙ nothing ∙ ap wrapped (sym (over_none c.args.rows.now (λ i. whole_number table pair.second (512 * block + i)) none));
      both = omega (arith, ints) ∙ nothing ∙ ap wrapped (sym (over_none c.args.rows.now (λ i. whole_number table pair.first (512 * block + i) *ℤ whole_number table pair.second (512 * block + i)) none));
    }

pub returns : goal.returns
returns c =
    let table = c.args.columns.now in
    let pair = c.args.pair in
    let second : c.number_planes-second_read.result.1 ≡ (known_at table.known pair.second).read = c.number_planes-second_read.ensures.to ∙ ap (λ (k : KnownColumn). k.known.read) (c.column-2.ensures.column ∙ ap (column_at table) c.from-2.ensures) in
    record {
      first = omega (arith, ints) ∙ c.sum_numbers.ensures;
      second = omega (arith, ints) ∙ c.sum_first_digits.ensures ∙ ap (λ n. wrapped (sum_over c.args.rows.now (λ i. pos (first_number table pair.second n (512 * c.args.block + i))))) second;
      both = omega (arith, ints) ∙ c.sum_both.ensures;
    }
