use Rattle.std.proofs.Common.{◌≡◌, ◌&&◌, pos, length, ap, sym, ◌∙◌, arith}
use Rattle.std.specs.Simd.Lanes.{zip2}
use Rattle.std.proofs.lemmas.Int.{ints}
use Rattle.std.proofs.lemmas.Simd.{length-zip2}
use Rattle.known_column.specs.Columns.{KnownColumn}
use Rattle.known_column.specs.KnownTables.{column_at}
use Rattle.product_sums.specs.Fetched.{ones_of}
use Rattle.product_sums.specs.KeptProducts.{first_number}
use Rattle.product_sums.specs.Products.{sum_over}
use Rattle.product_sums.proofs.KeptProducts.{length-ones}
use Rattle.product_sums.proofs.PairSums.{both_next, first_next}
use Rattle.product_sums.proofs.Residues.{wrapped}
use Rattle.product_sums.proofs.pair_sums.read_plane.Goals as goal

pub with-ones-requires : goal.with-ones-requires
with-ones-requires c =
    let table = c.args.columns.now in
    let j = c.args.sums.first_read in
    let is : c.column-known.result.now ≡ column_at table c.args.pair.first = c.column-known.ensures.column ∙ ap (column_at table) c.from.ensures in
    let ones : c.plane.result.now ≡ ones_of (column_at table c.args.pair.first) j = c.plane.ensures ∙ ap (λ (k : KnownColumn). ones_of k j) is in
    ap length ones ∙ length-ones table c.rows-rows.ensures.known c.args.pair.first c.requires.pair.first j ∙ sym c.requires.sums.rows

pub sum_first-more-requires-clause-rows : goal.sum_first-more-requires-clause-rows
sum_first-more-requires-clause-rows c =
    let table = c.args.columns.now in
    let j = c.args.sums.first_read in
    let is : c.column-known.result.now ≡ column_at table c.args.pair.first = c.column-known.ensures.column ∙ ap (column_at table) c.from.ensures in
    let ones : c.plane.result.now ≡ ones_of (column_at table c.args.pair.first) j = c.plane.ensures ∙ ap (λ (k : KnownColumn). ones_of k j) is in
    let long : length c.plane.result.now ≡ table.frame.rows = ap length ones ∙ length-ones table c.rows-rows.ensures.known c.args.pair.first c.requires.pair.first j in
    ap length c.with-ones.ensures ∙ length-zip2 (λ a b. a && b) c.args.rows.now c.plane.result.now (c.requires.sums.rows ∙ sym long) ∙ c.requires.sums.rows

pub returns-clause-sums : goal.returns-clause-sums
returns-clause-sums c =
    let table = c.args.columns.now in
    let sums = c.args.sums in
    let mask = c.args.rows.now in
    let j = sums.first_read in
    let known = c.rows-rows.ensures.known in
    let is : c.column-known.result.now ≡ column_at table c.args.pair.first = c.column-known.ensures.column ∙ ap (column_at table) c.from.ensures in
    let ones : c.plane.result.now ≡ ones_of (column_at table c.args.pair.first) j = c.plane.ensures ∙ ap (λ (k : KnownColumn). ones_of k j) is in
    let some = c.with-ones.ensures ∙ ap (zip2 (λ a b. a && b) mask) ones in
    let counted = c.sum_first-more.ensures.rows ∙ ap (λ m. wrapped (sum_over m (λ r. pos 1))) some in
    let others = c.sum_first-more.ensures.numbers ∙ ap (λ m. wrapped (sum_over m (λ r. pos (first_number table c.args.pair.second sums.second_read r)))) some in
    record {
      rows = c.requires.sums.rows;
      first_read = omega (arith, c.requires.unread);
      second_read = c.requires.sums.second_read;
      first = omega (arith, ints) ∙ c.doubled.ensures _ _ (omega (arith, ints) ∙ c.requires.sums.first) (omega (arith, ints) ∙ counted) ∙ ap wrapped (sym (first_next table mask c.args.pair known c.requires.pair c.requires.sums.rows j c.requires.digit c.requires.unread));
      second = omega (arith, ints) ∙ c.requires.sums.second;
      both = omega (arith, ints) ∙ c.doubled-2.ensures _ _ (omega (arith, ints) ∙ c.requires.sums.both) (omega (arith, ints) ∙ others) ∙ ap wrapped (sym (both_next table mask c.args.pair known c.requires.pair c.requires.sums.rows j sums.second_read c.requires.digit c.requires.unread));
    }
