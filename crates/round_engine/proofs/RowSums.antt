-- An item's pairs of the rows of a block, by the words of a filter, and what a sum keeps of them.
use Rattle.std.proofs.Common.{◌≡◌, ℕ, ◌+◌, ◌*◌, ◌<◌, min, not, ◌&&◌, List, [], ◌++◌, refl, sym, ap, ◌∙◌, arith}
use Rattle.std.proofs.lemmas.Int.{ints}
use Rattle.aggregates.specs.declared.tally.Tally.{Tally}
use Rattle.aggregates.specs.Tallies.{tally_of}
use Rattle.aggregates.proofs.BlockAdding.{parts_of}
use Rattle.kleene_filter.specs.Filters.{is_possible}
use Rattle.known_column.specs.Columns.{count_in_block}
use Rattle.known_column.specs.KnownTables.{KnownTable}
use Rattle.plane_kernels.specs.Rows.{digit_at}
use Rattle.query_model.specs.declared.query.ItemKind.{ItemKind}
use Rattle.query_model.specs.declared.query.ItemKind.TheVariants.{Count, Sum, Min, Max, Avg}
use Rattle.query_model.specs.declared.query.Shape.TheVariants.{Plain}
use Rattle.query_model.specs.Bounds.{Pair, pairs_below}
use Rattle.query_model.specs.Knowledge.{ranges_of}
use Rattle.query_model.specs.Queries.{Aggregate, Query}
use Rattle.query_model.specs.Truths.{may_be_null, may_be_number, null_of, span_of, truth_of}
use Rattle.query_model.specs.Validity.{IsSumKind}
use Rattle.row_values.specs.BlockSums.{HasBlocks, pair_if, row_pair, row_pairs}
use Rattle.round_engine.specs.Engines.{stage_of}
use Rattle.round_engine.specs.Totals.{pair_at}
use Rattle.round_engine.proofs.FilledBlocks.{AreFilterWords, given_alike}
use Rattle.round_engine.proofs.Masked.{pair_by_masks}
use Rattle.round_engine.proofs.RowPairs.{plain_pair}

module _ (query : Query) (item : Aggregate) (columns : KnownTable) (number may must : ℕ) (plain : query.shape ≡ Plain) (words : AreFilterWords query columns number may must) where
  row_told : (r : ℕ) → r < count_in_block number columns.frame.rows → row_pair item.arg columns number may must r ≡ pair_at (stage_of query columns) item (64 * number + r)
  row_told r below =
      let ranges = ranges_of columns.frame columns.known (64 * number + r) in
      let t = truth_of query.pred ranges in
      let n = null_of item.arg ranges in
      let span = span_of item.arg ranges in
      ap (λ b. pair_if (b && may_be_number n) (digit_at r must && not (may_be_null n)) span) (words.may_bit r below)
      ∙ ap (λ b. pair_if (is_possible t && may_be_number n) (b && not (may_be_null n)) span) (words.must_bit r below)
      ∙ sym (pair_by_masks t n span) ∙ sym (plain_pair query item ranges plain)

  -- the pairs of the rows below the next block are those of the rows before and those of the block
  pub pairs_with_rows : 64 * number < columns.frame.rows →
      pairs_below query item [] columns.frame columns.known (min (64 * number + 64) columns.frame.rows) ≡ pairs_below query item [] columns.frame columns.known (64 * number) ++ row_pairs item.arg columns number may must
  pairs_with_rows within =
      let count = count_in_block number columns.frame.rows in
      let give = pair_at (stage_of query columns) item in
      let end : min (64 * number + 64) columns.frame.rows ≡ 64 * number + count = omega (arith, within) in
      let alike = given_alike give (row_pair item.arg columns number may must) (64 * number) 0 count (λ r below. (let start : r ≡ 0 + r = omega arith in sym (row_told r below) ∙ ap (row_pair item.arg columns number may must) start)) in
      ap (pairs_below query item [] columns.frame columns.known) end ∙ parts_of give (64 * number) count ∙ ap (λ ps. pairs_below query item [] columns.frame columns.known (64 * number) ++ ps) alike

-- a sum that keeps no pair
pub no_blocks : (tally : Tally) → tally ≡ tally_of Sum [] → HasBlocks 0 tally
no_blocks tally is =
    let all = ap (λ (t : Tally). t.all) is in
    let certain = ap (λ (t : Tally). t.certain) is in
    let low = ap (λ (t : Tally). t.low_sum) is in
    let high = ap (λ (t : Tally). t.high_sum) is in
    record {
      all = omega (arith, all);
      certain = omega (arith, certain);
      low = omega (arith, ints, low);
      not_low = omega (arith, ints, low);
      high = omega (arith, ints, high);
      not_high = omega (arith, ints, high);
    }

-- the rows of so many blocks are not those of more
pub more_blocks : (blocks : ℕ) (tally : Tally) → HasBlocks blocks tally → HasBlocks (blocks + 1) tally
more_blocks blocks tally held =
    let all = held.all in
    let certain = held.certain in
    let low = held.low in
    let not_low = held.not_low in
    let high = held.high in
    let not_high = held.not_high in
    record {
      all = omega (arith, all);
      certain = omega (arith, certain);
      low = omega (arith, ints, low);
      not_low = omega (arith, ints, not_low);
      high = omega (arith, ints, high);
      not_high = omega (arith, ints, not_high);
    }

-- a sum and an average keep the same
pub sum_kept : (kind : ItemKind) (ps : List Pair) → IsSumKind kind → tally_of Sum ps ≡ tally_of kind ps
sum_kept Count ps summed = absurd summed
sum_kept Sum ps summed = refl
sum_kept Min ps summed = absurd summed
sum_kept Max ps summed = absurd summed
sum_kept Avg ps summed = refl
