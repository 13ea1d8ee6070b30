-- Sums over a mask's rows that become those over another's, block by block.
use Rattle.std.proofs.Common.{◌≡◌, ℕ, ◌+◌, ◌-◌, ◌*◌, ◌<◌, ◌≤◌, min, ℤ, pos, ◌+ℤ◌, ◌-ℤ◌, ◌*ℤ◌, Bool, ◌&&◌, not, List, [], length, take, ap, sym, ◌∙◌, arith}
use Rattle.std.specs.Simd.Lanes.{zip2}
use Rattle.std.proofs.lemmas.Int.{ints}
use Rattle.std.proofs.lemmas.Simd.{length-zip2}
use Rattle.daq_table.specs.Tables.{ends_at}
use Rattle.aggregates.specs.Selections.{block_of}
use Rattle.aggregates.proofs.NumberRows.{first_plane}
use Rattle.known_column.specs.KnownTables.{IsKnownTable, KnownTable, column_at}
use Rattle.query_model.specs.Knowledge.{known_at}
use Rattle.product_sums.specs.declared.pair_sums.Pair.{Pair}
use Rattle.product_sums.specs.declared.pair_sums.PairSums.{PairSums}
use Rattle.product_sums.specs.KeptProducts.{AreReadOn, IsPair, first_number, whole_number}
use Rattle.product_sums.specs.Fetched.{first_digit}
use Rattle.product_sums.specs.Products.{CanMultiply, sum_over}
use Rattle.product_sums.proofs.DigitSums.{long_block}
use Rattle.product_sums.proofs.MaskSums.{next_block, whole_mask}
use Rattle.product_sums.proofs.KeptProducts.{kept_first}
use Rattle.product_sums.proofs.PairSums.{once, over_moved}
use Rattle.product_sums.proofs.Residues.{wrapped}

-- rows of a block that one mask has there and another has not
abbrev pub beside : List Bool → List Bool → List Bool
beside rows others = zip2 (λ a b. a && not b) rows others

-- the rows of one mask before a block, and those of another from there on
abbrev pub moved_below : List Bool → List Bool → ℕ → (ℕ → ℤ) → ℤ
moved_below old new block f = (sum_over (take (512 * block) new) f +ℤ sum_over old f) -ℤ sum_over (take (512 * block) old) f

pub moved_none : (old new : List Bool) (f : ℕ → ℤ) → moved_below old new 0 f ≡ sum_over old f
moved_none old new f = omega (arith, ints)

pub moved_more : (old new : List Bool) (block : ℕ) (f : ℕ → ℤ) → length new ≡ length old → 512 * block ≤ length old →
    (moved_below old new block f +ℤ sum_over (beside (block_of block new) (block_of block old)) (λ i. f (512 * block + i)))
    -ℤ sum_over (beside (block_of block old) (block_of block new)) (λ i. f (512 * block + i))
    ≡ moved_below old new (block + 1) f
moved_more old new block f same within =
    let g : ℕ → ℤ = λ i. f (512 * block + i) in
    let after = next_block new f block (omega (arith, same, within)) in
    let before = next_block old f block within in
    let moved = over_moved (block_of block old) (block_of block new) g (long_block new block (length new) (omega arith) ∙ ap (λ n. min 512 (n - 512 * block)) same ∙ sym (long_block old block (length old) (omega arith))) in
    omega (arith, ints, after, before, moved)

pub moved_all : (old new : List Bool) (block : ℕ) (f : ℕ → ℤ) → length new ≡ length old → length new ≤ 512 * block → moved_below old new block f ≡ sum_over new f
moved_all old new block f same past =
    let after = whole_mask new f block past in
    let before = whole_mask old f block (omega (arith, same, past)) in
    omega (arith, ints, after, before)

module _ (table : KnownTable) where
  -- rows of a block can be counted
  pub can_move : IsKnownTable table → (old new : List Bool) (block : ℕ) → length old ≡ table.frame.rows → length new ≡ table.frame.rows → 512 * block < table.frame.rows →
      CanMultiply table block (beside (block_of block old) (block_of block new)) []
  can_move known old new block long_old long_new within = record {
    known = known;
    within = within;
    count = length-zip2 (λ a b. a && not b) (block_of block old) (block_of block new) (long_block old block table.frame.rows long_old ∙ sym (long_block new block table.frame.rows long_new)) ∙ long_block old block table.frame.rows long_old;
    factors_are = tt;
    few_factors = omega arith;
    values = λ i has. tt;
  }

  -- sums that are moved below a block
  pub record AreMoved (old new : List Bool) (block : ℕ) (pair : Pair) (sums : PairSums) : Type 0 where
    pub first_read : sums.first_read ≡ (known_at table.known pair.first).read
    pub second_read : sums.second_read ≡ (known_at table.known pair.second).read
    pub first : sums.first ≡ wrapped (moved_below old new block (whole_number table pair.first))
    pub second : sums.second ≡ wrapped (moved_below old new block (whole_number table pair.second))
    pub both : sums.both ≡ wrapped (moved_below old new block (λ r. whole_number table pair.first r *ℤ whole_number table pair.second r))

  pub moved_begun : (old new : List Bool) (pair : Pair) (sums : PairSums) → AreReadOn table old pair sums → AreMoved old new 0 pair sums
  moved_begun old new pair sums are =
      let f : ℕ → ℤ = whole_number table pair.first in
      let g : ℕ → ℤ = whole_number table pair.second in
      record {
        first_read = are.all_first;
        second_read = are.all_second;
        first = are.sums_are.first ∙ ap (λ n. wrapped (sum_over old (λ r. pos (first_number table pair.first n r)))) are.all_first ∙ ap wrapped (sym (moved_none old new f));
        second = are.sums_are.second ∙ ap (λ n. wrapped (sum_over old (λ r. pos (first_number table pair.second n r)))) are.all_second ∙ ap wrapped (sym (moved_none old new g));
        both = are.sums_are.both
            ∙ ap (λ n. wrapped (sum_over old (λ r. pos (first_number table pair.first n r) *ℤ pos (first_number table pair.second sums.second_read r)))) are.all_first
            ∙ ap (λ n. wrapped (sum_over old (λ r. f r *ℤ pos (first_number table pair.second n r)))) are.all_second
            ∙ ap wrapped (sym (moved_none old new (λ r. f r *ℤ g r)));
      }

  pub moved_done : (old new : List Bool) (block : ℕ) (pair : Pair) (sums : PairSums) → length old ≡ table.frame.rows → length new ≡ table.frame.rows → length new ≤ 512 * block →
      AreMoved old new block pair sums → AreReadOn table new pair sums
  moved_done old new block pair sums long_old long_new past are =
      let f : ℕ → ℤ = whole_number table pair.first in
      let g : ℕ → ℤ = whole_number table pair.second in
      let same : length new ≡ length old = long_new ∙ sym long_old in
      record {
        sums_are = record {
          rows = long_new;
          first_read = omega (arith, are.first_read);
          second_read = omega (arith, are.second_read);
          first = are.first ∙ ap wrapped (moved_all old new block f same past) ∙ ap (λ n. wrapped (sum_over new (λ r. pos (first_number table pair.first n r)))) (sym are.first_read);
          second = are.second ∙ ap wrapped (moved_all old new block g same past) ∙ ap (λ n. wrapped (sum_over new (λ r. pos (first_number table pair.second n r)))) (sym are.second_read);
          both = are.both ∙ ap wrapped (moved_all old new block (λ r. f r *ℤ g r) same past)
              ∙ ap (λ n. wrapped (sum_over new (λ r. f r *ℤ pos (first_number table pair.second n r)))) (sym are.second_read)
              ∙ ap (λ n. wrapped (sum_over new (λ r. pos (first_number table pair.first n r) *ℤ pos (first_number table pair.second sums.second_read r)))) (sym are.first_read);
        };
        all_first = are.first_read;
        all_second = are.second_read;
      }

  -- while no plane tells a digit all of them are 0, whatever moved
  pub unmoved : (known : IsKnownTable table) (old new : List Bool) (pair : Pair) (sums : PairSums) → IsPair table pair → length new ≡ table.frame.rows →
      (known_at table.known pair.first).read ≤ first_digit (column_at table pair.first) → (known_at table.known pair.second).read ≤ first_digit (column_at table pair.second) →
      AreReadOn table old pair sums → AreReadOn table new pair sums
  unmoved known old new pair sums is long none_first none_second are =
      let long_old = are.sums_are.rows in
      let first : ℕ → ℤ = λ r. pos (first_number table pair.first sums.first_read r) in
      let second : ℕ → ℤ = λ r. pos (first_number table pair.second sums.second_read r) in
      let reads : ℕ = (known_at table.known pair.first).read in
      let others : ℕ = (known_at table.known pair.second).read in
      let few_first : sums.first_read ≤ first_plane (ends_at table.frame pair.first) reads = omega (arith, none_first, are.all_first) in
      let few_second : sums.second_read ≤ first_plane (ends_at table.frame pair.second) others = omega (arith, none_second, are.all_second) in
      let no_first : (rows : List Bool) → length rows ≡ table.frame.rows → sum_over rows first ≡ pos 0 =
      λ rows same. sym (once table rows pair.first (reads - sums.first_read)) ∙ kept_first table known rows same pair.first is.first (λ r. pos 1) sums.first_read few_first in
      let no_second : (rows : List Bool) → length rows ≡ table.frame.rows → sum_over rows second ≡ pos 0 =
      λ rows same. sym (once table rows pair.second (others - sums.second_read)) ∙ kept_first table known rows same pair.second is.second (λ r. pos 1) sums.second_read few_second in
      let no_both : (rows : List Bool) → length rows ≡ table.frame.rows → sum_over rows (λ r. first r *ℤ second r) ≡ pos 0 =
      λ rows same. kept_first table known rows same pair.first is.first second sums.first_read few_first in
      record {
        sums_are = record {
          rows = long;
          first_read = are.sums_are.first_read;
          second_read = are.sums_are.second_read;
          first = are.sums_are.first ∙ ap wrapped (no_first old long_old ∙ sym (no_first new long));
          second = are.sums_are.second ∙ ap wrapped (no_second old long_old ∙ sym (no_second new long));
          both = are.sums_are.both ∙ ap wrapped (no_both old long_old ∙ sym (no_both new long));
        };
        all_first = are.all_first;
        all_second = are.all_second;
      }
