-- What a measure of rows comes to at an end.
use Rattle.std.proofs.Common.{◌≡◌, ◌+◌, ◌-◌, ◌*◌, ◌^◌, ◌%◌, pos, ◌+ℤ◌, ◌*ℤ◌, ◌&&◌, Bool, List, length, map, count_by, ap, sym, ◌∙◌, arith}
use Rattle.std.specs.Simd.Lanes.{zip2}
use Rattle.std.proofs.lemmas.Bool.{false≢true}
use Rattle.std.proofs.lemmas.List.Sums.{count_by-le-length}
use Rattle.daq_table.specs.Tables.{planes, spread}
use Rattle.query_model.specs.Answers.{total}
use Rattle.known_column.specs.Columns.{KnownColumn, is_at_top, number_of}
use Rattle.aggregates.specs.Selections.{highs_in, lows_in}
use Rattle.aggregates.proofs.EndSums.{Counts, few_planes, highs, lows, of_counts, sum_fits}
use Rattle.aggregates.proofs.MaskSums.{count_both-le, sum_none}
use Rattle.avg_exact.specs.declared.passes.End.{End}
use Rattle.avg_exact.specs.declared.passes.End.TheVariants.{Low, High}
use Rattle.avg_exact.specs.declared.planes.Measure.{Measure}
use Rattle.avg_exact.specs.Blocks.{IsMeasure}
use Rattle.avg_exact.specs.ExactAverages.{negative}
use Rattle.avg_exact.proofs.FurthestRows.{no_row}
use Rattle.avg_exact.specs.Measures.{IsFewMeasure, end_total, low_sum, sum_at, widened}

-- no rows
pub none_measured : (column : KnownColumn) (rows : List Bool) → length rows ≡ length column.known.prefixes → count_by (λ b. b) rows ≡ 0 → IsMeasure column rows (record { rows = 0; numbers = 0; at_top = 0 })
none_measured column rows e none =
    let ps = column.known.prefixes in
    record {
      rows_is = sym none;
      numbers = sym (sum_none rows ps (number_of column.ends column.known.read) e (λ r h has. absurd (false≢true (sym (no_row rows none r) ∙ has))));
      at_top = (let few = count_both-le rows (map (is_at_top column.ends column.known.read) ps) in omega (arith, few, none));
    }

module _ (column : KnownColumn) (rows : List Bool) (m : Measure) (counts : Counts column rows) (measure : IsMeasure column rows m) where
  pub few_measured : IsFewMeasure column m
  few_measured =
      let most = count_by-le-length {X = Bool} (λ b. b) rows in
      let both = count_both-le rows (map (is_at_top column.ends column.known.read) column.known.prefixes) in
      let fits = sum_fits column rows (of_counts column rows counts) in
      record {
        rows = omega (arith, measure.rows_is, most, counts.rows, counts.sound.known.few_rows);
        at_top = omega (arith, measure.rows_is, measure.at_top, both);
        numbers = omega (arith, ap (λ n. n * 2 ^ (planes column.ends - column.known.read)) measure.numbers, fits);
        digits = few_planes column counts.sound;
      }

  measured_low : low_sum column m ≡ total (lows_in column rows)
  measured_low =
      ap (λ n. (column.ends.base *ℤ pos n) +ℤ pos (m.numbers * 2 ^ (planes column.ends - column.known.read))) measure.rows_is
      ∙ ap (λ n. (column.ends.base *ℤ pos (count_by (λ b. b) rows)) +ℤ pos (n * 2 ^ (planes column.ends - column.known.read))) measure.numbers
      ∙ sym (lows column rows counts)

  measured_high : low_sum column m +ℤ pos (widened column m) ≡ total (highs_in column rows)
  measured_high =
      let others = m.rows - m.at_top in
      let tops = count_by (λ b. b) (zip2 (λ a b. a && b) rows (map (is_at_top column.ends column.known.read) column.known.prefixes)) in
      let parts : count_by (λ b. b) rows ≡ tops + others =
      omega (arith, measure.rows_is, measure.at_top, count_both-le rows (map (is_at_top column.ends column.known.read) column.known.prefixes)) in
      ap (λ z. z +ℤ pos (widened column m)) measured_low
      ∙ ap (λ n. total (lows_in column rows) +ℤ pos (n * (spread column.ends % 2 ^ (planes column.ends - column.known.read)) + others * (2 ^ (planes column.ends - column.known.read) - 1))) measure.at_top
      ∙ sym (highs column rows others counts parts)

  pub measured : (end : End) → sum_at end column m ≡ end_total end column rows
  measured Low = ap negative measured_low
  measured High = measured_high
