use Rattle.std.proofs.Common.{◌≡◌, ◌+◌, ◌-◌, ◌*◌, ◌&&◌, ℕ, List, Bool, map, length, count_by, ap, sym, subst, ◌∙◌, arith}
use Rattle.std.specs.Simd.Lanes.{zip2}
use Rattle.std.proofs.lemmas.List.{length-map}
use Rattle.plane_kernels.specs.Rows.{block_rows, rows_of, IsPadded}
use Rattle.plane_kernels.proofs.RowLemmas.{length-rows_of}
use Rattle.known_column.specs.Columns.{KnownColumn, digit_of, rows_of_column}
use Rattle.aggregates.specs.Selections.{block_of, early_number, IsSound}
use Rattle.aggregates.proofs.BlockSums.{column_block, count_block, of_block}
use Rattle.aggregates.proofs.EndSums.{OfColumn, short_early, short_few, short_further, short_start, sum_short}
use Rattle.aggregates.proofs.RowSums.{sum_uncounted, zero_rows}
use Rattle.aggregates.proofs.sums.sum_rows.Goals as goal

abbrev rows : KnownColumn → ℕ → List ℕ → List Bool
rows column block words = rows_of (block_rows (rows_of_column column) block) words

of : (column : KnownColumn) (block : ℕ) (words : List ℕ) → IsSound column → length words ≡ 8 → OfColumn (column_block column block) (rows column block words)
of column block words sound eight =
    let n = block_rows (rows_of_column column) block in
    of_block column (rows column block words) block sound (length-rows_of n words (omega (arith, eight)))

pub returns-then-is_empty : goal.returns-then-is_empty
returns-then-is_empty c =
    let column = c.args.known.now in
    let n = block_rows (rows_of_column column) c.args.block in
    let none = zero_rows n c.args.rows.now c.requires.rows (c.is_empty.ensures.0 c.if-is_empty.true) in
    record {
      sum = sym (sum_uncounted (rows_of n c.args.rows.now) (map (early_number column c.args.read) (block_of c.args.block column.known.prefixes)) none);
      few = omega arith;
    }

pub loop-j-init : goal.loop-j-init
loop-j-init c =
    let column = c.args.known.now in
    let h = of column c.args.block c.args.rows.now c.number_planes-from.ensures.sound (omega arith) in
    sym (short_start (column_block column c.args.block) (rows column c.args.block c.args.rows.now) c.min-j.result h (omega (arith, c.min-j.ensures, c.number_planes-from.ensures.from)))

pub overflow_mul-sum : goal.overflow_mul-sum
overflow_mul-sum c =
    let column = c.args.known.now in
    let h = of column c.args.block c.args.rows.now c.number_planes-from.ensures.sound (omega arith) in
    record { fits = omega (arith, c.loop-j.invariant, short_few (column_block column c.args.block) (rows column c.args.block c.args.rows.now) (column.known.read - c.loop-j.j) h) }

pub overflow_add-sum : goal.overflow_add-sum
overflow_add-sum c =
    let column = c.args.known.now in
    let h = of column c.args.block c.args.rows.now c.number_planes-from.ensures.sound (omega arith) in
    record { fits = omega (arith, c.loop-j.invariant, c.from.ensures, c.count_both.type_inv, short_few (column_block column c.args.block) (rows column c.args.block c.args.rows.now) (column.known.read - c.loop-j.j) h) }

pub loop-j-preserved : goal.loop-j-preserved
loop-j-preserved c =
    let whole = c.args.known.now in
    let column = column_block whole c.args.block in
    let words = c.args.rows.now in
    let mask = rows whole c.args.block words in
    let read = whole.known.read in
    let j = c.loop-j.j in
    let h = of whole c.args.block words c.number_planes-from.ensures.sound (omega arith) in
    let same : length c.plane.result.now ≡ rows_of_column whole = ap length c.plane.ensures ∙ length-map whole.known.prefixes (digit_of read j) in
    let further = short_further column mask j h (omega (arith, c.loop-j.auto, c.loop-j-test.true, c.min-j.ensures, c.number_planes-from.ensures.from)) (omega (arith, c.loop-j-test.true, c.requires.read)) in
    let bits : c.from.result ≡ count_by (λ b. b) (zip2 (λ a b. a && b) mask (map (digit_of read j) column.known.prefixes)) =
    c.from.ensures ∙ c.count_both.ensures
    ∙ count_block whole.known.prefixes (digit_of read j) c.args.block (block_rows (rows_of_column whole) c.args.block) words c.block.result c.plane.result.now (omega arith) (omega arith) c.requires.rows
    (subst (λ n. IsPadded (block_rows n c.args.block) c.block.result) same c.block.ensures.padded)
    (subst (λ n. rows_of (block_rows n c.args.block) c.block.result ≡ block_of c.args.block c.plane.result.now) same c.block.ensures.rows) c.plane.ensures in
    ap (λ s. 2 * s + c.from.result) c.loop-j.invariant ∙ ap (λ n. 2 * sum_short column mask (read - j) + n) bits ∙ sym further

pub returns : goal.returns
returns c =
    let whole = c.args.known.now in
    let column = column_block whole c.args.block in
    let mask = rows whole c.args.block c.args.rows.now in
    let h = of whole c.args.block c.args.rows.now c.number_planes-from.ensures.sound (omega arith) in
    let j = c.loop-j.j in
    let last : j ≡ c.args.read = omega (arith, c.loop-j-test.false, c.loop-j.auto.j-end, c.min-j.ensures) in
    record {
      sum = c.loop-j.invariant ∙ ap (λ k. sum_short column mask (whole.known.read - k)) last ∙ sym (short_early column mask c.args.read h c.requires.read);
      few = omega (arith, c.loop-j.invariant, short_few column mask (whole.known.read - j) h);
    }
