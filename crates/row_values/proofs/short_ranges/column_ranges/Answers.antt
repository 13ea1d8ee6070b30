use Rattle.std.proofs.Common.{◌≡◌, ◌+◌, ◌*◌, ◌^◌, ◌<◌, ◌-◌, min, nat_abs, pos, ◌+ℤ◌, ◌-ℤ◌, get_or, ap, ◌∙◌, arith, to_z, of_z}
use Rattle.std.proofs.lemmas.Int.{ints}
use Rattle.std.specs.Int.{w64}
use Rattle.daq_table.specs.Tables.{spread}
use Rattle.known_column.specs.Columns.{count_in_block, number_of, rows_of_column}
use Rattle.row_values.specs.ShortSpans.{IsShortRange}
use Rattle.row_values.proofs.BlockRows.{holds_further}
use Rattle.row_values.proofs.NumberRanges.{number_few, number_there, unread_digits}
use Rattle.row_values.proofs.ShortRows.{range_there}
use Rattle.row_values.proofs.short_ranges.column_ranges.Goals as goal

pub range_of-requires-clause-digits : goal.range_of-requires-clause-digits
range_of-requires-clause-digits c =
    let column = c.args.known.now in
    let ends = column.ends in
    let read = column.known.read in
    let i = c.loop-i.i in
    let row = 64 * c.args.block + i in
    let p = get_or column.known.prefixes row 0 in
    let below : i < count_in_block c.args.block (rows_of_column column) = omega arith in
    let n_is = number_there column c.args.block c.numbers.new.numbers i c.numbers.ensures below in
    let u_is : c.min-unread.result ≡ unread_digits ends read = omega arith in
    let few = number_few ends read p c.rows.ensures.known.some_read (c.rows.ensures.known.legal row 0 (omega (arith, below))) in
    let moved : get_or c.numbers.new.numbers i 0 * 2 ^ c.min-unread.result ≡ number_of ends read p * 2 ^ unread_digits ends read =
    ap (λ k. k * 2 ^ c.min-unread.result) n_is ∙ ap (λ k. number_of ends read p * 2 ^ k) u_is in
    let same : nat_abs (to_z w64 (of_z w64 c.top.result) -ℤ to_z w64 (of_z w64 c.base.result)) ≡ spread ends = omega (arith, ints) in
    omega (arith, few, moved, same)

pub loop-i-preserved : goal.loop-i-preserved
loop-i-preserved c =
    let column = c.args.known.now in
    let ends = column.ends in
    let read = column.known.read in
    let i = c.loop-i.i in
    let row = 64 * c.args.block + i in
    let n = get_or c.numbers.new.numbers i 0 in
    let u = c.min-unread.result in
    let below : i < count_in_block c.args.block (rows_of_column column) = omega arith in
    let n_is = number_there column c.args.block c.numbers.new.numbers i c.numbers.ensures below in
    let u_is : u ≡ unread_digits ends read = omega arith in
    let same : nat_abs (to_z w64 (of_z w64 c.top.result) -ℤ to_z w64 (of_z w64 c.base.result)) ≡ spread ends = omega (arith, ints) in
    let lo : c.range_of.result.lo ≡ ends.base +ℤ pos (n * 2 ^ u) = omega (arith, ints) in
    let hi : c.range_of.result.hi ≡ ends.base +ℤ pos (min (n * 2 ^ u + (2 ^ u - 1)) (spread ends)) = omega (arith, ints, same) in
    holds_further (λ r span. IsShortRange column (64 * c.args.block + r) span) i c.loop-i.spans c.range_of.result
    (range_there column row n u c.range_of.result c.rows.ensures.known.some_read (c.rows.ensures.known.legal row 0 (omega (arith, below))) n_is u_is lo hi) c.loop-i.invariant

pub returns : goal.returns
returns c = λ r span below at. c.loop-i.invariant r span (omega (arith, below)) at
