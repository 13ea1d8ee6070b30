use Rattle.std.proofs.Common.{◌≡◌, ℕ, ℤ, ◌-◌, ◌*◌, ◌+◌, min, cond, pos, ◌*ℤ◌, ◌&&◌, [], length, map, take, drop, FitsSigned, to_z, of_z, ap, sym, subst, ◌∙◌, arith}
use Rattle.std.specs.Int.{w128}
use Rattle.std.specs.Simd.Lanes.{zip2}
use Rattle.std.proofs.lemmas.Int.{ints, int_wrap_fits}
use Rattle.daq_table.specs.Tables.{ends_at}
use Rattle.aggregates.proofs.NumberRows.{first_plane}
use Rattle.known_column.specs.Columns.{KnownColumn, digit_of}
use Rattle.known_column.specs.KnownTables.{column_at}
use Rattle.query_model.specs.Knowledge.{known_at}
use Rattle.product_sums.specs.KeptProducts.{whole_number}
use Rattle.product_sums.specs.Products.{CanMultiply, sum_over}
use Rattle.product_sums.proofs.DigitSums.{digits_first, digits_last, digits_next, first_digits, tested_length}
use Rattle.product_sums.proofs.FirstNumbers.{turned_whole}
use Rattle.product_sums.proofs.Multiplying.{fewer_rows}
use Rattle.product_sums.proofs.Residues.{plus_is, times_wrapped, wrapped}
use Rattle.product_sums.proofs.moved_sums.sum_both.Goals as goal

pub loop-j-init : goal.loop-j-init
loop-j-init c =
    let table = c.args.columns.now in
    let second = c.args.pair.second in
    let is : c.column-known.result.now ≡ column_at table second = c.column-known.ensures.column ∙ ap (column_at table) c.from.ensures in
    let from : c.number_planes-from.result.0 ≡ first_plane (ends_at table.frame second) (known_at table.known second).read =
    c.number_planes-from.ensures.from ∙ ap (λ (k : KnownColumn). min (cond k.ends.nullable 1 0) k.known.read) is in
    let none : FitsSigned w128 (pos 0) = record { sfits = omega arith } in
    sym (int_wrap_fits w128 (pos 0) none)
    ∙ ap wrapped (sym (digits_first table c.args.block c.args.rows.now (whole_number table c.args.pair.first) c.requires.rows second c.requires.pair.second c.number_planes-from.result.0 (omega (arith, from))))

pub and-ones-requires : goal.and-ones-requires
and-ones-requires c =
    let table = c.args.columns.now in
    let second = c.args.pair.second in
    let is : c.column-known.result.now ≡ column_at table second = c.column-known.ensures.column ∙ ap (column_at table) c.from.ensures in
    ap length (c.of_plane.ensures ∙ ap (λ l. take 512 (drop (512 * c.args.block) l)) (c.plane.ensures ∙ ap (λ (k : KnownColumn). map (digit_of k.known.read c.loop-j.j) k.known.prefixes) is))
    ∙ tested_length table c.args.block c.args.rows.now (whole_number table c.args.pair.first) c.requires.rows second c.requires.pair.second (digit_of (known_at table.known second).read c.loop-j.j)

pub sum_numbers-requires-clause-rows : goal.sum_numbers-requires-clause-rows
sum_numbers-requires-clause-rows c =
    let table = c.args.columns.now in
    let second = c.args.pair.second in
    let is : c.column-known.result.now ≡ column_at table second = c.column-known.ensures.column ∙ ap (column_at table) c.from.ensures in
    let same : length c.of_plane.result ≡ length c.args.rows.now =
    ap length (c.of_plane.ensures ∙ ap (λ l. take 512 (drop (512 * c.args.block) l)) (c.plane.ensures ∙ ap (λ (k : KnownColumn). map (digit_of k.known.read c.loop-j.j) k.known.prefixes) is))
    ∙ tested_length table c.args.block c.args.rows.now (whole_number table c.args.pair.first) c.requires.rows second c.requires.pair.second (digit_of (known_at table.known second).read c.loop-j.j) in
    subst (λ r. CanMultiply table c.args.block r []) (sym c.and-ones.ensures) (fewer_rows table c.args.block c.args.rows.now c.of_plane.result [] same c.requires.rows)

pub loop-j-preserved : goal.loop-j-preserved
loop-j-preserved c =
    let table = c.args.columns.now in
    let second = c.args.pair.second in
    let f : ℕ → ℤ = whole_number table c.args.pair.first in
    let whole : to_z w128 (of_z w128 c.plus-sum.result) ≡ c.plus-sum.result = omega (arith, ints) in
    let is : c.column-known.result.now ≡ column_at table second = c.column-known.ensures.column ∙ ap (column_at table) c.from.ensures in
    let from : c.number_planes-from.result.0 ≡ first_plane (ends_at table.frame second) (known_at table.known second).read =
    c.number_planes-from.ensures.from ∙ ap (λ (k : KnownColumn). min (cond k.ends.nullable 1 0) k.known.read) is in
    let to : c.number_planes-from.result.1 ≡ (known_at table.known second).read = c.number_planes-from.ensures.to ∙ ap (λ (k : KnownColumn). k.known.read) is in
    let ones = c.and-ones.ensures
    ∙ ap (zip2 (λ a b. a && b) c.args.rows.now) (c.of_plane.ensures ∙ ap (λ l. take 512 (drop (512 * c.args.block) l)) (c.plane.ensures ∙ ap (λ (k : KnownColumn). map (digit_of k.known.read c.loop-j.j) k.known.prefixes) is)) in
    let before = first_digits table c.args.block c.args.rows.now f second ((known_at table.known second).read - c.loop-j.j) in
    let twice = c.times.ensures ∙ ap (λ z. wrapped (z *ℤ pos 2)) c.loop-j.invariant ∙ times_wrapped before (pos 2) in
    whole
    ∙ plus_is c.plus-sum.result c.times.result c.sum_numbers.result _ _ c.plus-sum.ensures (omega (arith, ints)) (omega (arith, ints)) twice
    (c.sum_numbers.ensures ∙ ap (λ r. wrapped (sum_over r (λ i. f (512 * c.args.block + i)))) ones)
    ∙ ap wrapped (sym (digits_next table c.args.block c.args.rows.now f c.requires.rows second c.requires.pair.second c.loop-j.j (omega (arith, from, c.loop-j.auto)) (omega (arith, to, c.loop-j-test.true))))

pub returns : goal.returns
returns c =
    let table = c.args.columns.now in
    let pair = c.args.pair in
    let f : ℕ → ℤ = whole_number table pair.first in
    let is : c.column-known.result.now ≡ column_at table pair.second = c.column-known.ensures.column ∙ ap (column_at table) c.from.ensures in
    let to : c.number_planes-from.result.1 ≡ (known_at table.known pair.second).read = c.number_planes-from.ensures.to ∙ ap (λ (k : KnownColumn). k.known.read) is in
    c.loop-j.invariant
    ∙ ap wrapped (digits_last table c.args.block c.args.rows.now f c.requires.rows pair.second c.requires.pair.second ((known_at table.known pair.second).read - c.loop-j.j) (omega (arith, to, c.loop-j.auto, c.loop-j-test.false))
    ∙ turned_whole table c.args.rows.now pair.first pair.second (512 * c.args.block))
