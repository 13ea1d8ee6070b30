use Rattle.std.proofs.Common.{◌≡◌, ◌-◌, ◌*◌, min, cond, pos, ◌*ℤ◌, ◌&&◌, [], length, take, drop, count_by, to_z, of_z, ap, sym, ◌∙◌, arith}
use Rattle.std.specs.Int.{w128}
use Rattle.std.specs.Simd.Lanes.{zip2}
use Rattle.std.proofs.lemmas.Int.{ints}
use Rattle.std.proofs.lemmas.List.{length-map}
use Rattle.daq_table.specs.Tables.{ends_at}
use Rattle.aggregates.proofs.NumberRows.{first_plane}
use Rattle.known_column.specs.Columns.{KnownColumn, digit_of}
use Rattle.known_column.specs.KnownTables.{column_at}
use Rattle.query_model.specs.Knowledge.{known_at}
use Rattle.product_sums.specs.Fetched.{IsBlockOf, ones_of}
use Rattle.product_sums.specs.Products.{product_at}
use Rattle.product_sums.proofs.DigitSums.{digits_first, digits_next, first_digits}
use Rattle.product_sums.proofs.Fetching.{bits_there, count_is}
use Rattle.product_sums.proofs.FirstNumbers.{first_there}
use Rattle.product_sums.proofs.PairSums.{nothing}
use Rattle.product_sums.proofs.Residues.{plus_is, times_wrapped, wrapped}
use Rattle.product_sums.proofs.first_numbers.sum_first_digits.Goals as goal

pub loop-j-init : goal.loop-j-init
loop-j-init c =
    let table = c.args.columns.now in
    let column = c.args.column in
    let is : c.column-known.result.now ≡ column_at table column = c.column-known.ensures.column ∙ ap (column_at table) c.from.ensures in
    let from : c.number_planes-from.result.0 ≡ first_plane (ends_at table.frame column) (known_at table.known column).read =
    c.number_planes-from.ensures.from ∙ ap (λ (k : KnownColumn). min (cond k.ends.nullable 1 0) k.known.read) is in
    nothing ∙ ap wrapped (sym (digits_first table c.args.block c.args.rows.now (product_at table []) c.requires.rows column c.requires.column c.number_planes-from.result.0 (omega (arith, from))))

pub loop-j-preserved : goal.loop-j-preserved
loop-j-preserved c =
    let table = c.args.columns.now in
    let column = c.args.column in
    let known = column_at table column in
    let rows = c.args.rows.now in
    let block = c.args.block in
    let j = c.loop-j.j in
    let whole : to_z w128 (of_z w128 c.plus-sum.result) ≡ c.plus-sum.result = omega (arith, ints) in
    let is : c.column-known.result.now ≡ known = c.column-known.ensures.column ∙ ap (column_at table) c.from.ensures in
    let from : c.number_planes-from.result.0 ≡ first_plane (ends_at table.frame column) (known_at table.known column).read =
    c.number_planes-from.ensures.from ∙ ap (λ (k : KnownColumn). min (cond k.ends.nullable 1 0) k.known.read) is in
    let ones_are : c.plane.result.now ≡ ones_of known j = c.plane.ensures ∙ ap (λ (k : KnownColumn). ones_of k j) is in
    let all : length c.plane.result.now ≡ table.frame.rows = ap length ones_are ∙ length-map known.known.prefixes (digit_of known.known.read j) ∙ c.requires.rows.known.knowledge.rows column c.requires.column in
    let there : IsBlockOf c.plane.result.now block c.block.result = record { bits = c.block.ensures.rows; padded = c.block.ensures.padded } in
    let bits = bits_there c.plane.result.now rows block c.block.result there (c.requires.rows.count ∙ ap (λ n. min 512 (n - 512 * block)) (sym all)) in
    let counted = c.count_words-ones.ensures ∙ ap (count_by (λ b. b)) (bits.1 ∙ ap (λ l. zip2 (λ a b. a && b) rows (take 512 (drop (512 * block) l))) ones_are) in
    let ones = count_is table block (zip2 (λ a b. a && b) rows (take 512 (drop (512 * block) (ones_of known j)))) c.count_words-ones.result c.from-in-loop-j.result c.from-in-loop-j.ensures counted (omega (arith, c.count_words-ones.type_inv)) in
    let before = first_digits table block rows (product_at table []) column ((known_at table.known column).read - j) in
    let twice = c.times.ensures ∙ ap (λ z. wrapped (z *ℤ pos 2)) c.loop-j.invariant ∙ times_wrapped before (pos 2) in
    whole ∙ plus_is c.plus-sum.result c.times.result c.from-in-loop-j.result _ _ c.plus-sum.ensures (omega (arith, ints)) (omega (arith, ints)) twice ones
    ∙ ap wrapped (sym (digits_next table block rows (product_at table []) c.requires.rows column c.requires.column j (omega (arith, from, c.loop-j.auto)) (omega (arith, from, c.requires.read, c.loop-j-test.true, c.max-j-end.ensures, c.loop-j.auto))))

pub returns : goal.returns
returns c =
    let table = c.args.columns.now in
    let column = c.args.column in
    let is : c.column-known.result.now ≡ column_at table column = c.column-known.ensures.column ∙ ap (column_at table) c.from.ensures in
    let from : c.number_planes-from.result.0 ≡ first_plane (ends_at table.frame column) (known_at table.known column).read =
    c.number_planes-from.ensures.from ∙ ap (λ (k : KnownColumn). min (cond k.ends.nullable 1 0) k.known.read) is in
    c.loop-j.invariant ∙ ap wrapped (first_there table c.args.block c.args.rows.now c.requires.rows column c.requires.column c.loop-j.j c.args.read (omega (arith, from, c.loop-j.auto, c.loop-j-test.false, c.max-j-end.ensures)))
