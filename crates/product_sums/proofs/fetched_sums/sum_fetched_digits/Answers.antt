use Rattle.std.proofs.Common.{◌≡◌, ◌-◌, ◌*◌, min, cond, pos, ◌*ℤ◌, ◌&&◌, [], length, take, drop, count_by, get_or, FitsSigned, to_z, of_z, ap, sym, ◌∙◌, arith}
use Rattle.std.specs.Int.{int_wrap, w128}
use Rattle.std.specs.Simd.Lanes.{zip2}
use Rattle.std.proofs.lemmas.Int.{ints, int_wrap_fits}
use Rattle.std.proofs.lemmas.List.{length-map}
use Rattle.daq_table.specs.Tables.{ends_at}
use Rattle.aggregates.proofs.NumberRows.{first_plane}
use Rattle.known_column.specs.Columns.{KnownColumn, digit_of}
use Rattle.known_column.specs.KnownTables.{column_at}
use Rattle.plane_kernels.specs.Rows.{rows_of}
use Rattle.query_model.specs.Knowledge.{known_at}
use Rattle.product_sums.specs.Fetched.{first_digit, ones_of}
use Rattle.product_sums.specs.Products.{product_at}
use Rattle.product_sums.proofs.DigitSums.{digits_first, digits_next, first_digits}
use Rattle.product_sums.proofs.Fetching.{bits_there, count_is}
use Rattle.product_sums.proofs.Residues.{plus_is, times_wrapped, wrapped}
use Rattle.product_sums.proofs.fetched_sums.sum_fetched_digits.Goals as goal

pub loop-j-init : goal.loop-j-init
loop-j-init c =
    let table = c.args.columns.now in
    let column = c.args.fetched.now.column in
    let is : c.column-known.result.now ≡ column_at table column = c.column-known.ensures.column ∙ ap (column_at table) c.from.ensures in
    let from : c.number_planes-from.result.0 ≡ first_plane (ends_at table.frame column) (known_at table.known column).read =
    c.number_planes-from.ensures.from ∙ ap (λ (k : KnownColumn). min (cond k.ends.nullable 1 0) k.known.read) is in
    let none : FitsSigned w128 (pos 0) = record { sfits = omega arith } in
    sym (int_wrap_fits w128 (pos 0) none)
    ∙ ap (int_wrap w128) (sym (digits_first table c.args.block c.args.rows.now (product_at table []) c.requires.rows column c.requires.column c.number_planes-from.result.0 (omega (arith, from))))

pub loop-j-preserved : goal.loop-j-preserved
loop-j-preserved c =
    let table = c.args.columns.now in
    let column = c.args.fetched.now.column in
    let known = column_at table column in
    let rows = c.args.rows.now in
    let block = c.args.block in
    let j = c.loop-j.j in
    let whole : to_z w128 (of_z w128 c.plus-sum.result) ≡ c.plus-sum.result = omega (arith, ints) in
    let is : c.column-known.result.now ≡ known = c.column-known.ensures.column ∙ ap (column_at table) c.from.ensures in
    let from : c.number_planes-from.result.0 ≡ first_plane (ends_at table.frame column) (known_at table.known column).read =
    c.number_planes-from.ensures.from ∙ ap (λ (k : KnownColumn). min (cond k.ends.nullable 1 0) k.known.read) is in
    let to : c.number_planes-from.result.1 ≡ (known_at table.known column).read = c.number_planes-from.ensures.to ∙ ap (λ (k : KnownColumn). k.known.read) is in
    let at : c.from-in-loop-j.result ≡ j - first_digit known = omega (arith, c.from-in-loop-j.ensures, from) in
    let all : length (ones_of known j) ≡ table.frame.rows = length-map known.known.prefixes (digit_of known.known.read j) ∙ c.requires.rows.known.knowledge.rows column c.requires.column in
    let bits = bits_there (ones_of known j) rows block (get_or c.args.room.now.planes (j - first_digit known) []) (c.requires.fetched.planes j (omega (arith, from, c.loop-j.auto)) (omega (arith, to, c.loop-j-test.true)))
    (c.requires.rows.count ∙ ap (λ n. min 512 (n - 512 * block)) (sym all)) in
    let counted = c.count_words-ones.ensures ∙ ap (λ n. count_by (λ b. b) (zip2 (λ a b. a && b) rows (rows_of (length rows) (get_or c.args.room.now.planes n [])))) at ∙ ap (count_by (λ b. b)) bits.1 in
    let ones = count_is table block (zip2 (λ a b. a && b) rows (take 512 (drop (512 * block) (ones_of known j)))) c.count_words-ones.result c.from-in-loop-j-2.result c.from-in-loop-j-2.ensures counted (omega (arith, c.count_words-ones.type_inv)) in
    let before = first_digits table block rows (product_at table []) column ((known_at table.known column).read - j) in
    let twice = c.times.ensures ∙ ap (λ z. wrapped (z *ℤ pos 2)) c.loop-j.invariant ∙ times_wrapped before (pos 2) in
    whole ∙ plus_is c.plus-sum.result c.times.result c.from-in-loop-j-2.result _ _ c.plus-sum.ensures (omega (arith, ints)) (omega (arith, ints)) twice ones
    ∙ ap wrapped (sym (digits_next table block rows (product_at table []) c.requires.rows column c.requires.column j (omega (arith, from, c.loop-j.auto)) (omega (arith, to, c.loop-j-test.true))))
