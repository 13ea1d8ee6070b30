use Rattle.std.proofs.Common.{◌≡◌, ◌≤◌, ◌+◌, ◌-◌, ◌*◌, ◌^◌, ◌%◌, ◌+ℤ◌, ◌*ℤ◌, ◌-ℤ◌, ◌&&◌, nat_abs, pos, map, count_by, Bool, to_z, of_z, ap, sym, subst, ◌∙◌, arith}
use Rattle.std.specs.Int.{w64, w128}
use Rattle.std.specs.Simd.Lanes.{zip2}
use Rattle.std.proofs.lemmas.Int.{ints}
use Rattle.std.proofs.lemmas.List.Sums.{count_by-le-length}
use Rattle.daq_table.specs.Tables.{planes, spread}
use Rattle.query_model.specs.Answers.{total}
use Rattle.known_column.specs.Columns.{is_at_top}
use Rattle.aggregates.specs.Selections.{lows_in, sum_where}
use Rattle.aggregates.proofs.MaskSums.{count_both-le}
use Rattle.aggregates.proofs.EndSums.{Counts, OfColumn, few_planes, highs, lows, number_in, sum_fits}
use Rattle.aggregates.proofs.row_sums.ends_of_sums.Goals as goal

pub lows_of_rows-low-requires-clause-rows : goal.lows_of_rows-low-requires-clause-rows
lows_of_rows-low-requires-clause-rows c =
    let some = c.requires.sums in
    omega (arith, some.are.rows, count_by-le-length {X = Bool} (λ b. b) some.mask, some.rows, c.rows-rows.ensures.rows, c.rows-rows.ensures.few)

pub lows_of_rows-low-requires-clause-unread : goal.lows_of_rows-low-requires-clause-unread
lows_of_rows-low-requires-clause-unread c = omega (arith, c.unread-unread.ensures, few_planes c.args.known.now c.number_planes-planes.ensures.sound)

pub lows_of_rows-low-requires-clause-few : goal.lows_of_rows-low-requires-clause-few
lows_of_rows-low-requires-clause-few c =
    let column = c.args.known.now in
    let some = c.requires.sums in
    let of : OfColumn column some.mask = record { sound = c.number_planes-planes.ensures.sound; rows = some.rows } in
    let d : c.unread-unread.result ≡ planes column.ends - column.known.read = omega (arith, c.unread-unread.ensures) in
    let fits : c.args.sums.numbers * 2 ^ (planes column.ends - column.known.read) ≤ 309485009821345068724781056 =
    subst (λ n. n * 2 ^ (planes column.ends - column.known.read) ≤ 309485009821345068724781056) (sym some.are.numbers) (sum_fits column some.mask of) in
    let small : c.args.sums.numbers * 2 ^ c.unread-unread.result ≤ 309485009821345068724781056 = subst (λ k. c.args.sums.numbers * 2 ^ k ≤ 309485009821345068724781056) (sym d) fits in
    omega (arith, small)

pub spans_of_rows-spans-requires-clause-rows : goal.spans_of_rows-spans-requires-clause-rows
spans_of_rows-spans-requires-clause-rows c =
    let some = c.requires.sums in
    omega (arith, some.are.rows, count_by-le-length {X = Bool} (λ b. b) some.mask, some.rows, c.rows-rows.ensures.rows, c.rows-rows.ensures.few)

pub spans_of_rows-spans-requires-clause-at_top : goal.spans_of_rows-spans-requires-clause-at_top
spans_of_rows-spans-requires-clause-at_top c =
    let column = c.args.known.now in
    let some = c.requires.sums in
    omega (arith, some.are.rows, some.are.at_top, count_both-le some.mask (map (is_at_top column.ends column.known.read) column.known.prefixes))

pub returns-clause-low : goal.returns-clause-low
returns-clause-low c = λ mask long values are.
    let column = c.args.known.now in
    let sums = c.args.sums in
    let u = c.unread-unread.result in
    let d : u ≡ planes column.ends - column.known.read = omega (arith, c.unread-unread.ensures) in
    let counts : Counts column mask = record { sound = c.number_planes-planes.ensures.sound; rows = long; values = values } in
    let whole : to_z w128 (of_z w128 c.lows_of_rows-low.result) ≡ c.lows_of_rows-low.result = omega (arith, ints) in
    let base : to_z w64 (of_z w64 c.base.result) ≡ column.ends.base = omega (arith, ints, c.base.ensures) in
    whole ∙ c.lows_of_rows-low.ensures.sum ∙ ap (λ b. (b *ℤ pos sums.rows) +ℤ pos (sums.numbers * 2 ^ u)) base
    ∙ ap (λ n. (column.ends.base *ℤ pos n) +ℤ pos (sums.numbers * 2 ^ u)) are.rows
    ∙ ap (λ n. (column.ends.base *ℤ pos (count_by (λ b. b) mask)) +ℤ pos (n * 2 ^ u)) are.numbers
    ∙ ap (λ k. (column.ends.base *ℤ pos (count_by (λ b. b) mask)) +ℤ pos (sum_where mask (map (number_in column) column.known.prefixes) * 2 ^ k)) d
    ∙ sym (lows column mask counts)

pub returns-clause-high : goal.returns-clause-high
returns-clause-high c = λ mask long values are.
    let column = c.args.known.now in
    let ends = column.ends in
    let sums = c.args.sums in
    let counts : Counts column mask = record { sound = c.number_planes-planes.ensures.sound; rows = long; values = values } in
    let u = c.unread-unread.result in
    let unread = planes ends - column.known.read in
    let d : u ≡ unread = omega (arith, c.unread-unread.ensures) in
    let tops = count_by (λ b. b) (zip2 (λ a b. a && b) mask (map (is_at_top ends column.known.read) column.known.prefixes)) in
    let others = sums.rows - sums.at_top in
    let parts : count_by (λ b. b) mask ≡ tops + others = omega (arith, are.rows, are.at_top, count_both-le mask (map (is_at_top ends column.known.read) column.known.prefixes)) in
    let base_low : to_z w64 (of_z w64 c.base.result) ≡ ends.base = omega (arith, ints, c.base.ensures) in
    let base : to_z w64 (of_z w64 c.base-2.result) ≡ ends.base = omega (arith, ints, c.base-2.ensures) in
    let top : to_z w64 (of_z w64 c.top.result) ≡ ends.top = omega (arith, ints, c.top.ensures) in
    let spans : c.spans_of_rows-spans.result ≡ tops * (spread ends % 2 ^ unread) + others * (2 ^ unread - 1) =
    c.spans_of_rows-spans.ensures.sum
    ∙ ap (λ z. sums.at_top * (nat_abs (z -ℤ to_z w64 (of_z w64 c.base-2.result)) % 2 ^ u) + others * (2 ^ u - 1)) top
    ∙ ap (λ z. sums.at_top * (nat_abs (ends.top -ℤ z) % 2 ^ u) + others * (2 ^ u - 1)) base
    ∙ ap (λ n. n * (spread ends % 2 ^ u) + others * (2 ^ u - 1)) are.at_top
    ∙ ap (λ k. tops * (spread ends % 2 ^ k) + others * (2 ^ k - 1)) d in
    let lowest = c.lows_of_rows-low.result in
    let wide = c.spans_of_rows-spans.result in
    let low = c.lows_of_rows-low.ensures.few.0 in
    let high = c.lows_of_rows-low.ensures.few.1 in
    let few = c.spans_of_rows-spans.ensures.few in
    let sum : lowest ≡ total (lows_in column mask) =
    c.lows_of_rows-low.ensures.sum ∙ ap (λ b. (b *ℤ pos sums.rows) +ℤ pos (sums.numbers * 2 ^ u)) base_low
    ∙ ap (λ n. (ends.base *ℤ pos n) +ℤ pos (sums.numbers * 2 ^ u)) are.rows
    ∙ ap (λ n. (ends.base *ℤ pos (count_by (λ b. b) mask)) +ℤ pos (n * 2 ^ u)) are.numbers
    ∙ ap (λ k. (ends.base *ℤ pos (count_by (λ b. b) mask)) +ℤ pos (sum_where mask (map (number_in column) column.known.prefixes) * 2 ^ k)) d
    ∙ sym (lows column mask counts) in
    let whole : to_z w128 (of_z w128 (to_z w128 (of_z w128 lowest) +ℤ to_z w128 wide)) ≡ lowest +ℤ pos wide = omega (arith, ints) in
    whole ∙ ap (λ z. z +ℤ pos wide) sum ∙ ap (λ n. total (lows_in column mask) +ℤ pos n) spans ∙ sym (highs column mask others counts parts)

pub returns-clause-few : goal.returns-clause-few
returns-clause-few c =
    let low = c.lows_of_rows-low.ensures.few.0 in
    let high = c.lows_of_rows-low.ensures.few.1 in
    let spans = c.spans_of_rows-spans.ensures.few in (
      (omega (arith, ints, low, high), omega (arith, ints, low, high)),
      (omega (arith, ints, low, high, spans), omega (arith, ints, low, high, spans)),
    )
