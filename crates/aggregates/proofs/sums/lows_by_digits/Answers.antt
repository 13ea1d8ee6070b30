use Rattle.std.proofs.Common.{◌≡◌, ◌≤◌, ◌-◌, ◌*◌, ◌^◌, ◌*ℤ◌, ◌+ℤ◌, pos, map, count_by, Bool, to_z, of_z, ap, sym, subst, ◌∙◌, arith}
use Rattle.std.specs.Int.{w64, w128}
use Rattle.std.proofs.lemmas.Int.{ints}
use Rattle.std.proofs.lemmas.List.Sums.{count_by-le-length}
use Rattle.daq_table.specs.Tables.{planes}
use Rattle.aggregates.specs.Selections.{sum_where}
use Rattle.aggregates.proofs.EndSums.{Counts, few_planes, lows, number_in}
use Rattle.aggregates.proofs.sums.lows_by_digits.Goals as goal

pub lows_of_rows-requires-clause-rows : goal.lows_of_rows-requires-clause-rows
lows_of_rows-requires-clause-rows c =
    omega (arith, c.count.ensures, count_by-le-length {X = Bool} (λ b. b) c.args.mask.now, c.requires.rows, c.rows-rows.ensures.rows, c.rows-rows.ensures.few)

pub lows_of_rows-requires-clause-unread : goal.lows_of_rows-requires-clause-unread
lows_of_rows-requires-clause-unread c = omega (arith, c.unread-unread.ensures, few_planes c.args.known.now c.requires.numbers.sound)

pub lows_of_rows-requires-clause-few : goal.lows_of_rows-requires-clause-few
lows_of_rows-requires-clause-few c =
    let column = c.args.known.now in
    let d : c.unread-unread.result ≡ planes column.ends - column.known.read = omega (arith, c.unread-unread.ensures) in
    subst (λ k. c.args.numbers * 2 ^ k ≤ 618970019642690137449562112) (sym d) c.requires.numbers.few

pub returns-clause-sum : goal.returns-clause-sum
returns-clause-sum c =
    let column = c.args.known.now in
    let mask = c.args.mask.now in
    let d : c.unread-unread.result ≡ planes column.ends - column.known.read = omega (arith, c.unread-unread.ensures) in
    let counts : Counts column mask = record { sound = c.requires.numbers.sound; rows = c.requires.rows; values = c.requires.values } in
    let whole : to_z w128 (of_z w128 c.lows_of_rows.result) ≡ c.lows_of_rows.result = omega (arith, ints) in
    let base : to_z w64 (of_z w64 c.base.result) ≡ column.ends.base = omega (arith, ints, c.base.ensures) in
    whole ∙ c.lows_of_rows.ensures.sum ∙ ap (λ b. (b *ℤ pos c.count.result) +ℤ pos (c.args.numbers * 2 ^ c.unread-unread.result)) base
    ∙ ap (λ n. (column.ends.base *ℤ pos n) +ℤ pos (c.args.numbers * 2 ^ c.unread-unread.result)) c.count.ensures
    ∙ ap (λ n. (column.ends.base *ℤ pos (count_by (λ b. b) mask)) +ℤ pos (n * 2 ^ c.unread-unread.result)) c.requires.numbers.adds
    ∙ ap (λ k. (column.ends.base *ℤ pos (count_by (λ b. b) mask)) +ℤ pos (sum_where mask (map (number_in column) column.known.prefixes) * 2 ^ k)) d
    ∙ sym (lows column mask counts)
