use Rattle.std.proofs.Common.{◌≡◌, ◌≤◌, ◌+◌, ◌-◌, ◌*◌, ◌^◌, ◌&&◌, List, Bool, map, length, count_by, ◌<◌, ◌⊎◌, inl, inr, ap, sym, subst, ◌∙◌, arith}
use Rattle.std.specs.Simd.Lanes.{zip2}
use Rattle.daq_table.specs.Tables.{planes}
use Rattle.known_column.specs.Columns.{KnownColumn, digit_of, rows_of_column}
use Rattle.aggregates.specs.Selections.{IsSound}
use Rattle.aggregates.proofs.EarlyNumbers.{place}
use Rattle.aggregates.proofs.NumberRows.{first_plane}
use Rattle.aggregates.proofs.EndSums.{OfColumn, short_early, short_end, short_few, short_further, short_same, sum_fits, sum_short}
use Rattle.aggregates.proofs.sums.sum_further.Goals as goal

of : (column : KnownColumn) (mask : List Bool) → IsSound column → length mask ≡ rows_of_column column → OfColumn column mask
of column mask sound rows = record { sound = sound; rows = rows }

pub loop-j-init : goal.loop-j-init
loop-j-init c =
    let column = c.args.known.now in
    let mask = c.args.mask.now in
    let h = of column mask c.number_planes-from.ensures.sound c.requires.rows in
    c.requires.first ∙ short_early column mask c.args.read h c.requires.read ∙ sym (short_same column mask c.args.read c.max-j.result h (omega (arith, c.max-j.ensures)) (far (place c.number_planes-from.result.0 c.args.read)))
  where
    far : (c.number_planes-from.result.0 ≤ c.args.read) ⊎ (c.args.read < c.number_planes-from.result.0) → (c.max-j.result ≤ c.args.read) ⊎ (c.max-j.result ≤ first_plane c.args.known.now.ends c.args.known.now.known.read)
    far (inl h) = inl (omega (arith, h, c.max-j.ensures))
    far (inr h) = inr (omega (arith, h, c.max-j.ensures, c.number_planes-from.ensures.from))

pub overflow_mul-sum : goal.overflow_mul-sum
overflow_mul-sum c =
    let h = of c.args.known.now c.args.mask.now c.number_planes-from.ensures.sound c.requires.rows in
    record { fits = omega (arith, c.loop-j.invariant, short_few c.args.known.now c.args.mask.now (c.args.known.now.known.read - c.loop-j.j) h) }

pub overflow_add-sum : goal.overflow_add-sum
overflow_add-sum c =
    let h = of c.args.known.now c.args.mask.now c.number_planes-from.ensures.sound c.requires.rows in
    record { fits = omega (arith, c.loop-j.invariant, c.from.ensures, c.count_plane.type_inv, short_few c.args.known.now c.args.mask.now (c.args.known.now.known.read - c.loop-j.j) h) }

pub loop-j-preserved : goal.loop-j-preserved
loop-j-preserved c =
    let column = c.args.known.now in
    let mask = c.args.mask.now in
    let h = of column mask c.number_planes-from.ensures.sound c.requires.rows in
    let further = short_further column mask c.loop-j.j h (omega (arith, c.loop-j.auto, c.number_planes-from.ensures.from)) (omega (arith, c.loop-j-test.true, c.number_planes-from.ensures.to)) in
    let bits : c.from.result ≡ count_by (λ b. b) (zip2 (λ a b. a && b) mask (map (digit_of column.known.read c.loop-j.j) column.known.prefixes)) =
    c.from.ensures ∙ c.count_plane.ensures ∙ ap (λ l. count_by (λ b. b) (zip2 (λ a b. a && b) mask l)) c.plane.ensures in
    ap (λ s. 2 * s + c.from.result) c.loop-j.invariant ∙ ap (λ n. 2 * sum_short column mask (column.known.read - c.loop-j.j) + n) bits ∙ sym further

pub returns : goal.returns
returns c =
    let column = c.args.known.now in
    let h = of column c.args.mask.now c.number_planes-from.ensures.sound c.requires.rows in
    let d = planes column.ends - column.known.read in
    let is = c.loop-j.invariant ∙ short_end column c.args.mask.now (column.known.read - c.loop-j.j) h (omega (arith, c.loop-j.auto, c.loop-j-test.false, c.number_planes-from.ensures.to)) in
    let fits : c.loop-j.sum * 2 ^ d ≤ 309485009821345068724781056 = subst (λ s. s * 2 ^ d ≤ 309485009821345068724781056) (sym is) (sum_fits column c.args.mask.now h) in
    record { adds = is; few = omega (arith, fits); sound = c.number_planes-from.ensures.sound }
