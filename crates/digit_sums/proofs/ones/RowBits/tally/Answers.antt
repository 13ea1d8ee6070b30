use Rattle.std.proofs.Common.{◌≡◌, ◌+◌, ◌*◌, ◌^◌, ◌<◌, ◌+ℤ◌, pos, ℤ, refl, ap, ◌∙◌, arith, to_z, of_z}
use Rattle.std.specs.Int.{w128}
use Rattle.std.proofs.lemmas.Int.{ints}
use Rattle.digit_sums.specs.Ones.{spans_by}
use Rattle.digit_sums.proofs.ReadCells.{tally_read, tally_stays}
use Rattle.digit_sums.proofs.ones.RowBits.tally.Goals as goal

abbrev again : ℤ → ℤ
again z = to_z w128 (of_z w128 z)

pub returns-then-old-eq0 : goal.returns-then-old-eq0
returns-then-old-eq0 c = λ kind sums before now is read.
    tally_stays c.args.ends c.args.alone kind before now c.args.self c.args.highs c.args.old.now is read c.if-old-eq0.true

pub returns : goal.returns
returns c = λ kind sums before now is read.
    let old = c.args.old.now in
    let ends = c.args.ends in
    let bits = c.args.self in
    let highs = c.args.highs in
    let least = c.if-old-lt0.false in
    let most = c.if-old-gt-GREAT_SUM.false in
    let weight = c.weight.result in
    let weight_is = c.from-2.ensures in
    let spans_is = c.from-3.ensures in
    let highs_is = c.from-4.ensures in
    let few = c.spans.ensures.few in
    let fits = c.ranges.highs.fits in
    let first : again (again old.low_sum +ℤ again c.from-2.result) ≡ old.low_sum +ℤ pos weight = omega (arith, ints, least, most, weight_is) in
    let low : again (again old.low_sum +ℤ again c.from-2.result) ≡ old.low_sum +ℤ pos (bits.ones * 2 ^ ends.unread) = first ∙ ap (λ k. old.low_sum +ℤ pos k) c.weight.ensures in
    let spans : c.spans.result + highs ≡ spans_by ends old.certain bits.at_top + highs = ap (λ k. k + highs) c.spans.ensures.sum in
    let second : again (again (again old.low_sum +ℤ again c.from-2.result) +ℤ again c.from-3.result) ≡ again (again old.low_sum +ℤ again c.from-2.result) +ℤ pos c.spans.result =
    omega (arith, ints, least, most, weight_is, spans_is, few) in
    let high : again (again (again (again old.low_sum +ℤ again c.from-2.result) +ℤ again c.from-3.result) +ℤ again c.from-4.result) ≡ again (again old.low_sum +ℤ again c.from-2.result) +ℤ pos (c.spans.result + highs) =
    omega (arith, ints, least, most, weight_is, spans_is, highs_is, few, fits) in
    let some : 0 < old.certain = omega (arith, c.if-old-eq0-2.false) in
    tally_read ends c.args.alone kind before now bits highs old _ _ _ _ sums is read c.if-not-alone.false some refl refl low (high ∙ ap (λ k. again (again old.low_sum +ℤ again c.from-2.result) +ℤ pos k) spans)
