use Rattle.std.proofs.Common.{◌≡◌, ◌+ℤ◌, ◌<ℤ◌, pos, arith, sym}
use Rattle.std.proofs.lemmas.Int.{ints}
use Rattle.report_parts.proofs.Splits.{near_below, near_less, near_more, near_rests}
use Rattle.report_parts.proofs.near.are_near.Goals as goal

pub returns-then-above-below : goal.returns-then-above-below
returns-then-above-below c =
    let less : c.whole_part-above.result.whole <ℤ c.whole_part-below.result.whole = omega (arith, ints, c.if-above-below.true) in
    sym (near_below c.args.width c.args.high.num c.args.low.num c.whole_part-above.result.whole c.whole_part-below.result.whole c.args.high.den c.args.low.den
    c.whole_part-above.result.rest c.whole_part-below.result.rest c.whole_part-above.ensures c.whole_part-below.ensures less)

pub returns-then-apart-width : goal.returns-then-apart-width
returns-then-apart-width c =
    let d = c.abs_diff-apart.result in
    let apart : c.whole_part-above.result.whole ≡ c.whole_part-below.result.whole +ℤ pos d = omega (arith, ints, c.abs_diff-apart.ensures, c.if-above-below.false) in
    sym (near_less c.args.width c.args.high.num c.args.low.num c.whole_part-above.result.whole c.whole_part-below.result.whole c.args.high.den c.args.low.den
    c.whole_part-above.result.rest c.whole_part-below.result.rest d c.whole_part-above.ensures c.whole_part-below.ensures apart
    (omega (arith, c.from-width.ensures, c.if-apart-width.true)))

pub returns-then-apart-width-2 : goal.returns-then-apart-width-2
returns-then-apart-width-2 c =
    let d = c.abs_diff-apart.result in
    let apart : c.whole_part-above.result.whole ≡ c.whole_part-below.result.whole +ℤ pos d = omega (arith, ints, c.abs_diff-apart.ensures, c.if-above-below.false) in
    sym (near_more c.args.width c.args.high.num c.args.low.num c.whole_part-above.result.whole c.whole_part-below.result.whole c.args.high.den c.args.low.den
    c.whole_part-above.result.rest c.whole_part-below.result.rest d c.whole_part-above.ensures c.whole_part-below.ensures apart
    (omega (arith, c.from-width.ensures, c.if-apart-width-2.true)))

pub returns : goal.returns
returns c =
    let d = c.abs_diff-apart.result in
    let apart : c.whole_part-above.result.whole ≡ c.whole_part-below.result.whole +ℤ pos d = omega (arith, ints, c.abs_diff-apart.ensures, c.if-above-below.false) in
    rw (c.from.ensures, c.from-2.ensures, c.from-3.ensures, c.from-4.ensures)
    (sym (near_rests c.args.width c.args.high.num c.args.low.num c.whole_part-above.result.whole c.whole_part-below.result.whole c.args.high.den c.args.low.den
    c.whole_part-above.result.rest c.whole_part-below.result.rest d c.whole_part-above.ensures c.whole_part-below.ensures apart
    (omega (arith, c.from-width.ensures, c.if-apart-width.false, c.if-apart-width-2.false))))
