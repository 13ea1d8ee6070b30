-- The text of a value fits, since none is long.
use Rattle.std.proofs.Common.{◌<◌, ◌^◌, ◌++◌, length, unsigned_abs, arith, ap, ◌∙◌}
use Rattle.std.proofs.lemmas.Int.{ints, to_z-of_z}
use Rattle.daq_table.specs.ValueTexts.{text_of_value}
use Rattle.daq_report.specs.Ends.{decimals_of}
use Rattle.daq_report.proofs.Lengths.{value_short}
use Rattle.daq_report.proofs.texts.written_value.Goals as goal

pub unreachable-requires : goal.unreachable-requires
unreachable-requires c =
    let column = c.args.column.now in
    let few : decimals_of column.kind < 256 = omega (arith, c.decimals-decimals.ensures) in
    let wide : unsigned_abs c.args.value < 2 ^ 128 = omega (arith, ints) in
    let short = value_short column c.args.value few wide c.requires in
    let over = simp (to_z-of_z, c.ranges.value) at c.in-Err.ensures.err.1 in
    omega (arith, short, over, ap length c.new-text.ensures)

pub returns-clause-short : goal.returns-clause-short
returns-clause-short c =
    let column = c.args.column.now in
    let few : decimals_of column.kind < 256 = omega (arith, c.decimals-decimals.ensures) in
    let wide : unsigned_abs c.args.value < 2 ^ 128 = omega (arith, ints) in
    let short = value_short column c.args.value few wide c.requires in
    let text = simp (to_z-of_z, c.ranges.value) at c.in-Ok.ensures.ok in
    let empty = ap (λ l. length (l ++ text_of_value column c.args.value)) c.new-text.ensures in
    omega (arith, short, ap length text ∙ empty)
