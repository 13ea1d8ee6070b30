-- The text of a value of a column that can be spelled is there, and fits.
use Rattle.std.proofs.Common.{◌≡◌, ◌+◌, ◌<◌, length, sym, subst, ap, arith, to_z, of_z}
use Rattle.std.proofs.lemmas.Int.{ints}
use Rattle.std.specs.Int.{w128}
use Rattle.daq_table.specs.ValueTexts.{HasText, text_of_value}
use Rattle.daq_cli.proofs.SpelledTexts.{spelled_short, spelled_texts}
use Rattle.daq_cli.proofs.commands.info.written_value.Goals as goal

pub value_text-requires : goal.value_text-requires
value_text-requires c =
    let same : to_z w128 (of_z w128 c.from.result) ≡ c.args.value = omega (arith, ints, c.from.ensures) in
    subst (HasText c.args.column.now.kind) (sym same) ((spelled_texts c.args.column.now c.requires.spelled).between c.args.value c.requires.above c.requires.below)

pub unreachable-requires : goal.unreachable-requires
unreachable-requires c =
    let column = c.args.column.now in
    let same : to_z w128 (of_z w128 c.from.result) ≡ c.args.value = omega (arith, ints, c.from.ensures) in
    let short = spelled_short column c.args.value c.requires.spelled c.requires.above c.requires.below in
    let over = subst (λ v. 640 < length c.new-text.result + length (text_of_value column v)) same c.in-Err.ensures.err.1 in
    omega (arith, short, over, ap length c.new-text.ensures)
