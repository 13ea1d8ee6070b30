use Rattle.std.proofs.Common.{◌≡◌, false, sym, ◌∙◌, arith}
use Rattle.std.proofs.lemmas.Option.{get_or_from_slice_get}
use Rattle.aggregates.specs.Widening.{widening_rows}
use Rattle.aggregates.specs.Selections.{block_of, has_row}
use Rattle.aggregates.proofs.Widening.{none_here}
use Rattle.aggregates.proofs.RowSums.{sums_of_none}
use Rattle.aggregates.proofs.others.sums_in.Goals as goal

pub get-requires : goal.get-requires
get-requires c = omega (arith, c.requires.blocks.room, c.requires.may, c.requires.block)

pub returns-then-not-get-clause-sums : goal.returns-then-not-get-clause-sums
returns-then-not-get-clause-sums c =
    let column = c.args.known.now in
    let may = c.args.may.now in
    let must = c.args.must.now in
    let off : has_row c.args.blocks.now c.args.block ≡ false = get_or_from_slice_get c.args.blocks.now c.args.block c.get.result false c.get.ensures ∙ c.if-not-get.true in
    sums_of_none column (block_of c.args.block column.known.prefixes) (block_of c.args.block (widening_rows c.args.end column may must)) c.none.result
    (none_here c.args.end column may must c.args.blocks.now c.args.block (c.requires.must ∙ sym c.requires.may) c.requires.blocks off) c.none.ensures.rows c.none.ensures.at_top c.none.ensures.numbers

pub returns-clause-sums : goal.returns-clause-sums
returns-clause-sums c = c.sums_in_block.ensures.sums (widening_rows c.args.end c.args.known.now c.args.may.now c.args.must.now) c.others_in-rows.ensures.rows
