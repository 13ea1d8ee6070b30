use Rattle.std.proofs.Common.{◌≤◌, ◌-◌, ◌*◌, ◌^◌, sym, subst, ◌∙◌, arith}
use Rattle.daq_table.specs.Tables.{planes}
use Rattle.known_column.specs.Columns.{number_of}
use Rattle.aggregates.proofs.BlockSums.{all_blocks, next_block}
use Rattle.aggregates.proofs.EndSums.{OfColumn, sum_fits}
use Rattle.aggregates.proofs.sums.sum_by_blocks.Goals as goal

pub loop-block-preserved : goal.loop-block-preserved
loop-block-preserved c =
    let column = c.args.known.now in
    let f = number_of column.ends column.known.read in (
      omega (arith, c.loop-block.invariant.0, c.sum_block-sum.ensures.sum, next_block c.args.mask.now column.known.prefixes f c.loop-block.block c.requires.rows),
      omega (arith, c.loop-block.invariant.1, c.sum_block-sum.ensures.few),
    )

pub returns : goal.returns
returns c =
    let column = c.args.known.now in
    let mask = c.args.mask.now in
    let of : OfColumn column mask = record { sound = c.number_planes-planes.ensures.sound; rows = c.requires.rows } in
    let d = planes column.ends - column.known.read in
    let is = c.loop-block.invariant.0 ∙ all_blocks mask column.known.prefixes (number_of column.ends column.known.read) c.loop-block.block c.requires.rows (omega arith) in
    let fits : c.loop-block.sum * 2 ^ d ≤ 309485009821345068724781056 = subst (λ s. s * 2 ^ d ≤ 309485009821345068724781056) (sym is) (sum_fits column mask of) in
    record { adds = is; few = omega (arith, fits); sound = c.number_planes-planes.ensures.sound }
