use Rattle.std.proofs.Common.{◌≤◌, ◌^◌, arith}
use Rattle.std.proofs.Math.Nat.{pow-le-pow_right}
use Rattle.row_groups.specs.Partition.{RowCells, digits_of}
use Rattle.row_groups.proofs.Joining.{digits_few}
use Rattle.std.proofs.Common.{ap}
use Rattle.row_groups.proofs.cells.Cells.read_rows.Goals as goal

pub overflow_cast-block : goal.overflow_cast-block
overflow_cast-block c =
    let planes = c.self.invariant.kept.planes in
    let digits = digits_of c.args.self.now.parts in
    let few : digits ≤ 16 = omega (arith, planes, ap (λ (r : RowCells). digits_of r.parts) c.self.view_is, digits_few c.self.inside.parts.items c.self.invariant.kept.read) in
    let most : 2 ^ digits ≤ 2 ^ 16 = pow-le-pow_right (omega arith) few in
    record { fits = omega (arith, most, c.cell_of.ensures.counted) }
