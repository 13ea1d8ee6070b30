use Rattle.std.proofs.Common.{◌&&◌, not, Some, sym, ap, ◌∙◌, arith}
use Rattle.std.proofs.lemmas.Simd.{length-zip2}
use Rattle.std.specs.Simd.Lanes.{zip2}
use Rattle.plane_kernels.proofs.Evens.{first_there, get-zip2, none_before_next, none_there}
use Rattle.plane_kernels.proofs.row_bits.RowBits.first_rest_by_rows.Goals as goal

pub returns-then-get : goal.returns-then-get
returns-then-get c =
    let rest = zip2 (λ a b. a && not b) c.args.self.now c.args.other.now in
    first_there c.loop-row.row rest c.loop-row.invariant
    (get-zip2 (λ a b. a && not b) c.args.self.now c.args.other.now c.loop-row.row c.get.result c.get-in-loop-row.result c.get.ensures c.get-in-loop-row.ensures ∙ ap Some c.if-get.true)

pub loop-row-preserved : goal.loop-row-preserved
loop-row-preserved c =
    let rest = zip2 (λ a b. a && not b) c.args.self.now c.args.other.now in
    none_before_next c.loop-row.row rest c.loop-row.invariant
    (get-zip2 (λ a b. a && not b) c.args.self.now c.args.other.now c.loop-row.row c.get.result c.get-in-loop-row.result c.get.ensures c.get-in-loop-row.ensures ∙ ap Some c.if-get.false)

pub returns : goal.returns
returns c =
    let long = length-zip2 (λ a b. a && not b) c.args.self.now c.args.other.now (sym c.requires) in
    none_there c.loop-row.row (zip2 (λ a b. a && not b) c.args.self.now c.args.other.now) c.loop-row.invariant (long ∙ omega (arith, c.rows-row-end.ensures, c.loop-row-test.false))
