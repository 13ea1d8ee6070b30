use Rattle.std.proofs.Common.{◌&&◌, not, Bool, Some, sym, ap, ◌∙◌, arith}
use Rattle.std.proofs.lemmas.Simd.{length-zip2}
use Rattle.std.specs.Simd.Lanes.{zip2}
use Rattle.plane_kernels.proofs.Evens.{first_there, get-zip2, none_before_next, none_there}
use Rattle.plane_kernels.proofs.row_bits.RowBits.first_past_by_rows.Goals as goal

pub returns-then-get-allowed : goal.returns-then-get-allowed
returns-then-get-allowed c =
    let f : Bool → Bool → Bool = λ a b. a && not b in
    let allowed = get-zip2 f c.args.within.now c.args.without.now c.loop-row.row c.get.result c.get-in-loop-row.result c.get.ensures c.get-in-loop-row.ensures in
    first_there c.loop-row.row (zip2 f c.args.self.now (zip2 f c.args.within.now c.args.without.now)) c.loop-row.invariant
    (get-zip2 f c.args.self.now (zip2 f c.args.within.now c.args.without.now) c.loop-row.row c.get-in-loop-row-2.result (c.get.result && not c.get-in-loop-row.result) c.get-in-loop-row-2.ensures allowed ∙ ap Some c.if-get-allowed.true)

pub loop-row-preserved : goal.loop-row-preserved
loop-row-preserved c =
    let f : Bool → Bool → Bool = λ a b. a && not b in
    let allowed = get-zip2 f c.args.within.now c.args.without.now c.loop-row.row c.get.result c.get-in-loop-row.result c.get.ensures c.get-in-loop-row.ensures in
    none_before_next c.loop-row.row (zip2 f c.args.self.now (zip2 f c.args.within.now c.args.without.now)) c.loop-row.invariant
    (get-zip2 f c.args.self.now (zip2 f c.args.within.now c.args.without.now) c.loop-row.row c.get-in-loop-row-2.result (c.get.result && not c.get-in-loop-row.result) c.get-in-loop-row-2.ensures allowed ∙ ap Some c.if-get-allowed.false)

pub returns : goal.returns
returns c =
    let f : Bool → Bool → Bool = λ a b. a && not b in
    let short = length-zip2 f c.args.within.now c.args.without.now (c.requires.within ∙ sym c.requires.without) in
    let long = length-zip2 f c.args.self.now (zip2 f c.args.within.now c.args.without.now) (sym (short ∙ c.requires.within)) in
    none_there c.loop-row.row (zip2 f c.args.self.now (zip2 f c.args.within.now c.args.without.now)) c.loop-row.invariant (long ∙ omega (arith, c.rows-row-end.ensures, c.loop-row-test.false))
