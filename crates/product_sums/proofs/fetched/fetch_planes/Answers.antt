use Rattle.std.proofs.Common.{◌≡◌, ◌+◌, ◌-◌, sym, subst, ◌∙◌, arith}
use Rattle.std.specs.Prelude.{set}
use Rattle.std.proofs.lemmas.List.{length-set}
use Rattle.product_sums.specs.Fetched.{AreFetchedBelow, IsBlockOf, first_digit, ones_of}
use Rattle.product_sums.proofs.Fetching.{fetched_more}
use Rattle.product_sums.proofs.fetched.fetch_planes.Goals as goal

pub loop-j-preserved : goal.loop-j-preserved
loop-j-preserved c =
    let column = c.args.known.now in
    let j = c.loop-j.j in
    let first : first_digit column ≡ c.number_planes-from.result.0 = sym c.number_planes-from.ensures.from in
    let at : j - first_digit column ≡ c.from.result = omega (arith, c.from.ensures, first) in
    let is : IsBlockOf (ones_of column j) c.args.block c.block.result = subst (λ p. IsBlockOf p c.args.block c.block.result) c.plane.ensures (record { bits = c.block.ensures.rows; padded = c.block.ensures.padded }) in (
      length-set c.loop-j.room.planes c.from.result c.block.result ∙ c.loop-j.invariant.0,
      subst (λ n. AreFetchedBelow column c.args.block (set c.loop-j.room.planes n c.block.result) (j + 1)) at
          (fetched_more column c.args.block c.loop-j.room.planes c.block.result j c.loop-j.invariant.1 (omega (arith, first, c.loop-j.auto)) (omega (arith, first, c.requires.few, c.loop-j-test.true, c.number_planes-from.ensures.to, c.loop-j.invariant.0)) is),
    )

pub returns : goal.returns
returns c = λ j from small. c.loop-j.invariant.1 j from (omega (arith, small, c.loop-j-test.false, c.number_planes-from.ensures.to))
