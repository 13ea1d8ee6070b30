use Rattle.std.proofs.Common.{◌≡◌, ◌+◌, ◌*◌, false, ◌∙◌, subst, arith}
use Rattle.std.proofs.lemmas.Option.{get_or_from_slice_get}
use Rattle.aggregates.specs.ExtremeRows.{number_so_far}
use Rattle.aggregates.specs.KeptExtremes.{kept_number, IsSearched}
use Rattle.aggregates.specs.Selections.{has_row}
use Rattle.aggregates.proofs.KeptExtremes.{reaches_onward, skipped}
use Rattle.aggregates.proofs.kept_extreme.KeptExtreme.search_some.Goals as goal
use Rattle.aggregates.proofs.kept_extreme.KeptExtreme.search_some.Goals.{then-get+in_default, else-get}

pub loop-block-preserved : goal.loop-block-preserved
loop-block-preserved c =
    let extreme = c.args.extreme in
    let column = c.args.known.now in
    let mask = c.args.mask.now in
    let self = c.args.self.now in
    let block = c.loop-block.block in
    let best = c.loop-block.best in
    let next : 512 * block + 512 ≡ 512 * (block + 1) = omega arith in
    elim c.if-get.branch [
      | then-get+in_default w ↦
          (let new = w.extreme_so_far-best.result in
          rw w.best-is (subst (λ to. IsSearched extreme column mask to self new) next (record {
            among = w.extreme_so_far-best.ensures.best;
            reaches = reaches_onward extreme (number_so_far new) (number_so_far best) (kept_number column self) w.extreme_so_far-best.ensures.reaches c.loop-block.invariant.reaches;
          })))
      | else-get w ↦
          (let off : has_row self.blocks block ≡ false = get_or_from_slice_get self.blocks block c.get.result false c.get.ensures ∙ w.if-get.false in
          rw w.best-is (subst (λ to. IsSearched extreme column mask to self best) next (skipped extreme column mask mask block self best c.requires.kept off c.loop-block.invariant)))
    ]
