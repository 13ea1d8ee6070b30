use Rattle.std.proofs.Common.{◌≡◌, ◌+◌, ◌*◌, false, Some, refl, sym, subst, ◌∙◌, arith}
use Rattle.std.specs.Prelude.{IfSome, IsNone}
use Rattle.std.proofs.lemmas.Option.{get_or_from_slice_get}
use Rattle.aggregates.specs.ExtremeRows.{IsBestOf}
use Rattle.aggregates.specs.KeptExtremes.{IsSearched}
use Rattle.aggregates.specs.Selections.{has_row}
use Rattle.aggregates.proofs.KeptExtremes.{found_further, passed, skipped}
use Rattle.aggregates.proofs.kept_extreme.KeptExtreme.search.Goals as goal
use Rattle.aggregates.proofs.kept_extreme.KeptExtreme.search.Goals.{then-get+in_default+in-Some-extreme_in_block, then-get+in_default+in-None, else-get}

pub loop-block-preserved : goal.loop-block-preserved
loop-block-preserved c =
    let extreme = c.args.extreme in
    let column = c.args.known.now in
    let may = c.args.may.now in
    let must = c.args.must.now in
    let block = c.loop-block.block in
    let self = c.loop-block.self in
    let best = c.loop-block.best in
    let hold = c.loop-block.invariant.0 in
    let searched = c.loop-block.invariant.1 in
    let count = c.loop-block.invariant.2 in
    let next : 512 * block + 512 ≡ 512 * (block + 1) = omega arith in
    elim c.if-get.branch [
      | then-get+in_default+in-Some-extreme_in_block w ↦
          (let new = w.better.result in
          let of = subst (λ o. IfSome o (IsBestOf extreme column may (512 * block) (512 * block + 512))) w.in-Some-extreme_in_block.is w.extreme_in_block.ensures.found in
          rw (w.self-is, w.best-is) (
            hold,
            subst (λ to. IsSearched extreme column may to self (Some new)) next
                (found_further extreme column may block self best w.in-Some-extreme_in_block.found new w.better.ensures.one w.better.ensures.far w.better.ensures.best of searched),
            count,
          ))
      | then-get+in_default+in-None w ↦
          (let new = w.leave.new.self in
          let behind = w.extreme_in_block.ensures.behind (subst IsNone (sym w.in-None.is) refl) in
          let both = passed extreme column may must block self new best hold behind w.leave.ensures searched in
          rw (w.self-is, w.best-is) (
            both.0,
            subst (λ to. IsSearched extreme column may to new best) next both.1,
            omega (arith, both.0.room, both.0.tight, hold.room, hold.tight, count),
          ))
      | else-get w ↦
          (let off : has_row self.blocks block ≡ false = get_or_from_slice_get self.blocks block c.get.result false c.get.ensures ∙ w.if-get.false in
          rw (w.self-is, w.best-is) (hold, subst (λ to. IsSearched extreme column may to self best) next (skipped extreme column may must block self best hold off searched), count))
    ]
