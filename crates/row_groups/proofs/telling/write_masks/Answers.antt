use Rattle.std.proofs.Common.{◌≡◌, ◌+◌, ◌-◌, ◌<◌, [], length, get_or, refl, sym, ap, ◌∙◌, arith}
use Rattle.std.specs.Simd.Lanes.{zip2}
use Rattle.std.proofs.lemmas.Option.{get_or_from_slice_get, slice_get_read}
use Rattle.row_groups.specs.Keeping.{written}
use Rattle.row_groups.proofs.Told.{told_from, told_from_before, told_from_last}
use Rattle.row_groups.proofs.telling.write_masks.Goals as goal

pub loop-done-init : goal.loop-done-init
loop-done-init c =
    let masks = c.args.masks.now in
    let all : length masks ≡ length masks - 0 = omega arith in
    told_from_last (length c.args.cells.now) masks c.args.cells.now c.requires.none ∙ ap (told_from (length c.args.cells.now) masks) all

pub loop-done-preserved : goal.loop-done-preserved
loop-done-preserved c =
    let masks = c.args.masks.now in
    let rows = length c.args.cells.now in
    let done = c.loop-done.done in
    let cell = length masks - 1 - done in
    let mask = c.index-masks-cell.result in
    let less : done < length masks = omega (arith, c.loop-done-test.true) in
    let within : cell < length masks = omega (arith, less) in
    let read : get_or masks cell [] ≡ mask = get_or_from_slice_get masks cell mask [] (slice_get_read masks _ cell mask refl within c.index-masks-cell.is) in
    let before : length masks - done ≡ cell + 1 = omega (arith, less) in
    let after : cell ≡ length masks - (done + 1) = omega (arith, less) in
    c.write_mask.ensures ∙ ap (λ l. zip2 (written cell) l mask) (c.loop-done.invariant ∙ ap (told_from rows masks) before)
    ∙ told_from_before rows cell masks mask [] within (sym read) (ap length (sym read) ∙ c.requires.long cell within) ∙ ap (told_from rows masks) after
