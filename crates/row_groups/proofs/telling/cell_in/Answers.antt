use Rattle.std.proofs.Common.{◌≡◌, ◌+◌, ◌<◌, suc, false, [], length, get_or, drop, refl, sym, ap, ◌∙◌, arith}
use Rattle.std.proofs.lemmas.Option.{get_or_from_slice_get, slice_get_read}
use Rattle.row_groups.specs.Keeping.{first_with}
use Rattle.row_groups.proofs.Told.{first_found, first_passed}
use Rattle.row_groups.proofs.telling.cell_in.Goals as goal

pub returns-then-get : goal.returns-then-get
returns-then-get c =
    let masks = c.args.masks.now in
    let row = c.args.row in
    let cell = c.loop-cell.cell in
    let mask = c.index-masks-cell.result in
    let within : cell < length masks = omega (arith, c.loop-cell-test.true) in
    let read : get_or masks cell [] ≡ mask = get_or_from_slice_get masks cell mask [] (slice_get_read masks _ cell mask refl within c.index-masks-cell.is) in
    let has = get_or_from_slice_get mask row c.get.result false c.get.ensures ∙ c.if-get.true in
    sym (c.loop-cell.invariant ∙ ap (λ n. cell + n) (first_found row cell masks mask within read has) ∙ (let e : cell + 0 ≡ cell = omega arith in e))

pub loop-cell-preserved : goal.loop-cell-preserved
loop-cell-preserved c =
    let masks = c.args.masks.now in
    let row = c.args.row in
    let cell = c.loop-cell.cell in
    let mask = c.index-masks-cell.result in
    let within : cell < length masks = omega (arith, c.loop-cell-test.true) in
    let read : get_or masks cell [] ≡ mask = get_or_from_slice_get masks cell mask [] (slice_get_read masks _ cell mask refl within c.index-masks-cell.is) in
    let none = get_or_from_slice_get mask row c.get.result false c.get.ensures ∙ c.if-get.false in
    let later = first_with row (drop (cell + 1) masks) in
    c.loop-cell.invariant ∙ ap (λ n. cell + n) (first_passed row cell masks mask within read none) ∙ (let e : cell + suc later ≡ cell + 1 + later = omega arith in e)
