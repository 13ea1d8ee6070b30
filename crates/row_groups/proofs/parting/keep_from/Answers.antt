use Rattle.std.proofs.Common.{◌≡◌, ◌<◌, [], length, length-set, get_or, set, refl, sym, ap, ◌∙◌, arith}
use Rattle.std.proofs.lemmas.List.{get_or-set_same, set-set}
use Rattle.std.proofs.lemmas.Option.{get_or_from_slice_get, slice_get_read}
use Rattle.plane_kernels.specs.Rows.{kept_rows}
use Rattle.row_groups.proofs.parting.keep_from.Goals as goal

pub returns : goal.returns
returns c =
    let masks = c.args.masks.now in
    let to = c.args.to in
    let source = get_or masks c.args.from [] in
    let copied = c.copy_mask.new.masks in
    let there = c.index-masks-to.result in
    let within : to < length copied = omega (arith, c.requires.within, ap length c.copy_mask.ensures, length-set masks to source) in
    let read : get_or copied to [] ≡ there = get_or_from_slice_get copied to there [] (slice_get_read copied _ to there refl within c.index-masks-to.is) in
    let is : get_or copied to there ≡ source = sym c.index-masks-to.is ∙ sym read ∙ ap (λ l. get_or l to []) c.copy_mask.ensures ∙ get_or-set_same masks to source [] c.requires.within in
    ap (λ l. set l to c.keep.new.self) c.copy_mask.ensures ∙ set-set masks to source c.keep.new.self
    ∙ ap (set masks to) (c.keep.ensures ∙ ap (λ l. kept_rows c.args.bit l c.args.plane.now) is)
