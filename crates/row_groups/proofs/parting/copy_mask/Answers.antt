use Rattle.std.proofs.Common.{◌≡◌, ◌-◌, ◌<◌, ◌++◌, [], length, get_or, set, refl, sym, ap, ◌∙◌, arith}
use Rattle.std.proofs.Math.ListN.{get_or-append}
use Rattle.std.proofs.lemmas.List.{set-append_right}
use Rattle.std.proofs.lemmas.Option.{get_or_from_slice_get, slice_get_read}
use Rattle.row_groups.proofs.parting.copy_mask.Goals as goal

pub returns : goal.returns
returns c =
    let masks = c.args.masks.now in
    let from = c.args.from in
    let to = c.args.to in
    let cut = c.split_at_mut-before.ensures in
    let front = c.split_at_mut-before.result.0.now in
    let back = c.split_at_mut-before.result.1.now in
    let within : from < length front = omega (arith, cut.front_len, c.requires.order, c.if-from-to.false) in
    let read = get_or_from_slice_get front from c.index-before-from.result [] (slice_get_read front _ from c.index-before-from.result refl within c.index-before-from.is) in
    let source : get_or masks from [] ≡ c.copy_from.new.self = ap (λ l. get_or l from []) cut.value ∙ get_or-append front back [] from within ∙ read ∙ c.index-before-from.is ∙ sym c.copy_from.ensures in
    let none : 0 ≡ to - to = omega arith in
    ap (λ v. front ++ set back 0 v) (sym source) ∙ ap (λ n. front ++ set back n (get_or masks from [])) none
    ∙ sym (set-append_right front back to to (get_or masks from []) cut.front_len (omega arith)) ∙ ap (λ l. set l to (get_or masks from [])) (sym cut.value)
