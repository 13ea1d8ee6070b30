use Rattle.std.proofs.Common.{◌≡◌, ◌<◌, ◌*◌, length, option_map, IfSome, ap, sym, subst, ◌∙◌, arith}
use Rattle.aggregates.specs.Selections.{block_of}
use Rattle.product_sums.specs.SomeRows.{among}
use Rattle.product_sums.proofs.SomeRows.{block_among, can_keep, fused, length_among, still_have}
use Rattle.product_sums.proofs.some_rows.SomeRows.block.Goals as goal

pub block-requires : goal.block-requires
block-requires c =
    let part = c.self.inside.part.now in
    let ones = option_map (λ bits. bits.now) c.self.inside.plane in
    let rows = option_map (λ bits. bits.now) c.self.inside.mask in
    let some = length_among part ones c.self.invariant.0 in
    let all = length_among (among part ones) rows (still_have part (among part ones) rows some c.self.invariant.1) in
    omega (arith, c.requires, some, all, ap length c.self.view_is)

pub keep_ones-ones-requires : goal.keep_ones-ones-requires
keep_ones-ones-requires c =
    let part = c.self.inside.part.now in
    let block = c.args.block in
    let ones = option_map (λ bits. bits.now) c.self.inside.plane in
    let rows = option_map (λ bits. bits.now) c.self.inside.mask in
    let some = length_among part ones c.self.invariant.0 in
    let all = length_among (among part ones) rows (still_have part (among part ones) rows some c.self.invariant.1) in
    let within : 512 * block < length part = omega (arith, c.requires, some, all, ap length c.self.view_is) in
    subst (λ here. IfSome c.self.inside.plane (λ bits. (512 * block < length bits.now) × (length (block_of block bits.now) ≡ length here))) (sym c.block.ensures)
    (can_keep (λ bits. bits.now) c.self.inside.plane block part c.self.invariant.0 within)

pub keep_rows-requires : goal.keep_rows-requires
keep_rows-requires c =
    let part = c.self.inside.part.now in
    let block = c.args.block in
    let plane = c.self.inside.plane in
    let ones = option_map (λ bits. bits.now) plane in
    let rows = option_map (λ bits. bits.now) c.self.inside.mask in
    let some = length_among part ones c.self.invariant.0 in
    let have = still_have part (among part ones) rows some c.self.invariant.1 in
    let all = length_among (among part ones) rows have in
    let within : 512 * block < length (among part ones) = omega (arith, c.requires, all, ap length c.self.view_is) in
    let here = c.keep_ones-ones.ensures ∙ ap (λ h. among h (option_map (λ bits. block_of block bits.now) plane)) c.block.ensures
    ∙ ap (among (block_of block part)) (fused (λ bits. bits.now) (block_of block) plane) ∙ sym (block_among block part ones) in
    subst (λ here. IfSome c.self.inside.mask (λ bits. (512 * block < length bits.now) × (length (block_of block bits.now) ≡ length here))) (sym here)
    (can_keep (λ bits. bits.now) c.self.inside.mask block (among part ones) have within)

pub returns : goal.returns
returns c =
    let part = c.self.inside.part.now in
    let block = c.args.block in
    let plane = c.self.inside.plane in
    let mask = c.self.inside.mask in
    let ones = option_map (λ bits. bits.now) plane in
    let here = c.keep_ones-ones.ensures ∙ ap (λ h. among h (option_map (λ bits. block_of block bits.now) plane)) c.block.ensures
    ∙ ap (among (block_of block part)) (fused (λ bits. bits.now) (block_of block) plane) ∙ sym (block_among block part ones) in
    c.keep_rows.ensures ∙ ap (λ h. among h (option_map (λ bits. block_of block bits.now) mask)) here
    ∙ ap (among (block_of block (among part ones))) (fused (λ bits. bits.now) (block_of block) mask) ∙ sym (block_among block (among part ones) (option_map (λ bits. bits.now) mask)) ∙ ap (block_of block) c.self.view_is
