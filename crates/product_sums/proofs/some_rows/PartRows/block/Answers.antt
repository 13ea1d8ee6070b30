use Rattle.std.proofs.Common.{◌≡◌, ◌<◌, ◌*◌, length, option_map, IfSome, ap, sym, subst, ◌∙◌, arith}
use Rattle.aggregates.specs.Selections.{block_of}
use Rattle.product_sums.specs.SomeRows.{among}
use Rattle.product_sums.proofs.SomeRows.{block_among, can_keep, fused, length_among}
use Rattle.product_sums.proofs.some_rows.PartRows.block.Goals as goal

pub of_mask-requires : goal.of_mask-requires
of_mask-requires c =
    let mask = c.self.inside.mask.now in
    let all = length_among mask (option_map (λ bits. bits.now) c.self.inside.plane) c.self.invariant in
    omega (arith, c.requires, all, ap length c.self.view_is)

pub keep_ones-requires : goal.keep_ones-requires
keep_ones-requires c =
    let mask = c.self.inside.mask.now in
    let block = c.args.block in
    let all = length_among mask (option_map (λ bits. bits.now) c.self.inside.plane) c.self.invariant in
    let within : 512 * block < length mask = omega (arith, c.requires, all, ap length c.self.view_is) in
    subst (λ here. IfSome c.self.inside.plane (λ bits. (512 * block < length bits.now) × (length (block_of block bits.now) ≡ length here))) (sym c.of_mask.ensures)
    (can_keep (λ bits. bits.now) c.self.inside.plane block mask c.self.invariant within)

pub returns : goal.returns
returns c =
    let mask = c.self.inside.mask.now in
    let plane = c.self.inside.plane in
    let block = c.args.block in
    c.keep_ones.ensures ∙ ap (λ here. among here (option_map (λ bits. block_of block bits.now) plane)) c.of_mask.ensures
    ∙ ap (among (block_of block mask)) (fused (λ bits. bits.now) (block_of block) plane) ∙ sym (block_among block mask (option_map (λ bits. bits.now) plane)) ∙ ap (block_of block) c.self.view_is
