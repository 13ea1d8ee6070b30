use Rattle.std.proofs.Common.{length, option_map, ap, sym, ◌∙◌}
use Rattle.product_sums.specs.SomeRows.{among}
use Rattle.product_sums.proofs.SomeRows.{length_among, still_have}
use Rattle.product_sums.proofs.some_rows.SomeRows.rows.Goals as goal

pub returns : goal.returns
returns c =
    let part = c.self.inside.part.now in
    let ones = option_map (λ bits. bits.now) c.self.inside.plane in
    let rows = option_map (λ bits. bits.now) c.self.inside.mask in
    let some = length_among part ones c.self.invariant.0 in
    c.rows.ensures ∙ sym some ∙ sym (length_among (among part ones) rows (still_have part (among part ones) rows some c.self.invariant.1)) ∙ ap length c.self.view_is
