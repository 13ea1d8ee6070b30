use Rattle.std.proofs.Common.{length, option_map, ap, sym, ◌∙◌}
use Rattle.product_sums.proofs.SomeRows.{length_among}
use Rattle.product_sums.proofs.some_rows.PartRows.rows.Goals as goal

pub returns : goal.returns
returns c = c.rows.ensures ∙ sym (length_among c.self.inside.mask.now (option_map (λ bits. bits.now) c.self.inside.plane) c.self.invariant) ∙ ap length c.self.view_is
