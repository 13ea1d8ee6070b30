use Rattle.std.proofs.Common.{not, ◌&&◌, length, ap, sym, ◌∙◌}
use Rattle.std.proofs.lemmas.Simd.{length-zip2}
use Rattle.avg_exact.proofs.planes.pass.Goals as goal

pub or-requires : goal.or-requires
or-requires c = ap length c.and_not.ensures ∙ length-zip2 (λ a b. a && not b) c.args.level.now c.args.digits.now (sym c.requires.digits) ∙ sym c.requires.beyond

pub or-requires-in-High-false : goal.or-requires-in-High-false
or-requires-in-High-false c = ap length c.and.ensures ∙ length-zip2 (λ a b. a && b) c.args.level.now c.args.digits.now (sym c.requires.digits) ∙ sym c.requires.beyond
