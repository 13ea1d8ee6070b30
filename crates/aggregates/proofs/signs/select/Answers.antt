use Rattle.std.proofs.Common.{◌&&◌, ◌||◌, cond, length, ap, sym, ◌∙◌}
use Rattle.std.specs.Simd.Lanes.{zip2}
use Rattle.aggregates.proofs.EndSigns.{length_of}
use Rattle.aggregates.proofs.signs.select.Goals as goal

pub and_into-requires : goal.and_into-requires
and_into-requires c =
    let copied = ap length c.copy_from.ensures in
    let level = c.requires.level ∙ sym (copied ∙ c.requires.beyond) in
    sym (ap length c.add_if.ensures ∙ length_of c.args.with_level c.copy_from.new.self c.args.level.now level ∙ copied ∙ c.requires.beyond)

pub returns : goal.returns
returns c =
    c.and_into.ensures ∙ ap (λ l. zip2 (λ a b. a && b) l c.args.within.now) c.add_if.ensures
    ∙ ap (λ b. zip2 (λ a b. a && b) (cond c.args.with_level (zip2 (λ a b. a || b) b c.args.level.now) b) c.args.within.now) c.copy_from.ensures
