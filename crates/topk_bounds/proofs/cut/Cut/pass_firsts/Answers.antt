use Rattle.std.proofs.Common.{◌||◌, not, length, sym, ap, ◌∙◌}
use Rattle.std.proofs.lemmas.Simd.{length-zip2}
use Rattle.topk_bounds.proofs.Marks.{kept_length}
use Rattle.topk_bounds.proofs.cut.Cut.pass_firsts.Goals as goal

pub and_not_into-requires : goal.and_not_into-requires
and_not_into-requires c =
    let old = c.args.self.now in
    let rows = c.requires in
    ap length c.keep-2.ensures ∙ kept_length old.level c.args.plane.now (sym rows.level) (not c.args.first) ∙ rows.level
    ∙ sym (ap length c.or_into.ensures ∙ length-zip2 (λ a b. a || b) old.before old.level (rows.before ∙ sym rows.level) ∙ rows.before)
