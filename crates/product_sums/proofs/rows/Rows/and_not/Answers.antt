use Rattle.std.proofs.Common.{not, ◌&&◌, length, ap, sym, subst, ◌∙◌}
use Rattle.std.specs.Simd.Lanes.{zip2}
use Rattle.plane_kernels.specs.Words.{and_not}
use Rattle.plane_kernels.specs.Rows.{rows_of}
use Rattle.plane_kernels.proofs.Bitwise.{and_not_is_bitwise}
use Rattle.plane_kernels.specs.Blocks.{IsBlock}
use Rattle.plane_kernels.proofs.BlockRows.{joined_block, joined_rows}
use Rattle.product_sums.proofs.rows.Rows.and_not.Goals as goal

pub invariant_of-result : goal.invariant_of-result
invariant_of-result c =
    let as_long = ap length c.other.view_is ∙ c.requires ∙ sym (ap length c.self.view_is) in
    subst (IsBlock c.self.inside.rows) (sym c.and_not_words.ensures)
    (joined_block and_not (λ x y. x && not y) and_not_is_bitwise c.self.inside.rows c.other.inside.rows c.self.inside.words c.other.inside.words c.self.invariant c.other.invariant as_long)

pub returns : goal.returns
returns c =
    let as_long = ap length c.other.view_is ∙ c.requires ∙ sym (ap length c.self.view_is) in
    ap (rows_of c.self.inside.rows) c.and_not_words.ensures
    ∙ joined_rows and_not (λ x y. x && not y) and_not_is_bitwise c.self.inside.rows c.other.inside.rows c.self.inside.words c.other.inside.words c.self.invariant c.other.invariant as_long
    ∙ ap (λ l. zip2 (λ x y. x && not y) l (rows_of c.other.inside.rows c.other.inside.words)) c.self.view_is
    ∙ ap (zip2 (λ x y. x && not y) c.args.self.now) c.other.view_is
