use Rattle.std.proofs.Common.{◌&&◌, length, ap, sym, subst, ◌∙◌}
use Rattle.std.specs.Simd.Lanes.{zip2}
use Rattle.std.specs.Int.Bits.{bit_and}
use Rattle.plane_kernels.specs.Rows.{rows_of}
use Rattle.plane_kernels.proofs.Bitwise.{and_is_bitwise}
use Rattle.plane_kernels.specs.Blocks.{IsBlock}
use Rattle.plane_kernels.proofs.BlockRows.{joined_block, joined_rows}
use Rattle.product_sums.proofs.rows.Rows.and.Goals as goal

pub invariant_of-result : goal.invariant_of-result
invariant_of-result c =
    let as_long = ap length c.other.view_is ∙ c.requires ∙ sym (ap length c.self.view_is) in
    subst (IsBlock c.self.inside.rows) (sym c.and_words.ensures)
    (joined_block bit_and (λ x y. x && y) and_is_bitwise c.self.inside.rows c.other.inside.rows c.self.inside.words c.other.inside.words c.self.invariant c.other.invariant as_long)

pub returns : goal.returns
returns c =
    let as_long = ap length c.other.view_is ∙ c.requires ∙ sym (ap length c.self.view_is) in
    ap (rows_of c.self.inside.rows) c.and_words.ensures
    ∙ joined_rows bit_and (λ x y. x && y) and_is_bitwise c.self.inside.rows c.other.inside.rows c.self.inside.words c.other.inside.words c.self.invariant c.other.invariant as_long
    ∙ ap (λ l. zip2 (λ x y. x && y) l (rows_of c.other.inside.rows c.other.inside.words)) c.self.view_is
    ∙ ap (zip2 (λ x y. x && y) c.args.self.now) c.other.view_is
