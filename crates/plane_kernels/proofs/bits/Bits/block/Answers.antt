use Rattle.std.proofs.Common.{◌≡◌, ◌*◌, ◌++◌, length, take, drop, replicate, sym, ap, subst, ◌∙◌, arith}
use Rattle.plane_kernels.specs.Rows.{rows_of, block_rows, IsPadded}
use Rattle.plane_kernels.proofs.BlockLemmas.{HaveBlock, have_block}
use Rattle.plane_kernels.proofs.RowLemmas.{length-rows_of}
use Rattle.plane_kernels.proofs.bits.Bits.block.Goals as goal

pub block_of-requires : goal.block_of-requires
block_of-requires c =
    let n = c.self.inside.rows in
    let ws = c.self.inside.words.items in
    let rows : n ≡ length c.args.self.now = sym (length-rows_of n ws c.self.invariant.room) ∙ ap length c.self.view_is in
    omega (arith, rows, c.requires, ap length c.deref.ensures.value, c.self.invariant.room)

pub returns-clause-rows : goal.returns-clause-rows
returns-clause-rows c =
    let n = c.self.inside.rows in
    let ws = c.self.inside.words.items in
    let q = c.args.block in
    let rows : n ≡ length c.args.self.now = sym (length-rows_of n ws c.self.invariant.room) ∙ ap length c.self.view_is in
    let is = c.block_of.ensures ∙ ap (λ l. take 8 (drop (8 * q) l ++ replicate 8 0)) c.deref.ensures.value in
    let whole = subst (HaveBlock n q ws) (sym is) (have_block n q ws c.self.invariant) in
    ap (λ k. rows_of (block_rows k q) c.block_of.result) (sym rows) ∙ whole.rows ∙ ap (λ l. take 512 (drop (512 * q) l)) c.self.view_is

pub returns-clause-padded : goal.returns-clause-padded
returns-clause-padded c =
    let n = c.self.inside.rows in
    let ws = c.self.inside.words.items in
    let q = c.args.block in
    let rows : n ≡ length c.args.self.now = sym (length-rows_of n ws c.self.invariant.room) ∙ ap length c.self.view_is in
    let is = c.block_of.ensures ∙ ap (λ l. take 8 (drop (8 * q) l ++ replicate 8 0)) c.deref.ensures.value in
    let whole = subst (HaveBlock n q ws) (sym is) (have_block n q ws c.self.invariant) in
    subst (λ k. IsPadded (block_rows k q) c.block_of.result) rows whole.padded
