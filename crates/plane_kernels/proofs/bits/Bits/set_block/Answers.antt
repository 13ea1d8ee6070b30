use Rattle.std.proofs.Common.{◌≡◌, ◌-◌, ◌*◌, length, sym, ap, ◌∙◌, arith}
use Rattle.std.specs.Simd.Lanes.{put_chunk}
use Rattle.plane_kernels.specs.Rows.{rows_of, block_rows}
use Rattle.plane_kernels.specs.Words.{trimmed}
use Rattle.plane_kernels.proofs.BlockLemmas.{padded_block, put_block}
use Rattle.plane_kernels.proofs.Puts.{put_back}
use Rattle.plane_kernels.proofs.RowLemmas.{length-rows_of}
use Rattle.plane_kernels.proofs.bits.Bits.set_block.Goals as goal

pub set_block-requires-clause-within : goal.set_block-requires-clause-within
set_block-requires-clause-within c =
    let n = c.self.inside.rows in
    let ws = c.self.inside.words.items in
    let rows : n ≡ length c.args.self.now = sym (length-rows_of n ws c.self.invariant.room) ∙ ap length c.self.view_is in
    omega (arith, rows, c.requires, ap length c.deref_mut.ensures.value, c.self.invariant.room)

pub invariant_of-self : goal.invariant_of-self
invariant_of-self c =
    let n = c.self.inside.rows in
    let q = c.args.block in
    let put = put_back n (8 * q) c.self.inside.words.items (trimmed (n - 512 * q) c.args.words.now) c.set_block.new.words c.deref_mut.result.now c.self.inside.words.len c.self.invariant
    (padded_block n q c.args.words.now) c.set_block.ensures c.deref_mut.ensures.value c.deref_mut.ensures.len in
    put.holds

pub returns : goal.returns
returns c =
    let n = c.self.inside.rows in
    let ws = c.self.inside.words.items in
    let q = c.args.block in
    let words = c.args.words.now in
    let rows : n ≡ length c.args.self.now = sym (length-rows_of n ws c.self.invariant.room) ∙ ap length c.self.view_is in
    let put = put_back n (8 * q) ws (trimmed (n - 512 * q) words) c.set_block.new.words c.deref_mut.result.now c.self.inside.words.len c.self.invariant
    (padded_block n q words) c.set_block.ensures c.deref_mut.ensures.value c.deref_mut.ensures.len in
    put_block n q ws words _ (omega arith) put ∙ ap (λ l. put_chunk (512 * q) l (rows_of (block_rows n q) words)) c.self.view_is
    ∙ ap (λ k. put_chunk (512 * q) c.args.self.now (rows_of (block_rows k q) words)) rows
