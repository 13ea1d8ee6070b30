use Rattle.std.proofs.Common.{◌≡◌, ◌-◌, ◌*◌, [], ◌∷◌, min, length, sym, ap, ◌∙◌, arith}
use Rattle.std.specs.Simd.Lanes.{put_chunk}
use Rattle.plane_kernels.specs.Rows.{rows_of, bits_of}
use Rattle.plane_kernels.specs.Words.{trimmed}
use Rattle.plane_kernels.proofs.BlockLemmas.{padded-trimmed, word_rows_of}
use Rattle.plane_kernels.proofs.Puts.{put_back}
use Rattle.plane_kernels.proofs.RowLemmas.{length-rows_of}
use Rattle.plane_kernels.proofs.bits.Bits.set_word.Goals as goal

pub set_word-requires-clause-within : goal.set_word-requires-clause-within
set_word-requires-clause-within c =
    let n = c.self.inside.rows in
    let rows : n ≡ length c.args.self.now = sym (length-rows_of n c.self.inside.words.items c.self.invariant.room) ∙ ap length c.self.view_is in
    omega (arith, rows, c.requires, ap length c.deref_mut.ensures.value, c.self.invariant.room)

pub set_word-requires-clause-row : goal.set_word-requires-clause-row
set_word-requires-clause-row c =
    let n = c.self.inside.rows in
    let rows : n ≡ length c.args.self.now = sym (length-rows_of n c.self.inside.words.items c.self.invariant.room) ∙ ap length c.self.view_is in
    omega (arith, rows, c.requires)

pub invariant_of-self : goal.invariant_of-self
invariant_of-self c =
    let n = c.self.inside.rows in
    let q = c.args.block in
    let new = trimmed (n - 64 * q) (c.args.word ∷ []) in
    let put = put_back n q c.self.inside.words.items new c.set_word.new.words c.deref_mut.result.now c.self.inside.words.len c.self.invariant
    (padded-trimmed (n - 64 * q) (c.args.word ∷ [])) c.set_word.ensures c.deref_mut.ensures.value c.deref_mut.ensures.len in
    put.holds

pub returns : goal.returns
returns c =
    let n = c.self.inside.rows in
    let q = c.args.block in
    let ws = c.self.inside.words.items in
    let new = trimmed (n - 64 * q) (c.args.word ∷ []) in
    let rows : n ≡ length c.args.self.now = sym (length-rows_of n ws c.self.invariant.room) ∙ ap length c.self.view_is in
    let put = put_back n q ws new c.set_word.new.words c.deref_mut.result.now c.self.inside.words.len c.self.invariant
    (padded-trimmed (n - 64 * q) (c.args.word ∷ [])) c.set_word.ensures c.deref_mut.ensures.value c.deref_mut.ensures.len in
    put.rows ∙ ap (put_chunk (64 * q) (rows_of n ws)) (word_rows_of (n - 64 * q) c.args.word) ∙ ap (λ l. put_chunk (64 * q) l (bits_of (min 64 (n - 64 * q)) c.args.word)) c.self.view_is
    ∙ ap (λ k. put_chunk (64 * q) c.args.self.now (bits_of (min 64 (k - 64 * q)) c.args.word)) rows
