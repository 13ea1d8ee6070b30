use Rattle.std.proofs.Common.{◌≡◌, ◌*◌, ◌/◌, length, sym, ap, subst, ◌∙◌, arith}
use Rattle.std.proofs.lemmas.Result.{err_from_is_err_and}
use Rattle.std.specs.Simd.Lanes.{put_chunk}
use Rattle.plane_kernels.specs.Bytes.{HasNoPadBits, HasPadBits, bytes_of_rows, bytes_of_words}
use Rattle.plane_kernels.specs.declared.pad_bits.PadBits.{PadBits}
use Rattle.plane_kernels.specs.Words.{unpacked}
use Rattle.plane_kernels.proofs.BytesLemmas.{bytes-put, bytes-rows_of, bytes-unpacked, padded_words}
use Rattle.plane_kernels.proofs.Puts.{put_back}
use Rattle.plane_kernels.proofs.RowLemmas.{length-rows_of}
use Rattle.plane_kernels.proofs.bits.Bits.load_words.Goals as goal

pub refuse_pad_bits-requires : goal.refuse_pad_bits-requires
refuse_pad_bits-requires c =
    let rows : c.self.inside.rows ≡ length c.args.self.now = sym (length-rows_of c.self.inside.rows c.self.inside.words.items c.self.invariant.room) ∙ ap length c.self.view_is in
    omega (arith, rows, c.requires.within)

pub returns-in_err-refuse_pad_bits-clause-pad : goal.returns-in_err-refuse_pad_bits-clause-pad
returns-in_err-refuse_pad_bits-clause-pad c =
    let rows : c.self.inside.rows ≡ length c.args.self.now = sym (length-rows_of c.self.inside.rows c.self.inside.words.items c.self.invariant.room) ∙ ap length c.self.view_is in
    let p = err_from_is_err_and c.from_residual.result c.from_residual.ensures.1 in
    rw p.1 (subst (λ (e : PadBits). HasPadBits (length c.args.self.now) c.args.first c.args.bytes.now e.word) (sym p.2)
    (subst (λ n. HasPadBits n c.args.first c.args.bytes.now c.in_err-refuse_pad_bits.field-0.0.word) rows c.in_err-refuse_pad_bits.ensures.pad))

pub load_words-requires : goal.load_words-requires
load_words-requires c =
    let rows : c.self.inside.rows ≡ length c.args.self.now = sym (length-rows_of c.self.inside.rows c.self.inside.words.items c.self.invariant.room) ∙ ap length c.self.view_is in
    omega (arith, rows, c.requires.within, ap length c.deref_mut.ensures.value, c.self.invariant.room, c.self.invariant.tight)

pub invariant_of-self : goal.invariant_of-self
invariant_of-self c =
    let n = c.self.inside.rows in
    let ws = c.self.inside.words.items in
    let first = c.args.first in
    let bytes = c.args.bytes.now in
    let put = put_back n first ws (unpacked (length bytes / 8) bytes) c.load_words.new.words c.deref_mut.result.now c.self.inside.words.len c.self.invariant
    (padded_words n first bytes c.in_ok-refuse_pad_bits.ensures.clean) c.load_words.ensures c.deref_mut.ensures.value c.deref_mut.ensures.len in
    put.holds

pub returns-clause-ok : goal.returns-clause-ok
returns-clause-ok c =
    let n = c.self.inside.rows in
    let ws = c.self.inside.words.items in
    let first = c.args.first in
    let bytes = c.args.bytes.now in
    let vs = unpacked (length bytes / 8) bytes in
    let put = put_back n first ws vs c.load_words.new.words c.deref_mut.result.now c.self.inside.words.len c.self.invariant
    (padded_words n first bytes c.in_ok-refuse_pad_bits.ensures.clean) c.load_words.ensures c.deref_mut.ensures.value c.deref_mut.ensures.len in
    bytes-rows_of n _ put.holds ∙ ap bytes_of_words put.words ∙ bytes-put first ws vs
    ∙ ap (λ l. put_chunk (8 * first) l (bytes_of_words vs)) (sym (bytes-rows_of n ws c.self.invariant) ∙ ap bytes_of_rows c.self.view_is)
    ∙ ap (put_chunk (8 * first) (bytes_of_rows c.args.self.now)) (bytes-unpacked (length bytes / 8) bytes (omega (arith, c.requires.whole)) (λ i. (c.type_inv.bytes i).fits))

pub returns-clause-rows : goal.returns-clause-rows
returns-clause-rows c =
    let n = c.self.inside.rows in
    let ws = c.self.inside.words.items in
    let first = c.args.first in
    let bytes = c.args.bytes.now in
    let put = put_back n first ws (unpacked (length bytes / 8) bytes) c.load_words.new.words c.deref_mut.result.now c.self.inside.words.len c.self.invariant
    (padded_words n first bytes c.in_ok-refuse_pad_bits.ensures.clean) c.load_words.ensures c.deref_mut.ensures.value c.deref_mut.ensures.len in
    length-rows_of n _ put.holds.room ∙ sym (length-rows_of n ws c.self.invariant.room) ∙ ap length c.self.view_is

pub returns-clause-clean : goal.returns-clause-clean
returns-clause-clean c =
    let rows : c.self.inside.rows ≡ length c.args.self.now = sym (length-rows_of c.self.inside.rows c.self.inside.words.items c.self.invariant.room) ∙ ap length c.self.view_is in
    subst (λ n. HasNoPadBits n c.args.first c.args.bytes.now) rows c.in_ok-refuse_pad_bits.ensures.clean
