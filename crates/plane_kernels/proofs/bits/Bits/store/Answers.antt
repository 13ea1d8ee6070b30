use Rattle.std.proofs.Common.{◌≡◌, length, sym, ap, ◌∙◌, arith}
use Rattle.plane_kernels.specs.Bytes.{bytes_of_rows, bytes_of_words}
use Rattle.plane_kernels.proofs.BytesLemmas.{bytes-rows_of}
use Rattle.plane_kernels.proofs.RowLemmas.{length-rows_of}
use Rattle.plane_kernels.proofs.bits.Bits.store.Goals as goal

pub store_words-requires : goal.store_words-requires
store_words-requires c =
    let n = c.self.inside.rows in
    let ws = c.self.inside.words.items in
    let rows : n ≡ length c.args.self.now = sym (length-rows_of n ws c.self.invariant.room) ∙ ap length c.self.view_is in
    omega (arith, rows, c.requires, ap length c.deref.ensures.value, c.self.invariant.room, c.self.invariant.tight)

pub returns : goal.returns
returns c =
    c.store_words.ensures ∙ ap bytes_of_words c.deref.ensures.value ∙ sym (bytes-rows_of c.self.inside.rows c.self.inside.words.items c.self.invariant) ∙ ap bytes_of_rows c.self.view_is
