use Rattle.std.proofs.Common.{◌≡◌, ◌&&◌, sym, ap, length, ◌∙◌}
use Rattle.std.specs.List.{position}
use Rattle.std.specs.Simd.Lanes.{zip2}
use Rattle.plane_kernels.specs.Rows.{rows_of}
use Rattle.std.specs.Int.Bits.{bit_and}
use Rattle.plane_kernels.specs.Words.{first_bit}
use Rattle.plane_kernels.proofs.RowLemmas.{same_words}
use Rattle.plane_kernels.proofs.FirstBit.{first_is_position}
use Rattle.plane_kernels.proofs.Bitwise.{and_is_bitwise, joined_words}
use Rattle.plane_kernels.proofs.bits.Bits.first_both.Goals as goal

pub first_both-requires-clause-same : goal.first_both-requires-clause-same
first_both-requires-clause-same c =
    let same = same_words c.self.inside.rows c.other.inside.rows c.self.inside.words.items c.other.inside.words.items c.self.invariant c.other.invariant
    (ap length c.other.view_is ∙ c.requires ∙ sym (ap length c.self.view_is)) in
    ap length c.deref-2.ensures.value ∙ same.1 ∙ sym (ap length c.deref.ensures.value)

pub returns : goal.returns
returns c =
    let n = c.self.inside.rows in
    let m = c.other.inside.rows in
    let ws = c.self.inside.words.items in
    let vs = c.other.inside.words.items in
    let rest = zip2 bit_and ws vs in
    let rows = joined_words bit_and (λ x y. x && y) and_is_bitwise n m ws vs c.self.invariant c.other.invariant (ap length c.other.view_is ∙ c.requires ∙ sym (ap length c.self.view_is)) in
    let handed : zip2 bit_and c.deref.result.now c.deref-2.result.now ≡ rest = ap (λ l. zip2 bit_and l c.deref-2.result.now) c.deref.ensures.value ∙ ap (zip2 bit_and ws) c.deref-2.ensures.value in
    c.first_both.ensures ∙ ap (first_bit 0) handed ∙ first_is_position n rest rows.holds
    ∙ ap (position (λ b. b)) (rows.rows ∙ ap (λ l. zip2 (λ x y. x && y) l (rows_of m vs)) c.self.view_is ∙ ap (zip2 (λ x y. x && y) c.args.self.now) c.other.view_is)
