use Rattle.std.proofs.Common.{◌≡◌, map, not, sym, ap, length, ◌∙◌, arith}
use Rattle.std.proofs.lemmas.List.{length-map}
use Rattle.plane_kernels.proofs.RowLemmas.{length-rows_of}
use Rattle.plane_kernels.proofs.Packing.{packed_back}
use Rattle.plane_kernels.proofs.bits.Bits.gather_unset.Goals as goal

pub gather_unset_words-requires : goal.gather_unset_words-requires
gather_unset_words-requires c =
    let n = c.self.inside.rows in
    let ws = c.self.inside.words.items in
    omega (arith, ap length c.deref_mut.ensures.value, length-rows_of n ws c.self.invariant.room, ap length c.self.view_is, c.requires, c.self.invariant.tight)

pub invariant_of-self : goal.invariant_of-self
invariant_of-self c =
    let n = c.self.inside.rows in
    let ws = c.self.inside.words.items in
    let count : length c.args.marks.now ≡ n = c.requires ∙ sym (ap length c.self.view_is) ∙ length-rows_of n ws c.self.invariant.room in
    let packed = packed_back n (map not c.args.marks.now) ws c.gather_unset_words.new.words c.deref_mut.result.now c.self.inside.words.len c.self.invariant
    (length-map c.args.marks.now (not) ∙ count) c.gather_unset_words.ensures c.deref_mut.ensures.value c.deref_mut.ensures.len in
    packed.holds

pub returns : goal.returns
returns c =
    let n = c.self.inside.rows in
    let ws = c.self.inside.words.items in
    let count : length c.args.marks.now ≡ n = c.requires ∙ sym (ap length c.self.view_is) ∙ length-rows_of n ws c.self.invariant.room in
    let packed = packed_back n (map not c.args.marks.now) ws c.gather_unset_words.new.words c.deref_mut.result.now c.self.inside.words.len c.self.invariant
    (length-map c.args.marks.now (not) ∙ count) c.gather_unset_words.ensures c.deref_mut.ensures.value c.deref_mut.ensures.len in
    packed.rows
