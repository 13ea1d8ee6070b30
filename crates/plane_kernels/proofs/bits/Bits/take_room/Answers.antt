use Rattle.std.proofs.Common.{◌≡◌, length, vec_capacity, ap, ◌∙◌, arith}
use Rattle.plane_kernels.proofs.RowLemmas.{length-rows_of}
use Rattle.plane_kernels.proofs.bits.Bits.take_room.Goals as goal

pub returns-clause-room : goal.returns-clause-room
returns-clause-room c =
    let rows = length-rows_of c.self.inside.rows c.self.inside.words.items c.self.invariant.room in
    let same : vec_capacity c.clear.new.self ≡ vec_capacity c.self.inside.words = c.clear.ensures.capacity ∙ ap vec_capacity c.replace-room.ensures.value in
    omega (arith, rows, ap length c.self.view_is, c.self.invariant.room, c.self.inside.words.ok, same)
