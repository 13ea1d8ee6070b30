use Rattle.std.proofs.Common.{length, sym, ap, subst, arith}
use Rattle.std.proofs.lemmas.Bool.{true≢false}
use Rattle.std.specs.Result.{IsOk}
use Rattle.plane_kernels.proofs.RowLemmas.{length-rows_of}
use Rattle.plane_kernels.proofs.bits.Bits.copied.Goals as goal

pub unreachable-requires : goal.unreachable-requires
unreachable-requires c =
    let rows = length-rows_of c.other.inside.rows c.other.inside.words.items c.other.invariant.room in
    let ok = c.extend_from_slice.ensures.succeeds (omega (arith, rows, ap length c.other.view_is, c.requires.room, c.other.invariant.tight, ap length c.deref.ensures.value, c.args.room.ok, ap length c.requires.empty)) in
    true≢false (sym (subst IsOk c.in-Err.is ok))
