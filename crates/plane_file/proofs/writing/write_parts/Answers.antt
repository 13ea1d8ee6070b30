-- The planes go behind the head.
use Rattle.std.proofs.Common.{◌++◌, List, ℕ, subst}
use Rattle.outer_world.specs.Whole.{Writes, text_of}
use Rattle.outer_world.proofs.Writes.{writes_both, writes_cut}
use Rattle.plane_file.specs.Format.{planes_bytes}
use Rattle.plane_file.proofs.writing.write_parts.Goals as goal

pub returns-in_err-write_pieces : goal.returns-in_err-write_pieces
returns-in_err-write_pieces g c =
    subst (λ (head : List ℕ). Writes c.from_residual.result (g.K.Sink.state c.args.sink.now) (g.K.Sink.state c.write_pieces.new.sink) (head ++ planes_bytes c.args.table.now)) c.requires.head
    (writes_cut {A = Unit {0}} _ c.from_residual.result _ _ (text_of c.args.head.now) (planes_bytes c.args.table.now) c.from_residual.ensures.0 c.in_err-write_pieces.ensures)

pub returns : goal.returns
returns g c =
    subst (λ (head : List ℕ). Writes c.write_planes.result (g.K.Sink.state c.args.sink.now) (g.K.Sink.state c.write_planes.new.sink) (head ++ planes_bytes c.args.table.now)) c.requires.head
    (writes_both {A = Unit {0}} tt c.write_planes.result _ _ _ (text_of c.args.head.now) (planes_bytes c.args.table.now) c.in_ok-write_pieces.ensures c.write_planes.ensures)
