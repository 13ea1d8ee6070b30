-- A plane that is read has the bits that are told of it, and none past the last row; and it hands over its places.
use Rattle.std.proofs.Common.{◌∙◌}
use Rattle.plane_course.proofs.StoreReads.{handed_over, holds_plane, shown_unpadded, told_bits}
use Rattle.plane_course.proofs.file.FilePlanesPlaneSource.read.Goals as goal

pub read_plane-requires-clause-holds : goal.read_plane-requires-clause-holds
read_plane-requires-clause-holds g c =
    holds_plane c.args.self.now.file.now.head (g.P.Store.state c.args.self.now.store.now) c.args.column c.args.number c.requires.column c.requires.number c.requires.ready

pub returns-clause-bits : goal.returns-clause-bits
returns-clause-bits g c =
    told_bits c.args.self.now.file.now.head c.args.column c.args.number (g.P.Store.state c.args.self.now.store.now) (g.P.Store.state c.read_plane.new.store) c.read_plane.new.into c.read_plane.result
    (c.read_plane.ensures.rows ∙ c.requires.rows) c.read_plane.ensures.read

pub returns-clause-shown : goal.returns-clause-shown
returns-clause-shown g c =
    shown_unpadded c.args.self.now.file.now.head c.args.column c.args.number (g.P.Store.state c.args.self.now.store.now) (g.P.Store.state c.read_plane.new.store) c.read_plane.new.into c.read_plane.result
    (c.read_plane.ensures.rows ∙ c.requires.rows) c.read_plane.ensures.read

pub returns-clause-handed : goal.returns-clause-handed
returns-clause-handed g c =
    handed_over c.args.self.now.file.now.head c.args.column c.args.number (g.P.Store.state c.args.self.now.store.now) (g.P.Store.state c.read_plane.new.store) c.read_plane.new.into c.read_plane.result
    c.read_plane.ensures.read c.read_plane.ensures.stopped
