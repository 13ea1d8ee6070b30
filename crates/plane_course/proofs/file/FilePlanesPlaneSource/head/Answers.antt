use Rattle.plane_course.proofs.StoreReads.{are_told}
use Rattle.plane_course.proofs.file.FilePlanesPlaneSource.head.Goals as goal

pub returns-clause-told : goal.returns-clause-told
returns-clause-told g c = are_told c.args.self.now.file.now.head (g.P.Store.state c.args.self.now.store.now)
