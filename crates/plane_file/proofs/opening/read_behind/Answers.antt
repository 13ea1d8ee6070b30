use Rattle.std.proofs.Common.{◌++◌}
use Rattle.outer_world.specs.Whole.{Fills}
use Rattle.plane_file.proofs.OpeningSteps.{fills_behind, then_ok}
use Rattle.plane_file.specs.Fronts.{FillsBehind}
use Rattle.plane_file.proofs.opening.read_behind.Goals as goal

pub returns-clause-read : goal.returns-clause-read
returns-clause-read g c =
    let old = g.P.Store.state c.args.store.now in
    let new = g.P.Store.state c.fill.new.store in
    let header = c.args.header.now in
    let first = c.copy_from_slice.new.self in
    let behind = c.fill.new.buf in
    then_ok c.fill.result (Fills old new 32 behind) (FillsBehind old new header (first ++ behind)) (λ filled. fills_behind old new header first behind c.copy_from_slice.ensures.after c.requires.header filled) c.fill.ensures.filled
