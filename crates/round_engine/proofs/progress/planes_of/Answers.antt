use Rattle.std.proofs.Common.{◌≡◌, take, ap, ◌∙◌, arith}
use Rattle.std.proofs.lemmas.List.{take_all}
use Rattle.round_engine.specs.Progresses.{planes_read}
use Rattle.round_engine.proofs.progress.planes_of.Goals as goal

pub returns-clause-all : goal.returns-clause-all
returns-clause-all c =
    let known = c.args.columns.now.known in
    let count = c.requires.known.columns in
    let end = c.len-column-end.ensures in
    let test = c.loop-column-test.false in
    let all : take c.loop-column.column known ≡ known = take_all c.loop-column.column known (omega arith) in
    c.loop-column.invariant.sum ∙ ap planes_read all
