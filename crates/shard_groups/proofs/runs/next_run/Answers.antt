use Rattle.std.proofs.Common.{◌-◌, ◌∷◌, drop, length, subst, take}
use Rattle.std.proofs.lemmas.List.{take_rest}
use Rattle.shard_groups.specs.Cuts.{IsOn}
use Rattle.shard_groups.proofs.Cutting.{next_part}
use Rattle.shard_groups.proofs.runs.next_run.Goals as goal

pub returns-in-Part : goal.returns-in-Part
returns-in-Part c =
    let line = c.args.line.now in
    let cells = c.args.cells.now in
    let to = c.in-Part.to in
    λ lines apart on.
    next_part line lines cells (take (length cells - to) (drop to cells)) c.in-Part.from to c.run_length.result (take_rest cells to)
    c.run_length.ensures.within c.run_length.ensures.behind apart (subst (IsOn (line ∷ lines) cells) c.in-Part.is on)
