use Rattle.std.proofs.Common.{length, length-take, set, ap, subst, arith}
use Rattle.aggregates.specs.Runnings.{IsSet, Tallies}
use Rattle.aggregates.proofs.Adding.{is_set, seen}
use Rattle.aggregates.proofs.running.Running.set.Goals as goal

pub returns : goal.returns
returns c =
    let inside = c.self.inside in
    let taken = length-take inside.cells inside.tallies.items in
    let count = ap (λ (t : Tallies). length t.cells) c.self.view_is in
    subst (λ (r : Tallies). IsSet r (seen inside.kind inside.cells (set inside.tallies.items c.args.cell c.args.tally)) c.args.cell c.args.tally) c.self.view_is
    (is_set inside.kind inside.cells inside.tallies.items c.args.cell c.args.tally (omega (arith, taken, count, c.requires)) (omega (arith, taken, count, c.requires)))
