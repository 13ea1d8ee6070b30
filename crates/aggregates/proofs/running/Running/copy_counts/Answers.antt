use Rattle.std.proofs.Common.{◌≡◌, ◌<◌, length, length-set, length-take, set, slice_get, inl, inr, sym, ap, subst, ◌∙◌, arith}
use Rattle.std.proofs.lemmas.Bool.{cases_eq}
use Rattle.aggregates.specs.Runnings.{Tallies}
use Rattle.aggregates.proofs.Adding.{set_at, set_elsewhere, taken_same}
use Rattle.aggregates.proofs.running.Running.copy_counts.Goals as goal

pub loop-cell-preserved : goal.loop-cell-preserved
loop-cell-preserved c =
    let before = c.loop-cell.invariant in
    let items = c.loop-cell.self-inside.tallies.items in
    let others = c.args.counts.now.cells in
    let cell = c.loop-cell.cell in
    let room = ap (λ (t : Tallies). t.room) c.self.view_is in
    let within : cell < length items = omega (arith, before.count, room, c.requires, c.cells-cells.ensures, c.loop-cell-test.true) in
    record {
      kind = before.kind;
      count = length-set items cell c.tally.result ∙ before.count;
      done = λ k below. elim (cases_eq k cell) [
        | inl here ↦ subst (λ j. slice_get (set items cell c.tally.result) j ≡ slice_get others j) (sym here) (set_at items cell c.tally.result within ∙ sym c.tally.ensures)
        | inr other ↦ set_elsewhere items cell k c.tally.result other ∙ before.done k (omega (arith, other))
      ];
    }

pub returns : goal.returns
returns c =
    let before = c.loop-cell.invariant in
    let items = c.loop-cell.self-inside.tallies.items in
    let room = ap (λ (t : Tallies). t.room) c.self.view_is in
    let kind = ap (λ (t : Tallies). t.kind) c.self.view_is in
    let many = c.cells-cells.result in
    let long = length-take many items in
    record {
      kind = before.kind ∙ kind;
      room = before.count ∙ room;
      count = omega (arith, long, before.count, room, c.requires, c.cells-cells.ensures);
      each = λ k below. taken_same many items k (omega (arith, below, c.cells-cells.ensures)) ∙ before.done k (omega (arith, below, c.cells-cells.ensures, c.loop-cell-test.false));
    }
