use Rattle.std.proofs.Common.{◌≡◌, ◌<◌, [], length, length-set, length-take, set, Some, slice_get, inl, inr, refl, sym, ap, subst, ◌∙◌, arith}
use Rattle.std.proofs.lemmas.Bool.{cases_eq}
use Rattle.query_model.specs.declared.query.ItemKind.TheVariants.{Sum}
use Rattle.aggregates.specs.Runnings.{Tallies}
use Rattle.aggregates.specs.Tallies.{tally_of}
use Rattle.aggregates.proofs.Adding.{set_at, set_elsewhere, taken_same}
use Rattle.aggregates.proofs.SumsOfCells.{sum_tally}
use Rattle.aggregates.proofs.cell_sums.CellSums.begin.Goals as goal

pub loop-cell-preserved : goal.loop-cell-preserved
loop-cell-preserved c =
    let before = c.loop-cell.invariant in
    let items = c.loop-cell.self-inside.sums.items in
    let cell = c.loop-cell.cell in
    let room = ap (λ (t : Tallies). t.room) c.self.view_is in
    let within : cell < length items = omega (arith, before.count, room, c.requires.cells, c.loop-cell-test.true) in
    record {
      count = length-set items cell c.none.result ∙ before.count;
      done = λ k below. elim (cases_eq k cell) [
        | inl here ↦ subst (λ j. slice_get (set items cell c.none.result) j ≡ Some (tally_of Sum [])) (sym here) (set_at items cell c.none.result within ∙ ap Some c.none.ensures)
        | inr other ↦ set_elsewhere items cell k c.none.result other ∙ before.done k (omega (arith, other))
      ];
    }

pub returns : goal.returns
returns c =
    let before = c.loop-cell.invariant in
    let items = c.loop-cell.self-inside.sums.items in
    let room = ap (λ (t : Tallies). t.room) c.self.view_is in
    let long = length-take c.args.cells items in
    record {
      kind_is = refl;
      room_is = before.count ∙ room;
      count = omega (arith, long, before.count, room, c.requires.cells);
      blank = λ k below. record {
        kept = taken_same c.args.cells items k below ∙ before.done k (omega (arith, below, c.loop-cell-test.false)) ∙ ap Some (sym (sum_tally c.args.kind [] c.requires.kind));
        ordered = tt;
      };
    }
