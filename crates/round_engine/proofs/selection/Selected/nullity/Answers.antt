use Rattle.std.proofs.Common.{count_by, ap, arith}
use Rattle.aggregates.proofs.BoundFacts.{nullity_of-certain, nullity_of-none, nullity_of-uncertain}
use Rattle.round_engine.specs.Selected.{pairs_in}
use Rattle.round_engine.proofs.SelectedBounds.{all_is, certain_is}
use Rattle.round_engine.proofs.selection.Selected.nullity.Goals as goal

pub returns-then-has_rows : goal.returns-then-has_rows
returns-then-has_rows c = λ column is.
    let selection = c.args.self.now in
    let must = ap (λ s. count_by (λ b. b) s.must) c.self.view_is in
    nullity_of-certain (pairs_in column selection) (omega (arith, c.has_rows.ensures.some c.if-has_rows.true, must, certain_is column selection is))

pub returns-then-has_rows-2 : goal.returns-then-has_rows-2
returns-then-has_rows-2 c = λ column is.
    let selection = c.args.self.now in
    let must = ap (λ s. count_by (λ b. b) s.must) c.self.view_is in
    let may = ap (λ s. count_by (λ b. b) s.may) c.self.view_is in
    nullity_of-uncertain (pairs_in column selection) (omega (arith, c.has_rows-else-has_rows.ensures.some c.if-has_rows-2.true, may, all_is column selection is))
    (omega (arith, c.has_rows.ensures.none c.if-has_rows.false, must, certain_is column selection is))

pub returns-else-has_rows-2 : goal.returns-else-has_rows-2
returns-else-has_rows-2 c = λ column is.
    let selection = c.args.self.now in
    let may = ap (λ s. count_by (λ b. b) s.may) c.self.view_is in
    nullity_of-none (pairs_in column selection) (omega (arith, c.has_rows-else-has_rows.ensures.none c.if-has_rows-2.false, may, all_is column selection is))
