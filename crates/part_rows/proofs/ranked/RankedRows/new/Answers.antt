-- What is sorted are the rows.
use Rattle.std.proofs.Common.{subst}
use Rattle.std.specs.List.Sorted.{IsPermutation}
use Rattle.std.proofs.lemmas.List.Sorted.{IsPermutation-map}
use Rattle.part_rows.specs.Ranked.{rows_behind}
use Rattle.part_rows.proofs.ranked.RankedRows.new.Goals as goal

pub returns-clause-ranked : goal.returns-clause-ranked
returns-clause-ranked c =
    record {
      all = subst (λ rows. IsPermutation rows (rows_behind c.in_ok-ranked.field-0.items)) c.in_ok-all_rows.ensures
          (IsPermutation-map (λ row. row.now) _ _ c.in_ok-ranked.ensures.same);
      by_first = c.in_ok-ranked.ensures.ordered;
      certain = subst (λ rows. IsPermutation rows (rows_behind c.in_ok-ranked-2.field-0.items)) c.in_ok-certain_rows.ensures
          (IsPermutation-map (λ row. row.now) _ _ c.in_ok-ranked-2.ensures.same);
      by_last = c.in_ok-ranked-2.ensures.ordered;
    }
