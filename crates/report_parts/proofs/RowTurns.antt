-- That a line of first rows is taken as the rows take it.
use Rattle.std.proofs.Common.{◌≡◌, ℕ, Some, List, sym, ap, subst, ◌∙◌}
use Rattle.std.proofs.lemmas.Option.{same_Some}
use Rattle.query_kinds.specs.declared.rows.FirstRows.{FirstRows}
use Rattle.report_text.specs.RowBlocks.{RowsTold, TakesRows}
use Rattle.report_parts.specs.Told.{ListsRow, Refuses, RowsGoOn, Told, with_rows}
use Rattle.report_parts.specs.declared.shape.Shape.{Shape}

pub listed : (shape : Shape) (asked : FirstRows) (told mid next : Told) (line : List ℕ) → shape.rows ≡ Some asked → mid ≡ with_rows told mid.rows →
    TakesRows asked.limit told.rows line mid.rows → RowsGoOn mid next → ListsRow shape told line next
listed shape asked told mid next line is rest taken goes_on =
    record { asked = asked; is_asked = is; rows = mid.rows; taken = taken; goes_on = subst (λ (t : Told). RowsGoOn t next) rest goes_on }

pub none_listed : (shape : Shape) (asked : FirstRows) (told mid : Told) (line : List ℕ) → shape.rows ≡ Some asked → mid ≡ with_rows told mid.rows →
    (mid.rows ≡ told.rows) × ((rows : RowsTold) → TakesRows asked.limit told.rows line rows → ⊥) → Refuses (ListsRow shape told line) told mid
none_listed shape asked told mid line is rest refused = (
  rest ∙ ap (λ (rows : RowsTold). with_rows told rows) refused.0,
  λ next k. refused.1 k.rows (subst (λ (x : FirstRows). TakesRows x.limit told.rows line k.rows) (same_Some k.asked asked (sym k.is_asked ∙ is)) k.taken),
)
