-- Numbers of a column are written as the values for which they stand.
use Rattle.std.proofs.Common.{◌≡◌, ℕ, ℤ, List, Some, sym, ap, ◌∙◌}
use Rattle.std.proofs.lemmas.Option.{same_Some}
use Rattle.daq_table.specs.ValueTexts.{text_by_kind, text_of_name, text_of_rank}
use Rattle.daq_table.specs.declared.head.Kind.{Kind}
use Rattle.daq_table.specs.declared.head.Kind.TheVariants as kinds
use Rattle.sql_meaning.specs.Values.{Value}
use Rattle.sql_meaning.specs.Rows.{text_at, text_of, value_in}
use Rattle.sql_meaning.specs.Laws.{TextsAreOfValues}
use Rattle.sql_meaning.proofs.Readings.{text_is}

name_text : (names : List (List ℕ)) (n : ℤ) (v : Value) → text_at names n ≡ Some v → text_of_rank names n ≡ text_of v
name_text names n v e =
    let at = text_is names n v e in
    ap (text_of_rank names) at.number ∙ ap text_of_name at.get ∙ sym (ap text_of at.is)

by_kind : (kind : Kind) (names : List (List ℕ)) (n : ℤ) (v : Value) → value_in kind names n ≡ Some v → text_by_kind kind names n ≡ text_of v
by_kind kinds.Int names n v e = ap text_of (same_Some _ v e)
by_kind (kinds.Dec s) names n v e = ap text_of (same_Some _ v e)
by_kind kinds.Date names n v e = ap text_of (same_Some _ v e)
by_kind kinds.Text names n v e = name_text names n v e

pub texts_are : TextsAreOfValues
texts_are column n v e = by_kind column.kind column.names n v e
