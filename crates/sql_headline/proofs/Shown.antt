-- The texts of a report show intervals of values.
use Rattle.std.proofs.Common.{◌≡◌, ℕ, ℤ, pos, negsuc, List, [], ◌∷◌, length, inl, inr, Option, Some, None, refl, sym, ap, subst, ◌∙◌, slice_get}
use Rattle.std.proofs.lemmas.Option.{get_or_from_slice_get, none-some, unwrap_or-slice_get}
use Rattle.std.specs.Option.{option_map, unwrap_or}
use Rattle.std.specs.Prelude.{codes, slice_index_or}
use Rattle.std.proofs.lemmas.Bool.Decides.{Decides-int_eq}
use Rattle.std.specs.Ordering.{int_eq}
use Rattle.daq_report.specs.Intervals.{bound_text, column_of, face_text}
use Rattle.daq_report.specs.Intervals as report
use Rattle.daq_table.specs.ValueTexts.{text_by_kind, text_of_name}
use Rattle.daq_table.specs.declared.head.ColumnHead.{ColumnHead}
use Rattle.daq_table.specs.declared.head.Kind.{Kind}
use Rattle.daq_table.specs.declared.head.Kind.TheVariants as kinds
use Rattle.daq_table.specs.declared.table_head.Head.{Head}
use Rattle.query_model.specs.Queries.{Query}
use Rattle.query_model.specs.declared.bounds.Bound.{Bound}
use Rattle.query_model.specs.declared.query.Face.{Face}
use Rattle.query_model.specs.declared.query.Face.TheVariants as faces
use Rattle.sql_meaning.specs.Values.{Value, Text, unless_null}
use Rattle.sql_meaning.specs.Rows.{shown, value_in, value_of}
use Rattle.sql_meaning.proofs.Spelled.{texts_are}
use Rattle.sql_headline.specs.Intervals.{IsEndText, Shows}

no_name : (o : Option (List ℕ)) → option_map Text o ≡ None → text_of_name o ≡ codes "-"
no_name None e = refl
no_name (Some name) e = absurd (none-some (Text name) (sym e))

no_value : (kind : Kind) (names : List (List ℕ)) (n : ℤ) → value_in kind names n ≡ None → text_by_kind kind names n ≡ codes "-"
no_value kinds.Int names n e = absurd (none-some _ (sym e))
no_value (kinds.Dec places) names n e = absurd (none-some _ (sym e))
no_value kinds.Date names n e = absurd (none-some _ (sym e))
no_value kinds.Text names (pos rank) e = no_name (slice_get names rank) e
no_value kinds.Text names (negsuc n) e = refl

column_text : (column : ColumnHead) (n : ℤ) (o : Option Value) → value_of (Some column) (Some n) ≡ o → IsEndText o (report.value_of (Some column) n)
column_text column n None e = inl (no_value column.kind column.names n e)
column_text column n (Some v) e = texts_are column n v e

there_text : (o : Option ColumnHead) (n : ℤ) → IsEndText (value_of o (Some n)) (report.value_of o n)
there_text None n = inr refl
there_text (Some column) n = column_text column n (value_of (Some column) (Some n)) refl

-- a column that the query does not have is none of the table
not_there : (table : List ColumnHead) (columns : List ℕ) (c : ℕ) → slice_get columns c ≡ None → slice_get table (slice_index_or columns c (length table)) ≡ None
not_there table columns c e = (let k : slice_index_or columns c (length table) ≡ length table = sym (unwrap_or-slice_get columns c (length table)) ∙ ap (λ o. unwrap_or o (length table)) e in rw k (past table))
  where
    past : (table : List ColumnHead) → slice_get table (length table) ≡ None
    past [] = refl
    past (x ∷ xs) = past xs

place_text : (head : Head) (query : Query) (c : ℕ) (n : ℤ) (o : Option ℕ) → slice_get query.columns c ≡ o
    → IsEndText (value_of (unless_null (slice_get head.columns) o) (Some n)) (report.value_of (column_of head query c) n)
place_text head query c n None e =
    inr (ap (λ o. report.value_of o n) (not_there head.columns query.columns c e))
place_text head query c n (Some p) e =
    subst (λ (k : ℕ). IsEndText (value_of (slice_get head.columns p) (Some n)) (report.value_of (slice_get head.columns k) n))
    (sym (get_or_from_slice_get query.columns c p (length head.columns) e)) (there_text (slice_get head.columns p) n)

pub end_text : (head : Head) (query : Query) (face : Face) (n : ℤ) → IsEndText (shown head.columns query.columns face n) (face_text head query face n)
end_text head query (faces.Number places) n = refl
end_text head query (faces.OfColumn c) n = place_text head query c n (slice_get query.columns c) refl

pub shown_interval : (head : Head) (query : Query) (face : Face) (bound : Bound) →
    Shows (record { null = bound.null; low = shown head.columns query.columns face bound.lo; high = shown head.columns query.columns face bound.hi }) (bound_text head query face bound)
shown_interval head query face bound = record {
  low = face_text head query face bound.lo;
  high = face_text head query face bound.hi;
  are_one = int_eq bound.lo bound.hi;
  low_end = end_text head query face bound.lo;
  high_end = end_text head query face bound.hi;
  one = λ h. ap (shown head.columns query.columns face) ((Decides-int_eq bound.lo bound.hi).0 h);
  written = refl;
}
