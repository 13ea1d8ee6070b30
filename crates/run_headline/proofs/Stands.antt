-- A table that is taken of a CSV is the one for which its bytes stand.
use Rattle.std.proofs.Common.{◌≡◌, ℕ, ◌<◌, IsFalse, List, [], length, get_or, Some, sym, subst, ◌∙◌, slice_get}
use Rattle.std.proofs.lemmas.List.{get_or-map, length-map}
use Rattle.std.proofs.lemmas.Option.{get_or_from_slice_get, slice_get_within}
use Rattle.csv_load.specs.Columns.{IsValue, column_texts, is_null}
use Rattle.csv_load.specs.Kept.{kept_rows}
use Rattle.csv_load.specs.Records.{Fields}
use Rattle.csv_load.specs.TableOf.{IsTableOf}
use Rattle.csv_load.specs.declared.limits.Limits.{Limits}
use Rattle.daq_table.specs.Schemas.{columns_in}
use Rattle.daq_table.specs.Tables.{Contents}
use Rattle.daq_table.specs.declared.schema_column.SchemaColumn.{SchemaColumn}
use Rattle.daq_table.specs.declared.schema_item.SchemaItem.{SchemaItem}
use Rattle.table_rounds.proofs.Lists.{all_of}
use Rattle.run_headline.specs.Csv.{AreValues, StandsFor}

module _ (bytes : List ℕ) (items : List SchemaItem) (limits : Limits) (table : Contents) (is : IsTableOf bytes items limits table) where
  abbrev kept : List Fields
  kept = kept_rows items is.rows

  module _ (c : ℕ) (column : SchemaColumn) (there : slice_get (columns_in items) c ≡ Some column) where
    abbrev field : Fields → List ℕ
    field row = get_or row c []

    value_at : (r : ℕ) (text : List ℕ) → slice_get (column_texts c kept) r ≡ Some text → IsFalse (is_null column.nullable text) → IsValue column.kind text
    value_at r text at =
        let r_in : r < length kept = subst (λ n. r < n) (length-map kept field) (slice_get_within (column_texts c kept) r text at) in
        let own : field (get_or kept r []) ≡ text = sym (get_or-map field kept r [] [] r_in) ∙ get_or_from_slice_get (column_texts c kept) r text [] at in
        subst (λ t. IsFalse (is_null column.nullable t) → IsValue column.kind t) own
        (λ some. ((is.good r r_in).cells c column (slice_get_within (columns_in items) c column there) there some).value)

    are_values : AreValues column (column_texts c kept)
    are_values = all_of (λ text. IsFalse (is_null column.nullable text) → IsValue column.kind text) (column_texts c kept) value_at

  pub stands : StandsFor items bytes table
  stands = record {
    rows = is.rows;
    records = is.records;
    full = is.full;
    count = is.count;
    heads = is.heads;
    lists = is.lists;
    each = λ c column head cells there head_at cells_at. (are_values c column there, is.each c column head cells there head_at cells_at);
  }
