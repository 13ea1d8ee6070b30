-- Null alone has no value in the table of a CSV.
use Rattle.std.proofs.Common.{◌≡◌, ℕ, zero, suc, ◌<◌, Bool, true, false, List, [], ◌∷◌, length, map, get_or, Some, None, refl, sym, ap, subst, ◌∙◌, arith, if◌then◌else◌}
use Rattle.std.proofs.lemmas.List.{get_or-map, length-map}
use Rattle.std.proofs.lemmas.Option.{get_or_from_slice_get, slice_get_within}
use Rattle.csv_load.specs.Columns.{column_texts, dictionary, is_null, present, value_in}
use Rattle.csv_load.specs.Kept.{kept_rows}
use Rattle.csv_load.specs.TableOf.{IsTableOf}
use Rattle.csv_load.specs.declared.limits.Limits.{Limits}
use Rattle.daq_table.proofs.Dictionaries.{some_names}
use Rattle.daq_table.specs.ColumnFacts.{is_text}
use Rattle.daq_table.specs.Dictionaries.{distinct}
use Rattle.daq_table.specs.Schemas.{columns_in}
use Rattle.daq_table.specs.Tables.{Cell, Contents, IsTable, cell_at, ends_of, frame_of, no_ends, value_of}
use Rattle.daq_table.specs.declared.head.Kind.{Kind}
use Rattle.daq_table.specs.declared.schema_item.SchemaItem.{SchemaItem}
use Rattle.sql_meaning.proofs.Filled.{tables_have}
use Rattle.sql_meaning.proofs.Named.{mapped, there}
use Rattle.sql_meaning.specs.Laws.{HasValues, IsNullWithoutNames}

-- where no text is kept, each is null
nones : (nullable : Bool) (kind : Kind) (names texts : List (List ℕ)) → length (present nullable texts) ≡ 0 → (r : ℕ) → get_or (map (value_in nullable kind names) texts) r None ≡ None
nones nullable kind names [] h r = refl
nones nullable kind names (text ∷ texts) h r = by (is_null nullable text) refl (nones nullable kind names texts) r
  where
    by : (b : Bool) → is_null nullable text ≡ b → (length (present nullable texts) ≡ 0 → (r : ℕ) → get_or (map (value_in nullable kind names) texts) r None ≡ None)
        → (r : ℕ) → get_or (map (value_in nullable kind names) (text ∷ texts)) r None ≡ None
    by false e later r =
        let more : length (present nullable (text ∷ texts)) ≡ suc (length (present nullable texts)) = rw e refl in
        absurd (omega (arith, h, more))
    by true e later zero = rw e refl
    by true e later (suc r) =
        let fewer : present nullable (text ∷ texts) ≡ present nullable texts = rw e refl in
        later (ap length (sym fewer) ∙ h) r

-- a dictionary of texts without names is that of no text
none_kept : (kind : Kind) (texts : List (List ℕ)) → is_text kind ≡ true → dictionary kind texts ≡ [] → length texts ≡ 0
none_kept kind texts text none = some_names texts (ap (λ b. if b then distinct texts else []) (sym text) ∙ none)

module _ (bytes : List ℕ) (items : List SchemaItem) (limits : Limits) (table : Contents) (is : IsTableOf bytes items limits table) (whole : IsTable (frame_of table.head) table.cells) where
  null_without : IsNullWithoutNames table.head table.cells
  null_without c r column r_in at text none =
      let c_in = slice_get_within table.head.columns c column at in
      let declared = there (columns_in items) c (subst (λ n. c < n) is.heads c_in) in
      let cells = there table.cells c (subst (λ n. c < n) (is.heads ∙ sym is.lists) c_in) in
      let own = is.each c declared.element column cells.element declared.get at cells.get in
      let kept = present declared.element.nullable (column_texts c (kept_rows items is.rows)) in
      let empty : length kept ≡ 0 = none_kept declared.element.kind kept (ap is_text (sym own.kind) ∙ text) (sym own.names ∙ none) in
      let list : get_or table.cells c [] ≡ cells.element = get_or_from_slice_get table.cells c cells.element [] cells.get in
      let c_there : c < length (frame_of table.head).columns = subst (λ n. c < n) (sym (length-map table.head.columns ends_of)) c_in in
      let long : r < length cells.element = subst (λ (l : List Cell). r < length l) list (subst (λ n. r < n) (sym (whole.rows c c_there)) r_in) in
      ap (λ w. value_of w (cell_at table.cells c r)) (mapped ends_of table.head.columns c column no_ends at)
      ∙ ap (λ (l : List Cell). value_of (ends_of column) (get_or l r (Some 0))) list
      ∙ sym (get_or-map (value_of (ends_of column)) cells.element r (Some 0) None long)
      ∙ ap (λ l. get_or l r None) own.cells_are
      ∙ nones declared.element.nullable declared.element.kind _ (column_texts c (kept_rows items is.rows)) empty r

  pub has_values : HasValues table.head table.cells
  has_values = tables_have table.head table.cells whole null_without
