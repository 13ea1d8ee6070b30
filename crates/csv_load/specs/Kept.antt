-- Which fields of a record make cells: those at the places of the columns among the items of a schema.
use Rattle.std.specs.Prelude.{◌≡◌, ℕ, ◌<◌, List, [], length, map, slice_index_or}
use Rattle.daq_table.specs.Schemas.{kept_places}
use Rattle.daq_table.specs.declared.schema_item.SchemaItem.{SchemaItem}
use Rattle.csv_load.specs.Records.{Fields}

-- the fields of a record at these places
abbrev pub fields_at : List ℕ → Fields → Fields
fields_at places fields = map (λ p. slice_index_or fields p []) places

-- the fields that are not skipped
abbrev pub kept_fields : List SchemaItem → Fields → Fields
kept_fields items fields = fields_at (kept_places items) fields

abbrev pub kept_rows : List SchemaItem → List Fields → List Fields
kept_rows items rows = map (kept_fields items) rows

-- the place of a column among the items, by its number among the columns
abbrev pub place_of : List SchemaItem → ℕ → ℕ
place_of items column = slice_index_or (kept_places items) column 0

-- each row has a field for each item
abbrev pub AreFull : List SchemaItem → List Fields → Type 0
AreFull items rows = (r : ℕ) → r < length rows → length (slice_index_or rows r []) ≡ length items
