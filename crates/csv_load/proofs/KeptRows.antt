-- Rows of all fields, and the same rows without those that are skipped.
use Rattle.std.proofs.Common.{◌≡◌, ℕ, suc, ◌<◌, ◌≤◌, List, [], ◌∷◌, ◌++◌, length, take, get_or, sym, subst, inl, inr, ◌∙◌, arith, length-append}
use Rattle.std.proofs.Math.Seq.{get_or-append_seam}
use Rattle.std.proofs.lemmas.List.{get_or-map, get_or_append_left, length-map, map-append, take-map}
use Rattle.daq_table.proofs.Kept.{places_count, places_within}
use Rattle.daq_table.specs.Schemas.{columns_in, kept_places}
use Rattle.daq_table.specs.declared.schema_item.SchemaItem.{SchemaItem}
use Rattle.csv_load.specs.Kept.{AreFull, kept_fields, kept_rows, place_of}
use Rattle.csv_load.specs.Records.{Fields}
use Rattle.csv_load.specs.Rows.{AreGoodRows, HasRoom, IsGoodRow}
use Rattle.csv_load.specs.declared.limits.Limits.{Limits}
use Rattle.csv_load.proofs.RowFacts.{last_place, rows_bound, rows_more}

-- a row has as many kept fields as there are columns
pub kept_count : (items : List SchemaItem) (fields : Fields) → length (kept_fields items fields) ≡ length (columns_in items)
kept_count items fields = length-map (kept_places items) (λ (p : ℕ). get_or fields p []) ∙ places_count 0 items

-- the place of a column is that of an item, and its field is the kept one
pub place_within : (items : List SchemaItem) (column : ℕ) → column < length (columns_in items) → place_of items column < length items
place_within items column lt = omega (arith, places_within 0 items column 0 (omega (arith, lt, places_count 0 items)))

pub field_there : (items : List SchemaItem) (fields : Fields) (column : ℕ) → column < length (columns_in items) → get_or fields (place_of items column) [] ≡ get_or (kept_fields items fields) column []
field_there items fields column lt = sym (get_or-map (λ (p : ℕ). get_or fields p []) (kept_places items) column 0 [] (omega (arith, lt, places_count 0 items)))

pub rows_count : (items : List SchemaItem) (rows : List Fields) → length (kept_rows items rows) ≡ length rows
rows_count items rows = length-map rows (kept_fields items)

-- the room of rows does not depend on what is skipped
pub room_of_kept : (items : List SchemaItem) (limits : Limits) (rows : List Fields) → HasRoom (columns_in items) limits (kept_rows items rows) → HasRoom (columns_in items) limits rows
room_of_kept items limits rows room = record { row = rw (rows_count items rows) at room.row; cells = rw (rows_count items rows) at room.cells }

pub room_for_kept : (items : List SchemaItem) (limits : Limits) (rows : List Fields) → HasRoom (columns_in items) limits rows → HasRoom (columns_in items) limits (kept_rows items rows)
room_for_kept items limits rows room = record { row = rw (rows_count items rows) room.row; cells = rw (rows_count items rows) room.cells }

-- the rows are good: each has a field for each item, and the kept ones are good
pub record GoodRows (items : List SchemaItem) (limits : Limits) (rows : List Fields) : Type 0 where
  pub full : AreFull items rows
  pub good : AreGoodRows (columns_in items) limits (kept_rows items rows)

-- one more row is
pub record GoodRow (items : List SchemaItem) (limits : Limits) (rows : List Fields) (next : Fields) : Type 0 where
  pub full : length next ≡ length items
  pub good : IsGoodRow (columns_in items) limits (kept_rows items rows) (kept_fields items next)

pub no_rows : (items : List SchemaItem) (limits : Limits) → GoodRows items limits []
no_rows items limits = record { full = λ r lt. absurd (omega (arith, lt)); good = λ r lt. absurd (omega (arith, lt)) }

-- the row at a place of good rows
pub row_there : (items : List SchemaItem) (limits : Limits) (rows : List Fields) (r : ℕ) → GoodRows items limits rows → r < length rows → GoodRow items limits (take r rows) (get_or rows r [])
row_there items limits rows r h lt =
    let kept = kept_fields items in
    let columns = columns_in items in
    let row = h.good r (omega (arith, lt, rows_count items rows)) in
    let before = subst (λ (xs : List Fields). IsGoodRow columns limits xs (get_or (kept_rows items rows) r [])) (take-map kept r rows) row in
    record { full = h.full r lt; good = subst (λ (x : Fields). IsGoodRow columns limits (kept_rows items (take r rows)) x) (get_or-map kept rows r [] [] lt) before }

full_more : (items : List SchemaItem) (rows : List Fields) (next : Fields) → AreFull items rows → length next ≡ length items → AreFull items (rows ++ next ∷ [])
full_more items rows next all one = λ r lt.
    elim (last_place r (length rows) (omega (arith, lt, length-append rows (next ∷ [])))) [
      | inl before ↦ rw (get_or_append_left rows (next ∷ []) [] r before) (all r before)
      | inr here ↦ rw (here, get_or-append_seam rows next [] []) one
    ]

-- the kept rows with one more
pub kept_more : (items : List SchemaItem) (rows : List Fields) (next : Fields) → kept_rows items (rows ++ next ∷ []) ≡ kept_rows items rows ++ kept_fields items next ∷ []
kept_more items rows next = map-append (kept_fields items) rows (next ∷ [])

pub good_more : (items : List SchemaItem) (limits : Limits) (rows : List Fields) (next : Fields) → GoodRows items limits rows → GoodRow items limits rows next → GoodRows items limits (rows ++ next ∷ [])
good_more items limits rows next all one = record {
  full = full_more items rows next all.full one.full;
  good = subst (λ (xs : List Fields). AreGoodRows (columns_in items) limits xs) (sym (kept_more items rows next))
      (rows_more (columns_in items) limits (kept_rows items rows) (kept_fields items next) all.good one.good);
}

-- good rows are within the limit of rows
pub good_bound : (items : List SchemaItem) (limits : Limits) (rows : List Fields) (n : ℕ) → AreGoodRows (columns_in items) limits (kept_rows items rows) → length rows ≡ suc n → length rows ≤ limits.rows
good_bound items limits rows n good e =
    let bound = rows_bound (columns_in items) limits (kept_rows items rows) n good (rows_count items rows ∙ e) in
    omega (arith, bound, rows_count items rows)
