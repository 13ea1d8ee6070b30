-- Items of a schema, one after another.
use Rattle.std.proofs.Common.{◌≡◌, inl, inr, ℕ, suc, ◌+◌, ◌-◌, ◌<◌, ◌≤◌, ◌==◌, Bool, true, false, cond, Option, Some, None, is_some, List, [], ◌∷◌, length, drop, refl, sym, ap, ◌∙◌, arith, IsTrue, nat_eq, nat_le, codes, slice_index, ◌&&◌}
use Rattle.std.proofs.lemmas.Bool.{and_parts, and_from, cases_lt}
use Rattle.std.proofs.lemmas.Bool.Decides.{nat_tests}
use Rattle.std.proofs.lemmas.List.{drop-drop, length-drop, length-take, take_all}
use Rattle.std.proofs.lemmas.List.Splits.{slice_split_first, slice_split_none}
use Rattle.std.proofs.lemmas.List.Sums.{fails_before_first, prefix_len-le-length}
use Rattle.std.specs.Char.{is_ascii_digit}
use Rattle.std.specs.List.{after_first, before_first, cons_option, position_or_len, slice_split, starts_with}
use Rattle.std.specs.Str.{bytes_eq}
use Rattle.daq_table.specs.Schemas.{bad_place, column_named, column_of, column_worded, columns_of, declared_of, fit_scales, fits_scale, is_dec_word, is_nullable_word, is_schema_name, item_of, items_of, kind_of, kind_word}
use Rattle.daq_table.specs.declared.head.Kind.{Kind}
use Rattle.daq_table.specs.declared.head.Kind.TheVariants.{Int, Dec, Date, Text}
use Rattle.daq_table.specs.declared.schema_column.SchemaColumn.{SchemaColumn}
use Rattle.daq_table.specs.declared.schema_item.SchemaItem.{SchemaItem}

-- the part before the first such byte ends where that byte stands
ends_at : (p : ℕ → Bool) (xs : List ℕ) → (length (before_first p xs) ≡ position_or_len p xs) × (position_or_len p xs ≤ length xs)
ends_at p xs = let within : position_or_len p xs ≤ length xs = prefix_len-le-length _ xs in (rw length-take (omega arith), within)

one_part : (p : ℕ → Bool) (xs : List ℕ) → length (before_first p xs) ≡ length xs → slice_split p xs ≡ before_first p xs ∷ []
one_part p xs e =
    let ends = ends_at p xs in
    let whole : before_first p xs ≡ xs = take_all (position_or_len p xs) xs (omega arith) in
    rw whole (slice_split_none p xs (λ k d lt. fails_before_first p xs k d (omega arith)))

more_parts : (p : ℕ → Bool) (xs : List ℕ) → length (before_first p xs) < length xs → slice_split p xs ≡ before_first p xs ∷ slice_split p (drop (length (before_first p xs) + 1) xs)
more_parts p xs lt =
    let ends = ends_at p xs in
    rw ends.0 (slice_split_first p xs 0 (omega arith))

-- an item that goes to the text's end
last_item : (text : List ℕ) (at : ℕ) (item : List ℕ) → item ≡ before_first (λ c. c == 44) (drop at text) → at + length item ≡ length text → items_of (drop at text) ≡ item ∷ []
last_item text at item e h =
    rw e (one_part (λ c. c == 44) (drop at text) (omega (arith, length-drop at text, ap length e)))

-- an item that ends before
more_items : (text : List ℕ) (at : ℕ) (item : List ℕ) → item ≡ before_first (λ c. c == 44) (drop at text) → at ≤ length text → at + length item < length text → items_of (drop at text) ≡ item ∷ items_of (drop (at + (length item + 1)) text)
more_items text at item e within h =
    let ends = ends_at (λ c. c == 44) (drop at text) in
    let parts = more_parts (λ c. c == 44) (drop at text) (omega (arith, length-drop at text, ap length e)) in
    rw (← e, drop-drop) at parts

bad_step : (at : ℕ) (item : List ℕ) (items : List (List ℕ)) (c : Option SchemaItem) → item_of item ≡ c → bad_place at (item ∷ items) ≡ cond (is_some c) (bad_place (at + length item + 1) items) (Some at)
bad_step at item items c e = ap (λ (o : Option SchemaItem). cond (is_some o) (bad_place (at + length item + 1) items) (Some at)) e

declared_step : (item : List ℕ) (items : List (List ℕ)) (c : Option SchemaItem) → item_of item ≡ c → declared_of (item ∷ items) ≡ cons_option c (declared_of items)
declared_step item items c e = ap (λ (o : Option SchemaItem). cons_option o (declared_of items)) e

-- the first of the items has not the form of one
bad_first : (at : ℕ) (item : List ℕ) (items rest : List (List ℕ)) → items ≡ item ∷ rest → item_of item ≡ None → bad_place at items ≡ Some at
bad_first at item items rest e h = rw e (bad_step at item rest None h)

-- an item is no longer than what is left
pub item_within : (text : List ℕ) (at : ℕ) (item : List ℕ) → item ≡ before_first (λ c. c == 44) (drop at text) → at ≤ length text → at + length item ≤ length text
item_within text at item e within =
    let ends = ends_at (λ c. c == 44) (drop at text) in
    omega (arith, length-drop at text, ap length e)

pub bad_here : (text : List ℕ) (at : ℕ) (item : List ℕ) → item ≡ before_first (λ c. c == 44) (drop at text) → at ≤ length text → item_of item ≡ None → bad_place at (items_of (drop at text)) ≡ Some at
bad_here text at item e within h =
    elim (cases_lt (at + length item) (length text)) [
      | inl more ↦ bad_first at item (items_of (drop at text)) (items_of (drop (at + (length item + 1)) text)) (more_items text at item e within more) h
      | inr end ↦ bad_first at item (items_of (drop at text)) [] (last_item text at item e (omega (arith, end, item_within text at item e within))) h
    ]

pub good_last : (text : List ℕ) (at : ℕ) (item : List ℕ) (column : SchemaItem) → item ≡ before_first (λ c. c == 44) (drop at text) → at + length item ≡ length text → item_of item ≡ Some column → bad_place at (items_of (drop at text)) ≡ None
good_last text at item column e end h = rw (last_item text at item e end) (bad_step at item [] (Some column) h)

pub declared_last : (text : List ℕ) (at : ℕ) (item : List ℕ) (column : SchemaItem) → item ≡ before_first (λ c. c == 44) (drop at text) → at + length item ≡ length text → item_of item ≡ Some column → declared_of (items_of (drop at text)) ≡ column ∷ []
declared_last text at item column e end h = rw (last_item text at item e end) (declared_step item [] (Some column) h)

pub good_more : (text : List ℕ) (at : ℕ) (item : List ℕ) (column : SchemaItem) → item ≡ before_first (λ c. c == 44) (drop at text) → at ≤ length text → at + length item < length text → item_of item ≡ Some column
    → bad_place (at + (length item + 1)) (items_of (drop (at + (length item + 1)) text)) ≡ bad_place at (items_of (drop at text))
good_more text at item column e within more h =
    let rest = items_of (drop (at + (length item + 1)) text) in
    let place : at + length item + 1 ≡ at + (length item + 1) = omega arith in
    let moved = ap (λ (n : ℕ). bad_place n rest) place in
    rw (more_items text at item e within more) (sym moved ∙ sym (bad_step at item rest (Some column) h))

pub declared_more : (text : List ℕ) (at : ℕ) (item : List ℕ) (column : SchemaItem) → item ≡ before_first (λ c. c == 44) (drop at text) → at ≤ length text → at + length item < length text → item_of item ≡ Some column
    → declared_of (items_of (drop at text)) ≡ column ∷ declared_of (items_of (drop (at + (length item + 1)) text))
declared_more text at item column e within more h =
    rw (more_items text at item e within more) (declared_step item (items_of (drop (at + (length item + 1)) text)) (Some column) h)

by_item : (c : Option SchemaItem) (at next : ℕ) (items : List (List ℕ)) → cond (is_some c) (bad_place next items) (Some at) ≡ None → (bad_place next items ≡ None → length (declared_of items) ≡ length items) → length (cons_option c (declared_of items)) ≡ suc (length items)
by_item None at next items h rest = absurd cc
by_item (Some column) at next items h rest = ap suc (rest h)

-- where each item has the form of one, as much is declared
pub length-declared : (at : ℕ) (items : List (List ℕ)) → bad_place at items ≡ None → length (declared_of items) ≡ length items
length-declared at [] h = refl
length-declared at (item ∷ items) h =
    by_item (item_of item) at (at + length item + 1) items h (λ good. length-declared (at + length item + 1) items good)

abbrev KindFits : Option Kind → Type 0
KindFits None = Unit {0}
KindFits (Some kind) = IsTrue (fits_scale kind)

abbrev ColumnFits : Option SchemaColumn → Type 0
ColumnFits None = Unit {0}
ColumnFits (Some column) = IsTrue (fits_scale column.kind)

by_word : (int date text dec : Bool) (scale : ℕ) → (dec ≡ true → IsTrue (nat_le scale 9)) → KindFits (cond int (Some Int) (cond date (Some Date) (cond text (Some Text) (cond dec (Some (Dec scale)) None))))
by_word true date text dec scale h = refl
by_word false true text dec scale h = refl
by_word false false true dec scale h = refl
by_word false false false true scale h = h refl
by_word false false false false scale h = tt

digit_scale : (c : ℕ) → is_ascii_digit c ≡ true → IsTrue (nat_le (c - 48) 9)
digit_scale c h = grind (arith, nat_tests)

kind_fits : (word : List ℕ) → KindFits (kind_of word)
kind_fits word =
    by_word (bytes_eq word (codes "int")) (bytes_eq word (codes "date")) (bytes_eq word (codes "text")) (is_dec_word word) (slice_index word 3 - 48)
    (λ e. digit_scale (slice_index word 3) (and_parts ((length word == 4) && starts_with nat_eq word (codes "dec")) (is_ascii_digit (slice_index word 3)) e).1)

by_good : (good : Bool) (name : List ℕ) (kind : Kind) (nullable : Bool) → IsTrue (fits_scale kind) → ColumnFits (cond good (Some (record { name = name; kind = kind; nullable = nullable })) None)
by_good true name kind nullable h = h
by_good false name kind nullable h = tt

by_name : (name : List ℕ) (kind : Option Kind) (nullable : Bool) → KindFits kind → ColumnFits (column_named name kind nullable)
by_name name None nullable h = tt
by_name name (Some kind) nullable h = by_good (is_schema_name name) name kind nullable h

worded_fits : (name word : List ℕ) → ColumnFits (column_worded name word)
worded_fits name word = by_name name (kind_of (kind_word word)) (is_nullable_word word) (kind_fits (kind_word word))

column_fits : (item : List ℕ) → ColumnFits (column_of item)
column_fits item = worded_fits (before_first (λ c. c == 58) item) (after_first (λ c. c == 58) item)

scale_step : (c : Option SchemaColumn) (columns : List SchemaColumn) → ColumnFits c → IsTrue (fit_scales columns) → IsTrue (fit_scales (cons_option c columns))
scale_step None columns h rest = rest
scale_step (Some column) columns h rest = and_from (fits_scale column.kind) (fit_scales columns) h rest

-- a decimal of a schema has at most nine places
pub scales_fit : (items : List (List ℕ)) → IsTrue (fit_scales (columns_of items))
scales_fit [] = refl
scales_fit (item ∷ items) = scale_step (column_of item) (columns_of items) (column_fits item) (scales_fit items)
