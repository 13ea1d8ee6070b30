-- A list of texts, told by numbers of texts that are kept once each.
use Rattle.std.specs.Prelude.{◌≡◌, ℕ, ◌<◌, All, Option, Some, None, List, [], length, map, slice_get, slice_index_or}
use Rattle.std.specs.Str.{bytes_eq}
use Rattle.indexmap.specs.IndexSet.{insert_key}
use Rattle.daq_table.specs.Dictionaries.{distinct}
use Rattle.csv_load.specs.Columns.{IsShortText}

-- the texts with these numbers
abbrev pub texts_at : List (List ℕ) → List ℕ → List (List ℕ)
texts_at kept numbers = map (λ n. slice_index_or kept n []) numbers

-- the texts that are kept are short and differ, and are those that the numbers tell
pub record AreNumbered (kept : List (List ℕ)) (numbers : List ℕ) : Type 0 where
  pub within : All (λ n. n < length kept) numbers
  pub same : distinct kept ≡ distinct (texts_at kept numbers)
  pub differ : length (distinct kept) ≡ length kept
  pub short : All IsShortText kept

-- the text is short, it is kept, last where it is new, and has the number
pub record HasNumber (old new : List (List ℕ)) (text : List ℕ) (number : ℕ) : Type 0 where
  pub short : IsShortText text
  pub kept : new ≡ insert_key bytes_eq old text
  pub there : slice_get new number ≡ Some text

-- the text is kept under its number, or it is not short, and nothing changed
abbrev pub Numbers : List (List ℕ) → List (List ℕ) → List ℕ → Option ℕ → Type 0
Numbers old new text (Some number) = HasNumber old new text number
Numbers old new text None = ¬ IsShortText text × (new ≡ old)
