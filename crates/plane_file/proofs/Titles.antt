-- The names of columns.
use Rattle.std.proofs.Common.{◌≡◌, ℕ, Bool, ◌||◌, List, [], ◌∷◌, refl, ap}
use Rattle.std.specs.List.{list_any}
use Rattle.std.specs.Str.{bytes_eq}
use Rattle.daq_table.specs.declared.head.ColumnHead.{ColumnHead}
use Rattle.plane_file.specs.Checks.{titles_of}

pub list_any-titles : (columns : List ColumnHead) (title : List ℕ) → list_any (λ (c : ColumnHead). bytes_eq c.name title) columns ≡ list_any (λ other. bytes_eq other title) (titles_of columns)
list_any-titles [] title = refl
list_any-titles (c ∷ columns) title = ap (λ (b : Bool). bytes_eq c.name title || b) (list_any-titles columns title)
