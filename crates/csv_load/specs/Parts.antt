-- The fields of a record as they are kept: parts of its text, or of copies.
use Rattle.std.specs.Prelude.{ℕ, ◌-◌, ◌≤◌, ⊤, List, take, drop}
use Rattle.csv_load.specs.declared.fields.Part.{Part}
use Rattle.csv_load.specs.declared.fields.Part.TheVariants.{InText, Apart}

-- the bytes of a field, with the copies
abbrev pub part_of : List ℕ → Part → List ℕ
part_of copies (InText field) = field.now
part_of copies (Apart from to) = take (to - from) (drop from copies)

-- a part of so many bytes of copies, or of the text
abbrev pub IsPart : ℕ → Part → Type 0
IsPart count (InText field) = ⊤
IsPart count (Apart from to) = (from ≤ to) × (to ≤ count)
