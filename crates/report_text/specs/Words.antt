-- How a report lays out the interval in which an answer lies.
use Rattle.std.specs.Prelude.{Bool, List, ◌++◌, ℕ, codes, if◌then◌else◌}
use Rattle.query_model.specs.declared.bounds.Nullity.{Nullity}
use Rattle.query_model.specs.declared.bounds.Nullity.TheVariants.{Never, Possibly, Always}

-- one text where the ends are equal, else both
abbrev pub ends_text : Bool → List ℕ → List ℕ → List ℕ
ends_text equal low high = if equal then low else codes "[" ++ (low ++ (codes ", " ++ (high ++ codes "]")))

-- and whether there may be no answer
abbrev pub interval_text : Nullity → List ℕ → List ℕ
interval_text Never ends = ends
interval_text Possibly ends = ends ++ codes " or null"
interval_text Always ends = codes "null"
