-- Some rows of a mask.
use Rattle.std.specs.Prelude.{◌≡◌, ◌&&◌, Bool, List, length, None, Some, IfSome}
use Rattle.std.specs.declared.option.Option.{Option}
use Rattle.std.specs.Simd.Lanes.{zip2}

-- those of some rows that have a bit of 1, where bits are given
abbrev pub among : List Bool → Option (List Bool) → List Bool
among rows None = rows
among rows (Some bits) = zip2 (λ a b. a && b) rows bits

-- if bits are given, each row has one
abbrev pub HaveBits : List Bool → Option (List Bool) → Type 0
HaveBits rows bits = IfSome bits (λ b. length b ≡ length rows)
