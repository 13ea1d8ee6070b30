-- A text in two parts.
use Rattle.std.specs.Borrow.{Bor}
use Rattle.std.specs.Prelude.{◌≡◌, ℕ, List}
use Rattle.std.specs.declared.option.Option.{Option}
use Rattle.std.specs.declared.option.Option.TheVariants.{Some, None}

-- these are the parts
abbrev pub IsParted : List ℕ → List ℕ → Option (Bor (List ℕ) × Bor (List ℕ)) → Type 0
IsParted front rest None = ⊥
IsParted front rest (Some around) = (around.0.now ≡ front) × (around.1.now ≡ rest)
