-- The least and the greatest of a column's numbers.
use Rattle.std.specs.Prelude.{ℤ, pos, List, [], ◌∷◌, fold}
use Rattle.std.specs.Int.{int_max, int_min}

-- the least number, and 0 where there is none
abbrev pub least : List ℤ → ℤ
least [] = pos 0
least (z ∷ zs) = fold int_min z zs

-- the greatest number, and 0 where there is none
abbrev pub greatest : List ℤ → ℤ
greatest [] = pos 0
greatest (z ∷ zs) = fold int_max z zs
