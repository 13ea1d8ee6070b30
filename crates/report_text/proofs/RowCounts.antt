-- How many rows of a block are certain, and how many possible.
use Rattle.std.proofs.Common.{◌≡◌, ℕ, ◌+◌, ◌-◌, Bool, true, false, not, List, [], ◌∷◌, length, cond, refl, arith}
use Rattle.std.proofs.lemmas.List.Sums.{sum_by-cons}
use Rattle.report_text.specs.RowBlocks.{certain_rows, possible_rows}
use Rattle.report_text.specs.declared.rows.RowLine.{RowLine}

one : (certain : Bool) → cond certain 1 0 + cond (not certain) 1 0 ≡ 1
one true = refl
one false = refl

-- each row is one or the other
counts_are_all : (rows : List RowLine) → certain_rows rows + possible_rows rows ≡ length rows
counts_are_all [] = refl
counts_are_all (row ∷ rows) =
    let certain = sum_by-cons (λ (r : RowLine). cond r.certain 1 0) row rows in
    let possible = sum_by-cons (λ (r : RowLine). cond (not r.certain) 1 0) row rows in
    omega (arith, certain, possible, one row.certain, counts_are_all rows)

pub possible_is : (rows : List RowLine) (all certain : ℕ) → all ≡ length rows → certain ≡ certain_rows rows → all - certain ≡ possible_rows rows
possible_is rows all certain is_all is_certain = omega (arith, is_all, is_certain, counts_are_all rows)
