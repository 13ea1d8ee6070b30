-- Rows of a mask that are taken from those that may have a value.
use Rattle.std.proofs.Common.{ℕ, zero, suc, Bool, true, false, ◌&&◌, List, [], ◌∷◌, map, slice_index, slice_index_or, IsTrue}
use Rattle.std.proofs.lemmas.Bool.{false≢true}
use Rattle.std.specs.Simd.Lanes.{zip2}
use Rattle.known_column.specs.Columns.{KnownColumn, is_possible, rows_where}
use Rattle.aggregates.specs.Selections.{MayHaveValues}

one_of_both : (a b : Bool) → IsTrue (a && b) → IsTrue b
one_of_both true b h = h
one_of_both false b h = absurd (false≢true h)

row_of_both : (test : ℕ → Bool) (mask : List Bool) (prefixes : List ℕ) (row : ℕ) → IsTrue (slice_index_or (zip2 (λ a b. a && b) mask (map test prefixes)) row false) → IsTrue (test (slice_index prefixes row))
row_of_both test [] prefixes row h = absurd (false≢true h)
row_of_both test (m ∷ mask) [] row h = absurd (false≢true h)
row_of_both test (m ∷ mask) (p ∷ prefixes) zero h = one_of_both m (test p) h
row_of_both test (m ∷ mask) (p ∷ prefixes) (suc row) h = row_of_both test mask prefixes row h

pub taken_from_possible : (column : KnownColumn) (mask : List Bool) → MayHaveValues column (zip2 (λ a b. a && b) mask (rows_where is_possible column))
taken_from_possible column mask row h = row_of_both (is_possible column.ends column.known.read) mask column.known.prefixes row h
