-- Of two numbers the greater one has no lesser text in a dictionary.
use Rattle.std.proofs.Common.{◌≡◌, ℕ, zero, suc, ◌≤◌, pos, negsuc, List, [], ◌∷◌, IsTrue, refl, arith, true}
use Rattle.std.specs.Cmp.Lexicographic.{slice_cmp}
use Rattle.std.specs.Ordering.{is_le, is_lt, nat_cmp}
use Rattle.std.specs.declared.cmp.Ordering.{Ordering}
use Rattle.std.specs.declared.cmp.Ordering.TheVariants.{Less, Equal, Greater}
use Rattle.std.proofs.lemmas.Bool.{and_parts, false≢true}
use Rattle.std.proofs.lemmas.Int.{ints}
use Rattle.daq_table.specs.ColumnFacts.{is_ascending}
use Rattle.text_extremes.proofs.Naming.{IsRising}
use Rattle.text_extremes.proofs.TextOrder.{chain, itself}
use Rattle.text_extremes.specs.Shards.{name_from, name_in}
use Rattle.text_extremes.specs.Texts.{text_le}
use Rattle.text_extremes.specs.declared.extreme.Extreme.TheVariants.{Least}

less_is_le : (o : Ordering) → is_lt o ≡ true → IsTrue (is_le o)
less_is_le Less h = refl
less_is_le Equal h = absurd (false≢true h)
less_is_le Greater h = absurd (false≢true h)

first_name : (name : List ℕ) (names : List (List ℕ)) → IsTrue (is_ascending (name ∷ names)) → (place : ℕ) →
    IsTrue (text_le name (name_from (name ∷ names) place))
first_name name [] h place = itself Least name
first_name name (next ∷ names) h zero = itself Least name
first_name name (next ∷ names) h (suc place) =
    let both = and_parts (is_lt (slice_cmp nat_cmp name next)) (is_ascending (next ∷ names)) h in
    chain Least name next (name_from (next ∷ names) place) (less_is_le (slice_cmp nat_cmp name next) both.0) (first_name next names both.1 place)

places_rise : (names : List (List ℕ)) → IsTrue (is_ascending names) → (j k : ℕ) → j ≤ k → IsTrue (text_le (name_from names j) (name_from names k))
places_rise [] h j k le = itself Least []
places_rise (name ∷ []) h j k le = itself Least name
places_rise (name ∷ next ∷ names) h zero k le = first_name name (next ∷ names) h k
places_rise (name ∷ next ∷ names) h (suc j) zero le = absurd (omega (arith, le))
places_rise (name ∷ next ∷ names) h (suc j) (suc k) le =
    places_rise (next ∷ names) (and_parts (is_lt (slice_cmp nat_cmp name next)) (is_ascending (next ∷ names)) h).1 j k (omega (arith, le))

pub names_rise : (names : List (List ℕ)) → IsTrue (is_ascending names) → IsRising (name_in names)
names_rise names h (pos j) (pos k) le = places_rise names h j k (omega (arith, ints, le))
names_rise names h (pos j) (negsuc k) le = absurd (omega (arith, ints, le))
names_rise names h (negsuc j) (pos k) le = places_rise names h 0 k (omega arith)
names_rise names h (negsuc j) (negsuc k) le = places_rise names h 0 0 (omega arith)
