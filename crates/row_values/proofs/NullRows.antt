-- Bits of words that tell at which rows of a block an expression may have a value, and at which it surely has one.
use Rattle.std.proofs.Common.{◌≡◌, ℕ, ◌+◌, ◌-◌, ◌*◌, ◌^◌, ◌<◌, ◌==◌, min, Bool, true, false, not, ◌&&◌, List, length, take, drop, get_or, slice_get, Some, IsTrue, refl, ap, sym, ◌∙◌, arith}
use Rattle.std.proofs.lemmas.Bool.Decides.{nat_tests}
use Rattle.std.proofs.lemmas.List.{get_or-drop, get_or-map, get_or-take, length-map}
use Rattle.std.proofs.lemmas.Nat.Bits.{bit_at_and, bit_at_ones, bit_at-lt}
use Rattle.std.proofs.lemmas.Option.{get_or_from_slice_get}
use Rattle.std.specs.Int.{bit_at}
use Rattle.std.specs.Int.Bits.{bit_and}
use Rattle.daq_table.specs.declared.head.Ends.{Ends}
use Rattle.plane_kernels.specs.Rows.{bits_of, digit_at}
use Rattle.plane_kernels.proofs.RowLemmas.{get-bits_of}
use Rattle.known_column.specs.Columns.{KnownColumn, count_in_block, rows_of_column, rows_where}
use Rattle.query_model.specs.declared.bounds.Nullity.{Nullity}
use Rattle.query_model.specs.declared.bounds.Nullity.TheVariants.{Never, Possibly, Always}
use Rattle.query_model.specs.Truths.{may_be_null, may_be_number, one_null}

-- a bit of the word of a column's rows is that of its row
pub where_bit : (test : Ends → ℕ → ℕ → Bool) (column : KnownColumn) (mask : List Bool) (word block r : ℕ) → mask ≡ rows_where test column →
    bits_of (min 64 (length mask - 64 * block)) word ≡ take 64 (drop (64 * block) mask) → r < count_in_block block (rows_of_column column) →
    digit_at r word ≡ test column.ends column.known.read (get_or column.known.prefixes (64 * block + r) 0)
where_bit test column mask word block r is e few =
    let rows : length mask ≡ rows_of_column column = ap length is ∙ length-map column.known.prefixes (test column.ends column.known.read) in
    let n = min 64 (length mask - 64 * block) in
    let here : slice_get (bits_of n word) r ≡ Some (digit_at r word) = get-bits_of n word r (omega (arith, rows, few)) in
    sym (get_or_from_slice_get (bits_of n word) r (digit_at r word) false here) ∙ ap (λ l. get_or l r false) e ∙ get_or-take 64 (drop (64 * block) mask) r false (omega (arith, few)) ∙ get_or-drop (64 * block) mask r false
    ∙ ap (λ l. get_or l (64 * block + r) false) is ∙ get_or-map (test column.ends column.known.read) column.known.prefixes (64 * block + r) 0 false (omega (arith, few))

least : (a b : ℕ) → a < 2 → b < 2 → (min a b == 1) ≡ ((a == 1) && (b == 1))
least a b h k = grind (arith, nat_tests)

pub digit-and : (r a b : ℕ) → digit_at r (bit_and a b) ≡ (digit_at r a && digit_at r b)
digit-and r a b = ap (λ n. n == 1) (bit_at_and a b r) ∙ least (bit_at a r) (bit_at b r) (bit_at-lt a r) (bit_at-lt b r)

pub digit-ones : (r : ℕ) → r < 64 → digit_at r (2 ^ 64 - 1) ≡ true
digit-ones r h = ap (λ n. n == 1) (bit_at_ones 64 r h)

both_bits : (r a b : ℕ) (x y : Bool) → digit_at r a ≡ x → digit_at r b ≡ y → digit_at r (bit_and a b) ≡ (x && y)
both_bits r a b x y h k = digit-and r a b ∙ ap (λ v. v && digit_at r b) h ∙ ap (λ v. x && v) k

one_number : (x y : Nullity) → (may_be_number x && may_be_number y) ≡ may_be_number (one_null x y)
one_number Never y = refl
one_number Possibly Never = refl
one_number Possibly Possibly = refl
one_number Possibly Always = refl
one_number Always y = refl

one_sure : (x y : Nullity) → (not (may_be_null x) && not (may_be_null y)) ≡ not (may_be_null (one_null x y))
one_sure Never y = refl
one_sure Possibly Never = refl
one_sure Possibly Possibly = refl
one_sure Possibly Always = refl
one_sure Always y = refl

pub both_possible : (r a b : ℕ) (x y : Nullity) → digit_at r a ≡ may_be_number x → digit_at r b ≡ may_be_number y → digit_at r (bit_and a b) ≡ may_be_number (one_null x y)
both_possible r a b x y h k = both_bits r a b (may_be_number x) (may_be_number y) h k ∙ one_number x y

pub both_sure : (r a b : ℕ) (x y : Nullity) → digit_at r a ≡ not (may_be_null x) → digit_at r b ≡ not (may_be_null y) → digit_at r (bit_and a b) ≡ not (may_be_null (one_null x y))
both_sure r a b x y h k = both_bits r a b (not (may_be_null x)) (not (may_be_null y)) h k ∙ one_sure x y

-- where one of two values is not surely null, neither is
pub numbers_both : (x y : Nullity) → IsTrue (may_be_number (one_null x y)) → IsTrue (may_be_number x) × IsTrue (may_be_number y)
numbers_both Never Never h = (refl, refl)
numbers_both Never Possibly h = (refl, refl)
numbers_both Never Always h = cc
numbers_both Possibly Never h = (refl, refl)
numbers_both Possibly Possibly h = (refl, refl)
numbers_both Possibly Always h = cc
numbers_both Always y h = cc
