-- The planes of a column, by its numbers and its marks of null.
use Rattle.std.proofs.Common.{◌≡◌, ℕ, suc, ◌+◌, ◌-◌, ◌*◌, ◌/◌, ◌%◌, ◌^◌, ◌<◌, ◌==◌, Bool, true, false, not, List, []}
use Rattle.std.proofs.Common.{◌∷◌, length, map, get_or, refl, arith, subst, sym, ap, ◌∙◌, IsTrue, IsFalse, Some, None}
use Rattle.std.proofs.lemmas.Nat.{pow_pos, pow-add, div-mul-add, div-add-mod', mod_below}
use Rattle.std.proofs.Math.Nat.{pow-succ'}
use Rattle.daq_table.proofs.TableCells.{ends_read}
use Rattle.daq_table.specs.declared.head.ColumnHead.{ColumnHead}
use Rattle.daq_table.specs.declared.head.Ends.{Ends}
use Rattle.daq_table.specs.declared.table_head.Head.{Head}
use Rattle.daq_table.specs.Tables.{Cell, IsCell, code, ends_at, ends_of, first_code, frame_of, is_null_cell}
use Rattle.daq_table.specs.Tables.{number_of, planes, spread, width}
use Rattle.query_model.specs.Knowledge.{bit_at}
use Rattle.query_model.proofs.Blocks.{below_digits, zero_quotient, nullable_column, plain_column}

-- a digit of a number that has so many, counted from the highest
abbrev pub digit : ℕ → ℕ → ℕ → Bool
digit digits j n = (n / 2 ^ (digits - (j + 1))) % 2 == 1

-- in a column that is not nullable the code of a cell is its number
plain_code : (ends : Ends) (cell : Cell) → IsFalse ends.nullable → code ends cell ≡ number_of cell
plain_code ends None n = refl
plain_code ends (Some u) n = let first = (plain_column ends n).1 in omega (arith, first)

plain_bit : (ends : Ends) (j : ℕ) (cell : Cell) → IsFalse ends.nullable → bit_at ends j cell ≡ digit (width ends) j (number_of cell)
plain_bit ends j cell n =
    ap (λ c. digit (planes ends) j c) (plain_code ends cell n) ∙ ap (λ d. digit d j (number_of cell)) (plain_column ends n).0

pub plain_plane : (ends : Ends) (j : ℕ) (cells : List Cell) → IsFalse ends.nullable →
    map (bit_at ends j) cells ≡ map (digit (width ends) j) (map number_of cells)
plain_plane ends j [] n = refl
plain_plane ends j (cell ∷ cells) n =
    ap (λ b. b ∷ map (bit_at ends j) cells) (plain_bit ends j cell n)
    ∙ ap (λ bs. digit (width ends) j (number_of cell) ∷ bs) (plain_plane ends j cells n)

-- in a nullable column the first digit tells whether there is a number
first_code_bit : (w n : ℕ) → n < 2 ^ w → ((2 ^ w + n) / 2 ^ w) % 2 == 1 ≡ true
first_code_bit w n h =
    let pos = pow_pos w in
    let quotient : (2 ^ w + n) / 2 ^ w ≡ 1 = subst (λ m. m / 2 ^ w ≡ 1) (omega arith) (div-mul-add 1 (2 ^ w) n h) in
    ap (λ q. q % 2 == 1) quotient

zero_bit : (k : ℕ) → (0 / 2 ^ k) % 2 == 1 ≡ false
zero_bit k = ap (λ q. q % 2 == 1) (zero_quotient (2 ^ k) (pow_pos k))

null_bit : (ends : Ends) (cell : Cell) → IsTrue ends.nullable → IsCell ends cell → bit_at ends 0 cell ≡ not (is_null_cell cell)
null_bit ends None n h = zero_bit (planes ends - 1)
null_bit ends (Some u) n h =
    let column = nullable_column ends n in
    let below : u < 2 ^ width ends = omega (arith, below_digits (spread ends), h) in
    let last : planes ends - (0 + 1) ≡ width ends = omega (arith, column.0) in
    ap (λ d. ((first_code ends + u) / 2 ^ d) % 2 == 1) last ∙ ap (λ f. ((f + u) / 2 ^ width ends) % 2 == 1) column.1
    ∙ first_code_bit (width ends) u below

pub null_plane : (ends : Ends) (cells : List Cell) → IsTrue ends.nullable →
    ((r : ℕ) → r < length cells → IsCell ends (get_or cells r (Some 0))) → map (bit_at ends 0) cells ≡ map not (map is_null_cell cells)
null_plane ends [] n h = refl
null_plane ends (cell ∷ cells) n h =
    ap (λ b. b ∷ map (bit_at ends 0) cells) (null_bit ends cell n (h 0 (omega arith)))
    ∙ ap (λ bs. not (is_null_cell cell) ∷ bs) (null_plane ends cells n (λ r lt. h (suc r) (omega arith)))

-- each further digit is one of the number
even_part : (w k n : ℕ) → k < w → ((2 ^ w + n) / 2 ^ k) % 2 ≡ (n / 2 ^ k) % 2
even_part w k n lt =
    let b = 2 ^ k in
    let twice : 2 ^ w ≡ 2 * 2 ^ (w - k - 1) * b =
    ap (λ m. 2 ^ m) (omega (arith, lt)) ∙ pow-add 2 (suc (w - k - 1)) k ∙ ap (λ m. m * b) (pow-succ' 2 (w - k - 1)) in
    let rest : n ≡ n / b * b + n % b = sym (div-add-mod' n b) in
    let sum : 2 ^ w + n ≡ (2 * 2 ^ (w - k - 1) + n / b) * b + n % b = omega (arith, twice, rest) in
    let quotient : (2 ^ w + n) / b ≡ 2 * 2 ^ (w - k - 1) + n / b =
    ap (λ m. m / b) sum ∙ div-mul-add (2 * 2 ^ (w - k - 1) + n / b) b (n % b) (mod_below n b (pow_pos k)) in
    ap (λ q. q % 2) quotient ∙ omega arith

number_bit : (ends : Ends) (j : ℕ) (cell : Cell) → IsTrue ends.nullable → j < width ends →
    bit_at ends (suc j) cell ≡ digit (width ends) j (number_of cell)
number_bit ends j None n lt = zero_bit (planes ends - (suc j + 1)) ∙ sym (zero_bit (width ends - (j + 1)))
number_bit ends j (Some u) n lt =
    let column = nullable_column ends n in
    let left : planes ends - (suc j + 1) ≡ width ends - (j + 1) = omega (arith, column.0) in
    ap (λ d. ((first_code ends + u) / 2 ^ d) % 2 == 1) left
    ∙ ap (λ f. ((f + u) / 2 ^ (width ends - (j + 1))) % 2 == 1) column.1
    ∙ ap (λ m. m == 1) (even_part (width ends) (width ends - (j + 1)) u (omega (arith, lt)))

pub number_plane : (ends : Ends) (j : ℕ) (cells : List Cell) → IsTrue ends.nullable → j < width ends →
    map (bit_at ends (suc j)) cells ≡ map (digit (width ends) j) (map number_of cells)
number_plane ends j [] n lt = refl
number_plane ends j (cell ∷ cells) n lt =
    ap (λ b. b ∷ map (bit_at ends (suc j)) cells) (number_bit ends j cell n lt)
    ∙ ap (λ bs. digit (width ends) j (number_of cell) ∷ bs) (number_plane ends j cells n lt)

-- a plane behind the first is one of the number's digits
pub digits_left : (ends : Ends) (j : ℕ) → IsTrue ends.nullable → j ≡ suc (j - 1) → j < planes ends → j - 1 < width ends
digits_left ends j n e lt = omega (arith, e, lt, (nullable_column ends n).0)

-- what is declared of a column is what was looked up in the head of its table
pub declared : (head read : Head) (column : ℕ) (found : ColumnHead) → read ≡ head → column < length head.columns →
    found ≡ get_or read.columns column found → ends_at (frame_of head) column ≡ ends_of found
declared head read column found e lt is =
    ends_read head.columns column found lt (subst (λ (h : Head). found ≡ get_or h.columns column found) e is)
