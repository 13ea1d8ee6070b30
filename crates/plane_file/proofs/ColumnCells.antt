-- The cells of a column out of the prefixes that its planes write, and the planes of both.
use Rattle.std.proofs.Common.{◌≡◌, ℕ, zero, suc, ◌+◌, ◌-◌, ◌*◌, ◌/◌, ◌%◌, ◌^◌, ◌<◌, ◌≤◌, ◌==◌, Bool, true, false, cond, not, ◌&&◌, List, [], ◌∷◌, All, length, map, get_or, refl, sym, ap, subst, ◌∙◌, arith, inl, inr, IsTrue, IsFalse, Some, None, if◌then◌else◌}
use Rattle.std.proofs.Math.Nat.{div-div-eq-div-mul, div-one, pow-succ'}
use Rattle.std.proofs.lemmas.Bool.{cases_Bool, cases_lt, ne_eqb, true≢false}
use Rattle.std.proofs.lemmas.Bool.Decides.{nat_tests}
use Rattle.std.proofs.lemmas.List.{length-map}
use Rattle.std.proofs.lemmas.Nat.{pow-add}
use Rattle.daq_table.specs.declared.head.Ends.{Ends}
use Rattle.daq_table.specs.declared.table_head.Head.{Head}
use Rattle.daq_table.specs.Tables.{Cell, IsCell, code, column_from, ends_at, first_code, frame_of, planes, spread}
use Rattle.plane_kernels.specs.Bytes.{bytes_of_rows}
use Rattle.query_model.specs.declared.bounds.Nullity.TheVariants.{Never, Possibly, Always}
use Rattle.query_model.specs.Truths.{may_be_number}
use Rattle.query_model.specs.Knowledge.{IsLegal, bit_at, longer, prefix_of}
use Rattle.query_model.proofs.Blocks.{legal_cases, nullable_column, prefixes_are_legal}
use Rattle.known_column.specs.Columns.{KnownColumn, digit_of, is_possible, number_of, read_further}
use Rattle.plane_file.specs.ColumnReading.{TellsPlanes}
use Rattle.plane_file.specs.Places.{plane_in}
use Rattle.plane_file.specs.TableReading.{HavePlanes}
use Rattle.plane_file.proofs.OneTable.{whole_code}

-- ---- the digits of prefixes with one digit more

half_of_longer : (p : ℕ) (b : Bool) → (2 * p + cond b 1 0) / 2 ≡ p
half_of_longer p true = omega arith
half_of_longer p false = omega arith

earlier_digit : (p m : ℕ) (b : Bool) → (2 * p + cond b 1 0) / 2 ^ suc m ≡ p / 2 ^ m
earlier_digit p m b =
    ap (λ k. (2 * p + cond b 1 0) / k) (pow-succ' 2 m) ∙ sym (div-div-eq-div-mul (2 * p + cond b 1 0) 2 (2 ^ m)) ∙ ap (λ n. n / 2 ^ m) (half_of_longer p b)

kept_digit : (read k p : ℕ) (b : Bool) → k < read → digit_of (read + 1) k (2 * p + cond b 1 0) ≡ digit_of read k p
kept_digit read k p b h =
    let left : read + 1 - (k + 1) ≡ suc (read - (k + 1)) = omega (arith, h) in
    ap (λ m. ((2 * p + cond b 1 0) / 2 ^ m) % 2 == 1) left ∙ ap (λ q. q % 2 == 1) (earlier_digit p (read - (k + 1)) b)

kept_digits : (read k : ℕ) (ps : List ℕ) (bits : List Bool) → k < read → length bits ≡ length ps → map (digit_of (read + 1) k) (longer ps bits) ≡ map (digit_of read k) ps
kept_digits read k [] bits h e = refl
kept_digits read k (p ∷ ps) [] h e = absurd (omega (arith, e))
kept_digits read k (p ∷ ps) (b ∷ bits) h e =
    ap (λ x. x ∷ map (digit_of (read + 1) k) (longer ps bits)) (kept_digit read k p b h) ∙ ap (λ l. digit_of read k p ∷ l) (kept_digits read k ps bits h (omega (arith, e)))

last_bit : (p : ℕ) (b : Bool) → ((2 * p + cond b 1 0) % 2 == 1) ≡ b
last_bit p true = grind (arith, nat_tests)
last_bit p false = grind (arith, nat_tests)

new_digit : (read p : ℕ) (b : Bool) → digit_of (read + 1) read (2 * p + cond b 1 0) ≡ b
new_digit read p b =
    let none : read + 1 - (read + 1) ≡ 0 = omega arith in
    ap (λ m. ((2 * p + cond b 1 0) / 2 ^ m) % 2 == 1) none ∙ ap (λ q. q % 2 == 1) (div-one (2 * p + cond b 1 0)) ∙ last_bit p b

new_digits : (read : ℕ) (ps : List ℕ) (bits : List Bool) → length bits ≡ length ps → map (digit_of (read + 1) read) (longer ps bits) ≡ bits
new_digits read [] [] e = refl
new_digits read [] (b ∷ bits) e = absurd (omega (arith, e))
new_digits read (p ∷ ps) [] e = absurd (omega (arith, e))
new_digits read (p ∷ ps) (b ∷ bits) e =
    ap (λ x. x ∷ map (digit_of (read + 1) read) (longer ps bits)) (new_digit read p b) ∙ ap (λ l. b ∷ l) (new_digits read ps bits (omega (arith, e)))

-- the planes read so far and the next one
pub planes_more : (head : Head) (bytes : List ℕ) (column : ℕ) (known : KnownColumn) (bits : List Bool) → length bits ≡ length known.known.prefixes →
    bytes_of_rows bits ≡ plane_in head column known.known.read bytes → TellsPlanes head bytes column known → TellsPlanes head bytes column (read_further known bits)
planes_more head bytes column known bits long here told plane lt =
    let read = known.known.read in
    let ps = known.known.prefixes in
    elim (cases_lt plane read) [
      | inl less ↦ ap bytes_of_rows (kept_digits read plane ps bits less long) ∙ told plane less
      | inr past ↦
          (let last : read ≡ plane = omega (arith, past, lt) in
          subst (λ k. bytes_of_rows (map (digit_of (read + 1) k) (longer ps bits)) ≡ plane_in head column k bytes) last (ap bytes_of_rows (new_digits read ps bits long) ∙ here))
    ]

-- ---- cells that have these prefixes

pub record HavePrefixes (ends : Ends) (read : ℕ) (prefixes : List ℕ) (cells : List Cell) : Type 0 where
  pub long : length cells ≡ length prefixes
  pub within : (row : ℕ) → row < length prefixes → IsCell ends (get_or cells row (Some 0))
  pub same : map (prefix_of ends read) cells ≡ prefixes

cells_more : (ends : Ends) (read p : ℕ) (ps : List ℕ) (cell : Cell) (cells : List Cell) → IsCell ends cell → prefix_of ends read cell ≡ p → HavePrefixes ends read ps cells → HavePrefixes ends read (p ∷ ps) (cell ∷ cells)
cells_more ends read p ps cell cells is e rest = record {
  long = ap suc rest.long;
  within = within;
  same = ap (λ q. q ∷ map (prefix_of ends read) cells) e ∙ ap (λ l. p ∷ l) rest.same;
}
  where
    within : (row : ℕ) → row < suc (length ps) → IsCell ends (get_or (cell ∷ cells) row (Some 0))
    within zero lt = is
    within (suc row) lt = rest.within row (omega (arith, lt))

no_cells : (ends : Ends) (read : ℕ) → HavePrefixes ends read [] []
no_cells ends read = record { long = refl; within = λ row lt. absurd (omega (arith, lt)); same = refl }

-- legal prefixes are those of cells
pub some_cells : (ends : Ends) (read : ℕ) (ps : List ℕ) → All (IsLegal ends read) ps → (cells : List Cell) × HavePrefixes ends read ps cells
some_cells ends read [] legal = ([], no_cells ends read)
some_cells ends read (p ∷ ps) legal =
    let one = (prefixes_are_legal ends read p).has_cell (legal 0 0 (omega arith)) in
    let rest = some_cells ends read ps (λ k d lt. legal (suc k) d (omega (arith, lt))) in
    (one.0 ∷ rest.0, cells_more ends read p ps one.0 rest.0 one.1 one.2 rest.1)

-- the digits of a cell are those of its prefix
cell_digit : (ends : Ends) (read k : ℕ) (cell : Cell) → k < read → read ≤ planes ends → bit_at ends k cell ≡ digit_of read k (prefix_of ends read cell)
cell_digit ends read k cell h few =
    let a = planes ends - read in
    let b = read - (k + 1) in
    let all : planes ends - (k + 1) ≡ a + b = omega (arith, h, few) in
    let quotient : code ends cell / 2 ^ (planes ends - (k + 1)) ≡ code ends cell / 2 ^ a / 2 ^ b =
    ap (λ m. code ends cell / 2 ^ m) all ∙ ap (λ n. code ends cell / n) (pow-add 2 a b) ∙ sym (div-div-eq-div-mul (code ends cell) (2 ^ a) (2 ^ b)) in
    ap (λ q. q % 2 == 1) quotient

cell_digits : (ends : Ends) (read k : ℕ) (cells : List Cell) → k < read → read ≤ planes ends → map (bit_at ends k) cells ≡ map (digit_of read k) (map (prefix_of ends read) cells)
cell_digits ends read k [] h few = refl
cell_digits ends read k (cell ∷ cells) h few =
    ap (λ b. b ∷ map (bit_at ends k) cells) (cell_digit ends read k cell h few) ∙ ap (λ l. digit_of read k (prefix_of ends read cell) ∷ l) (cell_digits ends read k cells h few)

-- so the planes that were read are those of cells that have the prefixes
pub have_planes : (head : Head) (bytes : List ℕ) (column read : ℕ) (ps : List ℕ) (cells : List Cell) → read ≤ planes (ends_at (frame_of head) column) → HavePrefixes (ends_at (frame_of head) column) read ps cells →
    TellsPlanes head bytes column (record { ends = ends_at (frame_of head) column; known = record { read = read; prefixes = ps } }) → HavePlanes head bytes column read cells
have_planes head bytes column read ps cells few have told plane lt =
    ap bytes_of_rows (cell_digits (ends_at (frame_of head) column) read plane cells lt few ∙ ap (map (digit_of read plane)) have.same) ∙ told plane lt

-- ---- the cells of a column that is read in full

least : (ends : Ends) → prefix_of ends (planes ends) (Some 0) ≡ first_code ends
least ends = whole_code ends (Some 0) ∙ omega arith

number_cell : (ends : Ends) (p : ℕ) → first_code ends ≤ p → p ≤ first_code ends + spread ends →
    IsCell ends (Some (number_of ends (planes ends) p)) × (prefix_of ends (planes ends) (Some (number_of ends (planes ends) p)) ≡ p)
number_cell ends p low high =
    subst (λ f. IsCell ends (Some (p - f)) × (prefix_of ends (planes ends) (Some (p - f)) ≡ p)) (sym (least ends))
    (omega (arith, low, high), whole_code ends (Some (p - first_code ends)) ∙ omega (arith, low))

legal_number : (ends : Ends) (p : ℕ) → (prefix_of ends (planes ends) (Some 0) ≤ p) × (p ≤ prefix_of ends (planes ends) (Some (spread ends))) →
    IsCell ends (Some (number_of ends (planes ends) p)) × (prefix_of ends (planes ends) (Some (number_of ends (planes ends) p)) ≡ p)
legal_number ends p h = number_cell ends p (omega (arith, h.0, least ends)) (omega (arith, h.1, whole_code ends (Some (spread ends))))

plain_cell : (ends : Ends) (p : ℕ) → IsFalse ends.nullable → IsLegal ends (planes ends) p →
    IsCell ends (Some (number_of ends (planes ends) p)) × (prefix_of ends (planes ends) (Some (number_of ends (planes ends) p)) ≡ p)
plain_cell ends p n legal = elim (legal_cases ends (planes ends) p legal) [
  | inl (null, z) ↦ absurd (true≢false (sym null ∙ n))
  | inr both ↦ legal_number ends p both
]

plain_cells : (ends : Ends) (ps : List ℕ) → IsFalse ends.nullable → All (IsLegal ends (planes ends)) ps → HavePrefixes ends (planes ends) ps (column_from (map (number_of ends (planes ends)) ps) [])
plain_cells ends [] n legal = no_cells ends (planes ends)
plain_cells ends (p ∷ ps) n legal =
    let one = plain_cell ends p n (legal 0 0 (omega arith)) in
    cells_more ends (planes ends) p ps _ _ one.0 one.1 (plain_cells ends ps n (λ k d lt. legal (suc k) d (omega (arith, lt))))

-- in a nullable column the prefix 0 is that of null
null_possible : (ends : Ends) → IsTrue ends.nullable → is_possible ends (planes ends) 0 ≡ false
null_possible ends n =
    let some : (planes ends == 0) ≡ false = ne_eqb (planes ends) 0 (λ e. absurd (omega (arith, e, (nullable_column ends n).0))) in
    ap (λ b. may_be_number (cond (b && (0 == 0)) (cond (planes ends == 0) Possibly Always) Never)) n ∙ ap (λ b. may_be_number (cond b Possibly Always)) some

other_possible : (ends : Ends) (p : ℕ) → is_possible ends (planes ends) (suc p) ≡ true
other_possible ends p =
    let some : (suc p == 0) ≡ false = ne_eqb (suc p) 0 (λ e. absurd (omega (arith, e))) in
    ap (λ b. may_be_number (cond (ends.nullable && b) (cond (planes ends == 0) Possibly Always) Never)) some ∙ no_null ends.nullable
  where
    no_null : (b : Bool) → may_be_number (cond (b && false) (cond (planes ends == 0) Possibly Always) Never) ≡ true
    no_null true = refl
    no_null false = refl

abbrev marked : Ends → ℕ → Cell
marked ends p = if not (is_possible ends (planes ends) p) then None else Some (number_of ends (planes ends) p)

marked_cell : (ends : Ends) (p : ℕ) → IsTrue ends.nullable → IsLegal ends (planes ends) p → IsCell ends (marked ends p) × (prefix_of ends (planes ends) (marked ends p) ≡ p)
marked_cell ends zero n legal =
    subst (λ (cell : Cell). IsCell ends cell × (prefix_of ends (planes ends) cell ≡ 0)) (ap (λ b. if not b then None else Some (number_of ends (planes ends) 0)) (sym (null_possible ends n)))
    (n, whole_code ends None)
marked_cell ends (suc p) n legal =
    let some : marked ends (suc p) ≡ Some (number_of ends (planes ends) (suc p)) = ap (λ b. if not b then None else Some (number_of ends (planes ends) (suc p))) (other_possible ends p) in
    elim (legal_cases ends (planes ends) (suc p) legal) [
      | inl (null, z) ↦ absurd (omega (arith, z))
      | inr both ↦ subst (λ (cell : Cell). IsCell ends cell × (prefix_of ends (planes ends) cell ≡ suc p)) (sym some) (legal_number ends (suc p) both)
    ]

marked_cells : (ends : Ends) (ps : List ℕ) → IsTrue ends.nullable → All (IsLegal ends (planes ends)) ps →
    HavePrefixes ends (planes ends) ps (column_from (map (number_of ends (planes ends)) ps) (map not (map (is_possible ends (planes ends)) ps)))
marked_cells ends [] n legal = no_cells ends (planes ends)
marked_cells ends (p ∷ ps) n legal =
    let one = marked_cell ends p n (legal 0 0 (omega arith)) in
    cells_more ends (planes ends) p ps (marked ends p) _ one.0 one.1 (marked_cells ends ps n (λ k d lt. legal (suc k) d (omega (arith, lt))))

null_number : (ends : Ends) (p : ℕ) → IsTrue (not (is_possible ends (planes ends) p)) → number_of ends (planes ends) p ≡ 0
null_number ends zero h = omega arith
null_number ends (suc p) h = absurd (true≢false (sym h ∙ ap not (other_possible ends p)))

null_numbers : (ends : Ends) (ps : List ℕ) (row : ℕ) → IsTrue (get_or (map not (map (is_possible ends (planes ends)) ps)) row false) → get_or (map (number_of ends (planes ends)) ps) row 0 ≡ 0
null_numbers ends [] row h = refl
null_numbers ends (p ∷ ps) zero h = null_number ends p h
null_numbers ends (p ∷ ps) (suc row) h = null_numbers ends ps row h

-- the numbers and marks of a column are its cells
pub record AreFull (ends : Ends) (ps numbers : List ℕ) (marks : List Bool) : Type 0 where
  pub have : HavePrefixes ends (planes ends) ps (column_from numbers marks)
  pub marked : length marks ≡ cond ends.nullable (length ps) 0
  pub zero : (row : ℕ) → IsTrue (get_or marks row false) → get_or numbers row 0 ≡ 0

abbrev pub marks_by : Ends → ℕ → List ℕ → List Bool
marks_by ends read ps = if ends.nullable then map not (map (is_possible ends read) ps) else []

pub are_full : (ends : Ends) (ps : List ℕ) → All (IsLegal ends (planes ends)) ps → AreFull ends ps (map (number_of ends (planes ends)) ps) (marks_by ends (planes ends) ps)
are_full ends ps legal = elim (cases_Bool ends.nullable) [
  | inl nulls ↦ subst (λ (marks : List Bool). AreFull ends ps (map (number_of ends (planes ends)) ps) marks) (ap (λ b. if b then map not (map (is_possible ends (planes ends)) ps) else []) (sym nulls)) (record {
    have = marked_cells ends ps nulls legal;
    marked = length-map (map (is_possible ends (planes ends)) ps) not ∙ length-map ps (is_possible ends (planes ends)) ∙ ap (λ b. cond b (length ps) 0) (sym nulls);
    zero = null_numbers ends ps;
  })
  | inr plain ↦ subst (λ (marks : List Bool). AreFull ends ps (map (number_of ends (planes ends)) ps) marks) (ap (λ b. if b then map not (map (is_possible ends (planes ends)) ps) else []) (sym plain)) (record {
    have = plain_cells ends ps plain legal;
    marked = ap (λ b. cond b (length ps) 0) (sym plain);
    zero = λ row h. absurd (true≢false (sym h));
  })
]
