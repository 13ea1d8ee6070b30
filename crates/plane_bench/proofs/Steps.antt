-- One plane of a column after the other.
use Rattle.std.proofs.Common.{◌≡◌, ℕ, zero, suc, ◌+◌, ◌-◌, ◌/◌, ◌%◌, ◌^◌, ◌==◌, ◌<◌, ◌≤◌, Bool, List, [], ◌∷◌, length, map, slice_index, slice_index_or, refl, sym, ap, ◌∙◌, subst, arith, Ok, Err, IfErr, OnOk, Some, IsFalse}
use Rattle.std.proofs.lemmas.Bool.{false≢true}
use Rattle.std.proofs.lemmas.List.{get_or-map, length-map}
use Rattle.std.specs.List.{All}
use Rattle.std.specs.Result.{IsOk}
use Rattle.std.specs.declared.result.Result.{Result}
use Rattle.daq_table.specs.declared.head.Ends.{Ends}
use Rattle.daq_table.specs.Tables.{IsCell, IsTable, cell_at, ends_at, first_code, planes, spread, width}
use Rattle.query_model.specs.Knowledge.{CanTake, Knowledge, bit_at, known_at, plane_of}
use Rattle.query_model.specs.Laws.{PlanesAreTaken, StartIsKnown}
use Rattle.query_model.proofs.Blocks.{plain_column}
use Rattle.known_column.specs.Columns.{IsFirstOver, KnownColumn}
use Rattle.known_column.specs.KnownTables.{KnownTable, column_at, read_column, unread_table}
use Rattle.known_column.specs.declared.known.OverTop.{OverTop}
use Rattle.plane_bench.specs.Planes.{alone, table_after}

is_table : (ends : Ends) (cells : List ℕ) → All (λ cell. cell ≤ spread ends) cells → IsTable (alone ends cells) (map Some cells ∷ [])
is_table ends cells fit = record { columns = refl; rows = rows; within = within }
  where
    rows : (c : ℕ) → c < 1 → length (slice_index_or (map Some cells ∷ []) c []) ≡ length cells
    rows zero h = length-map cells Some
    rows (suc c) h = absurd (omega arith)

    within : (c r : ℕ) → c < 1 → r < length cells → IsCell (ends_at (alone ends cells) c) (cell_at (map Some cells ∷ []) c r)
    within zero r h k = subst (IsCell ends) (sym (get_or-map Some cells r 0 (Some 0) k)) (fit r 0 k)
    within (suc c) r h k = absurd (omega arith)

-- what is known of the one column
abbrev with_known : Ends → List ℕ → Knowledge → KnownTable
with_known ends cells known = record { frame = alone ends cells; known = known }

-- with nothing read each prefix is 0
pub nothing_read : StartIsKnown → (ends : Ends) (cells : List ℕ) → All (λ cell. cell ≤ spread ends) cells → unread_table (alone ends cells) ≡ table_after ends cells 0
nothing_read start ends cells fit = sym (ap (with_known ends cells) (start (alone ends cells) (map Some cells ∷ []) (is_table ends cells fit)))

-- the digits of the next plane
abbrev digits_of : ℕ → ℕ → List ℕ → List Bool
digits_of width digit cells = map (λ cell. (cell / 2 ^ (width - (digit + 1))) % 2 == 1) cells

-- in a column that is not nullable a plane is a digit of the numbers
plain_digits : (ends : Ends) (j : ℕ) (cells : List ℕ) → IsFalse ends.nullable → map (bit_at ends j) (map Some cells) ≡ digits_of (planes ends) j cells
plain_digits ends j [] plain = refl
plain_digits ends j (u ∷ us) plain =
    let number : first_code ends + u ≡ u = omega (arith, (plain_column ends plain).1) in
    ap (λ c. ((c / 2 ^ (planes ends - (j + 1))) % 2 == 1) ∷ map (bit_at ends j) (map Some us)) number
    ∙ ap (λ bits. ((u / 2 ^ (planes ends - (j + 1))) % 2 == 1) ∷ bits) (plain_digits ends j us plain)

-- these bits may be taken, and the table is then one further
abbrev IsNext : Ends → List ℕ → ℕ → List Bool → KnownTable → Type 0
IsNext ends cells read bits table = CanTake table.frame table.known 0 bits × (read_column table 0 bits ≡ table_after ends cells (read + 1))

next_after : PlanesAreTaken → (ends : Ends) (cells : List ℕ) (width digit read : ℕ) (bits : List Bool) → IsFalse ends.nullable → All (λ cell. cell ≤ spread ends) cells →
    width ≡ planes ends → digit ≡ read → read < planes ends → bits ≡ digits_of width digit cells → IsNext ends cells read bits (table_after ends cells read)
next_after taking ends cells width digit read bits plain fit wide next left is =
    let frame = alone ends cells in
    let here : bits ≡ plane_of frame (map Some cells ∷ []) 0 read =
    is ∙ ap (λ w. digits_of w digit cells) wide ∙ ap (λ j. digits_of (planes ends) j cells) next ∙ sym (plain_digits ends read cells plain) in
    let (can, same, reads) = taking frame (map Some cells ∷ []) (read ∷ []) 0 (is_table ends cells fit) (record { columns = refl; few = few }) (omega arith) left in
    subst (λ b. IsNext ends cells read b (table_after ends cells read)) (sym here) (can, ap (with_known ends cells) same)
  where
    few : (c : ℕ) → c < 1 → slice_index (read ∷ []) c ≤ planes (ends_at (alone ends cells) c)
    few zero k = omega (arith, left)
    few (suc c) k = absurd (omega arith)

-- the next plane is legal, and takes the table one further
pub next_read : PlanesAreTaken → (table : KnownTable) (ends : Ends) (cells : List ℕ) (read width digit : ℕ) (bits : List Bool) → IsFalse ends.nullable → All (λ cell. cell ≤ spread ends) cells →
    table ≡ table_after ends cells read → width ≡ planes ends → digit ≡ read → read < planes ends →
    bits ≡ digits_of width digit cells → IsNext ends cells read bits table
next_read taking table ends cells read width digit bits plain fit stands wide next left is =
    subst (IsNext ends cells read bits) (sym stands) (next_after taking ends cells width digit read bits plain fit wide next left is)

-- a column that is not nullable has as many planes as its numbers have digits
pub all_planes : (table : KnownTable) (column : KnownColumn) (digits : ℕ) → IsFalse (ends_at table.frame 0).nullable → column ≡ column_at table 0 → digits ≡ width column.ends →
    digits ≡ planes (ends_at table.frame 0)
all_planes table column digits plain there is = is ∙ ap (λ (k : KnownColumn). width k.ends) there ∙ sym (plain_column (ends_at table.frame 0) plain).0

-- no row's prefix would pass the top, so the plane was taken
pub is_taken : (r : Result (Unit {0}) OverTop) (table : KnownTable) (bits : List Bool) → length (known_at table.known 0).prefixes ≡ table.frame.rows → CanTake table.frame table.known 0 bits →
    IfErr r (λ e. IsFirstOver (column_at table 0) bits e.row) → IsOk r
is_taken (Ok x) table bits rows can over = refl
is_taken (Err e) table bits rows can over = (let inside = over.in_range in absurd (over.over (can.legal e.row (omega arith))))

pub of_ok : (T E : Type 0) (r : Result T E) (P : Type 0) → IsOk r → OnOk r P → P
of_ok T E (Ok x) P is p = p
of_ok T E (Err e) P is p = absurd (false≢true is)
