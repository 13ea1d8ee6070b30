-- Sums of the numbers that were read, block by block.
use Rattle.std.proofs.Common.{◌≡◌, ℕ, ◌+◌, ◌-◌, ◌*◌, ◌/◌, ◌%◌, ◌^◌, List, [], ◌∷◌, map, take, sum, sum_by, Some, refl, sym, ap, ◌∙◌, arith}
use Rattle.std.proofs.Math.Nat.{add-mod-mod, mod-add-mod}
use Rattle.std.proofs.Math.Seq.{take-add}
use Rattle.std.proofs.lemmas.List.Sums.{sum-map, sum_by-append}
use Rattle.std.proofs.lemmas.Nat.{pow_pos}
use Rattle.daq_table.specs.declared.head.Ends.{Ends}
use Rattle.daq_table.specs.Tables.{first_code, planes}
use Rattle.query_model.specs.Knowledge.{prefix_of}
use Rattle.query_model.proofs.Blocks.{plain_column, zero_quotient}
use Rattle.known_column.specs.Columns.{KnownColumn, number_of}
use Rattle.known_column.specs.KnownTables.{KnownTable, column_at}
use Rattle.known_column.specs.Columns.{block_rows}
use Rattle.plane_bench.specs.Planes.{cells_of, first_digits, table_after, AreWide}
use Rattle.plane_bench.proofs.WideCells.{wide_planes}

-- of a sum as much is kept as of what is kept of both sides
kept_of_sum : (a b total part : ℕ) → total ≡ a % 2 ^ 64 → part ≡ b % 2 ^ 64 → (total + part) % 2 ^ 64 ≡ (a + b) % 2 ^ 64
kept_of_sum a b total part before new =
    ap (λ n. (n + part) % 2 ^ 64) before ∙ ap (λ n. (a % 2 ^ 64 + n) % 2 ^ 64) new ∙ mod-add-mod a (2 ^ 64) (b % 2 ^ 64) ∙ add-mod-mod a b (2 ^ 64)

-- the sum of one reading more
pub reading_more : (once times total part : ℕ) → total ≡ times * once % 2 ^ 64 → part ≡ once % 2 ^ 64 → (total + part) % 2 ^ 64 ≡ (times + 1) * once % 2 ^ 64
reading_more once times total part before new =
    let further : times * once + once ≡ (times + 1) * once = omega arith in
    kept_of_sum (times * once) once total part before new ∙ ap (λ s. s % 2 ^ 64) further

-- the sum of one block more
pub block_more : (f : ℕ → ℕ) (rows : List ℕ) (block total part : ℕ) (numbers : List ℕ) → total ≡ sum_by f (take (64 * block) rows) % 2 ^ 64 → part ≡ sum numbers % 2 ^ 64 → numbers ≡ map f (block_rows block rows) →
    (total + part) % 2 ^ 64 ≡ sum_by f (take (64 * (block + 1)) rows) % 2 ^ 64
block_more f rows block total part numbers before new is =
    let a = sum_by f (take (64 * block) rows) in
    let b = sum_by f (block_rows block rows) in
    let further : 64 * (block + 1) ≡ 64 * block + 64 = omega arith in
    let whole : sum_by f (take (64 * (block + 1)) rows) ≡ a + b =
    ap (λ n. sum_by f (take n rows)) further ∙ ap (sum_by f) (take-add (64 * block) 64 rows) ∙ sum_by-append f (take (64 * block) rows) (block_rows block rows) in
    let of_block : part ≡ b % 2 ^ 64 = new ∙ ap (λ s. s % 2 ^ 64) (ap sum is ∙ sum-map f (block_rows block rows)) in
    kept_of_sum a b total part before of_block ∙ sym (ap (λ s. s % 2 ^ 64) whole)

-- the digits of a number that were read are its first ones
digits_of_number : (ends : Ends) (read u : ℕ) → AreWide ends → number_of ends read (prefix_of ends read (Some u)) ≡ first_digits read u
digits_of_number ends read u wide =
    let first = (plain_column ends wide.plain).1 in
    let number : first_code ends + u ≡ u = omega (arith, first) in
    let zero : first_code ends + 0 ≡ 0 = omega (arith, first) in
    let none : 0 / 2 ^ (32 - read) ≡ 0 = zero_quotient (2 ^ (32 - read)) (pow_pos (32 - read)) in
    ap (λ n. n / 2 ^ (planes ends - read) - (first_code ends + 0) / 2 ^ (planes ends - read)) number
    ∙ ap (λ z. u / 2 ^ (planes ends - read) - z / 2 ^ (planes ends - read)) zero
    ∙ ap (λ p. u / 2 ^ (p - read) - 0 / 2 ^ (p - read)) (wide_planes ends wide)
    ∙ ap (λ z. u / 2 ^ (32 - read) - z) none
    ∙ omega arith

digits_of_all : (ends : Ends) (read : ℕ) (cells : List ℕ) → AreWide ends → map (number_of ends read) (map (prefix_of ends read) (map Some cells)) ≡ map (first_digits read) cells
digits_of_all ends read [] wide = refl
digits_of_all ends read (u ∷ us) wide =
    ap (λ n. n ∷ map (number_of ends read) (map (prefix_of ends read) (map Some us))) (digits_of_number ends read u wide) ∙ ap (λ ns. first_digits read u ∷ ns) (digits_of_all ends read us wide)

-- the sum of what was read of a column
abbrev sum_of : KnownColumn → ℕ
sum_of column = sum_by (number_of column.ends column.known.read) column.known.prefixes

-- it is that of the first digits of all cells
pub sum_of_digits : (ends : Ends) (rows read : ℕ) (cells : List ℕ) (table : KnownTable) (column : KnownColumn) → AreWide ends → cells ≡ cells_of rows → table ≡ table_after ends cells read → column ≡ column_at table 0 →
    sum_of column ≡ sum_by (first_digits read) (cells_of rows)
sum_of_digits ends rows read cells table column wide is stands there =
    let prefixes = map (prefix_of ends read) (map Some cells) in
    ap sum_of (there ∙ ap (λ (t : KnownTable). column_at t 0) stands)
    ∙ sym (sum-map (number_of ends read) prefixes)
    ∙ ap sum (digits_of_all ends read cells wide)
    ∙ sum-map (first_digits read) cells
    ∙ ap (sum_by (first_digits read)) is
