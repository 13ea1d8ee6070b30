-- Codes of cells, digit by digit from the highest.
use Rattle.std.proofs.Common.{◌≡◌, ℕ, suc, ◌+◌, ◌-◌, ◌*◌, ◌/◌, ◌%◌, ◌^◌, ◌<◌, ◌≤◌, ◌==◌, nat_abs, true, false, cond, Some, None, ap, sym, ◌∙◌, arith}
use Rattle.std.proofs.Math.Nat.{pow-suc, div-div-eq-div-mul, mod-lt, zero-div, mul-div_cancel, div-eq_of_lt, div-eq_of_lt-le, div-mul-le_self}
use Rattle.std.proofs.lemmas.Nat.{pow-add, pow_pos, le-div}
use Rattle.std.proofs.lemmas.Int.{ints}
use Rattle.plane_kernels.proofs.RowLemmas.{lowest_as_number}
use Rattle.daq_table.specs.declared.head.Ends.{Ends}
use Rattle.daq_table.specs.Tables.{Cell, code, first_code, planes, spread, width}
use Rattle.query_model.proofs.Blocks.{below_digits}
use Rattle.query_model.specs.Knowledge.{bit_at, prefix_of}
use Rattle.known_column.specs.Columns.{HasZero}

-- a quotient by a power of two, out of the next one and a digit
halved : (n d : ℕ) → n / 2 ^ d ≡ 2 * (n / 2 ^ suc d) + cond ((n / 2 ^ d) % 2 == 1) 1 0
halved n d =
    let x = n / 2 ^ d in
    let half : n / 2 ^ suc d ≡ x / 2 = ap (λ k. n / k) (pow-suc 2 d) ∙ sym (div-div-eq-div-mul n (2 ^ d) 2) in
    let low : cond (x % 2 == 1) 1 0 ≡ x % 2 = lowest_as_number (x % 2) (mod-lt x (omega arith)) in
    omega (arith, half, low)

-- the prefix of a cell is followed by the cell's next digit
pub prefix_further : (ends : Ends) (read : ℕ) (cell : Cell) → read < planes ends → prefix_of ends (read + 1) cell ≡ 2 * prefix_of ends read cell + cond (bit_at ends read cell) 1 0
prefix_further ends read cell h =
    let d = planes ends - (read + 1) in
    let more : planes ends - read ≡ suc d = omega arith in
    halved (code ends cell) d ∙ ap (λ k. 2 * (code ends cell / 2 ^ k) + cond (bit_at ends read cell) 1 0) (sym more)

pub null_prefix : (ends : Ends) (read : ℕ) → prefix_of ends read None ≡ 0
null_prefix ends read = zero-div (2 ^ (planes ends - read))

-- ---- columns that are not nullable

pub least_plain : (ends : Ends) (read : ℕ) → ends.nullable ≡ false → prefix_of ends read (Some 0) ≡ 0
least_plain ends read plain =
    let none : code ends (Some 0) ≡ 0 = ap (λ b. cond b (2 ^ width ends) 0 + 0) plain in
    ap (λ n. n / 2 ^ (planes ends - read)) none ∙ zero-div (2 ^ (planes ends - read))

-- ---- nullable columns

nullable_code : (ends : Ends) (u : ℕ) → ends.nullable ≡ true → code ends (Some u) ≡ 2 ^ width ends + u
nullable_code ends u nullable = ap (λ b. cond b (2 ^ width ends) 0 + u) nullable

nullable_planes : (ends : Ends) → ends.nullable ≡ true → planes ends ≡ width ends + 1
nullable_planes ends nullable = ap (λ b. width ends + cond b 1 0) nullable

-- the least number's prefix, once a plane is read, is a 1 and zeros
pub least_nullable : (ends : Ends) (read : ℕ) → ends.nullable ≡ true → read < planes ends → prefix_of ends (read + 1) (Some 0) ≡ 2 ^ read
least_nullable ends read nullable h =
    let w = width ends in
    let d = planes ends - (read + 1) in
    let parts : w ≡ read + d = omega (arith, nullable_planes ends nullable) in
    let whole : code ends (Some 0) ≡ 2 ^ read * 2 ^ d = nullable_code ends 0 nullable ∙ omega (arith, ap (λ k. 2 ^ k) parts, pow-add 2 read d) in
    ap (λ n. n / 2 ^ d) whole ∙ mul-div_cancel (2 ^ read) (pow_pos d)

-- before the first plane no digit is known
pub first_prefix : (ends : Ends) (u : ℕ) → ends.nullable ≡ true → u < 2 ^ width ends → prefix_of ends 0 (Some u) ≡ 0
first_prefix ends u nullable small =
    let w = width ends in
    let twice : 2 ^ suc w ≡ 2 ^ w * 2 = pow-suc 2 w in
    let all : planes ends - 0 ≡ suc w = omega (arith, nullable_planes ends nullable) in
    let below : code ends (Some u) < 2 ^ suc w = omega (arith, nullable_code ends u nullable, twice, small) in
    ap (λ k. code ends (Some u) / 2 ^ k) all ∙ div-eq_of_lt below

-- and the first digit of a number is 1
pub first_digit : (ends : Ends) (u : ℕ) → ends.nullable ≡ true → u < 2 ^ width ends → bit_at ends 0 (Some u) ≡ true
first_digit ends u nullable small =
    let w = width ends in
    let all : planes ends - (0 + 1) ≡ w = omega (arith, nullable_planes ends nullable) in
    let one : (2 ^ w + u) / 2 ^ w ≡ 1 = div-eq_of_lt-le (2 ^ w) (omega arith) (omega (arith, small)) in
    ap (λ k. (code ends (Some u) / 2 ^ k) % 2 == 1) all ∙ ap (λ n. (n / 2 ^ w) % 2 == 1) (nullable_code ends u nullable) ∙ ap (λ n. n % 2 == 1) one

-- ---- numbers of the column

pub spread_small : (ends : Ends) → spread ends < 2 ^ width ends
spread_small ends = below_digits (spread ends)

-- a greater number has no lesser prefix
pub prefix_mono : (ends : Ends) (read u v : ℕ) → u ≤ v → prefix_of ends read (Some u) ≤ prefix_of ends read (Some v)
prefix_mono ends read u v h =
    let k = 2 ^ (planes ends - read) in
    le-div (prefix_of ends read (Some u)) (first_code ends + v) k (pow_pos (planes ends - read)) (omega (arith, div-mul-le_self (first_code ends + u) k))

-- the number 0 of a column has no more digits than others
pub zero_small : (ends : Ends) → HasZero ends → nat_abs ends.base < 2 ^ width ends
zero_small ends has =
    let below = has.0 in
    let above = has.1 in
    let most : nat_abs ends.base ≤ spread ends = omega (arith, ints) in
    omega (arith, most, spread_small ends)
