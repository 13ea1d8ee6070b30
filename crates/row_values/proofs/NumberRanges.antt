-- The range of a row out of the digits of its number.
use Rattle.std.proofs.Common.{◌≡◌, ℕ, zero, suc, ◌+◌, ◌-◌, ◌*◌, ◌^◌, ◌<◌, ◌≤◌, nat_le, min, Bool, true, false, cond, List, take, drop, get_or, Some, inl, inr, refl, ap, sym, ◌∙◌, arith}
use Rattle.std.proofs.Math.Nat.{pow-suc, lt_of_mul-lt-mul_right}
use Rattle.std.proofs.lemmas.Bool.{cases_lt}
use Rattle.std.proofs.lemmas.Bool.Decides.{nat_tests}
use Rattle.std.proofs.lemmas.List.{get_or-drop, get_or-map, get_or-take, length-drop, length-take}
use Rattle.std.proofs.lemmas.Nat.{pow-add, pow_pos}
use Rattle.daq_table.specs.declared.head.Ends.{Ends}
use Rattle.daq_table.specs.Tables.{first_code, planes, spread, width}
use Rattle.query_model.specs.Knowledge.{is_legal, prefix_of}
use Rattle.known_column.specs.Columns.{KnownColumn, count_in_block, is_possible, number_of, numbers_of_block, rows_of_column}
use Rattle.known_column.proofs.CodeDigits.{least_plain, least_nullable, spread_small}
use Rattle.known_column.proofs.Nulls.{legal_code, possible_row}

-- the digits of numbers that were not read
abbrev pub unread_digits : Ends → ℕ → ℕ
unread_digits ends read = min (planes ends - read) (width ends)

-- a range in codes is one in numbers
pub record IsNumberRange (ends : Ends) (read p n u : ℕ) : Type 0 where
  pub first : p * 2 ^ (planes ends - read) - first_code ends ≡ n * 2 ^ u
  pub last : min ((p + 1) * 2 ^ (planes ends - read) - 1 - first_code ends) (spread ends) ≡ min (n * 2 ^ u + (2 ^ u - 1)) (spread ends)

at_least : (f p : ℕ) → nat_le f p ≡ true → f ≤ p
at_least f p e = grind (arith, nat_tests)

nothing_read : (ends : Ends) (p : ℕ) → ends.nullable ≡ true → is_legal ends 0 p ≡ true → p ≡ 0
nothing_read ends p nullable legal =
    let d = planes ends - 0 in
    let w = width ends in
    let code : first_code ends ≡ 2 ^ w = ap (λ b. cond b (2 ^ w) 0) nullable in
    let all : d ≡ suc w = (let planes_are : planes ends ≡ w + 1 = ap (λ b. w + cond b 1 0) nullable in omega (arith, planes_are)) in
    let whole : 2 ^ d ≡ 2 ^ w * 2 = ap (λ k. 2 ^ k) all ∙ pow-suc 2 w in
    let less : p * 2 ^ d < 1 * 2 ^ d = omega (arith, legal_code ends 0 p legal, code, spread_small ends, whole) in
    let one : p < 1 = lt_of_mul-lt-mul_right (2 ^ d) less in
    omega (arith, one)

few_by : (nullable : Bool) (ends : Ends) (read p : ℕ) → ends.nullable ≡ nullable → read ≤ planes ends → is_legal ends read p ≡ true → number_of ends read p * 2 ^ unread_digits ends read ≤ spread ends
few_by false ends read p plain h legal =
    let d = planes ends - read in
    let none : first_code ends ≡ 0 = ap (λ b. cond b (2 ^ width ends) 0) plain in
    let all : planes ends ≡ width ends = ap (λ b. width ends + cond b 1 0) plain ∙ omega arith in
    let left : unread_digits ends read ≡ d = omega (arith, all) in
    let same : number_of ends read p ≡ p = omega (arith, least_plain ends read plain) in
    let moved : number_of ends read p * 2 ^ unread_digits ends read ≡ p * 2 ^ d = ap (λ k. number_of ends read p * 2 ^ k) left ∙ ap (λ n. n * 2 ^ d) same in
    omega (arith, legal_code ends read p legal, none, moved)
few_by true ends zero p nullable h legal =
    let u = unread_digits ends 0 in
    let none : p ≡ 0 = nothing_read ends p nullable legal in
    let same : number_of ends 0 p ≡ 0 = omega (arith, none) in
    let moved : number_of ends 0 p * 2 ^ u ≡ 0 * 2 ^ u = ap (λ n. n * 2 ^ u) same in
    omega (arith, moved)
few_by true ends (suc r) p nullable h legal =
    let d = planes ends - suc r in
    let w = width ends in
    let code : first_code ends ≡ 2 ^ w = ap (λ b. cond b (2 ^ w) 0) nullable in
    let all : planes ends ≡ w + 1 = ap (λ b. w + cond b 1 0) nullable in
    let next : r + 1 ≡ suc r = omega arith in
    let least : prefix_of ends (suc r) (Some 0) ≡ 2 ^ r = sym (ap (λ k. prefix_of ends k (Some 0)) next) ∙ least_nullable ends r nullable (omega (arith, h)) in
    let parts : w ≡ r + d = omega (arith, all, h) in
    let left : unread_digits ends (suc r) ≡ d = omega (arith, parts) in
    let whole : 2 ^ w ≡ 2 ^ r * 2 ^ d = ap (λ k. 2 ^ k) parts ∙ pow-add 2 r d in
    let n = number_of ends (suc r) p in
    let moved : n * 2 ^ unread_digits ends (suc r) ≡ n * 2 ^ d = ap (λ k. n * 2 ^ k) left in
    elim (cases_lt p (2 ^ r)) [
      | inl down ↦ (let same : n ≡ 0 = omega (arith, least, down) in let none : n * 2 ^ d ≡ 0 * 2 ^ d = ap (λ k. k * 2 ^ d) same in omega (arith, moved, none))
      | inr up ↦
          (let is : p ≡ n + 2 ^ r = omega (arith, least, up) in
          let big : p * 2 ^ d ≡ n * 2 ^ d + 2 ^ r * 2 ^ d = ap (λ k. k * 2 ^ d) is ∙ omega arith in
          omega (arith, legal_code ends (suc r) p legal, code, whole, big, moved))
    ]

pub number_few : (ends : Ends) (read p : ℕ) → read ≤ planes ends → is_legal ends read p ≡ true → number_of ends read p * 2 ^ unread_digits ends read ≤ spread ends
number_few ends read p h legal = few_by ends.nullable ends read p refl h legal

range_by : (nullable : Bool) (ends : Ends) (read p : ℕ) → ends.nullable ≡ nullable → read ≤ planes ends → is_legal ends read p ≡ true → is_possible ends read p ≡ true →
    IsNumberRange ends read p (number_of ends read p) (unread_digits ends read)
range_by false ends read p plain h legal possible =
    let d = planes ends - read in
    let s = spread ends in
    let none : first_code ends ≡ 0 = ap (λ b. cond b (2 ^ width ends) 0) plain in
    let all : planes ends ≡ width ends = ap (λ b. width ends + cond b 1 0) plain ∙ omega arith in
    let left : d ≡ unread_digits ends read = omega (arith, all) in
    let same : p ≡ number_of ends read p = omega (arith, least_plain ends read plain) in
    let block : (p + 1) * 2 ^ d ≡ p * 2 ^ d + 2 ^ d = omega arith in
    let first : p * 2 ^ d - first_code ends ≡ p * 2 ^ d = omega (arith, none) in
    let last : (p + 1) * 2 ^ d - 1 - first_code ends ≡ p * 2 ^ d + (2 ^ d - 1) = omega (arith, none, block, pow_pos d) in
    record {
      first = first ∙ ap (λ k. p * 2 ^ k) left ∙ ap (λ n. n * 2 ^ unread_digits ends read) same;
      last = ap (λ m. min m s) last ∙ ap (λ k. min (p * 2 ^ k + (2 ^ k - 1)) s) left ∙ ap (λ n. min (n * 2 ^ unread_digits ends read + (2 ^ unread_digits ends read - 1)) s) same;
    }
range_by true ends zero p nullable h legal possible =
    let d = planes ends - 0 in
    let w = width ends in
    let s = spread ends in
    let u = unread_digits ends 0 in
    let code : first_code ends ≡ 2 ^ w = ap (λ b. cond b (2 ^ w) 0) nullable in
    let all : d ≡ suc w = (let planes_are : planes ends ≡ w + 1 = ap (λ b. w + cond b 1 0) nullable in omega (arith, planes_are)) in
    let whole : 2 ^ d ≡ 2 ^ w * 2 = ap (λ k. 2 ^ k) all ∙ pow-suc 2 w in
    let left : w ≡ u = omega (arith, all) in
    let none : p ≡ 0 = nothing_read ends p nullable legal in
    let same : 0 ≡ number_of ends 0 p = omega (arith, none) in
    let ends_at : min ((0 + 1) * 2 ^ d - 1 - first_code ends) s ≡ min (0 * 2 ^ w + (2 ^ w - 1)) s = omega (arith, code, whole, spread_small ends) in
    let starts : 0 * 2 ^ d - first_code ends ≡ 0 * 2 ^ u = omega arith in
    record {
      first = ap (λ i. i * 2 ^ d - first_code ends) none ∙ starts ∙ ap (λ n. n * 2 ^ u) same;
      last = ap (λ i. min ((i + 1) * 2 ^ d - 1 - first_code ends) s) none ∙ ends_at ∙ ap (λ k. min (0 * 2 ^ k + (2 ^ k - 1)) s) left ∙ ap (λ n. min (n * 2 ^ u + (2 ^ u - 1)) s) same;
    }
range_by true ends (suc r) p nullable h legal possible =
    let d = planes ends - suc r in
    let w = width ends in
    let s = spread ends in
    let code : first_code ends ≡ 2 ^ w = ap (λ b. cond b (2 ^ w) 0) nullable in
    let all : planes ends ≡ w + 1 = ap (λ b. w + cond b 1 0) nullable in
    let next : r + 1 ≡ suc r = omega arith in
    let least : prefix_of ends (suc r) (Some 0) ≡ 2 ^ r = sym (ap (λ k. prefix_of ends k (Some 0)) next) ∙ least_nullable ends r nullable (omega (arith, h)) in
    let parts : w ≡ r + d = omega (arith, all, h) in
    let left : d ≡ unread_digits ends (suc r) = omega (arith, parts) in
    let whole : 2 ^ w ≡ 2 ^ r * 2 ^ d = ap (λ k. 2 ^ k) parts ∙ pow-add 2 r d in
    let up : prefix_of ends (suc r) (Some 0) ≤ p = at_least _ p (possible_row ends (suc r) p h legal ∙ possible) in
    let n = number_of ends (suc r) p in
    let is : p ≡ n + 2 ^ r = omega (arith, least, up) in
    let big : p * 2 ^ d ≡ n * 2 ^ d + 2 ^ r * 2 ^ d = ap (λ k. k * 2 ^ d) is ∙ omega arith in
    let block : (p + 1) * 2 ^ d ≡ p * 2 ^ d + 2 ^ d = omega arith in
    let first : p * 2 ^ d - first_code ends ≡ n * 2 ^ d = omega (arith, big, code, whole) in
    let last : (p + 1) * 2 ^ d - 1 - first_code ends ≡ n * 2 ^ d + (2 ^ d - 1) = omega (arith, block, big, code, whole, pow_pos d) in
    record {
      first = first ∙ ap (λ k. n * 2 ^ k) left;
      last = ap (λ m. min m s) last ∙ ap (λ k. min (n * 2 ^ k + (2 ^ k - 1)) s) left;
    }

pub number_range : (ends : Ends) (read p : ℕ) → read ≤ planes ends → is_legal ends read p ≡ true → is_possible ends read p ≡ true →
    IsNumberRange ends read p (number_of ends read p) (unread_digits ends read)
number_range ends read p h legal possible = range_by ends.nullable ends read p refl h legal possible

-- a block's number is that of its row
pub number_there : (column : KnownColumn) (block : ℕ) (numbers : List ℕ) (i : ℕ) → take (count_in_block block (rows_of_column column)) numbers ≡ numbers_of_block column block → i < count_in_block block (rows_of_column column) →
    get_or numbers i 0 ≡ number_of column.ends column.known.read (get_or column.known.prefixes (64 * block + i) 0)
number_there column block numbers i are below =
    let ps = column.known.prefixes in
    let count = count_in_block block (rows_of_column column) in
    let rest = length-drop (64 * block) ps in
    let long = length-take 64 (drop (64 * block) ps) in
    let few : i < 64 = omega (arith, below) in
    sym (get_or-take count numbers i 0 below) ∙ ap (λ l. get_or l i 0) are
    ∙ get_or-map (number_of column.ends column.known.read) (take 64 (drop (64 * block) ps)) i 0 0 (omega (arith, below, rest, long))
    ∙ ap (number_of column.ends column.known.read) (get_or-take 64 (drop (64 * block) ps) i 0 few ∙ get_or-drop (64 * block) ps i 0)
