-- Which rows an end reaches, digit by digit.
use Rattle.std.proofs.Common.{◌≡◌, ℕ, suc, ◌+◌, ◌-◌, ◌*◌, ◌/◌, ◌%◌, ◌^◌, ◌<◌, ◌≤◌, ◌==◌, Bool, true, false, cond, not, ◌&&◌, ◌||◌, List, [], ◌∷◌, length, map, get_or, refl, arith, subst, sym, ap, ◌∙◌}
use Rattle.std.specs.Simd.Lanes.{zip2}
use Rattle.std.proofs.Math.Nat.{div-one, div-eq_of_lt}
use Rattle.std.proofs.lemmas.Bool.Decides.{nat_tests}
use Rattle.std.proofs.lemmas.Simd.{length-zip2}
use Rattle.plane_kernels.specs.Rows.{kept_rows}
use Rattle.known_column.specs.Columns.{KnownColumn, digit_of}
use Rattle.aggregates.proofs.EndSums.{Counts, number_in, numbers}
use Rattle.aggregates.proofs.MaskSums.{AtRows}
use Rattle.aggregates.proofs.NumberRows.{first_plane, halved}
use Rattle.avg_exact.specs.declared.passes.End.{End}
use Rattle.avg_exact.specs.declared.passes.End.TheVariants.{Low, High}
use Rattle.avg_exact.specs.Blocks.{beyond_rows, lies_beyond, reaches}

-- ---- rows that pass a test

abbrev pub rows_that : (ℕ → Bool) → List Bool → List ℕ → List Bool
rows_that test rows ps = zip2 (λ has p. has && test p) rows ps

later : (b : Bool) (rows : List Bool) (p : ℕ) (ps : List ℕ) (P : ℕ → Type 0) → AtRows (b ∷ rows) (p ∷ ps) P → AtRows rows ps P
later b rows p ps P each = λ r h has. each (suc r) (omega arith) has

pub all_pass : (test : ℕ → Bool) (rows : List Bool) (ps : List ℕ) → length rows ≡ length ps → AtRows rows ps (λ p. test p ≡ true) → rows ≡ rows_that test rows ps
all_pass test [] [] e each = refl
all_pass test [] (p ∷ ps) e each = absurd (omega arith)
all_pass test (b ∷ rows) [] e each = absurd (omega arith)
all_pass test (true ∷ rows) (p ∷ ps) e each =
    ap (λ b. b ∷ rows) (sym (each 0 (omega arith) refl)) ∙ ap (λ l. test p ∷ l) (all_pass test rows ps (omega arith) (later true rows p ps (λ p. test p ≡ true) each))
all_pass test (false ∷ rows) (p ∷ ps) e each = ap (λ l. false ∷ l) (all_pass test rows ps (omega arith) (later false rows p ps (λ p. test p ≡ true) each))

pub none_pass : (test : ℕ → Bool) (rows : List Bool) (ps : List ℕ) → length rows ≡ length ps → AtRows rows ps (λ p. test p ≡ false) → zip2 (λ a b. a && not b) rows rows ≡ rows_that test rows ps
none_pass test [] [] e each = refl
none_pass test [] (p ∷ ps) e each = absurd (omega arith)
none_pass test (b ∷ rows) [] e each = absurd (omega arith)
none_pass test (true ∷ rows) (p ∷ ps) e each =
    ap (λ b. b ∷ zip2 (λ a b. a && not b) rows rows) (sym (each 0 (omega arith) refl)) ∙ ap (λ l. test p ∷ l) (none_pass test rows ps (omega arith) (later true rows p ps (λ p. test p ≡ false) each))
none_pass test (false ∷ rows) (p ∷ ps) e each = ap (λ l. false ∷ l) (none_pass test rows ps (omega arith) (later false rows p ps (λ p. test p ≡ false) each))

-- with one more digit
pub kept_next : (digit : Bool) (level next bit : ℕ → Bool) (rows : List Bool) (ps : List ℕ) → length rows ≡ length ps →
    AtRows rows ps (λ p. next p ≡ (level p && cond digit (bit p) (not (bit p)))) → kept_rows digit (rows_that level rows ps) (map bit ps) ≡ rows_that next rows ps
kept_next true level next bit [] [] e each = refl
kept_next false level next bit [] [] e each = refl
kept_next digit level next bit [] (p ∷ ps) e each = absurd (omega arith)
kept_next digit level next bit (b ∷ rows) [] e each = absurd (omega arith)
kept_next true level next bit (true ∷ rows) (p ∷ ps) e each =
    ap (λ b. b ∷ kept_rows true (rows_that level rows ps) (map bit ps)) (sym (each 0 (omega arith) refl))
    ∙ ap (λ l. next p ∷ l) (kept_next true level next bit rows ps (omega arith) (later true rows p ps (λ p. next p ≡ (level p && cond true (bit p) (not (bit p)))) each))
kept_next true level next bit (false ∷ rows) (p ∷ ps) e each =
    ap (λ l. false ∷ l) (kept_next true level next bit rows ps (omega arith) (later false rows p ps (λ p. next p ≡ (level p && cond true (bit p) (not (bit p)))) each))
kept_next false level next bit (true ∷ rows) (p ∷ ps) e each =
    ap (λ b. b ∷ kept_rows false (rows_that level rows ps) (map bit ps)) (sym (each 0 (omega arith) refl))
    ∙ ap (λ l. next p ∷ l) (kept_next false level next bit rows ps (omega arith) (later true rows p ps (λ p. next p ≡ (level p && cond false (bit p) (not (bit p)))) each))
kept_next false level next bit (false ∷ rows) (p ∷ ps) e each =
    ap (λ l. false ∷ l) (kept_next false level next bit rows ps (omega arith) (later false rows p ps (λ p. next p ≡ (level p && cond false (bit p) (not (bit p)))) each))

-- the rows whose digit lies beyond
abbrev pub further_digit : End → Bool → Bool → Bool
further_digit Low digit bit = digit && not bit
further_digit High digit bit = not digit && bit

stays : (beyond next : ℕ → Bool) (rows : List Bool) (ps : List ℕ) → length rows ≡ length ps → AtRows rows ps (λ p. next p ≡ beyond p) → rows_that beyond rows ps ≡ rows_that next rows ps
stays beyond next [] [] e each = refl
stays beyond next [] (p ∷ ps) e each = absurd (omega arith)
stays beyond next (b ∷ rows) [] e each = absurd (omega arith)
stays beyond next (true ∷ rows) (p ∷ ps) e each =
    ap (λ b. b ∷ rows_that beyond rows ps) (sym (each 0 (omega arith) refl)) ∙ ap (λ l. next p ∷ l) (stays beyond next rows ps (omega arith) (later true rows p ps (λ p. next p ≡ beyond p) each))
stays beyond next (false ∷ rows) (p ∷ ps) e each = ap (λ l. false ∷ l) (stays beyond next rows ps (omega arith) (later false rows p ps (λ p. next p ≡ beyond p) each))

pub joins : (beyond level next : ℕ → Bool) (rows : List Bool) (ps : List ℕ) → length rows ≡ length ps → AtRows rows ps (λ p. next p ≡ (beyond p || level p)) →
    zip2 (λ a b. a || b) (rows_that beyond rows ps) (rows_that level rows ps) ≡ rows_that next rows ps
joins beyond level next [] [] e each = refl
joins beyond level next [] (p ∷ ps) e each = absurd (omega arith)
joins beyond level next (b ∷ rows) [] e each = absurd (omega arith)
joins beyond level next (true ∷ rows) (p ∷ ps) e each =
    ap (λ b. b ∷ zip2 (λ a b. a || b) (rows_that beyond rows ps) (rows_that level rows ps)) (sym (each 0 (omega arith) refl))
    ∙ ap (λ l. next p ∷ l) (joins beyond level next rows ps (omega arith) (later true rows p ps (λ p. next p ≡ (beyond p || level p)) each))
joins beyond level next (false ∷ rows) (p ∷ ps) e each =
    ap (λ l. false ∷ l) (joins beyond level next rows ps (omega arith) (later false rows p ps (λ p. next p ≡ (beyond p || level p)) each))

or_false : (a : Bool) → (a || false) ≡ a
or_false true = refl
or_false false = refl

-- what is kept of the rows at the level, with the other digit
other_next : (digit : Bool) (level bit : ℕ → Bool) (rows : List Bool) (ps : List ℕ) → length rows ≡ length ps →
    kept_rows digit (rows_that level rows ps) (map bit ps) ≡ rows_that (λ p. level p && cond digit (bit p) (not (bit p))) rows ps
other_next digit level bit rows ps e = kept_next digit level (λ p. level p && cond digit (bit p) (not (bit p))) bit rows ps e (λ r h has. refl)

pub beyond_next : (end : End) (digit : Bool) (beyond level next bit : ℕ → Bool) (rows : List Bool) (ps : List ℕ) → length rows ≡ length ps →
    AtRows rows ps (λ p. next p ≡ (beyond p || (level p && further_digit end digit (bit p)))) →
    beyond_rows end digit (rows_that beyond rows ps) (rows_that level rows ps) (map bit ps) ≡ rows_that next rows ps
beyond_next Low true beyond level next bit rows ps e each =
    ap (zip2 (λ a b. a || b) (rows_that beyond rows ps)) (other_next false level bit rows ps e) ∙ joins beyond (λ p. level p && not (bit p)) next rows ps e each
beyond_next Low false beyond level next bit rows ps e each =
    stays beyond next rows ps e (λ r h has. each r h has ∙ ap (λ b. beyond (get_or ps r 0) || b) (and_false (level (get_or ps r 0))) ∙ or_false (beyond (get_or ps r 0)))
  where
    and_false : (a : Bool) → (a && false) ≡ false
    and_false true = refl
    and_false false = refl
beyond_next High true beyond level next bit rows ps e each =
    stays beyond next rows ps e (λ r h has. each r h has ∙ ap (λ b. beyond (get_or ps r 0) || b) (and_false (level (get_or ps r 0))) ∙ or_false (beyond (get_or ps r 0)))
  where
    and_false : (a : Bool) → (a && false) ≡ false
    and_false true = refl
    and_false false = refl
beyond_next High false beyond level next bit rows ps e each =
    ap (zip2 (λ a b. a || b) (rows_that beyond rows ps)) (other_next true level bit rows ps e) ∙ joins beyond (λ p. level p && bit p) next rows ps e each

-- ---- numbers by their first digits

pub equal_step : (a b : ℕ) (x y : Bool) → (2 * a + cond x 1 0 == 2 * b + cond y 1 0) ≡ ((a == b) && cond y x (not x))
equal_step a b true true = grind (arith, nat_tests)
equal_step a b true false = grind (arith, nat_tests)
equal_step a b false true = grind (arith, nat_tests)
equal_step a b false false = grind (arith, nat_tests)

pub beyond_step : (end : End) (a b : ℕ) (x y : Bool) → lies_beyond end (2 * b + cond y 1 0) (2 * a + cond x 1 0) ≡ (lies_beyond end b a || ((a == b) && further_digit end y x))
beyond_step Low a b true true = grind (arith, nat_tests)
beyond_step Low a b true false = grind (arith, nat_tests)
beyond_step Low a b false true = grind (arith, nat_tests)
beyond_step Low a b false false = grind (arith, nat_tests)
beyond_step High a b true true = grind (arith, nat_tests)
beyond_step High a b true false = grind (arith, nat_tests)
beyond_step High a b false true = grind (arith, nat_tests)
beyond_step High a b false false = grind (arith, nat_tests)

reach_by_parts : (end : End) (t n : ℕ) → reaches end t n ≡ (lies_beyond end t n || (n == t))
reach_by_parts Low t n = grind (arith, nat_tests)
reach_by_parts High t n = grind (arith, nat_tests)

-- the rows whose first digits are those of a number, and those whose first digits lie beyond them; all but k digits are first ones
abbrev pub level_at : KnownColumn → ℕ → ℕ → ℕ → Bool
level_at column t k p = (number_in column p / 2 ^ k) == (t / 2 ^ k)

abbrev pub beyond_at : End → KnownColumn → ℕ → ℕ → ℕ → Bool
beyond_at end column t k p = lies_beyond end (t / 2 ^ k) (number_in column p / 2 ^ k)

zero_test : (n m : ℕ) → n ≡ 0 → m ≡ 0 → (n == m) ≡ true
zero_test n m e f = grind (arith, nat_tests)

zero_beyond : (end : End) (n m : ℕ) → n ≡ 0 → m ≡ 0 → lies_beyond end m n ≡ false
zero_beyond Low n m e f = grind (arith, nat_tests)
zero_beyond High n m e f = grind (arith, nat_tests)

module _ (end : End) (column : KnownColumn) (rows : List Bool) (t : ℕ) (counts : Counts column rows) where
  pub level_first : (k : ℕ) → k ≡ column.known.read - first_plane column.ends column.known.read → t < 2 ^ k → rows ≡ rows_that (level_at column t k) rows column.known.prefixes
  level_first k is small =
      all_pass (level_at column t k) rows column.known.prefixes counts.rows
      (λ r h has. zero_test (number_in column (get_or column.known.prefixes r 0) / 2 ^ k) (t / 2 ^ k)
      (div-eq_of_lt (subst (λ i. number_in column (get_or column.known.prefixes r 0) < 2 ^ i) (sym is) (numbers column rows counts r h has).small)) (div-eq_of_lt small))

  pub beyond_first : (k : ℕ) → k ≡ column.known.read - first_plane column.ends column.known.read → t < 2 ^ k →
      zip2 (λ a b. a && not b) rows rows ≡ rows_that (beyond_at end column t k) rows column.known.prefixes
  beyond_first k is small =
      none_pass (beyond_at end column t k) rows column.known.prefixes counts.rows
      (λ r h has. zero_beyond end (number_in column (get_or column.known.prefixes r 0) / 2 ^ k) (t / 2 ^ k)
      (div-eq_of_lt (subst (λ i. number_in column (get_or column.known.prefixes r 0) < 2 ^ i) (sym is) (numbers column rows counts r h has).small)) (div-eq_of_lt small))

  -- the digit of a row in a plane, and that of the number
  pub digits_at : (j : ℕ) → first_plane column.ends column.known.read ≤ j → j < column.known.read →
      AtRows rows column.known.prefixes (λ p. number_in column p / 2 ^ (column.known.read - (j + 1)) ≡ 2 * (number_in column p / 2 ^ (column.known.read - j)) + cond (digit_of column.known.read j p) 1 0)
  digits_at j from below r h has =
      let p = get_or column.known.prefixes r 0 in
      let k = column.known.read - (j + 1) in
      let next : suc k ≡ column.known.read - j = omega (arith, below) in
      halved (number_in column p) k ∙ ap (λ i. 2 * (number_in column p / 2 ^ i) + cond ((number_in column p / 2 ^ k) % 2 == 1) 1 0) next
      ∙ ap (λ b. 2 * (number_in column p / 2 ^ (column.known.read - j)) + cond b 1 0) (sym ((numbers column rows counts r h has).digits j from below))

  pub level_further : (j : ℕ) (digit : Bool) → first_plane column.ends column.known.read ≤ j → j < column.known.read →
      t / 2 ^ (column.known.read - (j + 1)) ≡ 2 * (t / 2 ^ (column.known.read - j)) + cond digit 1 0 →
      kept_rows digit (rows_that (level_at column t (column.known.read - j)) rows column.known.prefixes) (map (digit_of column.known.read j) column.known.prefixes)
      ≡ rows_that (level_at column t (column.known.read - (j + 1))) rows column.known.prefixes
  level_further j digit from below whole =
      kept_next digit (level_at column t (column.known.read - j)) (level_at column t (column.known.read - (j + 1))) (digit_of column.known.read j) rows column.known.prefixes counts.rows
      (λ r h has. let p = get_or column.known.prefixes r 0 in
      ap (λ n. n == (t / 2 ^ (column.known.read - (j + 1)))) (digits_at j from below r h has) ∙ ap (λ n. (2 * (number_in column p / 2 ^ (column.known.read - j)) + cond (digit_of column.known.read j p) 1 0) == n) whole
      ∙ equal_step (number_in column p / 2 ^ (column.known.read - j)) (t / 2 ^ (column.known.read - j)) (digit_of column.known.read j p) digit)

  pub beyond_further : (j : ℕ) (digit : Bool) → first_plane column.ends column.known.read ≤ j → j < column.known.read →
      t / 2 ^ (column.known.read - (j + 1)) ≡ 2 * (t / 2 ^ (column.known.read - j)) + cond digit 1 0 →
      beyond_rows end digit (rows_that (beyond_at end column t (column.known.read - j)) rows column.known.prefixes) (rows_that (level_at column t (column.known.read - j)) rows column.known.prefixes)
      (map (digit_of column.known.read j) column.known.prefixes)
      ≡ rows_that (beyond_at end column t (column.known.read - (j + 1))) rows column.known.prefixes
  beyond_further j digit from below whole =
      beyond_next end digit (beyond_at end column t (column.known.read - j)) (level_at column t (column.known.read - j)) (beyond_at end column t (column.known.read - (j + 1))) (digit_of column.known.read j) rows
      column.known.prefixes counts.rows
      (λ r h has. let p = get_or column.known.prefixes r 0 in
      ap (λ n. lies_beyond end (t / 2 ^ (column.known.read - (j + 1))) n) (digits_at j from below r h has)
      ∙ ap (λ n. lies_beyond end n (2 * (number_in column p / 2 ^ (column.known.read - j)) + cond (digit_of column.known.read j p) 1 0)) whole
      ∙ beyond_step end (number_in column p / 2 ^ (column.known.read - j)) (t / 2 ^ (column.known.read - j)) (digit_of column.known.read j p) digit)

  pub reached_at_last : (k : ℕ) → k ≡ 0 →
      zip2 (λ a b. a || b) (rows_that (beyond_at end column t k) rows column.known.prefixes) (rows_that (level_at column t k) rows column.known.prefixes)
      ≡ rows_that (λ p. reaches end t (number_in column p)) rows column.known.prefixes
  reached_at_last k none =
      joins (beyond_at end column t k) (level_at column t k) (λ p. reaches end t (number_in column p)) rows column.known.prefixes counts.rows
      (λ r h has. let n = number_in column (get_or column.known.prefixes r 0) in
      reach_by_parts end t n
      ∙ ap (λ m. lies_beyond end m n || (n == m)) (sym (ap (λ i. t / 2 ^ i) none ∙ div-one t))
      ∙ ap (λ m. lies_beyond end (t / 2 ^ k) m || (m == (t / 2 ^ k))) (sym (ap (λ i. n / 2 ^ i) none ∙ div-one n)))

pub length-that : (test : ℕ → Bool) (rows : List Bool) (ps : List ℕ) → length rows ≡ length ps → length (rows_that test rows ps) ≡ length rows
length-that test rows ps e = length-zip2 (λ has p. has && test p) rows ps e

-- the digits of a number down to one
pub whole_digits : (t read to j : ℕ) (digit : Bool) → to ≡ read → j < read → digit ≡ ((t / 2 ^ (to - j - 1)) % 2 == 1) →
    t / 2 ^ (read - (j + 1)) ≡ 2 * (t / 2 ^ (read - j)) + cond digit 1 0
whole_digits t read to j digit e below d =
    let k = read - (j + 1) in
    let next : suc k ≡ read - j = omega (arith, below) in
    let place : to - j - 1 ≡ k = omega (arith, e) in
    halved t k ∙ ap (λ i. 2 * (t / 2 ^ i) + cond ((t / 2 ^ k) % 2 == 1) 1 0) next
    ∙ ap (λ b. 2 * (t / 2 ^ (read - j)) + cond b 1 0) (sym (d ∙ ap (λ i. (t / 2 ^ i) % 2 == 1) place))
