-- The least and the greatest value of the rows of a list.
use Rattle.std.proofs.Common.{◌≡◌, ℕ, zero, suc, ◌+◌, ◌-◌, ◌^◌, ◌<◌, ◌≤◌, nat_lt, ℤ, ◌≤ℤ◌, Bool, true, false, cond, not, ◌||◌, List, [], ◌∷◌, length, map, filter, get_or, Option, Some, None, inl, inr, refl, arith, subst, sym, ap, ◌∙◌}
use Rattle.std.specs.Int.{int_max, int_min}
use Rattle.std.specs.List.{range_with_len}
use Rattle.std.specs.Option.{option_map}
use Rattle.std.proofs.Math.Nat.{mul-le-mul_right}
use Rattle.std.proofs.lemmas.Bool.{cases_lt, false≢true}
use Rattle.std.proofs.lemmas.Bool.Decides.{nat_tests}
use Rattle.std.proofs.lemmas.Int.{clamps, ints}
use Rattle.interval_calc.specs.declared.Fraction.{Fraction}
use Rattle.daq_table.specs.Tables.{planes}
use Rattle.query_model.specs.Bounds.{Pair, highs}
use Rattle.known_column.specs.Columns.{KnownColumn, number_of}
use Rattle.aggregates.specs.Selections.{has_row, rows_in}
use Rattle.aggregates.proofs.BlockWords.{row_within}
use Rattle.aggregates.proofs.EndSums.{Counts}
use Rattle.round_engine.specs.Stages.{Stage}
use Rattle.avg_exact.specs.declared.passes.End.{End}
use Rattle.avg_exact.specs.declared.passes.End.TheVariants.{Low, High}
use Rattle.avg_exact.specs.declared.planes.Part.TheVariants.{Reached}
use Rattle.avg_exact.specs.Blocks.{IsOverColumn, IsThreshold, IsValued, column_of, is_unsure_row, lies_beyond, part_rows, rows_with, value_in}
use Rattle.avg_exact.specs.ExactAverages.{Cut}
use Rattle.avg_exact.specs.Furthest.{IsFurthest, number_at}
use Rattle.avg_exact.specs.Passes.{all_rows, greatest_high, greatest_of, is_counted, is_taken, least_of, least_taken, tally_of}
use Rattle.avg_exact.specs.Ways.{IsFurthestValue, IsNumberOf, number_value, opposite}
use Rattle.avg_exact.proofs.ColumnPairs.{every_row, none_taken, row_value, taken_list, unsure_list}
use Rattle.avg_exact.proofs.NumberReach.{number_few, value_is}
use Rattle.avg_exact.proofs.RowLists.{long, long_rows}

-- ---- the best of some numbers

-- a choice between two numbers that goes by an order
record IsChoice (pick : ℤ → ℤ → ℤ) (past : ℤ → ℤ → Type 0) : Type 0 where
  first : (z x : ℤ) → past z x → pick z x ≡ z
  second : (z x : ℤ) → past z x → pick x z ≡ z
  both : (z x y : ℤ) → past z x → past z y → past z (pick x y)

is_least : IsChoice int_min (λ z x. z ≤ℤ x)
is_least = record { first = λ z x h. omega (arith, ints, clamps); second = λ z x h. omega (arith, ints, clamps); both = λ z x y h k. omega (arith, ints, clamps) }

is_greatest : IsChoice int_max (λ z x. x ≤ℤ z)
is_greatest = record { first = λ z x h. omega (arith, ints, clamps); second = λ z x h. omega (arith, ints, clamps); both = λ z x y h k. omega (arith, ints, clamps) }

abbrev better : (ℤ → ℤ → ℤ) → ℤ → Cut → Cut
better pick z None = Some z
better pick z (Some x) = Some (pick z x)

abbrev best : (ℤ → ℤ → ℤ) → List ℤ → Cut
best pick [] = None
best pick (z ∷ zs) = better pick z (best pick zs)

abbrev IsPast : (ℤ → ℤ → Type 0) → ℤ → Cut → Type 0
IsPast past z None = Unit {0}
IsPast past z (Some x) = past z x

no_rows : (has : ℕ → Bool) (a n : ℕ) → ((r : ℕ) → a ≤ r → r < a + n → has r ≡ false) → filter has (range_with_len a n) ≡ []
no_rows has a zero none = refl
no_rows has a (suc n) none =
    ap (λ b. cond b (a ∷ filter has (range_with_len (a + 1) n)) (filter has (range_with_len (a + 1) n))) (none a (omega arith) (omega arith))
    ∙ no_rows has (a + 1) n (λ r above below. none r (omega arith) (omega arith))

module _ (pick : ℤ → ℤ → ℤ) (past : ℤ → ℤ → Type 0) (choice : IsChoice pick past) (v : ℕ → ℤ) (has : ℕ → Bool) where
  better_past : (z x : ℤ) (c : Cut) → past z x → IsPast past z c → IsPast past z (better pick x c)
  better_past z x None h k = h
  better_past z x (Some y) h k = choice.both z x y h k

  stays_first : (z : ℤ) (c : Cut) → IsPast past z c → better pick z c ≡ Some z
  stays_first z None h = refl
  stays_first z (Some x) h = ap (λ y. Some y) (choice.first z x h)

  all_past : (z : ℤ) (a n : ℕ) → ((r : ℕ) → a ≤ r → r < a + n → has r ≡ true → past z (v r)) → IsPast past z (best pick (map v (filter has (range_with_len a n))))
  all_past z a zero each = tt
  all_past z a (suc n) each =
      let rest = all_past z (a + 1) n (λ r above below. each r (omega arith) (omega arith)) in
      by_row (has a) refl rest
    where
      by_row : (b : Bool) → b ≡ has a → IsPast past z (best pick (map v (filter has (range_with_len (a + 1) n)))) →
          IsPast past z (best pick (map v (cond b (a ∷ filter has (range_with_len (a + 1) n)) (filter has (range_with_len (a + 1) n)))))
      by_row true e rest = better_past z (v a) (best pick (map v (filter has (range_with_len (a + 1) n)))) (each a (omega arith) (omega arith) (sym e)) rest
      by_row false e rest = rest

  best_is : (a n row : ℕ) → a ≤ row → row < a + n → has row ≡ true → ((r : ℕ) → a ≤ r → r < a + n → has r ≡ true → past (v row) (v r)) →
      best pick (map v (filter has (range_with_len a n))) ≡ Some (v row)
  best_is a zero row from below it each = absurd (omega arith)
  best_is a (suc n) row from below it each =
      by_row (λ more. best_is (a + 1) n row more (omega arith) it (λ r above under. each r (omega arith) (omega arith))) (has a) refl
    where
      by_row : (a + 1 ≤ row → best pick (map v (filter has (range_with_len (a + 1) n))) ≡ Some (v row)) → (b : Bool) → b ≡ has a → best pick (map v (cond b (a ∷ filter has (range_with_len (a + 1) n)) (filter has (range_with_len (a + 1) n)))) ≡ Some (v row)
      by_row later true e = elim (cases_lt a row) [
        | inl more ↦ ap (better pick (v a)) (later (omega arith)) ∙ ap (λ y. Some y) (choice.second (v row) (v a) (each a (omega arith) (omega arith) (sym e)))
        | inr less ↦ (let same : a ≡ row = omega arith in
            ap (λ r. better pick (v r) (best pick (map v (filter has (range_with_len (a + 1) n))))) same
            ∙ stays_first (v row) (best pick (map v (filter has (range_with_len (a + 1) n)))) (all_past (v row) (a + 1) n (λ r above under. each r (omega arith) (omega arith))))
      ]
      by_row later false e = elim (cases_lt a row) [
        | inl more ↦ later (omega arith)
        | inr less ↦ (let same : row ≡ a = omega arith in absurd (false≢true (e ∙ sym (ap has same) ∙ it)))
      ]

-- ---- the best of the pairs

least_better : (z : ℤ) (c : Cut) → least_of (Some z) c ≡ better int_min z c
least_better z None = refl
least_better z (Some x) = refl

greatest_better : (z : ℤ) (c : Cut) → greatest_of (Some z) c ≡ better int_max z c
greatest_better z None = refl
greatest_better z (Some x) = refl

least_is : (over : Fraction) (ps : List Pair) → least_taken over ps ≡ best int_min (highs (filter (is_taken (Some over)) ps))
least_is over [] = refl
least_is over (p ∷ ps) = ap (least_of (cond (is_taken (Some over) p) (Some p.high) None)) (least_is over ps) ∙ by_test (is_taken (Some over) p) (filter (is_taken (Some over)) ps)
  where
    by_test : (b : Bool) (qs : List Pair) → least_of (cond b (Some p.high) None) (best int_min (highs qs)) ≡ best int_min (highs (cond b (p ∷ qs) qs))
    by_test true qs = least_better p.high (best int_min (highs qs))
    by_test false qs = refl

greatest_is : (ps : List Pair) → greatest_high ps ≡ best int_max (highs ps)
greatest_is [] = refl
greatest_is (p ∷ ps) = ap (greatest_of (Some p.high)) (greatest_is ps) ∙ greatest_better p.high (best int_max (highs ps))

-- where no pair is certain, each is uncertain
all_uncertain : (ps : List Pair) → length (filter (is_counted None) ps) ≡ 0 → filter (λ p. not p.certain) ps ≡ ps
all_uncertain [] e = refl
all_uncertain (p ∷ ps) e = by_row (all_uncertain ps) p.certain refl
  where
    by_row : (length (filter (is_counted None) ps) ≡ 0 → filter (λ p. not p.certain) ps ≡ ps) → (b : Bool) → b ≡ p.certain → filter (λ p. not p.certain) (p ∷ ps) ≡ p ∷ ps
    by_row rest true t = absurd (omega (arith, sym e ∙ ap (λ b. length (cond (b || false) (p ∷ filter (is_counted None) ps) (filter (is_counted None) ps))) (sym t)))
    by_row rest false t =
        ap (λ b. cond (not b) (p ∷ filter (λ p. not p.certain) ps) (filter (λ p. not p.certain) ps)) (sym t)
        ∙ ap (λ qs. p ∷ qs) (rest (ap (λ b. length (cond (b || false) (p ∷ filter (is_counted None) ps) (filter (is_counted None) ps))) t ∙ e))

-- ---- by numbers

not_less : (n m : ℕ) → nat_lt n m ≡ false → m ≤ n
not_less n m h = grind (arith, nat_tests)

-- values follow the order of numbers
up : (column : KnownColumn) (end : End) (n m : ℕ) → lies_beyond (opposite end) n m ≡ false → number_value end column n ≤ℤ number_value end column m
up column Low n m h =
    let more = mul-le-mul_right (2 ^ (planes column.ends - column.known.read)) (not_less n m h) in
    omega (arith, ints)
up column High n m h =
    let more = mul-le-mul_right (2 ^ (planes column.ends - column.known.read)) (not_less m n h) in
    omega (arith, ints)

down : (column : KnownColumn) (end : End) (n m : ℕ) → lies_beyond end n m ≡ false → number_value end column m ≤ℤ number_value end column n
down column Low n m h =
    let more = mul-le-mul_right (2 ^ (planes column.ends - column.known.read)) (not_less m n h) in
    omega (arith, ints)
down column High n m h =
    let more = mul-le-mul_right (2 ^ (planes column.ends - column.known.read)) (not_less n m h) in
    omega (arith, ints)

-- a row of a list may have a value
row_valued : (column : KnownColumn) (rows : List Bool) → Counts column rows → (r : ℕ) → has_row rows r ≡ true → IsValued column (get_or column.known.prefixes r 0)
row_valued column rows counts r has = (counts.sound.known.legal r 0 (omega (arith, row_within rows r has, counts.rows)), counts.values r has)

-- the furthest number of a list is a number of the column
pub furthest_number : (toward : End) (column : KnownColumn) (rows : List Bool) (n : ℕ) → Counts column rows → IsFurthest toward column rows (Some n) → IsNumberOf column n
furthest_number toward column rows n counts found =
    subst (IsNumberOf column) found.number (number_few column counts.sound.known (get_or column.known.prefixes found.row 0) (row_valued column rows counts found.row found.has))

module _ (column : KnownColumn) (rows : List Bool) (counts : Counts column rows) (end : End) where
  value_of_row : (r : ℕ) → has_row rows r ≡ true → value_in end column (get_or column.known.prefixes r 0) ≡ number_value end column (number_at column r)
  value_of_row r has = value_is column counts.sound.known end (get_or column.known.prefixes r 0) (row_valued column rows counts r has)

  listed : (pick : ℤ → ℤ → ℤ) (past : ℤ → ℤ → Type 0) (toward : End) → IsChoice pick past →
      ((n m : ℕ) → lies_beyond toward n m ≡ false → past (number_value end column n) (number_value end column m)) → (found : Option ℕ) → IsFurthest toward column rows found →
      best pick (map (λ r. value_in end column (get_or column.known.prefixes r 0)) (rows_in rows)) ≡ option_map (number_value end column) found
  listed pick past toward choice order None none =
      ap (λ rs. best pick (map (λ r. value_in end column (get_or column.known.prefixes r 0)) rs)) (no_rows (has_row rows) 0 (length rows) (λ r above below. none r above (omega arith)))
  listed pick past toward choice order (Some n) found =
      best_is pick past choice (λ r. value_in end column (get_or column.known.prefixes r 0)) (has_row rows) 0 (length rows) found.row (omega arith) (omega (arith, found.below)) found.has
      (λ r above below has. subst (λ z. past z (value_in end column (get_or column.known.prefixes r 0))) (sym (value_of_row found.row found.has))
      (subst (past (number_value end column (number_at column found.row))) (sym (value_of_row r has))
      (order (number_at column found.row) (number_at column r) (ap (λ n. lies_beyond toward n (number_at column r)) found.number ∙ found.furthest r above (omega arith) has))))
      ∙ ap (λ z. Some z) (value_of_row found.row found.has ∙ ap (number_value end column) found.number)

module _ (stage : Stage) (item c : ℕ) (over : IsOverColumn stage item c) (end : End) where
  pub no_least : (f : Fraction) → IsThreshold (column_of stage c) end f None → None ≡ least_taken f (all_rows stage item end)
  no_least f threshold = sym (least_is f (all_rows stage item end) ∙ ap (λ qs. best int_min (highs qs)) (none_taken stage item c over end f threshold))

  pub least_found : (f : Fraction) (t : ℕ) (value : Cut) → IsThreshold (column_of stage c) end f (Some t) → Counts (column_of stage c) (part_rows stage item c (Reached end t)) →
      IsFurthestValue (opposite end) end (column_of stage c) (part_rows stage item c (Reached end t)) value → value ≡ least_taken f (all_rows stage item end)
  least_found f t value threshold counts furthest =
      let column = column_of stage c in
      furthest.is
      ∙ sym (listed column (part_rows stage item c (Reached end t)) counts end int_min (λ z x. z ≤ℤ x) (opposite end) is_least (up column end) furthest.found furthest.furthest)
      ∙ ap (best int_min) (sym (taken_list stage item c over end f t threshold)) ∙ sym (least_is f (all_rows stage item end))

  pub greatest_found : (value : Cut) → (tally_of None (all_rows stage item end)).rows ≡ 0 → Counts (column_of stage c) (part_rows stage item c (Reached High 0)) →
      IsFurthestValue end end (column_of stage c) (part_rows stage item c (Reached High 0)) value → value ≡ greatest_high (all_rows stage item end)
  greatest_found value none counts furthest =
      let column = column_of stage c in
      let unsure = rows_with stage item is_unsure_row in
      let all = every_row (number_of column.ends column.known.read) unsure column.known.prefixes (long_rows stage item c over is_unsure_row ∙ sym (long stage item c over)) in
      furthest.is
      ∙ sym (listed column (part_rows stage item c (Reached High 0)) counts end int_max (λ z x. x ≤ℤ z) end is_greatest (down column end) furthest.found furthest.furthest)
      ∙ ap (λ rows. best int_max (map (λ r. row_value stage item c over end r) (rows_in rows))) all
      ∙ ap (best int_max) (sym (unsure_list stage item c over end)) ∙ ap (λ qs. best int_max (highs qs)) (all_uncertain (all_rows stage item end) none)
      ∙ sym (greatest_is (all_rows stage item end))
