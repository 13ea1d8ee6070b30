-- The furthest number of some rows: of a block digit by digit, and of all rows block by block.
use Rattle.std.proofs.Common.{◌≡◌, ℕ, zero, suc, ◌+◌, ◌-◌, ◌*◌, ◌/◌, ◌^◌, ◌<◌, ◌≤◌, ◌==◌, Bool, true, false, cond, not, ◌&&◌, ◌||◌, List, [], ◌∷◌, length, map, drop, get_or, count_by, Option, Some, None, ◌⊎◌, inl, inr, refl, arith, subst, sym, ap, ◌∙◌}
use Rattle.std.specs.Simd.Lanes.{zip2}
use Rattle.std.proofs.Math.Nat.{div-one, div-eq_of_lt, pow-le-pow_right}
use Rattle.std.proofs.lemmas.Bool.{cases_Bool, cases_lt, eq-eqb, eqb-true, false≢true}
use Rattle.std.proofs.lemmas.Bool.Decides.{nat_tests}
use Rattle.std.proofs.lemmas.List.{get_or-drop, get_or-take, length-take}
use Rattle.std.proofs.lemmas.List.Sums.{sum_by-cons}
use Rattle.plane_kernels.specs.Rows.{kept_rows}
use Rattle.known_column.specs.Columns.{KnownColumn, digit_of}
use Rattle.aggregates.specs.Selections.{IsSound, block_of}
use Rattle.aggregates.proofs.BlockWords.{row_within}
use Rattle.aggregates.proofs.EndSums.{Counts, number_in, numbers}
use Rattle.aggregates.proofs.MaskSums.{AtRows}
use Rattle.aggregates.proofs.NumberRows.{first_plane}
use Rattle.avg_exact.specs.declared.passes.End.{End}
use Rattle.avg_exact.specs.declared.passes.End.TheVariants.{Low, High}
use Rattle.avg_exact.specs.Blocks.{block_column, lies_beyond}
use Rattle.avg_exact.specs.Furthest.{IsFurthest, IsFurthestFrom, further_of, number_at, wanted}
use Rattle.avg_exact.proofs.Reaching.{all_pass, beyond_step, digits_at, equal_step, further_digit, kept_next, rows_that}

-- ---- counts of rows that pass a test

pub no_row : (rows : List Bool) → count_by (λ b. b) rows ≡ 0 → (r : ℕ) → get_or rows r false ≡ false
no_row [] e r = refl
no_row (true ∷ rows) e r = absurd (omega (arith, e, sum_by-cons (λ b. cond {A = ℕ} b 1 0) true rows))
no_row (false ∷ rows) e zero = refl
no_row (false ∷ rows) e (suc r) = no_row rows (omega (arith, e, sum_by-cons (λ b. cond {A = ℕ} b 1 0) false rows)) r

none_counted : (test : ℕ → Bool) (rows : List Bool) (ps : List ℕ) → length rows ≡ length ps → count_by (λ b. b) (rows_that test rows ps) ≡ 0 → AtRows rows ps (λ p. test p ≡ false)
none_counted test [] [] l e r below has = absurd (omega arith)
none_counted test [] (p ∷ ps) l e r below has = absurd (omega arith)
none_counted test (b ∷ rows) [] l e r below has = absurd (omega arith)
none_counted test (b ∷ rows) (p ∷ ps) l e zero below has =
    let all = no_row (rows_that test (b ∷ rows) (p ∷ ps)) e 0 in
    ap (λ x. x && test p) (sym has) ∙ all
none_counted test (b ∷ rows) (p ∷ ps) l e (suc r) below has =
    none_counted test rows ps (omega arith) (fewer (b && test p) (rows_that test rows ps) e) r (omega arith) has
  where
    fewer : (x : Bool) (xs : List Bool) → count_by (λ b. b) (x ∷ xs) ≡ 0 → count_by (λ b. b) xs ≡ 0
    fewer x xs e = omega (arith, e, sum_by-cons (λ b. cond {A = ℕ} b 1 0) x xs)

-- a row that passes
pub record Passes (test : ℕ → Bool) (rows : List Bool) (ps : List ℕ) : Type 0 where
  pub row : ℕ
  pub below : row < length ps
  pub has : get_or rows row false ≡ true
  pub test_is : test (get_or ps row 0) ≡ true

both_true : (a b : Bool) → (a && b) ≡ true → (a ≡ true) × (b ≡ true)
both_true true b e = (refl, e)
both_true false b e = absurd (false≢true e)

some_counted : (test : ℕ → Bool) (rows : List Bool) (ps : List ℕ) → 1 ≤ count_by (λ b. b) (rows_that test rows ps) → Passes test rows ps
some_counted test [] ps h = absurd (omega arith)
some_counted test (b ∷ rows) [] h = absurd (omega arith)
some_counted test (b ∷ rows) (p ∷ ps) h = elim (cases_Bool (b && test p)) [
  | inl t ↦ (let parts = both_true b (test p) t in record { row = 0; below = omega arith; has = parts.0; test_is = parts.1 })
  | inr f ↦ (let rest = some_counted test rows ps (omega (arith, h, ap (λ x. cond {A = ℕ} x 1 0) f, sum_by-cons (λ b. cond {A = ℕ} b 1 0) (b && test p) (rows_that test rows ps))) in
      record { row = suc rest.row; below = omega (arith, rest.below); has = rest.has; test_is = rest.test_is })
]

parts : (rows bits : List Bool) → length bits ≡ length rows → count_by (λ b. b) (zip2 (λ a b. a && b) rows bits) + count_by (λ b. b) (zip2 (λ a b. a && not b) rows bits) ≡ count_by (λ b. b) rows
parts [] bits e = refl
parts (a ∷ rows) [] e = absurd (omega (arith, e))
parts (a ∷ rows) (b ∷ bits) e =
    omega (
      arith,
      parts rows bits (omega (arith, e)),
      either a b,
      sum_by-cons (λ b. cond {A = ℕ} b 1 0) (a && b) (zip2 (λ a b. a && b) rows bits),
      sum_by-cons (λ b. cond {A = ℕ} b 1 0) (a && not b) (zip2 (λ a b. a && not b) rows bits),
      sum_by-cons (λ b. cond {A = ℕ} b 1 0) a rows,
    )
  where
    either : (a b : Bool) → cond {A = ℕ} (a && b) 1 0 + cond {A = ℕ} (a && not b) 1 0 ≡ cond {A = ℕ} a 1 0
    either true true = refl
    either true false = refl
    either false b = refl

-- the rows with a digit, and those with the other
pub kept_parts : (bit : Bool) (rows bits : List Bool) → length bits ≡ length rows → count_by (λ b. b) (kept_rows bit rows bits) + count_by (λ b. b) (kept_rows (not bit) rows bits) ≡ count_by (λ b. b) rows
kept_parts true rows bits e = parts rows bits e
kept_parts false rows bits e = (let all = parts rows bits e in omega (arith, all))

-- ---- a block, digit by digit

-- the rows whose first digits are those of a number; all but k digits are first ones
abbrev pub at_level : KnownColumn → ℕ → ℕ → ℕ → Bool
at_level column n k p = (number_in column p / 2 ^ k) == n

is_same : (n m : ℕ) → (n == m) ≡ true → n ≡ m
is_same n m e = eqb-true n m e

same_test : (n m : ℕ) → n ≡ m → (n == m) ≡ true
same_test n m e = eq-eqb n m e

-- what the digits so far tell: the rows that have them, and that no row lies further on
pub record IsNarrowed (toward : End) (column : KnownColumn) (rows : List Bool) (from j n : ℕ) (level : List Bool) : Type 0 where
  pub level_is : level ≡ rows_that (at_level column n (column.known.read - j)) rows column.known.prefixes
  pub some : 1 ≤ count_by (λ b. b) level
  pub first : AtRows rows column.known.prefixes (λ p. lies_beyond toward n (number_in column p / 2 ^ (column.known.read - j)) ≡ false)
  pub small : n < 2 ^ (j - from)

module _ (toward : End) (column : KnownColumn) (rows : List Bool) (counts : Counts column rows) where
  none_beyond : (e : End) (m : ℕ) → m ≡ 0 → lies_beyond e 0 m ≡ false
  none_beyond Low m z = grind (arith, nat_tests)
  none_beyond High m z = grind (arith, nat_tests)

  pub narrowed_first : (from : ℕ) (level : List Bool) → from ≡ first_plane column.ends column.known.read → level ≡ rows → 1 ≤ count_by (λ b. b) level → IsNarrowed toward column rows from from 0 level
  narrowed_first from level is same some =
      let k = column.known.read - from in
      let zeros : AtRows rows column.known.prefixes (λ p. number_in column p / 2 ^ k ≡ 0) = λ r h has.
      div-eq_of_lt (subst (λ i. number_in column (get_or column.known.prefixes r 0) < 2 ^ (column.known.read - i)) (sym is) (numbers column rows counts r h has).small) in
      record {
        level_is = same ∙ all_pass (at_level column 0 k) rows column.known.prefixes counts.rows (λ r h has. same_test (number_in column (get_or column.known.prefixes r 0) / 2 ^ k) 0 (zeros r h has));
        some = some;
        first = λ r h has. none_beyond toward (number_in column (get_or column.known.prefixes r 0) / 2 ^ k) (zeros r h has);
        small = subst (λ i. 0 < 2 ^ i) (sym (minus_self from)) (omega arith);
      }
    where
      minus_self : (n : ℕ) → n - n ≡ 0
      minus_self n = omega arith

  not_further : (e : End) (digit bit level : Bool) → (digit ≡ wanted e) ⊎ ((level && cond (wanted e) bit (not bit)) ≡ false) → (level && further_digit e digit bit) ≡ false
  not_further e digit bit false h = refl
  not_further Low false bit true h = refl
  not_further Low true true true h = refl
  not_further Low true false true (inl e) = e
  not_further Low true false true (inr e) = e
  not_further High true bit true h = refl
  not_further High false false true h = refl
  not_further High false true true (inl e) = sym e
  not_further High false true true (inr e) = e

  pub narrowed_next : (from j n : ℕ) (level digits next : List Bool) (digit : Bool) → first_plane column.ends column.known.read ≡ from → from ≤ j → j < column.known.read →
      digits ≡ map (digit_of column.known.read j) column.known.prefixes →
      next ≡ kept_rows digit level digits → (1 ≤ count_by (λ b. b) level → 1 ≤ count_by (λ b. b) next) →
      (digit ≡ wanted toward) ⊎ (count_by (λ b. b) (kept_rows (wanted toward) level digits) ≡ 0) →
      IsNarrowed toward column rows from j n level → IsNarrowed toward column rows from (j + 1) (2 * n + cond digit 1 0) next
  narrowed_next from j n level digits next digit is above below bits kept some least so_far =
      let read = column.known.read in
      let ps = column.known.prefixes in
      let bit = digit_of read j in
      let k = read - j in
      let k' = read - (j + 1) in
      let further = digits_at toward column rows n counts j (omega (arith, is, above)) below in
      let at = at_level column n k in
      record {
        level_is = kept ∙ ap (kept_rows digit level) bits ∙ ap (λ l. kept_rows digit l (map bit ps)) so_far.level_is
            ∙ kept_next digit at (at_level column (2 * n + cond digit 1 0) k') bit rows ps counts.rows
            (λ r h has. let p = get_or ps r 0 in
            ap (λ m. m == (2 * n + cond digit 1 0)) (further r h has) ∙ equal_step (number_in column p / 2 ^ k) n (bit p) digit);
        some = some so_far.some;
        first = λ r h has. let p = get_or ps r 0 in
            let a = number_in column p / 2 ^ k in
            ap (λ m. lies_beyond toward (2 * n + cond digit 1 0) m) (further r h has) ∙ beyond_step toward a n (bit p) digit
            ∙ ap (λ b. b || ((a == n) && further_digit toward digit (bit p))) (so_far.first r h has)
            ∙ not_further toward digit (bit p) (a == n) (which r h has);
        small = grown n digit from j so_far.small above;
      }
    where
      which : (r : ℕ) (h : r < length column.known.prefixes) (has : get_or rows r false ≡ true) →
          (digit ≡ wanted toward) ⊎ ((at_level column n (column.known.read - j) (get_or column.known.prefixes r 0) && cond (wanted toward) (digit_of column.known.read j (get_or column.known.prefixes r 0)) (not (digit_of column.known.read j (get_or column.known.prefixes r 0)))) ≡ false)
      which r h has = elim least [
        | inl e ↦ inl e
        | inr none ↦ inr (none_counted (λ p. at_level column n (column.known.read - j) p && cond (wanted toward) (digit_of column.known.read j p) (not (digit_of column.known.read j p))) rows column.known.prefixes counts.rows
            (ap (count_by (λ b. b)) (sym (ap (kept_rows (wanted toward) level) bits ∙ ap (λ l. kept_rows (wanted toward) l (map (digit_of column.known.read j) column.known.prefixes)) so_far.level_is
            ∙ kept_next (wanted toward) (at_level column n (column.known.read - j)) (λ p. at_level column n (column.known.read - j) p && cond (wanted toward) (digit_of column.known.read j p) (not (digit_of column.known.read j p)))
            (digit_of column.known.read j) rows column.known.prefixes counts.rows (λ r h has. refl))) ∙ none) r h has)
      ]

      grown : (n : ℕ) (digit : Bool) (from j : ℕ) → n < 2 ^ (j - from) → from ≤ j → 2 * n + cond digit 1 0 < 2 ^ ((j + 1) - from)
      grown n digit from j small above =
          let one = bit_small digit in
          let next : (j + 1) - from ≡ suc (j - from) = omega (arith, above) in
          subst (λ i. 2 * n + cond digit 1 0 < 2 ^ i) (sym next) (omega (arith, small, one))
        where
          bit_small : (b : Bool) → cond {A = ℕ} b 1 0 ≤ 1
          bit_small true = omega arith
          bit_small false = omega arith

  pub narrowed_last : (from j n : ℕ) (level : List Bool) → j ≡ column.known.read → IsNarrowed toward column rows from j n level → IsFurthest toward column rows (Some n)
  narrowed_last from j n level last done =
      let none : column.known.read - j ≡ 0 = omega (arith, last) in
      let found = some_counted (at_level column n (column.known.read - j)) rows column.known.prefixes (subst (λ l. 1 ≤ count_by (λ b. b) l) done.level_is done.some) in
      let whole = λ (r : ℕ). ap (λ i. number_in column (get_or column.known.prefixes r 0) / 2 ^ i) none ∙ div-one (number_in column (get_or column.known.prefixes r 0)) in
      record {
        row = found.row;
        from = omega arith;
        below = omega (arith, found.below, counts.rows);
        has = found.has;
        number = sym (whole found.row) ∙ is_same (number_in column (get_or column.known.prefixes found.row 0) / 2 ^ (column.known.read - j)) n found.test_is;
        furthest = λ r above below has. ap (lies_beyond toward n) (sym (whole r)) ∙ done.first r (omega (arith, below, counts.rows)) has;
      }

-- the digits that were read make a number of 64 binary digits
pub small_enough : (column : KnownColumn) → IsSound column → (from j n : ℕ) → from ≡ first_plane column.ends column.known.read → j < column.known.read → n < 2 ^ (j - from) → n < 9223372036854775808
small_enough column sound from j n is below small =
    let bit = one column.ends.nullable in
    let few : j - from ≤ 63 = omega (arith, is, below, sound.digits, sound.known.some_read, bit) in
    let most : 2 ^ (j - from) ≤ 2 ^ 63 = pow-le-pow_right (omega arith) few in
    omega (arith, small, most)
  where
    one : (b : Bool) → cond {A = ℕ} b 1 0 ≤ 1
    one true = omega arith
    one false = omega arith

-- ---- all rows, block by block

module _ (toward : End) (column : KnownColumn) (rows : List Bool) where
  not_past : (e : End) (n m x : ℕ) → lies_beyond e n m ≡ false → lies_beyond e m x ≡ false → lies_beyond e n x ≡ false
  not_past Low n m x a b = grind (arith, nat_tests)
  not_past High n m x a b = grind (arith, nat_tests)

  -- the further of two numbers is one of them, past which the other does not lie
  further_is : (e : End) (n m : ℕ) → ((further_of e (Some n) (Some m) ≡ Some n) × (lies_beyond e n m ≡ false)) ⊎ ((further_of e (Some n) (Some m) ≡ Some m) × (lies_beyond e m n ≡ false))
  further_is Low n m = elim (cases_lt m n) [
    | inl less ↦ inr (ap (λ x. Some x) (omega arith), grind (arith, nat_tests))
    | inr more ↦ inl (ap (λ x. Some x) (omega arith), grind (arith, nat_tests))
  ]
  further_is High n m = elim (cases_lt n m) [
    | inl less ↦ inr (ap (λ x. Some x) (omega arith), grind (arith, nat_tests))
    | inr more ↦ inl (ap (λ x. Some x) (omega arith), grind (arith, nat_tests))
  ]

  pub joined : (a b c : ℕ) (x y : Option ℕ) → a ≤ b → b ≤ c → IsFurthestFrom toward column rows a b x → IsFurthestFrom toward column rows b c y → IsFurthestFrom toward column rows a c (further_of toward x y)
  joined a b c None None ab bc p q = λ r above below. elim (cases_lt r b) [ inl before ↦ p r above before | inr behind ↦ q r behind below ]
  joined a b c None (Some m) ab bc p q = record {
    row = q.row;
    from = omega (arith, ab, q.from);
    below = q.below;
    has = q.has;
    number = q.number;
    furthest = λ r above below has. elim (cases_lt r b) [ inl before ↦ absurd (false≢true (sym (p r above before) ∙ has)) | inr behind ↦ q.furthest r behind below has ];
  }
  joined a b c (Some n) None ab bc p q = record {
    row = p.row;
    from = p.from;
    below = omega (arith, p.below, bc);
    has = p.has;
    number = p.number;
    furthest = λ r above below has. elim (cases_lt r b) [ inl before ↦ p.furthest r above before has | inr behind ↦ absurd (false≢true (sym (q r behind below) ∙ has)) ];
  }
  joined a b c (Some n) (Some m) ab bc p q = elim (further_is toward n m) [
    | inl first ↦ subst (IsFurthestFrom toward column rows a c) (sym first.0) (record {
      row = p.row;
      from = p.from;
      below = omega (arith, p.below, bc);
      has = p.has;
      number = p.number;
      furthest = λ r above below has. elim (cases_lt r b) [ inl before ↦ p.furthest r above before has | inr behind ↦ not_past toward n m (number_at column r) first.1 (q.furthest r behind below has) ];
    })
    | inr second ↦ subst (IsFurthestFrom toward column rows a c) (sym second.0) (record {
      row = q.row;
      from = omega (arith, ab, q.from);
      below = q.below;
      has = q.has;
      number = q.number;
      furthest = λ r above below has. elim (cases_lt r b) [ inl before ↦ not_past toward m n (number_at column r) second.1 (p.furthest r above before has) | inr behind ↦ q.furthest r behind below has ];
    })
  ]

  get_block : {A : Type 0} (block : ℕ) (xs : List A) (i : ℕ) (d : A) → i < 512 → get_or (block_of block xs) i d ≡ get_or xs (512 * block + i) d
  get_block block xs i d small = get_or-take 512 (drop (512 * block) xs) i d small ∙ get_or-drop (512 * block) xs i d

  -- the rows of a block, as rows of the column
  pub of_block : (block : ℕ) (x : Option ℕ) → IsFurthest toward (block_column column block) (block_of block rows) x → IsFurthestFrom toward column rows (512 * block) (512 * (block + 1)) x
  of_block block None p = λ r above below.
      let i = r - 512 * block in
      let small : i < 512 = omega arith in
      let at : 512 * block + i ≡ r = omega arith in
      let same = get_block block rows i false small ∙ ap (λ r. get_or rows r false) at in
      sym same ∙ elim (cases_lt i (length (block_of block rows))) [
        | inl there ↦ p i (omega arith) there
        | inr out ↦ (elim (cases_Bool (get_or (block_of block rows) i false)) [ inl t ↦ absurd (omega (arith, out, row_within (block_of block rows) i t)) | inr f ↦ f ])
      ]
  of_block block (Some n) p =
      let few : length (block_of block rows) ≤ 512 = omega (arith, length-take 512 (drop (512 * block) rows)) in
      record {
        row = 512 * block + p.row;
        from = omega arith;
        below = omega (arith, p.below, few);
        has = sym (get_block block rows p.row false (omega (arith, p.below, few))) ∙ p.has;
        number = ap (number_in column) (sym (get_block block column.known.prefixes p.row 0 (omega (arith, p.below, few)))) ∙ p.number;
        furthest = λ r above below has.
            let i = r - 512 * block in
            let small : i < 512 = omega arith in
            let at : 512 * block + i ≡ r = omega arith in
            let same = get_block block rows i false small ∙ ap (λ r. get_or rows r false) at in
            let here = same ∙ has in
            let number = get_block block column.known.prefixes i 0 small ∙ ap (λ r. get_or column.known.prefixes r 0) at in
            ap (λ p. lies_beyond toward n (number_in column p)) (sym number) ∙ p.furthest i (omega arith) (row_within (block_of block rows) i here) here;
      }

  pub all_rows_seen : (m : ℕ) (x : Option ℕ) → length rows ≤ m → IsFurthestFrom toward column rows 0 m x → IsFurthest toward column rows x
  all_rows_seen m None out p = λ r above below. p r above (omega arith)
  all_rows_seen m (Some n) out p = record {
    row = p.row;
    from = p.from;
    below = row_within rows p.row p.has;
    has = p.has;
    number = p.number;
    furthest = λ r above below has. p.furthest r above (omega arith) has;
  }
