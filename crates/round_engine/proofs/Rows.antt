-- The rows of a mask that another has, and their pairs.
use Rattle.std.proofs.Common.{◌≡◌, ℕ, zero, suc, ◌+◌, ◌<◌, ◌≤◌, ℤ, Bool, true, false, ◌&&◌, cond, if◌then◌else◌, Some, None, List, [], ◌∷◌, length, map, filter, count_by, inl, inr, refl, sym, ap, ◌∙◌, arith}
use Rattle.std.specs.List.{cons_option, filter_map, range_with_len}
use Rattle.std.proofs.lemmas.Bool.{cases_Bool, false≢true}
use Rattle.std.proofs.lemmas.List.FromFn.{fill_by_all}
use Rattle.aggregates.specs.Selections.{has_row, rows_in}
use Rattle.known_column.specs.Columns.{KnownColumn}
use Rattle.query_model.specs.Bounds.{Pair, certain_count}
use Rattle.round_engine.specs.Selected.{pair_in}
use Rattle.round_engine.proofs.Masked.{count-tested}

-- ---- rows

-- tests that agree at each row pass the same rows
filter_same : (f g : ℕ → Bool) (a n : ℕ) → ((r : ℕ) → a ≤ r → r < a + n → f r ≡ g r) → filter f (range_with_len a n) ≡ filter g (range_with_len a n)
filter_same f g a zero same = refl
filter_same f g a (suc n) same =
    ap (λ b. cond b (a ∷ filter f (range_with_len (a + 1) n)) (filter f (range_with_len (a + 1) n))) (same a (omega arith) (omega arith))
    ∙ ap (λ rs. cond (g a) (a ∷ rs) rs) (filter_same f g (a + 1) n (λ r above below. same r (omega arith) (omega arith)))

-- two tests, one after the other
filter_both : (f g : ℕ → Bool) (rs : List ℕ) → filter (λ r. f r && g r) rs ≡ filter g (filter f rs)
filter_both f g [] = refl
filter_both f g (r ∷ rs) =
    elim (cases_Bool (f r)) [
      | inl t ↦ rw t (ap (λ xs. cond (g r) (r ∷ xs) xs) (filter_both f g rs))
      | inr miss ↦ rw miss (filter_both f g rs)
    ]

-- the rows of a mask that has those of another which pass a test
pub narrowed : (mask narrow : List Bool) (test : ℕ → Bool) → length narrow ≡ length mask → ((r : ℕ) → r < length mask → has_row narrow r ≡ (has_row mask r && test r)) → rows_in narrow ≡ filter test (rows_in mask)
narrowed mask narrow test long each =
    ap (λ n. filter (has_row narrow) (range_with_len 0 n)) long
    ∙ filter_same (has_row narrow) (λ r. has_row mask r && test r) 0 (length mask) (λ r above below. each r (omega arith))
    ∙ filter_both (has_row mask) test (range_with_len 0 (length mask))

-- a mask counts its rows
pub count_rows : (mask : List Bool) → count_by (λ b. b) mask ≡ length (rows_in mask)
count_rows mask = ap (count_by (λ b. b)) (fill_by_all (has_row mask) mask (length mask) false refl (λ k below. refl)) ∙ count-tested (has_row mask) 0 (length mask)

pub no_element : (rs : List ℕ) → length rs ≡ 0 → rs ≡ []
no_element [] e = refl
no_element (r ∷ rs) e = absurd (omega (arith, e))

-- a row that passes, and one that does not
pub passed : (b : Bool) (r : ℕ) (rs : List ℕ) → b ≡ true → length (cond b (r ∷ rs) rs) ≡ suc (length rs)
passed true r rs e = refl
passed false r rs e = absurd (false≢true e)

pub skipped : (b : Bool) (r : ℕ) (rs : List ℕ) → b ≡ false → length (cond b (r ∷ rs) rs) ≡ length rs
skipped true r rs e = absurd (false≢true (sym e))
skipped false r rs e = refl

-- the number of a row that passes
one_number : (g : ℕ → ℤ) (b : Bool) (r : ℕ) (ns : List ℤ) (rs : List ℕ) → ns ≡ map g rs → cons_option (if b then Some (g r) else None) ns ≡ map g (cond b (r ∷ rs) rs)
one_number g true r ns rs same = ap (λ l. g r ∷ l) same
one_number g false r ns rs same = same

-- ---- the pairs of some rows, of which a mask's count for certain

module _ (column : KnownColumn) (must : List Bool) where
  pub certain_of : (rs : List ℕ) → certain_count (map (pair_in column must) rs) ≡ length (filter (has_row must) rs)
  certain_of [] = refl
  certain_of (r ∷ rs) =
      elim (cases_Bool (has_row must r)) [
        | inl t ↦ rw t (ap suc (certain_of rs))
        | inr f ↦ rw f (certain_of rs)
      ]

  pub certain_numbers_of : (f : Pair → ℤ) (rs : List ℕ) → filter_map (λ p. if p.certain then Some (f p) else None) (map (pair_in column must) rs) ≡ map (λ r. f (pair_in column must r)) (filter (has_row must) rs)
  certain_numbers_of f [] = refl
  certain_numbers_of f (r ∷ rs) = one_number (λ k. f (pair_in column must k)) (has_row must r) r _ (filter (has_row must) rs) (certain_numbers_of f rs)
