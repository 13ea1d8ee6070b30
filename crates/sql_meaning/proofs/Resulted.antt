-- The keys of a typed result are those of the rows that count.
use Rattle.std.proofs.Common.{◌≡◌, ◌≢◌, ℕ, zero, suc, ◌+◌, ◌<◌, ◌≤◌, ℤ, pos, Bool, true, false, if◌then◌else◌, List, [], ◌∷◌, length, map, Option, Some, None, inl, inr, refl, sym, ap, subst, ◌∙◌, arith, IsTrue}
use Rattle.std.proofs.lemmas.Bool.{cases_eq, true≢false}
use Rattle.std.proofs.lemmas.Int.{ints}
use Rattle.std.proofs.lemmas.Option.{same_Some}
use Rattle.std.specs.List.{cons_option, filter_map, list_all, range_with_len}
use Rattle.daq_table.specs.Tables.{Cells, frame_of}
use Rattle.daq_table.specs.declared.table_head.Head.{Head}
use Rattle.query_model.specs.Answers.{Key, groups_of, in_group, passes, same_value}
use Rattle.query_model.specs.Meaning.{Row, holds, is_sql_true}
use Rattle.query_model.specs.Queries.{Query}
use Rattle.query_model.specs.Worlds.{IsInResultOn}
use Rattle.query_model.proofs.Integers.{equal_when, when_equal}
use Rattle.sql_text.specs.Tree as tree
use Rattle.sql_typing.specs.Faults.{first_fault}
use Rattle.sql_typing.specs.Typing as typing
use Rattle.sql_typing.proofs.Comparisons.{and_left, and_right}
use Rattle.sql_meaning.specs.Conditions.{truth_of_where}
use Rattle.sql_meaning.specs.Rows.{row_at}
use Rattle.sql_meaning.specs.Laws.{HasGroups, HasValues, ResultsMeanTheirTrees, key_at, numbers_at}
use Rattle.sql_meaning.proofs.Groups.{key_of}
use Rattle.sql_meaning.proofs.Truths.{where_is}

-- ---- rows of a range that pass a test

abbrev given : (ℕ → Bool) → ℕ → Option ℤ
given p r = if p r then Some (pos 0) else None

passed : (b : Bool) (zs : List ℤ) → b ≡ true → length (cons_option (if b then Some (pos 0) else None) zs) ≢ 0
passed true zs e = λ h. absurd (omega (arith, h))
passed false zs e = absurd (true≢false (sym e))

more : (b : Bool) (zs : List ℤ) → length zs ≢ 0 → length (cons_option (if b then Some (pos 0) else None) zs) ≢ 0
more true zs h = λ e. absurd (omega (arith, e))
more false zs h = h

some_pass : (p : ℕ → Bool) (r a n : ℕ) → a ≤ r → r < a + n → p r ≡ true → length (filter_map (given p) (range_with_len a n)) ≢ 0
some_pass p r a zero low high e = absurd (omega arith)
some_pass p r a (suc n) low high e = elim (cases_eq a r) [
  | inl same ↦ passed (p a) (filter_map (given p) (range_with_len (a + 1) n)) (ap p same ∙ e)
  | inr other ↦ more (p a) (filter_map (given p) (range_with_len (a + 1) n)) (some_pass p r (a + 1) n (above a r low other) (omega arith) e)
] where
  above : (a r : ℕ) → a ≤ r → (a ≡ r → ⊥) → a + 1 ≤ r
  above a r low other = grind arith

record IsPassed (p : ℕ → Bool) (n : ℕ) : Type 0 where
  row : ℕ
  within : row < n
  is : p row ≡ true

one_passes : (p : ℕ → Bool) (a n m : ℕ) → a + n ≤ m → length (filter_map (given p) (range_with_len a n)) ≢ 0 → IsPassed p m
one_passes p a zero m high some = absurd (some refl)
one_passes p a (suc n) m high some = by (p a) refl some (one_passes p (a + 1) n m (omega arith))
  where
    by : (b : Bool) → p a ≡ b → length (cons_option (if b then Some (pos 0) else None) (filter_map (given p) (range_with_len (a + 1) n))) ≢ 0
        → (length (filter_map (given p) (range_with_len (a + 1) n)) ≢ 0 → IsPassed p m) → IsPassed p m
    by true e some rest = record { row = a; within = omega arith; is = e }
    by false e some rest = rest some

-- ---- keys

own_value : (o : Option ℤ) → same_value o o ≡ true
own_value None = refl
own_value (Some x) = when_equal x x refl

own_values : (w : Row) (cs : List ℕ) → list_all (λ c. same_value (w c) (w c)) cs ≡ true
own_values w [] = refl
own_values w (c ∷ cs) = rw (own_value (w c)) (own_values w cs)

value_is : (o p : Option ℤ) → same_value o p ≡ true → p ≡ o
value_is None None h = refl
value_is None (Some y) h = absurd (true≢false (sym h))
value_is (Some x) None h = absurd (true≢false (sym h))
value_is (Some x) (Some y) h = ap Some (sym (equal_when x y h))

key_is : (w : Row) (cs : List ℕ) (key : Key) → length key ≡ length cs → in_group cs key w ≡ true → key ≡ map w cs
key_is w [] [] n h = refl
key_is w [] (k ∷ ks) n h = absurd (omega (arith, n))
key_is w (c ∷ cs) [] n h = absurd (omega (arith, n))
key_is w (c ∷ cs) (k ∷ ks) n h =
    let first = value_is (w c) k (and_left (same_value (w c) k) (in_group cs ks w) h) in
    let rest = key_is w cs ks (omega (arith, n)) (and_right (same_value (w c) k) (in_group cs ks w) h) in
    ap (λ x. x ∷ ks) first ∙ ap (λ xs. w c ∷ xs) rest

-- ---- results

module _ (q : tree.Query) (head : Head) (cells : Cells) (good : first_fault head.columns q ≡ None) (values : HasValues head cells) where
  abbrev query : Query
  query = typing.typed head.columns q

  abbrev numbers : ℕ → Row
  numbers r = numbers_at query head cells r

  some_rows : (n : ℕ) → n ≢ 0 → Some (pos n) ≢ Some (pos 0)
  some_rows n some e = let same : pos n ≡ pos 0 = same_Some (pos n) (pos 0) e in some (omega (arith, ints, same))

  no_rows : (n : ℕ) → Some (pos n) ≢ Some (pos 0) → n ≢ 0
  no_rows n some e = some (ap (λ m. Some (pos m)) e)

  row_counts : (r : ℕ) → r < head.rows → IsTrue (is_sql_true (truth_of_where q.pred (row_at head cells r))) → passes query (key_at query head cells r) (numbers r) ≡ true
  row_counts r r_in h =
      let own : in_group (groups_of query.shape) (key_at query head cells r) (numbers r) ≡ true = key_of (numbers r) (numbers r) (groups_of query.shape) ∙ own_values (numbers r) (groups_of query.shape) in
      rw (where_is q head cells r good values r_in, h, own) refl

  of_row : (r : ℕ) → r < head.rows → IsTrue (is_sql_true (truth_of_where q.pred (row_at head cells r))) → IsInResultOn query (key_at query head cells r) (frame_of head) cells
  of_row r r_in h =
      some_rows (length (filter_map (given (λ s. passes query (key_at query head cells r) (numbers s))) (range_with_len 0 head.rows)))
      (some_pass (λ s. passes query (key_at query head cells r) (numbers s)) r 0 head.rows (omega arith) (omega arith) (row_counts r r_in h))

  of_key : (key : Key) → length key ≡ length (groups_of query.shape) → IsInResultOn query key (frame_of head) cells
      → (r : ℕ) × (r < head.rows) × IsTrue (is_sql_true (truth_of_where q.pred (row_at head cells r))) × (key ≡ key_at query head cells r)
  of_key key size result =
      let some = no_rows (length (filter_map (given (λ s. passes query key (numbers s))) (range_with_len 0 head.rows))) result in
      let at = one_passes (λ s. passes query key (numbers s)) 0 head.rows head.rows (omega arith) some in
      let held : is_sql_true (truth_of_where q.pred (row_at head cells at.row)) ≡ true =
      sym (ap is_sql_true (where_is q head cells at.row good values at.within)) ∙ and_left (holds query.pred (numbers at.row)) (in_group (groups_of query.shape) key (numbers at.row)) at.is in
      (at.row, at.within, held, key_is (numbers at.row) (groups_of query.shape) key size (and_right (holds query.pred (numbers at.row)) (in_group (groups_of query.shape) key (numbers at.row)) at.is))

  pub has_groups : HasGroups q head query cells
  has_groups = record { of_row = of_row; of_key = of_key }

pub results_mean : ResultsMeanTheirTrees
results_mean q head meant cells is values = subst (λ (w : Query). HasGroups q head w cells) (sym is.same) (has_groups q head cells is.faultless values)
