-- The rows that count for a group.
use Rattle.std.proofs.Common.{◌≡◌, ◌≢◌, ℕ, ◌<◌, ◌==◌, Bool, true, false, ◌&&◌, ◌||◌, if◌then◌else◌, List, [], ◌∷◌, ◌++◌, map, None, refl, sym, ap, ◌∙◌}
use Rattle.std.specs.List.{AllByRecursion, list_all, list_any}
use Rattle.daq_table.specs.Tables.{Cells}
use Rattle.daq_table.specs.declared.table_head.Head.{Head}
use Rattle.query_model.specs.Answers.{groups_of, in_group, passes, same_value}
use Rattle.query_model.specs.declared.query.Face.TheVariants as faces
use Rattle.query_model.specs.Meaning as typed
use Rattle.query_model.specs.Meaning.{is_sql_true}
use Rattle.sql_text.specs.Tree as tree
use Rattle.sql_text.specs.Tree.{Name}
use Rattle.sql_typing.specs.Faults.{first_fault}
use Rattle.sql_typing.specs.Names.{names_in_ending, names_in_filter, names_in_head, number_of, with_number}
use Rattle.sql_typing.specs.Typing.{columns_of, distinct_after, group_columns, typed_ending}
use Rattle.sql_typing.specs.Typing as typing
use Rattle.sql_typing.proofs.Alls.{all_right}
use Rattle.sql_typing.proofs.Comparisons.{same_number}
use Rattle.sql_meaning.specs.Conditions.{truth_of_where}
use Rattle.sql_meaning.specs.Answers.{are_one_group, grouping, is_same}
use Rattle.sql_meaning.specs.Rows.{row_at, shown}
use Rattle.sql_meaning.specs.Laws.{HasValues, key_at, numbers_at}
use Rattle.sql_meaning.proofs.Asked.{StandsIn, name_reads, name_related}
use Rattle.sql_meaning.proofs.Named.{IsRead, all_read}
use Rattle.sql_meaning.proofs.Readings.{same_is}
use Rattle.sql_meaning.proofs.Truths.{where_is}

-- ---- a test of all numbers of a list, each taken once

and_assoc : (a b c : Bool) → ((a && b) && c) ≡ (a && (b && c))
and_assoc true b c = refl
and_assoc false b c = refl

and_true : (a : Bool) → (a && true) ≡ a
and_true true = refl
and_true false = refl

all_last : (p : ℕ → Bool) (seen : List ℕ) (n : ℕ) → list_all p (seen ++ n ∷ []) ≡ (list_all p seen && p n)
all_last p [] n = and_true (p n)
all_last p (m ∷ seen) n = ap (λ b. p m && b) (all_last p seen n) ∙ sym (and_assoc (p m) (list_all p seen) (p n))

was_seen : (p : ℕ → Bool) (n : ℕ) (seen : List ℕ) → list_any (λ m. n == m) seen ≡ true → list_all p seen ≡ (list_all p seen && p n)
was_seen p n [] h = absurd cc
was_seen p n (m ∷ seen) h = by (n == m) refl h (was_seen p n seen)
  where
    once : (a b : Bool) → (a && b) ≡ ((a && b) && a)
    once true true = refl
    once true false = refl
    once false b = refl

    by : (b : Bool) → (n == m) ≡ b → (b || list_any (λ m. n == m) seen) ≡ true → (list_any (λ m. n == m) seen ≡ true → list_all p seen ≡ (list_all p seen && p n)) → (p m && list_all p seen) ≡ ((p m && list_all p seen) && p n)
    by true e h rest = let same = same_number n m e in rw same (once (p m) (list_all p seen))
    by false e h rest = ap (λ b. p m && b) (rest h) ∙ sym (and_assoc (p m) (list_all p seen) (p n))

one_kept : (p : ℕ → Bool) (n : ℕ) (seen : List ℕ) → list_all p (with_number seen n) ≡ (list_all p seen && p n)
one_kept p n seen = by (list_any (λ m. n == m) seen) refl
  where
    by : (b : Bool) → list_any (λ m. n == m) seen ≡ b → list_all p (if b then seen else (seen ++ n ∷ [])) ≡ (list_all p seen && p n)
    by true e = was_seen p n seen e
    by false e = all_last p seen n

distinct_all : (p : ℕ → Bool) (seen ns : List ℕ) → list_all p (distinct_after seen ns) ≡ (list_all p seen && list_all p ns)
distinct_all p seen [] = sym (and_true (list_all p seen))
distinct_all p seen (n ∷ ns) = distinct_all p (with_number seen n) ns ∙ ap (λ b. b && list_all p ns) (one_kept p n seen) ∙ and_assoc (list_all p seen) (p n) (list_all p ns)

-- ---- keys

pub key_of : (w one : typed.Row) (cs : List ℕ) → in_group cs (map one cs) w ≡ list_all (λ c. same_value (w c) (one c)) cs
key_of w one [] = refl
key_of w one (c ∷ cs) = ap (λ b. same_value (w c) (one c) && b) (key_of w one cs)

-- the rows of a table, for the group of a row of a table, which may be another one
module _ (q : tree.Query) (head : Head) (cells base : Cells) where
  abbrev numbers : ℕ → typed.Row
  numbers r = numbers_at (typing.typed head.columns q) head cells r

  abbrev group_numbers : ℕ → typed.Row
  group_numbers one = numbers_at (typing.typed head.columns q) head base one

  name_same : (r one : ℕ) → r < head.rows → one < head.rows → (n : Name) → IsRead q head cells n → IsRead q head base n
      → same_value (numbers r (number_of head.columns (columns_of head.columns q) n.name)) (group_numbers one (number_of head.columns (columns_of head.columns q) n.name)) ≡ is_same (row_at head cells r n.name) (row_at head base one n.name)
  name_same r one r_in one_in n is of_base =
      same_is (shown head.columns (columns_of head.columns q) (faces.OfColumn (number_of head.columns (columns_of head.columns q) n.name))) (StandsIn q head cells n) (name_reads q head cells n is)
      (numbers r (number_of head.columns (columns_of head.columns q) n.name)) (group_numbers one (number_of head.columns (columns_of head.columns q) n.name))
      (row_at head cells r n.name) (row_at head base one n.name) (name_related q head cells n is r r_in) (name_related q head base n of_base one one_in)

  names_same : (r one : ℕ) → r < head.rows → one < head.rows → (ns : List Name) → AllByRecursion (IsRead q head cells) ns → AllByRecursion (IsRead q head base) ns
      → list_all (λ c. same_value (numbers r c) (group_numbers one c)) (map (λ n. number_of head.columns (columns_of head.columns q) n.name) ns) ≡ list_all (λ n. is_same (row_at head cells r n.name) (row_at head base one n.name)) ns
  names_same r one r_in one_in [] h k = refl
  names_same r one r_in one_in (n ∷ ns) h k = rw (name_same r one r_in one_in n h.0 k.0, names_same r one r_in one_in ns h.1 k.1) refl

  group_by : (r one : ℕ) → r < head.rows → (ending : tree.Ending) → (grouping ending ≢ [] → one < head.rows) → AllByRecursion (IsRead q head cells) (names_in_ending ending) → AllByRecursion (IsRead q head base) (names_in_ending ending)
      → in_group (groups_of (typed_ending head.columns (columns_of head.columns q) ending)) (map (group_numbers one) (groups_of (typed_ending head.columns (columns_of head.columns q) ending))) (numbers r)
      ≡ are_one_group ending (row_at head cells r) (row_at head base one)
  group_by r one r_in tree.Nothing one_in h k = refl
  group_by r one r_in (tree.Ordered key down limit) one_in h k = refl
  group_by r one r_in (tree.Grouped []) one_in h k = refl
  group_by r one r_in (tree.Grouped (n ∷ ns)) one_in h k =
      key_of (numbers r) (group_numbers one) (group_columns head.columns (columns_of head.columns q) (n ∷ ns))
      ∙ distinct_all (λ c. same_value (numbers r c) (group_numbers one c)) [] (map (λ n. number_of head.columns (columns_of head.columns q) n.name) (n ∷ ns))
      ∙ names_same r one r_in (one_in (λ e. absurd cc)) (n ∷ ns) h k

  -- the row counts for the group as it is typed where it counts as it is written
  pub passes_is : (r one : ℕ) → first_fault head.columns q ≡ None → HasValues head cells → HasValues head base → r < head.rows → (grouping q.ending ≢ [] → one < head.rows)
      → passes (typing.typed head.columns q) (key_at (typing.typed head.columns q) head base one) (numbers r)
      ≡ (is_sql_true (truth_of_where q.pred (row_at head cells r)) && are_one_group q.ending (row_at head cells r) (row_at head base one))
  passes_is r one good values of_base r_in one_in =
      let ending = all_right (IsRead q head cells) (names_in_head q.head ++ names_in_filter q.pred) (names_in_ending q.ending) (all_read q head cells good values) in
      let ending_of_base = all_right (IsRead q head base) (names_in_head q.head ++ names_in_filter q.pred) (names_in_ending q.ending) (all_read q head base good of_base) in
      rw (where_is q head cells r good values r_in, group_by r one r_in q.ending one_in ending ending_of_base) refl
