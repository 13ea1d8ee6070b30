-- The first names of a word, and one name more.
use Rattle.std.proofs.Common.{◌≡◌, ◌≢◌, ◌⊎◌, ℕ, zero, suc, ◌+◌, ◌<◌, ◌≤◌, ◌==◌, Bool, true, false, cond, List, [], ◌∷◌, ◌++◌, length, get_or, refl, sym, ap, ◌∙◌, subst, inl, inr, arith, count_by, length-append}
use Rattle.std.proofs.lemmas.Bool.{cases_eq, cases_lt}
use Rattle.std.proofs.lemmas.Bool.Decides.{nat_tests}
use Rattle.std.proofs.lemmas.List.{length-map}
use Rattle.std.proofs.lemmas.List.Sums.{sum_by-append}
use Rattle.std.specs.List.{AllByRecursion}
use Rattle.daq_table.specs.Tables.{Frame, ends_at, frame_of, planes}
use Rattle.daq_table.specs.declared.table_head.Head.{Head}
use Rattle.query_model.specs.Projection.{projected_frame}
use Rattle.query_model.specs.Queries.{Query}
use Rattle.plane_reads.specs.Next.{IsEnded, IsNext}
use Rattle.plane_reads.specs.Reads.{AreFirstReads, IsNamed, IsPastEnd, IsUnknownName, name_at, names_of}

pub get_before : (xs ys : List ℕ) (n : ℕ) → n < length xs → get_or (xs ++ ys) n 0 ≡ get_or xs n 0
get_before [] ys n h = absurd (omega arith)
get_before (x ∷ xs) ys zero h = refl
get_before (x ∷ xs) ys (suc n) h = get_before xs ys n (omega arith)

pub get_last : (xs : List ℕ) (c n : ℕ) → n ≡ length xs → get_or (xs ++ c ∷ []) n 0 ≡ c
get_last [] c zero h = refl
get_last [] c (suc n) h = absurd (omega arith)
get_last (x ∷ xs) c zero h = absurd (omega arith)
get_last (x ∷ xs) c (suc n) h = get_last xs c n (omega arith)

all_append : (P : ℕ → Type 0) (xs : List ℕ) (c : ℕ) → AllByRecursion P xs → P c → AllByRecursion P (xs ++ c ∷ [])
all_append P [] c all h = (h, tt)
all_append P (x ∷ xs) c all h = (all.0, all_append P xs c all.1 h)

is_same : (a : ℕ) → (a == a) ≡ true
is_same a = grind (arith, nat_tests)

is_other : (a b : ℕ) → a ≢ b → (a == b) ≡ false
is_other a b n = grind (arith, nat_tests)

count_append : (p : ℕ → Bool) (xs : List ℕ) (c : ℕ) → count_by p (xs ++ c ∷ []) ≡ count_by p xs + cond (p c) 1 0
count_append p xs c = sum_by-append (λ x. cond (p x) 1 0) xs (c ∷ []) ∙ omega arith

pub count_same : (xs : List ℕ) (c : ℕ) → count_by (λ d. d == c) (xs ++ c ∷ []) ≡ count_by (λ d. d == c) xs + 1
count_same xs c = count_append (λ d. d == c) xs c ∙ ap (λ b. count_by (λ d. d == c) xs + cond b 1 0) (is_same c)

count_other : (xs : List ℕ) (c e : ℕ) → c ≢ e → count_by (λ d. d == e) (xs ++ c ∷ []) ≡ count_by (λ d. d == e) xs
count_other xs c e n = count_append (λ d. d == e) xs c ∙ ap (λ b. count_by (λ d. d == e) xs + cond b 1 0) (is_other c e n) ∙ omega arith

module _ (word : List ℕ) (query : Query) (head : Head) where
  abbrev part : Frame
  part = projected_frame query (frame_of head)

  columns_of_part : length part.columns ≡ length query.columns
  columns_of_part = length-map query.columns (ends_at (frame_of head))

  pub none_yet : AreFirstReads word query head []
  none_yet = record { within = omega arith; named = λ i h. absurd (omega arith); readable = record { columns = tt; few = λ c h. omega arith } }

  pub one_more : (columns : List ℕ) (c : ℕ) → AreFirstReads word query head columns → length columns < length (names_of word) → IsNext query head columns (name_at word (length columns)) c →
      AreFirstReads word query head (columns ++ c ∷ [])
  one_more columns c first more next = record {
    within = omega (arith, long, more);
    named = λ i h. at i (cases_lt i (length columns)) h;
    readable = record {
      columns = all_append (λ d. d < length part.columns) columns c first.readable.columns (subst (λ n. c < n) (sym columns_of_part) next.named.in_query);
      few = λ d h. counted d h (cases_eq c d);
    };
  }
    where
      long : length (columns ++ c ∷ []) ≡ length columns + 1
      long = length-append columns (c ∷ [])

      at : (i : ℕ) → ((i < length columns) ⊎ (length columns ≤ i)) → i < length (columns ++ c ∷ []) → IsNamed query head (get_or (columns ++ c ∷ []) i 0) (name_at word i)
      at i (inl before) h = subst (λ d. IsNamed query head d (name_at word i)) (sym (get_before columns (c ∷ []) i before)) (first.named i before)
      at i (inr k) h =
          let last : length columns ≡ i = omega (arith, k, h, long) in
          subst (λ d. IsNamed query head d (name_at word i)) (sym (get_last columns c i (sym last))) (subst (λ n. IsNamed query head c (name_at word n)) last next.named)

      counted : (d : ℕ) → d < length part.columns → ((c ≡ d) ⊎ (c ≢ d)) → count_by (λ e. e == d) (columns ++ c ∷ []) ≤ planes (ends_at part d)
      counted d h (inl same) = subst (λ d. count_by (λ e. e == d) (columns ++ c ∷ []) ≤ planes (ends_at part d)) same (let one = count_same columns c in let left = next.left in omega (arith, one, left))
      counted d h (inr other) = (let same = count_other columns c d other in let few = first.readable.few d h in omega (arith, same, few))

  pub unknown_name : (columns : List ℕ) → AreFirstReads word query head columns → length columns < length (names_of word) →
      ((c : ℕ) → ¬ IsNamed query head c (name_at word (length columns))) → IsUnknownName word query head (length columns)
  unknown_name columns first more unknown = record { before = columns; first = first; place_is = refl; within = more; unknown = unknown }

  pub past_end : (columns : List ℕ) (c : ℕ) → AreFirstReads word query head columns → length columns < length (names_of word) →
      IsEnded query head columns (name_at word (length columns)) c → IsPastEnd word query head (length columns)
  past_end columns c first more is = record {
    before = columns;
    first = first;
    place_is = refl;
    within = more;
    column = c;
    named = is.named;
    ended = (let few = first.readable.few c (subst (λ n. c < n) (sym columns_of_part) is.named.in_query) in let all = is.ended in omega (arith, few, all));
  }
