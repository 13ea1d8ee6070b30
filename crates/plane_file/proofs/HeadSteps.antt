-- Reading the heads of columns one after the other.
use Rattle.std.proofs.Common.{◌≡◌, ℕ, zero, suc, ◌+◌, ◌-◌, ◌≤◌, ◌<◌, ◌==◌, Bool, true, false, cond, not, ◌||◌, Some, None, List, [], ◌∷◌, ◌++◌, length, drop, refl, sym, ap, subst, ◌∙◌, arith, append_assoc, append-nil, inl, inr, add_assoc}
use Rattle.std.proofs.lemmas.Bool.{and_from, and_parts, eq-eqb, ne_eqb, or_right}
use Rattle.std.proofs.lemmas.Grind.{flat_map-append}
use Rattle.std.proofs.lemmas.List.{map-append}
use Rattle.std.proofs.lemmas.List.Folds.{list_any-append}
use Rattle.std.proofs.lemmas.List.Sums.{sum_by-append}
use Rattle.std.proofs.lemmas.Map.Text.{is_eq-slice_cmp}
use Rattle.std.proofs.lemmas.Option.{same_Some}
use Rattle.std.specs.Cmp.Lexicographic.{slice_cmp}
use Rattle.std.specs.List.{list_all, list_any}
use Rattle.std.specs.Ordering.{is_eq, nat_cmp}
use Rattle.std.specs.Prelude.{slice_get}
use Rattle.std.specs.Str.{bytes_eq}
use Rattle.daq_table.specs.HeadFacts.{all_differ, fits_rows}
use Rattle.daq_table.specs.Tables.{ends_of, planes}
use Rattle.daq_table.specs.declared.head.ColumnHead.{ColumnHead}
use Rattle.plane_file.proofs.ColumnFacts.{column_front, is_good}
use Rattle.plane_file.proofs.Faults.{first_fault-append_none, first_fault-append_some, passed-append}
use Rattle.plane_file.proofs.FieldFacts.{has_fields}
use Rattle.plane_file.specs.Bytes.{AreBytes}
use Rattle.plane_file.specs.Checks.{column_checks, column_end, columns_checks, count_at, dictionary_at, fields_checks, first_fault, is_new, names_checks, nullable_at, planes_in, rows_in, title_at, titles_of, version_in, width_at}
use Rattle.plane_file.specs.Format.{CanBeSpelledColumn, column_bytes, heads_bytes, plane_count}
use Rattle.plane_file.specs.Fronts.{AreHeads, IsColumnAt, MayFail}
use Rattle.plane_file.specs.declared.file_fault.FileFault.{FileFault}
use Rattle.plane_file.specs.declared.file_fault.FileFault.TheVariants.{BadHead}

-- what holds of each, and of one more behind them
each_push : (columns : List ColumnHead) (last : ColumnHead) → ((c : ℕ) (column : ColumnHead) → slice_get columns c ≡ Some column → CanBeSpelledColumn column) → CanBeSpelledColumn last
    → (c : ℕ) (column : ColumnHead) → slice_get (columns ++ last ∷ []) c ≡ Some column → CanBeSpelledColumn column
each_push [] last each good zero column e = subst CanBeSpelledColumn (same_Some last column e) good
each_push [] last each good (suc c) column e = absurd cc
each_push (first ∷ columns) last each good zero column e = each zero column e
each_push (first ∷ columns) last each good (suc c) column e = each_push columns last (λ i x h. each (suc i) x h) good c column e

neither : (a b : Bool) → not (a || b) ≡ true → (not a ≡ true) × (not b ≡ true)
neither true b h = absurd cc
neither false b h = (refl, h)

nor : (a b : Bool) → not a ≡ true → not b ≡ true → not (a || (b || false)) ≡ true
nor true b h k = absurd cc
nor false true h k = absurd cc
nor false false h k = refl

-- names that differ, and one more that none of them is
differ_push : (titles : List (List ℕ)) (title : List ℕ) → all_differ titles ≡ true → is_new titles title ≡ true → all_differ (titles ++ title ∷ []) ≡ true
differ_push [] title h k = refl
differ_push (first ∷ titles) title h k =
    let same = λ (other : List ℕ). is_eq (slice_cmp nat_cmp first other) in
    let parts = and_parts (not (list_any same titles)) (all_differ titles) h in
    let apart = neither (bytes_eq first title) (list_any (λ other. bytes_eq other title) titles) k in
    let last : not (same title) ≡ true = rw (is_eq-slice_cmp first title) apart.0 in
    and_from (not (list_any same (titles ++ title ∷ []))) (all_differ (titles ++ title ∷ []))
    (rw (list_any-append same titles (title ∷ [])) (nor (list_any same titles) (same title) parts.0 last))
    (differ_push titles title parts.1 apart.1)

all_push : (test : ColumnHead → Bool) (columns : List ColumnHead) (last : ColumnHead) → list_all test columns ≡ true → test last ≡ true → list_all test (columns ++ last ∷ []) ≡ true
all_push test [] last h k = and_from (test last) true k refl
all_push test (first ∷ columns) last h k =
    let parts = and_parts (test first) (list_all test columns) h in
    and_from (test first) (list_all test (columns ++ last ∷ [])) parts.0 (all_push test columns last parts.1 k)

plain_push : (two a b : Bool) → (two || not a) ≡ true → (two || not b) ≡ true → (two || not (a || (b || false))) ≡ true
plain_push true a b h k = refl
plain_push false a b h k = nor a b h k

heads_push : (columns : List ColumnHead) (last : ColumnHead) (rest : List ℕ) → heads_bytes (columns ++ last ∷ []) ++ rest ≡ heads_bytes columns ++ (column_bytes last ++ rest)
heads_push columns last rest = rw (flat_map-append column_bytes columns (last ∷ []), append-nil (column_bytes last)) (append_assoc (heads_bytes columns) (column_bytes last) rest)

pub titles_push : (columns : List ColumnHead) (last : ColumnHead) → titles_of (columns ++ last ∷ []) ≡ titles_of columns ++ last.name ∷ []
titles_push columns last = map-append (λ (c : ColumnHead). c.name) columns (last ∷ [])

-- no head was read
pub heads_start : (bytes : List ℕ) → 32 ≤ length bytes → AreHeads bytes [] 32
heads_start bytes le = record {
  spelled = refl;
  within = le;
  each = λ c column e. absurd cc;
  differ = refl;
  rows = refl;
  version = or_right (version_in bytes == 2) true refl;
}

-- one more was read
pub heads_step : (bytes : List ℕ) (columns : List ColumnHead) (place : ℕ) (last : ColumnHead) (end : ℕ) → AreBytes bytes → AreHeads bytes columns place → IsColumnAt bytes (titles_of columns) place last end
    → AreHeads bytes (columns ++ last ∷ []) end
heads_step bytes columns place last end fits heads c =
    let titles = titles_of columns in
    let good = is_good bytes titles place last end fits c in
    let checks = passed-append (fields_checks bytes titles place) (names_checks (count_at bytes place) bytes None (dictionary_at bytes place)) c.passed in
    let h = has_fields bytes titles place checks.0 in
    let new : is_new titles last.name ≡ true = rw c.name h.new in
    record {
      spelled = heads.spelled ∙ ap (λ (t : List ℕ). heads_bytes columns ++ t) (column_front bytes titles place last end fits c) ∙ sym (heads_push columns last (drop end bytes));
      within = c.within;
      each = each_push columns last heads.each good.spelled;
      differ = rw (titles_push columns last) (differ_push titles last.name heads.differ new);
      rows = all_push (λ (x : ColumnHead). fits_rows (rows_in bytes) x.kind x.nullable x.names) columns last heads.rows good.rows;
      version = rw (list_any-append (λ (x : ColumnHead). x.nullable) columns (last ∷ [])) (plain_push (version_in bytes == 2) (list_any (λ (x : ColumnHead). x.nullable) columns) last.nullable heads.version good.version);
    }

left : (count i : ℕ) → i < count → count - i ≡ suc (count - (i + 1))
left count i lt = omega arith

none_left : (count i : ℕ) → count ≤ i → count - i ≡ 0
none_left count i le = omega arith

one_more : (last : ColumnHead) → plane_count (last ∷ []) ≡ planes (ends_of last)
one_more last = omega arith

planes_push : (columns : List ColumnHead) (last : ColumnHead) → plane_count (columns ++ last ∷ []) ≡ plane_count columns + planes (ends_of last)
planes_push columns last = sum_by-append (λ (c : ColumnHead). planes (ends_of c)) columns (last ∷ []) ∙ ap (λ (n : ℕ). plane_count columns + n) (one_more last)

pub planes_step : (count i : ℕ) (bytes : List ℕ) (columns : List ColumnHead) (place : ℕ) (last : ColumnHead) (end : ℕ) → AreBytes bytes → i < count → IsColumnAt bytes (titles_of columns) place last end
    → plane_count (columns ++ last ∷ []) + planes_in (count - (i + 1)) bytes end ≡ plane_count columns + planes_in (count - i) bytes place
unfolding planes_in
planes_step count i bytes columns place last end fits lt c =
    let good = is_good bytes (titles_of columns) place last end fits c in
    let more : planes_in (count - i) bytes place ≡ width_at bytes place + cond (nullable_at bytes place) 1 0 + planes_in (count - (i + 1)) bytes (column_end bytes place) = rw (left count i lt) refl in
    rw (planes_push columns last, more, good.planes_are, c.end_is) (add_assoc (plane_count columns) (width_at bytes place + cond (nullable_at bytes place) 1 0) (planes_in (count - (i + 1)) bytes (column_end bytes place)))

pub checks_step : (count i : ℕ) (bytes : List ℕ) (columns : List ColumnHead) (place : ℕ) (last : ColumnHead) (end : ℕ) → i < count → IsColumnAt bytes (titles_of columns) place last end
    → first_fault (columns_checks (count - (i + 1)) bytes (titles_of (columns ++ last ∷ [])) end) ≡ first_fault (columns_checks (count - i) bytes (titles_of columns) place)
unfolding columns_checks
checks_step count i bytes columns place last end lt c =
    let titles = titles_of columns in
    let others = columns_checks (count - (i + 1)) bytes (titles ++ title_at bytes place ∷ []) (column_end bytes place) in
    let here = first_fault-append_none (column_checks bytes titles place) others c.passed in
    let first : first_fault (columns_checks (count - i) bytes titles place) ≡ first_fault others = rw (left count i lt) here in
    rw (titles_push columns last, c.name, c.end_is) (sym first)

-- the next head has a fault
pub heads_stop : (count i : ℕ) (bytes : List ℕ) (titles : List (List ℕ)) (place : ℕ) (why : FileFault) → i < count → MayFail (first_fault (column_checks bytes titles place)) why
    → MayFail (first_fault (columns_checks (count - i) bytes titles place)) why
unfolding columns_checks
heads_stop count i bytes titles place why lt (inl none) = inl none
heads_stop count i bytes titles place why lt (inr found) =
    inr (rw (left count i lt) (first_fault-append_some (column_checks bytes titles place) (columns_checks (count - (i + 1)) bytes (titles ++ title_at bytes place ∷ []) (column_end bytes place)) why found))

-- all heads were read, and bytes stand behind the last
pub bytes_left : (count i : ℕ) (bytes : List ℕ) (titles : List (List ℕ)) (place : ℕ) → count ≤ i → (place ≡ length bytes → ⊥) → first_fault (columns_checks (count - i) bytes titles place) ≡ Some (BadHead place)
unfolding columns_checks
bytes_left count i bytes titles place le ne = rw (none_left count i le, ne_eqb place (length bytes) ne) refl

-- nothing stands behind it
pub heads_end : (count i : ℕ) (bytes : List ℕ) (titles : List (List ℕ)) (place : ℕ) → count ≤ i → place ≡ length bytes → first_fault (columns_checks (count - i) bytes titles place) ≡ None
unfolding columns_checks
heads_end count i bytes titles place le e = rw (none_left count i le, eq-eqb place (length bytes) e) refl

pub planes_end : (count i : ℕ) (bytes : List ℕ) (place : ℕ) → count ≤ i → planes_in (count - i) bytes place ≡ 0
unfolding planes_in
planes_end count i bytes place le = rw (none_left count i le) refl
