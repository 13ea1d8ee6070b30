-- The names of a dictionary, read from where they are spelled.
use Rattle.std.proofs.Common.{◌≡◌, ℕ, suc, ◌+◌, ◌≤◌, Bool, true, Option, Some, None, List, [], ◌∷◌, ◌++◌, length, drop, refl, sym, ◌∙◌, arith, append_assoc, nat_le}
use Rattle.std.proofs.lemmas.Bool.{and_parts}
use Rattle.std.specs.Cmp.Lexicographic.{slice_cmp}
use Rattle.std.specs.List.{flat_map, list_all}
use Rattle.std.specs.Ordering.{is_lt, nat_cmp}
use Rattle.std.specs.Str.{is_utf8}
use Rattle.daq_table.specs.ColumnFacts.{is_ascending}
use Rattle.plane_file.proofs.BackBytes.{behind, byte_back, part_back, reaches_part, reaches_true}
use Rattle.plane_file.specs.Checks.{byte_at, first_fault, is_name, is_next, name_at, names_at, names_checks, names_end}
use Rattle.plane_file.specs.Format.{counted, is_short_text}

-- a name that is spelled at a place
record IsSpelled (bytes name rest : List ℕ) (at : ℕ) : Type 0 where
  long : byte_at bytes at ≡ length name
  name_is : name_at bytes at ≡ name
  within : at + 1 + length name ≤ length bytes
  next : drop (at + 1 + byte_at bytes at) bytes ≡ rest

is_spelled : (bytes name rest : List ℕ) (at : ℕ) → drop at bytes ≡ counted name ++ rest → IsSpelled bytes name rest at
is_spelled bytes name rest at e =
    let long = byte_back bytes (length name) (name ++ rest) at e in
    let text = behind bytes (length name ∷ []) (name ++ rest) at 1 (at + 1) e refl refl in
    let all = reaches_part bytes (counted name) rest at (suc (length name)) e (omega arith) (omega arith) in
    record {
      long = long;
      name_is = part_back bytes name rest (at + 1) (byte_at bytes at) text (sym long);
      within = omega (arith, all);
      next = behind bytes name rest (at + 1) (length name) (at + 1 + byte_at bytes at) text refl (omega (arith, long));
    }

-- the first of these names comes after the one before it
abbrev pub may_follow : List ℕ → Option ℕ → List (List ℕ) → Bool
may_follow bytes before [] = true
may_follow bytes before (name ∷ names) = is_next bytes before name

-- the spelled names of a dictionary
pub record AreSpelled (names : List (List ℕ)) (bytes rest : List ℕ) (before : Option ℕ) (at : ℕ) : Type 0 where
  pub names_are : names_at (length names) bytes at ≡ names
  pub passed : first_fault (names_checks (length names) bytes before at) ≡ None
  pub next : drop (names_end (length names) bytes at) bytes ≡ rest

regroup : (name : List ℕ) (names : List (List ℕ)) (rest : List ℕ) → flat_map counted (name ∷ names) ++ rest ≡ counted name ++ (flat_map counted names ++ rest)
regroup name names rest = append_assoc (counted name) (flat_map counted names) rest

follow : (bytes name : List ℕ) (names : List (List ℕ)) (at : ℕ) → name_at bytes at ≡ name → is_ascending (name ∷ names) ≡ true → may_follow bytes (Some at) names ≡ true
follow bytes name [] at e h = refl
follow bytes name (next ∷ names) at e h = rw e (and_parts (is_lt (slice_cmp nat_cmp name next)) (is_ascending (next ∷ names)) h).0

ascend : (name : List ℕ) (names : List (List ℕ)) → is_ascending (name ∷ names) ≡ true → is_ascending names ≡ true
ascend name [] h = refl
ascend name (next ∷ names) h = (and_parts (is_lt (slice_cmp nat_cmp name next)) (is_ascending (next ∷ names)) h).1

name_passes : (bytes name rest : List ℕ) (before : Option ℕ) (at : ℕ) → IsSpelled bytes name rest at → is_utf8 name ≡ true → is_next bytes before name ≡ true → is_name bytes before at ≡ true
unfolding is_name
name_passes bytes name rest before at s utf8 next =
    let one = reaches_true bytes at 1 (omega (arith, s.within)) in
    let all = reaches_true bytes (at + 1) (byte_at bytes at) (omega (arith, s.within, s.long)) in
    rw (s.name_is, one, all, utf8, next) refl

pub are_spelled : (names : List (List ℕ)) (bytes rest : List ℕ) (before : Option ℕ) (at : ℕ) → drop at bytes ≡ flat_map counted names ++ rest → list_all is_short_text names ≡ true → is_ascending names ≡ true
    → may_follow bytes before names ≡ true → AreSpelled names bytes rest before at
unfolding names_at names_checks names_end
are_spelled [] bytes rest before at e short ascending first = record { names_are = refl; passed = refl; next = e }
are_spelled (name ∷ names) bytes rest before at e short ascending first =
    let all = and_parts (is_short_text name) (list_all is_short_text names) short in
    let utf8 = (and_parts (nat_le (length name) 255) (is_utf8 name) all.0).1 in
    let here = is_spelled bytes name (flat_map counted names ++ rest) at (e ∙ regroup name names rest) in
    let others = are_spelled names bytes rest (Some at) (at + 1 + byte_at bytes at) here.next all.1 (ascend name names ascending) (follow bytes name names at here.name_is ascending) in
    let test = name_passes bytes name (flat_map counted names ++ rest) before at here utf8 first in
    record {
      names_are = rw (here.name_is, others.names_are) refl;
      passed = rw test others.passed;
      next = others.next;
    }
