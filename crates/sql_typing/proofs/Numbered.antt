-- The numbers of the columns of a query.
use Rattle.std.proofs.Common.{◌≡◌, ◌≢◌, ℕ, suc, ◌+◌, ◌<◌, ◌≤◌, ◌==◌, cond, Bool, true, false, List, [], ◌∷◌, length, map, get_or, Option, Some, None, IfSome, unwrap_or, inl, inr, refl, sym, ap, arith}
use Rattle.std.proofs.lemmas.Bool.{cases_eq}
use Rattle.std.specs.Prelude.{nat_lt, slice_index_or}
use Rattle.std.specs.List.{AllByRecursion, position, position_or_len}
use Rattle.daq_table.specs.declared.head.ColumnHead.{ColumnHead}
use Rattle.daq_table.specs.declared.head.Kind.{Kind}
use Rattle.daq_table.specs.declared.head.Kind.TheVariants.{Int}
use Rattle.query_model.specs.Answers.{groups_of}
use Rattle.sql_text.specs.Tree.{Name, Ending, Nothing, Grouped, Ordered}
use Rattle.sql_typing.specs.Faults.{first_in, name_fault, unknown_at}
use Rattle.sql_typing.specs.Names.{columns_named, kind_at, kind_of, mention, mentions, number_at, number_of, place_of}
use Rattle.sql_typing.specs.Typing.{group_columns, typed_ending}
use Rattle.sql_typing.proofs.Alls.{all_both, all_mapped, all_of, all_over}
use Rattle.sql_typing.proofs.Distinct.{AreDistinct, IsAmong, after_all, after_distinct, all_seen, few_distinct, seen_all, seen_distinct}
use Rattle.sql_typing.proofs.Firsts.{none_first, none_later}
use Rattle.sql_typing.proofs.Comparisons.{below, is_below, number_same, other_number}

found_below : (b : Bool) (k n : ℕ) → b ≡ nat_lt k n → IfSome (cond b (Some k) None) (λ i. i < n)
found_below true k n h = below k n (sym h)
found_below false k n h = tt

position_within : {A : Type 0} (test : A → Bool) (xs : List A) → IfSome (position test xs) (λ i. i < length xs)
position_within test xs = found_below (nat_lt (position_or_len test xs) (length xs)) (position_or_len test xs) (length xs) refl

-- ---- where a number is found

found_within : (c : ℕ) (cs : List ℕ) → IsAmong c cs → position_or_len (λ i. i == c) cs < length cs
found_within c [] h = elim h [ ]
found_within c (x ∷ cs) h = elim (cases_eq x c) [
  | inl e ↦ rw (number_same x c e) (omega arith)
  | inr other ↦ let rest = found_within c cs (later x c cs other h) in rw (other_number x c other) (omega arith)
] where
  later : (x c : ℕ) (cs : List ℕ) → x ≢ c → IsAmong c (x ∷ cs) → IsAmong c cs
  later x c cs other (inl e) = absurd (other e)
  later x c cs other (inr h) = h

found_there : {A : Type 0} (f : ℕ → A) (d : A) (c : ℕ) (cs : List ℕ) → IsAmong c cs → get_or (map f cs) (position_or_len (λ i. i == c) cs) d ≡ f c
found_there f d c [] h = elim h [ ]
found_there f d c (x ∷ cs) h = elim (cases_eq x c) [
  | inl e ↦ rw (number_same x c e) (ap f e)
  | inr other ↦
      let next : 1 + position_or_len (λ i. i == c) cs ≡ suc (position_or_len (λ i. i == c) cs) = omega arith in
      rw (other_number x c other, next) (found_there f d c cs (later x c cs other h))
] where
  later : (x c : ℕ) (cs : List ℕ) → x ≢ c → IsAmong c (x ∷ cs) → IsAmong c cs
  later x c cs other (inl e) = absurd (other e)
  later x c cs other (inr h) = h

number_is : (c : ℕ) (cs : List ℕ) → IsAmong c cs → number_at cs (Some c) ≡ position_or_len (λ i. i == c) cs
number_is c cs h = rw (is_below (position_or_len (λ i. i == c) cs) (length cs) (found_within c cs h)) refl

-- ---- names

-- the kind of a column of a query, by its number
abbrev pub kind_by : List ColumnHead → List ℕ → ℕ → Kind
kind_by table columns c = slice_index_or (map (λ i. slice_index_or (map (λ h. h.kind) table) i Int) columns) c Int

-- the name has a number, which stands for the column that it names
pub record IsNumbered (table : List ColumnHead) (columns : List ℕ) (n : Name) : Type 0 where
  pub within : number_of table columns n.name < length columns
  pub kind : kind_by table columns (number_of table columns n.name) ≡ kind_of table n.name

record IsAt (table : List ColumnHead) (columns : List ℕ) (o : Option ℕ) : Type 0 where
  within : number_at columns o < length columns
  kind : kind_by table columns (number_at columns o) ≡ kind_at table o

at_some : (table : List ColumnHead) (columns : List ℕ) (at : ℕ) (o : Option ℕ) → unknown_at at o ≡ None → IfSome o (λ c. IsAmong c columns) → IsAt table columns o
at_some table columns at None h k = absurd cc
at_some table columns at (Some c) h k = record {
  within = rw (number_is c columns k) (found_within c columns k);
  kind = rw (number_is c columns k) (found_there (λ i. slice_index_or (map (λ h. h.kind) table) i Int) Int c columns k);
}

all_known : (table : List ColumnHead) (ns : List Name) → first_in (name_fault table) ns ≡ None → AllByRecursion (λ n. name_fault table n ≡ None) ns
all_known table [] h = tt
all_known table (n ∷ ns) h = (none_first _ _ h, all_known table ns (none_later _ _ h))

-- where each name is known, each has a number
pub all_numbered : (table : List ColumnHead) (ns : List Name) → first_in (name_fault table) ns ≡ None → AllByRecursion (IsNumbered table (columns_named table ns)) ns
all_numbered table ns h =
    all_both (λ n. name_fault table n ≡ None) (λ n. IfSome (place_of table n.name) (λ c. IsAmong c (columns_named table ns))) (IsNumbered table (columns_named table ns))
    (λ n known there. let at = at_some table (columns_named table ns) n.at (place_of table n.name) known there in record { within = at.within; kind = at.kind }) ns
    (all_known table ns h) (all_mapped (λ m. IfSome m.column (λ c. IsAmong c (columns_named table ns))) (mention table) ns (all_seen [] (mentions table ns)))

pub columns_in_range : (table : List ColumnHead) (ns : List Name) → AllByRecursion (λ c. c < length table) (columns_named table ns)
columns_in_range table ns = seen_all (λ c. c < length table) [] (mentions table ns) tt
    (all_over (λ m. IfSome m.column (λ c. c < length table)) (mention table) ns (all_of (λ n. IfSome (place_of table n.name) (λ c. c < length table)) (λ n. position_within _ table) ns))

pub columns_distinct : (table : List ColumnHead) (ns : List Name) → AreDistinct (columns_named table ns)
columns_distinct table ns = seen_distinct [] (mentions table ns) tt

-- ---- groups

unwrapped : (o : Option ℕ) (n : ℕ) → IfSome o (λ i. i < n) → n ≤ 16 → unwrap_or o 0 < 16
unwrapped None n h few = omega arith
unwrapped (Some i) n h few = omega arith

number_small : (columns : List ℕ) (o : Option ℕ) → length columns ≤ 16 → number_at columns o < 16
number_small columns None few = omega arith
number_small columns (Some c) few = unwrapped (position (λ i. i == c) columns) (length columns) (position_within (λ i. i == c) columns) few

pub few_groups : (table : List ColumnHead) (columns : List ℕ) (ending : Ending) → length columns ≤ 16 → length (groups_of (typed_ending table columns ending)) ≤ 16
few_groups table columns Nothing few = omega arith
few_groups table columns (Grouped ns) few = few_distinct 16 (group_columns table columns ns) (after_distinct [] (map (λ n. number_of table columns n.name) ns) tt)
    (after_all (λ c. c < 16) [] (map (λ n. number_of table columns n.name) ns) tt (all_over (λ c. c < 16) (λ n. number_of table columns n.name) ns (all_of (λ n. number_of table columns n.name < 16) (λ n. number_small columns (place_of table n.name) few) ns)))
few_groups table columns (Ordered key down limit) few = omega arith
