-- What is typed of a written value beside a number of a column.
use Rattle.std.proofs.Common.{◌≡◌, ℕ, ◌-◌, ◌^◌, ◌≤◌, ◌*ℤ◌, ℤ, pos, negsuc, List, Option, Some, None, refl, subst, IsTrue, slice_get}
use Rattle.std.proofs.lemmas.Option.{same_Some, none-some}
use Rattle.std.specs.Prelude.{nat_lt}
use Rattle.std.specs.Option.{option_map}
use Rattle.std.specs.declared.cmp.Ordering.{Ordering}
use Rattle.std.specs.Ordering.{int_cmp, nat_cmp}
use Rattle.std.specs.Cmp.Lexicographic.{slice_cmp}
use Rattle.daq_table.specs.CellTexts.{date_value}
use Rattle.daq_table.specs.ColumnFacts.{is_ascending}
use Rattle.daq_table.specs.declared.head.Kind.{Kind}
use Rattle.daq_table.specs.declared.head.Kind.TheVariants as kinds
use Rattle.sql_text.specs.declared.tree.Num.{Num}
use Rattle.sql_text.specs.Tree as tree
use Rattle.sql_text.specs.Tree.{Name, Operand, Numeric, Str}
use Rattle.sql_typing.specs.Faults.{is_too_fine, value_fault}
use Rattle.sql_typing.specs.Kinds.{most_scale, scale_of_kind}
use Rattle.sql_typing.specs.Typing.{compared, high_end, low_end, member, spot_of}
use Rattle.sql_typing.proofs.Comparisons.{at_most, or_left}
use Rattle.sql_typing.proofs.Firsts.{none_later, not_if}
use Rattle.sql_meaning.specs.Values.{Value, Number, Day, Text, compare}
use Rattle.sql_meaning.specs.Conditions.{beside}
use Rattle.sql_meaning.specs.Rows.{text_at, value_in}
use Rattle.sql_meaning.proofs.Powers.{at_scale}
use Rattle.sql_meaning.proofs.Spots.{IsPlaced, KeepsNull, at_null, at_placed}
use Rattle.sql_meaning.proofs.Texts.{text_null, text_placed}

pub record IsWritten (kind : Kind) (names : List (List ℕ)) (v : Operand) (z : ℤ) (x : Value) : Type 0 where
  pub order : Ordering
  pub stands : compare x (beside x v) ≡ Some order
  pub placed :
      IsPlaced (λ c op. compared c op (spot_of kind names v)) (low_end (spot_of kind names v)) (high_end (spot_of kind names v))
      (member (spot_of kind names v)) z order

-- ---- numbers

few_decimals : (kind : Kind) (n : Num) → value_fault kind (Numeric n) ≡ None → n.scale ≤ scale_of_kind kind
few_decimals kind n good =
    at_most (scale_of_kind kind) n.scale
    (or_left (nat_lt (scale_of_kind kind) n.scale) (nat_lt most_scale (scale_of_kind kind)) (not_if (is_too_fine kind (Numeric n)) _ (none_later _ _ good)))

whole_written : (names : List (List ℕ)) (n : Num) (z : ℤ) → value_fault kinds.Int (Numeric n) ≡ None → IsWritten kinds.Int names (Numeric n) z (Number (record { digits = z; behind = 0 }))
whole_written names n z good = record {
  order = int_cmp (z *ℤ pos (10 ^ n.scale)) (n.units *ℤ pos (10 ^ 0));
  stands = refl;
  placed = at_placed (n.units *ℤ pos (10 ^ (0 - n.scale))) z _ (at_scale z n.units 0 n.scale (few_decimals kinds.Int n good));
}

decimal_written : (s : ℕ) (names : List (List ℕ)) (n : Num) (z : ℤ) → value_fault (kinds.Dec s) (Numeric n) ≡ None
    → IsWritten (kinds.Dec s) names (Numeric n) z (Number (record { digits = z; behind = s }))
decimal_written s names n z good = record {
  order = int_cmp (z *ℤ pos (10 ^ n.scale)) (n.units *ℤ pos (10 ^ s));
  stands = refl;
  placed = at_placed (n.units *ℤ pos (10 ^ (s - n.scale))) z _ (at_scale z n.units s n.scale (few_decimals (kinds.Dec s) n good));
}

-- ---- texts

text_written : (names : List (List ℕ)) → IsTrue (is_ascending names) → (s : Name) (k : ℕ) (o : Option (List ℕ)) (x : Value) → slice_get names k ≡ o → option_map Text o ≡ Some x
    → IsWritten kinds.Text names (Str s) (pos k) x
text_written names a s k None x get e = absurd (none-some x e)
text_written names a s k (Some name) x get e =
    subst (λ y. IsWritten kinds.Text names (Str s) (pos k) y) (same_Some (Text name) x e)
    (record { order = slice_cmp nat_cmp name s.name; stands = refl; placed = text_placed names s.name a k name get })

named_written : (names : List (List ℕ)) → IsTrue (is_ascending names) → (s : Name) (z : ℤ) (x : Value) → text_at names z ≡ Some x → IsWritten kinds.Text names (Str s) z x
named_written names a s (pos k) x e = text_written names a s k (slice_get names k) x refl e
named_written names a s (negsuc k) x e = absurd (none-some x e)

-- ---- values of each sort

day_written : (names : List (List ℕ)) (z : ℤ) (s : Name) → IsWritten kinds.Date names (tree.Day s) z (Day z)
day_written names z s = record { order = int_cmp z (date_value s.name); stands = refl; placed = at_placed (date_value s.name) z _ refl }

string_written : (names : List (List ℕ)) (z : ℤ) (s : Name) → IsWritten kinds.Date names (Str s) z (Day z)
string_written names z s = record { order = int_cmp z (date_value s.name); stands = refl; placed = at_placed (date_value s.name) z _ refl }

pub written : (kind : Kind) (names : List (List ℕ)) → IsTrue (is_ascending names) → (v : Operand) (z : ℤ) (x : Value) → value_fault kind v ≡ None → value_in kind names z ≡ Some x → IsWritten kind names v z x
written kinds.Int names a (Numeric n) z x good e = subst (λ y. IsWritten kinds.Int names (Numeric n) z y) (same_Some _ x e) (whole_written names n z good)
written kinds.Int names a (Str s) z x good e = absurd cc
written kinds.Int names a (tree.Day s) z x good e = absurd cc
written (kinds.Dec d) names a (Numeric n) z x good e = subst (λ y. IsWritten (kinds.Dec d) names (Numeric n) z y) (same_Some _ x e) (decimal_written d names n z good)
written (kinds.Dec d) names a (Str s) z x good e = absurd cc
written (kinds.Dec d) names a (tree.Day s) z x good e = absurd cc
written kinds.Date names a (Numeric n) z x good e = absurd cc
written kinds.Date names a (Str s) z x good e = subst (λ y. IsWritten kinds.Date names (Str s) z y) (same_Some _ x e) (string_written names z s)
written kinds.Date names a (tree.Day s) z x good e = subst (λ y. IsWritten kinds.Date names (tree.Day s) z y) (same_Some _ x e) (day_written names z s)
written kinds.Text names a (Numeric n) z x good e = absurd cc
written kinds.Text names a (Str s) z x good e = named_written names a s z x e
written kinds.Text names a (tree.Day s) z x good e = absurd cc

pub written_null : (kind : Kind) (names : List (List ℕ)) (v : Operand) → KeepsNull (λ c op. compared c op (spot_of kind names v))
written_null kind names (Numeric n) = at_null (n.units *ℤ pos (10 ^ (scale_of_kind kind - n.scale)))
written_null kinds.Int names (Str s) = text_null names s.name
written_null (kinds.Dec d) names (Str s) = text_null names s.name
written_null kinds.Date names (Str s) = at_null (date_value s.name)
written_null kinds.Text names (Str s) = text_null names s.name
written_null kind names (tree.Day s) = at_null (date_value s.name)
