-- Lines that each have a key, and do not meet, stand in one order.
use Rattle.std.proofs.Common.{◌≡◌, ℕ, suc, Bool, true, false, not, ◌&&◌, ◌||◌, List, [], ◌∷◌, length, map, refl, arith, sym, ap, ◌∙◌, subst, inl, inr, ◌⊎◌, IsTrue, IsFalse, Option, Some, None}
use Rattle.std.proofs.lemmas.Bool.{and_from, and_parts, both_ways, false≢true, false_from_ne_true, not-true, not_from_false, or_cases, or_left, or_parts, or_right, true_from_ne_false}
use Rattle.std.proofs.lemmas.Cmp.{nat_list_cmp_total}
use Rattle.std.proofs.lemmas.Int.{ints}
use Rattle.std.proofs.lemmas.Map.Text.{is_eq-slice_cmp}
use Rattle.std.proofs.lemmas.Slice.Eq.{bytes_eq-Decides}
use Rattle.std.specs.Cmp.Lexicographic.{slice_cmp}
use Rattle.std.specs.Ordering.{is_eq, is_le, nat_cmp, ordering_reverse}
use Rattle.std.specs.declared.cmp.Ordering.{Ordering}
use Rattle.std.specs.declared.cmp.Ordering.TheVariants.{Less, Equal, Greater}
use Rattle.shard_groups.specs.declared.keys.Ends.{Ends}
use Rattle.shard_groups.specs.declared.keys.KeyValue.{KeyValue}
use Rattle.shard_groups.specs.declared.keys.KeyValue.TheVariants.{Number, Text}
use Rattle.shard_groups.specs.declared.keys.Relation.TheVariants.{Meet, Within}
use Rattle.shard_groups.specs.declared.keys.Span.{Span}
use Rattle.shard_groups.specs.Found.{CombinedIsFound, HaveKeys, Line, LinesAreFound, line_of, line_over, lines_of, lines_over}
use Rattle.query_model.specs.declared.query.ItemKind.{ItemKind}
use Rattle.shard_groups.specs.declared.cells.Cell.{Cell}
use Rattle.shard_groups.specs.Groups.{AreLinesOver, Said, all_keys, is_present, keys_in, said_of}
use Rattle.shard_groups.specs.Keys.{Key, allows, at_most, comes_before, ends_meet, ends_within, first_of, first_part, holds, is_within, meets, part_before, related_spans}
use Rattle.shard_groups.specs.Laws.{IsOneOf}
use Rattle.shard_groups.specs.Lines.{AreApart, AreCovered, AreUsed, IsApart, IsAscending, IsCovered, IsUsed}
use Rattle.shard_groups.proofs.Ascending.{after, ordered_ascends, part_after}
use Rattle.shard_groups.proofs.Found.{lines_over_are}
use Rattle.shard_groups.proofs.LineSets.{meets_not}
use Rattle.shard_groups.proofs.Spans.{holds_both, meets_both, within_chain, within_itself}
use Rattle.shard_groups.proofs.ValueOrder.{follows, itself}

-- ---- values

-- texts of which neither comes behind the other are one
text_by : (o p : Ordering) → o ≡ ordering_reverse p → IsTrue (is_le o) → IsTrue (is_le p) → IsTrue (is_eq o)
text_by Less Less e t s = absurd (false≢true (sym (ap is_le e)))
text_by Less Equal e t s = absurd (false≢true (ap is_eq e))
text_by Less Greater e t s = absurd (false≢true s)
text_by Equal p e t s = refl
text_by Greater p e t s = absurd (false≢true t)

one_value : (x y : KeyValue) → IsTrue (at_most x y) → IsTrue (at_most y x) → x ≡ y
one_value (Number x) (Number y) p q = let e : x ≡ y = omega (arith, ints) in ap (λ n. Number n) e
one_value (Number x) (Text t) p q = absurd (false≢true q)
one_value (Text s) (Number y) p q = absurd (false≢true p)
one_value (Text s) (Text t) p q =
    let o = slice_cmp nat_cmp s t in
    ap (λ n. Text n) ((bytes_eq-Decides s t).0 (sym (is_eq-slice_cmp s t) ∙ text_by o (slice_cmp nat_cmp t s) (nat_list_cmp_total.antisymm s t) p q))

-- ---- parts of keys

part_tie : (x y : Option KeyValue) → IsFalse (part_before x y) → IsFalse (part_before y x) → x ≡ y
part_tie None None f g = refl
part_tie None (Some y) f g = absurd (false≢true (sym f))
part_tie (Some x) None f g = absurd (false≢true (sym g))
part_tie (Some x) (Some y) f g =
    ap (λ v. Some v) (one_value x y (true_from_ne_false (at_most x y) (λ e. both_ways (not (at_most x y)) g (not_from_false (at_most x y) e)))
    (true_from_ne_false (at_most y x) (λ e. both_ways (not (at_most y x)) f (not_from_false (at_most y x) e))))

at_most_of : (x y : KeyValue) → IsFalse (not (at_most y x)) → IsTrue (at_most y x)
at_most_of x y f = true_from_ne_false (at_most y x) (λ e. both_ways (not (at_most y x)) f (not_from_false (at_most y x) e))

-- a part before one that does not come behind the next
part_upto : (x y z : Option KeyValue) → IsTrue (part_before x y) → IsFalse (part_before z y) → IsTrue (part_before x z)
part_upto None None z t f = absurd (false≢true t)
part_upto None (Some y) None t f = absurd (false≢true (sym f))
part_upto None (Some y) (Some z) t f = refl
part_upto (Some x) None z t f = absurd (false≢true t)
part_upto (Some x) (Some y) None t f = absurd (false≢true (sym f))
part_upto (Some x) (Some y) (Some z) t f =
    not_from_false (at_most z x) (false_from_ne_true (at_most z x) (λ h. both_ways (at_most y x) (not-true (at_most y x) t) (follows y z x (at_most_of z y f) h)))

-- a part that does not come behind one before the next
part_from : (x y z : Option KeyValue) → IsFalse (part_before y x) → IsTrue (part_before y z) → IsTrue (part_before x z)
part_from None y None f t = absurd (by y f t)
  where
    by : (y : Option KeyValue) → IsFalse (part_before y None) → IsTrue (part_before y None) → ⊥
    by y f t = both_ways (part_before y None) f t
part_from None y (Some z) f t = refl
part_from (Some x) None z f t = absurd (false≢true (sym f))
part_from (Some x) (Some y) None f t = absurd (false≢true t)
part_from (Some x) (Some y) (Some z) f t =
    not_from_false (at_most z x) (false_from_ne_true (at_most z x) (λ h. both_ways (at_most z y) (not-true (at_most z y) t) (follows z x y h (at_most_of y x f))))

part_behind : (x y z : Option KeyValue) → IsFalse (part_before y x) → IsFalse (part_before z y) → IsFalse (part_before z x)
part_behind x y z f g =
    false_from_ne_true (part_before z x) (λ t. both_ways (part_before y x) f (part_from y z x g t))

-- ---- keys

before_parts : (p q r : Bool) → IsTrue (p || (not q && r)) → (IsTrue p) ⊎ ((IsFalse q) × (IsTrue r))
before_parts p q r t = elim (or_cases p (not q && r) t) [
  | inl h ↦ inl h
  | inr h ↦ (let e = and_parts (not q) r h in inr (not-true q e.0, e.1))
]

before_from : (p q r : Bool) → IsFalse q → IsTrue r → IsTrue (p || (not q && r))
before_from p q r f t = or_right p (not q && r) (and_from (not q) r (not_from_false q f) t)

pub before_chain : (a b c : List Span) → IsTrue (comes_before a b) → IsTrue (comes_before b c) → IsTrue (comes_before a c)
before_chain [] b c t s = absurd (false≢true t)
before_chain (x ∷ a) [] c t s = absurd (false≢true t)
before_chain (x ∷ a) (y ∷ b) [] t s = absurd (false≢true s)
before_chain (x ∷ a) (y ∷ b) (z ∷ c) t s =
    let p = first_part x in
    let q = first_part y in
    let r = first_part z in
    elim (before_parts (part_before p q) (part_before q p) (comes_before a b) t) [
      | inl h ↦ elim (before_parts (part_before q r) (part_before r q) (comes_before b c) s) [
        | inl k ↦ or_left (part_before p r) (not (part_before r p) && comes_before a c) (part_upto p q r h (part_after q r k))
        | inr k ↦ or_left (part_before p r) (not (part_before r p) && comes_before a c) (part_upto p q r h k.0)
      ]
      | inr h ↦ elim (before_parts (part_before q r) (part_before r q) (comes_before b c) s) [
        | inl k ↦ or_left (part_before p r) (not (part_before r p) && comes_before a c) (part_from p q r h.0 k)
        | inr k ↦ before_from (part_before p r) (part_before r p) (comes_before a c) (part_behind p q r h.0 k.0) (before_chain a b c h.1 k.1)
      ]
    ]

-- the first part of a span that has one is one of its own
first_allowed_by : (null : Bool) (ends : Option Ends) → IsTrue ((null && null) || ends_meet ends ends) →
    IsTrue (allows (record { null = null; ends = ends }) (first_of null ends))
first_allowed_by true ends t = refl
first_allowed_by false None t = absurd (false≢true t)
first_allowed_by false (Some e) t = and_from (at_most e.low e.low) (at_most e.low e.high) (itself e.low) (and_parts (at_most e.low e.high) (at_most e.low e.high) t).0

first_allowed : (x : Span) → IsTrue (related_spans Meet x x) → IsTrue (allows x (first_part x))
first_allowed x t = first_allowed_by x.null x.ends t

abbrev first_key : List Span → Key
first_key [] = []
first_key (x ∷ a) = first_part x ∷ first_key a

first_held : (a : List Span) → IsTrue (meets a a) → IsTrue (holds a (first_key a))
first_held [] t = refl
first_held (x ∷ a) t =
    let e = and_parts (related_spans Meet x x) (meets a a) t in
    and_from (allows x (first_part x)) (holds a (first_key a)) (first_allowed x e.0) (first_held a e.1)

-- of which neither comes before the other, these have one first key
one_first : (a b : List Span) → length a ≡ length b → IsFalse (comes_before a b) → IsFalse (comes_before b a) → first_key a ≡ first_key b
one_first [] [] n f g = refl
one_first [] (y ∷ b) n f g = absurd (omega (arith, n))
one_first (x ∷ a) [] n f g = absurd (omega (arith, n))
one_first (x ∷ a) (y ∷ b) n f g =
    let p = first_part x in
    let q = first_part y in
    let e = or_parts (part_before p q) (not (part_before q p) && comes_before a b) f in
    let h = or_parts (part_before q p) (not (part_before p q) && comes_before b a) g in
    let rest = one_first a b (omega (arith, n)) (behind (part_before q p) (comes_before a b) h.0 e.1) (behind (part_before p q) (comes_before b a) e.0 h.1) in
    ap (λ (v : Option KeyValue). v ∷ first_key a) (part_tie p q e.0 h.0) ∙ ap (λ (k : Key). q ∷ k) rest
  where
    behind : (t r : Bool) → IsFalse t → IsFalse (not t && r) → IsFalse r
    behind t r f g = false_from_ne_true r (λ s. both_ways (not t && r) g (and_from (not t) r (not_from_false t f) s))

ties_meet : (a b : List Span) → length a ≡ length b → IsTrue (meets a a) → IsTrue (meets b b) → IsFalse (comes_before a b) → IsFalse (comes_before b a) →
    IsTrue (meets a b)
ties_meet a b n s t f g =
    holds_both a b (first_key b) (subst (λ (k : Key). IsTrue (holds a k)) (one_first a b n f g) (first_held a s)) (first_held b t)

-- ---- sets of keys that lie in each other are one

one_ends : (a b : Option Ends) → IsTrue (ends_within a b) → IsTrue (ends_within b a) → a ≡ b
one_ends None None p q = refl
one_ends None (Some b) p q = absurd (false≢true q)
one_ends (Some a) None p q = absurd (false≢true p)
one_ends (Some a) (Some b) p q =
    let e = and_parts (at_most b.low a.low) (at_most a.high b.high) p in
    let f = and_parts (at_most a.low b.low) (at_most b.high a.high) q in
    ap (λ (v : KeyValue). Some (record { low = v; high = a.high })) (one_value a.low b.low f.0 e.0)
    ∙ ap (λ (v : KeyValue). Some (record { low = b.low; high = v })) (one_value a.high b.high e.1 f.1)

one_null : (a b : Bool) → IsTrue (not a || b) → IsTrue (not b || a) → a ≡ b
one_null true true p q = refl
one_null true false p q = absurd (false≢true p)
one_null false true p q = absurd (false≢true q)
one_null false false p q = refl

one_span : (a b : Span) → IsTrue (related_spans Within a b) → IsTrue (related_spans Within b a) → a ≡ b
one_span a b p q =
    let e = and_parts (not a.null || b.null) (ends_within a.ends b.ends) p in
    let f = and_parts (not b.null || a.null) (ends_within b.ends a.ends) q in
    let n : a.null ≡ b.null = one_null a.null b.null e.0 f.0 in
    let m : a.ends ≡ b.ends = one_ends a.ends b.ends e.1 f.1 in
    ap (λ (t : Bool). record { ends = a.ends; null = t }) n ∙ ap (λ (o : Option Ends). record { ends = o; null = b.null }) m

pub one_set : (a b : List Span) → IsTrue (is_within a b) → IsTrue (is_within b a) → a ≡ b
one_set [] [] p q = refl
one_set [] (y ∷ b) p q = absurd (false≢true p)
one_set (x ∷ a) [] p q = absurd (false≢true p)
one_set (x ∷ a) (y ∷ b) p q =
    let e = and_parts (related_spans Within x y) (is_within a b) p in
    let f = and_parts (related_spans Within y x) (is_within b a) q in
    ap (λ (s : Span). s ∷ a) (one_span x y e.0 f.0) ∙ ap (λ (l : List Span). y ∷ l) (one_set a b e.1 f.1)

-- ---- lines of the same cells are the same

within_length : (a b : List Span) → IsTrue (is_within a b) → length a ≡ length b
within_length [] [] p = refl
within_length [] (y ∷ b) p = absurd (false≢true p)
within_length (x ∷ a) [] p = absurd (false≢true p)
within_length (x ∷ a) (y ∷ b) p = ap suc (within_length a b (and_parts (related_spans Within x y) (is_within a b) p).1)

key_used : (columns : ℕ) (line : List Span) (cells : List (List Span)) → HaveKeys columns cells → IsUsed line cells →
    (length line ≡ columns) × IsTrue (meets line line)
key_used columns line [] keys h = absurd h
key_used columns line (c ∷ cells) keys (inl w) = (sym (within_length c line w) ∙ keys.0, meets_both c c line line w w keys.1)
key_used columns line (c ∷ cells) keys (inr h) = key_used columns line cells keys.2 h

keys_used : (columns : ℕ) (lines cells : List (List Span)) → HaveKeys columns cells → AreUsed lines cells → HaveKeys columns lines
keys_used columns [] cells keys h = tt
keys_used columns (line ∷ lines) cells keys h =
    let own = key_used columns line cells keys h.0 in
    (own.0, own.1, keys_used columns lines cells keys h.1)

own_key : (columns : ℕ) (line : List Span) (lines : List (List Span)) → HaveKeys columns lines → IsOneOf line lines →
    (length line ≡ columns) × IsTrue (meets line line)
own_key columns line [] keys one = absurd one
own_key columns line (l ∷ lines) keys (inl e) =
    subst (λ (x : List Span). (length x ≡ columns) × IsTrue (meets x x)) (sym e) (keys.0, keys.1)
own_key columns line (l ∷ lines) keys (inr one) = own_key columns line lines keys.2 one

apart_from : (line x : List Span) (lines : List (List Span)) → IsApart line lines → IsOneOf x lines → IsFalse (meets line x)
apart_from line x [] apart one = absurd one
apart_from line x (l ∷ lines) apart (inl e) = subst (λ (y : List Span). IsFalse (meets line y)) (sym e) apart.0
apart_from line x (l ∷ lines) apart (inr one) = apart_from line x lines apart.1 one

same_line : (x y : List Span) (lines : List (List Span)) → AreApart lines → IsOneOf x lines → IsOneOf y lines → IsTrue (meets x y) → x ≡ y
same_line x y [] apart one two m = absurd one
same_line x y (l ∷ lines) apart (inl e) (inl f) m = e ∙ sym f
same_line x y (l ∷ lines) apart (inl e) (inr two) m =
    absurd (both_ways (meets x y) (subst (λ (z : List Span). IsFalse (meets z y)) (sym e) (apart_from l y lines apart.0 two)) m)
same_line x y (l ∷ lines) apart (inr one) (inl f) m =
    absurd (both_ways (meets x y) (meets_not y x (subst (λ (z : List Span). IsFalse (meets z x)) (sym f) (apart_from l x lines apart.0 one))) m)
same_line x y (l ∷ lines) apart (inr one) (inr two) m = same_line x y lines apart.1 one two m

-- a line in which a set of keys lies
pub record IsAround (x : List Span) (lines : List (List Span)) : Type 0 where
  pub line : List Span
  pub one : IsOneOf line lines
  pub within : IsTrue (is_within x line)

around : (x : List Span) (lines : List (List Span)) → IsCovered x lines → IsAround x lines
around x [] h = absurd h
around x (l ∷ lines) (inl w) = record { line = l; one = inl refl; within = w }
around x (l ∷ lines) (inr h) = let r = around x lines h in record { line = r.line; one = inr r.one; within = r.within }

covered_at : (x : List Span) (lines others : List (List Span)) → AreCovered lines others → IsOneOf x lines → IsCovered x others
covered_at x [] others h one = absurd one
covered_at x (l ∷ lines) others h (inl e) = subst (λ (y : List Span). IsCovered y others) (sym e) h.0
covered_at x (l ∷ lines) others h (inr one) = covered_at x lines others h.1 one

is_other : (columns : ℕ) (lines others : List (List Span)) → HaveKeys columns lines → AreApart lines → AreCovered lines others → AreCovered others lines →
    (x : List Span) → IsOneOf x lines → IsOneOf x others
is_other columns lines others keys apart h k x one =
    let out = around x others (covered_at x lines others h one) in
    let back = around out.line lines (covered_at out.line others lines k out.one) in
    let own = own_key columns x lines keys one in
    let m : IsTrue (meets x back.line) = meets_both x x x back.line (within_itself x) (within_chain x out.line back.line out.within back.within) own.1 in
    let same : x ≡ back.line = same_line x back.line lines apart one back.one m in
    let e : x ≡ out.line = one_set x out.line out.within (subst (λ (y : List Span). IsTrue (is_within out.line y)) (sym same) back.within) in
    subst (λ (y : List Span). IsOneOf y others) (sym e) out.one

-- ---- in one order

abbrev AllBehind : List Span → List (List Span) → Type 0
AllBehind x lines = (y : List Span) → IsOneOf y lines → IsTrue (comes_before x y)

comes_next : (columns : ℕ) (line next : List Span) (lines : List (List Span)) → HaveKeys columns (line ∷ next ∷ lines) → IsApart line (next ∷ lines) →
    IsFalse (comes_before next line) → IsTrue (comes_before line next)
comes_next columns line next lines keys apart f =
    true_from_ne_false (comes_before line next) (λ g. both_ways (meets line next) apart.0
    (ties_meet line next (keys.0 ∙ sym keys.2.0) keys.1 keys.2.1 g f))

all_behind : (columns : ℕ) (x : List Span) (lines : List (List Span)) → HaveKeys columns (x ∷ lines) → AreApart (x ∷ lines) → IsAscending (x ∷ lines) →
    AllBehind x lines
all_behind columns x [] keys apart was y one = absurd one
all_behind columns x (next ∷ lines) keys apart was y (inl e) =
    subst (λ (z : List Span). IsTrue (comes_before x z)) (sym e) (comes_next columns x next lines keys apart.0 was.0)
all_behind columns x (next ∷ lines) keys apart was y (inr one) =
    before_chain x next y (comes_next columns x next lines keys apart.0 was.0) (all_behind columns next lines keys.2 apart.1 was.1 y one)

rest_ascends : (m : List Span) (ms : List (List Span)) → IsAscending (m ∷ ms) → IsAscending ms
rest_ascends m [] was = tt
rest_ascends m (other ∷ others) was = was.1

heads_are_one : (x y : List Span) (xs ys : List (List Span)) → AllBehind x xs → AllBehind y ys → IsOneOf x (y ∷ ys) → IsOneOf y (x ∷ xs) → x ≡ y
heads_are_one x y xs ys b c (inl e) two = e
heads_are_one x y xs ys b c (inr one) (inl f) = sym f
heads_are_one x y xs ys b c (inr one) (inr two) = absurd (both_ways (comes_before x y) (after y x (c x one)) (b y two))

tail_one : (x z : List Span) (xs ys : List (List Span)) → AllBehind x xs → IsOneOf z xs → IsOneOf z (x ∷ ys) → IsOneOf z ys
tail_one x z xs ys b one (inl e) =
    let t : IsTrue (comes_before x x) = subst (λ (w : List Span). IsTrue (comes_before x w)) e (b z one) in
    absurd (both_ways (comes_before x x) (after x x t) t)
tail_one x z xs ys b one (inr two) = two

one_list : (columns : ℕ) (xs ys : List (List Span)) → HaveKeys columns xs → HaveKeys columns ys → AreApart xs → AreApart ys → IsAscending xs → IsAscending ys →
    ((z : List Span) → IsOneOf z xs → IsOneOf z ys) → ((z : List Span) → IsOneOf z ys → IsOneOf z xs) → xs ≡ ys
one_list columns [] [] k l a b s t there back = refl
one_list columns [] (y ∷ ys) k l a b s t there back = absurd (back y (inl refl))
one_list columns (x ∷ xs) [] k l a b s t there back = absurd (there x (inl refl))
one_list columns (x ∷ xs) (y ∷ ys) k l a b s t there back =
    let mine = all_behind columns x xs k a s in
    let other = all_behind columns y ys l b t in
    let e : x ≡ y = heads_are_one x y xs ys mine other (there x (inl refl)) (back y (inl refl)) in
    let rest : xs ≡ ys = one_list columns xs ys k.2 l.2 a.1 b.1 (rest_ascends x xs s) (rest_ascends y ys t)
    (λ z one. tail_one x z xs ys mine one (subst (λ (w : List Span). IsOneOf z (w ∷ ys)) (sym e) (there z (inr one))))
    (λ z one. tail_one y z ys xs other one (subst (λ (w : List Span). IsOneOf z (w ∷ xs)) e (back z (inr one)))) in
    ap (λ (w : List Span). w ∷ xs) e ∙ ap (λ (ws : List (List Span)). y ∷ ws) rest

pub lines_are_found : LinesAreFound
lines_are_found columns cells = record {
  are_lines = lines_over_are cells;
  ascending = ordered_ascends (lines_of cells);
  alone = λ keys lines are was.
      let own = lines_over_are cells in
      let others = lines_over cells in
      let k = keys_used columns lines cells keys are.used in
      let l = keys_used columns others cells keys own.used in
      let there = are.narrowest others own.apart own.covered in
      let back = own.narrowest lines are.apart are.covered in
      one_list columns lines others k l are.apart own.apart was (ordered_ascends (lines_of cells))
      (is_other columns lines others k are.apart there back) (is_other columns others lines l own.apart back there);
}

-- ---- what the lines say

says : (kinds : List ItemKind) (shards : List (List Cell)) (cells : List Cell) → AreLinesOver kinds shards cells →
    map line_of cells ≡ map (line_over kinds shards) (keys_in cells)
says kinds shards [] h = refl
says kinds shards (cell ∷ cells) h =
    let own : line_of cell ≡ line_over kinds shards cell.keys =
    ap (λ (t : Bool). record { keys = cell.keys; present = t; said = map said_of cell.items }) h.0.present
    ∙ ap (λ (s : List Said). record { keys = cell.keys; present = is_present cell.keys shards; said = s }) h.0.items in
    ap (λ (l : Line). l ∷ map line_of cells) own
    ∙ ap (λ (ls : List Line). line_over kinds shards cell.keys ∷ ls) (says kinds shards cells h.1)

pub combined_is_found : CombinedIsFound
combined_is_found columns kinds shards cells keys is =
    says kinds shards cells is.each
    ∙ ap (λ (ls : List (List Span)). map (line_over kinds shards) ls)
    ((lines_are_found columns (all_keys shards)).alone keys (keys_in cells) is.lines is.ascending)
