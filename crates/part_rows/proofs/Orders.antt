-- The order of rows is a total one.
use Rattle.std.proofs.Common.{◌≡◌, Bool, true, false, refl, sym, ap, ◌∙◌, IsTrue, IsFalse, Option, Some, None}
use Rattle.std.specs.declared.cmp.Ordering.{Ordering}
use Rattle.std.specs.declared.cmp.Ordering.TheVariants.{Less, Equal, Greater}
use Rattle.std.specs.Cmp.{IsTotalOrder}
use Rattle.std.specs.Ordering.{is_gt, is_lt, ordering_reverse, ordering_then}
use Rattle.std.proofs.lemmas.Bool.{false≢true, true≢false}
use Rattle.std.proofs.lemmas.Cmp.{alike_right, back_total, int_cmp_total, nat_cmp_total, nat_list_cmp_total, on_total, then_total, tied_itself}
use Rattle.shard_groups.specs.declared.keys.KeyValue.{KeyValue}
use Rattle.shard_groups.specs.declared.keys.KeyValue.TheVariants.{Number, Text}
use Rattle.part_rows.specs.declared.row.RowName.{RowName}
use Rattle.part_rows.specs.Marks.{Mark, comes_before, key_cmp, mark_cmp, name_cmp, value_cmp}
use Rattle.part_rows.proofs.Ranks.{IsOrder}

less≢greater : Less ≡ Greater → ⊥
less≢greater e = true≢false (ap is_lt e)

less≢equal : Less ≡ Equal → ⊥
less≢equal e = true≢false (ap is_lt e)

greater≢less : Greater ≡ Less → ⊥
greater≢less e = false≢true (ap is_lt e)

greater≢equal : Greater ≡ Equal → ⊥
greater≢equal e = true≢false (ap is_gt e)

-- ---- values

value_back : (a b : KeyValue) → value_cmp a b ≡ ordering_reverse (value_cmp b a)
value_back (Number x) (Number y) = int_cmp_total.antisymm x y
value_back (Number x) (Text t) = refl
value_back (Text s) (Number y) = refl
value_back (Text s) (Text t) = nat_list_cmp_total.antisymm s t

value_chain : (a b c : KeyValue) → value_cmp a b ≡ Less → value_cmp b c ≡ Less → value_cmp a c ≡ Less
value_chain (Number x) (Number y) (Number z) p q = int_cmp_total.trans x y z p q
value_chain (Number x) (Number y) (Text u) p q = refl
value_chain (Number x) (Text t) (Number z) p q = absurd (greater≢less q)
value_chain (Number x) (Text t) (Text u) p q = refl
value_chain (Text s) (Number y) c p q = absurd (greater≢less p)
value_chain (Text s) (Text t) (Number z) p q = absurd (greater≢less q)
value_chain (Text s) (Text t) (Text u) p q = nat_list_cmp_total.trans s t u p q

value_alike : (a b c : KeyValue) → value_cmp a b ≡ Equal → value_cmp a c ≡ value_cmp b c
value_alike (Number x) (Number y) (Number z) e = int_cmp_total.congr x y z e
value_alike (Number x) (Number y) (Text u) e = refl
value_alike (Number x) (Text t) c e = absurd (less≢equal e)
value_alike (Text s) (Number y) c e = absurd (greater≢equal e)
value_alike (Text s) (Text t) (Number z) e = refl
value_alike (Text s) (Text t) (Text u) e = nat_list_cmp_total.congr s t u e

pub value_total : IsTotalOrder value_cmp
value_total = record { antisymm = value_back; trans = value_chain; congr = value_alike }

-- ---- keys

-- the order of values in that direction
abbrev directed : Bool → KeyValue → KeyValue → Ordering
directed true a b = value_cmp b a
directed false a b = value_cmp a b

directed_total : (down : Bool) → IsTotalOrder (directed down)
directed_total true = back_total value_total
directed_total false = value_total

is_directed : (down : Bool) (a b : KeyValue) → key_cmp down (Some a) (Some b) ≡ directed down a b
is_directed true a b = refl
is_directed false a b = refl

key_back : (down : Bool) (a b : Option KeyValue) → key_cmp down a b ≡ ordering_reverse (key_cmp down b a)
key_back down None None = refl
key_back down None (Some b) = refl
key_back down (Some a) None = refl
key_back down (Some a) (Some b) =
    is_directed down a b ∙ (directed_total down).antisymm a b ∙ ap ordering_reverse (sym (is_directed down b a))

key_chain : (down : Bool) (a b c : Option KeyValue) → key_cmp down a b ≡ Less → key_cmp down b c ≡ Less → key_cmp down a c ≡ Less
key_chain down None None c p q = absurd (less≢equal (sym p))
key_chain down None (Some b) c p q = absurd (greater≢less p)
key_chain down (Some a) None None p q = absurd (less≢equal (sym q))
key_chain down (Some a) None (Some c) p q = absurd (greater≢less q)
key_chain down (Some a) (Some b) None p q = refl
key_chain down (Some a) (Some b) (Some c) p q =
    is_directed down a c ∙ (directed_total down).trans a b c (sym (is_directed down a b) ∙ p) (sym (is_directed down b c) ∙ q)

key_alike : (down : Bool) (a b c : Option KeyValue) → key_cmp down a b ≡ Equal → key_cmp down a c ≡ key_cmp down b c
key_alike down None None c e = refl
key_alike down None (Some b) c e = absurd (greater≢equal e)
key_alike down (Some a) None c e = absurd (less≢equal e)
key_alike down (Some a) (Some b) None e = refl
key_alike down (Some a) (Some b) (Some c) e =
    is_directed down a c ∙ (directed_total down).congr a b c (sym (is_directed down a b) ∙ e) ∙ sym (is_directed down b c)

pub key_total : (down : Bool) → IsTotalOrder (key_cmp down)
key_total down = record { antisymm = key_back down; trans = key_chain down; congr = key_alike down }

-- ---- rows

pub name_total : IsTotalOrder name_cmp
name_total =
    then_total (then_total (on_total (λ n. n.part) nat_cmp_total) (on_total (λ n. n.tag) nat_list_cmp_total))
    (on_total (λ n. n.number) nat_cmp_total)

pub mark_total : (down : Bool) → IsTotalOrder (mark_cmp down)
mark_total down = then_total (on_total (λ m. m.key) (key_total down)) (on_total (λ m. m.name) name_total)

pub less : (o : Ordering) → IsTrue (is_lt o) → o ≡ Less
less Less t = refl
less Equal t = absurd (false≢true t)
less Greater t = absurd (false≢true t)

pub is_order : (down : Bool) → IsOrder (comes_before down)
is_order down =
    record {
      irreflexive = λ x. ap is_lt (tied_itself (mark_total down) x);
      chain = λ x y z p q. ap is_lt ((mark_total down).trans x y z (less (mark_cmp down x y) p) (less (mark_cmp down y z) q));
    }

-- ---- what is not behind

behind_less : {K : Type 0} {R : K → K → Ordering} → IsTotalOrder R → (a b c : K) (o : Ordering) → R a b ≡ o → is_gt o ≡ false →
    R b c ≡ Less → R a c ≡ Less
behind_less r a b c Less e f l = r.trans a b c e l
behind_less r a b c Equal e f l = r.congr a b c e ∙ l
behind_less r a b c Greater e f l = absurd (false≢true (sym f))

less_behind : {K : Type 0} {R : K → K → Ordering} → IsTotalOrder R → (a b c : K) (o : Ordering) → R b c ≡ o → R a b ≡ Less →
    is_gt o ≡ false → R a c ≡ Less
less_behind r a b c Less e l f = r.trans a b c l e
less_behind r a b c Equal e l f = sym (alike_right r b c a e) ∙ l
less_behind r a b c Greater e l f = absurd (false≢true (sym f))

-- a is not behind b
abbrev pub IsUpTo : Bool → Mark → Mark → Type 0
IsUpTo down a b = IsFalse (is_gt (mark_cmp down a b))

pub up_to_before : (down : Bool) (a b c : Mark) → IsUpTo down a b → IsTrue (comes_before down b c) → IsTrue (comes_before down a c)
up_to_before down a b c f t =
    ap is_lt (behind_less (mark_total down) a b c (mark_cmp down a b) refl f (less (mark_cmp down b c) t))

pub before_up_to : (down : Bool) (a b c : Mark) → IsTrue (comes_before down a b) → IsUpTo down b c → IsTrue (comes_before down a c)
before_up_to down a b c t f =
    ap is_lt (less_behind (mark_total down) a b c (mark_cmp down b c) refl (less (mark_cmp down a b) t) f)

-- of one name it goes by the keys
then_tied : (o p : Ordering) → is_gt o ≡ false → p ≡ Equal → is_gt (ordering_then o p) ≡ false
then_tied Less p f e = refl
then_tied Equal p f e = ap is_gt e
then_tied Greater p f e = f

pub up_to_by_key : (down : Bool) (a b : Option KeyValue) (n m : RowName) → n ≡ m → is_gt (key_cmp down a b) ≡ false →
    IsUpTo down (record { key = a; name = n }) (record { key = b; name = m })
up_to_by_key down a b n m e f =
    then_tied (key_cmp down a b) (name_cmp n m) f (ap (λ k. name_cmp n k) (sym e) ∙ tied_itself name_total n)
