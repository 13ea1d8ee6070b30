-- Bounds may be joined in any order.
use Rattle.std.proofs.Common.{◌≡◌, ℕ, Bool, true, false, ◌||◌, List, [], ◌∷◌, ◌++◌, map, Option, Some, None, refl, sym, ap, ◌∙◌}
use Rattle.shard_bounds.specs.Laws.{flattened}
use Rattle.shard_bounds.proofs.Orders.{folded}
use Rattle.text_extremes.proofs.TextOrder.{first_assoc, first_comm, last_assoc, last_comm}
use Rattle.text_extremes.specs.Bounds.{TextBound, bound_with, combined, far_by, joined}
use Rattle.text_extremes.specs.Laws.{GroupsCombine, OnePartIsAll, OrderIsFree}
use Rattle.text_extremes.specs.Texts.{extreme_of, first_of, of_all, of_both}
use Rattle.text_extremes.specs.declared.extreme.Extreme.{Extreme}
use Rattle.text_extremes.specs.declared.extreme.Extreme.TheVariants.{Least, Greatest}

-- ---- two bounds

same_with : (e : Extreme) (c d : Bool) (n m f g : List ℕ) → c ≡ d → n ≡ m → f ≡ g → bound_with e c n f ≡ bound_with e d m g
same_with e c d n m f g p q r =
    ap (λ (x : Bool). bound_with e x n f) p ∙ ap (λ (x : List ℕ). bound_with e d x f) q ∙ ap (λ (x : List ℕ). bound_with e d m x) r

or_assoc : (a b c : Bool) → (a || (b || c)) ≡ ((a || b) || c)
or_assoc true b c = refl
or_assoc false b c = refl

or_comm : (a b : Bool) → (a || b) ≡ (b || a)
or_comm true true = refl
or_comm true false = refl
or_comm false true = refl
or_comm false false = refl

far_assoc : (e : Extreme) (a b c : Bool) (s t u : List ℕ) →
    far_by e a (b || c) s (far_by e b c t u) ≡ far_by e (a || b) c (far_by e a b s t) u
far_assoc e true true true s t u = first_assoc e s t u
far_assoc e true true false s t u = refl
far_assoc e true false true s t u = refl
far_assoc e true false false s t u = refl
far_assoc e false true true s t u = refl
far_assoc e false true false s t u = refl
far_assoc e false false true s t u = refl
far_assoc e false false false s t u = last_assoc e s t u

far_comm : (e : Extreme) (a b : Bool) (s t : List ℕ) → far_by e a b s t ≡ far_by e b a t s
far_comm e true true s t = first_comm e s t
far_comm e true false s t = refl
far_comm e false true s t = refl
far_comm e false false s t = last_comm e s t

pub joined_assoc : (e : Extreme) (a b c : TextBound) → joined e a (joined e b c) ≡ joined e (joined e a b) c
joined_assoc Least a b c =
    same_with Least _ _ _ _ _ _ (or_assoc a.certain b.certain c.certain) (first_assoc Least a.low b.low c.low)
    (far_assoc Least a.certain b.certain c.certain a.high b.high c.high)
joined_assoc Greatest a b c =
    same_with Greatest _ _ _ _ _ _ (or_assoc a.certain b.certain c.certain) (first_assoc Greatest a.high b.high c.high)
    (far_assoc Greatest a.certain b.certain c.certain a.low b.low c.low)

pub joined_comm : (e : Extreme) (a b : TextBound) → joined e a b ≡ joined e b a
joined_comm Least a b =
    same_with Least _ _ _ _ _ _ (or_comm a.certain b.certain) (first_comm Least a.low b.low) (far_comm Least a.certain b.certain a.high b.high)
joined_comm Greatest a b =
    same_with Greatest _ _ _ _ _ _ (or_comm a.certain b.certain) (first_comm Greatest a.high b.high) (far_comm Greatest a.certain b.certain a.low b.low)

-- ---- what may be none

abbrev pub IsAssociative : {A : Type 0} → (A → A → A) → Type 0
IsAssociative {A} join = (a b c : A) → join a (join b c) ≡ join (join a b) c

pub both_assoc : {A : Type 0} (join : A → A → A) → IsAssociative join → (a b c : Option A) →
    of_both join a (of_both join b c) ≡ of_both join (of_both join a b) c
both_assoc {A} join law None b c = refl
both_assoc {A} join law (Some a) None c = refl
both_assoc {A} join law (Some a) (Some b) None = refl
both_assoc {A} join law (Some a) (Some b) (Some c) = ap (λ (x : A). Some x) (law a b c)

pub both_comm : {A : Type 0} (join : A → A → A) → ((a b : A) → join a b ≡ join b a) → (a b : Option A) → of_both join a b ≡ of_both join b a
both_comm {A} join law None None = refl
both_comm {A} join law None (Some b) = refl
both_comm {A} join law (Some a) None = refl
both_comm {A} join law (Some a) (Some b) = ap (λ (x : A). Some x) (law a b)

pub all_append : {A : Type 0} (join : A → A → A) → IsAssociative join → (ones others : List (Option A)) →
    of_all join (ones ++ others) ≡ of_both join (of_all join ones) (of_all join others)
all_append {A} join law [] others = refl
all_append {A} join law (a ∷ ones) others =
    ap (of_both join a) (all_append join law ones others) ∙ both_assoc join law a (of_all join ones) (of_all join others)

-- ---- any order, any groups

free : (e : Extreme) (a b c : Option TextBound) → of_both (joined e) a (of_both (joined e) b c) ≡ of_both (joined e) b (of_both (joined e) a c)
free e a b c =
    both_assoc (joined e) (joined_assoc e) a b c
    ∙ ap (λ (x : Option TextBound). of_both (joined e) x c) (both_comm (joined e) (joined_comm e) a b)
    ∙ sym (both_assoc (joined e) (joined_assoc e) b a c)

pub order_is_free : OrderIsFree
order_is_free e bounds others r = folded (combined e) (of_both (joined e)) (λ x xs. refl) (free e) bounds others r

pub one_part_is_all : OnePartIsAll
one_part_is_all e None = refl
one_part_is_all e (Some bound) = refl

pub groups_combine : GroupsCombine
groups_combine e [] = refl
groups_combine e (bounds ∷ groups) =
    ap (of_both (joined e) (combined e bounds)) (groups_combine e groups)
    ∙ sym (all_append (joined e) (joined_assoc e) bounds (flattened groups))

-- ---- the answer over several lists of texts

extreme_append : (e : Extreme) (ones others : List (List ℕ)) → extreme_of e (ones ++ others) ≡ of_both (first_of e) (extreme_of e ones) (extreme_of e others)
extreme_append e [] others = refl
extreme_append e (t ∷ ones) others =
    ap (of_both (first_of e) (Some t)) (extreme_append e ones others)
    ∙ both_assoc (first_of e) (first_assoc e) (Some t) (extreme_of e ones) (extreme_of e others)

pub answers_join : (e : Extreme) (parts : List (List (List ℕ))) → extreme_of e (flattened parts) ≡ of_all (first_of e) (map (extreme_of e) parts)
answers_join e [] = refl
answers_join e (texts ∷ parts) =
    extreme_append e texts (flattened parts) ∙ ap (of_both (first_of e) (extreme_of e texts)) (answers_join e parts)
