-- What the bound over two parts says of their answers together.
use Rattle.std.proofs.Common.{◌≡◌, ℕ, Bool, true, false, ◌||◌, List, Option, Some, None, refl, sym, ap, subst, ◌∙◌, IsTrue}
use Rattle.std.proofs.lemmas.Bool.{false≢true, or_from, or_left, or_right}
use Rattle.text_extremes.proofs.TextOrder.{before_first, behind_last, chain, first_left, first_right, last_left, last_right}
use Rattle.text_extremes.specs.Bounds.{Admits, IsNested, IsWithin, Tells, TextBound, bound_with, far_by, far_end, joined, near_end}
use Rattle.text_extremes.specs.Texts.{comes_first, first_of, last_of, of_both}
use Rattle.text_extremes.specs.declared.extreme.Extreme.{Extreme}
use Rattle.text_extremes.specs.declared.extreme.Extreme.TheVariants.{Least, Greatest}

-- ---- the ends, near and far

pub certain_with : (e : Extreme) (c : Bool) (n f : List ℕ) → (bound_with e c n f).certain ≡ c
certain_with Least c n f = refl
certain_with Greatest c n f = refl

near_with : (e : Extreme) (c : Bool) (n f : List ℕ) → near_end e (bound_with e c n f) ≡ n
near_with Least c n f = refl
near_with Greatest c n f = refl

far_with : (e : Extreme) (c : Bool) (n f : List ℕ) → far_end e (bound_with e c n f) ≡ f
far_with Least c n f = refl
far_with Greatest c n f = refl

-- ---- admitted

pub record IsBetween (e : Extreme) (bound : TextBound) (t : List ℕ) : Type 0 where
  pub near : IsTrue (comes_first e (near_end e bound) t)
  pub far : IsTrue (comes_first e t (far_end e bound))

between : (e : Extreme) (bound : TextBound) (t : List ℕ) → Admits (Some bound) (Some t) → IsBetween e bound t
between Least bound t h = record { near = h.0; far = h.1 }
between Greatest bound t h = record { near = h.1; far = h.0 }

admitted : (e : Extreme) (c : Bool) (n f t : List ℕ) → IsTrue (comes_first e n t) → IsTrue (comes_first e t f) →
    Admits (Some (bound_with e c n f)) (Some t)
admitted Least c n f t p q = (p, q)
admitted Greatest c n f t p q = (q, p)

-- the far end of both lies no nearer than what lies before the far end of the one, if the other has none
far_first : (e : Extreme) (p q : Bool) (u s t : List ℕ) → q ≡ false → IsTrue (comes_first e u s) → IsTrue (comes_first e u (far_by e p q s t))
far_first e true true u s t f h = absurd (false≢true (sym f))
far_first e true false u s t f h = h
far_first e false true u s t f h = absurd (false≢true (sym f))
far_first e false false u s t f h = chain e u s (last_of e s t) h (last_left e s t)

far_second : (e : Extreme) (p q : Bool) (u s t : List ℕ) → p ≡ false → IsTrue (comes_first e u t) → IsTrue (comes_first e u (far_by e p q s t))
far_second e true q u s t f h = absurd (false≢true (sym f))
far_second e false true u s t f h = h
far_second e false false u s t f h = chain e u t (last_of e s t) h (last_right e s t)

-- and what lies before both far ends lies before it
pub far_both : (e : Extreme) (p q : Bool) (u s t : List ℕ) → IsTrue (comes_first e u s) → IsTrue (comes_first e u t) →
    IsTrue (comes_first e u (far_by e p q s t))
far_both e true true u s t h k = before_first e u s t h k
far_both e true false u s t h k = h
far_both e false true u s t h k = k
far_both e false false u s t h k = chain e u s (last_of e s t) h (last_left e s t)

one_admitted : (e : Extreme) (a b : TextBound) (t : List ℕ) → b.certain ≡ false → IsBetween e a t → Admits (Some (joined e a b)) (Some t)
one_admitted e a b t none h =
    let n = near_end e a in
    let m = near_end e b in
    admitted e (a.certain || b.certain) (first_of e n m) (far_by e a.certain b.certain (far_end e a) (far_end e b)) t
    (chain e (first_of e n m) n t (first_left e n m) h.near) (far_first e a.certain b.certain t (far_end e a) (far_end e b) none h.far)

other_admitted : (e : Extreme) (a b : TextBound) (t : List ℕ) → a.certain ≡ false → IsBetween e b t → Admits (Some (joined e a b)) (Some t)
other_admitted e a b t none h =
    let n = near_end e a in
    let m = near_end e b in
    admitted e (a.certain || b.certain) (first_of e n m) (far_by e a.certain b.certain (far_end e a) (far_end e b)) t
    (chain e (first_of e n m) m t (first_right e n m) h.near) (far_second e a.certain b.certain t (far_end e a) (far_end e b) none h.far)

both_admitted : (e : Extreme) (a b : TextBound) (s t : List ℕ) → IsBetween e a s → IsBetween e b t →
    Admits (Some (joined e a b)) (Some (first_of e s t))
both_admitted e a b s t h k =
    let n = near_end e a in
    let m = near_end e b in
    let f = far_end e a in
    let g = far_end e b in
    let u = first_of e s t in
    admitted e (a.certain || b.certain) (first_of e n m) (far_by e a.certain b.certain f g) u
    (before_first e (first_of e n m) s t (chain e (first_of e n m) n s (first_left e n m) h.near) (chain e (first_of e n m) m t (first_right e n m) k.near))
    (far_both e a.certain b.certain u f g (chain e u s f (first_left e s t) h.far) (chain e u t g (first_right e s t) k.far))

pub joined_admits : (e : Extreme) (a b : Option TextBound) (s t : Option (List ℕ)) → Admits a s → Admits b t →
    Admits (of_both (joined e) a b) (of_both (first_of e) s t)
joined_admits e None b None t h k = k
joined_admits e None b (Some s) t h k = absurd h
joined_admits e (Some a) None None None h k = h
joined_admits e (Some a) None (Some s) None h k = h
joined_admits e (Some a) None s (Some t) h k = absurd k
joined_admits e (Some a) (Some b) None None h k =
    certain_with e (a.certain || b.certain) (first_of e (near_end e a) (near_end e b)) (far_by e a.certain b.certain (far_end e a) (far_end e b))
    ∙ or_from a.certain b.certain h k
joined_admits e (Some a) (Some b) (Some s) None h k = one_admitted e a b s k (between e a s h)
joined_admits e (Some a) (Some b) None (Some t) h k = other_admitted e a b t h (between e b t k)
joined_admits e (Some a) (Some b) (Some s) (Some t) h k = both_admitted e a b s t (between e a s h) (between e b t k)

-- ---- told

two_first : (e : Extreme) (a b s t : List ℕ) → a ≡ s → b ≡ t → first_of e a b ≡ first_of e s t
two_first e a b s t h k = ap (λ (x : List ℕ). first_of e x b) h ∙ ap (first_of e s) k

far_told : (e : Extreme) (p q : Bool) (a b s t : List ℕ) → p ≡ true → q ≡ true → a ≡ s → b ≡ t → far_by e p q a b ≡ first_of e s t
far_told e true true a b s t c d h k = two_first e a b s t h k
far_told e true false a b s t c d h k = absurd (false≢true d)
far_told e false q a b s t c d h k = absurd (false≢true c)

pub joined_tells : (e : Extreme) (a b : Option TextBound) (s t : Option (List ℕ)) → Tells a s → Tells b t →
    Tells (of_both (joined e) a b) (of_both (first_of e) s t)
joined_tells e None b None t h k = k
joined_tells e None b (Some s) t h k = absurd h
joined_tells e (Some a) b None t h k = absurd h
joined_tells e (Some a) None (Some s) None h k = h
joined_tells e (Some a) None (Some s) (Some t) h k = absurd k
joined_tells e (Some a) (Some b) (Some s) None h k = absurd k
joined_tells Least (Some a) (Some b) (Some s) (Some t) h k =
    (or_left a.certain b.certain h.0, two_first Least a.low b.low s t h.1 k.1, far_told Least a.certain b.certain a.high b.high s t h.0 k.0 h.2 k.2)
joined_tells Greatest (Some a) (Some b) (Some s) (Some t) h k =
    (or_left a.certain b.certain h.0, far_told Greatest a.certain b.certain a.low b.low s t h.0 k.0 h.1 k.1, two_first Greatest a.high b.high s t h.2 k.2)

-- ---- nested

pub record AreEndsWithin (e : Extreme) (old new : TextBound) : Type 0 where
  pub certain : old.certain ≡ true → new.certain ≡ true
  pub near : IsTrue (comes_first e (near_end e old) (near_end e new))
  pub far : IsTrue (comes_first e (far_end e new) (far_end e old))

ends_within : (e : Extreme) (old new : TextBound) → IsWithin old new → AreEndsWithin e old new
ends_within Least old new h = record { certain = h.certain; near = h.low; far = h.high }
ends_within Greatest old new h = record { certain = h.certain; near = h.high; far = h.low }

is_within : (e : Extreme) (old new : TextBound) → AreEndsWithin e old new → IsWithin old new
is_within Least old new h = record { certain = h.certain; low = h.near; high = h.far }
is_within Greatest old new h = record { certain = h.certain; low = h.far; high = h.near }

-- what lies within both is within the bound over both
within_joined : (e : Extreme) (a b new : TextBound) → ((a.certain || b.certain) ≡ true → new.certain ≡ true) →
    IsTrue (comes_first e (first_of e (near_end e a) (near_end e b)) (near_end e new)) →
    IsTrue (comes_first e (far_end e new) (far_by e a.certain b.certain (far_end e a) (far_end e b))) → IsWithin (joined e a b) new
within_joined e a b new c p q =
    let sure = a.certain || b.certain in
    let near = first_of e (near_end e a) (near_end e b) in
    let far = far_by e a.certain b.certain (far_end e a) (far_end e b) in
    is_within e (bound_with e sure near far) new (record {
      certain = λ h. c (sym (certain_with e sure near far) ∙ h);
      near = subst (λ (x : List ℕ). IsTrue (comes_first e x (near_end e new))) (sym (near_with e sure near far)) p;
      far = subst (λ (x : List ℕ). IsTrue (comes_first e (far_end e new) x)) (sym (far_with e sure near far)) q;
    })

-- certain ones alone, if new parts are certain where old ones are
far_nests : (e : Extreme) (p q r o : Bool) (s t u v : List ℕ) → (p ≡ true → r ≡ true) → (q ≡ true → o ≡ true) →
    IsTrue (comes_first e u s) → IsTrue (comes_first e v t) → IsTrue (comes_first e (far_by e r o u v) (far_by e p q s t))
far_nests e true true false o s t u v c d h k = absurd (false≢true (c refl))
far_nests e true true true false s t u v c d h k = absurd (false≢true (d refl))
far_nests e true true true true s t u v c d h k =
    before_first e (first_of e u v) s t (chain e (first_of e u v) u s (first_left e u v) h) (chain e (first_of e u v) v t (first_right e u v) k)
far_nests e true false false o s t u v c d h k = absurd (false≢true (c refl))
far_nests e true false true true s t u v c d h k = chain e (first_of e u v) u s (first_left e u v) h
far_nests e true false true false s t u v c d h k = h
far_nests e false true r false s t u v c d h k = absurd (false≢true (d refl))
far_nests e false true true true s t u v c d h k = chain e (first_of e u v) v t (first_right e u v) k
far_nests e false true false true s t u v c d h k = k
far_nests e false false true true s t u v c d h k =
    chain e (first_of e u v) s (last_of e s t) (chain e (first_of e u v) u s (first_left e u v) h) (last_left e s t)
far_nests e false false true false s t u v c d h k = chain e u s (last_of e s t) h (last_left e s t)
far_nests e false false false true s t u v c d h k = chain e v t (last_of e s t) k (last_right e s t)
far_nests e false false false false s t u v c d h k =
    behind_last e u v (last_of e s t) (chain e u s (last_of e s t) h (last_left e s t)) (chain e v t (last_of e s t) k (last_right e s t))

certain_on : (p q r o : Bool) → (p ≡ true → r ≡ true) → (q ≡ true → o ≡ true) → (p || q) ≡ true → (r || o) ≡ true
certain_on true q r o c d h = or_left r o (c refl)
certain_on false q r o c d h = or_right r o (d h)

one_certain : (p q r : Bool) → (p ≡ true → r ≡ true) → q ≡ false → (p || q) ≡ true → r ≡ true
one_certain true q r c f h = c refl
one_certain false q r c f h = absurd (false≢true (sym f ∙ h))

other_certain : (p q r : Bool) → p ≡ false → (q ≡ true → r ≡ true) → (p || q) ≡ true → r ≡ true
other_certain true q r f d h = absurd (false≢true (sym f))
other_certain false q r f d h = d h

pub joined_nests : (e : Extreme) (a b new next : Option TextBound) → IsNested a new → IsNested b next →
    IsNested (of_both (joined e) a b) (of_both (joined e) new next)
joined_nests e None b None next h k = k
joined_nests e None b (Some new) next h k = absurd h
joined_nests e (Some a) None None None h k = h
joined_nests e (Some a) None (Some new) None h k = h
joined_nests e (Some a) None new (Some next) h k = absurd k
joined_nests e (Some a) (Some b) None None h k =
    certain_with e (a.certain || b.certain) (first_of e (near_end e a) (near_end e b)) (far_by e a.certain b.certain (far_end e a) (far_end e b))
    ∙ or_from a.certain b.certain h k
joined_nests e (Some a) (Some b) (Some new) None h k =
    let w = ends_within e a new h in
    within_joined e a b new (one_certain a.certain b.certain new.certain w.certain k)
    (chain e (first_of e (near_end e a) (near_end e b)) (near_end e a) (near_end e new) (first_left e (near_end e a) (near_end e b)) w.near)
    (far_first e a.certain b.certain (far_end e new) (far_end e a) (far_end e b) k w.far)
joined_nests e (Some a) (Some b) None (Some next) h k =
    let w = ends_within e b next k in
    within_joined e a b next (other_certain a.certain b.certain next.certain h w.certain)
    (chain e (first_of e (near_end e a) (near_end e b)) (near_end e b) (near_end e next) (first_right e (near_end e a) (near_end e b)) w.near)
    (far_second e a.certain b.certain (far_end e next) (far_end e a) (far_end e b) h w.far)
joined_nests e (Some a) (Some b) (Some new) (Some next) h k =
    let v = ends_within e a new h in
    let w = ends_within e b next k in
    let near = first_of e (near_end e a) (near_end e b) in
    let sure = new.certain || next.certain in
    let first = first_of e (near_end e new) (near_end e next) in
    let far = far_by e new.certain next.certain (far_end e new) (far_end e next) in
    within_joined e a b (bound_with e sure first far)
    (λ c. certain_with e sure first far ∙ certain_on a.certain b.certain new.certain next.certain v.certain w.certain c)
    (subst (λ (x : List ℕ). IsTrue (comes_first e near x)) (sym (near_with e sure first far))
    (before_first e near (near_end e new) (near_end e next)
    (chain e near (near_end e a) (near_end e new) (first_left e (near_end e a) (near_end e b)) v.near)
    (chain e near (near_end e b) (near_end e next) (first_right e (near_end e a) (near_end e b)) w.near)))
    (subst (λ (x : List ℕ). IsTrue (comes_first e x (far_by e a.certain b.certain (far_end e a) (far_end e b)))) (sym (far_with e sure first far))
    (far_nests e a.certain b.certain new.certain next.certain (far_end e a) (far_end e b) (far_end e new) (far_end e next) v.certain w.certain v.far w.far))
