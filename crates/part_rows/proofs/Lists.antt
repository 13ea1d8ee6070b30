-- Lists whose elements have names, and lists without one of their elements.
use Rattle.std.proofs.Common.{◌≡◌, ◌≢◌, ◌+◌, Bool, cond, List, [], ◌∷◌, sym, ap, ◌∙◌, subst, arith, inl, inr, map}
use Rattle.std.specs.List.{count_by}
use Rattle.part_rows.specs.declared.row.RowName.{RowName}
use Rattle.part_rows.specs.Worlds.{AreNamedOnce, IsIn}
use Rattle.part_rows.proofs.Counts.{step}

pub in_map : {X Y : Type 0} (f : X → Y) (x : X) (xs : List X) → IsIn x xs → IsIn (f x) (map f xs)
in_map f x [] i = absurd i
in_map f x (y ∷ ys) (inl e) = inl (ap f e)
in_map f x (y ∷ ys) (inr i) = inr (in_map f x ys i)

-- an element with the name of one in the list
named_in : {X : Type 0} (f : X → RowName) (name : RowName) (x : X) (xs : List X) → IsIn x xs → f x ≡ name → IsIn name (map f xs)
named_in f name x xs i e = subst (λ n. IsIn n (map f xs)) e (in_map f x xs i)

pub same_named : {X : Type 0} (f : X → RowName) (x y : X) (xs : List X) → AreNamedOnce (map f xs) → IsIn x xs → IsIn y xs → f x ≡ f y → x ≡ y
same_named f x y [] n i j e = absurd i
same_named f x y (z ∷ zs) n (inl a) (inl b) e = a ∙ sym b
same_named f x y (z ∷ zs) n (inl a) (inr j) e = absurd (n.0 (named_in f (f z) y zs j (sym e ∙ ap f a)))
same_named f x y (z ∷ zs) n (inr i) (inl b) e = absurd (n.0 (named_in f (f z) x zs i (e ∙ ap f b)))
same_named f x y (z ∷ zs) n (inr i) (inr j) e = same_named f x y zs n.1 i j e

-- ---- the list without one of its elements

abbrev pub without : {X : Type 0} (y : X) (ys : List X) → IsIn y ys → List X
without y [] i = []
without y (z ∷ zs) (inl e) = zs
without y (z ∷ zs) (inr i) = z ∷ without y zs i

pub count_without : {X : Type 0} (q : X → Bool) (y : X) (ys : List X) (i : IsIn y ys) →
    count_by q ys ≡ cond (q y) 1 0 + count_by q (without y ys i)
count_without q y [] i = absurd i
count_without q y (z ∷ zs) (inl e) = step q z zs ∙ ap (λ w. cond (q w) 1 0 + count_by q zs) (sym e)
count_without q y (z ∷ zs) (inr i) = omega (arith, step q z zs, count_without q y zs i, step q z (without y zs i))

pub in_without : {X : Type 0} (y : X) (ys : List X) (i : IsIn y ys) (z : X) → IsIn z (without y ys i) → IsIn z ys
in_without y [] i z j = absurd i
in_without y (w ∷ ws) (inl e) z j = inr j
in_without y (w ∷ ws) (inr i) z (inl f) = inl f
in_without y (w ∷ ws) (inr i) z (inr j) = inr (in_without y ws i z j)

pub still_in : {X : Type 0} (y : X) (ys : List X) (i : IsIn y ys) (z : X) → IsIn z ys → z ≢ y → IsIn z (without y ys i)
still_in y [] i z j n = absurd i
still_in y (w ∷ ws) (inl e) z (inl f) n = absurd (n (f ∙ sym e))
still_in y (w ∷ ws) (inl e) z (inr j) n = j
still_in y (w ∷ ws) (inr i) z (inl f) n = inl f
still_in y (w ∷ ws) (inr i) z (inr j) n = inr (still_in y ws i z j n)

names_without : {X : Type 0} (f : X → RowName) (y : X) (ys : List X) (i : IsIn y ys) (name : RowName) →
    IsIn name (map f (without y ys i)) → IsIn name (map f ys)
names_without f y [] i name j = absurd i
names_without f y (w ∷ ws) (inl e) name j = inr j
names_without f y (w ∷ ws) (inr i) name (inl g) = inl g
names_without f y (w ∷ ws) (inr i) name (inr j) = inr (names_without f y ws i name j)

pub once_without : {X : Type 0} (f : X → RowName) (y : X) (ys : List X) (i : IsIn y ys) →
    AreNamedOnce (map f ys) → AreNamedOnce (map f (without y ys i))
once_without f y [] i n = absurd i
once_without f y (w ∷ ws) (inl e) n = n.1
once_without f y (w ∷ ws) (inr i) n = (λ j. n.0 (names_without f y ws i (f w) j), once_without f y ws i n.1)

pub other_name : {X : Type 0} (f : X → RowName) (y : X) (ys : List X) (i : IsIn y ys) (z : X) →
    AreNamedOnce (map f ys) → IsIn z (without y ys i) → f z ≢ f y
other_name f y [] i z n j = absurd i
other_name f y (w ∷ ws) (inl e) z n j = λ g. n.0 (named_in f (f w) z ws j (g ∙ ap f e))
other_name f y (w ∷ ws) (inr i) z n (inl h) = λ g. n.0 (named_in f (f w) y ws i (sym g ∙ ap f h))
other_name f y (w ∷ ws) (inr i) z n (inr j) = other_name f y ws i z n.1 j
