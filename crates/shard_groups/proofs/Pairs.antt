-- Tests of each pair of two lists.
use Rattle.std.proofs.Common.{◌≡◌, ℕ, suc, ◌+◌, ◌<◌, Bool, ◌&&◌, List, [], ◌∷◌, length, get_or, drop, refl, ap, ◌∙◌, IsTrue}
use Rattle.std.proofs.lemmas.Bool.{false≢true, and_from, and_parts}
use Rattle.std.proofs.lemmas.List.{drop_more}
use Rattle.shard_groups.specs.Keys.{each_pair}

-- three lists, the first beside both others
pub each_join : {X Y Z : Type 0} (f : X → Y → Bool) (g : X → Z → Bool) (h : Y → Z → Bool) →
    ((x : X) (y : Y) (z : Z) → IsTrue (f x y) → IsTrue (g x z) → IsTrue (h y z)) → (xs : List X) (ys : List Y) (zs : List Z) →
    IsTrue (each_pair f xs ys) → IsTrue (each_pair g xs zs) → IsTrue (each_pair h ys zs)
each_join f g h step [] [] zs p q = q
each_join f g h step [] (y ∷ ys) zs p q = absurd (false≢true p)
each_join f g h step (x ∷ xs) [] zs p q = absurd (false≢true p)
each_join f g h step (x ∷ xs) (y ∷ ys) [] p q = absurd (false≢true q)
each_join f g h step (x ∷ xs) (y ∷ ys) (z ∷ zs) p q =
    let a = and_parts (f x y) (each_pair f xs ys) p in
    let b = and_parts (g x z) (each_pair g xs zs) q in
    and_from (h y z) (each_pair h ys zs) (step x y z a.0 b.0) (each_join f g h step xs ys zs a.1 b.1)

pub each_flip : {X Y : Type 0} (f : X → Y → Bool) (g : Y → X → Bool) → ((x : X) (y : Y) → IsTrue (f x y) → IsTrue (g y x)) →
    (xs : List X) (ys : List Y) → IsTrue (each_pair f xs ys) → IsTrue (each_pair g ys xs)
each_flip f g step [] [] p = refl
each_flip f g step [] (y ∷ ys) p = absurd (false≢true p)
each_flip f g step (x ∷ xs) [] p = absurd (false≢true p)
each_flip f g step (x ∷ xs) (y ∷ ys) p =
    let a = and_parts (f x y) (each_pair f xs ys) p in
    and_from (g y x) (each_pair g ys xs) (step x y a.0) (each_flip f g step xs ys a.1)

pub each_itself : {X : Type 0} (f : X → X → Bool) → ((x : X) → IsTrue (f x x)) → (xs : List X) → IsTrue (each_pair f xs xs)
each_itself f step [] = refl
each_itself f step (x ∷ xs) = and_from (f x x) (each_pair f xs xs) (step x) (each_itself f step xs)

pub each_length : {X Y : Type 0} (f : X → Y → Bool) (xs : List X) (ys : List Y) → IsTrue (each_pair f xs ys) → length xs ≡ length ys
each_length f [] [] p = refl
each_length f [] (y ∷ ys) p = absurd (false≢true p)
each_length f (x ∷ xs) [] p = absurd (false≢true p)
each_length f (x ∷ xs) (y ∷ ys) p = ap suc (each_length f xs ys (and_parts (f x y) (each_pair f xs ys) p).1)

-- one pair, and those behind it
pub each_more : {X Y : Type 0} (f : X → Y → Bool) (xs : List X) (ys : List Y) (i : ℕ) (d : X) (e : Y) → i < length xs → i < length ys →
    each_pair f (drop i xs) (drop i ys) ≡ (f (get_or xs i d) (get_or ys i e) && each_pair f (drop (i + 1) xs) (drop (i + 1) ys))
each_more f xs ys i d e h k = ap (λ l. each_pair f l (drop i ys)) (drop_more xs i d h) ∙ ap (λ l. each_pair f (get_or xs i d ∷ drop (i + 1) xs) l) (drop_more ys i e k)
