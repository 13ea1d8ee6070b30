-- Pieces that are written one after the other, by their numbers.
use Rattle.std.proofs.Common.{◌≡◌, ℕ, zero, suc, ◌+◌, ◌-◌, ◌<◌, List, [], ◌∷◌, ◌++◌, Ok, Err, IsErr, sym, ap, ◌∙◌, subst, arith, append-nil}
use Rattle.std.specs.List.{flat_map, range_with_len}
use Rattle.std.specs.declared.result.Result.{Result}
use Rattle.std.proofs.lemmas.List.Concat.{flat_map-append}
use Rattle.outer_world.specs.Device.{SinkState}
use Rattle.outer_world.specs.Whole.{Writes}
use Rattle.outer_world.proofs.Writes.{writes_both, writes_cut}

-- numbers, parted
pub range_parts : (a m n : ℕ) → range_with_len a (m + n) ≡ range_with_len a m ++ range_with_len (a + m) n
range_parts a zero n =
    let none : 0 + n ≡ n = omega arith in
    let here : a ≡ a + 0 = omega arith in
    ap (range_with_len a) none ∙ ap (λ k. range_with_len k n) here
range_parts a (suc m) n =
    let more : suc m + n ≡ suc (m + n) = omega arith in
    let past : a + 1 + m ≡ a + suc m = omega arith in
    ap (range_with_len a) more ∙ ap (λ l. a ∷ l) (range_parts (a + 1) m n ∙ ap (λ k. range_with_len (a + 1) m ++ range_with_len k n) past)

-- the pieces of one number more
pub pieces_more : (f : ℕ → List ℕ) (n : ℕ) → flat_map f (range_with_len 0 (n + 1)) ≡ flat_map f (range_with_len 0 n) ++ f n
pieces_more f n =
    let here : 0 + n ≡ n = omega arith in
    ap (flat_map f) (range_parts 0 n 1) ∙ flat_map-append f (range_with_len 0 n) (range_with_len (0 + n) 1)
    ∙ ap (λ k. flat_map f (range_with_len 0 n) ++ (f k ++ [])) here ∙ ap (λ l. flat_map f (range_with_len 0 n) ++ l) (append-nil (f n))

-- all pieces are those before one, that one, and those behind it
pub pieces_about : (f : ℕ → List ℕ) (k n : ℕ) → k < n →
    flat_map f (range_with_len 0 n) ≡ flat_map f (range_with_len 0 k) ++ (f k ++ flat_map f (range_with_len (k + 1) (n - (k + 1))))
pieces_about f k n h =
    let rest = n - (k + 1) in
    let here : 0 + k ≡ k = omega arith in
    let whole : n ≡ k + suc rest = omega (arith, h) in
    ap (λ m. flat_map f (range_with_len 0 m)) whole ∙ ap (flat_map f) (range_parts 0 k (suc rest))
    ∙ flat_map-append f (range_with_len 0 k) (range_with_len (0 + k) (suc rest))
    ∙ ap (λ m. flat_map f (range_with_len 0 k) ++ flat_map f (range_with_len m (suc rest))) here

-- one piece more was written
pub piece_after : {A B E : Type 0} (x : A) (y : B) (old mid new : SinkState) (f : ℕ → List ℕ) (n : ℕ) →
    Writes {E = E} (Ok x) old mid (flat_map f (range_with_len 0 n)) → Writes {E = E} (Ok y) mid new (f n) → Writes {E = E} (Ok y) old new (flat_map f (range_with_len 0 (n + 1)))
piece_after x y old mid new f n done next = subst (Writes (Ok y) old new) (sym (pieces_more f n)) (writes_both x (Ok y) old mid new _ _ done next)

-- a piece was not written whole, so neither were all
pub piece_cut : {A B T E F : Type 0} (x : A) (e : F) (result : Result T E) (old mid new : SinkState) (f : ℕ → List ℕ) (k n : ℕ) → k < n → IsErr result →
    Writes {E = E} (Ok x) old mid (flat_map f (range_with_len 0 k)) → Writes {T = B} (Err e) mid new (f k) → Writes result old new (flat_map f (range_with_len 0 n))
piece_cut x e result old mid new f k n h failed done next =
    subst (Writes result old new) (sym (pieces_about f k n h)) (writes_both x result old mid new _ _ done (writes_cut e result mid new _ _ failed next))
