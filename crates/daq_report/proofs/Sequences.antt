-- The texts of numbers that follow one another.
use Rattle.std.proofs.Common.{◌≡◌, ℕ, zero, suc, ◌+◌, ◌-◌, ◌<◌, ◌≤◌, List, ◌∷◌, ◌++◌, Ok, Err, IsErr, refl, sym, ap, subst, ◌∙◌, arith, append-nil}
use Rattle.std.proofs.lemmas.Grind.{flat_map-append}
use Rattle.std.specs.List.{flat_map, range_with_len}
use Rattle.std.specs.declared.result.Result.{Result}
use Rattle.outer_world.proofs.Writes.{writes_both, writes_cut}
use Rattle.outer_world.specs.Device.{SinkState}
use Rattle.outer_world.specs.Whole.{Writes}

-- the texts of so many numbers from one on
abbrev pub texts : (ℕ → List ℕ) → ℕ → ℕ → List ℕ
texts text from count = flat_map text (range_with_len from count)

-- so many numbers, and more
range_split : (a m n : ℕ) → range_with_len a (m + n) ≡ range_with_len a m ++ range_with_len (a + m) n
range_split a zero n =
    let count : n ≡ zero + n = omega arith in
    let from : a ≡ a + zero = omega arith in
    subst (λ (k : ℕ). range_with_len a k ≡ range_with_len (a + zero) n) count (ap (λ (k : ℕ). range_with_len k n) from)
range_split a (suc m) n =
    let count : suc (m + n) ≡ suc m + n = omega arith in
    let next : (a + 1) + m ≡ a + suc m = omega arith in
    subst (λ (k : ℕ). range_with_len a k ≡ a ∷ (range_with_len (a + 1) m ++ range_with_len (a + suc m) n)) count
    (ap (λ (l : List ℕ). a ∷ l) (subst (λ (k : ℕ). range_with_len (a + 1) (m + n) ≡ range_with_len (a + 1) m ++ range_with_len k n) next (range_split (a + 1) m n)))

texts_split : (text : ℕ → List ℕ) (a m n : ℕ) → texts text a (m + n) ≡ texts text a m ++ texts text (a + m) n
texts_split text a m n = ap (flat_map text) (range_split a m n) ∙ flat_map-append text (range_with_len a m) (range_with_len (a + m) n)

-- the texts so far, and more
pub texts_after : {A B C E : Type 0} (x : A) (y : B) (z : C) (text : ℕ → List ℕ) (a m n k j : ℕ) (old mid new : SinkState) → a + m ≡ k → m + n ≡ j →
    Writes {E = E} (Ok x) old mid (texts text a m) → Writes {E = E} (Ok y) mid new (texts text k n) → Writes {E = E} (Ok z) old new (texts text a j)
texts_after {E = E} x y z text a m n k j old mid new at now before more =
    let both = writes_both x (Ok y) old mid new _ _ before (subst (λ (i : ℕ). Writes {E = E} (Ok y) mid new (texts text i n)) (sym at) more) in
    subst (λ (i : ℕ). Writes {E = E} (Ok z) old new (texts text a i)) now
    (subst (Writes {E = E} (Ok z) old new) (sym (texts_split text a m n)) (record { done = both.done; part = tt; cause = record { later = both.cause.later; failed = tt } }))

-- the texts so far, and a part of more
pub texts_cut : {A T E F : Type 0} (x : A) (e : F) (result : Result T E) (text : ℕ → List ℕ) (a m n k all : ℕ) (old mid new : SinkState) → a + m ≡ k → m + n ≤ all →
    Writes {E = E} (Ok x) old mid (texts text a m) → IsErr result → Writes {T = T} (Err e) mid new (texts text k n) → Writes result old new (texts text a all)
texts_cut {T = T} x e result text a m n k all old mid new at within before failed more =
    let rest = all - (m + n) in
    let whole : m + (n + rest) ≡ all = omega (arith, within) in
    let piece = subst (λ (i : ℕ). Writes {T = T} (Err e) mid new (texts text i n)) (sym at) more in
    subst (λ (i : ℕ). Writes result old new (texts text a i)) whole
    (subst (Writes result old new) (sym (texts_split text a m (n + rest)))
    (writes_both x result old mid new _ _ before
    (subst (Writes result mid new) (sym (texts_split text (a + m) n rest)) (writes_cut e result mid new _ _ failed piece))))

one_text : (text : ℕ → List ℕ) (k : ℕ) → texts text k 1 ≡ text k
one_text text k = append-nil (text k)

-- the texts so far, and the next one
pub text_more : (text : ℕ → List ℕ) (a m k : ℕ) → a + m ≡ k → texts text a (m + 1) ≡ texts text a m ++ text k
text_more text a m k at = texts_split text a m 1 ∙ ap (λ l. texts text a m ++ l) (one_text text (a + m)) ∙ ap (λ i. texts text a m ++ text i) at

-- the texts so far, and one more
pub text_after : {A B C E : Type 0} (x : A) (y : B) (z : C) (text : ℕ → List ℕ) (a m k : ℕ) (old mid new : SinkState) → a + m ≡ k →
    Writes {E = E} (Ok x) old mid (texts text a m) → Writes {E = E} (Ok y) mid new (text k) → Writes {E = E} (Ok z) old new (texts text a (m + 1))
text_after {E = E} x y z text a m k old mid new at before more =
    texts_after x y z text a m 1 k (m + 1) old mid new at refl before (subst (Writes {E = E} (Ok y) mid new) (sym (one_text text k)) more)

-- the texts so far, and a part of one more
pub text_cut : {A T E F : Type 0} (x : A) (e : F) (result : Result T E) (text : ℕ → List ℕ) (a m k all : ℕ) (old mid new : SinkState) → a + m ≡ k → m < all →
    Writes {E = E} (Ok x) old mid (texts text a m) → IsErr result → Writes {T = T} (Err e) mid new (text k) → Writes result old new (texts text a all)
text_cut {T = T} x e result text a m k all old mid new at within before failed more =
    texts_cut x e result text a m 1 k all old mid new at (omega (arith, within)) before failed (subst (Writes {T = T} (Err e) mid new) (sym (one_text text k)) more)
