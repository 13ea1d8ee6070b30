-- The order of texts by their bytes is a total one, and the first and the last of two.
use Rattle.std.proofs.Common.{◌≡◌, ℕ, List, refl, sym, ap, ◌∙◌, false, IsTrue, IsFalse}
use Rattle.std.specs.Cmp.Lexicographic.{slice_cmp}
use Rattle.std.specs.Ordering.{is_eq, is_gt, is_le, nat_cmp, ordering_reverse}
use Rattle.std.specs.declared.cmp.Ordering.{Ordering}
use Rattle.std.specs.declared.cmp.Ordering.TheVariants.{Less, Equal, Greater}
use Rattle.std.proofs.lemmas.Bool.{cond_both, false≢true}
use Rattle.std.proofs.lemmas.Cmp.{nat_list_cmp_total, tied_itself, upto}
use Rattle.std.proofs.lemmas.Map.Text.{is_eq-slice_cmp}
use Rattle.std.proofs.lemmas.Slice.Eq.{bytes_eq-Decides}
use Rattle.text_extremes.specs.Texts.{comes_first, first_of, last_of, text_le}
use Rattle.text_extremes.specs.declared.extreme.Extreme.{Extreme}
use Rattle.text_extremes.specs.declared.extreme.Extreme.TheVariants.{Least, Greatest}

-- ---- bytes

not_gt : (o : Ordering) → IsTrue (is_le o) → is_gt o ≡ false
not_gt Less t = refl
not_gt Equal t = refl
not_gt Greater t = absurd (false≢true t)

le : (o : Ordering) → is_gt o ≡ false → IsTrue (is_le o)
le Less f = refl
le Equal f = refl
le Greater f = absurd (false≢true (sym f))

reversed : (o p : Ordering) → o ≡ ordering_reverse p → is_le o ≡ false → IsTrue (is_le p)
reversed o Less e f = refl
reversed o Equal e f = refl
reversed o Greater e f = absurd (false≢true (sym f ∙ ap is_le e))

tied : (o p : Ordering) → o ≡ ordering_reverse p → IsTrue (is_le o) → IsTrue (is_le p) → IsTrue (is_eq o)
tied Less Less e t s = absurd (false≢true (sym (ap is_le e)))
tied Less Equal e t s = absurd (false≢true (ap is_eq e))
tied Less Greater e t s = absurd (false≢true s)
tied Equal p e t s = refl
tied Greater p e t s = absurd (false≢true t)

le_itself : (s : List ℕ) → IsTrue (text_le s s)
le_itself s = ap is_le (tied_itself nat_list_cmp_total s)

le_chain : (s t u : List ℕ) → IsTrue (text_le s t) → IsTrue (text_le t u) → IsTrue (text_le s u)
le_chain s t u p q =
    le (slice_cmp nat_cmp s u) (upto nat_list_cmp_total s t u (not_gt (slice_cmp nat_cmp s t) p) (not_gt (slice_cmp nat_cmp t u) q))

le_other : (s t : List ℕ) → IsFalse (text_le s t) → IsTrue (text_le t s)
le_other s t f = reversed (slice_cmp nat_cmp s t) (slice_cmp nat_cmp t s) (nat_list_cmp_total.antisymm s t) f

le_same : (s t : List ℕ) → IsTrue (text_le s t) → IsTrue (text_le t s) → s ≡ t
le_same s t p q =
    (bytes_eq-Decides s t).0 (sym (is_eq-slice_cmp s t) ∙ tied (slice_cmp nat_cmp s t) (slice_cmp nat_cmp t s) (nat_list_cmp_total.antisymm s t) p q)

-- ---- either way

pub itself : (e : Extreme) (s : List ℕ) → IsTrue (comes_first e s s)
itself Least s = le_itself s
itself Greatest s = le_itself s

pub chain : (e : Extreme) (s t u : List ℕ) → IsTrue (comes_first e s t) → IsTrue (comes_first e t u) → IsTrue (comes_first e s u)
chain Least s t u p q = le_chain s t u p q
chain Greatest s t u p q = le_chain u t s q p

other : (e : Extreme) (s t : List ℕ) → IsFalse (comes_first e s t) → IsTrue (comes_first e t s)
other Least s t f = le_other s t f
other Greatest s t f = le_other t s f

pub one_text : (e : Extreme) (s t : List ℕ) → IsTrue (comes_first e s t) → IsTrue (comes_first e t s) → s ≡ t
one_text Least s t p q = le_same s t p q
one_text Greatest s t p q = le_same s t q p

-- ---- the first and the last of two

pub first_left : (e : Extreme) (s t : List ℕ) → IsTrue (comes_first e (first_of e s t) s)
first_left e s t = cond_both (comes_first e s t) s t (λ x. IsTrue (comes_first e x s)) (λ h. itself e s) (λ f. other e s t f)

pub first_right : (e : Extreme) (s t : List ℕ) → IsTrue (comes_first e (first_of e s t) t)
first_right e s t = cond_both (comes_first e s t) s t (λ x. IsTrue (comes_first e x t)) (λ h. h) (λ f. itself e t)

pub before_first : (e : Extreme) (u s t : List ℕ) → IsTrue (comes_first e u s) → IsTrue (comes_first e u t) → IsTrue (comes_first e u (first_of e s t))
before_first e u s t p q = cond_both (comes_first e s t) s t (λ x. IsTrue (comes_first e u x)) (λ h. p) (λ f. q)

pub last_left : (e : Extreme) (s t : List ℕ) → IsTrue (comes_first e s (last_of e s t))
last_left e s t = cond_both (comes_first e s t) t s (λ x. IsTrue (comes_first e s x)) (λ h. h) (λ f. itself e s)

pub last_right : (e : Extreme) (s t : List ℕ) → IsTrue (comes_first e t (last_of e s t))
last_right e s t = cond_both (comes_first e s t) t s (λ x. IsTrue (comes_first e t x)) (λ h. itself e t) (λ f. other e s t f)

pub behind_last : (e : Extreme) (s t u : List ℕ) → IsTrue (comes_first e s u) → IsTrue (comes_first e t u) → IsTrue (comes_first e (last_of e s t) u)
behind_last e s t u p q = cond_both (comes_first e s t) t s (λ x. IsTrue (comes_first e x u)) (λ h. q) (λ f. p)

pub first_comm : (e : Extreme) (s t : List ℕ) → first_of e s t ≡ first_of e t s
first_comm e s t =
    one_text e (first_of e s t) (first_of e t s) (before_first e (first_of e s t) t s (first_right e s t) (first_left e s t))
    (before_first e (first_of e t s) s t (first_right e t s) (first_left e t s))

pub last_comm : (e : Extreme) (s t : List ℕ) → last_of e s t ≡ last_of e t s
last_comm e s t =
    one_text e (last_of e s t) (last_of e t s) (behind_last e s t (last_of e t s) (last_right e t s) (last_left e t s))
    (behind_last e t s (last_of e s t) (last_right e s t) (last_left e s t))

pub first_assoc : (e : Extreme) (s t u : List ℕ) → first_of e s (first_of e t u) ≡ first_of e (first_of e s t) u
first_assoc e s t u =
    let inner = first_of e t u in
    let front = first_of e s t in
    let left = first_of e s inner in
    let right = first_of e front u in
    one_text e left right
    (before_first e left front u
    (before_first e left s t (first_left e s inner) (chain e left inner t (first_right e s inner) (first_left e t u)))
    (chain e left inner u (first_right e s inner) (first_right e t u)))
    (before_first e right s inner (chain e right front s (first_left e front u) (first_left e s t))
    (before_first e right t u (chain e right front t (first_left e front u) (first_right e s t)) (first_right e front u)))

pub last_assoc : (e : Extreme) (s t u : List ℕ) → last_of e s (last_of e t u) ≡ last_of e (last_of e s t) u
last_assoc e s t u =
    let inner = last_of e t u in
    let front = last_of e s t in
    let left = last_of e s inner in
    let right = last_of e front u in
    one_text e left right
    (behind_last e s inner right (chain e s front right (last_left e s t) (last_left e front u))
    (behind_last e t u right (chain e t front right (last_right e s t) (last_left e front u)) (last_right e front u)))
    (behind_last e front u left
    (behind_last e s t left (last_left e s inner) (chain e t inner left (last_left e t u) (last_right e s inner)))
    (chain e u inner left (last_right e t u) (last_right e s inner)))
