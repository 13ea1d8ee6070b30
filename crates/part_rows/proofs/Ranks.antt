-- The rows that come before a row: the first of them are enough, and partners in another list are as many.
use Rattle.std.proofs.Common.{◌≡◌, ℕ, zero, suc, ◌<◌, ◌≤◌, nat_lt, Bool, true, false, not, ◌&&◌, ◌||◌, List, [], ◌∷◌, refl, sym, ap, ◌∙◌, ◌⊎◌, subst, arith, IsTrue, IsFalse, inl, inr, map}
use Rattle.std.specs.List.{count_by}
use Rattle.std.proofs.lemmas.Bool.{and_from, and_parts, cases_Bool, ltb-false, not-false, or_parts}
use Rattle.part_rows.specs.declared.row.RowName.{RowName}
use Rattle.part_rows.specs.Worlds.{AreNamedOnce, IsIn}
use Rattle.part_rows.proofs.Counts.{all_or_one, as_number, count_less, count_more, step}
use Rattle.part_rows.proofs.Lists.{count_without, in_map, still_in, without}

pub record IsOrder {X : Type 0} (before : X → X → Bool) : Type 0 where
  pub irreflexive : (x : X) → IsFalse (before x x)
  pub chain : (x y z : X) → IsTrue (before x y) → IsTrue (before y z) → IsTrue (before x z)

abbrev pub rank : {X : Type 0} → (X → X → Bool) → List X → X → ℕ
rank before xs x = count_by (λ y. before y x) xs

-- it comes before x, and is among the first
abbrev pub leads : {X : Type 0} → (X → X → Bool) → List X → ℕ → X → X → Bool
leads before xs limit x y = before y x && nat_lt (rank before xs y) limit

leads_or_not : (a b : Bool) → IsTrue (not a || b) → IsTrue a → IsTrue (a && b)
leads_or_not true b h t = h
leads_or_not false b h t = t

-- one comes before x that is not among the first
record Late {X : Type 0} (before : X → X → Bool) (xs : List X) (limit : ℕ) (x : X) : Type 0 where
  pub element : X
  pub before_x : IsTrue (before element x)
  pub many : limit ≤ rank before xs element
  pub fewer : rank before xs element < rank before xs x

all_lead : {X : Type 0} (before : X → X → Bool) → IsOrder before → (xs : List X) (limit : ℕ) (x : X) → limit ≤ rank before xs x →
    (limit ≤ count_by (leads before xs limit x) xs) ⊎ Late before xs limit x
all_lead before o xs limit x k =
    elim (all_or_one (λ y. not (before y x) || nat_lt (rank before xs y) limit) xs) [
      | inl all ↦ inl (omega (
        arith,
        k,
        count_more (λ y. before y x) (leads before xs limit x) xs
            (λ y i t. leads_or_not (before y x) (nat_lt (rank before xs y) limit) (all y i) t),
      ))
      | inr one ↦
          let parts = or_parts (not (before one.element x)) (nat_lt (rank before xs one.element) limit) one.fails in
          let sooner = not-false (before one.element x) parts.0 in
          inr (record {
            element = one.element;
            before_x = sooner;
            many = ltb-false (rank before xs one.element) limit parts.1;
            fewer = count_less (λ z. before z one.element) (λ z. before z x) xs one.element (λ z j s. o.chain z one.element x s sooner)
                one.is (o.irreflexive one.element) sooner;
          })
    ]

-- where so many come before x, so many of the first do
enough_by : {X : Type 0} (before : X → X → Bool) → IsOrder before → (xs : List X) (limit fuel : ℕ) (x : X) →
    rank before xs x ≤ fuel → limit ≤ rank before xs x → limit ≤ count_by (leads before xs limit x) xs
enough_by before o xs limit zero x few k =
    elim (all_lead before o xs limit x k) [
      | inl all ↦ all
      | inr late ↦ absurd (omega (arith, late.fewer, few))
    ]
enough_by before o xs limit (suc fuel) x few k =
    elim (all_lead before o xs limit x k) [
      | inl all ↦ all
      | inr late ↦
          let there = enough_by before o xs limit fuel late.element (omega (arith, late.fewer, few)) late.many in
          let here = count_more (leads before xs limit late.element) (leads before xs limit x) xs
          (λ z j s. let parts = and_parts (before z late.element) (nat_lt (rank before xs z) limit) s in
          and_from (before z x) (nat_lt (rank before xs z) limit) (o.chain z late.element x parts.0 late.before_x) parts.1) in
          omega (arith, there, here)
    ]

pub enough : {X : Type 0} (before : X → X → Bool) → IsOrder before → (xs : List X) (limit : ℕ) (x : X) →
    limit ≤ rank before xs x → limit ≤ count_by (leads before xs limit x) xs
enough before o xs limit x k = enough_by before o xs limit (rank before xs x) x (omega arith) k

-- ---- partners

-- an element of that name that passes
pub record Partner {Y : Type 0} (name : RowName) (f : Y → RowName) (q : Y → Bool) (ys : List Y) : Type 0 where
  pub element : Y
  pub is : IsIn element ys
  pub named : f element ≡ name
  pub passes : IsTrue (q element)

abbrev HavePartners : {X Y : Type 0} → (X → RowName) → (Y → RowName) → (X → Bool) → (Y → Bool) → List X → List Y → Type 0
HavePartners {X} {Y} f g p q xs ys = (x : X) → IsIn x xs → IsTrue (p x) → Partner (f x) g q ys

-- the partners of the others are others
others : {X Y : Type 0} (f : X → RowName) (g : Y → RowName) (p : X → Bool) (q : Y → Bool) (x : X) (xs : List X) (ys : List Y)
    (own : Partner (f x) g q ys) → ¬ IsIn (f x) (map f xs) → HavePartners f g p q (x ∷ xs) ys →
    HavePartners f g p q xs (without own.element ys own.is)
others f g p q x xs ys own n h z i t =
    let found = h z (inr i) t in
    record {
      element = found.element;
      is = still_in own.element ys own.is found.element found.is
          (λ e. n (subst (λ name. IsIn name (map f xs)) (sym found.named ∙ ap g e ∙ own.named) (in_map f z xs i)));
      named = found.named;
      passes = found.passes;
    }

-- where each element that passes has a partner, and no two have one name, there are as many partners
pub partners : {X Y : Type 0} (f : X → RowName) (g : Y → RowName) (p : X → Bool) (q : Y → Bool) (xs : List X) (ys : List Y) →
    AreNamedOnce (map f xs) → ((x : X) → IsIn x xs → IsTrue (p x) → Partner (f x) g q ys) → count_by p xs ≤ count_by q ys
partners f g p q [] ys n h = omega arith
partners f g p q (x ∷ xs) ys n h =
    elim (cases_Bool (p x)) [
      | inl t ↦
          let own = h x (inl refl) t in
          let rest = partners f g p q xs (without own.element ys own.is) n.1 (others f g p q x xs ys own n.0 h) in
          omega (arith, rest, step p x xs, ap as_number t, count_without q own.element ys own.is, ap as_number own.passes)
      | inr s ↦ omega (arith, step p x xs, ap as_number s, partners f g p q xs ys n.1 (λ z i t. h z (inr i) t))
    ]
