-- Sums, differences and products of 128 bits that wrap around, of parts that wrapped around already.
use Rattle.std.proofs.Common.{◌≡◌, ℤ, ◌+ℤ◌, ◌-ℤ◌, ◌*ℤ◌, neg_ℤ, ap, ◌∙◌, to_z, of_z}
use Rattle.std.specs.Int.{int_wrap, w128}
use Rattle.std.proofs.lemmas.Int.{int_wrap-add_left, int_wrap-add_right, int_wrap-sub_right, int_wrap-mul_left, int_wrap-mul_right}

abbrev pub wrapped : ℤ → ℤ
wrapped z = int_wrap w128 z

pub sum_wrapped : (a b : ℤ) → wrapped (wrapped a +ℤ wrapped b) ≡ wrapped (a +ℤ b)
sum_wrapped a b = int_wrap-add_left w128 a (wrapped b) ∙ int_wrap-add_right w128 a b

-- a difference is a sum with a negative number
pub difference_wrapped : (a b : ℤ) → wrapped (wrapped a -ℤ wrapped b) ≡ wrapped (a -ℤ b)
difference_wrapped a b = int_wrap-sub_right w128 (wrapped a) b ∙ int_wrap-add_left w128 a (neg_ℤ b)

pub product_wrapped : (a b : ℤ) → wrapped (a *ℤ wrapped b) ≡ wrapped (a *ℤ b)
product_wrapped a b = int_wrap-mul_right w128 a b

-- ---- of parts that were passed on

abbrev pub again : ℤ → ℤ
again z = to_z w128 (of_z w128 z)

pub plus_is : (r x y a b : ℤ) → r ≡ wrapped (again x +ℤ again y) → again x ≡ x → again y ≡ y → x ≡ wrapped a → y ≡ wrapped b → r ≡ wrapped (a +ℤ b)
plus_is r x y a b is e f g h =
    is ∙ ap (λ z. wrapped (z +ℤ again y)) (e ∙ g) ∙ ap (λ z. wrapped (wrapped a +ℤ z)) (f ∙ h) ∙ sum_wrapped a b

pub minus_is : (r x y a b : ℤ) → r ≡ wrapped (again x -ℤ again y) → again x ≡ x → again y ≡ y → x ≡ wrapped a → y ≡ wrapped b → r ≡ wrapped (a -ℤ b)
minus_is r x y a b is e f g h =
    is ∙ ap (λ z. wrapped (z -ℤ again y)) (e ∙ g) ∙ ap (λ z. wrapped (wrapped a -ℤ z)) (f ∙ h) ∙ difference_wrapped a b

pub times_is : (r k x a : ℤ) → r ≡ wrapped (k *ℤ again x) → again x ≡ x → x ≡ wrapped a → r ≡ wrapped (k *ℤ a)
times_is r k x a is f h = is ∙ ap (λ z. wrapped (k *ℤ z)) (f ∙ h) ∙ product_wrapped k a

-- the first of which is a number that is kept
pub plus_onto : (r x y a b : ℤ) → r ≡ wrapped (x +ℤ again y) → again y ≡ y → x ≡ wrapped a → y ≡ wrapped b → r ≡ wrapped (a +ℤ b)
plus_onto r x y a b is f g h = is ∙ ap (λ z. wrapped (z +ℤ again y)) g ∙ ap (λ z. wrapped (wrapped a +ℤ z)) (f ∙ h) ∙ sum_wrapped a b

pub times_wrapped : (a k : ℤ) → wrapped (wrapped a *ℤ k) ≡ wrapped (a *ℤ k)
times_wrapped a k = int_wrap-mul_left w128 a k
