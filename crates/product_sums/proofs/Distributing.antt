-- Products of whole numbers: of sums, of differences and of products.
use Rattle.std.proofs.Common.{◌≡◌, ℕ, zero, suc, ℤ, pos, negsuc, ◌+ℤ◌, ◌-ℤ◌, ◌*ℤ◌, neg_ℤ, ap, sym, ◌∙◌, arith}
use Rattle.std.proofs.lemmas.Int.{ints}
use Rattle.std.proofs.Math.IntN.{suc_ℤ, *ℤ_comm, *ℤ-zero, zero-*ℤ, *ℤ-negsuc, suc_ℤ-*ℤ, +ℤ_invr, neg_ℤ-+ℤ}

once_more : (z : ℤ) (n : ℕ) → z *ℤ pos (suc n) ≡ z +ℤ (z *ℤ pos n)
once_more z n = *ℤ_comm z (suc_ℤ (pos n)) ∙ suc_ℤ-*ℤ (pos n) z ∙ ap (λ k. k +ℤ z) (*ℤ_comm (pos n) z) ∙ turned (z *ℤ pos n) z
  where
    turned : (a b : ℤ) → a +ℤ b ≡ b +ℤ a
    turned a b = omega (arith, ints)

sum_times_pos : (a b : ℤ) (n : ℕ) → (a +ℤ b) *ℤ pos n ≡ (a *ℤ pos n) +ℤ (b *ℤ pos n)
sum_times_pos a b zero = *ℤ-zero (a +ℤ b) ∙ sym (ap (λ z. z +ℤ (b *ℤ pos zero)) (*ℤ-zero a) ∙ ap (λ z. pos zero +ℤ z) (*ℤ-zero b))
sum_times_pos a b (suc n) =
    once_more (a +ℤ b) n ∙ ap (λ z. (a +ℤ b) +ℤ z) (sum_times_pos a b n) ∙ parted a b (a *ℤ pos n) (b *ℤ pos n)
    ∙ sym (ap (λ z. z +ℤ (b *ℤ pos (suc n))) (once_more a n) ∙ ap (λ z. (a +ℤ (a *ℤ pos n)) +ℤ z) (once_more b n))
  where
    parted : (a b x y : ℤ) → (a +ℤ b) +ℤ (x +ℤ y) ≡ (a +ℤ x) +ℤ (b +ℤ y)
    parted a b x y = omega (arith, ints)

-- a sum times a number
pub sum_times : (a b k : ℤ) → (a +ℤ b) *ℤ k ≡ (a *ℤ k) +ℤ (b *ℤ k)
sum_times a b (pos n) = sum_times_pos a b n
sum_times a b (negsuc n) =
    *ℤ-negsuc (a +ℤ b) n ∙ ap neg_ℤ (sum_times_pos a b (suc n)) ∙ neg_ℤ-+ℤ (a *ℤ pos (suc n)) (b *ℤ pos (suc n))
    ∙ sym (ap (λ z. z +ℤ (b *ℤ negsuc n)) (*ℤ-negsuc a n) ∙ ap (λ z. neg_ℤ (a *ℤ pos (suc n)) +ℤ z) (*ℤ-negsuc b n))

-- a number times a sum
pub times_sum : (k a b : ℤ) → k *ℤ (a +ℤ b) ≡ (k *ℤ a) +ℤ (k *ℤ b)
times_sum k a b = *ℤ_comm k (a +ℤ b) ∙ sum_times a b k ∙ ap (λ z. z +ℤ (b *ℤ k)) (*ℤ_comm a k) ∙ ap (λ z. (k *ℤ a) +ℤ z) (*ℤ_comm b k)

-- a negative number times a number
pub negative_times : (a k : ℤ) → (neg_ℤ a) *ℤ k ≡ neg_ℤ (a *ℤ k)
negative_times a k =
    let none : (a *ℤ k) +ℤ ((neg_ℤ a) *ℤ k) ≡ pos 0 = sym (sum_times a (neg_ℤ a) k) ∙ ap (λ z. z *ℤ k) (+ℤ_invr a) ∙ zero-*ℤ k in
    opposite (a *ℤ k) ((neg_ℤ a) *ℤ k) none
  where
    opposite : (x y : ℤ) → x +ℤ y ≡ pos 0 → y ≡ neg_ℤ x
    opposite x y e = omega (arith, ints, e)

pub difference_times : (a b k : ℤ) → (a -ℤ b) *ℤ k ≡ (a *ℤ k) -ℤ (b *ℤ k)
difference_times a b k = sum_times a (neg_ℤ b) k ∙ ap (λ z. (a *ℤ k) +ℤ z) (negative_times b k)

product_times_pos : (a b : ℤ) (n : ℕ) → (a *ℤ b) *ℤ pos n ≡ a *ℤ (b *ℤ pos n)
product_times_pos a b zero = *ℤ-zero (a *ℤ b) ∙ sym (ap (λ z. a *ℤ z) (*ℤ-zero b) ∙ *ℤ-zero a)
product_times_pos a b (suc n) =
    once_more (a *ℤ b) n ∙ ap (λ z. (a *ℤ b) +ℤ z) (product_times_pos a b n) ∙ sym (times_sum a b (b *ℤ pos n)) ∙ ap (λ z. a *ℤ z) (sym (once_more b n))

-- a product times a number
pub product_times : (a b k : ℤ) → (a *ℤ b) *ℤ k ≡ a *ℤ (b *ℤ k)
product_times a b (pos n) = product_times_pos a b n
product_times a b (negsuc n) =
    *ℤ-negsuc (a *ℤ b) n ∙ ap neg_ℤ (product_times_pos a b (suc n) ∙ *ℤ_comm a (b *ℤ pos (suc n))) ∙ sym (negative_times (b *ℤ pos (suc n)) a)
    ∙ *ℤ_comm (neg_ℤ (b *ℤ pos (suc n))) a ∙ ap (λ z. a *ℤ z) (sym (*ℤ-negsuc b n))

pub swapped : (a b : ℤ) → a *ℤ b ≡ b *ℤ a
swapped a b = *ℤ_comm a b
