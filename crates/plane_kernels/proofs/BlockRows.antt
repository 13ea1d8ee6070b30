-- Operations on eight words as operations on their rows.
use Rattle.std.proofs.Common.{◌≡◌, ℕ, Bool, false, List, [], ◌∷◌, length, replicate, count_by, sum_by, arith, refl, ap, sym, subst, ◌∙◌}
use Rattle.std.proofs.lemmas.Nat.{le_or_l, le_or_r}
use Rattle.std.specs.Int.Bits.{bit_or}
use Rattle.std.specs.Int.Count.{ones}
use Rattle.std.specs.Simd.Lanes.{fold_l, zip2}
use Rattle.std.proofs.lemmas.Simd.{length-zip2}
use Rattle.plane_kernels.specs.Blocks.{IsBlock}
use Rattle.plane_kernels.specs.Rows.{IsPadded, rows_of}
use Rattle.plane_kernels.proofs.Bitwise.{IsBitwise, padded-zip2, rows_of-zip2}
use Rattle.plane_kernels.proofs.Flips.{rows_of-zeros}
use Rattle.plane_kernels.proofs.RowLemmas.{count-rows_of, length-rows_of}

-- two blocks of as many rows
pub same_rows : (n m : ℕ) (ws vs : List ℕ) → IsBlock n ws → IsBlock m vs → length (rows_of m vs) ≡ length (rows_of n ws) → m ≡ n
same_rows n m ws vs p q e =
    let few = p.few in
    let few' = q.few in
    let first = length-rows_of n ws (omega (arith, p.eight)) in
    let second = length-rows_of m vs (omega (arith, q.eight)) in
    omega (arith, e)

pub joined_rows : (f : ℕ → ℕ → ℕ) (g : Bool → Bool → Bool) → IsBitwise f g → (n m : ℕ) (ws vs : List ℕ) → IsBlock n ws → IsBlock m vs → length (rows_of m vs) ≡ length (rows_of n ws) →
    rows_of n (zip2 f ws vs) ≡ zip2 g (rows_of n ws) (rows_of m vs)
joined_rows f g s n m ws vs p q e =
    let same = same_rows n m ws vs p q e in
    subst (λ k. rows_of n (zip2 f ws vs) ≡ zip2 g (rows_of n ws) (rows_of k vs)) (sym same)
    (rows_of-zip2 f g s n ws vs (q.eight ∙ sym p.eight) p.padded (subst (λ k. IsPadded k vs) same q.padded))

pub joined_block : (f : ℕ → ℕ → ℕ) (g : Bool → Bool → Bool) → IsBitwise f g → (n m : ℕ) (ws vs : List ℕ) → IsBlock n ws → IsBlock m vs → length (rows_of m vs) ≡ length (rows_of n ws) →
    IsBlock n (zip2 f ws vs)
joined_block f g s n m ws vs p q e =
    let same = same_rows n m ws vs p q e in
    let long = length-zip2 f ws vs (p.eight ∙ sym q.eight) in
    record {
      few = p.few;
      eight = omega (arith, long, p.eight);
      padded = padded-zip2 f g s n ws vs (q.eight ∙ sym p.eight) p.padded (subst (λ k. IsPadded k vs) same q.padded);
    }

pub counted_rows : (n : ℕ) (ws : List ℕ) → IsBlock n ws → sum_by ones ws ≡ count_by (λ b. b) (rows_of n ws)
counted_rows n ws p = sym (count-rows_of n ws p.padded)

-- ---- no row

zeros_by_fold : (a : ℕ) (ws : List ℕ) → fold_l bit_or a ws ≡ 0 → (a ≡ 0) × (ws ≡ replicate (length ws) 0)
zeros_by_fold a [] e = (e, refl)
zeros_by_fold a (w ∷ ws) e =
    let rest = zeros_by_fold (bit_or a w) ws e in
    let first : w ≡ 0 = omega (arith, le_or_r a w, rest.0) in
    (omega (arith, le_or_l a w, rest.0), ap (λ v. v ∷ ws) first ∙ ap (λ l. 0 ∷ l) rest.1)

-- words without a bit have no row
pub empty_rows : (n : ℕ) (ws : List ℕ) → IsBlock n ws → fold_l bit_or 0 ws ≡ 0 → rows_of n ws ≡ replicate n false
empty_rows n ws p e =
    let few = p.few in
    ap (rows_of n) (zeros_by_fold 0 ws e).1 ∙ rows_of-zeros (length ws) n (omega (arith, p.eight))
