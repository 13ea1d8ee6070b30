-- The rows of masks, one by one.
use Rattle.std.proofs.Common.{◌≡◌, ℕ, suc, ◌+◌, ◌<◌, Bool, true, false, cond, not, ◌&&◌, List, [], ◌∷◌, length, map, count_by, get_or, slice_get, Some, refl, sym, ap, ◌∙◌, arith}
use Rattle.std.specs.Simd.Lanes.{zip2}
use Rattle.std.proofs.lemmas.List.{get_or-map}
use Rattle.std.proofs.lemmas.List.Sums.{sum_by-cons}
use Rattle.std.proofs.lemmas.Option.{get_or_from_slice_get}
use Rattle.std.proofs.lemmas.Simd.{get_or-zip2, length-zip2}
use Rattle.plane_kernels.specs.Rows.{kept_rows}
use Rattle.topk_bounds.specs.Standings.{is_in}

-- the bit of a row
pub bit_is : (rows : List Bool) (r : ℕ) (b : Bool) → slice_get rows r ≡ Some b → b ≡ is_in rows r
bit_is rows r b e = sym (get_or_from_slice_get rows r b false e)

pub in_both : (f : Bool → Bool → Bool) (xs ys : List Bool) (r : ℕ) → r < length xs → length ys ≡ length xs → is_in (zip2 f xs ys) r ≡ f (is_in xs r) (is_in ys r)
in_both f xs ys r h e = get_or-zip2 f xs ys r false false false h (omega arith)

pub in_map : {X : Type 0} (f : X → Bool) (xs : List X) (r : ℕ) (d : X) → r < length xs → is_in (map f xs) r ≡ f (get_or xs r d)
in_map f xs r d h = get_or-map f xs r d false h

-- two lists of rows are one where each row is
pub same_rows : {X : Type 0} (d : X) (xs ys : List X) → length xs ≡ length ys → ((r : ℕ) → r < length xs → get_or xs r d ≡ get_or ys r d) → xs ≡ ys
same_rows d [] [] e h = refl
same_rows d [] (y ∷ ys) e h = absurd (omega arith)
same_rows d (x ∷ xs) [] e h = absurd (omega arith)
same_rows d (x ∷ xs) (y ∷ ys) e h = ap (λ v. v ∷ xs) (h 0 (omega arith)) ∙ ap (λ l. y ∷ l) (same_rows d xs ys (omega arith) (λ r below. h (suc r) (omega arith)))

-- a mask without its own rows
pub none_left : (rows : List Bool) (r : ℕ) → r < length rows → is_in (zip2 (λ a b. a && not b) rows rows) r ≡ false
none_left rows r h = in_both (λ a b. a && not b) rows rows r h refl ∙ off (is_in rows r)
  where
    off : (b : Bool) → (b && not b) ≡ false
    off true = refl
    off false = refl

-- ---- rows by their digit in a plane

-- each row has one of two digits
pub kept_parts : (rows plane : List Bool) → length plane ≡ length rows → count_by (λ b. b) (kept_rows true rows plane) + count_by (λ b. b) (kept_rows false rows plane) ≡ count_by (λ b. b) rows
kept_parts [] [] e = refl
kept_parts [] (b ∷ bs) e = absurd (omega arith)
kept_parts (r ∷ rs) [] e = absurd (omega arith)
kept_parts (r ∷ rs) (b ∷ bs) e =
    omega (arith, kept_parts rs bs (omega arith), sum_by-cons (λ c. cond c 1 0) (r && b) (kept_rows true rs bs), sum_by-cons (λ c. cond c 1 0) (r && not b) (kept_rows false rs bs), sum_by-cons (λ c. cond c 1 0) r rs, one r b)
  where
    one : (r b : Bool) → cond (r && b) 1 0 + cond (r && not b) 1 0 ≡ cond r 1 0
    one true true = refl
    one true false = refl
    one false b = refl

module _ (rows plane : List Bool) (e : length plane ≡ length rows) where
  pub kept_length : (digit : Bool) → length (kept_rows digit rows plane) ≡ length rows
  kept_length true = length-zip2 (λ a b. a && b) rows plane (sym e)
  kept_length false = length-zip2 (λ a b. a && not b) rows plane (sym e)

  pub in_kept : (digit : Bool) (r : ℕ) → r < length rows → is_in (kept_rows digit rows plane) r ≡ (is_in rows r && cond digit (is_in plane r) (not (is_in plane r)))
  in_kept true r h = in_both (λ a b. a && b) rows plane r h e
  in_kept false r h = in_both (λ a b. a && not b) rows plane r h e
