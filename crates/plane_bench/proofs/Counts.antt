-- Ones of a plane, counted by the mask of all rows.
use Rattle.std.proofs.Common.{◌≡◌, ℕ, ◌+◌, ◌&&◌, true, Bool, List, [], ◌∷◌, length, map, replicate, count_by, cond, refl, sym, ap, ◌∙◌}
use Rattle.std.specs.Simd.Lanes.{zip2}
use Rattle.std.proofs.lemmas.List.{length-map}
use Rattle.std.proofs.lemmas.List.Sums.{sum_by-cons}
use Rattle.std.proofs.lemmas.Simd.{zip2_splat_left}

all_stay : (bits : List Bool) → map (λ b. true && b) bits ≡ bits
all_stay [] = refl
all_stay (b ∷ bits) = ap (λ bs. b ∷ bs) (all_stay bits)

count_of_map : (f : ℕ → Bool) (cells : List ℕ) → count_by (λ b. b) (map f cells) ≡ count_by f cells
count_of_map f [] = refl
count_of_map f (cell ∷ cells) =
    sum_by-cons (λ b. cond b 1 0) (f cell) (map f cells) ∙ ap (λ n. cond (f cell) 1 0 + n) (count_of_map f cells) ∙ sym (sum_by-cons (λ x. cond (f x) 1 0) cell cells)

pub count_of_all : (f : ℕ → Bool) (cells : List ℕ) (mask plane : List Bool) → mask ≡ replicate (length cells) true → plane ≡ map f cells →
    count_by (λ b. b) (zip2 (λ a b. a && b) mask plane) ≡ count_by f cells
count_of_all f cells mask plane all is =
    ap (λ m. count_by (λ b. b) (zip2 (λ a b. a && b) m plane)) all
    ∙ ap (λ p. count_by (λ b. b) (zip2 (λ a b. a && b) (replicate (length cells) true) p)) is
    ∙ ap (count_by (λ b. b)) (zip2_splat_left (λ a b. a && b) true (length cells) (map f cells) (length-map cells f) ∙ all_stay (map f cells))
    ∙ count_of_map f cells
