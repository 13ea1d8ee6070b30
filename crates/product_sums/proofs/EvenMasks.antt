-- Masks that have no row, and masks that have all.
use Rattle.std.proofs.Common.{◌≡◌, ℕ, ◌+◌, ◌≤◌, Bool, true, false, ◌&&◌, cond, List, [], ◌∷◌, length, count_by, refl, ap, arith}
use Rattle.std.specs.Simd.Lanes.{zip2}
use Rattle.std.proofs.lemmas.List.Sums.{sum_by-cons}

counted : (b : Bool) (rows : List Bool) → count_by (λ b. b) (b ∷ rows) ≡ cond b 1 0 + count_by (λ b. b) rows
counted b rows = sum_by-cons (λ b. cond {A = ℕ} b 1 0) b rows

at_most : (rows : List Bool) → count_by (λ b. b) rows ≤ length rows
at_most [] = omega arith
at_most (true ∷ rows) = omega (arith, counted true rows, at_most rows)
at_most (false ∷ rows) = omega (arith, counted false rows, at_most rows)

pub none_same : (rows others : List Bool) → length others ≡ length rows → count_by (λ b. b) rows ≡ 0 → count_by (λ b. b) others ≡ 0 → rows ≡ others
none_same [] [] same none no_other = refl
none_same [] (b ∷ others) same none no_other = absurd (omega (arith, same))
none_same (a ∷ rows) [] same none no_other = absurd (omega (arith, same))
none_same (true ∷ rows) (b ∷ others) same none no_other = absurd (omega (arith, none, counted true rows))
none_same (false ∷ rows) (true ∷ others) same none no_other = absurd (omega (arith, no_other, counted true others))
none_same (false ∷ rows) (false ∷ others) same none no_other =
    ap (λ l. false ∷ l) (none_same rows others (omega (arith, same)) (omega (arith, none, counted false rows)) (omega (arith, no_other, counted false others)))

pub all_same : (rows others : List Bool) → length others ≡ length rows → count_by (λ b. b) rows ≡ length rows → count_by (λ b. b) others ≡ length others → rows ≡ others
all_same [] [] same all all_others = refl
all_same [] (b ∷ others) same all all_others = absurd (omega (arith, same))
all_same (a ∷ rows) [] same all all_others = absurd (omega (arith, same))
all_same (false ∷ rows) (b ∷ others) same all all_others = absurd (omega (arith, all, counted false rows, at_most rows))
all_same (true ∷ rows) (false ∷ others) same all all_others = absurd (omega (arith, all_others, counted false others, at_most others))
all_same (true ∷ rows) (true ∷ others) same all all_others =
    ap (λ l. true ∷ l) (all_same rows others (omega (arith, same)) (omega (arith, all, counted true rows)) (omega (arith, all_others, counted true others)))

-- all rows are among those of a mask that has all
pub among_all : (rows others : List Bool) → length others ≡ length rows → count_by (λ b. b) others ≡ length others → zip2 (λ a b. a && b) rows others ≡ rows
among_all [] others same all = refl
among_all (a ∷ rows) [] same all = absurd (omega (arith, same))
among_all (a ∷ rows) (false ∷ others) same all = absurd (omega (arith, all, counted false others, at_most others))
among_all (false ∷ rows) (true ∷ others) same all = ap (λ l. false ∷ l) (among_all rows others (omega (arith, same)) (omega (arith, all, counted true others)))
among_all (true ∷ rows) (true ∷ others) same all = ap (λ l. true ∷ l) (among_all rows others (omega (arith, same)) (omega (arith, all, counted true others)))
