-- Rounds by a list read its columns, in order.
use Rattle.std.proofs.Common.{◌≡◌, ℕ, zero, suc, ◌+◌, ◌<◌, ◌≤◌, ◌==◌, true, List, [], ◌∷◌, length, get_or, take, refl, sym, ap, ◌∙◌, subst, arith, slice_get, count_by, cond}
use Rattle.std.proofs.lemmas.Bool.Decides.{nat_tests}
use Rattle.std.proofs.lemmas.List.Sums.{count_by_more_yes, sum_by-take-le}
use Rattle.std.specs.declared.option.Option.TheVariants.{Some}
use Rattle.std.specs.List.{AllByRecursion}

-- the first elements of a list, where each is the list's at its place
pub same_first : (xs ys : List ℕ) → ((i : ℕ) → i < length xs → slice_get ys i ≡ Some (get_or xs i 0)) → xs ≡ take (length xs) ys
same_first [] ys same = refl
same_first (x ∷ xs) [] same = absurd (let e = same 0 (omega arith) in cc)
same_first (x ∷ xs) (y ∷ ys) same =
    let here : y ≡ x = the_same y x (same 0 (omega arith)) in
    let rest = same_first xs ys (λ i h. same (suc i) (omega arith)) in
    ap (λ z. z ∷ xs) (sym here) ∙ ap (λ zs. y ∷ zs) rest
  where
    the_same : (a b : ℕ) → Some a ≡ Some b → a ≡ b
    the_same a b e = cc

pub longer_list : (xs ys : List ℕ) → ((i : ℕ) → i < length xs → slice_get ys i ≡ Some (get_or xs i 0)) → length xs ≤ length ys
longer_list [] ys same = omega arith
longer_list (x ∷ xs) [] same = absurd (let e = same 0 (omega arith) in cc)
longer_list (x ∷ xs) (y ∷ ys) same = let rest = longer_list xs ys (λ i h. same (suc i) (omega arith)) in omega (arith, rest)

is_same : (a : ℕ) → (a == a) ≡ true
is_same a = grind (arith, nat_tests)

-- a column that stands at a place of the list stands in it more often than before that place
pub one_more_there : (list : List ℕ) (i c : ℕ) → i < length list → get_or list i 0 ≡ c → count_by (λ d. d == c) (take i list) < count_by (λ d. d == c) list
one_more_there list i c h is =
    let one = count_by_more_yes (λ d. d == c) list i 0 h (subst (λ k. (k == c) ≡ true) (sym is) (is_same c)) in
    let few = sum_by-take-le (λ d. cond (d == c) 1 0) list (i + 1) in
    omega (arith, one, few)

pub all_at : (P : ℕ → Type 0) (xs : List ℕ) (c : ℕ) → AllByRecursion P xs → c < length xs → P (get_or xs c 0)
all_at P [] c all h = absurd (omega arith)
all_at P (x ∷ xs) zero all h = all.0
all_at P (x ∷ xs) (suc c) all h = all_at P xs c all.1 (omega arith)
