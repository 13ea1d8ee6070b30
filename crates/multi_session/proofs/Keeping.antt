-- Columns that stand once.
use Rattle.std.proofs.Common.{◌≡◌, ℕ, zero, suc, ◌<◌, ◌==◌, Bool, true, false, not, ◌&&◌, ◌||◌, List, [], ◌∷◌, length, get_or, refl, sym, ap, ◌∙◌, arith, IsTrue}
use Rattle.std.proofs.lemmas.Bool.{eq-eqb}
use Rattle.std.specs.List.{list_any}
use Rattle.query_model.specs.Validity.{no_repeats}

both : (a b : Bool) → IsTrue (a && b) → IsTrue a × IsTrue b
both true b e = (refl, e)
both false b e = cc

any_there : (p : ℕ → Bool) (xs : List ℕ) (j : ℕ) → j < length xs → p (get_or xs j 0) ≡ true → list_any p xs ≡ true
any_there p [] j h e = absurd (omega arith)
any_there p (x ∷ xs) zero h e = rw e refl
any_there p (x ∷ xs) (suc j) h e = by (p x) (any_there p xs j (omega arith) e)
  where
    by : (b : Bool) → list_any p xs ≡ true → b || list_any p xs ≡ true
    by true rest = refl
    by false rest = rest

pub stands_once : (xs : List ℕ) → IsTrue (no_repeats xs) → (i j : ℕ) → i < length xs → j < length xs → get_or xs i 0 ≡ get_or xs j 0 → i ≡ j
stands_once [] once i j h k e = absurd (omega arith)
stands_once (x ∷ xs) once zero zero h k e = refl
stands_once (x ∷ xs) once zero (suc j) h k e =
    let parts = both (not (list_any (λ y. x == y) xs)) (no_repeats xs) once in
    let there = any_there (λ y. x == y) xs j (omega arith) (eq-eqb x (get_or xs j 0) e) in
    let never : false ≡ true = sym (ap not there) ∙ parts.0 in cc
stands_once (x ∷ xs) once (suc i) zero h k e =
    let parts = both (not (list_any (λ y. x == y) xs)) (no_repeats xs) once in
    let there = any_there (λ y. x == y) xs i (omega arith) (eq-eqb x (get_or xs i 0) (sym e)) in
    let never : false ≡ true = sym (ap not there) ∙ parts.0 in cc
stands_once (x ∷ xs) once (suc i) (suc j) h k e =
    let parts = both (not (list_any (λ y. x == y) xs)) (no_repeats xs) once in
    ap suc (stands_once xs parts.1 i j (omega arith) (omega arith) e)
