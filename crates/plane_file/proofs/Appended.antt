-- Lists that are appended one after the other, where the last may not come.
use Rattle.std.proofs.Common.{◌≡◌, ℕ, List, ◌++◌, Ok, Err, OnOk, ap, ◌∙◌, append_assoc}
use Rattle.std.specs.declared.result.Result.{Result}

pub two_appended : {T E : Type 0} (r : Result T E) (b0 b1 b2 x1 x2 : List ℕ) → b1 ≡ b0 ++ x1 → OnOk r (b2 ≡ b1 ++ x2) → OnOk r (b2 ≡ b0 ++ (x1 ++ x2))
two_appended (Ok x) b0 b1 b2 x1 x2 e1 e2 = e2 ∙ ap (λ b. b ++ x2) e1 ∙ append_assoc b0 x1 x2
two_appended (Err e) b0 b1 b2 x1 x2 e1 e2 = tt

pub three_appended : {T E : Type 0} (r : Result T E) (b0 b1 b2 b3 x1 x2 x3 x4 : List ℕ) → b1 ≡ b0 ++ x1 → b2 ≡ b1 ++ (x2 ++ x3) → OnOk r (b3 ≡ b2 ++ x4) →
    OnOk r (b3 ≡ b0 ++ (x1 ++ (x2 ++ (x3 ++ x4))))
three_appended (Ok x) b0 b1 b2 b3 x1 x2 x3 x4 e1 e2 e3 = e3 ∙ ap (λ b. b ++ x4) (e2 ∙ ap (λ b. b ++ (x2 ++ x3)) e1) ∙ simp append_assoc
three_appended (Err e) b0 b1 b2 b3 x1 x2 x3 x4 e1 e2 e3 = tt
