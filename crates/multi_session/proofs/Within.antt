-- The columns that queries name, and limits.
use Rattle.std.proofs.Common.{◌≡◌, ℕ, ◌≤◌, Bool, true, false, if◌then◌else◌, Option, Some, None, List, [], ◌∷◌, ◌++◌, length, nat_lt, refl, ap, arith}
use Rattle.std.proofs.lemmas.Bool.Decides.{nat_tests}
use Rattle.kleene_filter.specs.Filters.{stands_in}
use Rattle.query_model.specs.Queries.{Query}
use Rattle.multi_session.specs.declared.limits.SessionFault.{SessionFault}
use Rattle.multi_session.specs.Limits.{limit_passed}
use Rattle.multi_session.specs.Sessions.{columns_named, with_column}

pub with_new : (columns : List ℕ) (place : ℕ) → stands_in columns place ≡ false → with_column columns place ≡ columns ++ place ∷ []
with_new columns place e = ap (λ b. if b then columns else columns ++ place ∷ []) e

pub with_old : (columns : List ℕ) (place : ℕ) → stands_in columns place ≡ true → with_column columns place ≡ columns
with_old columns place e = ap (λ b. if b then columns else columns ++ place ∷ []) e

none_first : (b : Bool) (fault : SessionFault) (rest : Option SessionFault) → (if b then Some fault else rest) ≡ None → (b ≡ false) × (rest ≡ None)
none_first true fault rest e = cc
none_first false fault rest e = (refl, e)

at_most : (limit n : ℕ) → nat_lt limit n ≡ false → n ≤ limit
at_most limit n e = grind (arith, nat_tests)

pub few_queries : (rows : ℕ) (queries : List Query) → limit_passed rows queries ≡ None → length queries ≤ 16
few_queries rows queries none = at_most 16 (length queries) (none_first (nat_lt 16 (length queries)) _ _ none).0

pub few_named : (rows : ℕ) (queries : List Query) → limit_passed rows queries ≡ None → length (columns_named queries) ≤ 16
few_named rows queries none =
    at_most 16 (length (columns_named queries)) (none_first (nat_lt 16 (length (columns_named queries))) _ _ (none_first (nat_lt 16 (length queries)) _ _ none).1).0
