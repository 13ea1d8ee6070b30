-- The planes of columns that are there, and of those that are not.
use Rattle.std.proofs.Common.{◌≡◌, ℕ, zero, suc, ◌<◌, ◌≤◌, List, [], ◌∷◌, length, map, get_or, refl, sym, ap, ◌∙◌, arith}
use Rattle.daq_table.specs.Tables.{binary_digits, ends_of, no_ends, planes}
use Rattle.daq_table.specs.declared.head.ColumnHead.{ColumnHead}
use Rattle.daq_table.specs.declared.head.Ends.{Ends}
use Rattle.sql_typing.specs.Faults.{ends_in, planes_at}

no_planes : planes no_ends ≡ 0
unfolding binary_digits
no_planes = refl

past : {A B : Type 0} (f : A → B) (xs : List A) (i : ℕ) (d : B) → length xs ≤ i → get_or (map f xs) i d ≡ d
past f [] i d h = refl
past f (x ∷ xs) zero d h = absurd (omega arith)
past f (x ∷ xs) (suc i) d h = past f xs i d (omega arith)

there : {A B : Type 0} (f : A → B) (xs : List A) (i : ℕ) (x : A) (d : B) → i < length xs → x ≡ get_or xs i x → get_or (map f xs) i d ≡ f x
there f [] i x d h e = absurd (omega arith)
there f (y ∷ xs) zero x d h e = ap f (sym e)
there f (y ∷ xs) (suc i) x d h e = there f xs i x d (omega arith) e

pub no_column : (table : List ColumnHead) (columns : List ℕ) (number : ℕ) → length columns ≤ number → 0 ≡ planes_at table columns number
no_column table columns number h = sym (ap (λ (e : Ends). planes e) (past (ends_in table) columns number no_ends h) ∙ no_planes)

pub outside : (table : List ColumnHead) (columns : List ℕ) (number place : ℕ) → number < length columns → place ≡ get_or columns number place → length table ≤ place → 0 ≡ planes_at table columns number
outside table columns number place h e k =
    sym (ap (λ (x : Ends). planes x) (there (ends_in table) columns number place no_ends h e ∙ past ends_of table place no_ends k) ∙ no_planes)
