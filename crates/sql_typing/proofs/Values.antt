-- The values of an IN, one after the other.
use Rattle.std.proofs.Common.{◌≡◌, ◌≢◌, ℕ, ◌+◌, ◌==◌, true, false, List, ◌∷◌, Option, None, Some, refl, sym, ap, inr, subst, ◌∙◌, arith}
use Rattle.std.proofs.lemmas.Bool.Decides.{nat_tests}
use Rattle.daq_table.specs.declared.head.Kind.{Kind}
use Rattle.sql_text.specs.Tree.{Operand}
use Rattle.sql_typing.specs.Faults.{value_fault, values_fault}
use Rattle.sql_typing.specs.Kinds.{place_of_operand}
use Rattle.sql_typing.specs.Parts.{IsFault}
use Rattle.sql_typing.specs.declared.fault.TypeFault.{TypeFault}
use Rattle.sql_typing.specs.declared.fault.TypeFault.TheVariants.{TooManyValues}
use Rattle.sql_typing.proofs.Firsts.{fault_is}

at_limit : (k : ℕ) → k ≡ 64 → (k == 64) ≡ true
at_limit k h = grind (arith, nat_tests)

below_limit : (k : ℕ) → k ≢ 64 → (k == 64) ≡ false
below_limit k h = grind (arith, nat_tests)

-- the first fault of a list is that of its first element
pub bad_value : (kind : Kind) (k : ℕ) (v : Operand) (vs rest : List Operand) (first : Option TypeFault) (fault : TypeFault)
    → vs ≡ v ∷ rest → values_fault kind k vs ≡ first → IsFault fault (value_fault kind v) → IsFault fault first
bad_value kind k v vs rest first fault e h bad =
    subst (IsFault fault) (sym (ap (values_fault kind k) e) ∙ h) (fault_is fault (value_fault kind v) _ bad)

pub one_too_many : (kind : Kind) (k : ℕ) (v : Operand) (vs rest : List Operand) (first : Option TypeFault)
    → vs ≡ v ∷ rest → values_fault kind k vs ≡ first → value_fault kind v ≡ None → k ≡ 64 → IsFault (TooManyValues (place_of_operand v)) first
one_too_many kind k v vs rest first e h good many =
    let here : values_fault kind k (v ∷ rest) ≡ Some (TooManyValues (place_of_operand v)) = rw (good, at_limit k many) refl in
    inr (sym h ∙ (ap (values_fault kind k) e ∙ here))

pub next_value : (kind : Kind) (k : ℕ) (v : Operand) (vs rest : List Operand) (first : Option TypeFault)
    → vs ≡ v ∷ rest → values_fault kind k vs ≡ first → value_fault kind v ≡ None → k ≢ 64 → values_fault kind (k + 1) rest ≡ first
next_value kind k v vs rest first e h good few =
    let here : values_fault kind k (v ∷ rest) ≡ values_fault kind (k + 1) rest = rw (good, below_limit k few) refl in
    sym here ∙ (sym (ap (values_fault kind k) e) ∙ h)
