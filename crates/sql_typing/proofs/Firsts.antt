-- The first of some faults.
use Rattle.std.proofs.Common.{◌≡◌, Bool, true, false, Option, Some, None, inl, inr, List, ◌∷◌, refl, sym, ap, subst, ◌∙◌}
use Rattle.sql_typing.specs.Faults.{fault_if, first_in, first_of}
use Rattle.sql_typing.specs.Parts.{IsFault}
use Rattle.sql_typing.specs.declared.fault.TypeFault.{TypeFault}

pub none_first : (a b : Option TypeFault) → first_of a b ≡ None → a ≡ None
none_first None b h = refl
none_first (Some fault) b h = absurd cc

pub none_later : (a b : Option TypeFault) → first_of a b ≡ None → b ≡ None
none_later None b h = h
none_later (Some fault) b h = absurd cc

pub not_if : (test : Bool) (fault : TypeFault) → fault_if test fault ≡ None → test ≡ false
not_if true fault h = absurd cc
not_if false fault h = refl

-- the first of two faults
pub fault_is : (fault : TypeFault) (a b : Option TypeFault) → IsFault fault a → IsFault fault (first_of a b)
fault_is fault a b (inl memory) = inl memory
fault_is fault a b (inr here) = inr (rw here refl)

-- the first fault of a list is that of its first element
pub bad_first : {A : Type 0} (check : A → Option TypeFault) (v : A) (vs rest : List A) (first : Option TypeFault) (fault : TypeFault)
    → vs ≡ v ∷ rest → first_in check vs ≡ first → IsFault fault (check v) → IsFault fault first
bad_first check v vs rest first fault e h bad =
    subst (IsFault fault) (sym (ap (first_in check) e) ∙ h) (fault_is fault (check v) _ bad)

pub next_first : {A : Type 0} (check : A → Option TypeFault) (v : A) (vs rest : List A) (first : Option TypeFault)
    → vs ≡ v ∷ rest → first_in check vs ≡ first → check v ≡ None → first_in check rest ≡ first
next_first check v vs rest first e h good =
    let here : first_in check (v ∷ rest) ≡ first_in check rest = rw good refl in
    sym here ∙ (sym (ap (first_in check) e) ∙ h)
