-- One more column of a record has taken its field.
use Rattle.std.proofs.Common.{◌≡◌, ℕ, ◌+◌, ◌<◌, List, [], get_or, set, length, ap, subst, inl, inr, ◌∙◌, arith}
use Rattle.std.proofs.lemmas.Bool.{cases_lt}
use Rattle.std.proofs.lemmas.List.{get_or-set_other, get_or-set_same, get_or_default, length-set}
use Rattle.csv_load.specs.Records.{Fields}
use Rattle.csv_load.specs.States.{State, Takes, TookBelow, state_with}

pub took_more : (limit : ℕ) (old now : List State) (fields : Fields) (n : ℕ) (some taken : State) (text : List ℕ) → TookBelow limit old fields now n → n < length now
    → text ≡ get_or fields n [] → Takes limit (get_or now n some) text → taken ≡ state_with (get_or now n some) text → TookBelow limit old fields (set now n taken) (n + 1)
took_more limit old now fields n some taken text h lt field takes e = record {
  wide = length-set now n taken ∙ h.wide;
  takes = λ c d below. elim (cases_lt c n) [
    | inl less ↦ h.takes c d less
    | inr more ↦ let same : n ≡ c = omega (arith, more, below) in subst (λ (k : ℕ). Takes limit (get_or old k d) (get_or fields k [])) same (subst (λ (s : State). Takes limit s (get_or fields n [])) (was d) (subst (λ (t : List ℕ). Takes limit (get_or now n some) t) field takes))
  ];
  took = λ c d below. elim (cases_lt c n) [
    | inl less ↦ get_or-set_other now n c taken d (omega (arith, less)) ∙ h.took c d less
    | inr more ↦ let same : n ≡ c = omega (arith, more, below) in subst (λ (k : ℕ). get_or (set now n taken) k d ≡ state_with (get_or old k d) (get_or fields k [])) same
        (get_or-set_same now n taken d lt ∙ e ∙ ap (state_with (get_or now n some)) field ∙ ap (λ (s : State). state_with s (get_or fields n [])) (was d))
  ];
  rest = λ c d le. get_or-set_other now n c taken d (omega (arith, le)) ∙ h.rest c d (omega (arith, le));
}
  where
    was : (d : State) → get_or now n some ≡ get_or old n d
    was d = get_or_default now n some d lt ∙ h.rest n d (omega arith)
