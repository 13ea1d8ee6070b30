-- A plane that is handed to the queries one after another.
use Rattle.plane_schedule.specs.declared.policy.Nearness.{Nearness}
use Rattle.std.proofs.Common.{◌≡◌, ◌⊎◌, inl, inr, ℕ, ◌+◌, ◌<◌, Bool, List, length, get_or, set, sym, ◌∙◌, subst, arith}
use Rattle.std.proofs.lemmas.Bool.{cases_eq}
use Rattle.std.proofs.lemmas.List.{get_or-set_other, get_or-set_same, length-set}
use Rattle.known_column.specs.KnownTables.{KnownTable}
use Rattle.multi_session.specs.declared.member.Member.{Member}
use Rattle.multi_session.specs.Members.{HandedBelow, WasHanded}

-- one more member was handed it
pub handed_more : (near : Nearness) (step place : ℕ) (places : List ℕ) (bits : List Bool) (table : KnownTable) (old now : List Member) (k : ℕ) (m next : Member) →
    HandedBelow near step place places bits table old now k → k < length old → ((d : Member) → get_or now k d ≡ m) →
    WasHanded near step place places bits table m next → HandedBelow near step place places bits table old (set now k next) (k + 1)
handed_more near step place places bits table old now k m next handed inside value was = record {
  wide = length-set now k next ∙ handed.wide;
  handed = λ j d h. took j d h (cases_eq j k);
  rest = λ j d h. get_or-set_other now k j next d (λ e. absurd (omega arith)) ∙ handed.rest j d (omega arith);
}
  where
    here : k < length now
    here = subst (λ n. k < n) (sym handed.wide) inside

    before : (d : Member) → get_or old k d ≡ m
    before d = sym (handed.rest k d (omega arith)) ∙ value d

    took : (j : ℕ) (d : Member) → j < k + 1 → (j ≡ k) ⊎ (j ≡ k → ⊥) → WasHanded near step place places bits table (get_or old j d) (get_or (set now k next) j d)
    took j d h (inl e) =
        subst (λ i. WasHanded near step place places bits table (get_or old i d) (get_or (set now k next) i d)) (sym e)
        (subst (WasHanded near step place places bits table (get_or old k d)) (sym (get_or-set_same now k next d here))
        (subst (λ n. WasHanded near step place places bits table n next) (sym (before d)) was))
    took j d h (inr other) =
        subst (WasHanded near step place places bits table (get_or old j d)) (sym (get_or-set_other now k j next d other)) (handed.handed j d (omega (arith, other)))
