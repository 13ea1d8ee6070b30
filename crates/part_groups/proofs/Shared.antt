-- Forms that lines share.
use Rattle.std.proofs.Common.{◌≡◌, ◌∙◌, ℕ, suc, zero, ◌+◌, ◌<◌, List, [], ◌∷◌, ◌++◌, false, length, refl, arith, sym, ap, subst, inl, inr, ◌⊎◌, Option}
use Rattle.std.proofs.lemmas.Bool.{false≢true}
use Rattle.part_groups.specs.Faults.{IsFirstOther, IsFormFault, IsOtherForm, other_form}
use Rattle.part_groups.specs.Forms.{AreAlike, AreSharedForms, are_alike, form_at, shared_form, told_over}
use Rattle.part_groups.specs.declared.fault.CombineFault.{CombineFault}
use Rattle.part_groups.specs.declared.fault.CombineFault.TheVariants.{NoMemory, OtherColumn, OtherItem, TooWide}
use Rattle.part_groups.specs.declared.forms.EndsForm.{EndsForm}
use Rattle.part_groups.specs.declared.forms.Places.{Places}
use Rattle.part_groups.specs.declared.forms.Places.TheVariants.{Columns, Items}
use Rattle.part_groups.specs.declared.group.Group.{Group}

pub no_form : (places : Places) (number : ℕ) (parts : List (List Group)) (forms : List (Option EndsForm)) → forms ≡ told_over places number parts →
    are_alike forms ≡ false → IsFormFault (other_form places number) places number parts
no_form Columns number parts forms e f = (refl, refl, λ t. false≢true (sym f ∙ ap are_alike e ∙ t))
no_form Items number parts forms e f = (refl, refl, λ t. false≢true (sym f ∙ ap are_alike e ∙ t))

first_other : (places same : Places) (number place count : ℕ) (parts : List (List Group)) → number < count → places ≡ same → place ≡ number →
    (AreAlike places number parts → ⊥) → ((n : ℕ) → n < number → AreAlike places n parts) → IsFirstOther same place count parts
first_other places same number place count parts h p e other before = record {
  there = subst (λ (n : ℕ). n < count) (sym e) h;
  other = λ a. other (subst (λ (q : Places). AreAlike q number parts) (sym p) (subst (λ (n : ℕ). AreAlike same n parts) e a));
  before = λ n l. subst (λ (q : Places). AreAlike q n parts) p (before n (subst (λ (m : ℕ). n < m) e l));
}

pub other_than : (why : CombineFault) (places : Places) (number count : ℕ) (parts : List (List Group)) → number < count →
    ((n : ℕ) → n < number → AreAlike places n parts) → IsFormFault why places number parts → IsOtherForm why places count parts
other_than NoMemory places number count parts h before f = tt
other_than (OtherColumn column) places number count parts h before f = (f.0, first_other places Columns number column count parts h f.0 f.1 f.2 before)
other_than (OtherItem item) places number count parts h before f = (f.0, first_other places Items number item count parts h f.0 f.1 f.2 before)
other_than (TooWide item) places number count parts h before f = absurd f

below : (n k : ℕ) → n < suc k → (n < k) ⊎ (n ≡ k)
below zero zero h = inr refl
below zero (suc k) h = inl (omega arith)
below (suc n) zero h = absurd (omega (arith, h))
below (suc n) (suc k) h = elim (below n k (omega (arith, h))) [ inl l ↦ inl (omega (arith, l)) | inr e ↦ inr (ap suc e) ]

at_front : (forms : List (Option EndsForm)) (form : Option EndsForm) (n : ℕ) → n < length forms → form_at n (forms ++ form ∷ []) ≡ form_at n forms
at_front [] form n h = absurd (omega (arith, h))
at_front (f ∷ forms) form zero h = refl
at_front (f ∷ forms) form (suc n) h = at_front forms form n (omega (arith, h))

at_end : (forms : List (Option EndsForm)) (form : Option EndsForm) → form_at (length forms) (forms ++ form ∷ []) ≡ form
at_end [] form = refl
at_end (f ∷ forms) form = at_end forms form

one_longer : (forms : List (Option EndsForm)) (form : Option EndsForm) → length (forms ++ form ∷ []) ≡ length forms + 1
one_longer [] form = refl
one_longer (f ∷ forms) form = let e = one_longer forms form in omega (arith, e)

pub one_more : (places : Places) (number : ℕ) (parts : List (List Group)) (forms next : List (Option EndsForm)) (form : Option EndsForm) →
    next ≡ forms ++ form ∷ [] → form ≡ shared_form (told_over places number parts) → AreAlike places number parts →
    AreSharedForms places number parts forms → AreSharedForms places (number + 1) parts next
one_more places number parts forms next form e f a h = record {
  all = ap length e ∙ one_longer forms form ∙ ap (λ (n : ℕ). n + 1) h.all;
  alike = λ n l. elim (below n number (omega (arith, l))) [
    | inl k ↦ h.alike n k
    | inr s ↦ subst (λ (m : ℕ). AreAlike places m parts) (sym s) a
  ];
  each = λ n l. elim (below n number (omega (arith, l))) [
    | inl k ↦ ap (form_at n) e ∙ at_front forms form n (subst (λ (m : ℕ). n < m) (sym h.all) k) ∙ h.each n k
    | inr s ↦ ap (λ (m : ℕ). form_at m next) (s ∙ sym h.all) ∙ ap (form_at (length forms)) e ∙ at_end forms form ∙ f
        ∙ ap (λ (m : ℕ). shared_form (told_over places m parts)) (sym s)
  ];
}
