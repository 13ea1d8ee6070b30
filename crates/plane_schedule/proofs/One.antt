-- A policy chooses one column at most, and a word names the policy that has it.
use Rattle.std.proofs.Common.{◌≡◌, ◌≢◌, ◌⊎◌, ℕ, ◌<◌, ◌≤◌, Bool, true, false, if◌then◌else◌, List, refl, sym, subst, ◌∙◌, arith, inl, inr, slice_get}
use Rattle.std.specs.Str.{bytes_eq}
use Rattle.std.proofs.lemmas.Slice.Eq.{bytes_eq-Decides}
use Rattle.std.proofs.lemmas.Bool.{cases_lt, cases_eq}
use Rattle.std.specs.declared.option.Option.{Option}
use Rattle.std.specs.declared.option.Option.TheVariants.{Some, None}
use Rattle.plane_schedule.specs.declared.policies.FixedPolicy.{FixedPolicy}
use Rattle.plane_schedule.specs.declared.policies.FixedPolicy.TheVariants.{Widest, InOrder, FilterFirst, Balanced}
use Rattle.plane_schedule.specs.declared.policy.Policy.TheVariants.{By, Listed}
use Rattle.plane_schedule.specs.declared.progress.Role.TheVariants.{Filter, Group, Value}
use Rattle.plane_schedule.specs.Choices.{HasLeftFor, HasRole, HasUnreadOf, IsBalanced, IsFilterFirst, IsFirst, IsLeastTakenOf, IsOf, IsReadFor, IsWidestOf, Outlook, PartsRows, policy_named, policy_word}
use Rattle.plane_schedule.specs.Laws.{ChoicesAreOne}

only_widest : (IsOfSort : ℕ → Type 0) (o : Outlook) (c d : ℕ) → IsWidestOf IsOfSort o c → IsWidestOf IsOfSort o d → c ≡ d
only_widest IsOfSort o c d wc wd = by (cases_lt c d) (cases_lt d c)
  where
    by : ((c < d) ⊎ (d ≤ c)) → ((d < c) ⊎ (c ≤ d)) → c ≡ d
    by (inl less) other = absurd (let first = wd.first c less wc.of_sort wc.unread in let most = wc.widest d wd.of_sort wd.unread in omega (arith, first, most))
    by (inr k) (inl less) = absurd (let first = wc.first d less wd.of_sort wd.unread in let most = wd.widest c wc.of_sort wc.unread in omega (arith, first, most))
    by (inr k) (inr l) = omega (arith, k, l)

only_first : (o : Outlook) (c d : ℕ) → IsFirst o c → IsFirst o d → c ≡ d
only_first o c d fc fd = by (cases_lt c d) (cases_lt d c)
  where
    by : ((c < d) ⊎ (d ≤ c)) → ((d < c) ⊎ (c ≤ d)) → c ≡ d
    by (inl less) other = absurd (fd.first c less fc.unread)
    by (inr k) (inl less) = absurd (fc.first d less fd.unread)
    by (inr k) (inr l) = omega (arith, k, l)

-- were they two, none of the three cases could be
only_filter_first : (o : Outlook) (c d : ℕ) → IsFilterFirst o c → IsFilterFirst o d → c ≡ d
only_filter_first o c d fc fd = by (cases_eq c d)
  where
    by : ((c ≡ d) ⊎ (c ≢ d)) → c ≡ d
    by (inl same) = same
    by (inr other) =
        let no_filter : ¬ ((0 < o.unknown) × HasUnreadOf Filter o) = λ some. other (only_widest (HasRole o Filter) o c d (fc.filter some.0 some.1) (fd.filter some.0 some.1)) in
        let no_group : ¬ HasUnreadOf Group o = λ some. other (only_widest (HasRole o Group) o c d (fc.group no_filter some) (fd.group no_filter some)) in
        absurd (other (only_widest (IsOf o None) o c d (fc.rest no_filter no_group) (fd.rest no_filter no_group)))

only_least : (IsOfSort : ℕ → Type 0) (o : Outlook) (c d : ℕ) → IsLeastTakenOf IsOfSort o c → IsLeastTakenOf IsOfSort o d → c ≡ d
only_least IsOfSort o c d lc ld = by (cases_lt c d) (cases_lt d c)
  where
    by : ((c < d) ⊎ (d ≤ c)) → ((d < c) ⊎ (c ≤ d)) → c ≡ d
    by (inl less) other = absurd (let first = ld.first c less lc.of_sort lc.unread in let least = lc.least d ld.of_sort ld.unread in omega (arith, first, least))
    by (inr k) (inl less) = absurd (let first = lc.first d less ld.of_sort ld.unread in let least = ld.least c lc.of_sort lc.unread in omega (arith, first, least))
    by (inr k) (inr l) = omega (arith, k, l)

only_balanced : (o : Outlook) (c d : ℕ) → IsBalanced o c → IsBalanced o d → c ≡ d
only_balanced o c d bc bd = by (cases_eq c d)
  where
    by : ((c ≡ d) ⊎ (c ≢ d)) → c ≡ d
    by (inl same) = same
    by (inr other) =
        let no_parts : ¬ PartsRows o = λ parts. other (only_least (IsReadFor o Filter) o c d (bc.filter parts) (bd.filter parts)) in
        let no_group : ¬ HasLeftFor Group o = λ some. other (only_least (IsReadFor o Group) o c d (bc.group no_parts some) (bd.group no_parts some)) in
        absurd (other (only_least (IsReadFor o Value) o c d (bc.value no_parts no_group) (bd.value no_parts no_group)))

same_some : (c d : ℕ) (r : Option ℕ) → r ≡ Some c → r ≡ Some d → c ≡ d
same_some c d r a b = by (sym a ∙ b)
  where
    by : Some c ≡ Some d → c ≡ d
    by e = cc

pub choices_are_one : ChoicesAreOne
choices_are_one (By Widest) o c d a b = only_widest (IsOf o None) o c d a b
choices_are_one (By InOrder) o c d a b = only_first o c d a b
choices_are_one (By FilterFirst) o c d a b = only_filter_first o c d a b
choices_are_one (By Balanced) o c d a b = only_balanced o c d a b
choices_are_one (Listed list) o c d a b = same_some c d (slice_get list o.read) a.next b.next

-- ---- words

pub word_named : (policy : FixedPolicy) → policy_named (policy_word policy) ≡ Some policy
unfolding policy_named
word_named Widest = refl
word_named InOrder = refl
word_named FilterFirst = refl
word_named Balanced = refl

same_word : (w v : List ℕ) → bytes_eq w v ≡ true → w ≡ v
same_word w v e = (bytes_eq-Decides w v).0 e

same_policy : (p q : FixedPolicy) → Some p ≡ Some q → p ≡ q
same_policy p q e = cc

-- a word is that of the policy, or it names what other words do
module _ (w : List ℕ) (p : FixedPolicy) where
  or_else : (q : FixedPolicy) (rest : Option FixedPolicy) (is : Bool) → bytes_eq w (policy_word q) ≡ is → (rest ≡ Some p → w ≡ policy_word p) →
      (if is then Some q else rest) ≡ Some p → w ≡ policy_word p
  or_else q rest true is other e = same_word w (policy_word q) is ∙ sym (subst (λ r. policy_word p ≡ policy_word r) (sym (same_policy q p e)) refl)
  or_else q rest false is other e = other e

pub named_word : (w : List ℕ) (p : FixedPolicy) → policy_named w ≡ Some p → w ≡ policy_word p
unfolding policy_named
named_word w p =
    or_else w p Widest _ _ refl
    (or_else w p InOrder _ _ refl
    (or_else w p FilterFirst _ _ refl
    (or_else w p Balanced _ _ refl (λ e. cc))))
