-- The laws of policies, as statements. A public function with an empty body has each as its contract.
use Rattle.std.specs.Prelude.{◌≡◌, ℕ}
use Rattle.plane_schedule.specs.declared.policies.FixedPolicy.{FixedPolicy}
use Rattle.plane_schedule.specs.declared.policy.Policy.{Policy}
use Rattle.plane_schedule.specs.declared.policy.Policy.TheVariants.{By}
use Rattle.plane_schedule.specs.Choices.{Chooses, HasChoice, HasUnread, Outlook}

-- a policy chooses one column at most
abbrev pub ChoicesAreOne : Type 0
ChoicesAreOne = (policy : Policy) (o : Outlook) (c d : ℕ) → Chooses policy o c → Chooses policy o d → c ≡ d

-- where a plane is unread, each policy but a list chooses one
abbrev pub PoliciesChoose : Type 0
PoliciesChoose = (o : Outlook) → HasUnread o → (policy : FixedPolicy) → HasChoice (By policy) o
