-- What is known of the closure that a chooser asks.
use Rattle.std.specs.Prelude.{ℕ}
use Rattle.std.specs.Fn.{Shared}
use Rattle.std.specs.Borrow.{Bor}
use Rattle.plane_schedule.specs.declared.policy.Policy.{Policy}
use Rattle.plane_schedule.specs.declared.progress.Progress.{Progress}
use Rattle.plane_schedule.specs.Choices.{Chooses, HasChoice, HasUnread, IsSound, IsUnread, outlook_of}

-- wherever a plane is unread the closure may be called, and names a column with an unread plane
pub record Keeps {F : Type 0} (g : Shared F (Bor Progress × Unit {0}) ℕ) (choose : F) : Type 0 where
  pub callable : (p : Bor Progress) → IsSound p.now → HasUnread (outlook_of p.now) → g.pre choose (p, tt)
  pub names : (p : Bor Progress) (n : ℕ) → IsSound p.now → HasUnread (outlook_of p.now) →
      g.post choose (p, tt) n → IsUnread (outlook_of p.now) n

-- wherever the policy chooses a column, the closure names it
abbrev pub Follows : {F : Type 0} → Shared F (Bor Progress × Unit {0}) ℕ → F → Policy → Type 0
Follows g choose policy =
    (p : Bor Progress) (n : ℕ) → IsSound p.now → HasChoice policy (outlook_of p.now) →
    g.post choose (p, tt) n → Chooses policy (outlook_of p.now) n
