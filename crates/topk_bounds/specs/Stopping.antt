-- The rows of a mask up to the last of so many that are counted.
use Rattle.std.specs.Prelude.{◌≡◌, ℕ, ◌<◌, ◌≤◌, nat_lt, Bool, false, ◌&&◌, List, length}
use Rattle.topk_bounds.specs.Standings.{count_rows, is_in}

-- fewer rows than are wanted are counted before the row
abbrev pub is_reached : ℕ → List Bool → ℕ → Bool
is_reached wanted counted x = nat_lt (count_rows x (is_in counted)) wanted

-- the rows past those that are wanted are taken away
abbrev pub StopsAt : ℕ → List Bool → List Bool → List Bool → Type 0
StopsAt wanted counted old new = (x : ℕ) → x < length old → is_in new x ≡ (is_in old x && is_reached wanted counted x)

-- the same of the rows from one to another, and the others stay
pub record Stops (wanted : ℕ) (counted : List Bool) (from to : ℕ) (old new : List Bool) : Type 0 where
  pub inside : (x : ℕ) → from ≤ x → x < to → is_in new x ≡ (is_in old x && is_reached wanted counted x)
  pub before : (x : ℕ) → x < from → is_in new x ≡ is_in old x
  pub behind : (x : ℕ) → to ≤ x → is_in new x ≡ is_in old x

-- the rows from one to another are taken away, and the others stay
pub record Clears (from to : ℕ) (old new : List Bool) : Type 0 where
  pub inside : (x : ℕ) → from ≤ x → x < to → is_in new x ≡ false
  pub before : (x : ℕ) → x < from → is_in new x ≡ is_in old x
  pub behind : (x : ℕ) → to ≤ x → is_in new x ≡ is_in old x
