-- The policies: their words, and the column that each reads next.
use Rattle.std.specs.Prelude.{◌≡◌, ◌⊎◌, ℕ, ◌*◌, ◌^◌, ◌<◌, ◌≤◌, true, min, List, length, slice_index, slice_get, codes, Bool, if◌then◌else◌}
use Rattle.std.specs.Str.{bytes_eq}
use Rattle.std.specs.declared.option.Option.{Option}
use Rattle.std.specs.declared.option.Option.TheVariants.{Some, None}
use Rattle.plane_schedule.specs.declared.policies.FixedPolicy.{FixedPolicy}
use Rattle.plane_schedule.specs.declared.policies.FixedPolicy.TheVariants.{Widest, InOrder, FilterFirst, Balanced}
use Rattle.plane_schedule.specs.declared.policy.Policy.{Policy}
use Rattle.plane_schedule.specs.declared.policy.Policy.TheVariants.{By, Listed}
use Rattle.plane_schedule.specs.declared.progress.Progress.{Progress}
use Rattle.plane_schedule.specs.declared.progress.Role.{Role}
use Rattle.plane_schedule.specs.declared.progress.Role.TheVariants.{Filter, Group, Value}

-- the numbers are in their ranges
pub record IsSound (p : Progress) : Type 0 where
  pub columns : p.columns ≤ 16
  pub numbers : length p.unread ≡ 16
  pub roles : length p.role ≡ 16
  pub unread : (c : ℕ) → slice_index p.unread c ≤ 65
  pub read : (c : ℕ) → slice_index p.read c ≤ 65
  pub unknown : p.unknown < 2 ^ 64
  pub possible : p.possible < 2 ^ 64
  pub done : p.done < 2 ^ 32

-- what a policy looks at: the number of columns; for each of them its unread planes, those that were taken, what it is read for, and
-- whether it gives values; at how many rows the condition is unknown, and how many may pass; and how many planes were read of all columns
pub record Outlook : Type 0 where
  pub columns : ℕ
  pub unread : ℕ → ℕ
  pub taken : ℕ → ℕ
  pub role : ℕ → Option Role
  pub gives : ℕ → Option Bool
  pub unknown : ℕ
  pub possible : ℕ
  pub read : ℕ

abbrev pub outlook_of : Progress → Outlook
outlook_of p = record {
  columns = min p.columns 16;
  unread = slice_index p.unread;
  taken = slice_index p.read;
  role = slice_get p.role;
  gives = slice_get p.gives_values;
  unknown = p.unknown;
  possible = p.possible;
  read = p.done;
}

-- this column has an unread plane
pub record IsUnread (o : Outlook) (c : ℕ) : Type 0 where
  pub column : c < o.columns
  pub unread : 0 < o.unread c

-- some column has one
abbrev pub HasUnread : Outlook → Type 0
HasUnread o = (c : ℕ) × IsUnread o c

-- the least of the columns with an unread plane
pub record IsFirst (o : Outlook) (c : ℕ) : Type 0 where
  pub unread : IsUnread o c
  pub first : (d : ℕ) → d < c → ¬ IsUnread o d

-- among the columns of a sort that have an unread plane, one with the most of them, and of equals the least
pub record IsWidestOf (IsOfSort : ℕ → Type 0) (o : Outlook) (c : ℕ) : Type 0 where
  pub of_sort : IsOfSort c
  pub unread : IsUnread o c
  pub widest : (d : ℕ) → IsOfSort d → IsUnread o d → o.unread d ≤ o.unread c
  pub first : (d : ℕ) → d < c → IsOfSort d → IsUnread o d → o.unread d < o.unread c

-- a column is read for this
abbrev pub HasRole : Outlook → Role → ℕ → Type 0
HasRole o role c = o.role c ≡ Some role

-- a column of this role, or any column where none is given
abbrev pub IsOf : Outlook → Option Role → ℕ → Type 0
IsOf o None c = Unit {0}
IsOf o (Some role) c = HasRole o role c

-- the widest of all
abbrev pub IsWidest : Outlook → ℕ → Type 0
IsWidest o = IsWidestOf (IsOf o None) o

-- some column with an unread plane is read for this
abbrev pub HasUnreadOf : Role → Outlook → Type 0
HasUnreadOf role o = (c : ℕ) × HasRole o role c × IsUnread o c

-- while the condition is unknown at some row, the columns that it reads come first; next those of the groups; then all
pub record IsFilterFirst (o : Outlook) (c : ℕ) : Type 0 where
  pub unread : IsUnread o c
  pub filter : 0 < o.unknown → HasUnreadOf Filter o → IsWidestOf (HasRole o Filter) o c
  pub group : ¬ ((0 < o.unknown) × HasUnreadOf Filter o) → HasUnreadOf Group o → IsWidestOf (HasRole o Group) o c
  pub rest : ¬ ((0 < o.unknown) × HasUnreadOf Filter o) → ¬ HasUnreadOf Group o → IsWidest o c

-- ---- the balanced policy

-- among the columns of a sort that have an unread plane, one of which the fewest planes are taken, and of equals the least
pub record IsLeastTakenOf (IsOfSort : ℕ → Type 0) (o : Outlook) (c : ℕ) : Type 0 where
  pub of_sort : IsOfSort c
  pub unread : IsUnread o c
  pub least : (d : ℕ) → IsOfSort d → IsUnread o d → o.taken c ≤ o.taken d
  pub first : (d : ℕ) → d < c → IsOfSort d → IsUnread o d → o.taken c < o.taken d

-- a column is read for this: for values where it is read for nothing else, or gives them too
abbrev pub IsReadFor : Outlook → Role → ℕ → Type 0
IsReadFor o Filter c = HasRole o Filter c
IsReadFor o Group c = HasRole o Group c
IsReadFor o Value c = ((¬ HasRole o Filter c) × (¬ HasRole o Group c)) ⊎ (o.gives c ≡ Some true)

-- some column with an unread plane is
abbrev pub HasLeftFor : Role → Outlook → Type 0
HasLeftFor role o = (c : ℕ) × IsReadFor o role c × IsUnread o c

-- of the rows that may pass as large a share is unknown as of any key or value: of one of which k digits are taken a part in 2^k is open
pub record IsLessParted (o : Outlook) : Type 0 where
  pub some : 0 < o.unknown
  pub keys : (c : ℕ) → IsReadFor o Group c → IsUnread o c → o.possible ≤ o.unknown * 2 ^ o.taken c
  pub values : (c : ℕ) → IsReadFor o Value c → IsUnread o c → o.possible ≤ o.unknown * 2 ^ o.taken c

-- the condition has an unread plane, and the rows are less parted than keys and values are known, or these have none
pub record PartsRows (o : Outlook) : Type 0 where
  pub filter : HasLeftFor Filter o
  pub first : IsLessParted o ⊎ ((¬ HasLeftFor Group o) × (¬ HasLeftFor Value o))

-- where rows are to be parted a column of the condition comes next, else one of the groups, else one of values; of each the one of which
-- the fewest planes are taken
pub record IsBalanced (o : Outlook) (c : ℕ) : Type 0 where
  pub unread : IsUnread o c
  pub filter : PartsRows o → IsLeastTakenOf (IsReadFor o Filter) o c
  pub group : ¬ PartsRows o → HasLeftFor Group o → IsLeastTakenOf (IsReadFor o Group) o c
  pub value : ¬ PartsRows o → ¬ HasLeftFor Group o → IsLeastTakenOf (IsReadFor o Value) o c

-- as many planes were read as columns stand before this one in the list, and it has an unread plane
pub record IsNextListed (list : List ℕ) (o : Outlook) (c : ℕ) : Type 0 where
  pub next : slice_get list o.read ≡ Some c
  pub unread : IsUnread o c

-- ---- all policies

-- the word of a policy
abbrev pub policy_word : FixedPolicy → List ℕ
policy_word Widest = codes "widest"
policy_word InOrder = codes "order"
policy_word FilterFirst = codes "filter"
policy_word Balanced = codes "balanced"

-- the policy that the word names
unfoldable pub policy_named : List ℕ → Option FixedPolicy
policy_named w =
    if bytes_eq w (codes "widest") then Some Widest
    else (if bytes_eq w (codes "order") then Some InOrder
    else (if bytes_eq w (codes "filter") then Some FilterFirst
    else (if bytes_eq w (codes "balanced") then Some Balanced else None)))

-- the words of all, as a person is told them
unfoldable pub policy_words : List ℕ
policy_words = codes "widest (the default), order, filter, or balanced"

-- the column that a policy with a word reads next
abbrev pub Picks : FixedPolicy → Outlook → ℕ → Type 0
Picks Widest o c = IsWidest o c
Picks InOrder o c = IsFirst o c
Picks FilterFirst o c = IsFilterFirst o c
Picks Balanced o c = IsBalanced o c

-- the column that the policy reads next
abbrev pub Chooses : Policy → Outlook → ℕ → Type 0
Chooses (By policy) o c = Picks policy o c
Chooses (Listed list) o c = IsNextListed list o c

-- there is one
abbrev pub HasChoice : Policy → Outlook → Type 0
HasChoice policy o = (c : ℕ) × Chooses policy o c
