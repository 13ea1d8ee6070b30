-- How far the rounds of a query go, and why they end.
use Rattle.std.specs.Prelude.{ℕ, ◌<◌, ◌≤◌, ◌==◌, Bool, true, false, List, length, count_by}
use Rattle.std.specs.declared.option.Option.{Option}
use Rattle.std.specs.declared.option.Option.TheVariants.{Some, None}
use Rattle.std.specs.List.{AllByRecursion}
use Rattle.daq_table.specs.Tables.{Frame, ends_at, planes}
use Rattle.plane_schedule.specs.declared.policy.Ending.{Ending}
use Rattle.plane_schedule.specs.declared.policy.Ending.TheVariants.{Narrow, Rounds, Reads}
use Rattle.plane_schedule.specs.declared.policy.Extras.{Extras}
use Rattle.plane_schedule.specs.declared.policy.Listing.TheVariants.{Certain}
use Rattle.plane_schedule.specs.declared.policy.Nearness.{Nearness}
use Rattle.plane_schedule.specs.declared.policy.Plan.{Plan}
use Rattle.plane_schedule.specs.declared.policy.Policy.{Policy}
use Rattle.plane_schedule.specs.declared.policies.FixedPolicy.TheVariants.{Widest}
use Rattle.plane_schedule.specs.declared.policy.Policy.TheVariants.{By, Listed}

-- each number of the list is a column, and no column stands in it more often than it has planes
pub record IsReadableList (list : List ℕ) (frame : Frame) : Type 0 where
  pub columns : AllByRecursion (λ c. c < length frame.columns) list
  pub few : (c : ℕ) → c < length frame.columns → count_by (λ d. d == c) list ≤ planes (ends_at frame c)

-- the policy can be followed to its end: this asks something of a list alone
abbrev pub IsReadable : Policy → Frame → Type 0
IsReadable (By policy) frame = Unit {0}
IsReadable (Listed list) frame = IsReadableList list frame

-- the round with this number is the last that is wanted
abbrev pub is_most : Option ℕ → ℕ → Bool
is_most None round = false
is_most (Some most) round = round == most

-- after the round with this number the list of columns is at its end
abbrev pub is_list_end : Policy → ℕ → Bool
is_list_end (By policy) round = false
is_list_end (Listed list) round = round == length list

abbrev pub first_ending : Bool → Bool → Bool → Option Ending
first_ending true most end = Some Narrow
first_ending false true end = Some Rounds
first_ending false false true = Some Reads
first_ending false false false = None

-- why the rounds end with the round of this number, if they do: it is narrow, else it is the last that is wanted,
-- else the list is at its end
abbrev pub ending_of : Plan → Bool → ℕ → Option Ending
ending_of plan narrow round = first_ending narrow (is_most plan.most round) (is_list_end plan.policy round)

-- no line besides those of the items' bounds
abbrev pub no_extras : Extras
no_extras = record { clip = false; exact = false }

-- each answer is one number, and no key is an answer
abbrev pub exact_answers : Nearness
exact_answers = record { width = 0; keys = false }

-- so many rows at most are listed where few are
abbrev pub few_rows : ℕ
few_rows = 100000

-- each time the widest column, until each answer is one number
abbrev pub widest_plan : Plan
widest_plan = record { policy = By Widest; near = exact_answers; most = None; listing = Certain; extras = no_extras }
