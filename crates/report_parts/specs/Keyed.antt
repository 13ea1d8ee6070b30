-- That each group of which parts tell has a key.
use Rattle.std.specs.Prelude.{ℕ, ◌≤◌, List, []}
use Rattle.std.specs.List.{All}
use Rattle.std.specs.declared.option.Option.{Option}
use Rattle.std.specs.declared.option.Option.TheVariants.{Some, None}
use Rattle.report_text.specs.declared.groups.GroupLine.{GroupLine}
use Rattle.part_groups.specs.Whole.{IsKeyed}
use Rattle.report_parts.specs.Rounds.{groups_in}
use Rattle.report_parts.specs.Told.{Told}

-- the line of a group that is begun, if one is: a report shows it, and it has a key of so many parts
abbrev pub IsBegunKeyed : ℕ → Option GroupLine → Type 0
IsBegunKeyed columns None = Unit {0}
IsBegunKeyed columns (Some line) = IsKeyed columns (record { line = line; answers = []; texts = [] })

-- what the part says of groups in that round and behind it, and in the block that it has begun
pub record IsKeyedFrom (columns round : ℕ) (told : Told) : Type 0 where
  pub blocks : (later : ℕ) → round ≤ later → All (IsKeyed columns) (groups_in later told)
  pub sections : All (IsKeyed columns) told.sections
  pub begun : IsBegunKeyed columns told.group

-- so it is of each part
abbrev pub AreKeyedFrom : ℕ → ℕ → List Told → Type 0
AreKeyedFrom columns round parts = All (IsKeyedFrom columns round) parts
