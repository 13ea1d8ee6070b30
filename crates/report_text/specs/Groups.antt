-- The line of a group, without its line feed.
use Rattle.std.specs.Borrow.{Bor}
use Rattle.std.specs.Prelude.{◌≡◌, ℕ, ◌<◌, Bool, true, false, List, ◌++◌, codes, length}
use Rattle.std.specs.declared.option.Option.{Option}
use Rattle.std.specs.declared.option.Option.TheVariants.{Some, None}
use Rattle.std.specs.List.{All}
use Rattle.report_text.specs.Keys.{IsShownSpan, keys_text}
use Rattle.report_text.specs.declared.groups.GroupLine.{GroupLine}
use Rattle.report_text.specs.declared.keys.ShownSpan.{ShownSpan}

-- whether the keys are in the result for certain
abbrev pub presence_text : Bool → List ℕ
presence_text true = codes " present"
presence_text false = codes " possible"

-- the keys, and what is known of them
abbrev pub group_line : GroupLine → List ℕ
group_line group = codes "group " ++ (keys_text group.keys ++ presence_text group.present)

-- what stands before the word, and what it says
abbrev pub HasPresence : List ℕ → Bool → Option (Bor (List ℕ) × Bool) → Type 0
HasPresence keys present None = ⊥
HasPresence keys present (Some parts) = (parts.0.now ≡ keys) × (parts.1 ≡ present)

-- one group column or more, and keys that a report shows of each
pub record AreShownKeys (keys : List ShownSpan) : Type 0 where
  pub some : 0 < length keys
  pub each : All IsShownSpan keys

abbrev pub IsShownGroup : GroupLine → Type 0
IsShownGroup group = AreShownKeys group.keys

-- the line of a group says one thing
abbrev pub GroupsSayOne : Type 0
GroupsSayOne =
    (group other : GroupLine) → IsShownGroup group → IsShownGroup other → group_line group ≡ group_line other → group ≡ other
