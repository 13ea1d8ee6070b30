-- What a part tells from a round on: the blocks before it may be forgotten.
use Rattle.std.specs.Prelude.{◌≡◌, ℕ, ◌≤◌, List, [], ◌∷◌, length}
use Rattle.report_parts.specs.Rounds.{block_for}
use Rattle.report_parts.specs.Told.{Told}

-- this tells the same as the whole report, but for the blocks before that round
pub record TellsFrom (round : ℕ) (whole told : Told) : Type 0 where
  pub tag : told.tag ≡ whole.tag
  pub closing : told.closing ≡ whole.closing
  pub sections : told.sections ≡ whole.sections
  pub group : told.group ≡ whole.group
  pub current : told.current ≡ whole.current
  pub rows : told.rows ≡ whole.rows
  pub place : told.place ≡ whole.place
  pub count : length told.blocks ≡ length whole.blocks
  pub same : (later : ℕ) → round ≤ later → block_for later told ≡ block_for later whole

abbrev pub AllTellFrom : ℕ → List Told → List Told → Type 0
AllTellFrom round [] [] = Unit {0}
AllTellFrom round [] (part ∷ parts) = ⊥
AllTellFrom round (whole ∷ wholes) [] = ⊥
AllTellFrom round (whole ∷ wholes) (part ∷ parts) = TellsFrom round whole part × AllTellFrom round wholes parts
