-- The combined report from a round on, as far as the parts tell it.
use Rattle.std.specs.Prelude.{◌≡◌, ℕ, ◌+◌, Bool, true, false, List, [], ◌++◌, codes}
use Rattle.std.specs.declared.option.Option.{Option}
use Rattle.std.specs.declared.option.Option.TheVariants.{Some, None}
use Rattle.std.specs.List.{list_all}
use Rattle.report_text.specs.Lines.{end_line}
use Rattle.report_text.specs.declared.lines.ReportEnd.{ReportEnd}
use Rattle.report_parts.specs.Ends.{end_behind}
use Rattle.report_parts.specs.Faults.{CanSay}
use Rattle.report_parts.specs.Laws.{AllReach}
use Rattle.report_parts.specs.Reports.{block_over, block_text}
use Rattle.report_parts.specs.Rounds.{has_block}
use Rattle.report_parts.specs.Told.{Told}
use Rattle.report_parts.specs.declared.block.Block.{Block}
use Rattle.report_parts.specs.declared.shape.Shape.{Shape}

-- what is asked for: the shape of a block, which blocks are narrow, and which round is the last that is wanted
pub record Wanted : Type 0 where
  pub shape : Shape
  pub narrow : Block → Bool
  pub last : ℕ → Bool

-- the block of the round is narrow
abbrev pub is_narrow_at : Wanted → ℕ → List Told → Bool
is_narrow_at wanted round parts = wanted.narrow (block_over round wanted.shape parts)

-- how the report ends behind the block of that round, if it does
abbrev pub end_at : Wanted → ℕ → List Told → Option ReportEnd
end_at wanted round parts = end_behind (is_narrow_at wanted round parts) (wanted.last round) round parts

abbrev pub end_text : ReportEnd → List ℕ
end_text end = end_line end ++ codes "\n"

-- the text of the rounds from that one on, and how it ends, if it does: a block as soon as all parts have told theirs, up to the first
-- that is narrow, is the last wanted, or behind which no part goes on. Each of these blocks can be written
pub data Writes (wanted : Wanted) (parts : List Told) : ℕ → List ℕ → Option ReportEnd → Type 0 where
  waits : (round : ℕ) → list_all (has_block round) parts ≡ false → Writes wanted parts round [] None
  ends : (round : ℕ) (end : ReportEnd) → list_all (has_block round) parts ≡ true → CanSay round wanted.shape parts →
      end_at wanted round parts ≡ Some end →
      Writes wanted parts round (block_text round wanted.shape parts ++ end_text end) (Some end)
  goes : (round : ℕ) (rest : List ℕ) (end : Option ReportEnd) → list_all (has_block round) parts ≡ true →
      CanSay round wanted.shape parts → end_at wanted round parts ≡ None → Writes wanted parts (round + 1) rest end →
      Writes wanted parts round (block_text round wanted.shape parts ++ rest) end

-- the one text begins the other
pub record Begins (text longer : List ℕ) : Type 0 where
  pub more : List ℕ
  pub split : longer ≡ text ++ more

-- whatever lines come behind, of whichever parts and in whatever order, what was written begins what is written then
abbrev pub WrittenStays : Type 0
WrittenStays =
    (query : List ℕ) (wanted : Wanted) (parts laters : List Told) (round : ℕ) (text longer : List ℕ) (end later : Option ReportEnd) →
    AllReach query wanted.shape parts laters → Writes wanted parts round text end → Writes wanted laters round longer later →
    Begins text longer
