-- The block of a query of totals: a line for each item, with the text that is shown of it, and what is wanted besides.
use Rattle.std.specs.Prelude.{◌≡◌, ◌≢◌, ℕ, ◌+◌, List, [], ◌∷◌, ◌++◌, codes, decimal, length, slice_get}
use Rattle.std.specs.declared.option.Option.{Option}
use Rattle.std.specs.declared.option.Option.TheVariants.{Some}
use Rattle.daq_report.specs.Blocks.{block_text, round_line}
use Rattle.daq_report.specs.Extras.{extra_lines}
use Rattle.daq_table.specs.declared.table_head.Head.{Head}
use Rattle.plane_schedule.specs.Plans.{no_extras}
use Rattle.plane_schedule.specs.declared.policy.Extras.{Extras}
use Rattle.plane_schedule.specs.declared.policy.Listing.{Listing}
use Rattle.query_model.specs.Queries.{Aggregate}
use Rattle.query_model.specs.declared.query.ItemKind.TheVariants.{Avg}
use Rattle.query_model.specs.declared.query.Shape.TheVariants.{Plain}
use Rattle.round_engine.specs.Stages.{Stage}
use Rattle.sql_headline.specs.Lines.{IsAverageShownFor, IsShownFor}

-- an item by its number, and its text
abbrev pub line_of : ℕ → List ℕ → List ℕ
line_of number text = decimal number ++ (codes " " ++ (text ++ codes "\n"))

-- the lines of items, numbered from one on, and behind each what is wanted besides
abbrev pub lines_of : ℕ → List (List ℕ) → List (List ℕ) → List ℕ
lines_of number [] besides = []
lines_of number (text ∷ texts) [] = line_of number text ++ lines_of (number + 1) texts []
lines_of number (text ∷ texts) (more ∷ besides) = line_of number text ++ (more ++ lines_of (number + 1) texts besides)

-- the text of an item over all rows
abbrev pub IsItemText : Head → Stage → Aggregate → List ℕ → Type 0
IsItemText head stage item text =
    (item.kind ≢ Avg → IsShownFor head stage item [] text) × (item.kind ≡ Avg → IsAverageShownFor head stage item [] text)

-- the texts are those of the items, one for each, and a block has them line by line; `--clip` and `--exact-avg` add to each the lines that
-- are wanted of it, and change none
pub record AreLines (head : Head) (stage : Stage) (texts : List (List ℕ)) : Type 0 where
  pub as_many : length texts ≡ length stage.query.items
  pub shown : (i : ℕ) (item : Aggregate) (text : List ℕ) → slice_get stage.query.items i ≡ Some item →
      slice_get texts i ≡ Some text → IsItemText head stage item text
  pub plain : (listing : Listing) (round : ℕ) (last : Option ℕ) →
      block_text head listing no_extras stage round last ≡ round_line head stage round last ++ lines_of 1 texts []
  pub wanted : (listing : Listing) (extras : Extras) (round : ℕ) (last : Option ℕ) →
      (besides : List (List ℕ)) × (length besides ≡ length texts)
      × ((i : ℕ) (item : Aggregate) → slice_get stage.query.items i ≡ Some item →
      slice_get besides i ≡ Some (extra_lines head stage extras (i + 1) item))
      × (block_text head listing extras stage round last ≡ round_line head stage round last ++ lines_of 1 texts besides)

-- each block of totals consists of such lines
abbrev pub BlocksHaveLines : Type 0
BlocksHaveLines = (head : Head) (stage : Stage) → stage.query.shape ≡ Plain → (texts : List (List ℕ)) × AreLines head stage texts
