-- What holds of the lines of parts, as statements. A public function with an empty body has each as its contract.
use Rattle.std.specs.Prelude.{◌≡◌, ◌≢◌, ℕ, ℤ, true, List, [], ◌∷◌, ◌++◌, map}
use Rattle.query_model.specs.Bounds.{Admits, IsNested}
use Rattle.query_model.specs.declared.query.ItemKind.{ItemKind}
use Rattle.query_model.specs.declared.query.ItemKind.TheVariants.{Avg}
use Rattle.shard_bounds.specs.Averages.{ReportsAverage, combined_average}
use Rattle.shard_bounds.specs.Combined as shards
use Rattle.shard_bounds.specs.Combined.{AreBoundsOf}
use Rattle.shard_bounds.specs.Laws.{AreAdmitted, AreAveragesReported, AreNested, AreTold as AreAllTold, Tells}
use Rattle.report_parts.specs.Combined.{answer_over, average_of, bound_of}
use Rattle.report_parts.specs.Reports.{AreTold, blocks_text}
use Rattle.report_parts.specs.Rounds.{block_for, has_block}
use Rattle.report_parts.specs.Told.{Takes, Told}
use Rattle.report_parts.specs.declared.block.Block.{Block}
use Rattle.report_parts.specs.declared.shape.Shape.{Shape}
use Rattle.report_text.specs.declared.answers.Answer.{Answer}

-- the blocks of the one are those of the other, and perhaps more
pub record GoesBehind (told next : Told) : Type 0 where
  pub more : List Block
  pub blocks : next.blocks ≡ told.blocks ++ more

abbrev pub LinesOnlyAdd : Type 0
LinesOnlyAdd =
    (query : List ℕ) (shape : Shape) (told : Told) (line : List ℕ) (next : Told) →
    Takes query shape told line next → GoesBehind told next

-- the block for a round that a part has told stays that
pub record KeepsBlock (round : ℕ) (told next : Told) : Type 0 where
  pub has : has_block round next ≡ true
  pub same : block_for round next ≡ block_for round told

abbrev pub ToldBlocksStay : Type 0
ToldBlocksStay =
    (query : List ℕ) (shape : Shape) (round : ℕ) (told : Told) (line : List ℕ) (next : Told) →
    Takes query shape told line next → has_block round told ≡ true → KeepsBlock round told next

-- ---- some lines later

-- what is told after some more lines
pub data Reaches (query : List ℕ) (shape : Shape) : Told → Told → Type 0 where
  stays : (told : Told) → Reaches query shape told told
  goes : (told : Told) (line : List ℕ) (next later : Told) →
      Takes query shape told line next → Reaches query shape next later → Reaches query shape told later

-- of each part, whatever lines of it came, and in whatever order with those of the others
abbrev pub AllReach : List ℕ → Shape → List Told → List Told → Type 0
AllReach query shape [] [] = Unit {0}
AllReach query shape [] (later ∷ laters) = ⊥
AllReach query shape (part ∷ parts) [] = ⊥
AllReach query shape (part ∷ parts) (later ∷ laters) = Reaches query shape part later × AllReach query shape parts laters

-- the rounds stay told, with the same text
pub record Grows (rounds : ℕ) (shape : Shape) (parts laters : List Told) : Type 0 where
  pub are_told : AreTold rounds laters
  pub same : blocks_text rounds shape laters ≡ blocks_text rounds shape parts

abbrev pub ReportsOnlyGrow : Type 0
ReportsOnlyGrow =
    (query : List ℕ) (shape : Shape) (rounds : ℕ) (parts laters : List Told) →
    AllReach query shape parts laters → AreTold rounds parts → Grows rounds shape parts laters

-- ---- what is combined is certain

-- the values that each part gives to the item
abbrev pub AnswersContain : Type 0
AnswersContain =
    (kind : ItemKind) (answers : List Answer) (parts : List (List ℤ)) → kind ≢ Avg → AreAdmitted kind (map bound_of answers) parts →
    Admits (bound_of (answer_over kind answers)) (shards.answer_over kind parts)

abbrev pub AnswersNest : Type 0
AnswersNest =
    (kind : ItemKind) (olds news : List Answer) → kind ≢ Avg →
    AreBoundsOf kind (map bound_of news) → AreNested (map bound_of olds) (map bound_of news) →
    IsNested (bound_of (answer_over kind olds)) (bound_of (answer_over kind news))

abbrev pub AnswersTell : Type 0
AnswersTell =
    (kind : ItemKind) (answers : List Answer) (parts : List (List ℤ)) → kind ≢ Avg → AreAllTold kind (map bound_of answers) parts →
    Tells (bound_of (answer_over kind answers)) (shards.answer_over kind parts)

abbrev pub AveragesReport : Type 0
AveragesReport =
    (answers : List Answer) (parts : List (List ℤ)) → AreAveragesReported (map average_of answers) parts →
    ReportsAverage (combined_average (map average_of answers)) (shards.average_over parts)
