-- The lines of a report of totals, each without its line feed.
use Rattle.std.specs.Prelude.{◌≡◌, ℕ, List, [], ◌∷◌, ◌++◌, codes, decimal}
use Rattle.query_model.specs.declared.query.ItemKind.{ItemKind}
use Rattle.report_text.specs.Answers.{IsAnswerOf, answer_text}
use Rattle.report_text.specs.declared.answers.Answer.{Answer}
use Rattle.report_text.specs.declared.lines.ReportEnd.{ReportEnd}
use Rattle.report_text.specs.declared.lines.ReportEnd.TheVariants.{Narrow, Reads, Rounds}

-- the number of an item and where its answer lies
abbrev pub item_line : ℕ → Answer → List ℕ
item_line number answer = decimal number ++ (codes " " ++ answer_text answer)

-- a round, before the column that was read in it
abbrev pub round_words : ℕ → List ℕ
round_words round = codes "round " ++ decimal round

-- no column, or one behind a space
abbrev pub IsNamed : List ℕ → Type 0
IsNamed [] = Unit {0}
IsNamed (c ∷ cs) = c ≡ 32

-- the line begins the block of that round
pub record IsRoundLine (round : ℕ) (line : List ℕ) : Type 0 where
  pub named : List ℕ
  pub split : line ≡ codes "round " ++ (decimal round ++ named)
  pub is_named : IsNamed named

-- how many parts a combined report is of
abbrev pub parts_line : ℕ → List ℕ
parts_line parts = codes "parts " ++ decimal parts

abbrev pub end_line : ReportEnd → List ℕ
end_line Narrow = codes "end narrow"
end_line Rounds = codes "end rounds"
end_line Reads = codes "end reads"

-- the line of an item says one answer of its kind
abbrev pub LinesSayOne : Type 0
LinesSayOne =
    (kind : ItemKind) (number : ℕ) (answer other : Answer) → IsAnswerOf kind answer → IsAnswerOf kind other →
    item_line number answer ≡ item_line number other → answer ≡ other
