-- The lines behind that of an item, each without its line feed: its answer told once more, as its condition clips it or as an exact
-- average, and the rows that the ends of such an average take.
use Rattle.std.specs.Prelude.{◌≡◌, ◌⊎◌, ℕ, List, ◌++◌, codes, decimal}
use Rattle.query_model.specs.declared.query.ItemKind.{ItemKind}
use Rattle.query_model.specs.declared.query.ItemKind.TheVariants.{Count, Sum, Min, Max, Avg}
use Rattle.report_text.specs.Answers.{IsAnswerOf, answer_text}
use Rattle.report_text.specs.declared.answers.Answer.{Answer}

-- an average is told exactly, each other answer clipped
abbrev pub extra_word : ItemKind → List ℕ
extra_word Count = codes "clip "
extra_word Sum = codes "clip "
extra_word Min = codes "clip "
extra_word Max = codes "clip "
extra_word Avg = codes "exact "

abbrev pub extra_text : ItemKind → Answer → List ℕ
extra_text kind answer = extra_word kind ++ answer_text answer

abbrev pub extra_line : ItemKind → ℕ → Answer → List ℕ
extra_line kind number answer = decimal number ++ (codes " " ++ extra_text kind answer)

-- an answer that such a line tells: of a number of rows there is none
abbrev pub IsExtraOf : ItemKind → Answer → Type 0
IsExtraOf Count answer = ⊥
IsExtraOf Sum answer = IsAnswerOf Sum answer
IsExtraOf Min answer = IsAnswerOf Min answer
IsExtraOf Max answer = IsAnswerOf Max answer
IsExtraOf Avg answer = IsAnswerOf Avg answer

-- which rows the low or the high end takes
abbrev pub IsRowsText : List ℕ → Type 0
IsRowsText text = ((rest : List ℕ) × (text ≡ codes "low takes " ++ rest)) ⊎ ((rest : List ℕ) × (text ≡ codes "high takes " ++ rest))

pub record IsRowsLine (number : ℕ) (line : List ℕ) : Type 0 where
  pub text : List ℕ
  pub split : line ≡ decimal number ++ (codes " " ++ text)
  pub is_text : IsRowsText text

-- a line says one answer of an item of its kind
abbrev pub ExtrasSayOne : Type 0
ExtrasSayOne =
    (kind : ItemKind) (number : ℕ) (answer other : Answer) → IsExtraOf kind answer → IsExtraOf kind other →
    extra_line kind number answer ≡ extra_line kind number other → answer ≡ other
