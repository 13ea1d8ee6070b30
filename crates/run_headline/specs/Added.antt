-- A text that has more lines than another, between the lines of that.
use Rattle.std.specs.Prelude.{◌≡◌, ℕ, List, ◌++◌, codes}

-- the text ends a line
pub record EndsLine (text : List ℕ) : Type 0 where
  pub before : List ℕ
  pub is : text ≡ before ++ codes "\n"

-- the second text is the first, with whole lines added in front of its lines and behind them
pub data AddsLines : List ℕ → List ℕ → Type 0 where
  same : (text : List ℕ) → AddsLines text text
  kept : (lines less more : List ℕ) → EndsLine lines → AddsLines less more → AddsLines (lines ++ less) (lines ++ more)
  added : (lines less more : List ℕ) → EndsLine lines → AddsLines less more → AddsLines less (lines ++ more)
