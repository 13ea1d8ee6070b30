-- What holds of the tokens of all texts.
use Rattle.std.specs.Prelude.{ℕ, List}
use Rattle.sql_tokens.specs.Lexeme.{Lexeme}
use Rattle.sql_tokens.specs.Spelling.{Splits}

-- each text is cut into tokens, up to a place where none begins
abbrev pub IsCut : Type 0
IsCut = (text : List ℕ) → (ts : List Lexeme) × (rest : List ℕ) × Splits 0 text ts rest
