-- What `parse` may answer.
use Rattle.std.specs.Prelude.{◌≡◌, ℕ, ◌-◌, ◌<◌, ◌≤◌, List, [], ◌∷◌, length, drop, Result, Ok, Err}
use Rattle.sql_tokens.specs.Lexeme.{Lexeme, token}
use Rattle.sql_tokens.specs.Spelling.{Splits}
use Rattle.sql_text.specs.declared.fault.Cause.{Cause}
use Rattle.sql_text.specs.declared.fault.Cause.TheVariants as causes
use Rattle.sql_text.specs.declared.fault.Stop.{Stop}
use Rattle.sql_text.specs.declared.fault.SqlFault.{SqlFault}
use Rattle.sql_text.specs.declared.fault.SqlFault.TheVariants.{TooLong, Syntax, TooDeep, LiteralTooLarge, NoMemory}
use Rattle.sql_text.specs.declared.tree.Tree.{Tree}
use Rattle.sql_text.specs.Tree.{Query, query_of}
use Rattle.sql_text.specs.Sentence.{IsSentence, IsRefused}

-- how many parentheses and NOT may be open
abbrev pub most_levels : ℕ
most_levels = 32

-- The text is this query.
pub record IsText (text : List ℕ) (q : Query) : Type 0 where
  pub tokens : List Lexeme
  pub short : length text ≤ 4096
  pub cut : Splits 0 text tokens []
  pub sentence : IsSentence most_levels tokens q

abbrev pub first_place : ℕ → List Lexeme → ℕ
first_place end [] = end
first_place end (token p m ∷ w) = p

-- the place of the token from which so many are left: the end, where none is
abbrev pub place : ℕ → List Lexeme → ℕ → ℕ
place end ts left = first_place end (drop (length ts - left) ts)

-- The text is no query. Its first refusal has this cause, and stands here.
pub record Breaks (text : List ℕ) (cause : Cause) (at : ℕ) : Type 0 where
  pub tokens : List Lexeme
  pub rest : List ℕ
  pub stop : Stop
  pub short : length text ≤ 4096
  pub cut : Splits 0 text tokens rest
  pub refused : IsRefused most_levels tokens stop
  pub none : rest ≡ [] → (q : Query) → IsSentence most_levels tokens q → ⊥
  pub has_cause : cause ≡ stop.cause
  pub has_place : at ≡ place (length text - length rest) tokens stop.left

abbrev pub IsFault : List ℕ → SqlFault → Type 0
IsFault text TooLong = 4096 < length text
IsFault text (Syntax at) = Breaks text causes.Syntax at
IsFault text (TooDeep at) = Breaks text causes.TooDeep at
IsFault text (LiteralTooLarge at) = Breaks text causes.TooLarge at
IsFault text NoMemory = Unit {0}

-- this query, or want of memory
abbrev pub Answers : Query → Result Tree SqlFault → Type 0
Answers q (Ok t) = query_of t ≡ q
Answers q (Err NoMemory) = Unit {0}
Answers q (Err _) = ⊥

abbrev pub fault_of : Cause → ℕ → SqlFault
fault_of causes.Syntax at = Syntax at
fault_of causes.TooDeep at = TooDeep at
fault_of causes.TooLarge at = LiteralTooLarge at
