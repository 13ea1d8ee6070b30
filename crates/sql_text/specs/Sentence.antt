-- Sentences, and the place where a list of tokens is no longer the beginning of one.
use Rattle.std.specs.Prelude.{◌≡◌, ℕ, List, [], ◌∷◌, ◌++◌, length}
use Rattle.sql_tokens.specs.Lexeme.{Lexeme, token, FIXED, NUMBER}
use Rattle.sql_text.specs.declared.fault.Cause.{Cause}
use Rattle.sql_text.specs.declared.fault.Cause.TheVariants.{Syntax, TooDeep, TooLarge}
use Rattle.sql_text.specs.declared.fault.Stop.{Stop}
use Rattle.sql_text.specs.Tree.{Query}
use Rattle.sql_text.specs.Number.{is_small, any_number}
use Rattle.sql_text.specs.Rule.{Language}
use Rattle.sql_text.specs.Grammar.{Is, query}

-- a list of tokens that some list follows to make a sentence
abbrev pub Begins : {A : Type 0} → Language A → List Lexeme → Type 0
Begins {A} language u = (z : List Lexeme) × (a : A) × language (u ++ z) a

-- within the limits
abbrev pub IsSentence : (levels : ℕ) → Language Query
IsSentence levels w q = Is is_small levels query w q

-- with numbers of any size and parentheses of any depth
abbrev pub IsAnySentence : Language Query
IsAnySentence w q = (levels : ℕ) × Is any_number levels query w q

-- The next token, if there is one, cannot stand there.
abbrev pub IsWrong : List Lexeme → List Lexeme → Type 0
IsWrong front rest = (x : Lexeme) (v : List Lexeme) → rest ≡ x ∷ v → Begins IsAnySentence (front ++ (x ∷ [])) → ⊥

-- TooLarge is at a number, and TooDeep at a sign or a keyword
abbrev pub IsLimitAt : Cause → Lexeme → Type 0
IsLimitAt TooLarge (token p (NUMBER u c)) = Unit {0}
IsLimitAt TooDeep (token p (FIXED f)) = Unit {0}
IsLimitAt _ _ = ⊥

-- The next token could stand there, but for a limit.
abbrev pub PassesLimit : (levels : ℕ) → Cause → List Lexeme → List Lexeme → Type 0
PassesLimit levels cause front rest =
    (x : Lexeme) × (v : List Lexeme) × (rest ≡ x ∷ v) × IsLimitAt cause x
    × Begins IsAnySentence (front ++ (x ∷ [])) × (Begins (IsSentence levels) (front ++ (x ∷ [])) → ⊥)

abbrev pub IsCause : (levels : ℕ) → Cause → List Lexeme → List Lexeme → Type 0
IsCause levels Syntax front rest = IsWrong front rest
IsCause levels TooDeep front rest = PassesLimit levels TooDeep front rest
IsCause levels TooLarge front rest = PassesLimit levels TooLarge front rest

-- The first refusal from the left: the tokens before it begin a sentence within the limits.
pub record IsRefused (levels : ℕ) (w : List Lexeme) (e : Stop) : Type 0 where
  pub front : List Lexeme
  pub rest : List Lexeme
  pub parts : w ≡ front ++ rest
  pub left : e.left ≡ length rest
  pub begins : Begins (IsSentence levels) front
  pub cause : IsCause levels e.cause front rest
