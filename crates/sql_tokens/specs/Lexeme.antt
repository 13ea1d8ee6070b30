-- Tokens, apart from where they lie in memory.
use Rattle.std.specs.Prelude.{ℕ, List, map, Option}
use Rattle.sql_tokens.specs.declared.token.Fixed.{Fixed}
use Rattle.sql_tokens.specs.declared.token.Kind.{Kind}
use Rattle.sql_tokens.specs.declared.token.Kind.TheVariants as kinds
use Rattle.sql_tokens.specs.declared.token.Token.{Token}

-- what a token says: a number its units, where they are at most 2 to the 63, and its scale
pub data Mark : Type 0 where
  FIXED : Fixed → Mark
  NAME : List ℕ → Mark
  NUMBER : (units : Option ℕ) (scale : ℕ) → Mark
  STRING : List ℕ → Mark

-- a token, at its place in the text
pub data Lexeme : Type 0 where
  token : ℕ → Mark → Lexeme

abbrev pub mark_of : Kind → Mark
mark_of (kinds.Fixed f) = FIXED f
mark_of (kinds.Name s) = NAME s.items
mark_of (kinds.Number n) = NUMBER n.units n.scale
mark_of (kinds.Str s) = STRING s.items

abbrev pub views : List Token → List Lexeme
views ts = map (λ t. token t.at (mark_of t.kind)) ts
