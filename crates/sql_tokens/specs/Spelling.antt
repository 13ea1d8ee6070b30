-- The spellings of tokens, and the tokens of a text.
use Rattle.std.specs.Prelude.{◌≡◌, ℕ, ◌+◌, ◌-◌, ◌*◌, ◌^◌, ◌≤◌, List, [], ◌∷◌, ◌++◌, length, map}
use Rattle.std.specs.Prelude.{reverse, take, Bool, true, false, Option, Some, None, nat_eq, nat_le, is_none, ◌&&◌, if◌then◌else◌}
use Rattle.std.specs.List.{prefix_len, find}
use Rattle.sql_tokens.specs.declared.byte.Class.TheVariants.{Blank, Letter, Digit, Other}
use Rattle.sql_tokens.specs.declared.token.Fixed.{Fixed}
use Rattle.sql_tokens.specs.declared.token.Fixed.TheVariants.{Open, Close, Comma, Star, Plus, Minus, Semicolon}
use Rattle.sql_tokens.specs.declared.token.Fixed.TheVariants.{Equal, NotEqual, Less, LessEqual, Greater, GreaterEqual}
use Rattle.sql_tokens.specs.declared.token.TheConstants.{KEYWORDS}
use Rattle.sql_tokens.specs.Fixed.{spelling}
use Rattle.sql_tokens.specs.Lexeme.{Mark, FIXED, NAME, NUMBER, STRING, Lexeme, token}
use Rattle.sql_tokens.specs.Byte.{class_of, is_letter, in_word, in_number, in_quotes, is_zero, capital, Each}

-- ---- words

-- these are the same bytes
abbrev pub same_bytes : List ℕ → List ℕ → Bool
same_bytes [] [] = true
same_bytes (a ∷ s) (b ∷ t) = nat_eq a b && same_bytes s t
same_bytes _ _ = false

-- the keyword that these letters spell, in any mix of cases
abbrev pub keyword_of : List ℕ → Option Fixed
keyword_of w = find (λ k. same_bytes (map capital w) (spelling k)) KEYWORDS

abbrev pub keyword_or : List ℕ → Option Fixed → Mark
keyword_or w None = NAME w
keyword_or w (Some k) = FIXED k

unfoldable pub word_of : List ℕ → Mark
word_of w = keyword_or w (keyword_of w)

-- a name that needs no quotes
abbrev pub is_plain_name : List ℕ → Bool
is_plain_name [] = false
is_plain_name (b ∷ w) = is_letter (class_of b) && nat_eq (prefix_len in_word (b ∷ w)) (length (b ∷ w)) && is_none (keyword_of (b ∷ w))

-- ---- numbers

-- the number that digits spell, behind others that spell n
unfoldable pub value_from : ℕ → List ℕ → ℕ
value_from n [] = n
value_from n (d ∷ s) = value_from (10 * n + (d - 48)) s

-- without the zeros at the end
unfoldable pub trimmed : List ℕ → List ℕ
trimmed s = take (length s - prefix_len is_zero (reverse s)) s

abbrev pub held : ℕ → Option ℕ
held n = if nat_le n (2 ^ 63) then Some n else None

-- the digits before the point, and those behind it
unfoldable pub number_mark : List ℕ → List ℕ → Mark
number_mark whole fraction = NUMBER (held (value_from 0 (whole ++ trimmed fraction))) (length (trimmed fraction))

-- ---- strings and signs

-- what stands between the apostrophes of a string
abbrev pub doubled : List ℕ → List ℕ
doubled [] = []
doubled (b ∷ s) = if nat_eq b 39 then 39 ∷ (39 ∷ doubled s) else b ∷ doubled s

unfoldable pub one_sign : ℕ → Option Fixed
one_sign b =
    if nat_eq b 40 then Some Open
    else if nat_eq b 41 then Some Close
    else if nat_eq b 44 then Some Comma
    else if nat_eq b 42 then Some Star
    else if nat_eq b 43 then Some Plus
    else if nat_eq b 45 then Some Minus
    else if nat_eq b 59 then Some Semicolon
    else if nat_eq b 61 then Some Equal
    else if nat_eq b 60 then Some Less
    else if nat_eq b 62 then Some Greater
    else None

unfoldable pub two_sign : ℕ → ℕ → Option Fixed
two_sign b c =
    if nat_eq b 60 && nat_eq c 61 then Some LessEqual
    else if nat_eq b 60 && nat_eq c 62 then Some NotEqual
    else if nat_eq b 33 && nat_eq c 61 then Some NotEqual
    else if nat_eq b 62 && nat_eq c 61 then Some GreaterEqual
    else None

-- ---- tokens

-- the spellings of a token
pub data IsToken : List ℕ → Mark → Type 0 where
  word : {b : ℕ} {w : List ℕ} → class_of b ≡ Letter → Each in_word (b ∷ w) → IsToken (b ∷ w) (word_of (b ∷ w))
  quoted : {b : ℕ} {w : List ℕ} → Each in_quotes (b ∷ w) → IsToken (34 ∷ (b ∷ (w ++ (34 ∷ [])))) (NAME (b ∷ w))
  digits : {b : ℕ} {w : List ℕ} → class_of b ≡ Digit → Each in_number (b ∷ w) → IsToken (b ∷ w) (number_mark (b ∷ w) [])
  point : {b : ℕ} (c : ℕ) (w f : List ℕ) →
      class_of b ≡ Digit → Each in_number (b ∷ w) → Each in_number (c ∷ f) →
      IsToken (b ∷ (w ++ (46 ∷ (c ∷ f)))) (number_mark (b ∷ w) (c ∷ f))
  string : (s : List ℕ) → IsToken (39 ∷ (doubled s ++ (39 ∷ []))) (STRING s)
  one : {b : ℕ} {k : Fixed} → class_of b ≡ Other → one_sign b ≡ Some k → IsToken (b ∷ []) (FIXED k)
  two : {b c : ℕ} {k : Fixed} → class_of b ≡ Other → two_sign b c ≡ Some k → IsToken (b ∷ (c ∷ [])) (FIXED k)

-- no longer front is a token
abbrev pub IsLongest : List ℕ → List ℕ → Type 0
IsLongest front w = (u v : List ℕ) (m : Mark) → front ++ w ≡ u ++ v → IsToken u m → length u ≤ length front

-- no token and no blank begins here
abbrev pub BeginsNone : List ℕ → Type 0
BeginsNone w = ((u v : List ℕ) (m : Mark) → w ≡ u ++ v → IsToken u m → ⊥) × ((b : ℕ) (v : List ℕ) → w ≡ b ∷ v → class_of b ≡ Blank → ⊥)

-- a text from a place on is these tokens, up to where none begins
pub data Splits : ℕ → List ℕ → List Lexeme → List ℕ → Type 0 where
  stops : {at : ℕ} {w : List ℕ} → BeginsNone w → Splits at w [] w
  blank : {at b : ℕ} {w rest : List ℕ} {ts : List Lexeme} → class_of b ≡ Blank → Splits (at + 1) w ts rest → Splits at (b ∷ w) ts rest
  next : {at : ℕ} {front w rest : List ℕ} {m : Mark} {ts : List Lexeme} →
      IsToken front m → IsLongest front w →
      Splits (at + length front) w ts rest →
      Splits at (front ++ w) (token at m ∷ ts) rest
