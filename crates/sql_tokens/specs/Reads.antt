-- Reading one token at the front of a text.
use Rattle.std.specs.Prelude.{◌≡◌, ℕ, List, [], ◌∷◌, take, drop, Bool, true, false}
use Rattle.std.specs.Prelude.{Option, Some, None, nat_eq, nat_lt, ◌&&◌, if◌then◌else◌}
use Rattle.std.specs.Borrow.{Bor}
use Rattle.std.specs.declared.vec.Vec.{Vec}
use Rattle.std.specs.declared.alloc.Global.{Global}
use Rattle.std.specs.List.{prefix_len}
use Rattle.sql_tokens.specs.declared.byte.Class.{Class}
use Rattle.sql_tokens.specs.declared.byte.Class.TheVariants.{Blank, Letter, Digit, Quote, Apostrophe, Other}
use Rattle.sql_tokens.specs.declared.token.Fixed.{Fixed}
use Rattle.sql_tokens.specs.declared.token.Kind.{Kind}
use Rattle.sql_tokens.specs.Lexeme.{Mark, FIXED, NAME, STRING, mark_of}
use Rattle.sql_tokens.specs.Byte.{class_of, in_word, in_number, in_quotes}
use Rattle.sql_tokens.specs.Spelling.{word_of, number_mark, one_sign, two_sign}

abbrev pub or_else : {A : Type 0} → Option A → Option A → Option A
or_else None b = b
or_else (Some x) b = Some x

abbrev pub grows : ℕ → Option (List ℕ × List ℕ) → Option (List ℕ × List ℕ)
grows b None = None
grows b (Some x) = Some (b ∷ x.0, x.1)

abbrev pub as_string : Option (List ℕ × List ℕ) → Option (Mark × List ℕ)
as_string None = None
as_string (Some x) = Some (STRING x.0, x.1)

abbrev pub marked : Option Fixed → List ℕ → Option (Mark × List ℕ)
marked None w = None
marked (Some k) w = Some (FIXED k, w)

-- the rest of a string up to its last possible end, where an apostrophe was read last or not
unfoldable pub string_from : Bool → List ℕ → Option (List ℕ × List ℕ)
string_from false [] = None
string_from true [] = Some ([], [])
string_from false (b ∷ w) = if nat_eq b 39 then string_from true w else grows b (string_from false w)
string_from true (b ∷ w) = if nat_eq b 39 then or_else (grows 39 (string_from false w)) (Some ([], b ∷ w)) else Some ([], b ∷ w)

unfoldable pub sign_at : ℕ → List ℕ → Option (Mark × List ℕ)
sign_at b [] = marked (one_sign b) []
sign_at b (c ∷ w) = or_else (marked (two_sign b c) w) (marked (one_sign b) (c ∷ w))

-- what closes a quoted name of these bytes
unfoldable pub closed_at : List ℕ → List ℕ → Option (Mark × List ℕ)
closed_at [] w = None
closed_at (b ∷ name) [] = None
closed_at (b ∷ name) (c ∷ w) = if nat_eq c 34 then Some (NAME (b ∷ name), w) else None

-- a number whose digits before its point are these
unfoldable pub fraction_at : List ℕ → List ℕ → Mark × List ℕ
fraction_at whole [] = (number_mark whole [], [])
fraction_at whole (c ∷ w) =
    if nat_eq c 46 && nat_lt 0 (prefix_len in_number w)
    then (number_mark whole (take (prefix_len in_number w) w), drop (prefix_len in_number w) w)
    else (number_mark whole [], c ∷ w)

unfoldable pub number_at : List ℕ → Mark × List ℕ
number_at w = fraction_at (take (prefix_len in_number w) w) (drop (prefix_len in_number w) w)

abbrev pub by_class : Class → ℕ → List ℕ → Option (Mark × List ℕ)
by_class Blank b w = None
by_class Letter b w = Some (word_of (take (prefix_len in_word (b ∷ w)) (b ∷ w)), drop (prefix_len in_word (b ∷ w)) (b ∷ w))
by_class Digit b w = Some (number_at (b ∷ w))
by_class Quote b w = closed_at (take (prefix_len in_quotes w) w) (drop (prefix_len in_quotes w) w)
by_class Apostrophe b w = as_string (string_from false w)
by_class Other b w = sign_at b w

unfoldable pub token_at : List ℕ → Option (Mark × List ℕ)
token_at [] = None
token_at (b ∷ w) = by_class (class_of b) b w

-- ---- what a function returned

abbrev pub GivesToken : Option (Kind × Bor (List ℕ)) → Option (Mark × List ℕ) → Type 0
GivesToken None found = found ≡ None
GivesToken (Some x) found = found ≡ Some (mark_of x.0, x.1.now)

abbrev pub GivesString : Option (Vec ℕ Global × Bor (List ℕ)) → Option (List ℕ × List ℕ) → Type 0
GivesString None found = found ≡ None
GivesString (Some x) found = found ≡ Some (x.0.items, x.1.now)
