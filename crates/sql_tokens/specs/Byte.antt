-- What a byte can begin.
use Rattle.std.specs.Prelude.{◌≡◌, ℕ, ◌-◌, List, [], ◌∷◌, Bool, true, false}
use Rattle.std.specs.Prelude.{nat_eq, nat_lt, ◌&&◌, ◌||◌, not, if◌then◌else◌}
use Rattle.sql_tokens.specs.declared.byte.Class.{Class}
use Rattle.sql_tokens.specs.declared.byte.Class.TheVariants.{Blank, Letter, Digit, Quote, Apostrophe, Other}

-- the byte is one of those from low to high
abbrev pub within : ℕ → ℕ → ℕ → Bool
within low high b = not (nat_lt b low) && not (nat_lt high b)

-- blanks, letters and the underscore, digits, the quotes of names, those of strings, and all others
unfoldable pub class_of : ℕ → Class
class_of b =
    if nat_eq b 32 || nat_eq b 9 || nat_eq b 10 || nat_eq b 13 then Blank
    else if within 65 90 b || within 97 122 b || nat_eq b 95 then Letter
    else if within 48 57 b then Digit
    else if nat_eq b 34 then Quote
    else if nat_eq b 39 then Apostrophe
    else Other

-- a letter or a digit goes on with a word
abbrev pub joins_word : Class → Bool
joins_word Letter = true
joins_word Digit = true
joins_word _ = false

abbrev pub is_blank : Class → Bool
is_blank Blank = true
is_blank _ = false

abbrev pub is_letter : Class → Bool
is_letter Letter = true
is_letter _ = false

abbrev pub is_digit : Class → Bool
is_digit Digit = true
is_digit _ = false

abbrev pub in_word : ℕ → Bool
in_word b = joins_word (class_of b)

abbrev pub in_number : ℕ → Bool
in_number b = is_digit (class_of b)

abbrev pub is_zero : ℕ → Bool
is_zero b = nat_eq b 48

-- a byte of a quoted name
abbrev pub in_quotes : ℕ → Bool
in_quotes b = within 32 126 b && not (nat_eq b 34)

-- a small letter as its capital
abbrev pub capital : ℕ → ℕ
capital b = if within 97 122 b then b - 32 else b

abbrev pub Each : (ℕ → Bool) → List ℕ → Type 0
Each p [] = Unit {0}
Each p (b ∷ w) = (p b ≡ true) × Each p w
