-- Texts in quotes, and the words of a text that stand outside of them.
use Rattle.std.specs.Prelude.{◌≡◌, ℕ, suc, ◌==◌, ◌&&◌, not, Bool, true, false, List, [], ◌∷◌, ◌++◌, if◌then◌else◌}
use Rattle.std.specs.declared.option.Option.{Option}
use Rattle.std.specs.declared.option.Option.TheVariants.{Some, None}
use Rattle.std.specs.List.{starts_with}

-- a quote begins what is quoted, or ends it
abbrev pub turned : ℕ → Bool → Bool
turned c quoted = if c == 39 then not quoted else quoted

-- the word begins the text, which does not stand in quotes
abbrev pub begins_outside : List ℕ → Bool → List ℕ → Bool
begins_outside word quoted text = not quoted && starts_with ◌==◌ text word

-- the place of the first such word outside of quotes, or the length where there is none
abbrev pub place_outside : List ℕ → Bool → List ℕ → ℕ
place_outside word quoted [] = 0
place_outside word quoted (c ∷ cs) =
    if begins_outside word quoted (c ∷ cs) then 0 else suc (place_outside word (turned c quoted) cs)

-- no such word begins outside of quotes before the text ends, whatever stands behind it, and each quote of the text is ended
abbrev pub LacksOutside : List ℕ → Bool → List ℕ → Type 0
LacksOutside word quoted [] = quoted ≡ false
LacksOutside word quoted (c ∷ cs) =
    ((rest : List ℕ) → begins_outside word quoted (c ∷ (cs ++ rest)) ≡ false) × LacksOutside word (turned c quoted) cs

-- an odd number of quotes stands in the text
abbrev pub is_open : List ℕ → Bool
is_open [] = false
is_open (c ∷ cs) = turned c (is_open cs)

-- a place one further, else this one if it is one
abbrev pub place_here : Option ℕ → Bool → Option ℕ
place_here (Some further) here = Some (suc further)
place_here None true = Some 0
place_here None false = None

-- the place of the last such word behind which each quote is ended
abbrev pub last_outside : List ℕ → List ℕ → Option ℕ
last_outside word [] = None
last_outside word (c ∷ cs) = place_here (last_outside word cs) (begins_outside word (is_open (c ∷ cs)) (c ∷ cs))

-- a word that does not begin with a quote
abbrev pub IsWord : List ℕ → Type 0
IsWord [] = ⊥
IsWord (c ∷ cs) = (c == 39) ≡ false

-- the text without each second quote
abbrev pub undoubled : Bool → List ℕ → List ℕ
undoubled second [] = []
undoubled second (c ∷ cs) =
    if c == 39 then (if second then undoubled false cs else 39 ∷ undoubled true cs) else c ∷ undoubled second cs
