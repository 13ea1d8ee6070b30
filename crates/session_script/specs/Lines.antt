-- The lines of a script.
use Rattle.std.specs.Prelude.{ℕ, ◌+◌, ◌==◌, ◌||◌, Bool, List, [], ◌∷◌, if◌then◌else◌}
use Rattle.std.specs.List.{list_all, slice_split}
use Rattle.session_script.specs.declared.script.ScriptQuery.{ScriptQuery}

-- a line that is numbered, and its text without the end
pub record Line : Type 0 where
  pub number : ℕ
  pub text : List ℕ

abbrev pub line_of : ScriptQuery → Line
line_of query = record { number = query.line; text = query.text.now }

-- space, tab and CR
abbrev pub is_space : ℕ → Bool
is_space byte = byte == 32 || byte == 9 || byte == 13

abbrev pub is_blank : List ℕ → Bool
is_blank text = list_all is_space text

-- the lines with these texts, numbered from that number on, but for the blank ones
abbrev pub lines_from : ℕ → List (List ℕ) → List Line
lines_from number [] = []
lines_from number (text ∷ texts) =
    if is_blank text then lines_from (number + 1) texts else record { number = number; text = text } ∷ lines_from (number + 1) texts

-- the texts of all lines: each ends before a byte 0A, and what is left behind the last 0A is one more, which may be empty
abbrev pub texts_of : List ℕ → List (List ℕ)
texts_of script = slice_split (λ byte. byte == 10) script

-- lines count from 1
abbrev pub queries_of : List ℕ → List Line
queries_of script = lines_from 1 (texts_of script)
