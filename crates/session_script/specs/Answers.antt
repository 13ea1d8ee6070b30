-- What a script is, and what each fault says of bytes that are none.
use Rattle.std.specs.Prelude.{◌≡◌, ◌≢◌, ℕ, ◌<◌, ◌≤◌, List, [], length}
use Rattle.std.specs.Str.{IsUtf8, IsValidUpTo}
use Rattle.std.specs.declared.result.Result.{Result}
use Rattle.std.specs.declared.result.Result.TheVariants.{Ok, Err}
use Rattle.session_script.specs.Lines.{Line, queries_of}
use Rattle.session_script.specs.declared.fault.ScriptFault.{ScriptFault}
use Rattle.session_script.specs.declared.fault.ScriptFault.TheVariants.{TooLong, NoText, NoQuery, TooMany, NoMemory}

abbrev pub most_bytes : ℕ
most_bytes = 131072

abbrev pub most_queries : ℕ
most_queries = 16

-- the bytes are a text that is not too long
pub record IsText (script : List ℕ) : Type 0 where
  pub short : length script ≤ most_bytes
  pub text : IsUtf8 script

-- such a text, with at least one query and not too many; and these are they
pub record IsScript (script : List ℕ) (queries : List Line) : Type 0 where
  pub is_text : IsText script
  pub all : queries ≡ queries_of script
  pub some : queries ≢ []
  pub few : length queries ≤ most_queries

-- the first byte that belongs to no character
pub record IsNoText (script : List ℕ) (at : ℕ) : Type 0 where
  pub short : length script ≤ most_bytes
  pub first : IsValidUpTo script at

pub record HasTooMany (script : List ℕ) (count : ℕ) : Type 0 where
  pub is_text : IsText script
  pub all : count ≡ length (queries_of script)
  pub many : most_queries < count

-- what a fault says; want of memory says nothing
abbrev pub Refuses : List ℕ → ScriptFault → Type 0
Refuses script (TooLong limit) = (limit ≡ most_bytes) × (most_bytes < length script)
Refuses script (NoText at) = IsNoText script at
Refuses script NoQuery = IsText script × (queries_of script ≡ [])
Refuses script (TooMany count) = HasTooMany script count
Refuses script NoMemory = Unit {0}

-- the answer that the bytes have, whatever memory there is
abbrev pub IsAnswer : List ℕ → Result (List Line) ScriptFault → Type 0
IsAnswer script (Ok queries) = IsScript script queries
IsAnswer script (Err NoMemory) = ⊥
IsAnswer script (Err fault) = Refuses script fault

-- ---- laws, each the contract of a function that does nothing

-- any bytes have an answer, and one alone
abbrev pub ScriptsHaveAnswers : Type 0
ScriptsHaveAnswers = (script : List ℕ) → (answer : Result (List Line) ScriptFault) × IsAnswer script answer

abbrev pub AnswersAreOne : Type 0
AnswersAreOne = (script : List ℕ) (a b : Result (List Line) ScriptFault) → IsAnswer script a → IsAnswer script b → a ≡ b
