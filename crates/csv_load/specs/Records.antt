-- The records of a CSV text, which may begin with marks.
use Rattle.std.specs.Prelude.{ℕ, Bool, false, List, [], ◌∷◌, if◌then◌else◌}
use Rattle.csv.specs.Reading.{AreRecords, Reached, default_config, is_bom}
use Rattle.csv.specs.declared.parser.State.{State}
use Rattle.csv.specs.declared.parser.State.TheVariants as st

-- a record: the bytes of each of its fields
abbrev pub Fields : Type 0
Fields = List (List ℕ)

-- whether the text begins with a mark EF BB BF
abbrev pub starts_with_mark : List ℕ → Bool
starts_with_mark [] = false
starts_with_mark (a ∷ []) = false
starts_with_mark (a ∷ b ∷ []) = false
starts_with_mark (a ∷ b ∷ c ∷ rest) = is_bom a b c

-- the text after all marks EF BB BF at its start
unfoldable pub without_marks : List ℕ → List ℕ
without_marks [] = []
without_marks (a ∷ []) = a ∷ []
without_marks (a ∷ b ∷ []) = a ∷ b ∷ []
without_marks (a ∷ b ∷ c ∷ rest) = if is_bom a b c then without_marks rest else a ∷ b ∷ c ∷ rest

-- the text begins with these records
pub record Begins (bytes : List ℕ) (records : List Fields) : Type 0 where
  pub state : State
  pub rest : List ℕ
  pub reached : Reached default_config st.StartRecord (without_marks bytes) records state rest

-- these are all the records of the text
abbrev pub AreRecordsOf : List ℕ → List Fields → Type 0
AreRecordsOf bytes records = AreRecords default_config st.StartRecord (without_marks bytes) records
