-- The lines of a text, field by field.
use Rattle.std.specs.Prelude.{◌≡◌, ◌≢◌, ◌==◌, ◌||◌, ◌⊎◌, Bool, ℕ, ◌≤◌, ◌<◌, ⊤, List, [], ◌∷◌, ◌++◌, length, drop}
use Rattle.std.specs.Prelude.{slice_index_or, Option, Some, None}
use Rattle.csv.specs.Machine.{Read, next_record, step}
use Rattle.csv.specs.Reading.{default_config}
use Rattle.csv.specs.declared.parser.Action.TheVariants as act
use Rattle.csv.specs.declared.parser.State.{State}
use Rattle.csv.specs.declared.parser.State.TheVariants as st
use Rattle.csv_load.specs.Records.{Fields}
use Rattle.csv_load.specs.declared.odd_field.Effect.{Effect}
use Rattle.csv_load.specs.declared.odd_field.Effect.TheVariants.{Passes, Joins, Ends}
use Rattle.csv_load.specs.declared.odd_field.Within.{Within}
use Rattle.csv_load.specs.declared.odd_field.Within.TheVariants.{Start, Bare, Quoted, Closed}

-- a byte at which a line ends: LF or CR
abbrev pub IsBreak : ℕ → Type 0
IsBreak byte = (byte ≡ 10) ⊎ (byte ≡ 13)

-- a byte at which a field ends: a comma, or one at which a line ends
abbrev pub StopsField : ℕ → Type 0
StopsField byte = (byte ≡ 44) ⊎ IsBreak byte

-- whether a byte may end a field, or begin one in quotes: a comma, LF, a quote or CR
abbrev pub may_stop : ℕ → Bool
may_stop byte = (byte == 44) || (byte == 10) || (byte == 34) || (byte == 13)

-- a byte that neither ends a field nor begins one in quotes
pub record JoinsField (byte : ℕ) : Type 0 where
  pub no_comma : byte ≢ 44
  pub no_break : byte ≢ 10
  pub no_return : byte ≢ 13
  pub no_quote : byte ≢ 34

-- a byte that does not end the quotes of a field
abbrev pub JoinsQuoted : ℕ → Type 0
JoinsQuoted byte = byte ≢ 34

-- where the machine of records is, by the place in a field
abbrev pub state_within : Within → State
state_within Start = st.StartField
state_within Bare = st.InField
state_within Quoted = st.InQuoted
state_within Closed = st.AfterQuote

-- a place in a field where it may end before the text does
abbrev pub MayEnd : Within → Type 0
MayEnd Start = ⊤
MayEnd Bare = ⊤
MayEnd Quoted = ⊥
MayEnd Closed = ⊤

-- what a byte does there by the machine of records; a field ends before the byte that stops it
abbrev pub Does : Within → ℕ → Effect → Type 0
Does place byte (Passes next) = step default_config (state_within place) byte ≡ (state_within next, act.Skip)
Does place byte (Joins next) = step default_config (state_within place) byte ≡ (state_within next, act.Copy)
Does place byte Ends = StopsField byte × MayEnd place

-- the field at a place has these bytes and ends at another place: at a comma, a line break or the end of the text
pub record ReadsField (text : List ℕ) (at : ℕ) (bytes : List ℕ) (end : ℕ) : Type 0 where
  pub behind : at ≤ end
  pub within : end ≤ length text
  pub stops : end < length text → StopsField (slice_index_or text end 0)
  pub place : Within
  pub closed : end < length text → MayEnd place
  pub read : (fields : Fields) → next_record default_config st.StartField fields [] (drop at text)
      ≡ next_record default_config (state_within place) fields bytes (drop end text)

-- the field at a place is one more, and ends at another place
pub record AddsField (text : List ℕ) (at : ℕ) (old new : Fields) (end : ℕ) : Type 0 where
  pub bytes : List ℕ
  pub reads : ReadsField text at bytes end
  pub added : new ≡ old ++ bytes ∷ []

-- between two records
abbrev pub IsBetween : State → Type 0
IsBetween state = (state ≡ st.StartRecord) ⊎ (state ≡ st.AfterCr)

-- the next record of a text from a place on that stands between records
abbrev pub record_at : List ℕ → ℕ → Option Read
record_at text from = next_record default_config st.StartRecord [] [] (drop from text)

-- the next record has these fields, and ends before a place
pub record EndsAt (text : List ℕ) (from : ℕ) (fields : Fields) (next : ℕ) : Type 0 where
  pub within : next ≤ length text
  pub state : State
  pub between : IsBetween state
  pub read : record_at text from ≡ Some (fields, state, drop next text)

-- there is no further record, or the next one has these fields and ends before a place
abbrev pub ReadsLine : List ℕ → ℕ → Fields → Option ℕ → Type 0
ReadsLine text from fields None = record_at text from ≡ None
ReadsLine text from fields (Some next) = EndsAt text from fields next
