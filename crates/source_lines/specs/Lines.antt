-- The lines of what was read of a source, and what reading on says.
use Rattle.std.specs.Prelude.{◌≡◌, ℕ, ◌+◌, ◌==◌, ◌<◌, ◌≤◌, nat_lt, Bool, true, false, List, [], ◌∷◌, ◌++◌, length, take, drop}
use Rattle.std.specs.List.{position_or_len}
use Rattle.std.specs.Io.KnownBytes.{Consumes, IsAtEnd}
use Rattle.outer_world.specs.Device.{Rose, SourceState}
use Rattle.source_lines.specs.declared.fault.LineFault.{LineFault}
use Rattle.source_lines.specs.declared.fault.LineFault.TheVariants.{Fault, LineTooLong, TooLong, NoMemory}

-- the most bytes of a line, and of all that is read
abbrev pub most_line : ℕ
most_line = 65536

abbrev pub most_bytes : ℕ
most_bytes = 1073741824

-- what was read, from the next line on, and how many bytes were read in all
pub record LinesState : Type 0 where
  pub pending : List ℕ
  pub total : ℕ

-- before the first read
abbrev pub no_lines : LinesState
no_lines = record { pending = []; total = 0 }

-- ---- the lines of bytes

abbrev pub is_feed : ℕ → Bool
is_feed byte = byte == 10

-- how many bytes come before the first line feed, or are there
abbrev pub line_length : List ℕ → ℕ
line_length bytes = position_or_len is_feed bytes

-- a line stands there that has its line feed
abbrev pub has_line : List ℕ → Bool
has_line bytes = nat_lt (line_length bytes) (length bytes)

-- the first line, without its line feed
abbrev pub front_line : List ℕ → List ℕ
front_line bytes = take (line_length bytes) bytes

abbrev pub behind_line : List ℕ → List ℕ
behind_line bytes = drop (line_length bytes + 1) bytes

-- ---- reading on

-- some bytes were read, in all no more than may be, and stand behind what stood there
pub record ReadsOn (old new : LinesState) (source source' : SourceState) : Type 0 where
  pub bytes : List ℕ
  pub came : Consumes source.left source'.left bytes
  pub pending : new.pending ≡ old.pending ++ bytes
  pub total : new.total ≡ old.total + length bytes
  pub within : new.total ≤ most_bytes

-- one byte at least was read
pub record Comes (old new : LinesState) (source source' : SourceState) : Type 0 where
  pub reads : ReadsOn old new source source'
  pub some : old.total < new.total

-- the source is at its end, and nothing was read
pub record ComesNothing (old new : LinesState) (source source' : SourceState) : Type 0 where
  pub came : Consumes source.left source'.left []
  pub ended : IsAtEnd source'.left
  pub same : new ≡ old

-- a whole line stands there, of at most so many bytes
pub record Stands (old new : LinesState) (source source' : SourceState) : Type 0 where
  pub reads : ReadsOn old new source source'
  pub line : has_line new.pending ≡ true
  pub short : line_length new.pending ≤ most_line

-- no whole line stands there, nor more bytes than a line may have
pub record IsRest (pending : List ℕ) : Type 0 where
  pub no_line : has_line pending ≡ false
  pub short : line_length pending ≤ most_line

-- the source was read to its end, and no line more stands there
pub record Ends (old new : LinesState) (source source' : SourceState) : Type 0 where
  pub reads : ReadsOn old new source source'
  pub ended : IsAtEnd source'.left
  pub rest : IsRest new.pending

-- ---- where it stops

-- as many bytes as may come had come, and no whole line stood there, as one came more
pub record IsFull (old : LinesState) (source source' : SourceState) : Type 0 where
  pub front : List ℕ
  pub last : ℕ
  pub came : Consumes source.left source'.left (front ++ last ∷ [])
  pub full : old.total + length front ≡ most_bytes
  pub rest : IsRest (old.pending ++ front)

-- bytes were read, in all no more than may be, of which this holds
pub record Took (P : List ℕ → Type 0) (old : LinesState) (source source' : SourceState) : Type 0 where
  pub bytes : List ℕ
  pub came : Consumes source.left source'.left bytes
  pub within : old.total + length bytes ≤ most_bytes
  pub holds : P bytes

-- the source failed, where no whole line stands there
pub record IsBroken (old : LinesState) (source source' : SourceState) : Type 0 where
  pub rose : Rose source.faults source'.faults
  pub took : Took (λ bytes. IsRest (old.pending ++ bytes)) old source source'

abbrev pub StopsLines : LinesState → SourceState → SourceState → LineFault → Type 0
StopsLines old source source' Fault = IsBroken old source source'
StopsLines old source source' LineTooLong = Took (λ bytes. most_line < line_length (old.pending ++ bytes)) old source source'
StopsLines old source source' TooLong = IsFull old source source'
StopsLines old source source' NoMemory = Took (λ bytes. Unit {0}) old source source'
