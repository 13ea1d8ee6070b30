-- One more name behind the columns that were read so far.
use Rattle.std.specs.Prelude.{◌≡◌, ℕ, ◌<◌, ◌≤◌, ◌==◌, List, length, count_by}
use Rattle.daq_table.specs.Tables.{ends_at, frame_of, planes}
use Rattle.daq_table.specs.declared.table_head.Head.{Head}
use Rattle.query_model.specs.Projection.{projected_frame}
use Rattle.query_model.specs.Queries.{Query}
use Rattle.plane_reads.specs.declared.fault.ReadsFault.{ReadsFault}
use Rattle.plane_reads.specs.declared.fault.ReadsFault.TheVariants.{UnknownName, PastEnd, NoMemory}
use Rattle.plane_reads.specs.Reads.{IsNamed}

abbrev pub planes_at : Query → Head → ℕ → ℕ
planes_at query head c = planes (ends_at (projected_frame query (frame_of head)) c)

-- the column has this name, and a plane that was not read yet
pub record IsNext (query : Query) (head : Head) (columns : List ℕ) (name : List ℕ) (c : ℕ) : Type 0 where
  pub named : IsNamed query head c name
  pub left : count_by (λ d. d == c) columns < planes_at query head c

-- the column has this name, and none
pub record IsEnded (query : Query) (head : Head) (columns : List ℕ) (name : List ℕ) (c : ℕ) : Type 0 where
  pub named : IsNamed query head c name
  pub ended : planes_at query head c ≤ count_by (λ d. d == c) columns

abbrev pub IsNextFault : Query → Head → List ℕ → List ℕ → ReadsFault → Type 0
IsNextFault query head columns name (UnknownName place) = (place ≡ length columns) × ((c : ℕ) → ¬ IsNamed query head c name)
IsNextFault query head columns name (PastEnd place) = (place ≡ length columns) × ((c : ℕ) × IsEnded query head columns name c)
IsNextFault query head columns name NoMemory = ⊥
