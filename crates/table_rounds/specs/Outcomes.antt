-- What a course comes to over planes of which some cannot be read: a last round, or a plane at which it stops.
use Rattle.std.specs.Prelude.{ℕ, List}
use Rattle.table_rounds.specs.Courses.{AreAllReads, Course, IsBefore, IsRefused, OfEach, OfPlanes}

-- a last round, or a plane by its column and its number: it cannot be read, or it is refused, at this row
pub data Outcome : Type 0 where
  ended : Outcome
  unreadable : ℕ → ℕ → Outcome
  refused : ℕ → ℕ → ℕ → Outcome

-- rounds that read these columns come to this
abbrev pub ComeTo : Course → OfPlanes → List ℕ → Outcome → Type 0
ComeTo course readable reads ended = AreAllReads course reads
ComeTo course readable reads (unreadable column plane) = IsBefore course reads column plane × ¬ readable column plane
ComeTo course readable reads (refused column plane row) = IsRefused course reads column plane row × readable column plane

-- they do, and each plane that they read can be read
pub record EndIn (course : Course) (readable : OfPlanes) (reads : List ℕ) (outcome : Outcome) : Type 0 where
  pub each : OfEach readable course reads
  pub come : ComeTo course readable reads outcome
