-- A course of reads: what a run over the planes of a table is, whatever it asks. Its rounds are counted by the planes read: round 0 is
-- nothing read, and each later one reads the next plane of one of its columns.
use Rattle.std.specs.Prelude.{◌≡◌, ℕ, zero, suc, ◌<◌, ◌≤◌, ◌==◌, Bool, List, [], ◌++◌, length, take, slice_index, count_by, IsSome, IsNone}
use Rattle.std.specs.declared.option.Option.{Option}
use Rattle.plane_schedule.specs.Choices.{Chooses, HasChoice, IsSound, IsUnread, Outlook, outlook_of}
use Rattle.plane_schedule.specs.declared.policy.Ending.{Ending}
use Rattle.plane_schedule.specs.declared.policy.Policy.{Policy}
use Rattle.plane_schedule.specs.declared.progress.Progress.{Progress}

-- after so many of these reads: why it ends, if it does, what a policy sees, and whether each prefix is that of some cell. The table's
-- column that a column of the course is. And after all reads, whether the column's next plane is refused, at this row first
pub record Course : Type 1 where
  pub policy : Policy
  pub ending : List ℕ → ℕ → Option Ending
  pub outlook : List ℕ → ℕ → Outlook
  pub legal : List ℕ → ℕ → Type 0
  pub place : ℕ → ℕ
  pub over : List ℕ → ℕ → ℕ → Type 0

-- the number of a column's next plane after so many reads
abbrev pub number_after : List ℕ → ℕ → ℕ → ℕ
number_after reads round column = count_by (λ c. c == column) (take round reads)

-- the rounds so far read these columns: none of them was the last, each next one reads the column that the policy chooses, and what was
-- read is legal
pub record AreReads (course : Course) (reads : List ℕ) : Type 0 where
  pub going : (round : ℕ) → round < length reads → IsNone (course.ending reads round)
  pub chosen : (round : ℕ) → round < length reads → Chooses course.policy (course.outlook reads round) (slice_index reads round)
  pub legal : (round : ℕ) → round ≤ length reads → course.legal reads round

-- all rounds read these columns: the course ends with the last of them
pub record AreAllReads (course : Course) (reads : List ℕ) : Type 0 where
  pub rounds : AreReads course reads
  pub ended : IsSome (course.ending reads (length reads))

-- the rounds so far read these columns, and go on: the next one reads this column
pub record IsFollowed (course : Course) (reads : List ℕ) (next : ℕ) : Type 0 where
  pub rounds : AreReads course reads
  pub going : IsNone (course.ending reads (length reads))
  pub chosen : Chooses course.policy (course.outlook reads (length reads)) next

-- the next plane is this one of the table
pub record IsBefore (course : Course) (reads : List ℕ) (column plane : ℕ) : Type 0 where
  pub next : ℕ
  pub followed : IsFollowed course reads next
  pub column_is : column ≡ course.place next
  pub plane_is : plane ≡ number_after reads (length reads) next

-- and it is refused, at this row first
pub record IsRefused (course : Course) (reads : List ℕ) (column plane row : ℕ) : Type 0 where
  pub before : IsBefore course reads column plane
  pub over : course.over reads before.next row

-- a course that stands after these reads goes on, and its policy chooses a column
pub record IsOpen (course : Course) (reads : List ℕ) : Type 0 where
  pub going : IsNone (course.ending reads (length reads))
  pub choice : HasChoice course.policy (course.outlook reads (length reads))

-- of its columns the planes that were read are the same
abbrev pub HaveSameRead : Course → List ℕ → (ℕ → ℕ → List Bool) → (ℕ → ℕ → List Bool) → Type 0
HaveSameRead course reads a b =
    (c number : ℕ) → c < (course.outlook reads (length reads)).columns → number < number_after reads (length reads) c →
    a (course.place c) number ≡ b (course.place c) number

-- a progress tells a policy what an outlook does
pub record Tells (o : Outlook) (p : Progress) : Type 0 where
  pub sound : IsSound p
  pub unread : (c : ℕ) → IsUnread o c → IsUnread (outlook_of p) c
  pub back : (c : ℕ) → IsUnread (outlook_of p) c → IsUnread o c
  pub choice : (policy : Policy) (c : ℕ) → Chooses policy o c → Chooses policy (outlook_of p) c
  pub chosen : (policy : Policy) (c : ℕ) → Chooses policy (outlook_of p) c → Chooses policy o c

-- ---- the planes that are read

-- what holds of a plane, by its column and its number
abbrev pub OfPlanes : Type 1
OfPlanes = ℕ → ℕ → Type 0

-- it holds of the plane of a column that is next after a round of a course
abbrev pub OfRound : OfPlanes → Course → List ℕ → ℕ → ℕ → Type 0
OfRound P course reads round c = P (course.place c) (number_after reads round c)

-- of each plane that rounds read
abbrev pub OfEach : OfPlanes → Course → List ℕ → Type 0
OfEach P course reads = (round : ℕ) → round < length reads → OfRound P course reads round (slice_index reads round)

-- the places from which the planes of a table's columns are read
abbrev pub Places : Type 0
Places = ℕ → ℕ → List ℕ

-- those of the plane of a column that is next after a round of a course
abbrev pub places_after : Places → Course → List ℕ → ℕ → ℕ → List ℕ
places_after places course reads round c = places (course.place c) (number_after reads round c)

-- those of the planes that so many rounds read, in order
abbrev pub places_of : Places → Course → List ℕ → ℕ → List ℕ
places_of places course reads zero = []
places_of places course reads (suc round) =
    places_of places course reads round ++ places_after places course reads round (slice_index reads round)
