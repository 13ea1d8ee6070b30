-- Where planes come from, and what the step of a round does with one.
use Rattle.std.specs.Prelude.{◌≡◌, ℕ, Bool, List, ◌++◌, length, IfSome, MatchResult, Ok, Err}
use Rattle.std.specs.Io.KnownBytes.{Appends}
use Rattle.std.specs.declared.option.Option.{Option}
use Rattle.std.specs.declared.result.Result.{Result}
use Rattle.daq_table.specs.Tables.{frame_of}
use Rattle.daq_table.specs.declared.table_head.Head.{Head}
use Rattle.table_rounds.specs.Courses.{Course, IsFollowed, IsOpen, IsRefused, OfPlanes, Places, number_after, places_after}
use Rattle.table_rounds.specs.Rounds.{HaveRows, Planes}
use Rattle.plane_course.specs.declared.reading.StepFault.{StepFault}
use Rattle.plane_course.specs.declared.reading.StepFault.TheVariants.{Source, OverTop}

-- what a source tells of a table: its head, and its planes where they are told
pub record ToldPlanes : Type 0 where
  pub head : Head
  pub bits : Option Planes

-- told planes are as long as the table
abbrev pub AreTold : ToldPlanes → Type 0
AreTold told = IfSome told.bits (HaveRows (frame_of told.head))

-- the bits are that plane, where it is told
abbrev pub IsPlane : ToldPlanes → ℕ → ℕ → List Bool → Type 0
IsPlane told column number plane = IfSome told.bits (λ bits. plane ≡ bits column number)

-- ---- what is handed over

-- some of these places were handed over, from the front
abbrev pub AppendsFront : Option (List ℕ) → Option (List ℕ) → List ℕ → Type 0
AppendsFront old new places = (front rest : List ℕ) × (places ≡ front ++ rest) × Appends old new front

-- these places were handed over; at an error some of them, from the front
abbrev pub HandsOver : {T E : Type 0} → Result T E → Option (List ℕ) → Option (List ℕ) → List ℕ → Type 0
HandsOver result old new places = MatchResult result (λ _. Appends old new places) (λ _. AppendsFront old new places)

-- a step hands over the places of its plane: all of them, but where the source failed some of them, from the front
abbrev pub StepHandsOver : {T E : Type 0} → Result T (StepFault E) → Option (List ℕ) → Option (List ℕ) → List ℕ → Type 0
StepHandsOver (Ok done) old new places = Appends old new places
StepHandsOver (Err (Source error)) old new places = AppendsFront old new places
StepHandsOver (Err (OverTop column plane row)) old new places = Appends old new places

-- ---- the step of a round

-- why a plane of a column is not read
abbrev pub Causes : Type 0 → Type 1
Causes E = ℕ → ℕ → E → Type 0

-- a course stops at its next plane: the source failed, for one of these causes, with some of the plane's places handed over, from the
-- front; or the plane is refused, with all of them handed over
abbrev pub StopsAt : {E : Type 0} → Course → Places → Causes E → List ℕ → StepFault E → List ℕ → Type 0
StopsAt course places causes reads (Source error) handed =
    (next : ℕ) × IsFollowed course reads next × causes (course.place next) (number_after reads (length reads) next) error
    × ((rest : List ℕ) × (places_after places course reads (length reads) next ≡ handed ++ rest))
StopsAt course places causes reads (OverTop column plane row) handed =
    IsRefused course reads column plane row × (handed ≡ places column plane)

-- of a course over told planes, which stands so after reads and goes on: it stops at its next plane
abbrev pub StopsNext : {E : Type 0} → (Planes → Course) → (Planes → List ℕ → Type 0) → Option Planes → Places → Causes E →
    Option (List ℕ) → Option (List ℕ) → StepFault E → Type 0
StopsNext course after told places causes old new fault =
    IfSome told (λ bits. (reads : List ℕ) → after bits reads → IsOpen (course bits) reads →
    (handed : List ℕ) × StopsAt (course bits) places causes reads fault handed × Appends old new handed)

-- a plane of the table's column was read, as these bits, and is refused at a row
pub record IsPlaneOver (told : ToldPlanes) (bits : List Bool) (place number : ℕ) (over : ℕ → Type 0) (column plane row : ℕ) : Type 0 where
  pub column_is : column ≡ place
  pub plane_is : plane ≡ number
  pub is_plane : IsPlane told place number bits
  pub over_at : over row

-- what holds of a refused plane; nothing is said of a fault of the source
abbrev pub OnRefused : {E : Type 0} → StepFault E → OfPlanes → Type 0
OnRefused (Source error) P = Unit {0}
OnRefused (OverTop column plane row) P = P column plane

-- what holds of the column, the plane and the row of a refused plane
abbrev pub OnOverTop : {E : Type 0} → StepFault E → (ℕ → ℕ → ℕ → Type 0) → Type 0
OnOverTop (Source error) P = Unit {0}
OnOverTop (OverTop column plane row) P = P column plane row

-- what holds of the error of a source that failed; nothing is said of a refused plane
abbrev pub OnFailed : {E : Type 0} → StepFault E → (E → Type 0) → Type 0
OnFailed (Source error) P = P error
OnFailed (OverTop column plane row) P = Unit {0}
