-- A course goes on with the plane that was read, or stops there.
use Rattle.std.proofs.Common.{◌≡◌, ℕ, Bool, List, length, refl, sym, ap, ◌∙◌, subst, IfSome}
use Rattle.std.specs.Io.KnownBytes.{Appends}
use Rattle.std.specs.declared.option.Option.{Option}
use Rattle.std.specs.declared.option.Option.TheVariants.{Some, None}
use Rattle.std.specs.declared.result.Result.TheVariants.{Err}
use Rattle.plane_schedule.specs.Choices.{Chooses, HasChoice, Outlook}
use Rattle.plane_schedule.specs.declared.policy.Policy.{Policy}
use Rattle.table_rounds.specs.Courses.{AreReads, Course, IsFollowed, IsOpen, number_after}
use Rattle.table_rounds.specs.Rounds.{Planes}
use Rattle.plane_course.specs.Sources.{Causes, IsPlane, IsPlaneOver, OnFailed, OnOverTop, StepHandsOver, StopsAt, StopsNext, ToldPlanes}
use Rattle.table_rounds.specs.Courses.{Places}
use Rattle.plane_course.specs.declared.reading.StepFault.{StepFault}
use Rattle.plane_course.specs.declared.reading.StepFault.TheVariants.{Source, OverTop}

-- the column that is chosen is the next
pub followed_by : (course : Course) (reads : List ℕ) (policy : Policy) (outlook : Outlook) (c : ℕ) → course.policy ≡ policy → outlook ≡ course.outlook reads (length reads) → AreReads course reads →
    IsOpen course reads → (HasChoice policy outlook → Chooses policy outlook c) → IsFollowed course reads c
followed_by course reads policy outlook c by sees rounds is_open chosen = record {
  rounds = rounds;
  going = is_open.going;
  chosen = subst (λ o. Chooses course.policy o c) sees (subst (λ p. Chooses p outlook c) (sym by) (chosen (subst (λ p. HasChoice p outlook) by (subst (HasChoice course.policy) (sym sees) is_open.choice))));
}

module _ {E : Type 0} (course : Course) (reads : List ℕ) (c : ℕ) (followed : IsFollowed course reads c) (place number : ℕ) (place_is : place ≡ course.place c) (number_is : number ≡ number_after reads (length reads) c)
    (places : Places) (causes : Causes E) (now end : Option (List ℕ)) where
  -- where the source fails, or the plane is refused, the course stops there
  pub stops_at : (told : ToldPlanes) (plane : List Bool) (over : ℕ → Type 0) (fault : StepFault E) → OnFailed fault (causes place number) → OnOverTop fault (IsPlaneOver told plane place number over) →
      StepHandsOver {T = Unit {0}} (Err fault) now end (places place number) → (IsPlane told place number plane → (row : ℕ) → over row → course.over reads c row) →
      (handed : List ℕ) × StopsAt course places causes reads fault handed × Appends now end handed
  stops_at told plane over (Source error) failed refused (front, rest, split, grown) then = (
    front,
    (
      c,
      followed,
      subst (λ i. causes i (number_after reads (length reads) c) error) place_is (subst (λ n. causes place n error) number_is failed),
      (rest, sym (ap (λ i. places i number) place_is ∙ ap (places (course.place c)) number_is) ∙ split),
    ),
    grown,
  )
  stops_at told plane over (OverTop column at row) failed refused grown then = (
    places column at,
    (
      record {
        before = record { next = c; followed = followed; column_is = refused.column_is ∙ place_is; plane_is = refused.plane_is ∙ number_is };
        over = then refused.is_plane row refused.over_at;
      },
      refl,
    ),
    subst (Appends now end) (sym (ap (λ i. places i at) refused.column_is ∙ ap (places place) refused.plane_is)) grown,
  )

pub failed_of_some : {E : Type 0} (fault : StepFault E) (P : Causes E) (c j : ℕ) → OnFailed fault (P c j) → OnFailed fault (λ error. (column : ℕ) × (number : ℕ) × P column number error)
failed_of_some (Source error) P c j failed = (c, j, failed)
failed_of_some (OverTop column number row) P c j failed = tt

-- the same of planes that may be told or not
pub stops_next : {E : Type 0} (courses : Planes → Course) (after : Planes → List ℕ → Type 0) (told : Option Planes) (places : Places) (causes : Causes E) (now end : Option (List ℕ)) (fault : StepFault E) →
    ((bits : Planes) → told ≡ Some bits → (reads : List ℕ) → after bits reads → IsOpen (courses bits) reads →
    (handed : List ℕ) × StopsAt (courses bits) places causes reads fault handed × Appends now end handed) →
    StopsNext courses after told places causes now end fault
stops_next courses after None places causes now end fault stops = tt
stops_next courses after (Some bits) places causes now end fault stops = stops bits refl

-- where the planes are told, the plane that was read is theirs
pub plane_told : (told : ToldPlanes) (bits : Planes) (place number : ℕ) (plane : List Bool) → told.bits ≡ Some bits → IsPlane told place number plane → plane ≡ bits place number
plane_told told bits place number plane is here = subst (λ o. IfSome o (λ bits. plane ≡ bits place number)) is here

-- one that was read by a place and a number is the plane of what they are
pub plane_at : (told : ToldPlanes) (place number p n : ℕ) (plane : List Bool) → place ≡ p → number ≡ n → IsPlane told place number plane → IsPlane told p n plane
plane_at told place number p n plane place_is number_is is = subst (λ i. IsPlane told i n plane) place_is (subst (λ j. IsPlane told place j plane) number_is is)
