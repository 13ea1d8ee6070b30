-- The steps of a command. Each accepts what it is given, as a value, or shows a refusal; the first that shows one is the run's.
use Rattle.std.specs.Prelude.{◌≡◌, ◌⊎◌, List, [], ◌∷◌}
use Rattle.daq_cli.specs.declared.refusal.Refusal.{Refusal}
use Rattle.daq_cli.specs.declared.refusal.Refusal.TheVariants.{NoMemory}

pub record Step (A : Type 0) : Type 1 where
  pub accepts : A → Type 0
  pub shows : Refusal → Type 0

-- the second step is taken where the first accepts, and with its value
abbrev pub then : {A B : Type 0} → Step A → (A → Step B) → Step B
then first second = record {
  accepts = λ b. (a : _) × first.accepts a × (second a).accepts b;
  shows = λ why. first.shows why ⊎ ((a : _) × first.accepts a × (second a).shows why);
}

-- a step that accepts this value alone
abbrev pub done : {A : Type 0} → A → Step A
done value = record { accepts = λ a. a ≡ value; shows = λ why. ⊥ }

-- a step for each of a list, in order
abbrev pub each : {A B : Type 0} → (A → Step B) → List A → Step (List B)
each step [] = done []
each step (a ∷ rest) = then (step a) (λ b. then (each step rest) (λ bs. done (b ∷ bs)))

-- a step shows the refusal, or memory ran out
abbrev pub StopsStep : {A : Type 0} → Step A → Refusal → Type 0
StopsStep step why = step.shows why ⊎ (why ≡ NoMemory)

-- a step accepts one value at most or shows one refusal at most, and never does both
pub record IsExact {A : Type 0} (step : Step A) : Type 0 where
  pub once : (a b : A) → step.accepts a → step.accepts b → a ≡ b
  pub same : (why other : Refusal) → step.shows why → step.shows other → why ≡ other
  pub apart : (a : A) (why : Refusal) → step.accepts a → step.shows why → ⊥

-- a step accepts something or shows a refusal
abbrev pub IsComplete : {A : Type 0} → Step A → Type 0
IsComplete step = ((a : _) × step.accepts a) ⊎ ((why : Refusal) × step.shows why)
