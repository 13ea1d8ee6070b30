-- What a device answers to what the system answered, and when that is a fault.
use Rattle.std.specs.Prelude.{◌≡◌, ℕ, zero, suc, ◌+◌, ◌-◌, ◌^◌, min, List, [], ◌∷◌, Result, Ok, Err, IsErr}
use Rattle.outer_world.specs.declared.device.Failed.{Failed}

-- one fault more, up to the last value of the counter
abbrev pub one_more : ℕ → ℕ
one_more faults = min (faults + 1) (2 ^ 64 - 1)

-- the call did what it was asked, for so many bytes, and no fault is counted
abbrev pub Moves : ℕ → Result ℕ Failed → ℕ → ℕ → Type 0
Moves count answer before now = (answer ≡ Ok count) × (now ≡ before)

-- the call failed, and that is counted
abbrev pub Fails : Result ℕ Failed → ℕ → ℕ → Type 0
Fails answer before now = IsErr answer × (now ≡ one_more before)

-- a read: so many bytes, where none is the end of the input; an error of the system is a fault, never an end
abbrev pub AnswersRead : {E : Type 0} → Result ℕ E → Result ℕ Failed → ℕ → ℕ → Type 0
AnswersRead (Ok count) answer before now = Moves count answer before now
AnswersRead (Err why) answer before now = Fails answer before now

-- a write of a piece: so many bytes; an error of the system is a fault, and so is none taken where the piece has any
abbrev pub AnswersWrite : {E : Type 0} → List ℕ → Result ℕ E → Result ℕ Failed → ℕ → ℕ → Type 0
AnswersWrite [] (Ok count) answer before now = Moves count answer before now
AnswersWrite (byte ∷ bytes) (Ok zero) answer before now = Fails answer before now
AnswersWrite (byte ∷ bytes) (Ok (suc count)) answer before now = Moves (suc count) answer before now
AnswersWrite piece (Err why) answer before now = Fails answer before now
