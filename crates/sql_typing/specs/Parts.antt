-- What the parts of typing give: their result, or the first fault.
use Rattle.std.specs.Prelude.{◌≡◌, ◌⊎◌, Option, Some, None, Result, Ok, Err, FitsSigned}
use Rattle.std.specs.Int.{w64}
use Rattle.query_model.specs.Queries.{Term, Column, Literal, Add, Sub, Mul}
use Rattle.sql_typing.specs.declared.fault.TypeFault.{TypeFault}
use Rattle.sql_typing.specs.declared.fault.TypeFault.TheVariants.{NoMemory}

-- want of memory, or the first fault
abbrev pub IsFault : TypeFault → Option TypeFault → Type 0
IsFault fault first = (fault ≡ NoMemory) ⊎ (first ≡ Some fault)

-- something that is seen as this, where there is no fault
abbrev pub Types : {X Y : Type 0} → (X → Y) → Result X TypeFault → Option TypeFault → Y → Type 0
Types view (Ok x) first y = (first ≡ None) × (view x ≡ y)
Types view (Err fault) first y = IsFault fault first

-- no fault, or the first
abbrev pub Checks : Result (Unit {0}) TypeFault → Option TypeFault → Type 0
Checks (Ok x) first = first ≡ None
Checks (Err fault) first = IsFault fault first

-- a literal is a number of 64 bits
abbrev pub IsSmall : Term → Type 0
IsSmall (Column c) = Unit {0}
IsSmall (Literal n) = FitsSigned w64 n
IsSmall (Add a b) = Unit {0}
IsSmall (Sub a b) = Unit {0}
IsSmall (Mul a b) = Unit {0}
