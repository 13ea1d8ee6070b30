-- When a piece ends a line, and when a new file is made.
use Rattle.std.specs.Prelude.{◌≡◌, ℕ, ◌-◌, List, length, slice_get, Some, IsSome, ⊤}
use Rattle.system_devices.specs.declared.new_file.NewFile.{NewFile}
use Rattle.system_devices.specs.declared.target.Target.{Target}
use Rattle.system_devices.specs.declared.target.Target.TheVariants.{New}

-- the last byte is a line break
abbrev pub EndsLine : List ℕ → Type 0
EndsLine piece = slice_get piece (length piece - 1) ≡ Some 10

-- bytes go to a new file
abbrev pub IsNew : Target → Type 0
IsNew (New file) = ⊤
IsNew target = ⊥

-- a file is open for them
abbrev pub IsMade : NewFile → Type 0
IsMade file = IsSome file.file
