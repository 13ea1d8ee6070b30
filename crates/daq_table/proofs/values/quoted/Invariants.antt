use Rattle.std.proofs.Common.{◌≡◌, ◌∷◌, ◌++◌, drop}
use Rattle.std.specs.List.{flat_map}
use Rattle.daq_table.specs.ValueTexts.{doubled}
use Rattle.daq_table.proofs.values.quoted.Given as goal

abbrev pub invariant-loop-byte : goal.invariant-loop-byte
invariant-loop-byte l = l.text ++ flat_map doubled (drop l.byte-index l.name) ≡ 39 ∷ flat_map doubled l.name
