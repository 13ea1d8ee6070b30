-- What holds as texts are appended: those so far stand behind what was there.
use Rattle.std.proofs.Common.{◌≡◌, ◌++◌, take}
use Rattle.std.specs.List.{flat_map}
use Rattle.plane_file.specs.Format.{counted}
use Rattle.plane_file.proofs.heads.push_texts.Given as goal

abbrev pub invariant-loop-text : goal.invariant-loop-text
invariant-loop-text l = l.bytes.items ≡ l.initial.bytes.items ++ flat_map counted (take l.text-index l.texts)
