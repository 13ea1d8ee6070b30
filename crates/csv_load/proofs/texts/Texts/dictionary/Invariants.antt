use Rattle.std.proofs.Common.{◌≡◌, map, take, vec_items}
use Rattle.daq_table.specs.Dictionaries.{distinct}
use Rattle.csv_load.proofs.texts.Texts.dictionary.Given as goal

abbrev pub invariant-loop-text : goal.invariant-loop-text
invariant-loop-text l = map vec_items l.sorted.keys ≡ distinct (map vec_items (take l.text-index l.text-items))
