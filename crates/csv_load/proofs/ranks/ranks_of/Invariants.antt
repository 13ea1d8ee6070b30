use Rattle.std.proofs.Common.{◌≡◌, List, ℕ, pos, map, take, vec_items}
use Rattle.daq_table.specs.Dictionaries.{rank_of}
use Rattle.daq_table.specs.Raised.{lowered}
use Rattle.csv_load.proofs.ranks.ranks_of.Given as goal

abbrev pub invariant-loop-text : goal.invariant-loop-text
invariant-loop-text l = map lowered l.ranks.items ≡ map (λ (text : List ℕ). pos (rank_of l.names text)) (map vec_items (take l.text-index l.texts))
