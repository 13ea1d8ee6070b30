use Rattle.std.proofs.Common.{◌≡◌, ℕ, ◌<◌, pos, get_or, length, map, take}
use Rattle.daq_table.specs.Dictionaries.{rank_of}
use Rattle.table_gen.specs.Draws.{text_of}
use Rattle.table_gen.proofs.names.ranks.Given as goal

abbrev pub invariant-loop-code : goal.invariant-loop-code
invariant-loop-code l = record {
  long : length l.table ≡ 16;
  filled : (k : ℕ) → k < l.code → get_or l.table k (pos 0) ≡ pos (rank_of l.names (text_of k));
}

abbrev pub invariant-loop-code-2 : goal.invariant-loop-code-2
invariant-loop-code-2 l = l.ranks.items ≡ map (λ code. pos (rank_of l.names (text_of code))) (take l.code-index l.codes)
