use Rattle.std.proofs.Common.{map, vec_items}
use Rattle.table_gen.proofs.Dictionaries.{HasSeen}
use Rattle.table_gen.proofs.names.distinct_names.Given as goal

abbrev pub invariant-loop-code : goal.invariant-loop-code
invariant-loop-code l = HasSeen l.codes l.code-index (map vec_items l.names.keys) l.seen
