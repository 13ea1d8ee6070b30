use Rattle.std.proofs.Common.{◌≡◌, ◌++◌, drop, map, string_bytes}
use Rattle.std.specs.Vec.Iter.{into_iter_items}
use Rattle.daq.proofs.arguments.words_of.Given as goal

-- the words that were taken and those that are left are all behind the first
abbrev pub invariant-loop-word : goal.invariant-loop-word
invariant-loop-word l =
    l.words ++ map string_bytes (into_iter_items l.word-iterator) ≡ drop 1 (map string_bytes (into_iter_items l.fn.args))
