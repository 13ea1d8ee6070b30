use Rattle.std.proofs.Common.{◌≡◌, ℕ, map, Bor, Vec, Global}
use Rattle.table_gen.proofs.names.dictionary.Given as goal

abbrev pub invariant-loop-name : goal.invariant-loop-name
invariant-loop-name l = l.names.items ≡ map (λ (k : Bor (Vec ℕ Global)). k.now.items) l.yielded
