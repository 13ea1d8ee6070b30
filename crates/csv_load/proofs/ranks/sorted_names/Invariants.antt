use Rattle.std.proofs.Common.{◌≡◌, ℕ, map, Bor, Vec, Global}
use Rattle.csv_load.proofs.ranks.sorted_names.Given as goal

abbrev pub invariant-loop-name : goal.invariant-loop-name
invariant-loop-name l = l.texts.items ≡ map (λ (k : Bor (Vec ℕ Global)). k.now.items) l.yielded
