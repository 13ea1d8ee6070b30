use Rattle.std.proofs.Common.{◌≡◌, ◌+◌, ◌∷◌, length, take}
use Rattle.product_sums.proofs.factors.joined.Given as goal

abbrev pub invariant-loop-i : goal.invariant-loop-i
invariant-loop-i l = (length l.factors ≡ 4) × (take (l.i + 1) l.factors ≡ l.fn.first ∷ take l.i l.rest)
