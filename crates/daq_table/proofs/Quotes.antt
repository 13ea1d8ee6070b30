-- The length of a name in quotes.
use Rattle.std.proofs.Common.{◌≡◌, ℕ, suc, ◌+◌, ◌<◌, List, [], ◌∷◌, ◌++◌, length, ap, arith}
use Rattle.std.proofs.lemmas.List.{length-append}

-- where the part done and the next piece pass the room, so does the whole
pub too_much : (text piece rest all : List ℕ) → text ++ (piece ++ rest) ≡ 39 ∷ all → 640 < length text + length piece → 640 < suc (length (all ++ 39 ∷ []))
too_much text piece rest all e h =
    let whole = simp length-append at (ap length e) in
    simp length-append (omega arith)
