-- How high the tree of a condition is.
use Rattle.std.proofs.Common.{ℕ, suc, max}
use Rattle.sql_text.specs.Tree.{Pred, Negation, Both, Either}

abbrev pub height : Pred → ℕ
height (Negation a) = suc (height a)
height (Both a b) = suc (max (height a) (height b))
height (Either a b) = suc (max (height a) (height b))
height _ = 0
