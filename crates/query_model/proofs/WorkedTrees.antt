-- The trees of boxed expressions and conditions: where the boxes lie makes no difference.
use Rattle.std.proofs.Common.{◌≡◌, pos, refl, Box, Global}
use Rattle.query_model.specs.declared.query.Atom.TheVariants.{Compare, IsNull}
use Rattle.query_model.specs.declared.query.Expr.{Expr}
use Rattle.query_model.specs.declared.query.Expr.TheVariants as exprs
use Rattle.query_model.specs.declared.query.Comparison.TheVariants.{Gt}
use Rattle.query_model.specs.declared.query.Pred.{Pred}
use Rattle.query_model.specs.declared.query.Pred.TheVariants as preds
use Rattle.query_model.specs.Queries.{Column, Literal, Add, Sub, Mul, All, Single, Both, Either, Negation, term_of, condition_of}

abbrev Place : Type 0
Place = Box (Unit {0}) Global

-- v + 3, v - 3 and (v - 3) * w
sum_tree : (p q : Place) → term_of (exprs.Add' p (exprs.Column 0) q (exprs.Literal (pos 3))) ≡ Add (Column 0) (Literal (pos 3))
sum_tree p q = refl

difference_tree : (p q : Place) → term_of (exprs.Sub' p (exprs.Column 0) q (exprs.Literal (pos 3))) ≡ Sub (Column 0) (Literal (pos 3))
difference_tree p q = refl

product_tree : (p q r s : Place) → term_of (exprs.Mul' p (exprs.Sub' r (exprs.Column 0) s (exprs.Literal (pos 3))) q (exprs.Column 1)) ≡ Mul (Sub (Column 0) (Literal (pos 3))) (Column 1)
product_tree p q r s = refl

same_term : (p q r s : Place) (a b : Expr) → term_of (exprs.Mul' p a q b) ≡ term_of (exprs.Mul' r a s b)
same_term p q r s a b = refl

-- v > 7 AND w IS NULL, v > 7 OR w IS NULL, NOT w IS NULL, and no condition
abbrev above : Pred
above = preds.Atom (Compare 0 Gt (pos 7))

abbrev missing : Pred
missing = preds.Atom (IsNull 1)

and_tree : (p q : Place) → condition_of (preds.And' p above q missing) ≡ Both (Single (Compare 0 Gt (pos 7))) (Single (IsNull 1))
and_tree p q = refl

or_tree : (p q : Place) → condition_of (preds.Or' p above q missing) ≡ Either (Single (Compare 0 Gt (pos 7))) (Single (IsNull 1))
or_tree p q = refl

not_tree : (p : Place) → condition_of (preds.Not' p missing) ≡ Negation (Single (IsNull 1))
not_tree p = refl

no_condition_tree : condition_of preds.All ≡ All
no_condition_tree = refl

same_condition : (p q r s : Place) (a b : Pred) → condition_of (preds.Or' p a q b) ≡ condition_of (preds.Or' r a s b)
same_condition p q r s a b = refl
