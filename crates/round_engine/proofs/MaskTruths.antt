-- Truths, told by masks.
use Rattle.std.proofs.Common.{◌≡◌, true, false, refl, sym}
use Rattle.std.proofs.lemmas.Bool.{false≢true}
use Rattle.kleene_filter.specs.Filters.{is_certain, is_possible}
use Rattle.query_model.specs.declared.bounds.Truth.{Truth}
use Rattle.query_model.specs.declared.bounds.Truth.TheVariants.{False, Unknown, True}

pub told_true : (t : Truth) → is_certain t ≡ true → True ≡ t
told_true False h = absurd (false≢true h)
told_true Unknown h = absurd (false≢true h)
told_true True h = refl

pub told_unknown : (t : Truth) → is_certain t ≡ false → is_possible t ≡ true → Unknown ≡ t
told_unknown False h k = absurd (false≢true k)
told_unknown Unknown h k = refl
told_unknown True h k = absurd (false≢true (sym h))

pub told_false : (t : Truth) → is_possible t ≡ false → False ≡ t
told_false False h = refl
told_false Unknown h = absurd (false≢true (sym h))
told_false True h = absurd (false≢true (sym h))
