-- What may be null by what is declared of the columns, and what then is never null.
use Rattle.std.proofs.Common.{◌≡◌, ℕ, Bool, true, false, ◌&&◌, refl, sym, ap, ◌∙◌, if◌then◌else◌}
use Rattle.std.proofs.lemmas.Bool.{false≢true}
use Rattle.daq_table.specs.Tables.{Frame}
use Rattle.query_model.specs.declared.bounds.Nullity.{Nullity}
use Rattle.query_model.specs.declared.bounds.Nullity.TheVariants.{Never, Possibly, Always}
use Rattle.query_model.specs.Queries.{Term, Column, Literal, Add, Sub, Mul}
use Rattle.query_model.specs.Knowledge.{Knowledge, ranges_of}
use Rattle.query_model.specs.Truths.{may_be_null, null_of, one_null}
use Rattle.query_model.specs.Validity.{declared_ranges}

-- of two that may not be null, neither may
first_never : (v w : Nullity) → may_be_null (one_null v w) ≡ false → may_be_null v ≡ false
first_never Always w h = h
first_never Possibly Always h = h
first_never Possibly Possibly h = h
first_never Possibly Never h = h
first_never Never w h = refl

second_never : (v w : Nullity) → may_be_null (one_null v w) ≡ false → may_be_null w ≡ false
second_never Always w h = absurd (false≢true (sym h))
second_never Possibly Always h = h
second_never Possibly Possibly h = h
second_never Possibly Never h = refl
second_never Never w h = h

column_never : (nullable start none : Bool) → may_be_null (if nullable then Possibly else Never) ≡ false → (if nullable && none then (if start then Possibly else Always) else Never) ≡ Never
column_never true start none h = absurd (false≢true (sym h))
column_never false start none h = refl

both_never : (v w : Nullity) → v ≡ Never → w ≡ Never → one_null v w ≡ Never
both_never v w e f = ap (λ n. one_null n w) e ∙ f

-- what may not be null by what is declared is null at no row
pub never_null : (e : Term) (frame : Frame) (known : Knowledge) (r : ℕ) → may_be_null (null_of e (declared_ranges frame)) ≡ false → null_of e (ranges_of frame known r) ≡ Never
never_null (Column c) frame known r h = column_never _ _ _ h
never_null (Literal n) frame known r h = refl
never_null (Add a b) frame known r h = both_never _ _ (never_null a frame known r (first_never _ _ h)) (never_null b frame known r (second_never (null_of a (declared_ranges frame)) _ h))
never_null (Sub a b) frame known r h = both_never _ _ (never_null a frame known r (first_never _ _ h)) (never_null b frame known r (second_never (null_of a (declared_ranges frame)) _ h))
never_null (Mul a b) frame known r h = both_never _ _ (never_null a frame known r (first_never _ _ h)) (never_null b frame known r (second_never (null_of a (declared_ranges frame)) _ h))
