-- Where the least or the greatest text of a part lies, and that over all parts. No bound is that of a part without a text.
use Rattle.std.specs.Prelude.{◌≡◌, ℕ, Bool, true, false, ◌||◌, List, IsTrue}
use Rattle.std.specs.declared.option.Option.{Option}
use Rattle.std.specs.declared.option.Option.TheVariants.{Some, None}
use Rattle.query_model.specs.Bounds.{Occurs}
use Rattle.text_extremes.specs.Texts.{first_of, last_of, of_all, text_le}
use Rattle.text_extremes.specs.declared.extreme.Extreme.{Extreme}
use Rattle.text_extremes.specs.declared.extreme.Extreme.TheVariants.{Least, Greatest}

-- the text lies between two, both included; if it is not certain, there may be none
pub record TextBound : Type 0 where
  pub certain : Bool
  pub low : List ℕ
  pub high : List ℕ

-- ---- what a bound says

-- the answer lies between the ends, and there is one where it is certain
abbrev pub Admits : Option TextBound → Option (List ℕ) → Type 0
Admits None None = Unit {0}
Admits None (Some t) = ⊥
Admits (Some bound) None = bound.certain ≡ false
Admits (Some bound) (Some t) = IsTrue (text_le bound.low t) × IsTrue (text_le t bound.high)

-- it says what the answer is
abbrev pub Tells : Option TextBound → Option (List ℕ) → Type 0
Tells None None = Unit {0}
Tells None (Some t) = ⊥
Tells (Some bound) None = ⊥
Tells (Some bound) (Some t) = (bound.certain ≡ true) × (bound.low ≡ t) × (bound.high ≡ t)

-- the new bound lies within the old one
pub record IsWithin (old new : TextBound) : Type 0 where
  pub certain : old.certain ≡ true → new.certain ≡ true
  pub low : IsTrue (text_le old.low new.low)
  pub high : IsTrue (text_le new.high old.high)

abbrev pub IsNested : Option TextBound → Option TextBound → Type 0
IsNested None None = Unit {0}
IsNested None (Some new) = ⊥
IsNested (Some old) None = old.certain ≡ false
IsNested (Some old) (Some new) = IsWithin old new

-- where it is not certain some world has no answer, and each end is the answer of some world
abbrev pub IsAttained : {W : Type 0} → (W → Type 0) → (W → Option (List ℕ)) → Option TextBound → Type 0
IsAttained {W} IsWorld answer_in None = Unit {0}
IsAttained {W} IsWorld answer_in (Some bound) =
    (bound.certain ≡ false → Occurs IsWorld answer_in None)
    × Occurs IsWorld answer_in (Some bound.low) × Occurs IsWorld answer_in (Some bound.high)

-- it admits the answer of each world, and is attained
pub record IsExtremes {W : Type 0} (IsWorld : W → Type 0) (answer_in : W → Option (List ℕ)) (bound : Option TextBound) : Type 0 where
  pub admits : (world : W) → IsWorld world → Admits bound (answer_in world)
  pub attained : IsAttained IsWorld answer_in bound

-- ---- the bound over all parts

-- of the least the near end is the low one, of the greatest the high one
abbrev pub near_end : Extreme → TextBound → List ℕ
near_end Least bound = bound.low
near_end Greatest bound = bound.high

abbrev pub far_end : Extreme → TextBound → List ℕ
far_end Least bound = bound.high
far_end Greatest bound = bound.low

abbrev pub bound_with : Extreme → Bool → List ℕ → List ℕ → TextBound
bound_with Least certain near far = record { certain = certain; low = near; high = far }
bound_with Greatest certain near far = record { certain = certain; low = far; high = near }

-- the answer of two parts lies no farther than that of one that has one for certain; where neither has, either may be alone
abbrev pub far_by : Extreme → Bool → Bool → List ℕ → List ℕ → List ℕ
far_by extreme true true s t = first_of extreme s t
far_by extreme true false s t = s
far_by extreme false true s t = t
far_by extreme false false s t = last_of extreme s t

-- the bound over two parts that may have a text
abbrev pub joined : Extreme → TextBound → TextBound → TextBound
joined extreme a b =
    bound_with extreme (a.certain || b.certain) (first_of extreme (near_end extreme a) (near_end extreme b))
    (far_by extreme a.certain b.certain (far_end extreme a) (far_end extreme b))

abbrev pub combined : Extreme → List (Option TextBound) → Option TextBound
combined extreme bounds = of_all (joined extreme) bounds
