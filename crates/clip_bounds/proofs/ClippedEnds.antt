-- The bound of an extreme over clipped pairs is its bound with the ends clipped.
use Rattle.std.proofs.Common.{◌≡◌, ℤ, Bool, true, false, cond, ◌||◌, List, [], ◌∷◌, map, filter_map, refl, sym, ap, subst, ◌∙◌, arith, Some, None, inl, inr}
use Rattle.std.specs.Int.{int_min, int_max}
use Rattle.std.specs.List.{cons_option}
use Rattle.std.proofs.lemmas.Bool.{cases_Bool, cond-true, cond-false, false≢true, or_cases}
use Rattle.std.proofs.lemmas.Int.{ints, clamps}
use Rattle.query_model.specs.declared.bounds.Bound.{Bound}
use Rattle.query_model.specs.declared.bounds.Nullity.{Nullity}
use Rattle.query_model.specs.declared.bounds.Nullity.TheVariants.{Never, Possibly}
use Rattle.query_model.specs.declared.query.ItemKind.{ItemKind}
use Rattle.query_model.specs.declared.query.ItemKind.TheVariants.{Count, Sum, Min, Max, Avg}
use Rattle.query_model.specs.Answers.{greatest, least}
use Rattle.query_model.specs.Bounds.{Pair, bound_of, certain_highs, certain_lows, high_of_least, highs, low_of_greatest, lows, nullity_of, some_certain}
use Rattle.clip_bounds.specs.declared.clip.Clip.{Clip}
use Rattle.clip_bounds.specs.Clipped.{clipped, clipped_ends}

-- ---- a list of numbers, raised or lowered to one

min_raised : (x y a : ℤ) → int_min (int_max x a) (int_max y a) ≡ int_max (int_min x y) a
min_raised x y a = omega (arith, ints, clamps)

min_lowered : (x y b : ℤ) → int_min (int_min x b) (int_min y b) ≡ int_min (int_min x y) b
min_lowered x y b = omega (arith, ints, clamps)

max_raised : (x y a : ℤ) → int_max (int_max x a) (int_max y a) ≡ int_max (int_max x y) a
max_raised x y a = omega (arith, ints, clamps)

max_lowered : (x y b : ℤ) → int_max (int_min x b) (int_min y b) ≡ int_min (int_max x y) b
max_lowered x y b = omega (arith, ints, clamps)

-- the least of numbers each of which is changed so that their least is
least_changed : (f : ℤ → ℤ) → ((x y : ℤ) → int_min (f x) (f y) ≡ f (int_min x y)) → (x : ℤ) (xs : List ℤ) → least (map f (x ∷ xs)) ≡ f (least (x ∷ xs))
least_changed f keeps x [] = refl
least_changed f keeps x (y ∷ ys) = ap (int_min (f x)) (least_changed f keeps y ys) ∙ keeps x (least (y ∷ ys))

greatest_changed : (f : ℤ → ℤ) → ((x y : ℤ) → int_max (f x) (f y) ≡ f (int_max x y)) → (x : ℤ) (xs : List ℤ) → greatest (map f (x ∷ xs)) ≡ f (greatest (x ∷ xs))
greatest_changed f keeps x [] = refl
greatest_changed f keeps x (y ∷ ys) = ap (int_max (f x)) (greatest_changed f keeps y ys) ∙ keeps x (greatest (y ∷ ys))

-- ---- the ends of clipped pairs

abbrev pub raised : Clip → ℤ → ℤ
raised clip x = int_max x clip.low

abbrev pub lowered : Clip → ℤ → ℤ
lowered clip x = int_min x clip.high

pub lows_clipped : (clip : Clip) (ps : List Pair) → lows (map (clipped clip) ps) ≡ map (raised clip) (lows ps)
lows_clipped clip [] = refl
lows_clipped clip (p ∷ ps) = ap (λ xs. raised clip p.low ∷ xs) (lows_clipped clip ps)

pub highs_clipped : (clip : Clip) (ps : List Pair) → highs (map (clipped clip) ps) ≡ map (lowered clip) (highs ps)
highs_clipped clip [] = refl
highs_clipped clip (p ∷ ps) = ap (λ xs. lowered clip p.high ∷ xs) (highs_clipped clip ps)

-- the ends of the certain pairs
abbrev kept : (Pair → ℤ) → List Pair → List ℤ
kept end ps = filter_map (λ p. cond p.certain (Some (end p)) None) ps

one_changed : (f : ℤ → ℤ) (b : Bool) (z : ℤ) (zs ys : List ℤ) → ys ≡ map f zs → cons_option (cond b (Some (f z)) None) ys ≡ map f (cons_option (cond b (Some z) None) zs)
one_changed f true z zs ys e = ap (λ xs. f z ∷ xs) e
one_changed f false z zs ys e = e

certain_lows_clipped : (clip : Clip) (ps : List Pair) → certain_lows (map (clipped clip) ps) ≡ map (raised clip) (certain_lows ps)
certain_lows_clipped clip [] = refl
certain_lows_clipped clip (p ∷ ps) = one_changed (raised clip) p.certain p.low (certain_lows ps) (certain_lows (map (clipped clip) ps)) (certain_lows_clipped clip ps)

certain_highs_clipped : (clip : Clip) (ps : List Pair) → certain_highs (map (clipped clip) ps) ≡ map (lowered clip) (certain_highs ps)
certain_highs_clipped clip [] = refl
certain_highs_clipped clip (p ∷ ps) = one_changed (lowered clip) p.certain p.high (certain_highs ps) (certain_highs (map (clipped clip) ps)) (certain_highs_clipped clip ps)

pub some_certain_clipped : (clip : Clip) (ps : List Pair) → some_certain (map (clipped clip) ps) ≡ some_certain ps
some_certain_clipped clip [] = refl
some_certain_clipped clip (p ∷ ps) = ap (λ b. p.certain || b) (some_certain_clipped clip ps)

pub nullity_clipped : (clip : Clip) (ps : List Pair) → nullity_of (map (clipped clip) ps) ≡ nullity_of ps
nullity_clipped clip [] = refl
nullity_clipped clip (p ∷ ps) = ap (λ b. cond b Never Possibly) (some_certain_clipped clip (p ∷ ps))

-- there is an end of a certain pair
abbrev IsFull : List ℤ → Type 0
IsFull xs = (x : ℤ) × (rest : List ℤ) × (xs ≡ x ∷ rest)

kept_more : (b : Bool) (z : ℤ) (rest : List ℤ) → (b ≡ false → IsFull rest) → IsFull (cons_option (cond b (Some z) None) rest)
kept_more true z rest h = (z, rest, refl)
kept_more false z rest h = h refl

some_kept : (end : Pair → ℤ) (ps : List Pair) → some_certain ps ≡ true → IsFull (kept end ps)
some_kept end [] h = absurd (false≢true h)
some_kept end (p ∷ ps) h =
    kept_more p.certain (end p) (kept end ps) (λ f. some_kept end ps (elim (or_cases p.certain (some_certain ps) h) [ inl t ↦ absurd (false≢true (sym f ∙ t)) | inr rest ↦ rest ]))

least_of_full : (clip : Clip) (xs : List ℤ) → IsFull xs → least (map (lowered clip) xs) ≡ lowered clip (least xs)
least_of_full clip xs full = subst (λ ys. least (map (lowered clip) ys) ≡ lowered clip (least ys)) (sym full.2) (least_changed (lowered clip) (λ x y. min_lowered x y clip.high) full.0 full.1)

greatest_of_full : (clip : Clip) (xs : List ℤ) → IsFull xs → greatest (map (raised clip) xs) ≡ raised clip (greatest xs)
greatest_of_full clip xs full = subst (λ ys. greatest (map (raised clip) ys) ≡ raised clip (greatest ys)) (sym full.2) (greatest_changed (raised clip) (λ x y. max_raised x y clip.low) full.0 full.1)

-- ---- the ends of bounds

pub least_low_clipped : (clip : Clip) (p : Pair) (ps : List Pair) → least (lows (map (clipped clip) (p ∷ ps))) ≡ raised clip (least (lows (p ∷ ps)))
least_low_clipped clip p ps = ap least (lows_clipped clip (p ∷ ps)) ∙ least_changed (raised clip) (λ x y. min_raised x y clip.low) p.low (lows ps)

pub greatest_high_clipped : (clip : Clip) (p : Pair) (ps : List Pair) → greatest (highs (map (clipped clip) (p ∷ ps))) ≡ lowered clip (greatest (highs (p ∷ ps)))
greatest_high_clipped clip p ps = ap greatest (highs_clipped clip (p ∷ ps)) ∙ greatest_changed (lowered clip) (λ x y. max_lowered x y clip.high) p.high (highs ps)

high_of_least_clipped : (clip : Clip) (p : Pair) (ps : List Pair) → high_of_least (map (clipped clip) (p ∷ ps)) ≡ lowered clip (high_of_least (p ∷ ps))
high_of_least_clipped clip p ps =
    let all = p ∷ ps in
    let new = map (clipped clip) all in
    let same = some_certain_clipped clip all in
    elim (cases_Bool (some_certain all)) [
      | inl t ↦ cond-true (some_certain new) (least (certain_highs new)) (greatest (highs new)) (same ∙ t)
          ∙ ap least (certain_highs_clipped clip all) ∙ least_of_full clip (certain_highs all) (some_kept (λ q. q.high) all t)
          ∙ ap (lowered clip) (sym (cond-true (some_certain all) (least (certain_highs all)) (greatest (highs all)) t))
      | inr f ↦ cond-false (some_certain new) (least (certain_highs new)) (greatest (highs new)) (same ∙ f)
          ∙ greatest_high_clipped clip p ps
          ∙ ap (lowered clip) (sym (cond-false (some_certain all) (least (certain_highs all)) (greatest (highs all)) f))
    ]

low_of_greatest_clipped : (clip : Clip) (p : Pair) (ps : List Pair) → low_of_greatest (map (clipped clip) (p ∷ ps)) ≡ raised clip (low_of_greatest (p ∷ ps))
low_of_greatest_clipped clip p ps =
    let all = p ∷ ps in
    let new = map (clipped clip) all in
    let same = some_certain_clipped clip all in
    elim (cases_Bool (some_certain all)) [
      | inl t ↦ cond-true (some_certain new) (greatest (certain_lows new)) (least (lows new)) (same ∙ t)
          ∙ ap greatest (certain_lows_clipped clip all) ∙ greatest_of_full clip (certain_lows all) (some_kept (λ q. q.low) all t)
          ∙ ap (raised clip) (sym (cond-true (some_certain all) (greatest (certain_lows all)) (least (lows all)) t))
      | inr f ↦ cond-false (some_certain new) (greatest (certain_lows new)) (least (lows new)) (same ∙ f)
          ∙ least_low_clipped clip p ps
          ∙ ap (raised clip) (sym (cond-false (some_certain all) (greatest (certain_lows all)) (least (lows all)) f))
    ]

pub same_bound : (null null' : Nullity) (lo lo' hi hi' : ℤ) → null ≡ null' → lo ≡ lo' → hi ≡ hi' → ◌≡◌ {A = Bound} (record { null = null; lo = lo; hi = hi }) (record { null = null'; lo = lo'; hi = hi' })
same_bound null null' lo lo' hi hi' e l h =
    ap (λ w. record { null = w; lo = lo; hi = hi }) e ∙ ap (λ x. record { null = null'; lo = x; hi = hi }) l ∙ ap (λ x. record { null = null'; lo = lo'; hi = x }) h

-- the kind is that of an extreme
abbrev pub IsExtremeKind : ItemKind → Type 0
IsExtremeKind Count = ⊥
IsExtremeKind Sum = ⊥
IsExtremeKind Min = Unit {0}
IsExtremeKind Max = Unit {0}
IsExtremeKind Avg = ⊥

pub extreme_clipped : (kind : ItemKind) (clip : Clip) (p : Pair) (ps : List Pair) → IsExtremeKind kind → bound_of kind (map (clipped clip) (p ∷ ps)) ≡ clipped_ends clip (bound_of kind (p ∷ ps))
extreme_clipped Count clip p ps h = absurd h
extreme_clipped Sum clip p ps h = absurd h
extreme_clipped Min clip p ps h = same_bound _ _ _ _ _ _ (nullity_clipped clip (p ∷ ps)) (least_low_clipped clip p ps) (high_of_least_clipped clip p ps)
extreme_clipped Max clip p ps h = same_bound _ _ _ _ _ _ (nullity_clipped clip (p ∷ ps)) (low_of_greatest_clipped clip p ps) (greatest_high_clipped clip p ps)
extreme_clipped Avg clip p ps h = absurd h
