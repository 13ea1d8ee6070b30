-- A list that may get one more pair, and what is kept of it.
use Rattle.std.proofs.Common.{◌≡◌, ◌≢◌, ℕ, zero, suc, ◌<◌, ◌≤◌, ℤ, pos, negsuc, ◌+ℤ◌, ◌≤ℤ◌, Bool, true, false, List, [], ◌∷◌, ◌++◌, length, map, take, set, refl, ap, sym, ◌∙◌, subst, inl, inr, arith, Some, slice_get, get_or, min, length-take, length-set, FitsSigned}
use Rattle.std.specs.Int.{w128, int_min, int_max}
use Rattle.std.proofs.lemmas.Bool.{cases_Bool}
use Rattle.std.proofs.Math.Seq.{take-set-lt}
use Rattle.std.proofs.lemmas.List.{get_or-take, get_or-set_same}
use Rattle.std.proofs.lemmas.Option.{get_or_from_slice_get, slice_get-get_or, slice_get_within}
use Rattle.std.proofs.lemmas.Int.{ints, clamps}
use Rattle.query_model.specs.declared.query.ItemKind.{ItemKind}
use Rattle.query_model.specs.declared.query.ItemKind.TheVariants.{Count, Sum, Min, Max, Avg}
use Rattle.query_model.specs.Answers.{total}
use Rattle.query_model.specs.Bounds.{Pair, certain_count, low_share, high_share}
use Rattle.query_model.specs.Laws.{SumsFit}
use Rattle.query_model.specs.Validity.{IsSumKind}
use Rattle.aggregates.specs.declared.tally.Tally.{Tally}
use Rattle.aggregates.specs.Runnings.{Tallies, StandsFor, IsAdded, IsSet}
use Rattle.aggregates.specs.Tallies.{AreOrdered, MayGet, if_summed, tally_of}
use Rattle.aggregates.proofs.Appending.{total-more}

fits_above : (n m : ℕ) → n ≤ m → FitsSigned w128 (pos m) → FitsSigned w128 (pos n)
fits_above n m h f = (let g = f.sfits in record { sfits = omega arith })

fits_below : (n m : ℕ) → n ≤ m → FitsSigned w128 (negsuc m) → FitsSigned w128 (negsuc n)
fits_below n m h f = (let g = f.sfits in record { sfits = omega arith })

pub fits_between : (a z b : ℤ) → a ≤ℤ z → z ≤ℤ b → FitsSigned w128 a → FitsSigned w128 b → FitsSigned w128 z
fits_between a (pos n) (pos m) low high f g = fits_above n m (omega (arith, ints)) g
fits_between a (pos n) (negsuc m) low high f g = absurd (omega (arith, ints))
fits_between (pos m) (negsuc n) b low high f g = absurd (omega (arith, ints))
fits_between (negsuc m) (negsuc n) b low high f g = fits_below n m (omega (arith, ints)) f

pub ordered-more : (ps : List Pair) (p : Pair) → AreOrdered ps → p.low ≤ℤ p.high → AreOrdered (ps ++ p ∷ [])
ordered-more [] p h o = (o, tt)
ordered-more (q ∷ qs) p h o = (h.0, ordered-more qs p h.1 o)

pub few_certain : (ps : List Pair) → certain_count ps ≤ length ps
few_certain [] = omega arith
few_certain (p ∷ ps) =
    let rest = few_certain ps in
    elim (cases_Bool p.certain) [
      | inl t ↦ rw t (omega arith)
      | inr f ↦ rw f (omega arith)
    ]

-- a share lies between the ends of the span, widened to hold 0
low_share_within : (c : Bool) (l h : ℤ) → l ≤ℤ h → (int_min l (pos 0) ≤ℤ low_share (record { certain = c; low = l; high = h })) × (low_share (record { certain = c; low = l; high = h }) ≤ℤ int_max h (pos 0))
low_share_within true l h o = (omega (arith, ints, clamps), omega (arith, ints, clamps))
low_share_within false l h o = (omega (arith, ints, clamps), omega (arith, ints, clamps))

high_share_within : (c : Bool) (l h : ℤ) → l ≤ℤ h → (int_min l (pos 0) ≤ℤ high_share (record { certain = c; low = l; high = h })) × (high_share (record { certain = c; low = l; high = h }) ≤ℤ int_max h (pos 0))
high_share_within true l h o = (omega (arith, ints, clamps), omega (arith, ints, clamps))
high_share_within false l h o = (omega (arith, ints, clamps), omega (arith, ints, clamps))

shares_within : (f : Pair → ℤ) → ((p : Pair) → p.low ≤ℤ p.high → (int_min p.low (pos 0) ≤ℤ f p) × (f p ≤ℤ int_max p.high (pos 0))) → (ps : List Pair) → AreOrdered ps →
    (total (map (λ p. int_min p.low (pos 0)) ps) ≤ℤ total (map f ps)) × (total (map f ps) ≤ℤ total (map (λ p. int_max p.high (pos 0)) ps))
shares_within f each [] o = (omega (arith, ints), omega (arith, ints))
shares_within f each (p ∷ ps) o =
    let here = each p o.0 in
    let rest = shares_within f each ps o.1 in
    let a = here.0 in
    let b = here.1 in
    let d = rest.0 in
    let e = rest.1 in
    (omega (arith, ints), omega (arith, ints))

shares_fit : (f : Pair → ℤ) → ((p : Pair) → p.low ≤ℤ p.high → (int_min p.low (pos 0) ≤ℤ f p) × (f p ≤ℤ int_max p.high (pos 0))) → (ps : List Pair) (p : Pair) →
    AreOrdered ps → p.low ≤ℤ p.high → SumsFit (ps ++ p ∷ []) → FitsSigned w128 (total (map f ps) +ℤ f p)
shares_fit f each ps p o q fit =
    let within = shares_within f each (ps ++ p ∷ []) (ordered-more ps p o q) in
    subst (FitsSigned w128) (total-more f ps p) (fits_between _ _ _ within.0 within.1 fit.low fit.high)

summed : (kind : ItemKind) (z : ℤ) → IsSumKind kind → if_summed kind z ≡ z
summed Count z h = absurd h
summed Sum z h = refl
summed Min z h = absurd h
summed Max z h = absurd h
summed Avg z h = refl

-- the sums of what is kept have room for the pair's shares
pub low_sum_fits : (kind : ItemKind) (ps : List Pair) (p : Pair) → AreOrdered ps → p.low ≤ℤ p.high → MayGet kind ps p → IsSumKind kind → FitsSigned w128 ((tally_of kind ps).low_sum +ℤ low_share p)
low_sum_fits kind ps p o q may sums =
    subst (λ z. FitsSigned w128 (z +ℤ low_share p)) (sym (summed kind _ sums)) (shares_fit low_share (λ p. low_share_within p.certain p.low p.high) ps p o q (may.fits sums))

pub high_sum_fits : (kind : ItemKind) (ps : List Pair) (p : Pair) → AreOrdered ps → p.low ≤ℤ p.high → MayGet kind ps p → IsSumKind kind → FitsSigned w128 ((tally_of kind ps).high_sum +ℤ high_share p)
high_sum_fits kind ps p o q may sums =
    subst (λ z. FitsSigned w128 (z +ℤ high_share p)) (sym (summed kind _ sums)) (shares_fit high_share (λ p. high_share_within p.certain p.low p.high) ps p o q (may.fits sums))

-- ---- places of lists

-- the first elements stand where they stood
pub taken_same : {A : Type 0} (n : ℕ) (xs : List A) (k : ℕ) → k < n → slice_get (take n xs) k ≡ slice_get xs k
taken_same zero xs k h = absurd (omega arith)
taken_same (suc n) [] k h = refl
taken_same (suc n) (x ∷ xs) zero h = refl
taken_same (suc n) (x ∷ xs) (suc k) h = taken_same n xs k (omega arith)

pub taken_within : {A : Type 0} (n : ℕ) (xs : List A) (k : ℕ) (x : A) → slice_get (take n xs) k ≡ Some x → (k < n) × (k < length xs)
taken_within n xs k x h =
    let within : k < length (take n xs) = slice_get_within (take n xs) k x h in
    let count : length (take n xs) ≡ min n (length xs) = length-take n xs in
    (omega arith, omega arith)

pub taken_at : {A : Type 0} (n : ℕ) (xs : List A) (k : ℕ) (x : A) → slice_get (take n xs) k ≡ Some x → slice_get xs k ≡ Some x
taken_at n xs k x h =
    let within = taken_within n xs k x h in
    slice_get-get_or xs k x within.1 ∙ ap Some (sym (get_or-take n xs k x within.0) ∙ get_or_from_slice_get (take n xs) k x x h)

pub set_at : {A : Type 0} (xs : List A) (k : ℕ) (x : A) → k < length xs → slice_get (set xs k x) k ≡ Some x
set_at xs k x h =
    let count : length (set xs k x) ≡ length xs = length-set xs k x in
    slice_get-get_or (set xs k x) k x (omega arith) ∙ ap Some (get_or-set_same xs k x x h)

pub set_elsewhere : {A : Type 0} (xs : List A) (i k : ℕ) (x : A) → k ≢ i → slice_get (set xs i x) k ≡ slice_get xs k
set_elsewhere [] i k x h = refl
set_elsewhere (y ∷ ys) zero zero x h = absurd (h refl)
set_elsewhere (y ∷ ys) zero (suc k) x h = refl
set_elsewhere (y ∷ ys) (suc i) zero x h = refl
set_elsewhere (y ∷ ys) (suc i) (suc k) x h = set_elsewhere ys i k x (λ e. h (ap suc e))

-- ---- a cell's place

pub found_at : (n : ℕ) (xs : List Tally) (k : ℕ) (t r : Tally) → slice_get (take n xs) k ≡ Some t → r ≡ get_or xs k r → r ≡ t
found_at n xs k t r h e = e ∙ get_or_from_slice_get xs k t r (taken_at n xs k t h)

-- what the first n of these tallies are seen as
abbrev pub seen : ItemKind → ℕ → List Tally → Tallies
seen kind n xs = record { kind = kind; room = length xs; cells = take n xs }

pub stands_within : (kind : ItemKind) (n : ℕ) (xs : List Tally) (running : Tallies) (cell : ℕ) (ps : List Pair) → seen kind n xs ≡ running → StandsFor running cell ps → (cell < n) × (cell < length xs)
stands_within kind n xs running cell ps e stands =
    let here : StandsFor (seen kind n xs) cell ps = subst (λ r. StandsFor r cell ps) (sym e) stands in
    taken_within n xs cell (tally_of kind ps) here.kept

pub stands_as : (kind : ItemKind) (n : ℕ) (xs : List Tally) (running : Tallies) (cell : ℕ) (ps : List Pair) (t : Tally) → seen kind n xs ≡ running → StandsFor running cell ps →
    t ≡ get_or xs cell t → t ≡ tally_of kind ps
stands_as kind n xs running cell ps t e stands was =
    let here : StandsFor (seen kind n xs) cell ps = subst (λ r. StandsFor r cell ps) (sym e) stands in
    found_at n xs cell (tally_of kind ps) t here.kept was

pub is_set : (kind : ItemKind) (n : ℕ) (xs : List Tally) (cell : ℕ) (tally : Tally) → cell < n → n ≤ length xs → IsSet (seen kind n xs) (seen kind n (set xs cell tally)) cell tally
is_set kind n xs cell tally in_cells in_room =
    let same : take n (set xs cell tally) ≡ set (take n xs) cell tally = take-set-lt n xs cell tally in_cells in
    let taken : length (take n xs) ≡ min n (length xs) = length-take n xs in
    record {
      kind = refl;
      room = length-set xs cell tally;
      count = ap length same ∙ length-set (take n xs) cell tally;
      others = λ other h. ap (λ ts. slice_get ts other) same ∙ set_elsewhere (take n xs) cell other tally h;
      kept = ap (λ ts. slice_get ts cell) same ∙ set_at (take n xs) cell tally (omega arith);
    }

pub is_added : (kind : ItemKind) (n : ℕ) (xs : List Tally) (cell : ℕ) (old new : Tally) (p : Pair) → cell < n → cell < length xs → p.low ≤ℤ p.high → old ≡ get_or xs cell old →
    ((ps : List Pair) → old ≡ tally_of kind ps → new ≡ tally_of kind (ps ++ p ∷ [])) →
    IsAdded (seen kind n xs) (seen kind n (set xs cell new)) cell p
is_added kind n xs cell old new p in_cells in_room o was next =
    let same : take n (set xs cell new) ≡ set (take n xs) cell new = take-set-lt n xs cell new in_cells in
    let taken : length (take n xs) ≡ min n (length xs) = length-take n xs in
    record {
      kind = refl;
      room = length-set xs cell new;
      count = ap length same ∙ length-set (take n xs) cell new;
      others = λ other h. ap (λ ts. slice_get ts other) same ∙ set_elsewhere (take n xs) cell other new h;
      appended = λ ps stands. record {
        kept = ap (λ ts. slice_get ts cell) same ∙ set_at (take n xs) cell new (omega arith) ∙ ap Some (next ps (found_at n xs cell (tally_of kind ps) old stands.kept was));
        ordered = ordered-more ps p stands.ordered o;
      };
    }
