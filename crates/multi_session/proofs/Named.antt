-- The columns that queries name: each place stands among them once.
use Rattle.std.proofs.Common.{◌≡◌, ◌≢◌, ◌⊎◌, inl, inr, ℕ, zero, suc, ◌+◌, ◌<◌, ◌≤◌, ◌==◌, ◌||◌, Bool, true, false, if◌then◌else◌, Some, List, [], ◌∷◌, ◌++◌, length, get_or, refl, sym, ap, ◌∙◌, subst, arith, length-append, fold, slice_get}
use Rattle.std.proofs.lemmas.Bool.{cases_lt, eq-eqb, eqb-true}
use Rattle.std.proofs.lemmas.Option.{same_Some}
use Rattle.std.proofs.lemmas.List.Elements.{All-append, All-push}
use Rattle.std.specs.List.{All, flat_map, list_any}
use Rattle.multi_session.specs.Sessions.{columns_named, with_column}
use Rattle.query_model.specs.Queries.{Query}
use Rattle.multi_session.specs.Members.{StandOnce, Stands}

-- ---- lists

pub get_last : (xs : List ℕ) (c n : ℕ) → n ≡ length xs → get_or (xs ++ c ∷ []) n 0 ≡ c
get_last [] c zero h = refl
get_last [] c (suc n) h = absurd (omega arith)
get_last (x ∷ xs) c zero h = absurd (omega arith)
get_last (x ∷ xs) c (suc n) h = get_last xs c n (omega arith)

pub get_before : {X : Type 0} (xs ys : List X) (n : ℕ) (d : X) → n < length xs → get_or (xs ++ ys) n d ≡ get_or xs n d
get_before [] ys n d h = absurd (omega arith)
get_before (x ∷ xs) ys zero d h = refl
get_before (x ∷ xs) ys (suc n) d h = get_before xs ys n d (omega arith)

-- ---- one column more

abbrev is_in : List ℕ → ℕ → Bool
is_in xs p = list_any (λ x. x == p) xs

not_there : (xs : List ℕ) (p i : ℕ) → is_in xs p ≡ false → i < length xs → get_or xs i 0 ≢ p
not_there [] p i none h e = absurd (omega arith)
not_there (x ∷ xs) p zero none h e = (let never : true ≡ false = sym (ap (λ b. b || is_in xs p) (eq-eqb x p e)) ∙ none in cc)
not_there (x ∷ xs) p (suc i) none h e = not_there xs p i (or_false (x == p) (is_in xs p) none) (omega arith) e
  where
    or_false : (a b : Bool) → (a || b) ≡ false → b ≡ false
    or_false true b e = cc
    or_false false b e = e

there : (xs : List ℕ) (p : ℕ) → is_in xs p ≡ true → Stands xs p
there [] p some = cc
there (x ∷ xs) p some = by (x == p) refl some (there xs p)
  where
    by : (b : Bool) → (x == p) ≡ b → (b || is_in xs p) ≡ true → (is_in xs p ≡ true → Stands xs p) → Stands (x ∷ xs) p
    by true e rest later = (0, omega arith, eqb-true x p e)
    by false e rest later = let (i, h, is) = later rest in (suc i, omega (arith, h), is)

abbrev chosen : Bool → List ℕ → ℕ → List ℕ
chosen b xs p = if b then xs else xs ++ p ∷ []

with_once : (xs : List ℕ) (p : ℕ) → StandOnce xs → StandOnce (with_column xs p)
with_once xs p once = by (is_in xs p) refl
  where
    by : (b : Bool) → is_in xs p ≡ b → StandOnce (chosen b xs p)
    by true e = once
    by false e = λ i j h k same. to i j h k same (cases_lt i (length xs)) (cases_lt j (length xs))
      where
        long : length (xs ++ p ∷ []) ≡ length xs + 1
        long = length-append xs (p ∷ [])

        to : (i j : ℕ) → i < length (xs ++ p ∷ []) → j < length (xs ++ p ∷ []) → get_or (xs ++ p ∷ []) i 0 ≡ get_or (xs ++ p ∷ []) j 0 →
            ((i < length xs) ⊎ (length xs ≤ i)) → ((j < length xs) ⊎ (length xs ≤ j)) → i ≡ j
        to i j h k same (inl a) (inl b) = once i j a b (sym (get_before xs (p ∷ []) i 0 a) ∙ same ∙ get_before xs (p ∷ []) j 0 b)
        to i j h k same (inl a) (inr b) =
            absurd (not_there xs p i e a (sym (get_before xs (p ∷ []) i 0 a) ∙ same ∙ get_last xs p j (omega (arith, long, k, b))))
        to i j h k same (inr a) (inl b) =
            absurd (not_there xs p j e b (sym (get_before xs (p ∷ []) j 0 b) ∙ sym same ∙ get_last xs p i (omega (arith, long, h, a))))
        to i j h k same (inr a) (inr b) = omega (arith, long, h, k, a, b)

with_stays : (xs : List ℕ) (p q : ℕ) → Stands xs q → Stands (with_column xs p) q
with_stays xs p q (i, h, is) = by (is_in xs p)
  where
    by : (b : Bool) → Stands (chosen b xs p) q
    by true = (i, h, is)
    by false = (i, (let long = length-append xs (p ∷ []) in omega (arith, long, h)), get_before xs (p ∷ []) i 0 h ∙ is)

with_new : (xs : List ℕ) (p : ℕ) → Stands (with_column xs p) p
with_new xs p = by (is_in xs p) refl
  where
    by : (b : Bool) → is_in xs p ≡ b → Stands (chosen b xs p) p
    by true e = there xs p e
    by false e = (length xs, (let long = length-append xs (p ∷ []) in omega (arith, long)), get_last xs p (length xs) refl)

-- ---- all columns

all_once : (ps xs : List ℕ) → StandOnce xs → StandOnce (fold with_column xs ps)
all_once [] xs once = once
all_once (p ∷ ps) xs once = all_once ps (with_column xs p) (with_once xs p once)

all_stay : (ps xs : List ℕ) (q : ℕ) → Stands xs q → Stands (fold with_column xs ps) q
all_stay [] xs q stands = stands
all_stay (p ∷ ps) xs q stands = all_stay ps (with_column xs p) q (with_stays xs p q stands)

all_stand : (ps xs : List ℕ) (q : ℕ) → Stands ps q → Stands (fold with_column xs ps) q
all_stand [] xs q (i, h, is) = absurd (omega (arith, h))
all_stand (p ∷ ps) xs q (zero, h, is) = subst (Stands (fold with_column (with_column xs p) ps)) is (all_stay ps (with_column xs p) p (with_new xs p))
all_stand (p ∷ ps) xs q (suc i, h, is) = all_stand ps (with_column xs p) q (i, omega (arith, h), is)

left : (xs ys : List ℕ) (q : ℕ) → Stands xs q → Stands (xs ++ ys) q
left xs ys q (i, h, is) = (i, (let long = length-append xs ys in omega (arith, long, h)), get_before xs ys i 0 h ∙ is)

right : (xs ys : List ℕ) (q : ℕ) → Stands ys q → Stands (xs ++ ys) q
right [] ys q stands = stands
right (x ∷ xs) ys q stands = let (i, h, is) = right xs ys q stands in (suc i, omega (arith, h), is)

of_query : (queries : List Query) (k : ℕ) (query : Query) (place : ℕ) → slice_get queries k ≡ Some query → Stands query.columns place →
    Stands (flat_map (λ q. q.columns) queries) place
of_query [] k query place e stands = cc
of_query (q ∷ qs) zero query place e stands =
    left q.columns (flat_map (λ q. q.columns) qs) place (subst (λ (n : Query). Stands n.columns place) (sym (same_Some q query e)) stands)
of_query (q ∷ qs) (suc k) query place e stands = right q.columns (flat_map (λ q. q.columns) qs) place (of_query qs k query place e stands)

pub columns_once : (queries : List Query) → StandOnce (columns_named queries)
columns_once queries = all_once (flat_map (λ q. q.columns) queries) [] (λ i j h k same. absurd (omega (arith, h)))

-- each column of a query is one of the session
pub columns_stand : (queries : List Query) (k : ℕ) (query : Query) (place : ℕ) → slice_get queries k ≡ Some query → Stands query.columns place →
    Stands (columns_named queries) place
columns_stand queries k query place e stands = all_stand (flat_map (λ q. q.columns) queries) [] place (of_query queries k query place e stands)

-- what holds of each column of each query holds of each of the session
with_holds : (P : ℕ → Type 0) (xs : List ℕ) (p : ℕ) → All P xs → P p → All P (with_column xs p)
with_holds P xs p all here = by (is_in xs p)
  where
    by : (b : Bool) → All P (chosen b xs p)
    by true = all
    by false = All-push P xs p all here

pub all_hold : (P : ℕ → Type 0) (ps xs : List ℕ) → All P xs → All P ps → All P (fold with_column xs ps)
all_hold P [] xs all more = all
all_hold P (p ∷ ps) xs all more = all_hold P ps (with_column xs p) (with_holds P xs p all (more 0 p (omega arith))) (λ k d h. more (suc k) d (omega arith))

flat_holds : (P : ℕ → Type 0) (queries : List Query) → All (λ (q : Query). All P q.columns) queries → All P (flat_map (λ (q : Query). q.columns) queries)
flat_holds P [] each = λ k d h. absurd (omega arith)
flat_holds P (q ∷ qs) each = All-append P q.columns (flat_map (λ (q : Query). q.columns) qs) (each 0 q (omega arith)) (flat_holds P qs (λ k d h. each (suc k) d (omega arith)))

pub columns_hold : (P : ℕ → Type 0) (queries : List Query) → All (λ (q : Query). All P q.columns) queries → All P (columns_named queries)
columns_hold P queries each = all_hold P (flat_map (λ (q : Query). q.columns) queries) [] (λ k d h. absurd (omega arith)) (flat_holds P queries each)
