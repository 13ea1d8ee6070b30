-- The least high that passes a test, as a cut; and which cuts are tried.
use Rattle.std.proofs.Common.{◌≡◌, ◌≤◌, ℤ, ◌≤ℤ◌, ◌<ℤ◌, int_lt, int_le, Bool, true, false, cond, not, ◌&&◌, List, [], ◌∷◌, ◌++◌, length, map, ◌⊎◌, inl, inr, refl, arith, filter, IsTrue, IsFalse, Some, None, subst, sym, ap, ◌∙◌}
use Rattle.std.specs.Int.{int_min}
use Rattle.std.specs.List.{list_any}
use Rattle.std.specs.Ordering.{int_eq}
use Rattle.std.proofs.lemmas.Bool.{cond_both, cases_Bool, false≢true, true≢false}
use Rattle.std.proofs.lemmas.Int.{ints}
use Rattle.query_model.specs.Bounds.{Pair, some_certain}
use Rattle.query_model.proofs.Integers.{equal_when, when_equal}
use Rattle.avg_exact.specs.ExactAverages.{Cut, IsReached, cuts_of, takes}
use Rattle.avg_exact.proofs.Gains.{HasPair}

-- ---- tests of order

pub le_is : (a b : ℤ) → a ≤ℤ b → int_le a b ≡ true
le_is a b h = elim (cases_Bool (int_le a b)) [ inl t ↦ t | inr f ↦ absurd (omega (arith, ints)) ]

pub not_le : (a b : ℤ) → b <ℤ a → int_le a b ≡ false
not_le a b h = elim (cases_Bool (int_le a b)) [ inl t ↦ absurd (omega (arith, ints)) | inr f ↦ f ]

pub le_holds : (a b : ℤ) → int_le a b ≡ true → a ≤ℤ b
le_holds a b t = omega (arith, ints)

pub lt_is : (a b : ℤ) → a <ℤ b → int_lt a b ≡ true
lt_is a b h = elim (cases_Bool (int_lt a b)) [ inl t ↦ t | inr f ↦ absurd (omega (arith, ints)) ]

pub not_lt : (a b : ℤ) → b ≤ℤ a → int_lt a b ≡ false
not_lt a b h = elim (cases_Bool (int_lt a b)) [ inl t ↦ absurd (omega (arith, ints)) | inr f ↦ f ]

pub lt_holds : (a b : ℤ) → int_lt a b ≡ true → a <ℤ b
lt_holds a b t = omega (arith, ints)

-- ---- members

pub any_of : (t : Pair → Bool) (ps : List Pair) (q : Pair) → HasPair q ps → IsTrue (t q) → IsTrue (list_any t ps)
any_of t [] q has w = absurd has
any_of t (p ∷ ps) q (inl e) w = (let here : IsTrue (t p) = subst (λ r. IsTrue (t r)) e w in rw here refl)
any_of t (p ∷ ps) q (inr has) w = elim (cases_Bool (t p)) [ inl b ↦ rw b refl | inr b ↦ rw b (any_of t ps q has w) ]

pub found_any : (t : Pair → Bool) (ps : List Pair) → IsTrue (list_any t ps) → (q : Pair) × HasPair q ps × IsTrue (t q)
found_any t [] w = absurd (false≢true w)
found_any t (p ∷ ps) w = elim (cases_Bool (t p)) [
  | inl b ↦ (p, inl refl, b)
  | inr b ↦ (let rest : IsTrue (list_any t ps) = rw b at w in let found = found_any t ps rest in (found.0, inr found.1, found.2))
]

pub counts_some : (f : Pair → Bool) (ps : List Pair) (q : Pair) → HasPair q ps → IsTrue (f q) → 1 ≤ length (filter f ps)
counts_some f [] q has t = absurd has
counts_some f (p ∷ ps) q (inl e) t = (let here : IsTrue (f p) = subst (λ r. IsTrue (f r)) e t in rw here (omega arith))
counts_some f (p ∷ ps) q (inr has) t =
    let rest = counts_some f ps q has t in
    cond_both (f p) (p ∷ filter f ps) (filter f ps) (λ qs. 1 ≤ length qs) (λ _. omega arith) (λ _. rest)

pub some_counted : (f : Pair → Bool) (ps : List Pair) → 1 ≤ length (filter f ps) → (q : Pair) × HasPair q ps × IsTrue (f q)
some_counted f [] h = absurd (omega arith)
some_counted f (p ∷ ps) h = elim (cases_Bool (f p)) [
  | inl b ↦ (p, inl refl, b)
  | inr b ↦ (let rest : 1 ≤ length (filter f ps) = rw b at h in let found = some_counted f ps rest in (found.0, inr found.1, found.2))
]

-- ---- the least high that passes a test

abbrev pub lesser : ℤ → Cut → Cut
lesser x None = Some x
lesser x (Some y) = Some (int_min x y)

-- the least among the highs of the uncertain pairs that pass
abbrev pub least_up : (ℤ → Bool) → List Pair → Cut
least_up up [] = None
least_up up (p ∷ ps) = cond (not p.certain && up p.high) (lesser p.high (least_up up ps)) (least_up up ps)

-- a number above one that passes does so too
abbrev pub IsUpward : (ℤ → Bool) → Type 0
IsUpward up = (x y : ℤ) → x ≤ℤ y → IsTrue (up x) → IsTrue (up y)

abbrev pub passes_up : (ℤ → Bool) → Pair → Bool
passes_up up p = not p.certain && up p.high

-- no pair passes, or this is the least high of those that do
abbrev pub IsLeastUp : (ℤ → Bool) → List Pair → Cut → Type 0
IsLeastUp up ps None = (q : Pair) → HasPair q ps → IsFalse (passes_up up q)
IsLeastUp up ps (Some h) =
    ((q : Pair) × HasPair q ps × IsTrue (passes_up up q) × (q.high ≡ h)) × ((r : Pair) → HasPair r ps → IsTrue (passes_up up r) → h ≤ℤ r.high)

below_all : (up : ℤ → Bool) (p : Pair) (ps : List Pair) (h : ℤ) → h ≤ℤ p.high → ((r : Pair) → HasPair r ps → IsTrue (passes_up up r) → h ≤ℤ r.high) →
    (r : Pair) → HasPair r (p ∷ ps) → IsTrue (passes_up up r) → h ≤ℤ r.high
below_all up p ps h first rest r (inl e) t = subst (λ q. h ≤ℤ q.high) (sym e) first
below_all up p ps h first rest r (inr has) t = rest r has t

least_of_more : (up : ℤ → Bool) (p : Pair) (ps : List Pair) (c : Cut) → IsTrue (passes_up up p) → IsLeastUp up ps c → IsLeastUp up (p ∷ ps) (lesser p.high c)
least_of_more up p ps None t none =
    ((p, inl refl, t, refl), below_all up p ps p.high (omega (arith, ints)) (λ r has w. absurd (false≢true (sym (none r has) ∙ w))))
least_of_more up p ps (Some y) t some =
    cond_both (int_lt y p.high) y p.high (λ h. IsLeastUp up (p ∷ ps) (Some h))
    (λ b. ((some.0.0, inr some.0.1, some.0.2, some.0.3), below_all up p ps y (omega (arith, ints)) some.1))
    (λ b. ((p, inl refl, t, refl), below_all up p ps p.high (omega (arith, ints)) (λ r has w. let under = some.1 r has w in omega (arith, ints))))

least_of_same : (up : ℤ → Bool) (p : Pair) (ps : List Pair) (c : Cut) → IsFalse (passes_up up p) → IsLeastUp up ps c → IsLeastUp up (p ∷ ps) c
least_of_same up p ps None f none = λ q has. elim has [ inl e ↦ subst (λ r. IsFalse (passes_up up r)) (sym e) f | inr has' ↦ none q has' ]
least_of_same up p ps (Some h) f some = (
  (some.0.0, inr some.0.1, some.0.2, some.0.3),
  λ r has w. elim has [
    | inl e ↦ absurd (true≢false (sym w ∙ subst (λ q. IsFalse (passes_up up q)) (sym e) f))
    | inr has' ↦ some.1 r has' w
  ],
)

pub least_up-is : (up : ℤ → Bool) (ps : List Pair) → IsLeastUp up ps (least_up up ps)
least_up-is up [] = λ q has. absurd has
least_up-is up (p ∷ ps) =
    cond_both (passes_up up p) (lesser p.high (least_up up ps)) (least_up up ps) (IsLeastUp up (p ∷ ps))
    (λ t. least_of_more up p ps (least_up up ps) t (least_up-is up ps))
    (λ f. least_of_same up p ps (least_up up ps) f (least_up-is up ps))

-- the pairs at or above it are those that pass
same_test : (c a b : Bool) → (IsFalse c → IsTrue b → IsTrue a) → (IsFalse c → IsTrue a → IsTrue b) → (not c && a) ≡ (not c && b)
same_test true a b h g = refl
same_test false true true h g = refl
same_test false true false h g = absurd (false≢true (g refl refl))
same_test false false true h g = absurd (false≢true (h refl refl))
same_test false false false h g = refl

uncertain_part : (c a : Bool) → IsTrue (not c && a) → IsTrue a
uncertain_part true a t = absurd (false≢true t)
uncertain_part false a t = t

pub join_uncertain : (c a : Bool) → IsFalse c → IsTrue a → IsTrue (not c && a)
join_uncertain true a f t = absurd (true≢false f)
join_uncertain false a f t = t

pub takes-least : (up : ℤ → Bool) (ps : List Pair) (c : Cut) → IsUpward up → IsLeastUp up ps c → (q : Pair) → HasPair q ps → takes c q ≡ passes_up up q
takes-least up ps None closed none q has = sym (none q has)
takes-least up ps (Some h) closed some q has =
    same_test q.certain (int_le h q.high) (up q.high)
    (λ f t. le_is h q.high (some.1 q has (join_uncertain q.certain (up q.high) f t)))
    (λ f t. closed h q.high (le_holds h q.high t) (subst (λ x. IsTrue (up x)) some.0.3 (uncertain_part some.0.0.certain (up some.0.0.high) some.0.2)))

-- ---- the cuts that are tried

-- without a cut where a row is certain, else the high of an uncertain row
abbrev pub IsTried : List Pair → Cut → Type 0
IsTried ps None = IsTrue (some_certain ps)
IsTried ps (Some h) = IsReached ps (Some h)

pub least_is_reached : (up : ℤ → Bool) (ps : List Pair) (h : ℤ) → IsLeastUp up ps (Some h) → IsReached ps (Some h)
least_is_reached up ps h some =
    any_of (λ p. not p.certain && int_eq p.high h) ps some.0.0 some.0.1
    (reached some.0.0.certain some.0.0.high (uncertain some.0.0.certain (up some.0.0.high) some.0.2) some.0.3)
  where
    uncertain : (c a : Bool) → IsTrue (not c && a) → IsFalse c
    uncertain true a t = absurd (false≢true t)
    uncertain false a t = refl

    reached : (c : Bool) (x : ℤ) → IsFalse c → x ≡ h → IsTrue (not c && int_eq x h)
    reached c x f e = join_uncertain c (int_eq x h) f (when_equal x h e)

-- the uncertain row of a cut
pub row_of_cut : (ps : List Pair) (h : ℤ) → IsReached ps (Some h) → (q : Pair) × HasPair q ps × IsFalse q.certain × (q.high ≡ h)
row_of_cut ps h t =
    let found = found_any (λ p. not p.certain && int_eq p.high h) ps t in
    (found.0, found.1, parts found.0.certain (int_eq found.0.high h) found.2, equal_when found.0.high h (uncertain_part found.0.certain (int_eq found.0.high h) found.2))
  where
    parts : (c a : Bool) → IsTrue (not c && a) → IsFalse c
    parts true a t = absurd (false≢true t)
    parts false a t = refl

pub takes_own : (q : Pair) (h : ℤ) → IsFalse q.certain → q.high ≡ h → IsTrue (takes (Some h) q)
takes_own q h f e = join_uncertain q.certain (int_le h q.high) f (le_is h q.high (omega (arith, ints)))

pub takes_not_below : (q : Pair) (h k : ℤ) → q.high ≡ h → h <ℤ k → IsFalse (takes (Some k) q)
takes_not_below q h k e l = both q.certain (not_le k q.high (omega (arith, ints)))
  where
    both : (c : Bool) → IsFalse (int_le k q.high) → IsFalse (not c && int_le k q.high)
    both true f = refl
    both false f = f

pub takes_more : (q : Pair) (h k : ℤ) → h ≤ℤ k → IsTrue (takes (Some k) q) → IsTrue (takes (Some h) q)
takes_more q h k l t = more q.certain t
  where
    more : (c : Bool) → IsTrue (not c && int_le k q.high) → IsTrue (not c && int_le h q.high)
    more true t = absurd (false≢true t)
    more false t = (let above = le_holds k q.high t in le_is h q.high (omega (arith, ints)))

abbrev pub HasCut : Cut → List Cut → Type 0
HasCut c [] = ⊥
HasCut c (d ∷ ds) = (c ≡ d) ⊎ HasCut c ds

-- the cuts at the highs of uncertain rows
abbrev high_cuts : List Pair → List Cut
high_cuts ps = map (λ p. Some p.high) (filter (λ p. not p.certain) ps)

reached_is_cut : (ps : List Pair) (h : ℤ) (q : Pair) → HasPair q ps → IsFalse q.certain → q.high ≡ h → HasCut (Some h) (high_cuts ps)
reached_is_cut [] h q has f e = absurd has
reached_is_cut (p ∷ ps) h q (inl i) f e =
    let here : IsFalse p.certain = subst (λ r. IsFalse r.certain) i f in
    let high : p.high ≡ h = subst (λ r. r.high ≡ h) i e in
    rw here (inl (ap (λ x. Some x) (sym high)))
reached_is_cut (p ∷ ps) h q (inr has) f e =
    let rest = reached_is_cut ps h q has f e in
    cond_both (not p.certain) (p ∷ filter (λ p. not p.certain) ps) (filter (λ p. not p.certain) ps) (λ qs. HasCut (Some h) (map (λ p. Some p.high) qs)) (λ _. inr rest) (λ _. rest)

pub tried_is_cut : (ps : List Pair) (c : Cut) → IsTried ps c → HasCut c (cuts_of ps)
tried_is_cut ps None t = rw t (inl refl)
tried_is_cut ps (Some h) t =
    let row = row_of_cut ps h t in
    let there = reached_is_cut ps h row.0 row.1 row.2 row.3 in
    cond_both (some_certain ps) (None ∷ []) [] (λ cs. HasCut (Some h) (cs ++ high_cuts ps)) (λ _. inr there) (λ _. there)

cut_is_reached : (ps : List Pair) (c : Cut) → HasCut c (high_cuts ps) → (q : Pair) × HasPair q ps × IsFalse q.certain × (c ≡ Some q.high)
cut_is_reached [] c h = absurd h
cut_is_reached (p ∷ ps) c h = elim (cases_Bool p.certain) [
  | inl t ↦ (let h' : HasCut c (high_cuts ps) = rw t at h in let found = cut_is_reached ps c h' in (found.0, inr found.1, found.2, found.3))
  | inr f ↦ (let h' : (c ≡ Some p.high) ⊎ HasCut c (high_cuts ps) = rw f at h in
      elim h' [
        | inl e ↦ (p, inl refl, f, e)
        | inr more ↦ (let found = cut_is_reached ps c more in (found.0, inr found.1, found.2, found.3))
      ])
]

tried_by_row : (ps : List Pair) (c : Cut) → (q : Pair) × HasPair q ps × IsFalse q.certain × (c ≡ Some q.high) → IsTried ps c
tried_by_row ps c (q, has, f, e) =
    subst (IsTried ps) (sym e)
    (any_of (λ p. not p.certain && int_eq p.high q.high) ps q has (join_uncertain q.certain (int_eq q.high q.high) f (when_equal q.high q.high refl)))

pub cut_is_tried : (ps : List Pair) (c : Cut) → HasCut c (cuts_of ps) → IsTried ps c
cut_is_tried ps c h = elim (cases_Bool (some_certain ps)) [
  | inl t ↦ (let h' : (c ≡ None) ⊎ HasCut c (high_cuts ps) = rw t at h in
      elim h' [ inl e ↦ subst (IsTried ps) (sym e) t | inr more ↦ tried_by_row ps c (cut_is_reached ps c more) ])
  | inr f ↦ (let h' : HasCut c (high_cuts ps) = rw f at h in tried_by_row ps c (cut_is_reached ps c h'))
]

-- where there is a row, a cut is tried
pub some_cut : (p : Pair) (ps : List Pair) → (c : Cut) × HasCut c (cuts_of (p ∷ ps))
some_cut p ps = elim (cases_Bool p.certain) [
  | inl t ↦ (None, tried_is_cut (p ∷ ps) None (any_of (λ q. q.certain) (p ∷ ps) p (inl refl) t))
  | inr f ↦ (Some p.high, tried_is_cut (p ∷ ps) (Some p.high) (tried_by_row (p ∷ ps) (Some p.high) (p, inl refl, f, refl)))
]
