-- Bounds as a set: which of them there are is all that counts, and each may be told again, or as one that may be none.
use Rattle.std.proofs.Common.{◌≡◌, ◌∙◌, ℕ, Bool, true, false, ◌||◌, List, [], ◌∷◌, refl, sym, ap, subst, inl, inr, if◌then◌else◌, Option, Some, None, ◌⊎◌}
use Rattle.text_extremes.proofs.Joining.{both_assoc, both_comm, joined_assoc, joined_comm}
use Rattle.text_extremes.proofs.TwoParts.{joined_nests}
use Rattle.text_extremes.specs.Bounds.{IsNested, TextBound, combined, far_by, joined}
use Rattle.text_extremes.specs.Texts.{first_of, last_of, of_both}
use Rattle.text_extremes.specs.declared.extreme.Extreme.{Extreme}
use Rattle.text_extremes.specs.declared.extreme.Extreme.TheVariants.{Least, Greatest}

-- the same text, or none
abbrev pub loose : Option TextBound → Option TextBound
loose None = None
loose (Some bound) = Some (record { certain = false; low = bound.low; high = bound.high })

first_itself : (e : Extreme) (t : List ℕ) → first_of e t t ≡ t
first_itself e t = by _
  where
    by : (b : Bool) → (if b then t else t) ≡ t
    by true = refl
    by false = refl

last_itself : (e : Extreme) (t : List ℕ) → last_of e t t ≡ t
last_itself e t = by _
  where
    by : (b : Bool) → (if b then t else t) ≡ t
    by true = refl
    by false = refl

far_itself : (e : Extreme) (c : Bool) (t : List ℕ) → far_by e c c t t ≡ t
far_itself e true t = first_itself e t
far_itself e false t = last_itself e t

far_loose : (e : Extreme) (c : Bool) (t : List ℕ) → far_by e false c t t ≡ t
far_loose e true t = refl
far_loose e false t = last_itself e t

or_itself : (c : Bool) → (c || c) ≡ c
or_itself true = refl
or_itself false = refl

same_bound : (c d : Bool) (s t u v : List ℕ) → c ≡ d → s ≡ t → u ≡ v →
    ◌≡◌ {A = TextBound} (record { certain = c; low = s; high = u }) (record { certain = d; low = t; high = v })
same_bound c d s t u v p q r =
    ap (λ (x : Bool). record { certain = x; low = s; high = u }) p ∙ ap (λ (x : List ℕ). record { certain = d; low = x; high = u }) q
    ∙ ap (λ (x : List ℕ). record { certain = d; low = t; high = x }) r

-- a bound beside itself, certain or not, is that bound
joined_itself : (e : Extreme) (a : TextBound) → joined e a a ≡ a
joined_itself Least a = same_bound _ _ _ _ _ _ (or_itself a.certain) (first_itself Least a.low) (far_itself Least a.certain a.high)
joined_itself Greatest a = same_bound _ _ _ _ _ _ (or_itself a.certain) (far_itself Greatest a.certain a.low) (first_itself Greatest a.high)

joined_loose : (e : Extreme) (a : TextBound) → joined e (record { certain = false; low = a.low; high = a.high }) a ≡ a
joined_loose Least a = same_bound _ _ _ _ _ _ refl (first_itself Least a.low) (far_loose Least a.certain a.high)
joined_loose Greatest a = same_bound _ _ _ _ _ _ refl (far_loose Greatest a.certain a.low) (first_itself Greatest a.high)

-- one of these, or one of these made loose
abbrev pub IsThere : Option TextBound → List (Option TextBound) → Type 0
IsThere a [] = ⊥
IsThere a (b ∷ bounds) = ((a ≡ b) ⊎ (a ≡ loose b)) ⊎ IsThere a bounds

there_twice : (e : Extreme) (a b : Option TextBound) → (a ≡ b) ⊎ (a ≡ loose b) → of_both (joined e) a b ≡ b
there_twice e a None (inl h) = ap (λ (x : Option TextBound). of_both (joined e) x None) h
there_twice e a None (inr h) = ap (λ (x : Option TextBound). of_both (joined e) x None) h
there_twice e a (Some b) (inl h) = ap (λ (x : Option TextBound). of_both (joined e) x (Some b)) h ∙ ap Some (joined_itself e b)
there_twice e a (Some b) (inr h) = ap (λ (x : Option TextBound). of_both (joined e) x (Some b)) h ∙ ap Some (joined_loose e b)

-- it changes nothing once more
absorbed : (e : Extreme) (a : Option TextBound) (bounds : List (Option TextBound)) → IsThere a bounds →
    of_both (joined e) a (combined e bounds) ≡ combined e bounds
absorbed e a [] h = absurd h
absorbed e a (b ∷ bounds) (inl h) =
    both_assoc (joined e) (joined_assoc e) a b (combined e bounds) ∙ ap (λ (x : Option TextBound). of_both (joined e) x (combined e bounds)) (there_twice e a b h)
absorbed e a (b ∷ bounds) (inr h) =
    both_assoc (joined e) (joined_assoc e) a b (combined e bounds)
    ∙ ap (λ (x : Option TextBound). of_both (joined e) x (combined e bounds)) (both_comm (joined e) (joined_comm e) a b)
    ∙ sym (both_assoc (joined e) (joined_assoc e) b a (combined e bounds))
    ∙ ap (of_both (joined e) b) (absorbed e a bounds h)

-- ---- bounds within others

-- each of the new bounds lies within an old one that is made loose
abbrev pub AreFrom : List (Option TextBound) → List (Option TextBound) → Type 0
AreFrom olds [] = Unit {0}
AreFrom olds (new ∷ news) = ((old : Option TextBound) × IsThere old olds × IsNested old new) × AreFrom olds news

-- each old one has a new one within it, or admits that there is no text
abbrev pub AreKept : List (Option TextBound) → List (Option TextBound) → Type 0
AreKept [] news = Unit {0}
AreKept (old ∷ olds) news = (((new : Option TextBound) × IsThere new news × IsNested old new) ⊎ IsNested old None) × AreKept olds news

-- a bound that changes nothing beside some, and lies about or within others
record Carries (e : Extreme) (all : List (Option TextBound)) (Is : Option TextBound → Type 0) : Type 0 where
  bound : Option TextBound
  absorbs : of_both (joined e) bound (combined e all) ≡ combined e all
  is : Is bound

from_all : (e : Extreme) (olds news : List (Option TextBound)) → AreFrom olds news → Carries e olds (λ b. IsNested b (combined e news))
from_all e olds [] h = record { bound = None; absorbs = refl; is = tt }
from_all e olds (new ∷ news) h =
    let rest = from_all e olds news h.1 in
    let old = h.0.0 in
    record {
      bound = of_both (joined e) old rest.bound;
      absorbs = sym (both_assoc (joined e) (joined_assoc e) old rest.bound (combined e olds)) ∙ ap (of_both (joined e) old) rest.absorbs
          ∙ absorbed e old olds h.0.1;
      is = joined_nests e old rest.bound new (combined e news) h.0.2 rest.is;
    }

kept_one : (e : Extreme) (old : Option TextBound) (olds news : List (Option TextBound)) →
    ((new : Option TextBound) × IsThere new news × IsNested old new) ⊎ IsNested old None → Carries e news (λ b. IsNested (combined e olds) b) →
    Carries e news (λ b. IsNested (combined e (old ∷ olds)) b)
kept_one e old olds news (inl h) rest = record {
  bound = of_both (joined e) h.0 rest.bound;
  absorbs = sym (both_assoc (joined e) (joined_assoc e) h.0 rest.bound (combined e news)) ∙ ap (of_both (joined e) h.0) rest.absorbs
      ∙ absorbed e h.0 news h.1;
  is = joined_nests e old (combined e olds) h.0 rest.bound h.2 rest.is;
}
kept_one e old olds news (inr h) rest = record {
  bound = rest.bound;
  absorbs = rest.absorbs;
  is = joined_nests e old (combined e olds) None rest.bound h rest.is;
}

kept_all : (e : Extreme) (olds news : List (Option TextBound)) → AreKept olds news → Carries e news (λ b. IsNested (combined e olds) b)
kept_all e [] news h = record { bound = None; absorbs = refl; is = tt }
kept_all e (old ∷ olds) news h = kept_one e old olds news h.0 (kept_all e olds news h.1)

-- so the bound over the new ones lies within that over the old ones
pub all_nest : (e : Extreme) (olds news : List (Option TextBound)) → AreFrom olds news → AreKept olds news →
    IsNested (combined e olds) (combined e news)
all_nest e olds news from kept =
    let about = from_all e olds news from in
    let within = kept_all e olds news kept in
    subst (λ (b : Option TextBound). IsNested b (combined e news)) about.absorbs
    (subst (IsNested (of_both (joined e) about.bound (combined e olds)))
    (both_comm (joined e) (joined_comm e) (combined e news) within.bound ∙ within.absorbs)
    (joined_nests e about.bound (combined e olds) (combined e news) within.bound about.is within.is))
