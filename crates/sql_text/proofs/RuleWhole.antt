-- Each list of a rule is read, whatever follows that cannot lengthen it.
use Rattle.std.proofs.Common.{◌≡◌, ℕ, zero, suc, ◌+◌, ◌≤◌, List, [], ◌∷◌, ◌++◌, length, Ok, Option, Some, None, inl, inr, refl, sym, ap, subst, ◌∙◌, append_assoc, arith}
use Rattle.std.proofs.lemmas.List.{length-append}
use Rattle.sql_tokens.specs.Lexeme.{Lexeme}
use Rattle.sql_text.specs.Number.{is_number}
use Rattle.sql_text.specs.Rule.{Part, Inner, Language, Rule, give, one, number, either, deeper, next, many, Chain, start, further, IsOf}
use Rattle.sql_text.specs.Grammar.{rule_of, Inside, Is}
use Rattle.sql_text.specs.Reading.{Reader, look, expect, numeral, reads, inside_at}
use Rattle.sql_text.proofs.Whole.{chain_whole}
use Rattle.sql_text.proofs.Clear.{Null, First, EndsPart, Ends, Clear}
use Rattle.sql_text.proofs.RuleFine.{Limits, Parts}

-- ---- what follows

abbrev pub At : (Lexeme → Type 0) → List Lexeme → Type 0
At E [] = Unit {0}
At E (t ∷ w) = E t

pub at_map : (E F : Lexeme → Type 0) → ((t : Lexeme) → E t → F t) → (w : List Lexeme) → At E w → At F w
at_map E F f [] h = tt
at_map E F f (t ∷ w) h = f t h

over : (E : Lexeme → Type 0) (v rest : List Lexeme) → ((t : Lexeme) (w : List Lexeme) → v ≡ t ∷ w → E t) → (v ≡ [] → At E rest) → At E (v ++ rest)
over E [] rest f h = h refl
over E (t ∷ v) rest f h = f t v refl

none_at : {X : Type 0} (test : Lexeme → Option X) (u rest : List Lexeme) → ((t : Lexeme) (v : List Lexeme) → u ≡ t ∷ v → test t ≡ None) → (u ≡ [] → At (λ t. test t ≡ None) rest) → look test (u ++ rest) ≡ None
unfolding look
none_at test [] [] f h = refl
none_at test [] (t ∷ rest) f h = rw (h refl) refl
none_at test (t ∷ u) rest f h = rw (f t u refl) refl

empty_left : (u v : List Lexeme) → u ++ v ≡ [] → u ≡ []
empty_left [] v e = refl
empty_left (t ∷ u) v e = absurd cc

empty_right : (u v : List Lexeme) → u ++ v ≡ [] → v ≡ []
empty_right [] v e = e
empty_right (t ∷ u) v e = absurd cc

not_empty : (u v : List Lexeme) (t : Lexeme) → u ++ (t ∷ v) ≡ [] → ⊥
not_empty [] v t e = cc
not_empty (s ∷ u) v t e = cc

-- ---- with which tokens the lists of a rule begin

module _ {A B X : Type 0} (separator : Lexeme → Option X) (first : B → A) (join : A → X → B → A) (P : Language B) (F : Lexeme → Type 0) where
  chain_null : (N : Type 0) → ((w : List Lexeme) (b : B) → w ≡ [] → P w b → N) → (w : List Lexeme) (a : A) → w ≡ [] → Chain separator first join P w a → N
  chain_null N f w a e (start {b} h) = f w b e h
  chain_null N f w a e (further {u} {v} {t} says h k) = absurd (not_empty u v t e)

  chain_first : ((w : List Lexeme) (b : B) → w ≡ [] → P w b → ⊥) → ((w : List Lexeme) (b : B) (t : Lexeme) (v : List Lexeme) → w ≡ t ∷ v → P w b → F t)
      → (w : List Lexeme) (a : A) (t : Lexeme) (v : List Lexeme) → w ≡ t ∷ v → Chain separator first join P w a → F t
  chain_first none f w a t v e (start {b} h) = f w b t v e h
  chain_first none f w a t v e (further {u} {v = z} {t = s} {a = c} says h k) = go u (λ y x i. chain_first none f u c y x i h) (λ i. chain_null ⊥ none u c i h) e
    where
      go : (u : List Lexeme) → ((y : Lexeme) (x : List Lexeme) → u ≡ y ∷ x → F y) → (u ≡ [] → ⊥) → u ++ (s ∷ z) ≡ t ∷ v → F t
      go [] ih never i = absurd (never refl)
      go (y ∷ x) ih never i = let same : y ≡ t = cc in subst F same (ih y x refl)

module _ (fits : Limits) (I : Parts) where
  null_of : {A : Type 0} (r : Rule A) (w : List Lexeme) (a : A) → w ≡ [] → IsOf fits I r w a → Null r
  null_of (give b) w a e h = tt
  null_of (one test) w a e h = let k : h.0 ∷ [] ≡ [] = sym h.1 ∙ e in absurd cc
  null_of (number negative f) w a e h = let k : h.0 ∷ [] ≡ [] = sym h.2 ∙ e in absurd cc
  null_of (either test go stay) w a e (inl h) = let k : h.0 ∷ h.2 ≡ [] = sym h.3 ∙ e in absurd cc
  null_of (either test go stay) w a e (inr h) = null_of stay w a e h
  null_of (deeper test part go stay) w a e (inl h) = let k : h.0 ∷ (h.2 ++ h.3) ≡ [] = sym h.5 ∙ e in absurd cc
  null_of (deeper test part go stay) w a e (inr h) = null_of stay w a e h
  null_of (next p go) w a e h =
      let k : h.0 ++ h.1 ≡ [] = sym h.3 ∙ e in
      (null_of p h.0 h.2 (empty_left h.0 h.1 k) h.4, (h.2, null_of (go h.2) h.1 a (empty_right h.0 h.1 k) h.5))
  null_of (many separator first join part) w a e h = chain_null separator first join (IsOf fits I part) (λ _. ⊥) (Null part) (λ v b i k. null_of part v b i k) w a e h

  begins_with : {A : Type 0} (r : Rule A) → Clear r → (w : List Lexeme) (a : A) (t : Lexeme) (v : List Lexeme) → w ≡ t ∷ v → IsOf fits I r w a → First r t
  begins_with (give b) c w a t v e h = let k : t ∷ v ≡ [] = sym e ∙ h.0 in absurd cc
  begins_with (one test) c w a t v e h =
      let k : h.0 ∷ [] ≡ t ∷ v = sym h.1 ∙ e in
      let i : h.0 ≡ t = cc in
      (a, subst (λ s. test s ≡ Some a) i h.2)
  begins_with (number negative f) c w a t v e h =
      let k : h.0 ∷ [] ≡ t ∷ v = sym h.2 ∙ e in
      let i : h.0 ≡ t = cc in
      (h.1, subst (λ s. is_number s ≡ Some h.1) i h.3)
  begins_with (either test go stay) c w a t v e (inl h) =
      let k : h.0 ∷ h.2 ≡ t ∷ v = sym h.3 ∙ e in
      let i : h.0 ≡ t = cc in
      inl (h.1, subst (λ s. test s ≡ Some h.1) i h.4)
  begins_with (either test go stay) c w a t v e (inr h) = inr (begins_with stay c.1 w a t v e h)
  begins_with (deeper test part go stay) c w a t v e (inl h) =
      let k : h.0 ∷ (h.2 ++ h.3) ≡ t ∷ v = sym h.5 ∙ e in
      let i : h.0 ≡ t = cc in
      inl (h.1, subst (λ s. test s ≡ Some h.1) i h.6)
  begins_with (deeper test part go stay) c w a t v e (inr h) = inr (begins_with stay c.1 w a t v e h)
  begins_with {A} (next {B} p go) c w a t v e h = cases h.0 (λ s y i. begins_with p c.0 h.0 h.2 s y i h.4) (λ i. null_of p h.0 h.2 i h.4) (λ i. begins_with (go h.2) (c.1 h.2) h.1 a t v i h.5) (sym h.3 ∙ e)
    where
      cases : (u : List Lexeme) → ((s : Lexeme) (y : List Lexeme) → u ≡ s ∷ y → First p s) → (u ≡ [] → Null p) → (h.1 ≡ t ∷ v → First (go h.2) t) → u ++ h.1 ≡ t ∷ v → First (next p go) t
      cases [] f n later k = inr (n refl, (h.2, later k))
      cases (s ∷ y) f n later k = let i : s ≡ t = cc in inl (subst (First p) i (f s y refl))
  begins_with (many separator first join part) c w a t v e h =
      chain_first separator first join (IsOf fits I part) (First part) (λ x b i k. c.1 (null_of part x b i k)) (λ x b s y i k. begins_with part c.0 x b s y i k) w a t v e h

-- ---- each list is read

module _ (m : ℕ) (fits : Limits) where
  module _ (I : Parts) (g : (p : Part) → Reader (Inner p)) (inside : (p : Part) (t : Lexeme) (u rest : List Lexeme) (b : Inner p) → length u ≤ m → I p u b → At (EndsPart p) rest → g p (t ∷ (u ++ rest)) ≡ Ok (b, rest)) where
    shorter : (t : Lexeme) (u v : List Lexeme) → u ≡ t ∷ v → length u ≤ m → length v ≤ m
    shorter t u v e le = let l : length u ≡ suc (length v) = ap length e in omega (arith, l)

    pub whole : {A : Type 0} (r : Rule A) → Clear r → (u rest : List Lexeme) (a : A) → length u ≤ m → IsOf fits I r u a → At (Ends r) rest → reads m fits g r (u ++ rest) ≡ Ok (a, rest)
    unfolding reads expect numeral look
    whole (give b) c u rest a le h s = rw (h.0, h.1) refl
    whole (one test) c u rest a le h s = rw (h.1, h.2) refl
    whole (number negative f) c u rest a le h s = rw (h.2, h.3, h.4, h.5) refl
    whole (either test go stay) c u rest a le (inl h) s =
        let read = whole (go h.1) (c.0 h.1) h.2 rest a (shorter h.0 u h.2 h.3 le) h.5 (at_map (Ends (either test go stay)) (Ends (go h.1)) (λ t k. k.0 h.1) rest s) in
        rw (h.3, h.4) read
    whole (either test go stay) c u rest a le (inr h) s =
        let read = whole stay c.1 u rest a le h (at_map (Ends (either test go stay)) (Ends stay) (λ t k. k.1) rest s) in
        let none : look test (u ++ rest) ≡ None = none_at test u rest (λ t v e. c.2 t (begins_with fits I stay c.1 u a t v e h)) (λ e. at_map (Ends (either test go stay)) (λ t. test t ≡ None) (λ t k. k.2 (null_of fits I stay u a e h)) rest s) in
        rw none read
    whole (deeper test part go stay) c u rest a le (inl h) s =
        let len : length u ≡ suc (length h.2 + length h.3) = ap length h.5 ∙ ap suc (length-append h.2 h.3) in
        let ends = over (EndsPart part) h.3 rest (λ t v e. c.4 h.4 t (begins_with fits I (go h.4) (c.0 h.4) h.3 a t v e h.8))
        (λ e. at_map (Ends (deeper test part go stay)) (EndsPart part) (λ t k. k.1 h.4 (null_of fits I (go h.4) h.3 a e h.8)) rest s) in
        let first = inside part h.0 h.2 (h.3 ++ rest) h.4 (omega (arith, len, le)) h.7 ends in
        let read = whole (go h.4) (c.0 h.4) h.3 rest a (omega (arith, len, le)) h.8 (at_map (Ends (deeper test part go stay)) (Ends (go h.4)) (λ t k. k.0 h.4) rest s) in
        rw (h.5, h.6, append_assoc h.2 h.3 rest, first) read
    whole (deeper test part go stay) c u rest a le (inr h) s =
        let read = whole stay c.1 u rest a le h (at_map (Ends (deeper test part go stay)) (Ends stay) (λ t k. k.2) rest s) in
        let none : look test (u ++ rest) ≡ None = none_at test u rest (λ t v e. c.2 t (begins_with fits I stay c.1 u a t v e h)) (λ e. at_map (Ends (deeper test part go stay)) (λ t. test t ≡ None) (λ t k. k.3 (null_of fits I stay u a e h)) rest s) in
        rw none read
    whole (next p go) c u rest a le h s =
        let len : length u ≡ length h.0 + length h.1 = ap length h.3 ∙ length-append h.0 h.1 in
        let ends = over (Ends p) h.1 rest (λ t v e. c.2 h.2 t (begins_with fits I (go h.2) (c.1 h.2) h.1 a t v e h.5))
        (λ e. at_map (Ends (next p go)) (Ends p) (λ t k. k.1 h.2 (null_of fits I (go h.2) h.1 a e h.5)) rest s) in
        let first = whole p c.0 h.0 (h.1 ++ rest) h.2 (omega (arith, len, le)) h.4 ends in
        let read = whole (go h.2) (c.1 h.2) h.1 rest a (omega (arith, len, le)) h.5 (at_map (Ends (next p go)) (Ends (go h.2)) (λ t k. k.0 h.2) rest s) in
        rw (h.3, append_assoc h.0 h.1 rest, first) read
    whole (many {X} separator first join part) c u rest a le h s =
        chain_whole m separator first join (IsOf fits I part) (reads m fits g part) (At (Ends part)) (λ t x w e. c.2 t x e) (λ v z b short k e. whole part c.0 v z b short k e) u rest a le h
        (at_map (Ends (many separator first join part)) (Ends part) (λ t k. k.0) rest s, none_at separator [] rest (λ t v e. absurd cc) (λ e. at_map (Ends (many separator first join part)) (λ t. separator t ≡ None) (λ t k. k.1) rest s))

  module _ (clear : (p : Part) → Clear (rule_of p)) (ends : (p : Part) (t : Lexeme) → EndsPart p t → Ends (rule_of p) t) where
    inside_whole : (n : ℕ) (p : Part) (t : Lexeme) (u rest : List Lexeme) (b : Inner p) → length u ≤ m → Inside fits n p u b → At (EndsPart p) rest → inside_at m fits n p (t ∷ (u ++ rest)) ≡ Ok (b, rest)
    unfolding inside_at
    inside_whole zero p t u rest b le h s = elim h [ ]
    inside_whole (suc n) p t u rest b le h s = whole (Inside fits n) (inside_at m fits n) (inside_whole n) (rule_of p) (clear p) u rest b le h (at_map (EndsPart p) (Ends (rule_of p)) (ends p) rest s)

    pub is_whole : (n : ℕ) {A : Type 0} (r : Rule A) → Clear r → (u rest : List Lexeme) (a : A) → length u ≤ m → Is fits n r u a → At (Ends r) rest → reads m fits (inside_at m fits n) r (u ++ rest) ≡ Ok (a, rest)
    is_whole n r c u rest a le h s = whole (Inside fits n) (inside_at m fits n) (inside_whole n) r c u rest a le h s
