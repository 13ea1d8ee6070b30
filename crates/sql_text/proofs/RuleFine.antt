-- What is read of a rule is one of its lists; where reading is refused, the tokens before that place begin one.
use Rattle.std.proofs.Common.{◌≡◌, ℕ, zero, suc, ◌≤◌, List, [], ◌∷◌, ◌++◌, Bool, true, false, cond, Ok, Option, Some, None, ◌⊎◌, inl, inr, refl, ap, arith}
use Rattle.sql_tokens.specs.Lexeme.{Lexeme, token, FIXED, NAME, NUMBER, STRING}
use Rattle.sql_text.specs.declared.fault.Cause.TheVariants.{Syntax, TooDeep, TooLarge}
use Rattle.sql_text.specs.declared.tree.Num.{Num}
use Rattle.sql_text.specs.Number.{Written, is_number, number_of}
use Rattle.sql_text.specs.Rule.{Part, Inner, Language, Rule, give, one, number, either, deeper, next, many, Chain, start, further, IsOf}
use Rattle.sql_text.specs.Grammar.{rule_of, Inside, Is}
use Rattle.sql_text.specs.Sentence.{Begins, IsLimitAt}
use Rattle.sql_text.specs.Reading.{◌>>=◌, Reader, refuse, when, look, expect, numeral, reads, inside_at}
use Rattle.sql_text.proofs.Fine.{Fine, fine_then, fine_behind, fine_into, fine_map, fine_refuse, fine_nothing, seen, chain_fine}
use Rattle.sql_text.proofs.Clear.{Clear}

abbrev pub Limits : Type 0
Limits = Bool → Option ℕ → Bool

abbrev pub Parts : Type 1
Parts = (p : Part) → Language (Inner p)

-- ---- what is allowed under some limits is allowed under wider ones

pub chain_grow : {A B X : Type 0} (separator : Lexeme → Option X) (first : B → A) (join : A → X → B → A) (P P⁺ : Language B) → ((u : List Lexeme) (b : B) → P u b → P⁺ u b)
    → (u : List Lexeme) (a : A) → Chain separator first join P u a → Chain separator first join P⁺ u a
chain_grow separator first join P P⁺ grow u a (start h) = start (grow _ _ h)
chain_grow separator first join P P⁺ grow u a (further says h k) = further says (chain_grow separator first join P P⁺ grow _ _ h) (grow _ _ k)

module _ (fits fits⁺ : Limits) (wider : (negative : Bool) (n : Option ℕ) → fits negative n ≡ true → fits⁺ negative n ≡ true) where
  pub grows : (I I⁺ : Parts) → ((p : Part) (u : List Lexeme) (b : Inner p) → I p u b → I⁺ p u b) → {A : Type 0} (r : Rule A) (w : List Lexeme) (a : A) → IsOf fits I r w a → IsOf fits⁺ I⁺ r w a
  grows I I⁺ grow (give b) w a h = h
  grows I I⁺ grow (one test) w a h = h
  grows I I⁺ grow (number negative f) w a h = (h.0, h.1, h.2, h.3, wider negative h.1.units h.4, h.5)
  grows I I⁺ grow (either test go stay) w a (inl h) = inl (h.0, h.1, h.2, h.3, h.4, grows I I⁺ grow (go h.1) h.2 a h.5)
  grows I I⁺ grow (either test go stay) w a (inr h) = inr (grows I I⁺ grow stay w a h)
  grows I I⁺ grow (deeper test part go stay) w a (inl h) = inl (h.0, h.1, h.2, h.3, h.4, h.5, h.6, grow part h.2 h.4 h.7, grows I I⁺ grow (go h.4) h.3 a h.8)
  grows I I⁺ grow (deeper test part go stay) w a (inr h) = inr (grows I I⁺ grow stay w a h)
  grows I I⁺ grow (next p go) w a h = (h.0, h.1, h.2, h.3, grows I I⁺ grow p h.0 h.2 h.4, grows I I⁺ grow (go h.2) h.1 a h.5)
  grows I I⁺ grow (many separator first join part) w a h = chain_grow separator first join (IsOf fits I part) (IsOf fits⁺ I⁺ part) (grows I I⁺ grow part) w a h

  pub inside_grow : (n k : ℕ) → n ≤ k → (p : Part) (u : List Lexeme) (b : Inner p) → Inside fits n p u b → Inside fits⁺ k p u b
  inside_grow zero k le p u b h = elim h [ ]
  inside_grow (suc n) zero le p u b h = absurd (omega arith)
  inside_grow (suc n) (suc k) le p u b h = grows (Inside fits n) (Inside fits⁺ k) (inside_grow n k (omega arith)) (rule_of p) u b h

  pub is_grow : (n k : ℕ) → n ≤ k → {A : Type 0} (r : Rule A) (w : List Lexeme) (a : A) → Is fits n r w a → Is fits⁺ k r w a
  is_grow n k le r w a h = grows (Inside fits n) (Inside fits⁺ k) (inside_grow n k le) r w a h

-- ---- each rule has a list

zero_written : Written
zero_written = record { at = 0; units = Some 0; scale = 0 }

module _ (fits : Limits) (zero_fits : (negative : Bool) → fits negative (Some 0) ≡ true) (I : Parts) where
  pub some : {A : Type 0} (r : Rule A) → Clear r → (w : List Lexeme) × (a : A) × IsOf fits I r w a
  unfolding zero_written is_number
  some (give a) c = ([], a, (refl, refl))
  some (one test) c = (c.0 ∷ [], c.1, (c.0, refl, c.2))
  some (number negative f) c = (token 0 (NUMBER (Some 0) 0) ∷ [], f (number_of negative zero_written), (token 0 (NUMBER (Some 0) 0), zero_written, refl, refl, zero_fits negative, refl))
  some (either test go stay) c = let s = some stay c.1 in (s.0, s.1, inr s.2)
  some (deeper test part go stay) c = let s = some stay c.1 in (s.0, s.1, inr s.2)
  some (next p go) c = let f = some p c.0 in let g = some (go f.1) (c.1 f.1) in (f.0 ++ g.0, g.1, (f.0, g.0, f.1, refl, f.2, g.2))
  some (many separator first join part) c = let s = some part c.0 in (s.0, first s.1, start s.2)

-- ---- numbers

number_limit : (t : Lexeme) (n : Written) → is_number t ≡ Some n → IsLimitAt TooLarge t
unfolding is_number
number_limit (token p (NUMBER u c)) n e = tt
number_limit (token p (FIXED f)) n e = absurd cc
number_limit (token p (NAME s)) n e = absurd cc
number_limit (token p (STRING s)) n e = absurd cc

IsNumeral : Limits → Bool → Language Num
IsNumeral fits negative w a = (t : Lexeme) × (n : Written) × (w ≡ t ∷ []) × (is_number t ≡ Some n) × (fits negative n.units ≡ true) × (a ≡ number_of negative n)

module _ (fits fits⁺ : Limits) (any : (negative : Bool) (n : Option ℕ) → fits⁺ negative n ≡ true) (zero_fits : (negative : Bool) → fits negative (Some 0) ≡ true) where
  zero_begins : (negative : Bool) → Begins (IsNumeral fits negative) []
  unfolding zero_written is_number IsNumeral
  zero_begins negative = (token 0 (NUMBER (Some 0) 0) ∷ [], number_of negative zero_written, (token 0 (NUMBER (Some 0) 0), zero_written, refl, refl, zero_fits negative, refl))

  numeral_fine : (negative : Bool) (w : List Lexeme) → Fine (IsNumeral fits negative) (IsNumeral fits⁺ negative) w (numeral fits negative w)
  unfolding numeral IsNumeral
  numeral_fine negative w = go (look is_number w) refl
    where
      read : (x : Written × List Lexeme) → look is_number w ≡ Some x → (b : Bool) → fits negative x.0.units ≡ b
          → Fine (IsNumeral fits negative) (IsNumeral fits⁺ negative) w (cond b (Ok (number_of negative x.0, x.1)) (refuse TooLarge w))
      read x e true h = let k = seen is_number w x.0 x.1 e in record { front = k.t ∷ []; parts = k.parts; inside = (k.t, x.0, refl, k.says, h, refl) }
      read x e false h =
          let k = seen is_number w x.0 x.1 e in record {
            front = [];
            rest = w;
            parts = refl;
            left = refl;
            begins = zero_begins negative;
            passes = (k.t, x.1, k.parts, number_limit k.t x.0 k.says, ([], number_of negative x.0, (k.t, x.0, refl, k.says, any negative x.0.units, refl)));
          }

      go : (o : Option (Written × List Lexeme)) → look is_number w ≡ o
          → Fine (IsNumeral fits negative) (IsNumeral fits⁺ negative) w (when o (refuse Syntax w) (λ x. cond (fits negative x.0.units) (Ok (number_of negative x.0, x.1)) (refuse TooLarge w)))
      go None e = fine_refuse (IsNumeral fits negative) (IsNumeral fits⁺ negative) w (zero_begins negative)
      go (Some x) e = read x e (fits negative x.0.units) refl

numbered : (l : Limits) (J : Parts) {A : Type 0} (negative : Bool) (f : Num → A) (u : List Lexeme) (a : Num) → IsNumeral l negative u a → IsOf l J (number negative f) u (f a)
unfolding IsNumeral
numbered l J negative f u a h = (h.0, h.1, h.2, h.3, h.4, ap f h.5)

-- ---- one level down: a token that opens a level was met

abbrev pub Steps : (I I⁺ : Parts) → ((p : Part) → Reader (Inner p)) → Part → Lexeme → List Lexeme → Type 0
Steps I I⁺ g p t w = Fine (I p) (I⁺ p) w (g p (t ∷ w)) ⊎ ((g p (t ∷ w) ≡ refuse TooDeep (t ∷ w)) × ((u : List Lexeme) × (b : Inner p) × I⁺ p u b))

module _ (m : ℕ) (fits fits⁺ : Limits) (wider : (negative : Bool) (n : Option ℕ) → fits negative n ≡ true → fits⁺ negative n ≡ true) (any : (negative : Bool) (n : Option ℕ) → fits⁺ negative n ≡ true)
    (zero_fits : (negative : Bool) → fits negative (Some 0) ≡ true) where
  module _ (I I⁺ : Parts) (grow : (p : Part) (u : List Lexeme) (b : Inner p) → I p u b → I⁺ p u b) (g : (p : Part) → Reader (Inner p)) (steps : (p : Part) (t : Lexeme) (w : List Lexeme) → Steps I I⁺ g p t w) where
    some_of : {A : Type 0} (r : Rule A) → Clear r → (w : List Lexeme) × (a : A) × IsOf fits I r w a
    some_of r c = some fits zero_fits I r c

    some_more : {A : Type 0} (r : Rule A) → Clear r → (w : List Lexeme) × (a : A) × IsOf fits⁺ I⁺ r w a
    some_more r c = some fits⁺ (λ negative. any negative (Some 0)) I⁺ r c

    pub fine : {A : Type 0} (r : Rule A) → Clear r → (w : List Lexeme) → Fine (IsOf fits I r) (IsOf fits⁺ I⁺ r) w (reads m fits g r w)
    unfolding reads expect
    fine (give a) c w = fine_nothing (IsOf fits I (give a)) (IsOf fits⁺ I⁺ (give a)) w a (refl, refl)
    fine (one {A} test) c w = go (look test w) refl
      where
        go : (o : Option (A × List Lexeme)) → look test w ≡ o → Fine (IsOf fits I (one test)) (IsOf fits⁺ I⁺ (one test)) w (when o (refuse Syntax w) (λ x. Ok x))
        go None e = fine_refuse (IsOf fits I (one test)) (IsOf fits⁺ I⁺ (one test)) w (some_of (one test) c)
        go (Some x) e = let k = seen test w x.0 x.1 e in record { front = k.t ∷ []; parts = k.parts; inside = (k.t, refl, k.says) }
    fine (number negative f) c w =
        fine_map (IsNumeral fits negative) (IsNumeral fits⁺ negative) (IsOf fits I (number negative f)) (IsOf fits⁺ I⁺ (number negative f)) f (numbered fits I negative f) (numbered fits⁺ I⁺ negative f) w (numeral fits negative w)
        (numeral_fine fits fits⁺ any zero_fits negative w)
    fine (either {A} {X} test go stay) c w = cases (λ x v. fine (go x) (c.0 x) v) (fine stay c.1 w) (look test w) refl
      where
        cases : ((x : X) (v : List Lexeme) → Fine (IsOf fits I (go x)) (IsOf fits⁺ I⁺ (go x)) v (reads m fits g (go x) v)) → Fine (IsOf fits I stay) (IsOf fits⁺ I⁺ stay) w (reads m fits g stay w)
            → (o : Option (X × List Lexeme)) → look test w ≡ o → Fine (IsOf fits I (either test go stay)) (IsOf fits⁺ I⁺ (either test go stay)) w (when o (reads m fits g stay w) (λ x. reads m fits g (go x.0) x.1))
        cases hg hs None e = fine_into (IsOf fits I stay) (IsOf fits⁺ I⁺ stay) (IsOf fits I (either test go stay)) (IsOf fits⁺ I⁺ (either test go stay)) (λ u a h. inr h) (λ u a h. inr h) w (reads m fits g stay w) hs
        cases hg hs (Some x) e =
            let k = seen test w x.0 x.1 e in
            let N : Language A = IsOf fits I (either test go stay) in
            let N⁺ : Language A = IsOf fits⁺ I⁺ (either test go stay) in
            rw k.parts (fine_behind N N⁺ k.t x.1 (reads m fits g (go x.0) x.1)
            (fine_into (IsOf fits I (go x.0)) (IsOf fits⁺ I⁺ (go x.0)) (λ u a. N (k.t ∷ u) a) (λ u a. N⁺ (k.t ∷ u) a)
            (λ u a h. inl (k.t, x.0, u, refl, k.says, h)) (λ u a h. inl (k.t, x.0, u, refl, k.says, h)) x.1 (reads m fits g (go x.0) x.1) (hg x.0 x.1)))
    fine (deeper {A} {X} test part go stay) c w = cases (λ b v. fine (go b) (c.0 b) v) (fine stay c.1 w) (look test w) refl
      where
        stepped : ((b : Inner part) (v : List Lexeme) → Fine (IsOf fits I (go b)) (IsOf fits⁺ I⁺ (go b)) v (reads m fits g (go b) v)) → (t : Lexeme) (x : X) (v : List Lexeme) → test t ≡ Some x
            → Steps I I⁺ g part t v → Fine (IsOf fits I (deeper test part go stay)) (IsOf fits⁺ I⁺ (deeper test part go stay)) (t ∷ v) (g part (t ∷ v) >>= λ y. reads m fits g (go y.0) y.1)
        stepped hg t x v says (inl f) =
            fine_behind (IsOf fits I (deeper test part go stay)) (IsOf fits⁺ I⁺ (deeper test part go stay)) t v (g part (t ∷ v) >>= λ y. reads m fits g (go y.0) y.1)
            (fine_then {L = I part} {L⁺ = I⁺ part} {M = λ b. IsOf fits I (go b)} {M⁺ = λ b. IsOf fits⁺ I⁺ (go b)} {N = λ u a. IsOf fits I (deeper test part go stay) (t ∷ u) a} {N⁺ = λ u a. IsOf fits⁺ I⁺ (deeper test part go stay) (t ∷ u) a}
            (record { seq = λ {u} {v} {a} {b} h k. inl (t, x, u, v, a, refl, says, h, k); fill = λ b. some_of (go b) (c.0 b) })
            (record { seq = λ {u} {v} {a} {b} h k. inl (t, x, u, v, a, refl, says, h, k); fill = λ b. some_more (go b) (c.0 b) })
            (grow part) v (g part (t ∷ v)) (λ b. reads m fits g (go b)) f hg)
        stepped hg t x v says (inr f) =
            let s = some_more (go f.1.1) (c.0 f.1.1) in
            rw f.0 (record {
              front = [];
              rest = t ∷ v;
              parts = refl;
              left = refl;
              begins = some_of (deeper test part go stay) c;
              passes = (t, v, refl, c.3 t x says, (f.1.0 ++ s.0, s.1, inl (t, x, f.1.0, s.0, f.1.1, refl, says, f.1.2, s.2)));
            })

        cases : ((b : Inner part) (v : List Lexeme) → Fine (IsOf fits I (go b)) (IsOf fits⁺ I⁺ (go b)) v (reads m fits g (go b) v)) → Fine (IsOf fits I stay) (IsOf fits⁺ I⁺ stay) w (reads m fits g stay w)
            → (o : Option (X × List Lexeme)) → look test w ≡ o → Fine (IsOf fits I (deeper test part go stay)) (IsOf fits⁺ I⁺ (deeper test part go stay)) w (when o (reads m fits g stay w) (λ x. g part w >>= λ y. reads m fits g (go y.0) y.1))
        cases hg hs None e = fine_into (IsOf fits I stay) (IsOf fits⁺ I⁺ stay) (IsOf fits I (deeper test part go stay)) (IsOf fits⁺ I⁺ (deeper test part go stay)) (λ u a h. inr h) (λ u a h. inr h) w (reads m fits g stay w) hs
        cases hg hs (Some x) e =
            let k = seen test w x.0 x.1 e in
            rw k.parts (stepped hg k.t x.0 x.1 k.says (steps part k.t x.1))
    fine (next {A} {B} p go) c w =
        fine_then {L = IsOf fits I p} {L⁺ = IsOf fits⁺ I⁺ p} {M = λ b. IsOf fits I (go b)} {M⁺ = λ b. IsOf fits⁺ I⁺ (go b)} {N = IsOf fits I (next p go)} {N⁺ = IsOf fits⁺ I⁺ (next p go)}
        (record { seq = λ {u} {v} {a} {b} h k. (u, v, a, refl, h, k); fill = λ b. some_of (go b) (c.1 b) })
        (record { seq = λ {u} {v} {a} {b} h k. (u, v, a, refl, h, k); fill = λ b. some_more (go b) (c.1 b) })
        (grows fits fits⁺ wider I I⁺ grow p) w (reads m fits g p w) (λ b. reads m fits g (go b)) (fine p c.0 w) (λ b rest. fine (go b) (c.1 b) rest)
    fine (many separator first join part) c w =
        chain_fine separator first join (IsOf fits I part) (IsOf fits⁺ I⁺ part) (grows fits fits⁺ wider I I⁺ grow part) (reads m fits g part) (fine part c.0) m w

  module _ (clear : (p : Part) → Clear (rule_of p)) where
    inside_steps : (n : ℕ) (p : Part) (t : Lexeme) (w : List Lexeme) → Steps (Inside fits n) (Inside fits⁺ (suc n)) (inside_at m fits n) p t w
    unfolding inside_at
    inside_steps zero p t w = inr (refl, some fits⁺ (λ negative. any negative (Some 0)) (Inside fits⁺ zero) (rule_of p) (clear p))
    inside_steps (suc n) p t w = inl (fine (Inside fits n) (Inside fits⁺ (suc n)) (inside_grow fits fits⁺ wider n (suc n) (omega arith)) (inside_at m fits n) (inside_steps n) (rule_of p) (clear p) w)

    pub is_fine : (n : ℕ) {A : Type 0} (r : Rule A) → Clear r → (w : List Lexeme) → Fine (Is fits n r) (Is fits⁺ (suc n) r) w (reads m fits (inside_at m fits n) r w)
    is_fine n r c w = fine (Inside fits n) (Inside fits⁺ (suc n)) (inside_grow fits fits⁺ wider n (suc n) (omega arith)) (inside_at m fits n) (inside_steps n) r c w
