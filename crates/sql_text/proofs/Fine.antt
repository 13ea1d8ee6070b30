-- What was read is in the language; where reading was refused, the tokens before that place begin a sentence.
use Rattle.std.proofs.Common.{◌≡◌, ℕ, zero, suc, List, [], ◌∷◌, ◌++◌, length, Result, Ok, Err, Option, Some, None, refl, sym, ap, subst, ◌∙◌, append_assoc}
use Rattle.std.proofs.lemmas.List.{append-nil}
use Rattle.sql_tokens.specs.Lexeme.{Lexeme}
use Rattle.sql_text.specs.declared.fault.Cause.{Cause}
use Rattle.sql_text.specs.declared.fault.Cause.TheVariants.{Syntax, TooDeep, TooLarge}
use Rattle.sql_text.specs.declared.fault.Stop.{Stop}
use Rattle.sql_text.specs.Rule.{Language, Chain, start, further}
use Rattle.sql_text.specs.Sentence.{Begins, IsLimitAt}
use Rattle.sql_text.specs.Reading.{◌>>=◌, Reader, refuse, when, found, look, chain}

-- a token that passes a limit could stand there without the limit
abbrev pub Passes : {A : Type 0} → Cause → Language A → List Lexeme → List Lexeme → Type 0
Passes Syntax beyond u rest = Unit {0}
Passes TooDeep beyond u rest = (x : Lexeme) × (v : List Lexeme) × (rest ≡ x ∷ v) × IsLimitAt TooDeep x × Begins beyond (u ++ (x ∷ []))
Passes TooLarge beyond u rest = (x : Lexeme) × (v : List Lexeme) × (rest ≡ x ∷ v) × IsLimitAt TooLarge x × Begins beyond (u ++ (x ∷ []))

pub record Read {A : Type 0} (within : Language A) (w : List Lexeme) (a : A) (rest : List Lexeme) : Type 0 where
  pub front : List Lexeme
  pub parts : w ≡ front ++ rest
  pub inside : within front a

pub record Refused {A : Type 0} (within beyond : Language A) (w : List Lexeme) (e : Stop) : Type 0 where
  pub front : List Lexeme
  pub rest : List Lexeme
  pub parts : w ≡ front ++ rest
  pub left : e.left ≡ length rest
  pub begins : Begins within front
  pub passes : Passes e.cause beyond front rest

abbrev pub Fine : {A : Type 0} → (within beyond : Language A) → List Lexeme → Result (A × List Lexeme) Stop → Type 0
Fine within beyond w (Ok x) = Read within w x.0 x.1
Fine within beyond w (Err e) = Refused within beyond w e

-- one language, then another that depends on the first value
pub record Joins {A B : Type 0} (L : Language A) (M : A → Language B) (N : Language B) : Type 0 where
  pub seq : {u v : List Lexeme} {a : A} {b : B} → L u a → M a v b → N (u ++ v) b
  pub fill : (a : A) → (v : List Lexeme) × (b : B) × M a v b

module _ {A B : Type 0} {L : Language A} {M : A → Language B} {N : Language B} (j : Joins L M N) where
  begins_then : (u : List Lexeme) → Begins L u → Begins N u
  begins_then u h =
      let f = j.fill h.1 in
      (h.0 ++ f.0, f.1, subst (λ s. N s f.1) (append_assoc u h.0 f.0) (j.seq h.2 f.2))

  begins_behind : (u v : List Lexeme) (a : A) → L u a → Begins (M a) v → Begins N (u ++ v)
  begins_behind u v a l h = (h.0, h.1, subst (λ s. N s h.1) (sym (append_assoc u v h.0)) (j.seq l h.2))

passes_map : {A B : Type 0} (c : Cause) (L : Language A) (N : Language B) (p u rest : List Lexeme) → ((s : List Lexeme) → Begins L s → Begins N (p ++ s)) → Passes c L u rest → Passes c N (p ++ u) rest
passes_map Syntax L N p u rest f h = tt
passes_map TooDeep L N p u rest f h = (h.0, h.1, h.2, h.3, subst (Begins N) (sym (append_assoc p u (h.0 ∷ []))) (f (u ++ (h.0 ∷ [])) h.4))
passes_map TooLarge L N p u rest f h = (h.0, h.1, h.2, h.3, subst (Begins N) (sym (append_assoc p u (h.0 ∷ []))) (f (u ++ (h.0 ∷ [])) h.4))

module _ {A B : Type 0} {L L⁺ : Language A} {M M⁺ : A → Language B} {N N⁺ : Language B} (j : Joins L M N) (j⁺ : Joins L⁺ M⁺ N⁺) (grow : (u : List Lexeme) (a : A) → L u a → L⁺ u a) where
  behind : (w rest : List Lexeme) (a : A) → Read L w a rest → (r : Result (B × List Lexeme) Stop) → Fine (M a) (M⁺ a) rest r → Fine N N⁺ w r
  behind w rest a h (Ok y) k = record {
    front = h.front ++ k.front;
    parts = h.parts ∙ ap (λ s. h.front ++ s) k.parts ∙ sym (append_assoc h.front k.front y.1);
    inside = j.seq h.inside k.inside;
  }
  behind w rest a h (Err e) k = record {
    front = h.front ++ k.front;
    rest = k.rest;
    parts = h.parts ∙ ap (λ s. h.front ++ s) k.parts ∙ sym (append_assoc h.front k.front k.rest);
    left = k.left;
    begins = begins_behind j h.front k.front a h.inside k.begins;
    passes = passes_map e.cause (M⁺ a) N⁺ h.front k.front k.rest (λ s b. begins_behind j⁺ h.front s a (grow h.front a h.inside) b) k.passes;
  }

  pub fine_then : (w : List Lexeme) (r : Result (A × List Lexeme) Stop) (q : A → Reader B) → Fine L L⁺ w r → ((a : A) (rest : List Lexeme) → Fine (M a) (M⁺ a) rest (q a rest)) → Fine N N⁺ w (r >>= λ x. q x.0 x.1)
  fine_then w (Ok x) q h k = behind w x.1 x.0 h (q x.0 x.1) (k x.0 x.1)
  fine_then w (Err e) q h k = record {
    front = h.front;
    rest = h.rest;
    parts = h.parts;
    left = h.left;
    begins = begins_then j h.front h.begins;
    passes = passes_map e.cause L⁺ N⁺ [] h.front h.rest (λ s b. begins_then j⁺ s b) h.passes;
  }

-- behind a token that was read
pub fine_behind : {A : Type 0} (L L⁺ : Language A) (t : Lexeme) (w : List Lexeme) (r : Result (A × List Lexeme) Stop) → Fine (λ u. L (t ∷ u)) (λ u. L⁺ (t ∷ u)) w r → Fine L L⁺ (t ∷ w) r
fine_behind L L⁺ t w (Ok x) h = record { front = t ∷ h.front; parts = ap (λ s. t ∷ s) h.parts; inside = h.inside }
fine_behind L L⁺ t w (Err e) h = record {
  front = t ∷ h.front;
  rest = h.rest;
  parts = ap (λ s. t ∷ s) h.parts;
  left = h.left;
  begins = h.begins;
  passes = passes_map e.cause (λ u. L⁺ (t ∷ u)) L⁺ (t ∷ []) h.front h.rest (λ s b. b) h.passes;
}

-- the value, seen otherwise
pub fine_map : {A B : Type 0} (L L⁺ : Language A) (N N⁺ : Language B) (f : A → B) → ((u : List Lexeme) (a : A) → L u a → N u (f a)) → ((u : List Lexeme) (a : A) → L⁺ u a → N⁺ u (f a))
    → (w : List Lexeme) (r : Result (A × List Lexeme) Stop) → Fine L L⁺ w r → Fine N N⁺ w (r >>= λ x. Ok (f x.0, x.1))
fine_map L L⁺ N N⁺ f to to⁺ w (Ok x) h = record { front = h.front; parts = h.parts; inside = to h.front x.0 h.inside }
fine_map L L⁺ N N⁺ f to to⁺ w (Err e) h = record {
  front = h.front;
  rest = h.rest;
  parts = h.parts;
  left = h.left;
  begins = (h.begins.0, f h.begins.1, to (h.front ++ h.begins.0) h.begins.1 h.begins.2);
  passes = passes_map e.cause L⁺ N⁺ [] h.front h.rest (λ s b. (b.0, f b.1, to⁺ (s ++ b.0) b.1 b.2)) h.passes;
}

-- refused at once
pub fine_refuse : {A : Type 0} (L L⁺ : Language A) (w : List Lexeme) → Begins L [] → Fine L L⁺ w (refuse Syntax w)
fine_refuse L L⁺ w h = record { front = []; rest = w; parts = refl; left = refl; begins = h; passes = tt }

pub fine_nothing : {A : Type 0} (L L⁺ : Language A) (w : List Lexeme) (a : A) → L [] a → Fine L L⁺ w (Ok (a, w))
fine_nothing L L⁺ w a h = record { front = []; parts = refl; inside = h }

-- the language, seen otherwise
pub fine_into : {A : Type 0} (L L⁺ N N⁺ : Language A) → ((u : List Lexeme) (a : A) → L u a → N u a) → ((u : List Lexeme) (a : A) → L⁺ u a → N⁺ u a)
    → (w : List Lexeme) (r : Result (A × List Lexeme) Stop) → Fine L L⁺ w r → Fine N N⁺ w r
fine_into L L⁺ N N⁺ to to⁺ w (Ok x) h = record { front = h.front; parts = h.parts; inside = to h.front x.0 h.inside }
fine_into L L⁺ N N⁺ to to⁺ w (Err e) h = record {
  front = h.front;
  rest = h.rest;
  parts = h.parts;
  left = h.left;
  begins = (h.begins.0, h.begins.1, to (h.front ++ h.begins.0) h.begins.1 h.begins.2);
  passes = passes_map e.cause L⁺ N⁺ [] h.front h.rest (λ s b. (b.0, b.1, to⁺ (s ++ b.0) b.1 b.2)) h.passes;
}

-- ---- the token that was looked at

pub record Seen {X : Type 0} (test : Lexeme → Option X) (w : List Lexeme) (x : X) (v : List Lexeme) : Type 0 where
  pub t : Lexeme
  pub says : test t ≡ Some x
  pub parts : w ≡ t ∷ v

pub seen : {X : Type 0} (test : Lexeme → Option X) (w : List Lexeme) (x : X) (v : List Lexeme) → look test w ≡ Some (x, v) → Seen test w x v
unfolding look
seen test [] x v e = absurd cc
seen {X} test (t ∷ w) x v e = go (test t) refl e
  where
    go : (o : Option X) → test t ≡ o → found o w ≡ Some (x, v) → Seen test (t ∷ w) x v
    go None h k = absurd cc
    go (Some y) h k =
        let pair : ◌≡◌ {A = X × List Lexeme} (y, w) (x, v) = cc in
        let x-is : y ≡ x = ap (λ (p : X × List Lexeme). p.0) pair in
        let v-is : w ≡ v = ap (λ (p : X × List Lexeme). p.1) pair in
        record { t = t; says = h ∙ ap Some x-is; parts = ap (λ s. t ∷ s) v-is }

-- ---- a chain

module _ {A B X : Type 0} (separator : Lexeme → Option X) (first : B → A) (join : A → X → B → A) where
  abbrev pub Rest : Language B → A → Language A
  Rest P a v c = (u : List Lexeme) → Chain separator first join P u a → Chain separator first join P (u ++ v) c

  rest_nothing : (P : Language B) (a : A) → Rest P a [] a
  rest_nothing P a u h = subst (λ s. Chain separator first join P s a) (sym (append-nil u)) h

  joins_next : (P : Language B) (before : A) (t : Lexeme) (x : X) → separator t ≡ Some x → Joins P (λ b. Rest P (join before x b)) (λ v c. Rest P before (t ∷ v) c)
  joins_next P before t x says = record {
    seq = λ {u} {v} {a} {b} h k. λ front chained. subst (λ s. Chain separator first join P s b) (append_assoc front (t ∷ u) v) (k (front ++ (t ∷ u)) (further says chained h));
    fill = λ b. ([], join before x b, rest_nothing P (join before x b));
  }

  joins_first : (P : Language B) → Joins P (λ b. Rest P (first b)) (Chain separator first join P)
  joins_first P = record { seq = λ {u} {v} {a} {b} h k. k u (start h); fill = λ b. ([], first b, rest_nothing P (first b)) }

  module _ (P P⁺ : Language B) (grow : (u : List Lexeme) (b : B) → P u b → P⁺ u b) (part : Reader B) (fine : (w : List Lexeme) → Fine P P⁺ w (part w)) where
    rest_fine : (m : ℕ) (a : A) (w : List Lexeme) → Fine (Rest P a) (Rest P⁺ a) w (chain m separator join part a w)
    unfolding chain
    rest_fine zero a w = fine_nothing (Rest P a) (Rest P⁺ a) w a (rest_nothing P a)
    rest_fine (suc m) a w = go (λ b. rest_fine m b) (look separator w) refl
      where
        go : ((b : A) (v : List Lexeme) → Fine (Rest P b) (Rest P⁺ b) v (chain m separator join part b v)) → (o : Option (X × List Lexeme)) → look separator w ≡ o
            → Fine (Rest P a) (Rest P⁺ a) w (when o (Ok (a, w)) (λ x. part x.1 >>= λ y. chain m separator join part (join a x.0 y.0) y.1))
        go ih None e = fine_nothing (Rest P a) (Rest P⁺ a) w a (rest_nothing P a)
        go ih (Some x) e =
            let s = seen separator w x.0 x.1 e in
            rw s.parts (fine_behind (Rest P a) (Rest P⁺ a) s.t x.1 (part x.1 >>= λ y. chain m separator join part (join a x.0 y.0) y.1)
            (fine_then (joins_next P a s.t x.0 s.says) (joins_next P⁺ a s.t x.0 s.says) grow x.1 (part x.1) (λ b. chain m separator join part (join a x.0 b)) (fine x.1) (λ b rest. ih (join a x.0 b) rest)))

    pub chain_fine : (m : ℕ) (w : List Lexeme) → Fine (Chain separator first join P) (Chain separator first join P⁺) w (part w >>= λ x. chain m separator join part (first x.0) x.1)
    chain_fine m w = fine_then (joins_first P) (joins_first P⁺) grow w (part w) (λ b. chain m separator join part (first b)) (fine w) (λ b rest. rest_fine m (first b) rest)
