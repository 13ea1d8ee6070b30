-- Tokens of given marks are read as a list of a rule, with a value that is seen as it should be.
use Rattle.std.proofs.Common.{◌≡◌, ℕ, List, [], ◌∷◌, ◌++◌, map, Bool, true, Option, Some, inl, inr, refl, sym, ap, subst, ◌∙◌}
use Rattle.sql_tokens.specs.Lexeme.{Mark, NUMBER, Lexeme, token}
use Rattle.sql_text.specs.declared.tree.Num.{Num}
use Rattle.sql_text.specs.Number.{Written, is_number, number_of}
use Rattle.sql_text.specs.Rule.{Part, Inner, Language, Rule, give, one, number, either, deeper, next, many, start, further, IsOf}
use Rattle.sql_text.proofs.RuleFine.{Limits, Parts}

-- ---- tokens by their marks

abbrev pub mark_at : Lexeme → Mark
mark_at (token p m) = m

abbrev pub marks_of : List Lexeme → List Mark
marks_of ts = map mark_at ts

record Parted (ts : List Lexeme) (a b : List Mark) : Type 0 where
  front : List Lexeme
  rest : List Lexeme
  parts : ts ≡ front ++ rest
  fronts : marks_of front ≡ a
  rests : marks_of rest ≡ b

parted : (a b : List Mark) (ts : List Lexeme) → marks_of ts ≡ a ++ b → Parted ts a b
parted [] b ts e = record { front = []; rest = ts; parts = refl; fronts = refl; rests = e }
parted (m ∷ a) b [] e = absurd cc
parted (m ∷ a) b (t ∷ ts) e =
    let k : marks_of ts ≡ a ++ b = cc in
    let head : mark_at t ≡ m = cc in
    let s = parted a b ts k in
    record { front = t ∷ s.front; rest = s.rest; parts = ap (λ r. t ∷ r) s.parts; fronts = rw (head, s.fronts) refl; rests = s.rests }

-- a token of this mark, and what follows
record Headed (ts : List Lexeme) (m : Mark) (b : List Mark) : Type 0 where
  place : ℕ
  rest : List Lexeme
  parts : ts ≡ token place m ∷ rest
  rests : marks_of rest ≡ b

headed : (m : Mark) (b : List Mark) (ts : List Lexeme) → marks_of ts ≡ m ∷ b → Headed ts m b
headed m b [] e = absurd cc
headed m b (token p n ∷ ts) e =
    let i : n ≡ m = cc in
    record { place = p; rest = ts; parts = ap (λ k. token p k ∷ ts) i; rests = cc }

none : (ts : List Lexeme) → marks_of ts ≡ [] → ts ≡ []
none [] e = refl
none (t ∷ ts) e = absurd cc

-- ---- rules

abbrev pub Spells : {A C : Type 0} → Language A → (A → C) → C → List Mark → Type 0
Spells {A} L view c ms = (ts : List Lexeme) → marks_of ts ≡ ms → (a : A) × L ts a × (view a ≡ c)

-- the place of a sign, which does not count
abbrev pub gone : ℕ → Bool
gone p = true

module _ (fits : Limits) (I : Parts) {C : Type 0} where
  pub sp_give : {A : Type 0} (view : A → C) (a : A) (c : C) → view a ≡ c → Spells (IsOf fits I (give a)) view c []
  sp_give view a c e ts h = (a, (none ts h, refl), e)

  pub sp_one : {A : Type 0} (view : A → C) (c : C) (test : Lexeme → Option A) (m : Mark) → ((p : ℕ) → (a : A) × (test (token p m) ≡ Some a) × (view a ≡ c)) → Spells (IsOf fits I (one test)) view c (m ∷ [])
  sp_one view c test m f ts h =
      let t = headed m [] ts h in
      let k = f t.place in
      (k.0, (token t.place m, t.parts ∙ ap (λ r. token t.place m ∷ r) (none t.rest t.rests), k.1), k.2)

  pub sp_number : {A : Type 0} (view : A → C) (c : C) (negative : Bool) (u s : ℕ) (f : Num → A) → fits negative (Some u) ≡ true
      → ((p : ℕ) → view (f (number_of negative (record { at = p; units = Some u; scale = s }))) ≡ c) → Spells (IsOf fits I (number negative f)) view c (NUMBER (Some u) s ∷ [])
  unfolding is_number
  sp_number view c negative u s f small k ts h =
      let t = headed (NUMBER (Some u) s) [] ts h in
      let n : Written = record { at = t.place; units = Some u; scale = s } in
      (f (number_of negative n), (token t.place (NUMBER (Some u) s), n, t.parts ∙ ap (λ r. token t.place (NUMBER (Some u) s) ∷ r) (none t.rest t.rests), refl, small, refl), k t.place)

  pub sp_go : {A X : Type 0} (view : A → C) (c : C) (test : Lexeme → Option X) (m : Mark) (go : X → Rule A) (stay : Rule A) (ms : List Mark)
      → ((p : ℕ) → (x : X) × (test (token p m) ≡ Some x) × Spells (IsOf fits I (go x)) view c ms) → Spells (IsOf fits I (either test go stay)) view c (m ∷ ms)
  sp_go view c test m go stay ms f ts h =
      let t = headed m ms ts h in
      let k = f t.place in
      let r = k.2 t.rest t.rests in
      (r.0, inl (token t.place m, k.0, t.rest, t.parts, k.1, r.1), r.2)

  pub sp_stay : {A X : Type 0} (view : A → C) (c : C) (test : Lexeme → Option X) (go : X → Rule A) (stay : Rule A) (ms : List Mark) → Spells (IsOf fits I stay) view c ms → Spells (IsOf fits I (either test go stay)) view c ms
  sp_stay view c test go stay ms f ts h = let r = f ts h in (r.0, inr r.1, r.2)

  pub sp_deeper_stay : {A X : Type 0} (view : A → C) (c : C) (test : Lexeme → Option X) (part : Part) (go : Inner part → Rule A) (stay : Rule A) (ms : List Mark) → Spells (IsOf fits I stay) view c ms
      → Spells (IsOf fits I (deeper test part go stay)) view c ms
  sp_deeper_stay view c test part go stay ms f ts h = let r = f ts h in (r.0, inr r.1, r.2)

  pub sp_next : {A B D : Type 0} (view : A → C) (c : C) (p : Rule B) (go : B → Rule A) (seen : B → D) (d : D) (ms ns : List Mark) → Spells (IsOf fits I p) seen d ms → ((b : B) → seen b ≡ d → Spells (IsOf fits I (go b)) view c ns)
      → Spells (IsOf fits I (next p go)) view c (ms ++ ns)
  sp_next view c p go seen d ms ns f g ts h =
      let s = parted ms ns ts h in
      let x = f s.front s.fronts in
      let y = g x.0 x.2 s.rest s.rests in
      (y.0, (s.front, s.rest, x.0, s.parts, x.1, y.1), y.2)

  pub sp_deeper : {A X D : Type 0} (view : A → C) (c : C) (test : Lexeme → Option X) (m : Mark) (part : Part) (go : Inner part → Rule A) (stay : Rule A) (seen : Inner part → D) (d : D) (ms ns : List Mark)
      → ((p : ℕ) → (x : X) × (test (token p m) ≡ Some x)) → Spells (I part) seen d ms → ((b : Inner part) → seen b ≡ d → Spells (IsOf fits I (go b)) view c ns)
      → Spells (IsOf fits I (deeper test part go stay)) view c (m ∷ (ms ++ ns))
  sp_deeper view c test m part go stay seen d ms ns o f g ts h =
      let t = headed m (ms ++ ns) ts h in
      let s = parted ms ns t.rest t.rests in
      let x = f s.front s.fronts in
      let y = g x.0 x.2 s.rest s.rests in
      (y.0, inl (token t.place m, (o t.place).0, s.front, s.rest, x.0, t.parts ∙ ap (λ r. token t.place m ∷ r) s.parts, (o t.place).1, x.1, y.1), y.2)

  module _ {A B X D : Type 0} (separator : Lexeme → Option X) (first : B → A) (join : A → X → B → A) (part : Rule B) (seen : B → D) (view : A → C) where
    pub sp_start : (d : D) (c : C) (ms : List Mark) → ((b : B) → seen b ≡ d → view (first b) ≡ c) → Spells (IsOf fits I part) seen d ms → Spells (IsOf fits I (many separator first join part)) view c ms
    sp_start d c ms e f ts h = let r = f ts h in (first r.0, start r.1, e r.0 r.2)

    pub sp_further : (d : D) (l c : C) (m : Mark) (ms ns : List Mark) → ((p : ℕ) → (x : X) × (separator (token p m) ≡ Some x) × ((a : A) (b : B) → view a ≡ l → seen b ≡ d → view (join a x b) ≡ c))
        → Spells (IsOf fits I (many separator first join part)) view l ms → Spells (IsOf fits I part) seen d ns → Spells (IsOf fits I (many separator first join part)) view c (ms ++ (m ∷ ns))
    sp_further d l c m ms ns o f g ts h =
        let s = parted ms (m ∷ ns) ts h in
        let t = headed m ns s.rest s.rests in
        let x = f s.front s.fronts in
        let y = g t.rest t.rests in
        let k = o t.place in
        (join x.0 k.0 y.0, subst (λ r. IsOf fits I (many separator first join part) r (join x.0 k.0 y.0)) (sym (s.parts ∙ ap (λ r. s.front ++ r) t.parts)) (further {t = token t.place m} k.1 x.1 y.1), k.2 x.0 y.0 x.2 y.2)
