-- What a reader does up to a token does not depend on what follows that token, nor on limits that it has not met.
use Rattle.std.proofs.Common.{◌≡◌, ℕ, zero, suc, ◌+◌, ◌≤◌, ◌<◌, List, [], ◌∷◌, ◌++◌, length, Result, Ok, Err, Option, Some, None, refl, sym, ap, subst, ◌∙◌, append_assoc, arith}
use Rattle.std.proofs.lemmas.List.{length-append, append_cancel_right}
use Rattle.sql_tokens.specs.Lexeme.{Lexeme}
use Rattle.sql_text.specs.declared.fault.Cause.{Cause}
use Rattle.sql_text.specs.declared.fault.Cause.TheVariants.{Syntax}
use Rattle.sql_text.specs.declared.fault.Stop.{Stop}
use Rattle.sql_text.specs.Rule.{Language}
use Rattle.sql_text.specs.Reading.{◌>>=◌, Reader, refuse, when, found, look, expect, chain}
use Rattle.sql_text.proofs.Fine.{Fine, seen}

-- ---- lists

pub too_short : (v e : List Lexeme) (t : Lexeme) → v ≡ e ++ (t ∷ v) → ⊥
too_short v e t h =
    let l : length v ≡ length e + suc (length v) = ap length h ∙ length-append e (t ∷ v) in
    omega (arith, l)

pub same_end : (d y u rest : List Lexeme) → d ++ y ≡ u ++ rest → length rest ≡ length y → rest ≡ y
same_end [] y [] rest e l = sym e
same_end [] y (s ∷ u) rest e l =
    let k : length y ≡ suc (length u + length rest) = ap length e ∙ ap suc (length-append u rest) in
    absurd (omega (arith, k, l))
same_end (s ∷ d) y [] rest e l =
    let k : suc (length d + length y) ≡ length rest = ap suc (sym (length-append d y)) ∙ ap length e in
    absurd (omega (arith, k, l))
same_end (s ∷ d) y (r ∷ u) rest e l = same_end d y u rest (cc) l

-- ---- what was read and what is left are the list

abbrev pub Cut : {A : Type 0} → List Lexeme → Result (A × List Lexeme) Stop → Type 0
Cut w (Ok x) = (front : List Lexeme) × (w ≡ front ++ x.1)
Cut w (Err e) = (front : List Lexeme) × (rest : List Lexeme) × (w ≡ front ++ rest) × (e.left ≡ length rest)

pub cut_of : {A : Type 0} (L L⁺ : Language A) (w : List Lexeme) (r : Result (A × List Lexeme) Stop) → Fine L L⁺ w r → Cut w r
cut_of L L⁺ w (Ok x) h = (h.front, h.parts)
cut_of L L⁺ w (Err e) h = (h.front, h.rest, h.parts, h.left)

pub cut_behind : {A : Type 0} (w front rest : List Lexeme) → w ≡ front ++ rest → (r : Result (A × List Lexeme) Stop) → Cut rest r → Cut w r
cut_behind w front rest e (Ok x) c = (front ++ c.0, e ∙ ap (λ s. front ++ s) c.1 ∙ sym (append_assoc front c.0 x.1))
cut_behind w front rest e (Err s) c = (front ++ c.0, c.1, e ∙ ap (λ s. front ++ s) c.2 ∙ sym (append_assoc front c.0 c.1), c.3)

pub cut_then : {A B : Type 0} (w : List Lexeme) (r : Result (A × List Lexeme) Stop) (q : A → Reader B) → Cut w r → ((a : A) (rest : List Lexeme) → Cut rest (q a rest)) → Cut w (r >>= λ x. q x.0 x.1)
cut_then w (Ok x) q c k = cut_behind w c.0 x.1 c.1 (q x.0 x.1) (k x.0 x.1)
cut_then w (Err e) q c k = c

-- ---- carried over to another tail and other limits

abbrev pub Carries : {A : Type 0} → (kept : Cause → Type 0) → (t : Lexeme) (v z : List Lexeme) → Result (A × List Lexeme) Stop → Result (A × List Lexeme) Stop → Type 0
Carries kept t v z (Ok x) r = (e : List Lexeme) → x.1 ≡ e ++ (t ∷ v) → r ≡ Ok (x.0, e ++ (t ∷ z))
Carries kept t v z (Err s) r = s.left ≡ suc (length v) → kept s.cause → r ≡ Err (record { cause = s.cause; left = suc (length z) })

-- p' goes on as p did wherever p has met no more than n tokens
abbrev pub Same : {A : Type 0} → (kept : Cause → Type 0) → ℕ → Reader A → Reader A → Type 0
Same kept n p p' = (d v z : List Lexeme) (t : Lexeme) → length d ≤ n → Carries kept t v z (p (d ++ (t ∷ v))) (p' (d ++ (t ∷ z)))

pub same_less : {A : Type 0} (kept : Cause → Type 0) (n k : ℕ) (p p' : Reader A) → k ≤ n → Same kept n p p' → Same kept k p p'
same_less kept n k p p' le s d v z t short = s d v z t (omega arith)

module _ (kept : Cause → Type 0) (limit : ℕ) where
  pub same_ok : {A : Type 0} (a : A) → Same kept limit (λ w. Ok (a, w)) (λ w. Ok (a, w))
  same_ok a d v z t short = λ e h. ap (λ (s : List Lexeme). Ok (a, s ++ (t ∷ z))) (append_cancel_right d e (t ∷ v) h)

  pub same_refuse : {A : Type 0} (c : Cause) → Same {A = A} kept limit (refuse c) (refuse c)
  same_refuse c d v z t short = λ h k.
      let none : length d ≡ 0 = omega (arith, h, length-append d (t ∷ v)) in
      let all : length (d ++ (t ∷ z)) ≡ suc (length z) = omega (arith, none, length-append d (t ∷ z)) in
      ap (λ (n : ℕ). Err (record { cause = c; left = n })) all

  module _ {A B : Type 0} (p p' : Reader A) (q q' : A → Reader B) (sp : Same kept limit p p') (cp : (w : List Lexeme) → Cut w (p w)) (sq : (a : A) → Same kept limit (q a) (q' a)) (cq : (a : A) (w : List Lexeme) → Cut w (q a w)) where
    module _ (d v z : List Lexeme) (t : Lexeme) (short : length d ≤ limit) where
      shorter : (front e rest : List Lexeme) → d ++ (t ∷ v) ≡ front ++ rest → rest ≡ e ++ (t ∷ v) → length e ≤ limit
      shorter front e rest whole is =
          let l : length d + suc (length v) ≡ length front + length rest = sym (length-append d (t ∷ v)) ∙ ap length whole ∙ length-append front rest in
          let k : length rest ≡ length e + suc (length v) = ap length is ∙ length-append e (t ∷ v) in
          omega (arith, l, k, short)

      second : (x : A × List Lexeme) → Carries kept t v z (Ok x) (p' (d ++ (t ∷ z))) → Cut (d ++ (t ∷ v)) (Ok x) → (r : Result (B × List Lexeme) Stop) → q x.0 x.1 ≡ r → Cut x.1 r
          → Carries kept t v z r (p' (d ++ (t ∷ z)) >>= λ y. q' y.0 y.1)
      second x h c (Ok y) is k = λ e y-is.
          let front : List Lexeme = k.0 ++ e in
          let x-is : x.1 ≡ front ++ (t ∷ v) = k.1 ∙ ap (λ s. k.0 ++ s) y-is ∙ sym (append_assoc k.0 e (t ∷ v)) in
          let here : q x.0 (front ++ (t ∷ v)) ≡ Ok y = ap (q x.0) (sym x-is) ∙ is in
          let there = subst (λ r. Carries kept t v z r (q' x.0 (front ++ (t ∷ z)))) here (sq x.0 front v z t (shorter c.0 front x.1 c.1 x-is)) in
          rw (h front x-is) (there e y-is)
      second x h c (Err s) is k = λ l kept-s.
          let rest-is : k.1 ≡ t ∷ v = same_end d (t ∷ v) (c.0 ++ k.0) k.1 (c.1 ∙ ap (λ s. c.0 ++ s) k.2 ∙ sym (append_assoc c.0 k.0 k.1)) (sym k.3 ∙ l) in
          let x-is : x.1 ≡ k.0 ++ (t ∷ v) = k.2 ∙ ap (λ s. k.0 ++ s) rest-is in
          let here : q x.0 (k.0 ++ (t ∷ v)) ≡ Err s = ap (q x.0) (sym x-is) ∙ is in
          let there = subst (λ r. Carries kept t v z r (q' x.0 (k.0 ++ (t ∷ z)))) here (sq x.0 k.0 v z t (shorter c.0 k.0 x.1 c.1 x-is)) in
          rw (h k.0 x-is) (there l kept-s)

      both : (r : Result (A × List Lexeme) Stop) → Carries kept t v z r (p' (d ++ (t ∷ z))) → Cut (d ++ (t ∷ v)) r → Carries kept t v z (r >>= λ y. q y.0 y.1) (p' (d ++ (t ∷ z)) >>= λ y. q' y.0 y.1)
      both (Ok x) h c = second x h c (q x.0 x.1) refl (cq x.0 x.1)
      both (Err s) h c = λ l k. rw (h l k) refl

    pub same_then : Same kept limit (λ w. p w >>= λ y. q y.0 y.1) (λ w. p' w >>= λ y. q' y.0 y.1)
    same_then d v z t short = both d v z t short (p (d ++ (t ∷ v))) (sp d v z t short) (cp (d ++ (t ∷ v)))

  pub same_map : {A B : Type 0} (f : A → B) (p p' : Reader A) → Same kept limit p p' → ((w : List Lexeme) → Cut w (p w)) → Same kept limit (λ w. p w >>= λ y. Ok (f y.0, y.1)) (λ w. p' w >>= λ y. Ok (f y.0, y.1))
  same_map f p p' s c = same_then p p' (λ a w. Ok (f a, w)) (λ a w. Ok (f a, w)) s c (λ a. same_ok (f a)) (λ a w. ([], refl))

-- behind the token t nothing leads back to it
pub past : {A : Type 0} (kept : Cause → Type 0) (t : Lexeme) (v z : List Lexeme) (r r' : Result (A × List Lexeme) Stop) → Cut v r → Carries kept t v z r r'
past kept t v z (Ok x) r' c = λ e h. absurd (too_short v (c.0 ++ e) t (c.1 ∙ ap (λ s. c.0 ++ s) h ∙ sym (append_assoc c.0 e (t ∷ v))))
past kept t v z (Err s) r' c = λ l k.
    let n : length v ≡ length c.0 + length c.1 = ap length c.2 ∙ length-append c.0 c.1 in
    absurd (omega (arith, n, l, c.3))

-- ---- a token that may be there

module _ {A X : Type 0} (kept : Cause → Type 0) (limit : ℕ) (test : Lexeme → Option X) (stay stay' : Reader A) (go go' : X → Reader A) (s : Same kept limit stay stay') (sg : (n : ℕ) → n < limit → (x : X) → Same kept n (go x) (go' x)) (cg : (x : X) (w : List Lexeme) → Cut w (go x w)) where
  at_head : (t : Lexeme) (v z : List Lexeme) (o : Option X) → Carries kept t v z (stay (t ∷ v)) (stay' (t ∷ z))
      → Carries kept t v z (when (found o v) (stay (t ∷ v)) (λ x. go x.0 x.1)) (when (found o z) (stay' (t ∷ z)) (λ x. go' x.0 x.1))
  at_head t v z None h = h
  at_head t v z (Some x) h = past kept t v z (go x v) (go' x z) (cg x v)

  later : (a : Lexeme) (d v z : List Lexeme) (t : Lexeme) (o : Option X) → suc (length d) ≤ limit → Carries kept t v z (stay (a ∷ (d ++ (t ∷ v)))) (stay' (a ∷ (d ++ (t ∷ z))))
      → Carries kept t v z (when (found o (d ++ (t ∷ v))) (stay (a ∷ (d ++ (t ∷ v)))) (λ x. go x.0 x.1)) (when (found o (d ++ (t ∷ z))) (stay' (a ∷ (d ++ (t ∷ z)))) (λ x. go' x.0 x.1))
  later a d v z t None le h = h
  later a d v z t (Some x) le h = sg (length d) (omega arith) x d v z t (omega arith)

  pub same_look : Same kept limit (λ w. when (look test w) (stay w) (λ x. go x.0 x.1)) (λ w. when (look test w) (stay' w) (λ x. go' x.0 x.1))
  unfolding look
  same_look [] v z t short = at_head t v z (test t) (s [] v z t short)
  same_look (a ∷ d) v z t short = later a d v z t (test a) (omega arith) (s (a ∷ d) v z t short)

module _ {A B X : Type 0} (separator : Lexeme → Option X) (join : A → X → B → A) (part : Reader B) (cp : (w : List Lexeme) → Cut w (part w)) where
  pub chain_cut : (m : ℕ) (a : A) (w : List Lexeme) → Cut w (chain m separator join part a w)
  unfolding chain
  chain_cut zero a w = ([], refl)
  chain_cut (suc m) a w = go (λ b. chain_cut m b) (look separator w) refl
    where
      go : ((b : A) (v : List Lexeme) → Cut v (chain m separator join part b v)) → (o : Option (X × List Lexeme)) → look separator w ≡ o → Cut w (when o (Ok (a, w)) (λ x. part x.1 >>= λ y. chain m separator join part (join a x.0 y.0) y.1))
      go ih None e = ([], refl)
      go ih (Some x) e =
          let s = seen separator w x.0 x.1 e in
          cut_behind w (s.t ∷ []) x.1 s.parts (part x.1 >>= λ y. chain m separator join part (join a x.0 y.0) y.1) (cut_then x.1 (part x.1) (λ b. chain m separator join part (join a x.0 b)) (cp x.1) (λ b. ih (join a x.0 b)))

module _ {A B X : Type 0} (kept : Cause → Type 0) (limit : ℕ) (separator : Lexeme → Option X) (join : A → X → B → A) (part part' : Reader B) (sp : Same kept limit part part') (cp : (w : List Lexeme) → Cut w (part w)) where
  pub chain_same : (n m m' : ℕ) → n ≤ limit → n < m → n < m' → (a : A) → Same kept n (chain m separator join part a) (chain m' separator join part' a)
  unfolding chain
  chain_same n zero m' le lt lt' a = absurd (omega arith)
  chain_same n (suc m) zero le lt lt' a = absurd (omega arith)
  chain_same n (suc m) (suc m') le lt lt' a = same_look kept n separator (λ w. Ok (a, w)) (λ w. Ok (a, w))
      (λ x w. part w >>= λ y. chain m separator join part (join a x y.0) y.1) (λ x w. part' w >>= λ y. chain m' separator join part' (join a x y.0) y.1)
      (same_ok kept n a)
      (λ k less x. same_then kept k part part' (λ b. chain m separator join part (join a x b)) (λ b. chain m' separator join part' (join a x b)) (same_less kept limit k part part' (omega arith) sp) cp
      (λ b. chain_same k m m' (omega arith) (omega arith) (omega arith) (join a x b)) (λ b. chain_cut separator join part cp m (join a x b)))
      (λ x w. cut_then w (part w) (λ b. chain m separator join part (join a x b)) (cp w) (λ b. chain_cut separator join part cp m (join a x b)))

-- a token that is only looked at
module _ {A X : Type 0} (kept : Cause → Type 0) (limit : ℕ) (test : Lexeme → Option X) (stay stay' see see' : Reader A) (s : Same kept limit stay stay') (ss : Same kept limit see see') where
  peeked : (o : Option X) (w w' v z x x' : List Lexeme) (t : Lexeme) → Carries kept t v z (stay w) (stay' w') → Carries kept t v z (see w) (see' w')
      → Carries kept t v z (when (found o x) (stay w) (λ y. see w)) (when (found o x') (stay' w') (λ y. see' w'))
  peeked None w w' v z x x' t h g = h
  peeked (Some p) w w' v z x x' t h g = g

  pub same_peek : Same kept limit (λ w. when (look test w) (stay w) (λ x. see w)) (λ w. when (look test w) (stay' w) (λ x. see' w))
  unfolding look
  same_peek [] v z t short = peeked (test t) (t ∷ v) (t ∷ z) v z v z t (s [] v z t short) (ss [] v z t short)
  same_peek (a ∷ d) v z t short = peeked (test a) (a ∷ (d ++ (t ∷ v))) (a ∷ (d ++ (t ∷ z))) v z (d ++ (t ∷ v)) (d ++ (t ∷ z)) t (s (a ∷ d) v z t short) (ss (a ∷ d) v z t short)

pub cut_look : {A X : Type 0} (test : Lexeme → Option X) (w : List Lexeme) (stay : Result (A × List Lexeme) Stop) (go : X → Reader A) → Cut w stay → ((x : X) (v : List Lexeme) → Cut v (go x v)) → Cut w (when (look test w) stay (λ x. go x.0 x.1))
cut_look {A} {X} test w stay go s g = cases (look test w) refl
  where
    cases : (o : Option (X × List Lexeme)) → look test w ≡ o → Cut w (when o stay (λ x. go x.0 x.1))
    cases None e = s
    cases (Some x) e = let k = seen test w x.0 x.1 e in cut_behind w (k.t ∷ []) x.1 k.parts (go x.0 x.1) (g x.0 x.1)

pub cut_peek : {A X : Type 0} (test : Lexeme → Option X) (w : List Lexeme) (stay see : Result (A × List Lexeme) Stop) → Cut w stay → Cut w see → Cut w (when (look test w) stay (λ x. see))
cut_peek test w stay see s g = elim (look test w) as (λ o. Cut w (when o stay (λ x. see))) [ None ↦ s | Some x ↦ g ]

pub expect_cut : {X : Type 0} (test : Lexeme → Option X) (w : List Lexeme) → Cut w (expect test w)
unfolding expect
expect_cut test w = cut_look test w (refuse Syntax w) (λ x v. Ok (x, v)) ([], w, refl, refl) (λ x v. ([], refl))

pub expect_same : {X : Type 0} (kept : Cause → Type 0) (limit : ℕ) (test : Lexeme → Option X) → Same kept limit (expect test) (expect test)
unfolding expect
expect_same kept limit test = same_look kept limit test (refuse Syntax) (refuse Syntax) (λ x w. Ok (x, w)) (λ x w. Ok (x, w)) (same_refuse kept limit Syntax) (λ n lt x. same_ok kept n x) (λ x w. ([], refl))
