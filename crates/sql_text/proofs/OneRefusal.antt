-- A list of tokens has one refusal.
use Rattle.std.proofs.Common.{◌≡◌, ℕ, ◌<◌, ◌≤◌, List, [], ◌∷◌, ◌++◌, length, ◌⊎◌, inl, inr, refl, sym, ap, subst, ◌∙◌, append_assoc, arith}
use Rattle.std.proofs.lemmas.List.{append_cancel_left}
use Rattle.std.proofs.lemmas.Bool.{cases_lt}
use Rattle.sql_tokens.specs.Lexeme.{Lexeme, token, FIXED, NAME, NUMBER, STRING}
use Rattle.sql_text.specs.declared.fault.Cause.{Cause}
use Rattle.sql_text.specs.declared.fault.Cause.TheVariants.{Syntax, TooDeep, TooLarge}
use Rattle.sql_text.specs.declared.fault.Stop.{Stop}
use Rattle.sql_text.specs.Number.{is_small, any_number}
use Rattle.sql_text.specs.Rule.{Language}
use Rattle.sql_text.specs.Grammar.{query}
use Rattle.sql_text.specs.Sentence.{Begins, IsSentence, IsAnySentence, IsLimitAt, IsCause, IsRefused}
use Rattle.sql_text.proofs.RuleFine.{is_grow}

front_begins : {A : Type 0} (L : Language A) (u v : List Lexeme) → Begins L (u ++ v) → Begins L u
front_begins L u v h = (v ++ h.0, h.1, subst (λ s. L s h.1) (append_assoc u v h.0) h.2)

within_any : (n : ℕ) (u : List Lexeme) → Begins (IsSentence n) u → Begins IsAnySentence u
within_any n u h = (h.0, h.1, (n, is_grow is_small any_number (λ _ _ _. refl) n n (omega arith) query (u ++ h.0) h.1 h.2))

same_front : (u v s t : List Lexeme) → u ++ v ≡ s ++ t → length u ≡ length s → u ≡ s
same_front [] v [] t e l = refl
same_front [] v (b ∷ s) t e l = absurd (omega arith)
same_front (a ∷ u) v [] t e l = absurd (omega arith)
same_front (a ∷ u) v (b ∷ s) t e l = let i : a ≡ b = cc in let k : u ++ v ≡ s ++ t = cc in let j : u ≡ s = same_front u v s t k (omega arith) in cc

-- the longer front has the next token of the shorter one
record Next (u v s : List Lexeme) : Type 0 where
  x : Lexeme
  d : List Lexeme
  r : List Lexeme
  front : s ≡ u ++ (x ∷ d)
  rest : v ≡ x ∷ r

next : (u v s t : List Lexeme) → u ++ v ≡ s ++ t → length u < length s → Next u v s
next [] v [] t e l = absurd (omega arith)
next [] v (b ∷ s) t e l = record { x = b; d = s; r = s ++ t; front = refl; rest = e }
next (a ∷ u) v [] t e l = absurd (omega arith)
next (a ∷ u) v (b ∷ s) t e l =
    let i : a ≡ b = cc in
    let k : u ++ v ≡ s ++ t = cc in
    let n = next u v s t k (omega arith) in
    record { x = n.x; d = n.d; r = n.r; front = ap (λ c. c ∷ s) (sym i) ∙ ap (λ f. a ∷ f) n.front; rest = n.rest }

-- nothing that goes on from a refusal begins a sentence
no_longer : (n : ℕ) (c : Cause) (front rest : List Lexeme) (x : Lexeme) (r : List Lexeme) → IsCause n c front rest → rest ≡ x ∷ r → Begins (IsSentence n) (front ++ (x ∷ [])) → ⊥
no_longer n Syntax front rest x r h e b = h x r e (within_any n (front ++ (x ∷ [])) b)
no_longer n TooDeep front rest x r h e b =
    let k : h.0 ∷ h.1 ≡ x ∷ r = sym h.2 ∙ e in
    let i : x ≡ h.0 = cc in
    h.5 (subst (λ y. Begins (IsSentence n) (front ++ (y ∷ []))) i b)
no_longer n TooLarge front rest x r h e b =
    let k : h.0 ∷ h.1 ≡ x ∷ r = sym h.2 ∙ e in
    let i : x ≡ h.0 = cc in
    h.5 (subst (λ y. Begins (IsSentence n) (front ++ (y ∷ []))) i b)

module _ (n : ℕ) (w : List Lexeme) where
  not_longer : (e f : Stop) (h : IsRefused n w e) (k : IsRefused n w f) → length h.front < length k.front → ⊥
  not_longer e f h k l =
      let m = next h.front h.rest k.front k.rest (sym h.parts ∙ k.parts) l in
      let b : Begins (IsSentence n) ((h.front ++ (m.x ∷ [])) ++ m.d) = subst (Begins (IsSentence n)) (m.front ∙ sym (append_assoc h.front (m.x ∷ []) m.d)) k.begins in
      no_longer n e.cause h.front h.rest m.x m.r h.cause m.rest (front_begins (IsSentence n) (h.front ++ (m.x ∷ [])) m.d b)

  same_length : (e f : Stop) (h : IsRefused n w e) (k : IsRefused n w f) → length h.front ≡ length k.front
  same_length e f h k = go (cases_lt (length h.front) (length k.front)) (cases_lt (length k.front) (length h.front))
    where
      go : (length h.front < length k.front) ⊎ (length k.front ≤ length h.front) → (length k.front < length h.front) ⊎ (length h.front ≤ length k.front) → length h.front ≡ length k.front
      go (inl a) b = absurd (not_longer e f h k a)
      go (inr a) (inl b) = absurd (not_longer f e k h b)
      go (inr a) (inr b) = omega arith

not_both : (x : Lexeme) → IsLimitAt TooDeep x → IsLimitAt TooLarge x → ⊥
not_both (token p (FIXED f)) a b = b
not_both (token p (NAME s)) a b = a
not_both (token p (NUMBER k c)) a b = a
not_both (token p (STRING s)) a b = a

same_cause : (n : ℕ) (c d : Cause) (front rest : List Lexeme) → IsCause n c front rest → IsCause n d front rest → c ≡ d
same_cause n Syntax Syntax front rest h k = refl
same_cause n TooDeep TooDeep front rest h k = refl
same_cause n TooLarge TooLarge front rest h k = refl
same_cause n Syntax TooDeep front rest h k = absurd (h k.0 k.1 k.2 k.4)
same_cause n Syntax TooLarge front rest h k = absurd (h k.0 k.1 k.2 k.4)
same_cause n TooDeep Syntax front rest h k = absurd (k h.0 h.1 h.2 h.4)
same_cause n TooLarge Syntax front rest h k = absurd (k h.0 h.1 h.2 h.4)
same_cause n TooDeep TooLarge front rest h k =
    let e : h.0 ∷ h.1 ≡ k.0 ∷ k.1 = sym h.2 ∙ k.2 in
    let i : h.0 ≡ k.0 = cc in
    absurd (not_both k.0 (subst (IsLimitAt TooDeep) i h.3) k.3)
same_cause n TooLarge TooDeep front rest h k =
    let e : h.0 ∷ h.1 ≡ k.0 ∷ k.1 = sym h.2 ∙ k.2 in
    let i : k.0 ≡ h.0 = cc in
    absurd (not_both h.0 (subst (IsLimitAt TooDeep) i k.3) h.3)

pub one_refusal : (n : ℕ) (w : List Lexeme) (e f : Stop) → IsRefused n w e → IsRefused n w f → e ≡ f
one_refusal n w e f h k =
    let l = same_length n w e f h k in
    let parts : h.front ++ h.rest ≡ k.front ++ k.rest = sym h.parts ∙ k.parts in
    let fronts : h.front ≡ k.front = same_front h.front h.rest k.front k.rest parts l in
    let rests : h.rest ≡ k.rest = append_cancel_left k.front h.rest k.rest (subst (λ r. r ++ h.rest ≡ k.front ++ k.rest) fronts parts) in
    let lefts : e.left ≡ f.left = h.left ∙ ap length rests ∙ sym k.left in
    let causes : e.cause ≡ f.cause = same_cause n e.cause f.cause k.front k.rest (subst (λ r. IsCause n e.cause k.front r) rests (subst (λ r. IsCause n e.cause r h.rest) fronts h.cause)) k.cause in
    ap (λ (c : Cause). record { cause = c; left = e.left }) causes ∙ ap (λ (m : ℕ). record { cause = f.cause; left = m }) lefts
