-- What is in a language is read, whatever follows that cannot belong to it.
use Rattle.std.proofs.Common.{◌≡◌, ℕ, zero, suc, ◌+◌, ◌≤◌, List, ◌∷◌, ◌++◌, length, Ok, Option, Some, None, refl, ap, ◌∙◌, append_assoc, arith}
use Rattle.std.proofs.lemmas.List.{length-append}
use Rattle.sql_tokens.specs.Lexeme.{Lexeme}
use Rattle.sql_text.specs.Rule.{Language, Chain, start, further}
use Rattle.sql_text.specs.Reading.{◌>>=◌, Reader, look, chain}

abbrev pub Whole : {A : Type 0} → ℕ → Reader A → Language A → (List Lexeme → Type 0) → Type 0
Whole {A} m p L stops = (u rest : List Lexeme) (a : A) → length u ≤ m → L u a → stops rest → p (u ++ rest) ≡ Ok (a, rest)

module _ {A B X : Type 0} (m : ℕ) (separator : Lexeme → Option X) (first : B → A) (join : A → X → B → A) (P : Language B) (part : Reader B) (stops : List Lexeme → Type 0)
    (separates : (t : Lexeme) (x : X) (w : List Lexeme) → separator t ≡ Some x → stops (t ∷ w)) (whole : Whole m part P stops) where
  abbrev all : Reader A
  all w = part w >>= λ x. chain m separator join part (first x.0) x.1

  step : (k n : ℕ) (t : Lexeme) (x : X) (a : A) (b : B) (v rest : List Lexeme) → separator t ≡ Some x → m ≤ k + n → n + suc (length v) ≤ m → P v b → stops rest
      → (l : ℕ) × (m ≤ l + (n + suc (length v))) × (chain k separator join part a (t ∷ (v ++ rest)) ≡ chain l separator join part (join a x b) rest)
  unfolding chain look
  step zero n t x a b v rest says fuel le h s = absurd (omega arith)
  step (suc k) n t x a b v rest says fuel le h s = (k, omega arith, rw (says, whole v rest b (omega arith) h s) refl)

  chained : (u : List Lexeme) (a : A) → Chain separator first join P u a → length u ≤ m → (rest : List Lexeme) → stops rest → (k : ℕ) × (m ≤ k + length u) × (all (u ++ rest) ≡ chain k separator join part a rest)
  chained u a (start {w} {b} h) le rest s = (m, omega arith, rw (whole w rest b le h s) refl)
  chained u' a' (further {u} {v} {t} {x} {a} {b} says c h) le rest s =
      let len : length (u ++ (t ∷ v)) ≡ length u + suc (length v) = length-append u (t ∷ v) in
      let ih = chained u a c (omega (arith, len, le)) (t ∷ (v ++ rest)) (separates t x (v ++ rest) says) in
      let go = step ih.0 (length u) t x a b v rest says ih.1 (omega (arith, len, le)) h s in
      (go.0, omega (arith, go.1, len), ap all (append_assoc u (t ∷ v) rest) ∙ ih.2 ∙ go.2)

  stays : (k : ℕ) (a : A) (w : List Lexeme) → look separator w ≡ None → chain k separator join part a w ≡ Ok (a, w)
  unfolding chain
  stays zero a w none = refl
  stays (suc k) a w none = rw none refl

  pub chain_whole : Whole m all (Chain separator first join P) (λ rest. stops rest × (look separator rest ≡ None))
  chain_whole u rest a le c s =
      let k = chained u a c le rest s.0 in
      k.2 ∙ stays k.0 a rest s.1
