-- A loop over the parts of a chain.
use Rattle.std.proofs.Common.{◌≡◌, ℕ, zero, suc, ◌+◌, ◌-◌, ◌<◌, ◌≤◌, List, Result, Ok, Err, Option, Some, None, refl, sym, ◌∙◌, arith}
use Rattle.sql_tokens.specs.Lexeme.{Lexeme}
use Rattle.sql_text.specs.declared.fault.Stop.{Stop}
use Rattle.sql_text.specs.declared.fault.Refusal.{Refusal}
use Rattle.sql_text.specs.declared.fault.Refusal.TheVariants as refusals
use Rattle.sql_text.specs.Reading.{Reader, Fails, look, chain, turns}

pub turns-is : turns ≡ 4097
unfolding turns
turns-is = refl

module _ {A B X : Type 0} (separator : Lexeme → Option X) (join : A → X → B → A) (part : Reader B) where
  pub goes_on : (i : ℕ) (a : A) (w : List Lexeme) (x : X) (behind : List Lexeme) (b : B) (rest : List Lexeme) (total : Result (A × List Lexeme) Stop) → i < turns
      → look separator w ≡ Some (x, behind) → part behind ≡ Ok (b, rest)
      → chain (turns - i) separator join part a w ≡ total → chain (turns - (i + 1)) separator join part (join a x b) rest ≡ total
  unfolding chain
  goes_on i a w x behind b rest total lt found read so_far =
      let k : turns - i ≡ suc (turns - (i + 1)) = omega arith in
      let one : chain (turns - i) separator join part a w ≡ chain (turns - (i + 1)) separator join part (join a x b) rest = rw (k, found, read) refl in
      sym one ∙ so_far

  pub fails : (e : Refusal) (i : ℕ) (a : A) (w : List Lexeme) (x : X) (behind : List Lexeme) (total : Result (A × List Lexeme) Stop) → i < turns
      → look separator w ≡ Some (x, behind) → Fails e (part behind)
      → chain (turns - i) separator join part a w ≡ total → Fails e total
  unfolding chain
  fails refusals.Memory i a w x behind total lt found read so_far = tt
  fails (refusals.Stop f) i a w x behind total lt found read so_far =
      let k : turns - i ≡ suc (turns - (i + 1)) = omega arith in
      let one : chain (turns - i) separator join part a w ≡ Err f = rw (k, found, read) refl in
      sym so_far ∙ one

  pub stays : (k : ℕ) (a : A) (w : List Lexeme) → look separator w ≡ None → chain k separator join part a w ≡ Ok (a, w)
  unfolding chain
  stays zero a w none = refl
  stays (suc k) a w none = rw none refl

  pub ends : (i : ℕ) (a : A) (w : List Lexeme) (total : Result (A × List Lexeme) Stop)
      → look separator w ≡ None → chain (turns - i) separator join part a w ≡ total → total ≡ Ok (a, w)
  ends i a w total none so_far = sym so_far ∙ stays (turns - i) a w none

  pub is_done : (i : ℕ) (a : A) (w : List Lexeme) (total : Result (A × List Lexeme) Stop) → turns ≤ i
      → chain (turns - i) separator join part a w ≡ total → total ≡ Ok (a, w)
  unfolding chain
  is_done i a w total le so_far =
      let k : turns - i ≡ 0 = omega arith in
      let one : chain (turns - i) separator join part a w ≡ Ok (a, w) = rw k refl in
      sym so_far ∙ one
