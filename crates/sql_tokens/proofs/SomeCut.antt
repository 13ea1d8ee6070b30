-- Each text has a list of tokens.
use Rattle.std.proofs.Common.{◌≡◌, ℕ, zero, suc, ◌+◌, ◌≤◌, List, [], ◌∷◌, ◌++◌, length, Bool, true, false, Option, Some, None, refl, sym, ap, ◌∙◌, arith}
use Rattle.std.proofs.lemmas.List.{length-append}
use Rattle.sql_tokens.specs.Lexeme.{Mark, Lexeme, token}
use Rattle.sql_tokens.specs.Byte.{class_of, is_blank}
use Rattle.sql_tokens.specs.CutLaws.{IsCut}
use Rattle.sql_tokens.specs.Spelling.{Splits, stops, blank, next}
use Rattle.sql_tokens.specs.Reads.{token_at}
use Rattle.sql_tokens.proofs.Marks.{Takes, takes}
use Rattle.sql_tokens.proofs.Cutting.{blank_is, longest, none_begins, nothing_at_end, token_long}

Cut : ℕ → List ℕ → Type 0
Cut at w = (ts : List Lexeme) × (rest : List ℕ) × Splits at w ts rest

-- a front that was read is a token, and no longer front is one
behind : (at : ℕ) (w : List ℕ) (m : Mark) (rest : List ℕ) → token_at w ≡ Some (m, rest) → (t : Takes w (m, rest)) → Cut (at + length t.0) rest → Cut at w
unfolding Cut
behind at w m rest h t c =
    let again : token_at (t.0 ++ rest) ≡ Some (m, rest) = ap token_at (sym t.1) ∙ h in
    (token at m ∷ c.0, c.1, rw t.1 (next t.2 (longest t.0 rest m again) c.2))

-- by a number of bytes that is not passed
cut : (most at : ℕ) (w : List ℕ) → length w ≤ most → Cut at w
unfolding Cut
cut most at [] le = ([], [], stops (none_begins [] nothing_at_end (λ b v e k. absurd cc)))
cut zero at (b ∷ w) le = absurd (omega arith)
cut (suc most) at (b ∷ w) le =
    go (cut most (at + 1) w (omega (arith, le))) (λ m rest h. let t = takes (b ∷ w) (m, rest) h in
    let l : suc (length w) ≡ length t.0 + length rest = ap length t.1 ∙ length-append t.0 rest in
    behind at (b ∷ w) m rest h t (cut most (at + length t.0) rest (omega (arith, le, l, token_long t.0 m t.2))))
    (is_blank (class_of b)) refl (token_at (b ∷ w)) refl
  where
    go : Cut (at + 1) w → ((m : Mark) (rest : List ℕ) → token_at (b ∷ w) ≡ Some (m, rest) → Cut at (b ∷ w)) → (t : Bool) → is_blank (class_of b) ≡ t → (o : Option (Mark × List ℕ)) → token_at (b ∷ w) ≡ o → Cut at (b ∷ w)
    go further token_read true t o h = (further.0, further.1, blank (blank_is (class_of b) t) further.2)
    go further token_read false t None h = (
      [],
      b ∷ w,
      stops (none_begins (b ∷ w) h (λ c v e k.
          let same : b ≡ c = cc in
          let is : is_blank (class_of b) ≡ true = ap (λ x. is_blank (class_of x)) same ∙ ap is_blank k in
          cc)),
    )
    go further token_read false t (Some x) h = token_read x.0 x.1 h

pub some_cut : IsCut
unfolding Cut
some_cut text = cut (length text) 0 text (omega arith)
