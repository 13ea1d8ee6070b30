-- A loop that cuts a text into tokens.
use Rattle.std.proofs.Common.{◌≡◌, ℕ, ◌+◌, ◌-◌, ◌<◌, ◌≤◌, List, [], ◌∷◌, ◌++◌, length, get_or, drop, true, false, Option, Some, None, refl, sym, ap, subst, ◌∙◌, append_assoc, add-one, arith, drop-cons}
use Rattle.std.proofs.lemmas.List.{append-nil, drop_all, length-drop, length-append, drop-drop}
use Rattle.std.proofs.Math.Seq.{drop-append_seam}
use Rattle.sql_tokens.specs.declared.byte.Class.{Class}
use Rattle.sql_tokens.specs.declared.byte.Class.TheVariants.{Blank, Letter, Digit, Quote, Apostrophe, Other}
use Rattle.sql_tokens.specs.Lexeme.{Mark, Lexeme, token}
use Rattle.sql_tokens.specs.Byte.{class_of, is_blank}
use Rattle.sql_tokens.specs.Spelling.{IsToken, word, quoted, digits, point, string, one, two, IsLongest, BeginsNone, Splits, stops, blank, next}
use Rattle.sql_tokens.specs.Reads.{token_at}
use Rattle.sql_tokens.proofs.Marks.{takes, reach}

pub blank_is : (c : Class) → is_blank c ≡ true → c ≡ Blank
blank_is Blank h = refl
blank_is Letter h = absurd cc
blank_is Digit h = absurd cc
blank_is Quote h = absurd cc
blank_is Apostrophe h = absurd cc
blank_is Other h = absurd cc

pub longest : (front w : List ℕ) (m : Mark) → token_at (front ++ w) ≡ Some (m, w) → IsLongest front w
longest front w m h u v n e tok =
    let r = reach u v n tok in
    let same : ◌≡◌ {A = Option (Mark × List ℕ)} (Some (m, w)) (Some r.0) = sym h ∙ ap token_at e ∙ r.1 in
    let pair : ◌≡◌ {A = Mark × List ℕ} (m, w) r.0 = cc in
    let rest : w ≡ r.0.1 = ap (λ (x : Mark × List ℕ). x.1) pair in
    let l : length front + length w ≡ length u + length v = sym (length-append front w) ∙ ap length e ∙ length-append u v in
    omega (arith, l, ap length rest, r.2)

pub none_begins : (w : List ℕ) → token_at w ≡ None → ((b : ℕ) (v : List ℕ) → w ≡ b ∷ v → class_of b ≡ Blank → ⊥) → BeginsNone w
none_begins w h not_blank = (
  λ u v m e tok.
      let r = reach u v m tok in
      let same : ◌≡◌ {A = Option (Mark × List ℕ)} None (Some r.0) = sym h ∙ ap token_at e ∙ r.1 in
      cc,
  not_blank,
)

pub token_long : (front : List ℕ) (m : Mark) → IsToken front m → 0 < length front
token_long front m (word c each) = omega arith
token_long front m (quoted each) = omega arith
token_long front m (digits c each) = omega arith
token_long front m (point d w f c each each_f) = omega arith
token_long front m (string s) = omega arith
token_long front m (one c h) = omega arith
token_long front m (two c h) = omega arith

pub nothing_at_end : token_at [] ≡ None
unfolding token_at
nothing_at_end = refl

at_place : (text : List ℕ) (i : ℕ) → i < length text → drop i text ≡ get_or text i 0 ∷ drop (i + 1) text
at_place text i lt = rw (add-one, drop-cons text i 0 lt)

-- what is left to cut completes what was cut
abbrev pub Completes : List ℕ → ℕ → List Lexeme → Type 0
Completes text at out = (ts : List Lexeme) (r : List ℕ) → Splits at (drop at text) ts r → Splits 0 text (out ++ ts) r

module _ (text : List ℕ) (at : ℕ) (out : List Lexeme) (lt : at < length text) where
  pub past_blank : is_blank (class_of (get_or text at 0)) ≡ true → Completes text at out → Completes text (at + 1) out
  past_blank b so_far ts r h = so_far ts r (rw (at_place text at lt) (blank (blank_is (class_of (get_or text at 0)) b) h))

  pub no_more : is_blank (class_of (get_or text at 0)) ≡ false → token_at (drop at text) ≡ None → Completes text at out → Splits 0 text out (drop at text)
  no_more b none so_far =
      let not_blank : (c : ℕ) (v : List ℕ) → drop at text ≡ c ∷ v → class_of c ≡ Blank → ⊥ = λ c v e k.
      let i : get_or text at 0 ∷ drop (at + 1) text ≡ c ∷ v = sym (at_place text at lt) ∙ e in
      let c-is : get_or text at 0 ≡ c = cc in
      let t : is_blank (class_of (get_or text at 0)) ≡ true = ap (λ x. is_blank (class_of x)) c-is ∙ ap is_blank k in
      cc in
      subst (λ ts. Splits 0 text ts (drop at text)) (append-nil out) (so_far [] (drop at text) (stops (none_begins (drop at text) none not_blank)))

  -- behind a token
  pub past_token : (m : Mark) (behind : List ℕ) → token_at (drop at text) ≡ Some (m, behind) → Completes text at out
      → (Completes text (length text - length behind) (out ++ (token at m ∷ []))) × (at < length text - length behind) × (length behind ≤ length text)
  past_token m behind h so_far =
      let t = takes (drop at text) (m, behind) h in
      let l : length text - at ≡ length t.0 + length behind = sym (length-drop at text) ∙ ap length t.1 ∙ length-append t.0 behind in
      let place : length text - length behind ≡ at + length t.0 = omega (arith, l) in
      let rest : drop (length text - length behind) text ≡ behind = ap (λ n. drop n text) place ∙ sym (drop-drop (length t.0) at text) ∙ ap (drop (length t.0)) t.1 ∙ drop-append_seam t.0 behind in
      let again : token_at (t.0 ++ behind) ≡ Some (m, behind) = ap token_at (sym t.1) ∙ h in (
        λ ts r k.
            let here : Splits (at + length t.0) behind ts r = subst (λ s. Splits (at + length t.0) s ts r) rest (subst (λ n. Splits n (drop (length text - length behind) text) ts r) place k) in
            rw (append_assoc out (token at m ∷ []) ts) (so_far (token at m ∷ ts) r (rw t.1 (next t.2 (longest t.0 behind m again) here))),
        omega (arith, place, token_long t.0 m t.2),
        omega (arith, l),
      )

pub at_end : (text : List ℕ) (at : ℕ) (out : List Lexeme) → length text ≤ at → Completes text at out → Splits 0 text out (drop at text)
at_end text at out le so_far =
    let none : drop at text ≡ [] = drop_all at text le in
    subst (λ ts. Splits 0 text ts (drop at text)) (append-nil out) (so_far [] (drop at text) (stops (rw none (none_begins [] nothing_at_end (λ b v e k. absurd cc)))))
