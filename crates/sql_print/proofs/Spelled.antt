-- A text that is cut into tokens of given marks, whatever follows that cannot lengthen it.
use Rattle.std.proofs.Common.{◌≡◌, ℕ, ◌+◌, List, [], ◌∷◌, ◌++◌, length, take, drop, Bool, true, false, cond, eqb, ◌||◌, Some, None, refl, sym, ap, subst, ◌∙◌, append_assoc, arith}
use Rattle.std.specs.List.{prefix_len}
use Rattle.std.proofs.lemmas.Bool.{eqb-true}
use Rattle.std.proofs.lemmas.List.{append-nil, map-append, length-append, append_cancel_right}
use Rattle.std.proofs.Math.Seq.{take-append-add, drop-append-add}
use Rattle.sql_tokens.specs.declared.byte.Class.TheVariants.{Letter, Other}
use Rattle.sql_tokens.specs.declared.token.Fixed.{Fixed}
use Rattle.sql_tokens.specs.Lexeme.{Mark, FIXED, NAME, STRING, Lexeme, token}
use Rattle.sql_tokens.specs.Byte.{class_of, in_word, in_quotes, Each}
use Rattle.sql_tokens.specs.Spelling.{word_of, doubled, one_sign, two_sign, IsToken, Splits, blank, next}
use Rattle.sql_tokens.specs.Reads.{as_string, string_from, closed_at, sign_at, by_class, token_at}
use Rattle.sql_tokens.proofs.Marks.{takes, prefix_len-each}
use Rattle.sql_tokens.proofs.Cutting.{longest}
use Rattle.sql_print.proofs.Back.{mark_at, marks_of}

-- ---- what follows

abbrev pub Follow : (ℕ → Bool) → List ℕ → Type 0
Follow p [] = Unit {0}
Follow p (c ∷ w) = p c ≡ true

-- a blank, `)` or `,`
abbrev pub is_safe : ℕ → Bool
is_safe c = eqb c 32 || eqb c 41 || eqb c 44

abbrev pub Safe : List ℕ → Type 0
Safe w = Follow is_safe w

-- these, or `(`
abbrev pub no_letter : ℕ → Bool
no_letter c = eqb c 40 || is_safe c

abbrev pub Any : List ℕ → Type 0
Any w = Unit {0}

pub safe_cases : (P : ℕ → Type 0) → P 32 → P 41 → P 44 → (c : ℕ) → is_safe c ≡ true → P c
safe_cases P a b d c h = go (eqb c 32) (eqb c 41) (eqb c 44) refl refl refl h
  where
    go : (x y z : Bool) → eqb c 32 ≡ x → eqb c 41 ≡ y → eqb c 44 ≡ z → (x || y || z) ≡ true → P c
    go true y z e f g k = subst P (sym (eqb-true c 32 e)) a
    go false true z e f g k = subst P (sym (eqb-true c 41 f)) b
    go false false true e f g k = subst P (sym (eqb-true c 44 g)) d
    go false false false e f g k = absurd cc

pub open_cases : (P : ℕ → Type 0) → P 40 → P 32 → P 41 → P 44 → (c : ℕ) → no_letter c ≡ true → P c
open_cases P o a b d c h = go (eqb c 40) refl h
  where
    go : (x : Bool) → eqb c 40 ≡ x → (x || is_safe c) ≡ true → P c
    go true e k = subst P (sym (eqb-true c 40 e)) o
    go false e k = safe_cases P a b d c k

-- ---- cuts

abbrev pub Cuts : (List ℕ → Type 0) → List ℕ → List Mark → Type 0
Cuts S t ms = (at : ℕ) (w : List ℕ) (us : List Lexeme) (r : List ℕ) → S w → Splits (at + length t) w us r → (ts : List Lexeme) × (marks_of ts ≡ ms) × Splits at (t ++ w) (ts ++ us) r

pub cuts_nil : (S : List ℕ → Type 0) → Cuts S [] []
cuts_nil S at w us r s h = ([], refl, subst (λ n. Splits n w us r) (add_none at) h)
  where
    add_none : (n : ℕ) → n + 0 ≡ n
    add_none n = omega arith

pub cuts_less : (S S' : List ℕ → Type 0) (t : List ℕ) (ms : List Mark) → ((w : List ℕ) → S' w → S w) → Cuts S t ms → Cuts S' t ms
cuts_less S S' t ms f c at w us r s h = c at w us r (f w s) h

pub cuts_append : (S S' : List ℕ → Type 0) (t t' : List ℕ) (ms ms' : List Mark) → ((w : List ℕ) → S' w → S (t' ++ w)) → Cuts S t ms → Cuts S' t' ms' → Cuts S' (t ++ t') (ms ++ ms')
cuts_append S S' t t' ms ms' f c d at w us r s h =
    let place : at + length (t ++ t') ≡ (at + length t) + length t' = let l = length-append t t' in omega (arith, l) in
    let second = d (at + length t) w us r s (subst (λ n. Splits n w us r) place h) in
    let first = c at (t' ++ w) (second.0 ++ us) r (f w s) second.2 in (
      first.0 ++ second.0,
      map-append mark_at first.0 second.0 ∙ ap (λ x. x ++ marks_of second.0) first.1 ∙ ap (λ x. ms ++ x) second.1,
      subst (λ x. Splits at x ((first.0 ++ second.0) ++ us) r) (sym (append_assoc t t' w)) (subst (λ x. Splits at (t ++ (t' ++ w)) x r) (sym (append_assoc first.0 second.0 us)) first.2),
    )

pub cuts_blank : Cuts Any (32 ∷ []) []
unfolding class_of
cuts_blank at w us r s h = ([], refl, blank refl h)

pub cuts_token : (S : List ℕ → Type 0) (t : List ℕ) (m : Mark) → ((w : List ℕ) → S w → token_at (t ++ w) ≡ Some (m, w)) → Cuts S t (m ∷ [])
cuts_token S t m f at w us r s h =
    let e = f w s in
    let k = takes (t ++ w) (m, w) e in
    let same : k.0 ≡ t = sym (append_cancel_right t k.0 w k.1) in
    (token at m ∷ [], refl, next (subst (λ x. IsToken x m) same k.2) (longest t w m e) h)

-- ---- words, signs and strings

abbrev pub NotFirst : (ℕ → Bool) → List ℕ → Type 0
NotFirst p [] = Unit {0}
NotFirst p (c ∷ w) = p c ≡ false

module _ (p : ℕ → Bool) where
  none_first : (w : List ℕ) → NotFirst p w → prefix_len p w ≡ 0
  none_first [] h = refl
  none_first (c ∷ w) h = rw h refl

  pub exact_len : (u w : List ℕ) → Each p u → NotFirst p w → prefix_len p (u ++ w) ≡ length u + 0
  exact_len u w each h = prefix_len-each p u w each ∙ ap (λ n. length u + n) (none_first w h)

  pub front_is : (u w : List ℕ) → Each p u → NotFirst p w → take (prefix_len p (u ++ w)) (u ++ w) ≡ u
  front_is u w each h = ap (λ n. take n (u ++ w)) (exact_len u w each h) ∙ take-append-add u w 0 ∙ append-nil u

  pub rest_is : (u w : List ℕ) → Each p u → NotFirst p w → drop (prefix_len p (u ++ w)) (u ++ w) ≡ w
  rest_is u w each h = ap (λ n. drop n (u ++ w)) (exact_len u w each h) ∙ drop-append-add u w 0

not_word : (w : List ℕ) → Follow no_letter w → NotFirst in_word w
unfolding class_of
not_word [] h = tt
not_word (c ∷ w) h = open_cases (λ c. in_word c ≡ false) refl refl refl refl c h

word_exact : (b : ℕ) (u w : List ℕ) → class_of b ≡ Letter → Each in_word (b ∷ u) → Follow no_letter w → token_at ((b ∷ u) ++ w) ≡ Some (word_of (b ∷ u), w)
unfolding token_at
word_exact b u w c each h =
    ap (λ k. by_class k b (u ++ w)) c
    ∙ ap (λ (s : List ℕ). Some (word_of s, drop (prefix_len in_word ((b ∷ u) ++ w)) ((b ∷ u) ++ w))) (front_is in_word (b ∷ u) w each (not_word w h))
    ∙ ap (λ (s : List ℕ). Some (word_of (b ∷ u), s)) (rest_is in_word (b ∷ u) w each (not_word w h))

pub cuts_word : (b : ℕ) (u : List ℕ) (m : Mark) → class_of b ≡ Letter → Each in_word (b ∷ u) → word_of (b ∷ u) ≡ m → Cuts (Follow no_letter) (b ∷ u) (m ∷ [])
cuts_word b u m c each e = cuts_token (Follow no_letter) (b ∷ u) m (λ w h. word_exact b u w c each h ∙ ap (λ (x : Mark). Some (x, w)) e)

one_exact : (b : ℕ) (k : Fixed) (w : List ℕ) → class_of b ≡ Other → one_sign b ≡ Some k → ((c : ℕ) (v : List ℕ) → w ≡ c ∷ v → two_sign b c ≡ None) → token_at (b ∷ w) ≡ Some (FIXED k, w)
unfolding token_at sign_at
one_exact b k [] c h n = ap (λ j. by_class j b []) c ∙ rw h refl
one_exact b k (d ∷ v) c h n = ap (λ j. by_class j b (d ∷ v)) c ∙ rw (n d v refl, h) refl

pub cuts_sign : (S : List ℕ → Type 0) (b : ℕ) (k : Fixed) → class_of b ≡ Other → one_sign b ≡ Some k → ((w : List ℕ) → S w → (c : ℕ) (v : List ℕ) → w ≡ c ∷ v → two_sign b c ≡ None) → Cuts S (b ∷ []) (FIXED k ∷ [])
cuts_sign S b k c h f = cuts_token S (b ∷ []) (FIXED k) (λ w s. one_exact b k w c h (f w s))

two_exact : (b c : ℕ) (k : Fixed) (w : List ℕ) → class_of b ≡ Other → two_sign b c ≡ Some k → token_at (b ∷ (c ∷ w)) ≡ Some (FIXED k, w)
unfolding token_at sign_at
two_exact b c k w cl h = ap (λ j. by_class j b (c ∷ w)) cl ∙ rw h refl

pub cuts_two : (b c : ℕ) (k : Fixed) → class_of b ≡ Other → two_sign b c ≡ Some k → Cuts Any (b ∷ (c ∷ [])) (FIXED k ∷ [])
cuts_two b c k cl h = cuts_token Any (b ∷ (c ∷ [])) (FIXED k) (λ w s. two_exact b c k w cl h)

string_from_exact : (s w : List ℕ) → Safe w → string_from false (doubled s ++ (39 ∷ w)) ≡ Some (s, w)
unfolding string_from
string_from_exact [] [] h = refl
string_from_exact [] (c ∷ w) h = safe_cases (λ c. string_from false (39 ∷ (c ∷ w)) ≡ Some ([], c ∷ w)) refl refl refl c h
string_from_exact (b ∷ s) w h = go (string_from_exact s w h) (eqb b 39) refl
  where
    go : string_from false (doubled s ++ (39 ∷ w)) ≡ Some (s, w) → (t : Bool) → eqb b 39 ≡ t → string_from false (cond t (39 ∷ (39 ∷ doubled s)) (b ∷ doubled s) ++ (39 ∷ w)) ≡ Some (b ∷ s, w)
    go ih true q = rw (ih, eqb-true b 39 q) refl
    go ih false q = rw (q, ih) refl

string_exact : (s w : List ℕ) → Safe w → token_at (39 ∷ ((doubled s ++ (39 ∷ [])) ++ w)) ≡ Some (STRING s, w)
unfolding token_at class_of
string_exact s w h = ap (λ r. as_string (string_from false r)) (append_assoc (doubled s) (39 ∷ []) w) ∙ ap as_string (string_from_exact s w h)

pub cuts_string : (s : List ℕ) → Cuts Safe (39 ∷ (doubled s ++ (39 ∷ []))) (STRING s ∷ [])
cuts_string s = cuts_token Safe (39 ∷ (doubled s ++ (39 ∷ []))) (STRING s) (string_exact s)

quoted_exact : (b : ℕ) (w v : List ℕ) → Each in_quotes (b ∷ w) → token_at (34 ∷ ((b ∷ (w ++ (34 ∷ []))) ++ v)) ≡ Some (NAME (b ∷ w), v)
unfolding token_at class_of closed_at
quoted_exact b w v each =
    let t : List ℕ = (b ∷ w) ++ (34 ∷ v) in
    let e : (b ∷ (w ++ (34 ∷ []))) ++ v ≡ t = ap (λ (s : List ℕ). b ∷ s) (append_assoc w (34 ∷ []) v) in
    let front : take (prefix_len in_quotes t) t ≡ b ∷ w = front_is in_quotes (b ∷ w) (34 ∷ v) each refl in
    let rest : drop (prefix_len in_quotes t) t ≡ 34 ∷ v = rest_is in_quotes (b ∷ w) (34 ∷ v) each refl in
    ap (λ s. closed_at (take (prefix_len in_quotes s) s) (drop (prefix_len in_quotes s) s)) e ∙ ap (λ s. closed_at s (drop (prefix_len in_quotes t) t)) front ∙ ap (closed_at (b ∷ w)) rest

pub cuts_quoted : (b : ℕ) (w : List ℕ) → Each in_quotes (b ∷ w) → Cuts Any (34 ∷ ((b ∷ w) ++ (34 ∷ []))) (NAME (b ∷ w) ∷ [])
cuts_quoted b w each = cuts_token Any (34 ∷ ((b ∷ w) ++ (34 ∷ []))) (NAME (b ∷ w)) (λ v s. quoted_exact b w v each)
