-- The printed form of a query of a text is a text.
use Rattle.std.proofs.Common.{◌≡◌, ℕ, zero, suc, ◌+◌, ◌<◌, ◌≤◌, List, [], ◌∷◌, ◌++◌, length, take, drop, get_or, Bool, true, false, cond, not, eqb, ltb, ◌&&◌, Option, Some, None, ◌⊎◌, inl, inr, refl, sym, ap, subst, ◌∙◌, append_assoc, add-one, arith}
use Rattle.std.specs.Prelude.{IsUtf8, IsAscii}
use Rattle.std.proofs.lemmas.Bool.{eqb-true, ne_eqb, lt-ltb, ltb-true, cases_lt}
use Rattle.std.proofs.lemmas.List.{length-append, take-append-le, take_all}
use Rattle.std.proofs.lemmas.Str.{IsUtf8-append, IsUtf8-nil, IsUtf8-take, IsUtf8-drop, IsUtf8-from_ascii, IsCharBoundary-before_ascii, IsCharBoundary-after_ascii}
use Rattle.sql_tokens.specs.declared.byte.Class.{Class}
use Rattle.sql_tokens.specs.declared.byte.Class.TheVariants.{Blank, Other}
use Rattle.sql_tokens.specs.declared.token.Fixed.{Fixed}
use Rattle.sql_tokens.specs.declared.token.Fixed.TheVariants as fixed
use Rattle.sql_tokens.specs.Lexeme.{Mark, FIXED, NAME, NUMBER, STRING, Lexeme}
use Rattle.sql_tokens.specs.Byte.{class_of, joins_word, is_digit, in_word, in_number, in_quotes, Each}
use Rattle.sql_tokens.specs.Spelling.{keyword_of, keyword_or, word_of, doubled, number_mark, one_sign, two_sign, IsToken, word, quoted, digits, point, string, one, two, Splits, stops, blank, next}
use Rattle.sql_print.proofs.Back.{marks_of}
use Rattle.sql_print.proofs.ExprBack.{AllOk}

-- ---- bytes of ASCII

abbrev pub AllBelow : List ℕ → Type 0
AllBelow [] = Unit {0}
AllBelow (b ∷ s) = (b < 128) × AllBelow s

below_ascii : (s : List ℕ) → AllBelow s → IsAscii s
below_ascii [] h i = omega arith
below_ascii (b ∷ s) h zero = h.0
below_ascii (b ∷ s) h (suc i) = below_ascii s h.1 i

pub ascii_text : (s : List ℕ) → AllBelow s → IsUtf8 s
ascii_text s h = IsUtf8-from_ascii s (below_ascii s h)

pub below_append : (s t : List ℕ) → AllBelow s → AllBelow t → AllBelow (s ++ t)
below_append [] t h k = k
below_append (b ∷ s) t h k = (h.0, below_append s t h.1 k)

pub below_each : (p : ℕ → Bool) → ((b : ℕ) → p b ≡ true → b < 128) → (s : List ℕ) → Each p s → AllBelow s
below_each p f [] h = tt
below_each p f (b ∷ s) h = (f b h.0, below_each p f s h.1)

abbrev pub all_below : List ℕ → Bool
all_below [] = true
all_below (b ∷ s) = ltb b 128 && all_below s

below_from : (s : List ℕ) → all_below s ≡ true → AllBelow s
below_from [] h = tt
below_from (b ∷ s) h = go (λ k. below_from s k) (ltb b 128) refl h
  where
    go : (all_below s ≡ true → AllBelow s) → (t : Bool) → ltb b 128 ≡ t → (t && all_below s) ≡ true → AllBelow (b ∷ s)
    go rest true e k = (ltb-true b 128 e, rest k)
    go rest false e k = absurd cc

-- a text that is written out
pub literal : (s : List ℕ) → all_below s ≡ true → IsUtf8 s
literal s h = ascii_text s (below_from s h)

-- ---- texts in two parts

at_seam : (a s : List ℕ) (b : ℕ) → get_or (a ++ (b ∷ s)) (length a) 0 ≡ b
at_seam [] s b = refl
at_seam (c ∷ a) s b = at_seam a s b

past_seam : (a s : List ℕ) (b : ℕ) → drop (suc (length a)) (a ++ (b ∷ s)) ≡ s
past_seam [] s b = refl
past_seam (c ∷ a) s b = past_seam a s b

split_text : (a s : List ℕ) (b : ℕ) → b < 128 → IsUtf8 (a ++ (b ∷ s)) → IsUtf8 a × IsUtf8 s
split_text a s b small u =
    let bs : List ℕ = a ++ (b ∷ s) in
    let n : ℕ = length a in
    let l : length bs ≡ n + suc (length s) = length-append a (b ∷ s) in
    let lt : n < length bs = omega (arith, l) in
    let byte : get_or bs n 0 < 128 = rw (at_seam a s b) small in
    let front : take n bs ≡ a = take-append-le n a (b ∷ s) (omega arith) ∙ take_all n a (omega arith) in
    let rest : drop (n + 1) bs ≡ s = rw add-one (past_seam a s b) in
    (subst IsUtf8 front (IsUtf8-take bs n u (IsCharBoundary-before_ascii bs n lt byte)), subst IsUtf8 rest (IsUtf8-drop bs (n + 1) u (IsCharBoundary-after_ascii bs n u lt byte)))

join_text : (a s : List ℕ) (b : ℕ) → b < 128 → IsUtf8 a → IsUtf8 s → IsUtf8 (a ++ (b ∷ s))
join_text a s b small ua us = IsUtf8-append a (b ∷ s) ua (IsUtf8-append (b ∷ []) s (ascii_text (b ∷ []) (small, tt)) us)

below_drop : (f w : List ℕ) → AllBelow f → IsUtf8 (f ++ w) → IsUtf8 w
below_drop [] w h u = u
below_drop (b ∷ f) w h u = below_drop f w h.1 (split_text [] (f ++ w) b h.0 u).1

undoubled : (s a : List ℕ) → IsUtf8 (a ++ doubled s) → IsUtf8 (a ++ s)
undoubled [] a u = u
undoubled (b ∷ s) a u = go (λ k. undoubled s [] k) (λ k. undoubled s (a ++ (b ∷ [])) k) (eqb b 39) refl u
  where
    go : (IsUtf8 (doubled s) → IsUtf8 s) → (IsUtf8 ((a ++ (b ∷ [])) ++ doubled s) → IsUtf8 ((a ++ (b ∷ [])) ++ s)) → (t : Bool) → eqb b 39 ≡ t → IsUtf8 (a ++ cond t (39 ∷ (39 ∷ doubled s)) (b ∷ doubled s)) → IsUtf8 (a ++ (b ∷ s))
    go alone more true e u =
        let i : b ≡ 39 = eqb-true b 39 e in
        let k = split_text a (39 ∷ doubled s) 39 (omega arith) u in
        let l = split_text [] (doubled s) 39 (omega arith) k.1 in
        join_text a s b (omega (arith, i)) k.0 (alone l.1)
    go alone more false e u = subst IsUtf8 (append_assoc a (b ∷ []) s) (more (subst IsUtf8 (sym (append_assoc a (b ∷ []) (doubled s))) u))

pub doubled_text : (s a : List ℕ) → IsUtf8 (a ++ s) → IsUtf8 (a ++ doubled s)
doubled_text [] a u = u
doubled_text (b ∷ s) a u = go (λ k. doubled_text s [] k) (λ k. doubled_text s (a ++ (b ∷ [])) k) (eqb b 39) refl u
  where
    go : (IsUtf8 s → IsUtf8 (doubled s)) → (IsUtf8 ((a ++ (b ∷ [])) ++ s) → IsUtf8 ((a ++ (b ∷ [])) ++ doubled s)) → (t : Bool) → eqb b 39 ≡ t → IsUtf8 (a ++ (b ∷ s)) → IsUtf8 (a ++ cond t (39 ∷ (39 ∷ doubled s)) (b ∷ doubled s))
    go alone more true e u =
        let i : b ≡ 39 = eqb-true b 39 e in
        let k = split_text a s b (omega (arith, i)) u in
        join_text a (39 ∷ doubled s) 39 (omega arith) k.0 (join_text [] (doubled s) 39 (omega arith) IsUtf8-nil (alone k.1))
    go alone more false e u = subst IsUtf8 (append_assoc a (b ∷ []) (doubled s)) (more (subst IsUtf8 (sym (append_assoc a (b ∷ []) s)) u))

-- ---- tokens

high_class : (b : ℕ) → 128 ≤ b → class_of b ≡ Other
unfolding class_of
high_class b h =
    let differs : (k : ℕ) → k < 128 → eqb b k ≡ false = λ k lt. ne_eqb b k (λ e. omega (arith, e)) in
    let above : (k : ℕ) → k < 128 → ltb k b ≡ true = λ k lt. lt-ltb k b (omega arith) in
    let under : (k : ℕ) → k < 128 → ltb b k ≡ false = λ k lt. not_less b k (omega arith) in
    rw (differs 32 (omega arith), differs 9 (omega arith), differs 10 (omega arith), differs 13 (omega arith), under 65 (omega arith), above 90 (omega arith), under 97 (omega arith), above 122 (omega arith), differs 95 (omega arith), under 48 (omega arith), above 57 (omega arith), differs 34 (omega arith), differs 39 (omega arith)) refl
  where
    not_less : (a c : ℕ) → c ≤ a → ltb a c ≡ false
    not_less a c le = go (ltb a c) refl
      where
        go : (t : Bool) → ltb a c ≡ t → t ≡ false
        go false e = refl
        go true e = let lt = ltb-true a c e in absurd (omega (arith, lt))

class_below : (b : ℕ) (c : Class) → class_of b ≡ c → (c ≡ Other → ⊥) → b < 128
class_below b c e f = go (cases_lt b 128)
  where
    go : (b < 128) ⊎ (128 ≤ b) → b < 128
    go (inl lt) = lt
    go (inr le) = absurd (f (sym e ∙ high_class b le))

word_below : (b : ℕ) → in_word b ≡ true → b < 128
word_below b h = class_below b (class_of b) refl (λ e. let k : joins_word Other ≡ true = ap joins_word (sym e) ∙ h in cc)

pub number_below : (b : ℕ) → in_number b ≡ true → b < 128
number_below b h = class_below b (class_of b) refl (λ e. let k : is_digit Other ≡ true = ap is_digit (sym e) ∙ h in cc)

quotes_below : (b : ℕ) → in_quotes b ≡ true → b < 128
quotes_below b h = go (cases_lt b 128)
  where
    out : 128 ≤ b → in_quotes b ≡ false
    out le = rw (lt-ltb 126 b (omega arith)) (none (not (ltb b 32)))
      where
        none : (x : Bool) → ((x && false) && not (eqb b 34)) ≡ false
        none true = refl
        none false = refl

    go : (b < 128) ⊎ (128 ≤ b) → b < 128
    go (inl lt) = lt
    go (inr le) = let k : false ≡ true = sym (out le) ∙ h in absurd cc

one_below : (b : ℕ) (k : Fixed) → one_sign b ≡ Some k → b < 128
unfolding one_sign
one_below b k h = go (cases_lt b 128)
  where
    differs : 128 ≤ b → (j : ℕ) → j < 128 → eqb b j ≡ false
    differs le j lt = ne_eqb b j (λ e. omega (arith, e))

    none : 128 ≤ b → one_sign b ≡ None
    none le = rw (differs le 40 (omega arith), differs le 41 (omega arith), differs le 44 (omega arith), differs le 42 (omega arith), differs le 43 (omega arith), differs le 45 (omega arith), differs le 59 (omega arith), differs le 61 (omega arith), differs le 60 (omega arith), differs le 62 (omega arith)) refl

    go : (b < 128) ⊎ (128 ≤ b) → b < 128
    go (inl lt) = lt
    go (inr le) = let e : None ≡ Some k = sym (none le) ∙ h in absurd cc

two_below : (b c : ℕ) (k : Fixed) → two_sign b c ≡ Some k → (b < 128) × (c < 128)
unfolding two_sign
two_below b c k h = (first (cases_lt b 128), second (eqb c 61) (eqb c 62) refl refl)
  where
    differs : 128 ≤ b → (j : ℕ) → j < 128 → eqb b j ≡ false
    differs le j lt = ne_eqb b j (λ e. omega (arith, e))

    none : 128 ≤ b → two_sign b c ≡ None
    none le = rw (differs le 60 (omega arith), differs le 33 (omega arith), differs le 62 (omega arith)) refl

    first : (b < 128) ⊎ (128 ≤ b) → b < 128
    first (inl lt) = lt
    first (inr le) = let e : None ≡ Some k = sym (none le) ∙ h in absurd cc

    neither : (x y z : Bool) → ◌≡◌ {A = Option Fixed} (cond (x && false) (Some fixed.LessEqual) (cond (x && false) (Some fixed.NotEqual) (cond (y && false) (Some fixed.NotEqual) (cond (z && false) (Some fixed.GreaterEqual) None)))) None
    neither true true true = refl
    neither true true false = refl
    neither true false true = refl
    neither true false false = refl
    neither false true true = refl
    neither false true false = refl
    neither false false true = refl
    neither false false false = refl

    second : (p q : Bool) → eqb c 61 ≡ p → eqb c 62 ≡ q → c < 128
    second true q e f = let i : c ≡ 61 = eqb-true c 61 e in omega (arith, i)
    second false true e f = let i : c ≡ 62 = eqb-true c 62 f in omega (arith, i)
    second false false e f =
        let i : two_sign b c ≡ None = rw (e, f) (neither (eqb b 60) (eqb b 33) (eqb b 62)) in
        let j : None ≡ Some k = sym i ∙ h in
        absurd cc

abbrev pub Utf8Ok : Mark → Type 0
Utf8Ok (FIXED f) = Unit {0}
Utf8Ok (NAME s) = IsUtf8 s
Utf8Ok (NUMBER u c) = Unit {0}
Utf8Ok (STRING s) = IsUtf8 s

word_text : (b : ℕ) (w : List ℕ) → AllBelow (b ∷ w) → Utf8Ok (word_of (b ∷ w))
unfolding word_of
word_text b w h = go (keyword_of (b ∷ w))
  where
    go : (o : Option Fixed) → Utf8Ok (keyword_or (b ∷ w) o)
    go None = ascii_text (b ∷ w) h
    go (Some k) = tt

number_text : (w f : List ℕ) → Utf8Ok (number_mark w f)
unfolding number_mark
number_text w f = tt

token_text : (t w : List ℕ) (m : Mark) → IsToken t m → IsUtf8 (t ++ w) → Utf8Ok m × IsUtf8 w
unfolding class_of
token_text t v m (word {b} {w} c each) u = let h = below_each in_word word_below (b ∷ w) each in (word_text b w h, below_drop (b ∷ w) v h u)
token_text t v m (quoted {b} {w} each) u =
    let h = below_each in_quotes quotes_below (b ∷ w) each in
    (ascii_text (b ∷ w) h, below_drop (34 ∷ (b ∷ (w ++ (34 ∷ [])))) v (omega arith, (h.0, below_append w (34 ∷ []) h.1 (omega arith, tt))) u)
token_text t v m (digits {b} {w} c each) u = (number_text (b ∷ w) [], below_drop (b ∷ w) v (below_each in_number number_below (b ∷ w) each) u)
token_text t v m (point {b} c w f cl each each_f) u =
    let h = below_each in_number number_below (b ∷ w) each in
    let k = below_each in_number number_below (c ∷ f) each_f in
    (number_text (b ∷ w) (c ∷ f), below_drop (b ∷ (w ++ (46 ∷ (c ∷ f)))) v (h.0, below_append w (46 ∷ (c ∷ f)) h.1 (omega arith, k)) u)
token_text t v m (string s) u =
    let k = split_text [] ((doubled s ++ (39 ∷ [])) ++ v) 39 (omega arith) u in
    let l = split_text (doubled s) v 39 (omega arith) (subst IsUtf8 (append_assoc (doubled s) (39 ∷ []) v) k.1) in
    (undoubled s [] l.0, l.1)
token_text t v m (one {b} {k} c h) u = (tt, below_drop (b ∷ []) v (one_below b k h, tt) u)
token_text t v m (two {b} {c} {k} cl h) u = let l = two_below b c k h in (tt, below_drop (b ∷ (c ∷ [])) v (l.0, (l.1, tt)) u)

pub all_text : {at : ℕ} {w : List ℕ} {ts : List Lexeme} {r : List ℕ} → Splits at w ts r → IsUtf8 w → AllOk Utf8Ok (marks_of ts)
all_text (stops n) u = tt
all_text (blank {b} {w} c h) u = all_text h (split_text [] w b (class_below b Blank c (λ e. cc)) u).1
all_text (next {front} {w} {m} tok long h) u = let k = token_text front w m tok u in (k.0, all_text h k.1)
