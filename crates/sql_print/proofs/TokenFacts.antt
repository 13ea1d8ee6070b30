-- What the tokens of a text say: names can be written again, and the last digit of a fraction counts.
use Rattle.std.proofs.Common.{◌≡◌, ℕ, zero, suc, ◌+◌, ◌-◌, ◌*◌, ◌^◌, ◌%◌, ◌<◌, ◌≤◌, List, [], ◌∷◌, ◌++◌, length, take, reverse, Bool, true, false, cond, eqb, leb, ◌&&◌, Option, Some, None, ◌⊎◌, inl, inr, refl, sym, ap, subst, ◌∙◌, append_assoc, arith}
use Rattle.std.specs.Prelude.{is_none}
use Rattle.std.specs.List.{prefix_len}
use Rattle.std.proofs.lemmas.Bool.{eqb-true, eq-eqb}
use Rattle.std.proofs.lemmas.Bool.Decides.{leb_tells}
use Rattle.std.proofs.lemmas.List.{append-nil, reverse-append, reverse-reverse, take_all}
use Rattle.sql_tokens.specs.declared.byte.Class.{Class}
use Rattle.sql_tokens.specs.declared.byte.Class.TheVariants.{Blank, Letter, Digit, Quote, Apostrophe, Other}
use Rattle.sql_tokens.specs.declared.token.Fixed.{Fixed}
use Rattle.sql_tokens.specs.Lexeme.{Mark, FIXED, NAME, NUMBER, STRING, Lexeme}
use Rattle.sql_tokens.specs.Byte.{class_of, is_letter, in_word, in_number, in_quotes, is_zero, Each}
use Rattle.sql_tokens.specs.Spelling.{keyword_of, keyword_or, word_of, is_plain_name, value_from, trimmed, held, number_mark, IsToken, word, quoted, digits, point, string, one, two, Splits, stops, blank, next}
use Rattle.sql_tokens.proofs.Marks.{each_taken, prefix_len-each}
use Rattle.sql_tokens.proofs.Units.{value_from-append, held_small, held_large}
use Rattle.sql_print.specs.Printed.{name_text}
use Rattle.sql_print.proofs.Back.{marks_of}
use Rattle.sql_print.proofs.ExprBack.{AllOk}
use Rattle.sql_print.proofs.Spelled.{Follow, no_letter, Safe, Any, safe_cases, Cuts, cuts_less, cuts_word, cuts_quoted}
use Rattle.sql_print.proofs.Numerals.{KeepsLast, Counts, counted}

abbrev pub Quotable : List ℕ → Type 0
Quotable [] = ⊥
Quotable (b ∷ w) = Each in_quotes (b ∷ w)

abbrev pub NameOk : List ℕ → Type 0
NameOk s = (is_plain_name s ≡ true) ⊎ Quotable s

abbrev pub MarkOk : Mark → Type 0
MarkOk (FIXED f) = Unit {0}
MarkOk (NAME s) = NameOk s
MarkOk (NUMBER None c) = Unit {0}
MarkOk (NUMBER (Some u) c) = (u ≤ 2 ^ 63) × KeepsLast u c
MarkOk (STRING s) = Unit {0}

-- ---- numbers

each_push : (p : ℕ → Bool) (s : List ℕ) (b : ℕ) → Each p s → p b ≡ true → Each p (s ++ (b ∷ []))
each_push p [] b h k = (k, tt)
each_push p (c ∷ s) b h k = (h.0, each_push p s b h.1 k)

each_reverse : (p : ℕ → Bool) (s : List ℕ) → Each p s → Each p (reverse s)
each_reverse p [] h = tt
each_reverse p (b ∷ s) h = subst (Each p) (sym (reverse-append (b ∷ []) s)) (each_push p (reverse s) b (each_reverse p s h.1) h.0)

trimmed_counts : (f : List ℕ) → Each in_number f → Counts (trimmed f)
unfolding trimmed
trimmed_counts f each =
    subst (λ r. Counts (take (length r - prefix_len is_zero (reverse f)) r)) (reverse-reverse f) (counted (reverse f) (each_reverse in_number f each))

keeps_none : (u n : ℕ) → n ≡ 0 → KeepsLast u n
keeps_none u zero e = tt
keeps_none u (suc n) e = absurd (omega arith)

keeps_some : (u n : ℕ) → 0 < u % 10 → KeepsLast u n
keeps_some u zero h = tt
keeps_some u (suc n) h = h

value_last : (w g : List ℕ) (d : ℕ) → value_from 0 (w ++ (g ++ (d ∷ []))) ≡ 10 * value_from 0 (w ++ g) + (d - 48)
unfolding value_from
value_last w g d = ap (value_from 0) (sym (append_assoc w g (d ∷ []))) ∙ value_from-append 0 (w ++ g) (d ∷ [])

keeps : (w t : List ℕ) → Counts t → KeepsLast (value_from 0 (w ++ t)) (length t)
unfolding Counts
keeps w t (inl e) = keeps_none (value_from 0 (w ++ t)) (length t) (ap length e)
keeps w t (inr h) =
    let v : ℕ = value_from 0 (w ++ h.0) in
    let e : value_from 0 (w ++ t) ≡ 10 * v + (h.1 - 48) = ap (λ x. value_from 0 (w ++ x)) h.2 ∙ value_last w h.0 h.1 in
    keeps_some (value_from 0 (w ++ t)) (length t) (rw e (omega (arith, h.3, h.4)))

number_ok : (w f : List ℕ) → Each in_number f → MarkOk (number_mark w f)
unfolding number_mark
number_ok w f each = go (leb_tells (value_from 0 (w ++ trimmed f)) (2 ^ 63))
  where
    v : ℕ
    v = value_from 0 (w ++ trimmed f)

    go : ((leb (value_from 0 (w ++ trimmed f)) (2 ^ 63) ≡ true) × (value_from 0 (w ++ trimmed f) ≤ 2 ^ 63)) ⊎ ((leb (value_from 0 (w ++ trimmed f)) (2 ^ 63) ≡ false) × (2 ^ 63 < value_from 0 (w ++ trimmed f)))
        → MarkOk (NUMBER (held (value_from 0 (w ++ trimmed f))) (length (trimmed f)))
    go (inl h) = subst (λ o. MarkOk (NUMBER o (length (trimmed f)))) (sym (held_small (value_from 0 (w ++ trimmed f)) h.1)) (h.1, keeps w (trimmed f) (trimmed_counts f each))
    go (inr h) = subst (λ o. MarkOk (NUMBER o (length (trimmed f)))) (sym (held_large (value_from 0 (w ++ trimmed f)) h.1)) tt

-- ---- names

three : (x y z : Bool) → x ≡ true → y ≡ true → z ≡ true → (x && y && z) ≡ true
three x y z e f g = rw (e, f, g) refl

plain_is : (b : ℕ) (w : List ℕ) → class_of b ≡ Letter → Each in_word (b ∷ w) → keyword_of (b ∷ w) ≡ None → is_plain_name (b ∷ w) ≡ true
plain_is b w c each e =
    let n : prefix_len in_word (b ∷ w) ≡ length (b ∷ w) = ap (prefix_len in_word) (sym (append-nil (b ∷ w))) ∙ prefix_len-each in_word (b ∷ w) [] each ∙ omega arith in
    three (is_letter (class_of b)) (eqb (prefix_len in_word (b ∷ w)) (length (b ∷ w))) (is_none (keyword_of (b ∷ w))) (ap is_letter c) (eq-eqb (prefix_len in_word (b ∷ w)) (length (b ∷ w)) n) (ap is_none e)

word_ok : (b : ℕ) (w : List ℕ) → class_of b ≡ Letter → Each in_word (b ∷ w) → MarkOk (word_of (b ∷ w))
unfolding word_of
word_ok b w c each = go (keyword_of (b ∷ w)) refl
  where
    go : (o : Option Fixed) → keyword_of (b ∷ w) ≡ o → MarkOk (keyword_or (b ∷ w) o)
    go None e = inl (plain_is b w c each e)
    go (Some k) e = tt

token_ok : (t : List ℕ) (m : Mark) → IsToken t m → MarkOk m
token_ok t m (word {b} {w} c each) = word_ok b w c each
token_ok t m (quoted {b} {w} each) = inr each
token_ok t m (digits {b} {w} c each) = number_ok (b ∷ w) [] tt
token_ok t m (point {b} c w f cl each each_f) = number_ok (b ∷ w) (c ∷ f) each_f
token_ok t m (string s) = tt
token_ok t m (one c h) = tt
token_ok t m (two c h) = tt

pub all_ok : {at : ℕ} {w : List ℕ} {ts : List Lexeme} {r : List ℕ} → Splits at w ts r → AllOk MarkOk (marks_of ts)
all_ok (stops n) = tt
all_ok (blank c h) = all_ok h
all_ok (next {front} {m} tok long h) = (token_ok front m tok, all_ok h)

-- ---- the printed form of a name

and_left : (a b : Bool) → (a && b) ≡ true → a ≡ true
and_left true b h = refl
and_left false b h = absurd cc

and_right : (a b : Bool) → (a && b) ≡ true → b ≡ true
and_right true b h = h
and_right false b h = absurd cc

letter_is : (c : Class) → is_letter c ≡ true → c ≡ Letter
letter_is Letter e = refl
letter_is Digit e = absurd cc
letter_is Blank e = absurd cc
letter_is Quote e = absurd cc
letter_is Apostrophe e = absurd cc
letter_is Other e = absurd cc

none_is : (o : Option Fixed) → is_none o ≡ true → o ≡ None
none_is None e = refl
none_is (Some k) e = absurd cc

each_whole : (p : ℕ → Bool) (s : List ℕ) → prefix_len p s ≡ length s → Each p s
each_whole p s e = subst (Each p) (ap (λ n. take n s) e ∙ take_all (length s) s (omega arith)) (each_taken p s)

pub safe_letter : (w : List ℕ) → Safe w → Follow no_letter w
safe_letter [] h = tt
safe_letter (c ∷ w) h = safe_cases (λ c. no_letter c ≡ true) refl refl refl c h

plain_cut : (s : List ℕ) → is_plain_name s ≡ true → Cuts Safe s (NAME s ∷ [])
unfolding word_of
plain_cut [] h = absurd cc
plain_cut (b ∷ w) h =
    let first = and_left (is_letter (class_of b) && eqb (prefix_len in_word (b ∷ w)) (length (b ∷ w))) (is_none (keyword_of (b ∷ w))) h in
    let letter = letter_is (class_of b) (and_left (is_letter (class_of b)) (eqb (prefix_len in_word (b ∷ w)) (length (b ∷ w))) first) in
    let whole = eqb-true (prefix_len in_word (b ∷ w)) (length (b ∷ w)) (and_right (is_letter (class_of b)) (eqb (prefix_len in_word (b ∷ w)) (length (b ∷ w))) first) in
    let none = none_is (keyword_of (b ∷ w)) (and_right (is_letter (class_of b) && eqb (prefix_len in_word (b ∷ w)) (length (b ∷ w))) (is_none (keyword_of (b ∷ w))) h) in
    cuts_less (Follow no_letter) Safe (b ∷ w) (NAME (b ∷ w) ∷ []) safe_letter (cuts_word b w (NAME (b ∷ w)) letter (each_whole in_word (b ∷ w) whole) (ap (keyword_or (b ∷ w)) none))

pub name_cut : (s : List ℕ) → NameOk s → Cuts Safe (name_text s) (NAME s ∷ [])
name_cut s ok = go (is_plain_name s) refl ok
  where
    quoted_cut : (s : List ℕ) → Quotable s → Cuts Safe (34 ∷ (s ++ (34 ∷ []))) (NAME s ∷ [])
    quoted_cut [] h = elim h [ ]
    quoted_cut (b ∷ w) h = cuts_less Any Safe (34 ∷ ((b ∷ w) ++ (34 ∷ []))) (NAME (b ∷ w) ∷ []) (λ v k. tt) (cuts_quoted b w h)

    go : (t : Bool) → is_plain_name s ≡ t → NameOk s → Cuts Safe (cond t s (34 ∷ (s ++ (34 ∷ [])))) (NAME s ∷ [])
    go true e k = plain_cut s e
    go false e (inr k) = quoted_cut s k
    go false e (inl k) = let i : false ≡ true = sym e ∙ k in absurd cc
