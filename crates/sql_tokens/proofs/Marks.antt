-- What reads one token: what it takes is a token, and it takes at least as much as each token that stands there.
use Rattle.std.proofs.Common.{◌≡◌, ℕ, zero, suc, ◌+◌, ◌<◌, ◌≤◌, List, [], ◌∷◌, ◌++◌, length, take, drop, Bool, true, false, cond, eqb, ltb, ◌||◌, ◌&&◌, Option, Some, None, refl, sym, ap, subst, ◌∙◌, append_assoc, arith}
use Rattle.std.specs.List.{prefix_len}
use Rattle.std.proofs.lemmas.Bool.{eqb-true, lt-ltb}
use Rattle.std.proofs.lemmas.List.{append-nil, drop_all, take-append-drop, length-drop, length-append}
use Rattle.std.proofs.Math.Seq.{take-append-add, drop-append-add}
use Rattle.sql_tokens.specs.declared.token.Fixed.{Fixed}
use Rattle.sql_tokens.specs.declared.byte.Class.{Class}
use Rattle.sql_tokens.specs.declared.byte.Class.TheVariants.{Blank, Letter, Digit, Quote, Apostrophe, Other}
use Rattle.sql_tokens.specs.Lexeme.{Mark, FIXED, NAME, STRING}
use Rattle.sql_tokens.specs.Byte.{class_of, joins_word, is_digit, in_word, in_number, in_quotes, Each, within}
use Rattle.sql_tokens.specs.Spelling.{doubled, word_of, one_sign, two_sign, number_mark, IsToken, word, quoted, digits, point, string, one, two}
use Rattle.sql_tokens.specs.Reads.{grows, or_else, as_string, marked, string_from, sign_at, closed_at, fraction_at, number_at, by_class, token_at}

-- ---- runs

one-plus : (n : ℕ) → 1 + n ≡ suc n
one-plus n = omega arith

some_is : {A : Type 0} (x y : A) → Some x ≡ Some y → x ≡ y
some_is x y e = cc

module _ (p : ℕ → Bool) where
  pub each_taken : (t : List ℕ) → Each p (take (prefix_len p t) t)
  each_taken [] = tt
  each_taken (b ∷ w) = go (each_taken w) (p b) refl
    where
      go : Each p (take (prefix_len p w) w) → (v : Bool) → p b ≡ v → Each p (take (cond v (1 + prefix_len p w) 0) (b ∷ w))
      go ih true h = rw (one-plus (prefix_len p w)) (h, ih)
      go ih false h = tt

  length-take_prefix : (t : List ℕ) → length (take (prefix_len p t) t) ≡ prefix_len p t
  length-take_prefix [] = refl
  length-take_prefix (b ∷ w) = go (length-take_prefix w) (p b)
    where
      go : length (take (prefix_len p w) w) ≡ prefix_len p w → (v : Bool) → length (take (cond v (1 + prefix_len p w) 0) (b ∷ w)) ≡ cond v (1 + prefix_len p w) 0
      go ih true = rw (one-plus (prefix_len p w)) (ap suc ih)
      go ih false = refl

  pub prefix_len-each : (u v : List ℕ) → Each p u → prefix_len p (u ++ v) ≡ length u + prefix_len p v
  prefix_len-each [] v h = omega arith
  prefix_len-each (b ∷ u) v h =
      let ih = prefix_len-each u v h.1 in
      rw (h.0, ih) (omega arith)

  prefix_len-first : (b : ℕ) (w : List ℕ) → p b ≡ true → prefix_len p (b ∷ w) ≡ suc (prefix_len p w)
  prefix_len-first b w h = rw h (one-plus (prefix_len p w))

  -- a run that stands there is read, or a longer one
  run : (u v : List ℕ) → Each p u → (k : ℕ) × (take (prefix_len p (u ++ v)) (u ++ v) ≡ u ++ take k v) × (drop (prefix_len p (u ++ v)) (u ++ v) ≡ drop k v)
  run u v h =
      let n = prefix_len-each u v h in
      (prefix_len p v, rw (n, take-append-add u v (prefix_len p v)) refl, rw (n, drop-append-add u v (prefix_len p v)) refl)

no_bytes : (s : List ℕ) → length s ≡ 0 → s ≡ []
no_bytes [] h = refl
no_bytes (b ∷ s) h = absurd (omega arith)

drop_none : (k : ℕ) (v : List ℕ) → drop k v ≡ v → take k v ≡ []
drop_none k v e =
    let all : take k v ++ v ≡ v = ap (λ s. take k v ++ s) (sym e) ∙ take-append-drop k v in
    let l : length (take k v) + length v ≡ length v = sym (length-append (take k v) v) ∙ ap length all in
    no_bytes (take k v) (omega (arith, l))

drop_same : (k : ℕ) (v : List ℕ) → length (drop k v) ≡ length v → drop k v ≡ v
drop_same k [] e = drop_all k [] (omega arith)
drop_same zero (b ∷ v) e = refl
drop_same (suc k) (b ∷ v) e = absurd (omega (arith, e, length-drop k v))

-- ---- strings

Spelled : List ℕ → List ℕ × List ℕ → Type 0
Spelled w x = w ≡ doubled x.0 ++ (39 ∷ x.1)

string_takes : (e : Bool) (w : List ℕ) (x : List ℕ × List ℕ) → string_from e w ≡ Some x → Spelled (cond e (39 ∷ w) w) x
unfolding string_from Spelled
string_takes false [] x h = absurd cc
string_takes true [] x h = subst (λ (y : List ℕ × List ℕ). (39 ∷ []) ≡ doubled y.0 ++ (39 ∷ y.1)) (some_is ([], []) x h) refl
string_takes false (b ∷ w) x h = go (λ y k. string_takes true w y k) (λ y k. string_takes false w y k) (eqb b 39) refl h
  where
    plain : eqb b 39 ≡ false → (o : Option (List ℕ × List ℕ)) → ((y : List ℕ × List ℕ) → o ≡ Some y → Spelled w y) → grows b o ≡ Some x → Spelled (b ∷ w) x
    plain q None ih k = absurd cc
    plain q (Some y) ih k = subst (λ (z : List ℕ × List ℕ). (b ∷ w) ≡ doubled z.0 ++ (39 ∷ z.1)) (some_is (b ∷ y.0, y.1) x k) (rw q (ap (λ (s : List ℕ). b ∷ s) (ih y refl)))

    go : ((y : List ℕ × List ℕ) → string_from true w ≡ Some y → Spelled (39 ∷ w) y) → ((y : List ℕ × List ℕ) → string_from false w ≡ Some y → Spelled w y)
        → (t : Bool) → eqb b 39 ≡ t → cond t (string_from true w) (grows b (string_from false w)) ≡ Some x → Spelled (b ∷ w) x
    go ended ih true q k = subst (λ c. (c ∷ w) ≡ doubled x.0 ++ (39 ∷ x.1)) (sym (eqb-true b 39 q)) (ended x k)
    go ended ih false q k = plain q (string_from false w) ih k
string_takes true (b ∷ w) x h = go (λ y k. string_takes false w y k) (eqb b 39) refl h
  where
    over : Some ([], b ∷ w) ≡ Some x → Spelled (39 ∷ (b ∷ w)) x
    over k = subst (λ (z : List ℕ × List ℕ). (39 ∷ (b ∷ w)) ≡ doubled z.0 ++ (39 ∷ z.1)) (some_is ([], b ∷ w) x k) refl

    twice : b ≡ 39 → (o : Option (List ℕ × List ℕ)) → ((y : List ℕ × List ℕ) → o ≡ Some y → Spelled w y) → or_else (grows 39 o) (Some ([], b ∷ w)) ≡ Some x → Spelled (39 ∷ (b ∷ w)) x
    twice q None ih k = over k
    twice q (Some y) ih k = subst (λ (z : List ℕ × List ℕ). (39 ∷ (b ∷ w)) ≡ doubled z.0 ++ (39 ∷ z.1)) (some_is (39 ∷ y.0, y.1) x k) (rw q (ap (λ (s : List ℕ). 39 ∷ (39 ∷ s)) (ih y refl)))

    go : ((y : List ℕ × List ℕ) → string_from false w ≡ Some y → Spelled w y) → (t : Bool) → eqb b 39 ≡ t → cond t (or_else (grows 39 (string_from false w)) (Some ([], b ∷ w))) (Some ([], b ∷ w)) ≡ Some x → Spelled (39 ∷ (b ∷ w)) x
    go ih true q k = twice (eqb-true b 39 q) (string_from false w) ih k
    go ih false q k = over k

spelled : (w : List ℕ) (x : List ℕ × List ℕ) → string_from false w ≡ Some x → w ≡ doubled x.0 ++ (39 ∷ x.1)
unfolding Spelled
spelled w x h = string_takes false w x h

string_shorter : (w : List ℕ) (x : List ℕ × List ℕ) → string_from false w ≡ Some x → length x.1 < length w
unfolding Spelled
string_shorter w x h =
    let e = string_takes false w x h in
    let l : length w ≡ length (doubled x.0) + suc (length x.1) = ap length e ∙ length-append (doubled x.0) (39 ∷ x.1) in
    omega (arith, l)

-- the string s ends where it may, or later
Reaches : List ℕ → List ℕ → Option (List ℕ × List ℕ) → Type 0
Reaches s v o = (x : List ℕ × List ℕ) × (o ≡ Some x) × (length x.1 ≤ length v) × (x.1 ≡ v → x.0 ≡ s)

ends_or_later : (v : List ℕ) → Reaches [] v (string_from true v)
unfolding string_from Reaches
ends_or_later [] = (([], []), refl, omega arith, λ _. refl)
ends_or_later (c ∷ v) = go (eqb c 39)
  where
    twice : (o : Option (List ℕ × List ℕ)) → ((y : List ℕ × List ℕ) → o ≡ Some y → length y.1 < length v) → Reaches [] (c ∷ v) (or_else (grows 39 o) (Some ([], c ∷ v)))
    twice None ih = (([], c ∷ v), refl, omega arith, λ _. refl)
    twice (Some y) ih =
        let less : length y.1 < length v = ih y refl in
        ((39 ∷ y.0, y.1), refl, omega arith, λ e. let l : length y.1 ≡ suc (length v) = ap length e in absurd (omega arith))

    go : (t : Bool) → Reaches [] (c ∷ v) (cond t (or_else (grows 39 (string_from false v)) (Some ([], c ∷ v))) (Some ([], c ∷ v)))
    go true = twice (string_from false v) (string_shorter v)
    go false = (([], c ∷ v), refl, omega arith, λ _. refl)

string_reach : (s v : List ℕ) → Reaches s v (string_from false (doubled s ++ (39 ∷ v)))
unfolding string_from Reaches
string_reach [] v = ends_or_later v
string_reach (b ∷ s) v = go (string_reach s v) (eqb b 39) refl
  where
    go : Reaches s v (string_from false (doubled s ++ (39 ∷ v))) → (t : Bool) → eqb b 39 ≡ t → Reaches (b ∷ s) v (string_from false (cond t (39 ∷ (39 ∷ doubled s)) (b ∷ doubled s) ++ (39 ∷ v)))
    go ih true q = ((39 ∷ ih.0.0, ih.0.1), rw ih.1 refl, ih.2, λ e. rw (eqb-true b 39 q) (ap (λ (r : List ℕ). 39 ∷ r) (ih.3 e)))
    go ih false q = ((b ∷ ih.0.0, ih.0.1), rw (q, ih.1) refl, ih.2, λ e. ap (λ (r : List ℕ). b ∷ r) (ih.3 e))

-- ---- one token

-- what is read of w: a token of its front
abbrev pub Takes : List ℕ → Mark × List ℕ → Type 0
Takes w x = (front : List ℕ) × (w ≡ front ++ x.1) × IsToken front x.0

chosen : (t1 t2 t3 t4 t5 : Bool) → Class
chosen t1 t2 t3 t4 t5 = cond t1 Blank (cond t2 Letter (cond t3 Digit (cond t4 Quote (cond t5 Apostrophe Other))))

chosen_quote : (t1 t2 t3 t4 t5 : Bool) → chosen t1 t2 t3 t4 t5 ≡ Quote → t4 ≡ true
unfolding chosen
chosen_quote true t2 t3 t4 t5 h = absurd cc
chosen_quote false true t3 t4 t5 h = absurd cc
chosen_quote false false true t4 t5 h = absurd cc
chosen_quote false false false true t5 h = refl
chosen_quote false false false false true h = absurd cc
chosen_quote false false false false false h = absurd cc

chosen_apostrophe : (t1 t2 t3 t4 t5 : Bool) → chosen t1 t2 t3 t4 t5 ≡ Apostrophe → t5 ≡ true
unfolding chosen
chosen_apostrophe true t2 t3 t4 t5 h = absurd cc
chosen_apostrophe false true t3 t4 t5 h = absurd cc
chosen_apostrophe false false true t4 t5 h = absurd cc
chosen_apostrophe false false false true t5 h = absurd cc
chosen_apostrophe false false false false true h = refl
chosen_apostrophe false false false false false h = absurd cc

quote_is : (b : ℕ) → class_of b ≡ Quote → b ≡ 34
unfolding class_of chosen
quote_is b h = eqb-true b 34 (chosen_quote (eqb b 32 || eqb b 9 || eqb b 10 || eqb b 13) (within 65 90 b || within 97 122 b || eqb b 95) (within 48 57 b) (eqb b 34) (eqb b 39) h)

apostrophe_is : (b : ℕ) → class_of b ≡ Apostrophe → b ≡ 39
unfolding class_of chosen
apostrophe_is b h = eqb-true b 39 (chosen_apostrophe (eqb b 32 || eqb b 9 || eqb b 10 || eqb b 13) (within 65 90 b || within 97 122 b || eqb b 95) (within 48 57 b) (eqb b 34) (eqb b 39) h)

closed_takes : (name v : List ℕ) (x : Mark × List ℕ) → Each in_quotes name → closed_at name v ≡ Some x → Takes (34 ∷ (name ++ v)) x
unfolding closed_at
closed_takes [] v x each h = absurd cc
closed_takes (b ∷ name) [] x each h = absurd cc
closed_takes (b ∷ name) (c ∷ v) x each h = go (eqb c 34) refl h
  where
    go : (t : Bool) → eqb c 34 ≡ t → cond t (Some (NAME (b ∷ name), v)) None ≡ Some x → Takes (34 ∷ ((b ∷ name) ++ (c ∷ v))) x
    go true q k = subst (Takes (34 ∷ ((b ∷ name) ++ (c ∷ v)))) (some_is (NAME (b ∷ name), v) x k)
        (34 ∷ (b ∷ (name ++ (34 ∷ []))), rw (eqb-true c 34 q) (ap (λ (s : List ℕ). 34 ∷ (b ∷ s)) (sym (append_assoc name (34 ∷ []) v))), quoted each)
    go false q k = absurd cc

sign_takes : (b : ℕ) (w : List ℕ) (x : Mark × List ℕ) → class_of b ≡ Other → sign_at b w ≡ Some x → Takes (b ∷ w) x
unfolding sign_at
sign_takes b [] x cl h = go (one_sign b) refl h
  where
    go : (o : Option Fixed) → one_sign b ≡ o → marked o [] ≡ Some x → Takes (b ∷ []) x
    go None e k = absurd cc
    go (Some s) e k = subst (Takes (b ∷ [])) (some_is (FIXED s, []) x k) (b ∷ [], refl, one cl e)
sign_takes b (c ∷ w) x cl h = go (two_sign b c) refl h
  where
    single : (o : Option Fixed) → one_sign b ≡ o → marked o (c ∷ w) ≡ Some x → Takes (b ∷ (c ∷ w)) x
    single None e k = absurd cc
    single (Some s) e k = subst (Takes (b ∷ (c ∷ w))) (some_is (FIXED s, c ∷ w) x k) (b ∷ [], refl, one cl e)

    go : (o : Option Fixed) → two_sign b c ≡ o → or_else (marked o w) (marked (one_sign b) (c ∷ w)) ≡ Some x → Takes (b ∷ (c ∷ w)) x
    go None e k = single (one_sign b) refl k
    go (Some s) e k = subst (Takes (b ∷ (c ∷ w))) (some_is (FIXED s, w) x k) (b ∷ (c ∷ []), refl, two cl e)

-- what is read of a number is a token
fraction_takes : (b : ℕ) (whole rest : List ℕ) → class_of b ≡ Digit → Each in_number (b ∷ whole) → Takes ((b ∷ whole) ++ rest) (fraction_at (b ∷ whole) rest)
unfolding fraction_at
fraction_takes b whole [] cl each = (b ∷ whole, refl, digits cl each)
fraction_takes b whole (c ∷ w) cl each = go (eqb c 46) (prefix_len in_number w) refl refl (each_taken in_number w) (sym (take-append-drop (prefix_len in_number w) w))
  where
    behind : (n : ℕ) (f v : List ℕ) → c ≡ 46 → length f ≡ suc n → Each in_number f → w ≡ f ++ v → Takes (b ∷ (whole ++ (c ∷ w))) (number_mark (b ∷ whole) f, v)
    behind n [] v c-is len e parts = absurd (omega (arith, len))
    behind n (d ∷ f) v c-is len e parts = (
      b ∷ (whole ++ (46 ∷ (d ∷ f))),
      rw (c-is, parts) (ap (λ (s : List ℕ). b ∷ s) (sym (append_assoc whole (46 ∷ (d ∷ f)) v))),
      point d whole f cl each e,
    )

    none : Takes (b ∷ (whole ++ (c ∷ w))) (number_mark (b ∷ whole) [], c ∷ w)
    none = (b ∷ whole, refl, digits cl each)

    go : (t : Bool) (k : ℕ) → eqb c 46 ≡ t → prefix_len in_number w ≡ k → Each in_number (take (prefix_len in_number w) w) → w ≡ take (prefix_len in_number w) w ++ drop (prefix_len in_number w) w
        → Takes (b ∷ (whole ++ (c ∷ w))) (cond (t && ltb 0 k) (number_mark (b ∷ whole) (take k w), drop k w) (number_mark (b ∷ whole) [], c ∷ w))
    go false k e l each_f parts = none
    go true zero e l each_f parts = none
    go true (suc k) e l each_f parts =
        let len : length (take (suc k) w) ≡ suc k = rw (← l) (length-take_prefix in_number w) in
        rw (lt-ltb 0 (suc k) (omega arith)) (behind k (take (suc k) w) (drop (suc k) w) (eqb-true c 46 e) len (subst (λ j. Each in_number (take j w)) l each_f) (subst (λ j. w ≡ take j w ++ drop j w) l parts))

number_takes : (b : ℕ) (w : List ℕ) → class_of b ≡ Digit → Takes (b ∷ w) (number_at (b ∷ w))
unfolding number_at
number_takes b w cl =
    let t : List ℕ = b ∷ w in
    let n : prefix_len in_number t ≡ suc (prefix_len in_number w) = prefix_len-first in_number b w (ap is_digit cl) in
    let j : ℕ = prefix_len in_number w in
    let each : Each in_number (b ∷ take j w) = subst (λ i. Each in_number (take i t)) n (each_taken in_number t) in
    let k = fraction_takes b (take j w) (drop j w) cl each in
    let whole : t ≡ (b ∷ take j w) ++ drop j w = ap (λ (s : List ℕ). b ∷ s) (sym (take-append-drop j w)) in
    rw n (k.0, whole ∙ k.1, k.2)

takes_by : (b : ℕ) (w : List ℕ) (x : Mark × List ℕ) (c : Class) → class_of b ≡ c → by_class c b w ≡ Some x → Takes (b ∷ w) x
takes_by b w x Blank cl h = absurd cc
takes_by b w x Letter cl h =
    let t : List ℕ = b ∷ w in
    let n : prefix_len in_word t ≡ suc (prefix_len in_word w) = prefix_len-first in_word b w (ap joins_word cl) in
    let tok = subst (λ j. IsToken (take j t) (word_of (take j t))) (sym n) (word cl (subst (λ j. Each in_word (take j t)) n (each_taken in_word t))) in
    subst (Takes t) (some_is (word_of (take (prefix_len in_word t) t), drop (prefix_len in_word t) t) x h) (take (prefix_len in_word t) t, sym (take-append-drop (prefix_len in_word t) t), tok)
takes_by b w x Digit cl h = subst (Takes (b ∷ w)) (some_is (number_at (b ∷ w)) x h) (number_takes b w cl)
takes_by b w x Quote cl h =
    let n : ℕ = prefix_len in_quotes w in
    let k = closed_takes (take n w) (drop n w) x (each_taken in_quotes w) h in
    (k.0, rw (quote_is b cl) (ap (λ (s : List ℕ). 34 ∷ s) (sym (take-append-drop n w)) ∙ k.1), k.2)
takes_by b w x Apostrophe cl h = go (string_from false w) refl h
  where
    go : (o : Option (List ℕ × List ℕ)) → string_from false w ≡ o → as_string o ≡ Some x → Takes (b ∷ w) x
    go None e k = absurd cc
    go (Some y) e k = subst (Takes (b ∷ w)) (some_is (STRING y.0, y.1) x k)
        (39 ∷ (doubled y.0 ++ (39 ∷ [])), rw (apostrophe_is b cl) (ap (λ (s : List ℕ). 39 ∷ s) (spelled w y e ∙ sym (append_assoc (doubled y.0) (39 ∷ []) y.1))), string y.0)
takes_by b w x Other cl h = sign_takes b w x cl h

pub takes : (w : List ℕ) (x : Mark × List ℕ) → token_at w ≡ Some x → Takes w x
unfolding token_at
takes [] x h = absurd cc
takes (b ∷ w) x h = takes_by b w x (class_of b) refl h

pub two_read : (b c : ℕ) (k : Fixed) (v : List ℕ) → two_sign b c ≡ Some k → sign_at b (c ∷ v) ≡ Some (FIXED k, v)
unfolding sign_at
two_read b c k v h = rw h refl

-- a token that stands there is read, or a longer one
abbrev pub Reached : Mark → List ℕ → Option (Mark × List ℕ) → Type 0
Reached m v o = (x : Mark × List ℕ) × (o ≡ Some x) × (length x.1 ≤ length v) × (x.1 ≡ v → x.0 ≡ m)

one_reach : (b : ℕ) (k : Fixed) (v : List ℕ) → class_of b ≡ Other → one_sign b ≡ Some k → Reached (FIXED k) v (token_at (b ∷ v))
unfolding token_at sign_at
one_reach b k [] c h = ((FIXED k, []), ap (λ j. by_class j b []) c ∙ rw h refl, omega arith, λ _. refl)
one_reach b k (d ∷ v) c h = go (two_sign b d) refl
  where
    go : (o : Option Fixed) → two_sign b d ≡ o → Reached (FIXED k) (d ∷ v) (by_class (class_of b) b (d ∷ v))
    go None e = ((FIXED k, d ∷ v), ap (λ j. by_class j b (d ∷ v)) c ∙ rw (e, h) refl, omega arith, λ _. refl)
    go (Some s) e = ((FIXED s, v), ap (λ j. by_class j b (d ∷ v)) c ∙ rw e refl, omega arith, λ i. let l : length v ≡ suc (length v) = ap length i in absurd (omega arith))

fraction_less : (whole rest : List ℕ) → (length (fraction_at whole rest).1 ≤ length rest) × ((fraction_at whole rest).1 ≡ rest → (fraction_at whole rest).0 ≡ number_mark whole [])
unfolding fraction_at
fraction_less whole [] = (omega arith, λ _. refl)
fraction_less whole (c ∷ w) = go (eqb c 46 && ltb 0 (prefix_len in_number w))
  where
    go : (t : Bool) → let x : Mark × List ℕ = cond t (number_mark whole (take (prefix_len in_number w) w), drop (prefix_len in_number w) w) (number_mark whole [], c ∷ w) in (length x.1 ≤ suc (length w)) × (x.1 ≡ c ∷ w → x.0 ≡ number_mark whole [])
    go true = (omega (arith, length-drop (prefix_len in_number w) w), λ e. let l : length (drop (prefix_len in_number w) w) ≡ suc (length w) = ap length e in absurd (omega (arith, l, length-drop (prefix_len in_number w) w)))
    go false = (omega arith, λ _. refl)

-- the digits of a number, whatever follows
digits_reach : (b : ℕ) (w v : List ℕ) → class_of b ≡ Digit → Each in_number (b ∷ w) → Reached (number_mark (b ∷ w) []) v (token_at (b ∷ (w ++ v)))
unfolding token_at number_at
digits_reach b w v cl each =
    let r = run in_number (b ∷ w) v each in
    let k : ℕ = r.0 in
    let less = fraction_less ((b ∷ w) ++ take k v) (drop k v) in (
      fraction_at ((b ∷ w) ++ take k v) (drop k v),
      ap (λ j. by_class j b (w ++ v)) cl ∙ rw (r.1, r.2) refl,
      omega (arith, less.0, length-drop k v),
      λ e.
          let l : length (fraction_at ((b ∷ w) ++ take k v) (drop k v)).1 ≡ length v = ap length e in
          let all : drop k v ≡ v = drop_same k v (omega (arith, l, less.0, length-drop k v)) in
          less.1 (e ∙ sym all) ∙ ap (λ (s : List ℕ). number_mark ((b ∷ w) ++ s) []) (drop_none k v all) ∙ ap (λ (s : List ℕ). number_mark s []) (append-nil (b ∷ w)),
    )

fraction_reach : (whole f v : List ℕ) (n : ℕ) → length f ≡ suc n → Each in_number f → (k : ℕ) × (fraction_at whole (46 ∷ (f ++ v)) ≡ (number_mark whole (f ++ take k v), drop k v))
unfolding fraction_at
fraction_reach whole f v n len each =
    let r = run in_number f v each in
    let l : prefix_len in_number (f ++ v) ≡ suc (n + prefix_len in_number v) = prefix_len-each in_number f v each ∙ omega (arith, len) in (
      r.0,
      ap (λ (t : Bool). cond {A = Mark × List ℕ} t (number_mark whole (take (prefix_len in_number (f ++ v)) (f ++ v)), drop (prefix_len in_number (f ++ v)) (f ++ v)) (number_mark whole [], 46 ∷ (f ++ v))) (ap (ltb 0) l ∙ lt-ltb 0 (suc (n + prefix_len in_number v)) (omega arith))
          ∙ rw (r.1, r.2) refl,
    )

point_reach : (b c : ℕ) (w f v : List ℕ) → class_of b ≡ Digit → Each in_number (b ∷ w) → Each in_number (c ∷ f) → Reached (number_mark (b ∷ w) (c ∷ f)) v (token_at (b ∷ ((w ++ (46 ∷ (c ∷ f))) ++ v)))
unfolding token_at number_at class_of
point_reach b c w f v cl each each_f =
    let t : List ℕ = (b ∷ w) ++ (46 ∷ ((c ∷ f) ++ v)) in
    let e : b ∷ ((w ++ (46 ∷ (c ∷ f))) ++ v) ≡ t = ap (λ (s : List ℕ). b ∷ s) (append_assoc w (46 ∷ (c ∷ f)) v) in
    let n : prefix_len in_number t ≡ length (b ∷ w) + 0 = prefix_len-each in_number (b ∷ w) (46 ∷ ((c ∷ f) ++ v)) each in
    let front : take (prefix_len in_number t) t ≡ b ∷ w = ap (λ j. take j t) n ∙ take-append-add (b ∷ w) (46 ∷ ((c ∷ f) ++ v)) 0 ∙ append-nil (b ∷ w) in
    let rest : drop (prefix_len in_number t) t ≡ 46 ∷ ((c ∷ f) ++ v) = ap (λ j. drop j t) n ∙ drop-append-add (b ∷ w) (46 ∷ ((c ∷ f) ++ v)) 0 in
    let r = fraction_reach (b ∷ w) (c ∷ f) v (length f) refl each_f in
    let read : Some (number_at t) ≡ Some (number_mark (b ∷ w) ((c ∷ f) ++ take r.0 v), drop r.0 v) = ap Some (ap (λ s. fraction_at s (drop (prefix_len in_number t) t)) front ∙ ap (fraction_at (b ∷ w)) rest ∙ r.1) in (
      (number_mark (b ∷ w) ((c ∷ f) ++ take r.0 v), drop r.0 v),
      ap (λ j. by_class j b ((w ++ (46 ∷ (c ∷ f))) ++ v)) cl ∙ ap (λ s. Some (number_at s)) e ∙ read,
      omega (arith, length-drop r.0 v),
      λ i. ap (λ (s : List ℕ). number_mark (b ∷ w) ((c ∷ f) ++ s)) (drop_none r.0 v i) ∙ ap (number_mark (b ∷ w)) (append-nil (c ∷ f)),
    )

quoted_reach : (b : ℕ) (w v : List ℕ) → Each in_quotes (b ∷ w) → Reached (NAME (b ∷ w)) v (token_at (34 ∷ ((b ∷ (w ++ (34 ∷ []))) ++ v)))
unfolding token_at class_of closed_at
quoted_reach b w v each =
    let t : List ℕ = (b ∷ w) ++ (34 ∷ v) in
    let e : (b ∷ (w ++ (34 ∷ []))) ++ v ≡ t = ap (λ (s : List ℕ). b ∷ s) (append_assoc w (34 ∷ []) v) in
    let n : prefix_len in_quotes t ≡ length (b ∷ w) + 0 = prefix_len-each in_quotes (b ∷ w) (34 ∷ v) each in
    let front : take (prefix_len in_quotes t) t ≡ b ∷ w = ap (λ j. take j t) n ∙ take-append-add (b ∷ w) (34 ∷ v) 0 ∙ append-nil (b ∷ w) in
    let rest : drop (prefix_len in_quotes t) t ≡ 34 ∷ v = ap (λ j. drop j t) n ∙ drop-append-add (b ∷ w) (34 ∷ v) 0 in
    ((NAME (b ∷ w), v), ap (λ s. closed_at (take (prefix_len in_quotes s) s) (drop (prefix_len in_quotes s) s)) e ∙ ap (λ s. closed_at s (drop (prefix_len in_quotes t) t)) front ∙ ap (closed_at (b ∷ w)) rest, omega arith, λ _. refl)

string_reached : (s v : List ℕ) → Reached (STRING s) v (token_at (39 ∷ ((doubled s ++ (39 ∷ [])) ++ v)))
unfolding token_at class_of Reaches
string_reached s v =
    let r = string_reach s v in
    ((STRING r.0.0, r.0.1), ap (λ w. as_string (string_from false w)) (append_assoc (doubled s) (39 ∷ []) v) ∙ ap as_string r.1, r.2, λ e. ap STRING (r.3 e))

pub reach : (u v : List ℕ) (m : Mark) → IsToken u m → (x : Mark × List ℕ) × (token_at (u ++ v) ≡ Some x) × (length x.1 ≤ length v) × (x.1 ≡ v → x.0 ≡ m)
unfolding token_at
reach u v m (word {b} {w} c each) =
    let r = run in_word (b ∷ w) v each in (
      (word_of (take (prefix_len in_word (b ∷ (w ++ v))) (b ∷ (w ++ v))), drop (prefix_len in_word (b ∷ (w ++ v))) (b ∷ (w ++ v))),
      ap (λ k. by_class k b (w ++ v)) c,
      rw r.2 (omega (arith, length-drop r.0 v)),
      λ e.
          let none : take r.0 v ≡ [] = drop_none r.0 v (sym r.2 ∙ e) in
          ap word_of (r.1 ∙ ap (λ s. (b ∷ w) ++ s) none ∙ append-nil (b ∷ w)),
    )
reach u v m (digits {b} {w} c each) = digits_reach b w v c each
reach u v m (point {b} c w f cl each each_f) = point_reach b c w f v cl each each_f
reach u v m (quoted {b} {w} each) = quoted_reach b w v each
reach u v m (string s) = string_reached s v
reach u v m (one {b} {k} c h) = one_reach b k v c h
reach u v m (two {b} {c} {k} cl h) = ((FIXED k, v), ap (λ j. by_class j b (c ∷ v)) cl ∙ two_read b c k v h, omega arith, λ _. refl)
