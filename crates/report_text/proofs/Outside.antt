-- That words outside of quotes are found where they stand.
use Rattle.std.proofs.Common.{◌≡◌, ℕ, ◌+◌, ◌-◌, ◌<◌, ◌==◌, Bool, true, false, List, [], ◌∷◌, ◌++◌, length, take, drop, if◌then◌else◌, refl, sym, ap, subst, ◌∙◌, arith, append_assoc}
use Rattle.std.proofs.lemmas.Bool.Decides.{Decides-eqb, nat_tests}
use Rattle.std.proofs.lemmas.List.{append-nil, append_cancel_left, append_cancel_right, drop_all, drop_at, length-append, take_at}
use Rattle.std.proofs.lemmas.Slice.Eq.{starts_is}
use Rattle.std.specs.List.{flat_map, starts_with}
use Rattle.daq_table.specs.ValueTexts.{doubled, quoted_text}
use Rattle.report_text.specs.Layouts.{Fails}
use Rattle.report_text.specs.Quotes.{LacksOutside, begins_outside, place_outside, turned, undoubled}

-- ---- words

-- a word begins what it stands before
pub begins_itself : (word rest : List ℕ) → starts_with ◌==◌ (word ++ rest) word ≡ true
begins_itself word rest = (starts_is Decides-eqb (word ++ rest) word (starts_with ◌==◌ (word ++ rest) word) refl).1 rest refl

place_of_word : (word rest : List ℕ) → 0 < length word → place_outside word false (word ++ rest) ≡ 0
place_of_word [] rest some = absurd (omega arith)
place_of_word (w ∷ ws) rest some = rw (begins_itself (w ∷ ws) rest) refl

-- behind a text that lacks the word, the word is found
pub place_parted : (word front rest : List ℕ) (quoted : Bool) → 0 < length word → LacksOutside word quoted front →
    place_outside word quoted (front ++ (word ++ rest)) ≡ length front
place_parted word [] rest quoted some h = rw h (place_of_word word rest some)
place_parted word (c ∷ cs) rest quoted some h = rw (h.0 (word ++ rest)) (omega (arith, place_parted word cs rest (turned c quoted) some h.1))

-- in one that lacks it, it is not
pub place_whole : (word text : List ℕ) (quoted : Bool) → LacksOutside word quoted text → place_outside word quoted text ≡ length text
place_whole word [] quoted h = refl
place_whole word (c ∷ cs) quoted h =
    let none : begins_outside word quoted (c ∷ cs) ≡ false = rw (append-nil cs) at (h.0 []) in
    rw none (omega (arith, place_whole word cs (turned c quoted) h.1))

-- so a text is parted in one way
pub parted_one : (word a b r s : List ℕ) → 0 < length word → LacksOutside word false a → LacksOutside word false b → a ++ (word ++ r) ≡ b ++ (word ++ s) →
    (a ≡ b) × (r ≡ s)
parted_one word a b r s some h k e =
    let same : length a ≡ length b = sym (place_parted word a r false some h) ∙ ap (place_outside word false) e ∙ place_parted word b s false some k in
    let front : a ≡ b = sym (take_at a (word ++ r) (length b) same) ∙ ap (λ (t : List ℕ). take (length b) t) e ∙ take_at b (word ++ s) (length b) refl in
    (front, append_cancel_left word r s (append_cancel_left b (word ++ r) (word ++ s) (rw front at e)))

-- and no text is both parted and whole
pub parted_or_whole : {P : Type 0} (word a b r : List ℕ) → 0 < length word → LacksOutside word false a → LacksOutside word false b → a ++ (word ++ r) ≡ b → P
parted_or_whole word a b r some h k e =
    let same : length a ≡ length b = sym (place_parted word a r false some h) ∙ ap (place_outside word false) e ∙ place_whole word b false k in
    let longer : length a + (length word + length r) ≡ length b = sym (length-append a (word ++ r) ∙ ap (λ (n : ℕ). length a + n) (length-append word r)) ∙ ap length e in
    absurd (omega (arith, some, same, longer))

-- what the place of the word tells
pub place_is : (place : ℕ) (word text front rest : List ℕ) → 0 < length word → LacksOutside word false front → front ++ (word ++ rest) ≡ text →
    place ≡ place_outside word false text → length front ≡ place
place_is place word text front rest some h e is = sym (is ∙ rw (← e) (place_parted word front rest false some h))

pub rest_found : (place : ℕ) (word text front rest : List ℕ) → 0 < length word → LacksOutside word false front → front ++ (word ++ rest) ≡ text →
    place ≡ place_outside word false text → drop place text ≡ word ++ rest
rest_found place word text front rest some h e is =
    let at = place_is place word text front rest some h e is in
    rw (← e) (drop_at front (word ++ rest) place at)

pub front_found : (place : ℕ) (word text front rest : List ℕ) → 0 < length word → LacksOutside word false front → front ++ (word ++ rest) ≡ text →
    place ≡ place_outside word false text → take place text ≡ front
front_found place word text front rest some h e is =
    let at = place_is place word text front rest some h e is in
    rw (← e) (take_at front (word ++ rest) place at)

pub none_behind : {P : Type 0} (place : ℕ) (word text rest : List ℕ) → 0 < length word → LacksOutside word false text → place ≡ place_outside word false text →
    drop place text ≡ word ++ rest → P
none_behind place word text rest some h is e =
    let none : drop place text ≡ [] = drop_all place text (omega (arith, is, place_whole word text false h)) in
    let longer : length word + length rest ≡ 0 = sym (length-append word rest) ∙ ap length (sym e ∙ none) in
    absurd (omega (arith, some, longer))

-- ---- texts that lack a word

pub lacks-append : (word a b : List ℕ) (quoted : Bool) → LacksOutside word quoted a → LacksOutside word false b → LacksOutside word quoted (a ++ b)
lacks-append word [] b quoted h k = subst (λ (q : Bool). LacksOutside word q b) (sym h) k
lacks-append word (c ∷ cs) b quoted h k =
    ((λ rest. rw (append_assoc cs b rest) (h.0 (b ++ rest))), lacks-append word cs b (turned c quoted) h.1 k)

pub eq_turned : (a b : ℕ) → (a == b) ≡ false → (b == a) ≡ false
eq_turned a b h = grind (arith, nat_tests, h)

-- neither a quote nor the first byte of the word
pub fails_lacks : (w : ℕ) (ws text : List ℕ) → Fails (λ c. c == 39) text → Fails (λ c. c == w) text → LacksOutside (w ∷ ws) false text
fails_lacks w ws [] h k = refl
fails_lacks w ws (c ∷ cs) h k = (
  (λ rest. rw (eq_turned c w k.0) refl),
  rw h.0 (fails_lacks w ws cs h.1 k.1),
)

one_more : (w : ℕ) (ws text : List ℕ) (c : ℕ) (quote : Bool) → (c == 39) ≡ quote → (39 == w) ≡ false → LacksOutside (w ∷ ws) true text →
    LacksOutside (w ∷ ws) true ((if quote then 39 ∷ 39 ∷ [] else c ∷ []) ++ text)
one_more w ws text c true e other h = ((λ rest. refl), ((λ rest. rw (eq_turned 39 w other) refl), h))
one_more w ws text c false e other h = ((λ rest. refl), rw e h)

inner_lacks : (w : ℕ) (ws name : List ℕ) → (39 == w) ≡ false → LacksOutside (w ∷ ws) true (flat_map doubled name ++ (39 ∷ []))
inner_lacks w ws [] other = ((λ rest. refl), refl)
inner_lacks w ws (c ∷ cs) other =
    subst (LacksOutside (w ∷ ws) true) (sym (append_assoc (doubled c) (flat_map doubled cs) (39 ∷ [])))
    (one_more w ws (flat_map doubled cs ++ (39 ∷ [])) c (c == 39) refl other (inner_lacks w ws cs other))

-- what stands in quotes
pub quoted_lacks : (w : ℕ) (ws name : List ℕ) → (39 == w) ≡ false → LacksOutside (w ∷ ws) false (quoted_text name)
quoted_lacks w ws name other = ((λ rest. rw (eq_turned 39 w other) refl), inner_lacks w ws name other)

-- ---- texts in quotes

undoubled_more : (c : ℕ) (text : List ℕ) (quote : Bool) → (c == 39) ≡ quote → undoubled false ((if quote then 39 ∷ 39 ∷ [] else c ∷ []) ++ text) ≡ c ∷ undoubled false text
undoubled_more c text true e = ap (λ (d : ℕ). d ∷ undoubled false text) (sym ((Decides-eqb c 39).0 e))
undoubled_more c text false e = rw e refl

-- each quote is doubled, and stands there once behind
pub undoubled_back : (name : List ℕ) → undoubled false (flat_map doubled name) ≡ name
undoubled_back [] = refl
undoubled_back (c ∷ cs) = undoubled_more c (flat_map doubled cs) (c == 39) refl ∙ ap (λ (t : List ℕ). c ∷ t) (undoubled_back cs)

pub quoted_one : (a b : List ℕ) → quoted_text a ≡ quoted_text b → a ≡ b
quoted_one a b e =
    let inner = append_cancel_right (flat_map doubled a) (flat_map doubled b) (39 ∷ []) (append_cancel_left (39 ∷ []) (flat_map doubled a ++ (39 ∷ [])) (flat_map doubled b ++ (39 ∷ [])) e) in
    sym (undoubled_back a) ∙ ap (undoubled false) inner ∙ undoubled_back b

-- what stands between two quotes
pub inner_found : (inner text name : List ℕ) → quoted_text name ≡ text → text ≡ 39 ∷ inner → take (length inner - 1) inner ≡ flat_map doubled name
inner_found inner text name e is =
    let found : inner ≡ flat_map doubled name ++ (39 ∷ []) = append_cancel_left (39 ∷ []) inner (flat_map doubled name ++ (39 ∷ [])) (sym is ∙ sym e) in
    let few : length (flat_map doubled name) ≡ length inner - 1 = omega (arith, ap length found, length-append (flat_map doubled name) (39 ∷ [])) in
    subst (λ (t : List ℕ). take (length inner - 1) t ≡ flat_map doubled name) (sym found) (take_at (flat_map doubled name) (39 ∷ []) (length inner - 1) few)
