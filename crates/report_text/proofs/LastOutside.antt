-- That the last word behind which each quote is ended is found where it stands.
use Rattle.std.proofs.Common.{◌≡◌, ℕ, zero, suc, ◌<◌, ◌==◌, Bool, true, false, not, List, [], ◌∷◌, ◌++◌, length, take, drop, if◌then◌else◌}
use Rattle.std.proofs.Common.{get_or, Option, Some, None, refl, sym, ap, ◌∙◌, arith}
use Rattle.std.proofs.Math.Seq.{drop-cons}
use Rattle.std.proofs.lemmas.List.{append-nil, drop_at, take_at}
use Rattle.std.proofs.lemmas.Option.{none-some, same_Some}
use Rattle.report_text.proofs.Outside.{begins_itself}
use Rattle.report_text.specs.Quotes.{IsWord, LacksOutside, begins_outside, is_open, last_outside, place_here, turned}

turned_by : (quote quoted : Bool) → (if quote then not (if quote then not quoted else quoted) else (if quote then not quoted else quoted)) ≡ quoted
turned_by true true = refl
turned_by true false = refl
turned_by false quoted = refl

turned_back : (c : ℕ) (quoted : Bool) → turned c (turned c quoted) ≡ quoted
turned_back c quoted = turned_by (c == 39) quoted

-- behind each place of a text that lacks the word the quotes are as they must be
open_lacks : (word text : List ℕ) (quoted : Bool) → LacksOutside word quoted text → is_open text ≡ quoted
open_lacks word [] quoted h = sym h
open_lacks word (c ∷ cs) quoted h = ap (turned c) (open_lacks word cs (turned c quoted) h.1) ∙ turned_back c quoted

-- so it is not found there
pub none_last : (word text : List ℕ) (quoted : Bool) → LacksOutside word quoted text → last_outside word text ≡ None
none_last word [] quoted h = refl
none_last word (c ∷ cs) quoted h =
    let none : begins_outside word quoted (c ∷ cs) ≡ false = rw (append-nil cs) at (h.0 []) in
    rw (open_lacks word (c ∷ cs) quoted h, none_last word cs (turned c quoted) h.1, none) refl

first_found : (w : ℕ) (ws rest : List ℕ) → (w == 39) ≡ false → LacksOutside (w ∷ ws) false (ws ++ rest) → last_outside (w ∷ ws) (w ∷ (ws ++ rest)) ≡ Some 0
first_found w ws rest other h =
    let ended : is_open (w ∷ (ws ++ rest)) ≡ false = ap (turned w) (open_lacks (w ∷ ws) (ws ++ rest) false h) ∙ rw other refl in
    rw (none_last (w ∷ ws) (ws ++ rest) false h, ended, begins_itself (w ∷ ws) rest) refl

last_by : (w : ℕ) (ws front rest : List ℕ) → (w == 39) ≡ false → LacksOutside (w ∷ ws) false (ws ++ rest) →
    last_outside (w ∷ ws) (front ++ (w ∷ (ws ++ rest))) ≡ Some (length front)
last_by w ws [] rest other h = first_found w ws rest other h
last_by w ws (c ∷ cs) rest other h = rw (last_by w ws cs rest other h) refl

-- before a text that lacks it, the word is found
pub last_found : (word front rest : List ℕ) → IsWord word → LacksOutside word false (drop 1 word ++ rest) →
    last_outside word (front ++ (word ++ rest)) ≡ Some (length front)
last_found [] front rest is h = absurd is
last_found (w ∷ ws) front rest is h = last_by w ws front rest is h

further : (o : Option ℕ) (here : Bool) (n place : ℕ) → ((p : ℕ) → o ≡ Some p → p < n) → place_here o here ≡ Some place → place < suc n
further (Some p) here n place before is = let one = same_Some place (suc p) (sym is) in let few = before p refl in omega (arith, one, few)
further None true n place before is = let one = same_Some place 0 (sym is) in omega (arith, one)
further None false n place before is = absurd (none-some place is)

-- what is found in a text before one that has no such word stands in the first
pub found_before : (word front back : List ℕ) (place : ℕ) → last_outside word back ≡ None → last_outside word (front ++ back) ≡ Some place → place < length front
found_before word [] back place none is = absurd (none-some place (sym none ∙ is))
found_before word (c ∷ cs) back place none is =
    further (last_outside word (cs ++ back)) (begins_outside word (is_open (c ∷ (cs ++ back))) (c ∷ (cs ++ back))) (length cs) place (λ p e. found_before word cs back p none e) is

-- a word that is found at the front of the rest is the last of the whole
pub found_behind : (place : ℕ) (word text : List ℕ) → place < length text → last_outside word (drop place text) ≡ Some 0 → last_outside word text ≡ Some place
found_behind zero word text within is = is
found_behind (suc n) word [] within is = absurd (omega (arith, within))
found_behind (suc n) word (c ∷ cs) within is = rw (found_behind n word cs (omega (arith, within)) is) refl

-- a word that begins at the next place, behind which there is none, is the last
pub hit_found : (place : ℕ) (word text : List ℕ) (quoted : Bool) → place < length text → quoted ≡ is_open (drop (suc place) text) →
    last_outside word (drop (suc place) text) ≡ None → begins_outside word (turned (get_or text place 0) quoted) (drop place text) ≡ true →
    last_outside word text ≡ Some place
hit_found place word text quoted within is none here =
    let step = drop-cons text place 0 within in
    let begins : begins_outside word (turned (get_or text place 0) (is_open (drop (suc place) text))) (get_or text place 0 ∷ drop (suc place) text) ≡ true = rw (step, is) at here in
    found_behind place word text within (ap (last_outside word) step ∙ rw (none, begins) refl)

-- ---- what the place tells

pub last_is : (place : ℕ) (word text front rest : List ℕ) → IsWord word → LacksOutside word false (drop 1 word ++ rest) → front ++ (word ++ rest) ≡ text →
    Some place ≡ last_outside word text → length front ≡ place
last_is place word text front rest word_is h e is =
    sym (same_Some place (length front) (is ∙ ap (last_outside word) (sym e) ∙ last_found word front rest word_is h))

pub behind_last : (place : ℕ) (word text front rest : List ℕ) → IsWord word → LacksOutside word false (drop 1 word ++ rest) → front ++ (word ++ rest) ≡ text →
    Some place ≡ last_outside word text → drop place text ≡ word ++ rest
behind_last place word text front rest word_is h e is =
    let at = last_is place word text front rest word_is h e is in
    rw (← e) (drop_at front (word ++ rest) place at)

pub before_last : (place : ℕ) (word text front rest : List ℕ) → IsWord word → LacksOutside word false (drop 1 word ++ rest) → front ++ (word ++ rest) ≡ text →
    Some place ≡ last_outside word text → take place text ≡ front
before_last place word text front rest word_is h e is =
    let at = last_is place word text front rest word_is h e is in
    rw (← e) (take_at front (word ++ rest) place at)
