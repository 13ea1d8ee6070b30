-- That the ends of an interval are found where they stand.
use Rattle.std.proofs.Common.{◌≡◌, ◌≢◌, ℕ, Bool, true, false, List, [], ◌∷◌, ◌++◌, length, codes, Option, Some, None, MatchOption, Bor, refl, sym, ap, ◌∙◌, arith, append_assoc}
use Rattle.std.proofs.lemmas.Bool.{false≢true}
use Rattle.std.proofs.lemmas.List.{append-nil, append_cancel_left, drop_at, take_at}
use Rattle.std.specs.List.{before_first, position_or_len}
use Rattle.report_text.specs.Words.{ends_text, interval_text}
use Rattle.query_model.specs.declared.bounds.Nullity.{Nullity}
use Rattle.query_model.specs.declared.bounds.Nullity.TheVariants.{Never, Possibly, Always}
use Rattle.report_text.specs.Layouts.{Fails, IsEnd, IsTail, behind_front, bracketed_text, is_other, plain_front, single_text, tail_text}

-- it begins with a byte that passes, or is empty
abbrev pub Begins : (ℕ → Bool) → List ℕ → Type 0
Begins test [] = Unit {0}
Begins test (c ∷ cs) = test c ≡ true

-- bytes that fail end at the first that passes
pub place_behind : (test : ℕ → Bool) (front rest : List ℕ) → Fails test front → Begins test rest → position_or_len test (front ++ rest) ≡ length front
place_behind test [] [] h k = refl
place_behind test [] (c ∷ cs) h k = rw k refl
place_behind test (c ∷ cs) rest h k = rw h.0 (omega (arith, place_behind test cs rest h.1 k))

pub before_place : (test : ℕ → Bool) (front rest : List ℕ) → Fails test front → Begins test rest → before_first test (front ++ rest) ≡ front
before_place test front rest h k = rw (place_behind test front rest h k) (take_at front rest (length front) refl)

pub front_is : (text front rest : List ℕ) → Fails is_other front → Begins is_other rest → front ++ rest ≡ text → plain_front text ≡ front
front_is text front rest h k e = rw (← e) (before_place is_other front rest h k)

pub rest_is : (text front rest : List ℕ) → Fails is_other front → Begins is_other rest → front ++ rest ≡ text → behind_front text ≡ rest
rest_is text front rest h k e = rw (← e, place_behind is_other front rest h k) (drop_at front rest (length front) refl)

pub tail_begins : (null : Nullity) → Begins is_other (tail_text null)
tail_begins Never = tt
tail_begins Possibly = refl
tail_begins Always = tt

-- the text of two ends, and of one
pub bracketed_is : (null : Nullity) (low high : List ℕ) → null ≢ Always → interval_text null (ends_text false low high) ≡ codes "[" ++ bracketed_text null low high
bracketed_is Never low high h = ap (λ (t : List ℕ). 91 ∷ (low ++ (codes ", " ++ (high ++ t)))) (sym (append-nil (codes "]")))
bracketed_is Possibly low high h =
    let tail = codes " or null" in
    ap (λ (t : List ℕ). 91 ∷ t) (append_assoc low (codes ", " ++ (high ++ codes "]")) tail ∙ ap (λ (t : List ℕ). low ++ (codes ", " ++ t)) (append_assoc high (codes "]") tail))
bracketed_is Always low high h = absurd (h refl)

pub single_is : (null : Nullity) (end : List ℕ) → null ≢ Always → interval_text null end ≡ single_text null end
single_is Never end h = sym (append-nil end)
single_is Possibly end h = refl
single_is Always end h = absurd (h refl)

-- so it is of the parts that were found
pub bracketed_laid : (null : Nullity) (low high rest second last tail inner : List ℕ) → IsTail null tail → low ++ rest ≡ inner →
    rest ≡ codes ", " ++ second → high ++ last ≡ second → last ≡ codes "]" ++ tail →
    interval_text null (ends_text false low high) ≡ codes "[" ++ inner
bracketed_laid null low high rest second last tail inner h first comma more bracket =
    bracketed_is null low high h.some
    ∙ ap (λ (t : List ℕ). codes "[" ++ t) (
    ap (λ (t : List ℕ). low ++ (codes ", " ++ (high ++ (codes "]" ++ t)))) h.is
    ∙ ap (λ (t : List ℕ). low ++ (codes ", " ++ (high ++ t))) (sym bracket)
    ∙ ap (λ (t : List ℕ). low ++ (codes ", " ++ t)) more
    ∙ ap (λ (t : List ℕ). low ++ t) (sym comma)
    ∙ first
    )

pub single_laid : (null : Nullity) (end tail text : List ℕ) → IsTail null tail → end ++ tail ≡ text → interval_text null end ≡ text
single_laid null end tail text h whole = single_is null end h.some ∙ ap (λ (t : List ℕ). end ++ t) h.is ∙ whole

-- what is told of what stands behind the ends
abbrev pub TellsNull : List ℕ → Option Nullity → Type 0
TellsNull tail r = (tail ≡ [] → r ≡ Some Never) × (tail ≡ codes " or null" → r ≡ Some Possibly)

null_is : (null : Nullity) (tail : List ℕ) (r : Option Nullity) → null ≢ Always → tail ≡ tail_text null → TellsNull tail r → r ≡ Some null
null_is Never tail r h e told = told.0 e
null_is Possibly tail r h e told = told.1 e
null_is Always tail r h e told = absurd (h refl)

-- one end is found, and the word behind it
pub single_found : (text front rest : List ℕ) (r : Option Nullity) (null : Nullity) (end : List ℕ) → front ≡ plain_front text → rest ≡ behind_front text →
    (rest ≡ [] → r ≡ Some Never) → (rest ≡ codes " or null" → r ≡ Some Possibly) → IsEnd end → null ≢ Always → single_text null end ≡ text → (r ≡ Some null) × (front ≡ end)
single_found text front rest r null end is_front is_rest never possibly h k e = (
  null_is null rest r k (is_rest ∙ rest_is text end (tail_text null) h.plain (tail_begins null) e) (never, possibly),
  is_front ∙ front_is text end (tail_text null) h.plain (tail_begins null) e,
)

-- behind the first end stands a comma, and behind the second a bracket
abbrev pub behind_low : Nullity → List ℕ → List ℕ
behind_low null high = codes ", " ++ (high ++ (codes "]" ++ tail_text null))

pub low_found : (text front rest : List ℕ) (null : Nullity) (low high : List ℕ) → front ≡ plain_front text → rest ≡ behind_front text → IsEnd low →
    bracketed_text null low high ≡ text → (front ≡ low) × (rest ≡ behind_low null high)
low_found text front rest null low high is_front is_rest h e =
    (is_front ∙ front_is text low (behind_low null high) h.plain refl e, is_rest ∙ rest_is text low (behind_low null high) h.plain refl e)

pub high_found : (text front rest : List ℕ) (null : Nullity) (high : List ℕ) → front ≡ plain_front text → rest ≡ behind_front text → IsEnd high →
    high ++ (codes "]" ++ tail_text null) ≡ text → (front ≡ high) × (rest ≡ codes "]" ++ tail_text null)
high_found text front rest null high is_front is_rest h e =
    (is_front ∙ front_is text high (codes "]" ++ tail_text null) h.plain refl e, is_rest ∙ rest_is text high (codes "]" ++ tail_text null) h.plain refl e)

pub word_found : (rest : List ℕ) (r : Option Nullity) (null : Nullity) → (rest ≡ [] → r ≡ Some Never) → (rest ≡ codes " or null" → r ≡ Some Possibly) → null ≢ Always →
    codes "]" ++ rest ≡ codes "]" ++ tail_text null → r ≡ Some null
word_found rest r null never possibly k e = null_is null rest r k (append_cancel_left (codes "]") rest (tail_text null) e) (never, possibly)

-- ---- which of the forms a text has

-- a text that begins with an end does not begin with another byte
heads : (low rest : List ℕ) (c : ℕ) (cs : List ℕ) → IsEnd low → low ++ rest ≡ c ∷ cs → is_other c ≡ true → ⊥
heads [] rest c cs h e other = absurd (omega (arith, h.some))
heads (x ∷ xs) rest c cs h e other = let same : x ≡ c = cc in false≢true (sym h.plain.0 ∙ ap is_other same ∙ other)

other_head : (x y : ℕ) (xs ys : List ℕ) → x ∷ xs ≡ y ∷ ys → (x ≡ y → ⊥) → ⊥
other_head x y xs ys e h = let same : x ≡ y = cc in h same

bracket_is_no_n : ◌≡◌ {A = ℕ} 91 110 → ⊥
bracket_is_no_n h = omega (arith, h)

-- where there may be an answer the text is not `null`
pub not_null : (null : Nullity) (equal : Bool) (low high : List ℕ) → IsEnd low → null ≢ Always → interval_text null (ends_text equal low high) ≡ codes "null" → ⊥
not_null Never true low high h k e = heads low [] 110 (codes "ull") h (append-nil low ∙ e) refl
not_null Never false low high h k e = other_head 91 110 (low ++ (codes ", " ++ (high ++ codes "]"))) (codes "ull") e bracket_is_no_n
not_null Possibly true low high h k e = heads low (codes " or null") 110 (codes "ull") h e refl
not_null Possibly false low high h k e =
    other_head 91 110 ((low ++ (codes ", " ++ (high ++ codes "]"))) ++ codes " or null") (codes "ull") e bracket_is_no_n
not_null Always equal low high h k e = absurd (k refl)

never_some : Never ≢ Always
never_some = λ e. absurd cc

possibly_some : Possibly ≢ Always
possibly_some = λ e. absurd cc

-- behind a bracket stand two ends
pub inner_is : (null : Nullity) (equal : Bool) (low high inner : List ℕ) → IsEnd low → interval_text null (ends_text equal low high) ≡ codes "[" ++ inner →
    (equal ≡ false) × (null ≢ Always) × (bracketed_text null low high ≡ inner)
inner_is Never true low high inner h e = absurd (heads low [] 91 inner h (append-nil low ∙ e) refl)
inner_is Never false low high inner h e =
    (refl, never_some, append_cancel_left (codes "[") (bracketed_text Never low high) inner (sym (bracketed_is Never low high never_some) ∙ e))
inner_is Possibly true low high inner h e = absurd (heads low (codes " or null") 91 inner h e refl)
inner_is Possibly false low high inner h e =
    (refl, possibly_some, append_cancel_left (codes "[") (bracketed_text Possibly low high) inner (sym (bracketed_is Possibly low high possibly_some) ∙ e))
inner_is Always equal low high inner h e = absurd (other_head 110 91 (codes "ull") inner e (λ s. bracket_is_no_n (sym s)))

-- only where there is no answer the text is `null`
pub is_null : (null : Nullity) (equal : Bool) (low high : List ℕ) → IsEnd low → interval_text null (ends_text equal low high) ≡ codes "null" → null ≡ Always
is_null Never equal low high h e = absurd (not_null Never equal low high h never_some e)
is_null Possibly equal low high h e = absurd (not_null Possibly equal low high h possibly_some e)
is_null Always equal low high h e = refl

-- what stands behind two words, one after the other
pub behind_both : (r : Option (Bor (List ℕ))) (text front word rest : List ℕ) → text ≡ front ++ rest →
    MatchOption r ((tail : List ℕ) → rest ≢ word ++ tail) (λ tail. rest ≡ word ++ tail.now) →
    MatchOption r ((tail : List ℕ) → text ≢ front ++ (word ++ tail)) (λ tail. text ≡ front ++ (word ++ tail.now))
behind_both None text front word rest e h = λ tail t. h tail (append_cancel_left front rest (word ++ tail) (sym e ∙ t))
behind_both (Some tail) text front word rest e h = e ∙ ap (λ (t : List ℕ). front ++ t) h
