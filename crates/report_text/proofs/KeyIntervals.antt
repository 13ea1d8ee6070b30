-- What is read from the texts of the intervals in which keys lie, and which words these lack.
use Rattle.std.proofs.Common.{◌≡◌, ◌≢◌, ℕ, ◌==◌, Bool, true, false, List, [], ◌∷◌, ◌++◌, codes, Option, Some, None, refl, sym, ap, subst, ◌∙◌, arith, append_assoc}
use Rattle.std.proofs.lemmas.Bool.{false≢true}
use Rattle.std.proofs.lemmas.List.{append-nil, append_cancel_left, append_cancel_right}
use Rattle.std.specs.List.{flat_map}
use Rattle.std.specs.Ordering.{int_eq}
use Rattle.std.specs.Str.{bytes_eq}
use Rattle.daq_table.specs.ValueTexts.{doubled, quoted_text}
use Rattle.report_text.proofs.EndTexts.{end_is_end}
use Rattle.report_text.proofs.KeyTexts.{end_lacks, first, first_plain, high_value, low_value, no_dash, no_quoted_dash, not_by}
use Rattle.report_text.proofs.OneGroup.{last_one, same_texts, same_values}
use Rattle.report_text.proofs.Outside.{fails_lacks, lacks-append, quoted_lacks}
use Rattle.report_text.specs.Forms.{IsIntervalEnd, text_in, text_of_end}
use Rattle.report_text.specs.Intervals.{ends_between, interval_by, key_interval}
use Rattle.report_text.specs.Keys.{AreShownEnds, AreValueEnds, HaveTexts, IsShownPart, IsShownSpan}
use Rattle.report_text.specs.Layouts.{Fails, is_other}
use Rattle.report_text.specs.Quotes.{LacksOutside}
use Rattle.report_text.specs.Words.{ends_text}
use Rattle.report_text.specs.declared.forms.IntervalEnd.{IntervalEnd}
use Rattle.report_text.specs.declared.keys.ShownEnds.{ShownEnds}
use Rattle.report_text.specs.declared.keys.ShownEnds.TheVariants.{NoText, Texts, Values}
use Rattle.report_text.specs.declared.keys.ShownSpan.{ShownSpan}
use Rattle.report_text.specs.declared.keys.TextEnds.{TextEnds}
use Rattle.report_text.specs.declared.keys.ValueEnds.{ValueEnds}

abbrev pub comma : List ℕ
comma = codes ", "

abbrev pub word : List ℕ
word = codes " or null"

-- ---- brackets

pub brackets_found : (equal : Bool) (a b text inner : List ℕ) → text ≡ codes "[" ++ inner → ((rest : List ℕ) → a ≢ codes "[" ++ rest) →
    ends_text equal a b ≡ text → a ++ (codes ", " ++ (b ++ codes "]")) ≡ inner
brackets_found true a b text inner is none e = absurd (none inner (e ∙ is))
brackets_found false a b text inner is none e = append_cancel_left (codes "[") (a ++ (codes ", " ++ (b ++ codes "]"))) inner (e ∙ is)

pub brackets_absent : (equal : Bool) (a b text : List ℕ) → ((inner : List ℕ) → text ≢ codes "[" ++ inner) → (equal ≡ true → a ≡ b) →
    ends_text equal a b ≡ text → (text ≡ a) × (text ≡ b)
brackets_absent true a b text none same e = (sym e, sym e ∙ same refl)
brackets_absent false a b text none same e = absurd (none (a ++ (codes ", " ++ (b ++ codes "]"))) (sym e))

bracket_first : (rest : List ℕ) → first (codes "[" ++ rest) ≡ 91
unfolding first
bracket_first rest = refl

pub no_bracket : (end : IntervalEnd) (rest : List ℕ) → IsIntervalEnd end → text_of_end end ≡ codes "[" ++ rest → ⊥
no_bracket end rest h e =
    false≢true (sym (first_plain (text_of_end end) [] (end_is_end end h)) ∙ ap (λ (t : List ℕ). is_other (first t)) (append-nil (text_of_end end) ∙ e)
    ∙ ap is_other (bracket_first rest))

pub no_quoted_bracket : (name rest : List ℕ) → quoted_text name ≡ codes "[" ++ rest → ⊥
no_quoted_bracket name rest e = let same : 39 ≡ 91 = ap first_byte e in omega (arith, same)
  where
    first_byte : List ℕ → ℕ
    first_byte [] = 0
    first_byte (c ∷ cs) = c

-- ---- two ends

pub value_comma : (end : IntervalEnd) → IsIntervalEnd end → LacksOutside comma false (text_of_end end)
value_comma end h = end_lacks 44 (32 ∷ []) end refl h

pub text_comma : (name : List ℕ) → LacksOutside comma false (quoted_text name)
text_comma name = quoted_lacks 44 (32 ∷ []) name refl

-- these are the texts of the ends of the interval
abbrev pub AreBetween : List ℕ → List ℕ → List ℕ → Type 0
AreBetween text low high =
    (equal : Bool) (a b : List ℕ) → LacksOutside comma false a → ((rest : List ℕ) → a ≢ codes "[" ++ rest) → (equal ≡ true → a ≡ b) →
    ends_text equal a b ≡ text → (low ≡ a) × (high ≡ b)

-- and no text has any
abbrev pub IsNoneBetween : List ℕ → Type 0
IsNoneBetween text =
    (equal : Bool) (a b : List ℕ) → LacksOutside comma false a → ((rest : List ℕ) → a ≢ codes "[" ++ rest) → (equal ≡ true → a ≡ b) →
    ends_text equal a b ≡ text → ⊥

pub texts_between : (text low high : List ℕ) → AreBetween text low high → (text ≡ codes "-" → ⊥) → (ends : ShownEnds) → AreShownEnds ends →
    ends_between ends ≡ text → HaveTexts low high ends
texts_between text low high are other (Values ends) h e =
    let parts = are (int_eq ends.low ends.high) (text_in ends.form ends.low) (text_in ends.form ends.high) (value_comma (low_value ends) h.low)
    (λ rest. no_bracket (low_value ends) rest h.low) (same_values ends) e in
    (sym parts.0, sym parts.1)
texts_between text low high are other (Texts ends) h e =
    let parts = are (bytes_eq ends.low ends.high) (quoted_text ends.low) (quoted_text ends.high) (text_comma ends.low)
    (λ rest. no_quoted_bracket ends.low rest) (same_texts ends) e in
    (sym parts.0, sym parts.1)
texts_between text low high are other NoText h e = absurd (other (sym e))

pub none_between : (text : List ℕ) → IsNoneBetween text → (text ≡ codes "-" → ⊥) → (ends : ShownEnds) → AreShownEnds ends → ends_between ends ≡ text → ⊥
none_between text none other (Values ends) h e =
    none (int_eq ends.low ends.high) (text_in ends.form ends.low) (text_in ends.form ends.high) (value_comma (low_value ends) h.low)
    (λ rest. no_bracket (low_value ends) rest h.low) (same_values ends) e
none_between text none other (Texts ends) h e =
    none (bytes_eq ends.low ends.high) (quoted_text ends.low) (quoted_text ends.high) (text_comma ends.low)
    (λ rest. no_quoted_bracket ends.low rest) (same_texts ends) e
none_between text none other NoText h e = other (sym e)

-- ---- a dash

no_bracket_dash : (low high : List ℕ) → ends_text false low high ≡ codes "-" → ⊥
no_bracket_dash low high e = let same : 91 ≡ 45 = ap first_byte e in omega (arith, same)
  where
    first_byte : List ℕ → ℕ
    first_byte [] = 0
    first_byte (c ∷ cs) = c

values_dash : (equal : Bool) (ends : ValueEnds) → AreValueEnds ends → int_eq ends.low ends.high ≡ equal →
    ends_text equal (text_in ends.form ends.low) (text_in ends.form ends.high) ≡ codes "-" → ⊥
values_dash true ends h is e = no_dash ends h (rw is e)
values_dash false ends h is e = no_bracket_dash (text_in ends.form ends.low) (text_in ends.form ends.high) e

texts_dash : (equal : Bool) (ends : TextEnds) → bytes_eq ends.low ends.high ≡ equal → ends_text equal (quoted_text ends.low) (quoted_text ends.high) ≡ codes "-" → ⊥
texts_dash true ends is e = no_quoted_dash ends (rw is e)
texts_dash false ends is e = no_bracket_dash (quoted_text ends.low) (quoted_text ends.high) e

-- only where there is no text
pub dash_only : (ends : ShownEnds) → AreShownEnds ends → ends_between ends ≡ codes "-" → NoText ≡ ends
dash_only (Values ends) h e = absurd (values_dash (int_eq ends.low ends.high) ends h refl e)
dash_only (Texts ends) h e = absurd (texts_dash (bytes_eq ends.low ends.high) ends refl e)
dash_only NoText h e = refl

-- ---- null

fails_behind : (test : ℕ → Bool) (front rest : List ℕ) → Fails test (front ++ rest) → Fails test rest
fails_behind test [] rest h = h
fails_behind test (c ∷ cs) rest h = fails_behind test cs rest h.1

no_null_value : (end : IntervalEnd) (front : List ℕ) → IsIntervalEnd end → text_of_end end ≡ front ++ word → ⊥
no_null_value end front h e =
    let plain : Fails is_other word = fails_behind is_other front word (subst (Fails is_other) e (end_is_end end h).plain) in
    false≢true (sym plain.0)

-- a text that ends in another byte
no_null_last : (front text : List ℕ) (c : ℕ) → (c ≡ 108 → ⊥) → text ++ (c ∷ []) ≡ front ++ word → ⊥
no_null_last front text c other e =
    other (last_one text (front ++ codes " or nul") c 108 (e ∙ sym (append_assoc front (codes " or nul") (108 ∷ []))))

no_null_quoted : (name front : List ℕ) → quoted_text name ≡ front ++ word → ⊥
no_null_quoted name front e = no_null_last front (39 ∷ flat_map doubled name) 39 (λ same. omega (arith, same)) e

no_null_brackets : (low high front : List ℕ) → ends_text false low high ≡ front ++ word → ⊥
no_null_brackets low high front e =
    no_null_last front (91 ∷ (low ++ (44 ∷ 32 ∷ high))) 93 (λ same. omega (arith, same))
    (ap (λ (t : List ℕ). 91 ∷ t) (append_assoc low (44 ∷ 32 ∷ high) (93 ∷ [])) ∙ e)

no_null_values : (equal : Bool) (ends : ValueEnds) (front : List ℕ) → AreValueEnds ends →
    ends_text equal (text_in ends.form ends.low) (text_in ends.form ends.high) ≡ front ++ word → ⊥
no_null_values true ends front h e = no_null_value (low_value ends) front h.low e
no_null_values false ends front h e = no_null_brackets (text_in ends.form ends.low) (text_in ends.form ends.high) front e

no_null_texts : (equal : Bool) (ends : TextEnds) (front : List ℕ) → ends_text equal (quoted_text ends.low) (quoted_text ends.high) ≡ front ++ word → ⊥
no_null_texts true ends front e = no_null_quoted ends.low front e
no_null_texts false ends front e = no_null_brackets (quoted_text ends.low) (quoted_text ends.high) front e

-- values do not end in that word
pub no_null : (ends : ShownEnds) (front : List ℕ) → AreShownEnds ends → ends_between ends ≡ front ++ word → ⊥
no_null (Values ends) front h e = no_null_values (int_eq ends.low ends.high) ends front h e
no_null (Texts ends) front h e = no_null_texts (bytes_eq ends.low ends.high) ends front e
no_null NoText front h e = no_null_last front [] 45 (λ same. omega (arith, same)) e

pub null_behind : (null : Bool) (ends : Option ShownEnds) (text front : List ℕ) (result : Option ShownSpan) → IsShownPart null ends → interval_by null ends ≡ text →
    (text ≡ codes "null" → ⊥) → text ≡ front ++ word →
    ((read : ShownEnds) → AreShownEnds read → ends_between read ≡ front → result ≡ Some (record { null = true; ends = Some read })) →
    result ≡ Some (record { null = null; ends = ends })
null_behind false None text front result h e other is read = absurd h
null_behind true None text front result h e other is read = absurd (other (sym e))
null_behind false (Some ends) text front result h e other is read = absurd (no_null ends front h (e ∙ is))
null_behind true (Some ends) text front result h e other is read = read ends h (append_cancel_right (ends_between ends) front word (e ∙ is))

pub null_nowhere : (null : Bool) (ends : Option ShownEnds) (text : List ℕ) (result : Option ShownSpan) → IsShownPart null ends → interval_by null ends ≡ text →
    (text ≡ codes "null" → ⊥) → ((front : List ℕ) → text ≢ front ++ word) →
    ((read : ShownEnds) → AreShownEnds read → ends_between read ≡ text → result ≡ Some (record { null = false; ends = Some read })) →
    result ≡ Some (record { null = null; ends = ends })
null_nowhere false None text result h e other none read = absurd h
null_nowhere true None text result h e other none read = absurd (other (sym e))
null_nowhere false (Some ends) text result h e other none read = read ends h e
null_nowhere true (Some ends) text result h e other none read = absurd (none (ends_between ends) (sym e))

-- ---- the word null itself

null_first : first (codes "null") ≡ 110
unfolding first
null_first = refl

quote_first : (name rest : List ℕ) → first (quoted_text name ++ rest) ≡ 39
unfolding first
quote_first name rest = refl

brackets_first : (low high rest : List ℕ) → first (ends_text false low high ++ rest) ≡ 91
unfolding first
brackets_first low high rest = refl

dash_first : (rest : List ℕ) → first (codes "-" ++ rest) ≡ 45
unfolding first
dash_first rest = refl

other_first : (c : ℕ) (text : List ℕ) → first text ≡ c → (c ≡ 110 → ⊥) → text ≡ codes "null" → ⊥
other_first c text is other e = other (sym is ∙ ap first e ∙ null_first)

values_null : (equal : Bool) (ends : ValueEnds) (rest : List ℕ) → AreValueEnds ends →
    ends_text equal (text_in ends.form ends.low) (text_in ends.form ends.high) ++ rest ≡ codes "null" → ⊥
values_null true ends rest h e =
    false≢true (sym (first_plain (text_in ends.form ends.low) rest (end_is_end (low_value ends) h.low)) ∙ ap (λ (t : List ℕ). is_other (first t)) e ∙ ap is_other null_first)
values_null false ends rest h e =
    other_first 91 _ (brackets_first (text_in ends.form ends.low) (text_in ends.form ends.high) rest) (λ same. omega (arith, same)) e

texts_null : (equal : Bool) (ends : TextEnds) (rest : List ℕ) → ends_text equal (quoted_text ends.low) (quoted_text ends.high) ++ rest ≡ codes "null" → ⊥
texts_null true ends rest e = other_first 39 _ (quote_first ends.low rest) (λ same. omega (arith, same)) e
texts_null false ends rest e = other_first 91 _ (brackets_first (quoted_text ends.low) (quoted_text ends.high) rest) (λ same. omega (arith, same)) e

pub not_null : (ends : ShownEnds) (rest : List ℕ) → AreShownEnds ends → ends_between ends ++ rest ≡ codes "null" → ⊥
not_null (Values ends) rest h e = values_null (int_eq ends.low ends.high) ends rest h e
not_null (Texts ends) rest h e = texts_null (bytes_eq ends.low ends.high) ends rest e
not_null NoText rest h e = other_first 45 _ (dash_first rest) (λ same. omega (arith, same)) e

-- only where there is no value
pub null_only : (null : Bool) (ends : Option ShownEnds) → IsShownPart null ends → interval_by null ends ≡ codes "null" →
    ◌≡◌ {A = ShownSpan} (record { null = true; ends = None }) (record { null = null; ends = ends })
null_only false None h e = absurd h
null_only true None h e = refl
null_only false (Some ends) h e = absurd (not_null ends [] h (append-nil (ends_between ends) ∙ e))
null_only true (Some ends) h e = absurd (not_null ends word h e)

-- ---- words that stand in no interval

-- none of the bytes around the values
abbrev pub AreOther : ℕ → Type 0
AreOther w = Fails (λ c. c == w) (codes "[, ] or null")

module _ (w : ℕ) (ws : List ℕ) (other : is_other w ≡ true) (quote : (39 == w) ≡ false) (around : AreOther w) where
  between_lacks : (equal : Bool) (low high : List ℕ) → LacksOutside (w ∷ ws) false low → LacksOutside (w ∷ ws) false high →
      LacksOutside (w ∷ ws) false (ends_text equal low high)
  between_lacks true low high h k = h
  between_lacks false low high h k =
      lacks-append (w ∷ ws) (codes "[") (low ++ (codes ", " ++ (high ++ codes "]"))) false (fails_lacks w ws (codes "[") (refl, tt) (around.0, tt))
      (lacks-append (w ∷ ws) low (codes ", " ++ (high ++ codes "]")) false h
      (lacks-append (w ∷ ws) (codes ", ") (high ++ codes "]") false (fails_lacks w ws (codes ", ") (refl, (refl, tt)) (around.1.0, (around.1.1.0, tt)))
      (lacks-append (w ∷ ws) high (codes "]") false k (fails_lacks w ws (codes "]") (refl, tt) (around.1.1.1.0, tt)))))

  ends_lack : (ends : ShownEnds) → AreShownEnds ends → LacksOutside (w ∷ ws) false (ends_between ends)
  ends_lack (Values ends) h =
      between_lacks _ (text_in ends.form ends.low) (text_in ends.form ends.high) (end_lacks w ws (low_value ends) other h.low) (end_lacks w ws (high_value ends) other h.high)
  ends_lack (Texts ends) h =
      between_lacks _ (quoted_text ends.low) (quoted_text ends.high) (quoted_lacks w ws ends.low quote) (quoted_lacks w ws ends.high quote)
  ends_lack NoText h = fails_lacks w ws (codes "-") (refl, tt) (dash_byte w other, tt)
    where
      dash_byte : (w : ℕ) → is_other w ≡ true → (45 == w) ≡ false
      dash_byte w h = not_by 45 w (45 == w) refl h refl

  null_word : LacksOutside (w ∷ ws) false word
  null_word = fails_lacks w ws word (refl, (refl, (refl, (refl, (refl, (refl, (refl, (refl, tt)))))))) around.1.1.1.1

  null_alone : LacksOutside (w ∷ ws) false (codes "null")
  null_alone = fails_lacks w ws (codes "null") (refl, (refl, (refl, (refl, tt)))) around.1.1.1.1.1.1.1.1

  by_part : (null : Bool) (ends : Option ShownEnds) → IsShownPart null ends → LacksOutside (w ∷ ws) false (interval_by null ends)
  by_part false None h = absurd h
  by_part true None h = null_alone
  by_part false (Some ends) h = ends_lack ends h
  by_part true (Some ends) h = lacks-append (w ∷ ws) (ends_between ends) word false (ends_lack ends h) null_word

  pub interval_lacks : (span : ShownSpan) → IsShownSpan span → LacksOutside (w ∷ ws) false (key_interval span)
  interval_lacks span h = by_part span.null span.ends h
