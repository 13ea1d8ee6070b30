-- That the texts of keys lack the words that stand around them, and what they begin with.
use Rattle.std.proofs.Common.{◌≡◌, ℕ, zero, suc, ◌/◌, ◌^◌, ◌<◌, ◌≤◌, ◌==◌, Bool, true, false, List, [], ◌∷◌, ◌++◌, length, codes, decimal, Option, Some, None, refl, sym, ap, subst, ◌∙◌, arith, append_assoc, ℤ, pos, negsuc, unsigned_abs}
use Rattle.std.proofs.Math.Nat.{div-le_self}
use Rattle.std.proofs.lemmas.Bool.{false≢true}
use Rattle.std.proofs.lemmas.Bool.Decides.{Decides-eqb}
use Rattle.std.proofs.lemmas.Fmt.{decimal_is_IsNumeral_wide}
use Rattle.std.proofs.lemmas.List.{append-nil, length-append}
use Rattle.std.proofs.lemmas.Str.Parse.{digit_from_value}
use Rattle.std.specs.Str.Parse.{AllDigits}
use Rattle.daq_table.specs.Numbers.{sign_text}
use Rattle.daq_table.specs.ValueTexts.{IsDay, quoted_text, text_of_date}
use Rattle.report_text.proofs.DateTexts.{date_fails}
use Rattle.report_text.proofs.DigitTexts.{other_byte}
use Rattle.report_text.proofs.EndTexts.{end_is_end}
use Rattle.report_text.proofs.NumberTexts.{abs_small, digits_fail, places, places_digits, places_length, plain_some, scaled-plain}
use Rattle.report_text.proofs.Outside.{eq_turned, fails_lacks, lacks-append, quoted_lacks}
use Rattle.report_text.specs.Forms.{IsIntervalEnd, text_in, text_of_end}
use Rattle.report_text.specs.Keys.{AreShownEnds, AreValueEnds, IsShownPart, dotted, part_text, text_of_ends}
use Rattle.report_text.specs.Layouts.{Fails, IsEnd, is_other}
use Rattle.report_text.specs.Numbers.{CanBeRead, number_text, plain}
use Rattle.report_text.specs.Quotes.{LacksOutside}
use Rattle.report_text.specs.declared.forms.Form.{Form}
use Rattle.report_text.specs.declared.forms.Form.TheVariants.{Date, Decimals}
use Rattle.report_text.specs.declared.forms.IntervalEnd.{IntervalEnd}
use Rattle.report_text.specs.declared.keys.ShownEnds.{ShownEnds}
use Rattle.report_text.specs.declared.keys.ShownEnds.TheVariants.{NoText, Texts, Values}
use Rattle.report_text.specs.declared.keys.TextEnds.{TextEnds}
use Rattle.report_text.specs.declared.keys.ValueEnds.{ValueEnds}
use Rattle.report_text.specs.declared.numbers.Number.{Number}

-- ---- the ends of values

abbrev pub low_value : ValueEnds → IntervalEnd
low_value ends = record { form = ends.form; value = ends.low }

abbrev pub high_value : ValueEnds → IntervalEnd
high_value ends = record { form = ends.form; value = ends.high }

pub not_by : (c b : ℕ) (same : Bool) → (c == b) ≡ same → is_other b ≡ true → is_other c ≡ false → same ≡ false
not_by c b true e h k = absurd (false≢true (sym k ∙ ap is_other ((Decides-eqb c b).0 e) ∙ h))
not_by c b false e h k = refl

-- a byte that stands in no number is none of theirs
fails_byte : (b : ℕ) (text : List ℕ) → is_other b ≡ true → Fails is_other text → Fails (λ c. c == b) text
fails_byte b [] h k = tt
fails_byte b (c ∷ cs) h k = (not_by c b (c == b) refl h k.0, fails_byte b cs h k.1)

pub end_lacks : (w : ℕ) (ws : List ℕ) (end : IntervalEnd) → is_other w ≡ true → IsIntervalEnd end → LacksOutside (w ∷ ws) false (text_of_end end)
end_lacks w ws end h k =
    let plain = (end_is_end end k).plain in
    fails_lacks w ws (text_of_end end) (fails_byte 39 (text_of_end end) refl plain) (fails_byte w (text_of_end end) h plain)

-- ---- two dots

abbrev pub dots : List ℕ
dots = 46 ∷ 46 ∷ []

digits_lack : (ds : List ℕ) → AllDigits 10 ds → LacksOutside dots false ds
digits_lack ds h =
    fails_lacks 46 (46 ∷ []) ds (digits_fail (λ c. c == 39) (λ c k. other_byte c 39 k (omega arith)) ds h)
    (digits_fail (λ c. c == 46) (λ c k. other_byte c 46 k (omega arith)) ds h)

-- a digit stands behind the point
fraction_lacks : (ds : List ℕ) → AllDigits 10 ds → 0 < length ds → LacksOutside dots false (46 ∷ ds)
fraction_lacks [] h some = absurd (omega arith)
fraction_lacks (c ∷ cs) h some = ((λ rest. rw (eq_turned c 46 (other_byte c 46 h.0 (omega arith))) refl), digits_lack (c ∷ cs) h)

sign_lacks : (z : ℤ) → LacksOutside dots false (sign_text z)
sign_lacks (pos n) = refl
sign_lacks (negsuc n) = ((λ rest. refl), refl)

plain_lacks : (scale n : ℕ) → scale ≤ 18 → n < 2 ^ 128 → LacksOutside dots false (plain scale n)
plain_lacks zero n few h = digits_lack (decimal n) (decimal_is_IsNumeral_wide n (omega arith)).0.1
plain_lacks (suc scale) n few h =
    let m = n / 10 ^ suc scale in
    let whole = decimal_is_IsNumeral_wide m (omega (arith, div-le_self n (10 ^ suc scale))) in
    let rest = places (suc scale) n in
    lacks-append dots (decimal m) (46 ∷ rest) false (digits_lack (decimal m) whole.0.1)
    (fraction_lacks rest (places_digits (suc scale) n few) (omega (arith, places_length (suc scale) n few)))

number_lacks : (number : Number) → CanBeRead number → LacksOutside dots false (number_text number)
number_lacks number h =
    let z = number.units in
    rw (scaled-plain number.decimals z)
    (lacks-append dots (sign_text z) (plain number.decimals (unsigned_abs z)) false (sign_lacks z) (plain_lacks number.decimals (unsigned_abs z) h.few (abs_small z h.fits)))

date_lacks : (day : ℤ) → IsDay day → LacksOutside dots false (text_of_date day)
date_lacks day h =
    fails_lacks 46 (46 ∷ []) (text_of_date day) (date_fails (λ c. c == 39) refl (λ c k. other_byte c 39 k (omega arith)) day h)
    (date_fails (λ c. c == 46) refl (λ c k. other_byte c 46 k (omega arith)) day h)

dots_by : (form : Form) (value : ℤ) → IsIntervalEnd (record { form = form; value = value }) → LacksOutside dots false (text_in form value)
dots_by (Decimals decimals) value h = number_lacks (record { decimals = decimals; units = value }) (record { few = h.has; fits = h.fits })
dots_by Date value h = date_lacks value h.has

pub value_lacks : (end : IntervalEnd) → IsIntervalEnd end → LacksOutside dots false (text_of_end end)
value_lacks end h = dots_by end.form end.value h

-- ---- the words around values

dotted_lacks : (w : ℕ) (ws : List ℕ) (equal : Bool) (low high : List ℕ) → (46 == w) ≡ false → LacksOutside (w ∷ ws) false low → LacksOutside (w ∷ ws) false high →
    LacksOutside (w ∷ ws) false (dotted equal low high)
dotted_lacks w ws true low high other h k = h
dotted_lacks w ws false low high other h k =
    lacks-append (w ∷ ws) low (codes ".." ++ high) false h
    (lacks-append (w ∷ ws) (codes "..") high false (fails_lacks w ws (codes "..") (refl, (refl, tt)) (other, (other, tt))) k)

pub ends_lack : (w : ℕ) (ws : List ℕ) (ends : ShownEnds) → is_other w ≡ true → (39 == w) ≡ false → (46 == w) ≡ false → AreShownEnds ends →
    LacksOutside (w ∷ ws) false (text_of_ends ends)
ends_lack w ws (Values ends) h quote dot k =
    dotted_lacks w ws _ (text_in ends.form ends.low) (text_in ends.form ends.high) dot (end_lacks w ws (low_value ends) h k.low) (end_lacks w ws (high_value ends) h k.high)
ends_lack w ws (Texts ends) h quote dot k =
    dotted_lacks w ws _ (quoted_text ends.low) (quoted_text ends.high) dot (quoted_lacks w ws ends.low quote) (quoted_lacks w ws ends.high quote)
ends_lack w ws NoText h quote dot k = fails_lacks w ws (codes "-") (refl, tt) (fails_byte w (codes "-") h (refl, tt))

-- no comma stands in what a key may have in a column
pub part_lacks : (null : Bool) (ends : Option ShownEnds) → IsShownPart null ends → LacksOutside (codes ", ") false (part_text null ends)
part_lacks false None h = absurd h
part_lacks true None h = fails_lacks 44 (32 ∷ []) (codes "null") (refl, (refl, (refl, (refl, tt)))) (refl, (refl, (refl, (refl, tt))))
part_lacks false (Some ends) h = ends_lack 44 (32 ∷ []) ends refl refl refl h
part_lacks true (Some ends) h =
    let word = codes " or null" in
    lacks-append (codes ", ") (text_of_ends ends) word false (ends_lack 44 (32 ∷ []) ends refl refl refl h)
    (fails_lacks 44 (32 ∷ []) word (refl, (refl, (refl, (refl, (refl, (refl, (refl, (refl, tt)))))))) (refl, (refl, (refl, (refl, (refl, (refl, (refl, (refl, tt)))))))))

pub null_lacks : (ends : ShownEnds) → AreShownEnds ends → LacksOutside (codes " or null") false (text_of_ends ends)
null_lacks ends h = ends_lack 32 (111 ∷ 114 ∷ 32 ∷ 110 ∷ 117 ∷ 108 ∷ 108 ∷ []) ends refl refl refl h

-- ---- first bytes

unfoldable pub first : List ℕ → ℕ
first [] = 0
first (c ∷ cs) = c

pub first_plain : (text rest : List ℕ) → IsEnd text → is_other (first (text ++ rest)) ≡ false
unfolding first
first_plain [] rest h = absurd (let none = h.some in omega (arith, none))
first_plain (c ∷ cs) rest h = h.plain.0

first_dotted : (equal : Bool) (low high rest : List ℕ) → IsEnd low → is_other (first (dotted equal low high ++ rest)) ≡ false
first_dotted true low high rest h = first_plain low rest h
first_dotted false low high rest h = rw (append_assoc low (codes ".." ++ high) rest) (first_plain low ((codes ".." ++ high) ++ rest) h)

pub values_first : (ends : ValueEnds) (rest : List ℕ) → AreValueEnds ends → is_other (first (text_of_ends (Values ends) ++ rest)) ≡ false
values_first ends rest h = first_dotted _ (text_in ends.form ends.low) (text_in ends.form ends.high) rest (end_is_end (low_value ends) h.low)

quote_first : (rest : List ℕ) → first (codes "'" ++ rest) ≡ 39
unfolding first
quote_first rest = refl

-- they begin with no quote
pub no_quote : {P : Type 0} (ends : ValueEnds) (rest : List ℕ) → AreValueEnds ends → text_in ends.form ends.low ≡ codes "'" ++ rest → P
no_quote ends rest h e =
    let text = text_in ends.form ends.low in
    absurd (false≢true (sym (first_plain text [] (end_is_end (low_value ends) h.low)) ∙ ap (λ (t : List ℕ). is_other (first t)) (append-nil text ∙ e) ∙ ap is_other (quote_first rest)))

quoted_first : (equal : Bool) (a b rest : List ℕ) → first (dotted equal (quoted_text a) (quoted_text b) ++ rest) ≡ 39
unfolding first
quoted_first true a b rest = refl
quoted_first false a b rest = refl

pub texts_first : (ends : TextEnds) (rest : List ℕ) → first (text_of_ends (Texts ends) ++ rest) ≡ 39
texts_first ends rest = quoted_first _ ends.low ends.high rest

-- values are no texts
pub no_texts : {P : Type 0} (a : ValueEnds) (b : TextEnds) (r s : List ℕ) → AreValueEnds a → text_of_ends (Values a) ++ r ≡ text_of_ends (Texts b) ++ s → P
no_texts a b r s h e = absurd (false≢true (sym (values_first a r h) ∙ ap (λ (t : List ℕ). is_other (first t)) e ∙ ap is_other (texts_first b s)))

first_of_null : first (codes "null") ≡ 110
unfolding first
first_of_null = refl

dash_first : (rest : List ℕ) → first (codes "-" ++ rest) ≡ 45
unfolding first
dash_first rest = refl

-- nor is either the word null
pub not_null : {P : Type 0} (ends : ShownEnds) (rest : List ℕ) → AreShownEnds ends → text_of_ends ends ++ rest ≡ codes "null" → P
not_null (Values ends) rest h e = absurd (false≢true (sym (values_first ends rest h) ∙ ap (λ (t : List ℕ). is_other (first t)) e ∙ ap is_other first_of_null))
not_null (Texts ends) rest h e = absurd (let same : 39 ≡ 110 = sym (texts_first ends rest) ∙ ap first e ∙ first_of_null in omega (arith, same))
not_null NoText rest h e = absurd (let same : 45 ≡ 110 = sym (dash_first rest) ∙ ap first e ∙ first_of_null in omega (arith, same))

-- ---- a dash

plain_no_dash : (scale n : ℕ) → n < 2 ^ 128 → plain scale n ≡ codes "-" → ⊥
plain_no_dash zero n small e =
    let digits : AllDigits 10 (codes "-") = subst (AllDigits 10) e (decimal_is_IsNumeral_wide n (omega arith)).0.1 in
    let range = digit_from_value 45 digits.0 in
    omega (arith, range)
plain_no_dash (suc scale) n small e =
    let m = n / 10 ^ suc scale in
    let some = (decimal_is_IsNumeral_wide m (omega (arith, div-le_self n (10 ^ suc scale)))).0.0 in
    omega (arith, some, ap length e, length-append (decimal m) (46 ∷ places (suc scale) n))

dash_by : (z : ℤ) (scale : ℕ) → unsigned_abs z < 2 ^ 128 → sign_text z ++ plain scale (unsigned_abs z) ≡ codes "-" → ⊥
dash_by (pos n) scale small e = plain_no_dash scale n small e
dash_by (negsuc n) scale small e = omega (arith, ap length e, plain_some scale (suc n) small)

date_no_dash : (day : ℤ) → text_of_date day ≡ codes "-" → ⊥
date_no_dash day e = let whole = simp length-append at (ap length e) in omega (arith, whole)

value_no_dash : (form : Form) (value : ℤ) → IsIntervalEnd (record { form = form; value = value }) → text_in form value ≡ codes "-" → ⊥
value_no_dash (Decimals decimals) value h e = dash_by value decimals (abs_small value h.fits) (sym (scaled-plain decimals value) ∙ e)
value_no_dash Date value h e = date_no_dash value e

dotted_no_dash : (equal : Bool) (low high : List ℕ) → (low ≡ codes "-" → ⊥) → dotted equal low high ≡ codes "-" → ⊥
dotted_no_dash true low high h e = h e
dotted_no_dash false low high h e = omega (arith, ap length e, length-append low (codes ".." ++ high))

-- no value is shown so, and no text
pub no_dash : {P : Type 0} (ends : ValueEnds) → AreValueEnds ends → text_of_ends (Values ends) ≡ codes "-" → P
no_dash ends h e = absurd (dotted_no_dash _ (text_in ends.form ends.low) (text_in ends.form ends.high) (value_no_dash ends.form ends.low h.low) e)

pub no_quoted_dash : {P : Type 0} (ends : TextEnds) → text_of_ends (Texts ends) ≡ codes "-" → P
no_quoted_dash ends e =
    absurd (let same : 39 ≡ 45 = sym (texts_first ends []) ∙ ap (λ (t : List ℕ). first (t ++ [])) e ∙ dash_first [] in omega (arith, same))
