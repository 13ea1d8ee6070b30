-- That a number that is read is written as it stood, and that each is read.
use Rattle.std.proofs.Common.{lit<, Option, Some, None, IfSome, ◌≡◌, ℕ, zero, suc, ◌+◌, ◌-◌, ◌*◌, ◌/◌, ◌%◌, ◌^◌, ◌<◌, ◌≤◌, ◌==◌, true, false, List, [], ◌∷◌, ◌++◌, length, decimal, get_or, replicate, refl, sym, ap, subst, ◌∙◌, arith, ℤ, pos, negsuc, unsigned_abs, append_assoc}
use Rattle.std.proofs.Math.Nat.{div-le_self, pow-le-pow_right}
use Rattle.std.proofs.lemmas.Bool.{false≢true}
use Rattle.std.proofs.lemmas.Bool.Decides.{Decides-eqb}
use Rattle.std.proofs.lemmas.Fmt.{decimal_by_steps_wide, decimal_digit, decimal_is_IsNumeral_wide, decimal_step_wide, length-decimal-le_wide}
use Rattle.std.proofs.lemmas.Int.Digits.{digits_value-lt}
use Rattle.std.proofs.lemmas.List.{append-nil, get_or_append_left, length-append, length-drop}
use Rattle.std.proofs.lemmas.List.Sums.{passes_at_first, split_at_first}
use Rattle.std.proofs.lemmas.Nat.{div-mul-add, mod-mul-add}
use Rattle.std.proofs.lemmas.Str.{digit_value_digit}
use Rattle.std.proofs.lemmas.Str.Parse.{digit_from_value}
use Rattle.std.specs.Char.{digit_value}
use Rattle.std.specs.Option.{SomeIff}
use Rattle.std.specs.List.{after_first, before_first, position_or_len}
use Rattle.std.specs.Str.Parse.{AllDigits, digits_value, digits_value_after, starts_with_minus}
use Rattle.daq_table.proofs.CellDigits.{digits_after-ge}
use Rattle.daq_table.specs.Numbers.{digits_text, scaled_text, sign_text}
use Rattle.report_text.proofs.DigitTexts.{digits_after-split}
use Rattle.report_text.proofs.NumberTexts.{abs_small, magnitude_back, places_digits, places_length, places_of_plain, scaled-plain, sign_of_scaled, unsigned_of_scaled, whole_of_plain}
use Rattle.report_text.specs.Numbers.{CanBeRead, CanBeReadPlain, HasDigits, IsTrimmed, is_negative, number_text, plain, plain_text, unsigned_part}
use Rattle.report_text.specs.declared.numbers.Magnitude.{Magnitude}
use Rattle.report_text.specs.declared.numbers.Number.{Number}

-- ---- digits without a zero before others

-- the text of a number above 0 begins with no zero
abbrev Leads : ℕ → List ℕ → Type 0
Leads n ds = (0 < length ds) × (0 < n → get_or ds 0 0 ≡ 48 → ⊥)

leads : (n : ℕ) → n < 10 ^ 64 → Leads n (decimal n)
leads n h =
    decimal_by_steps_wide Leads
    (λ n few. (omega arith, λ some e. omega (arith, some, e)))
    (λ n ds ten p. (simp length-append (omega arith), λ some e. p.1 (omega (arith, ten)) (sym (get_or_append_left ds _ 0 0 p.0) ∙ e)))
    n h

trimmed_by : (n : ℕ) → n < 10 ^ 64 → get_or (decimal n) 0 0 ≡ 48 → length (decimal n) ≡ 1
trimmed_by zero h e = ap length (decimal_digit 0 (omega arith))
trimmed_by (suc n) h e = absurd ((leads (suc n) h).1 (omega arith) e)

pub decimal_trimmed : (n : ℕ) → n < 10 ^ 64 → IsTrimmed (decimal n)
decimal_trimmed n h = record { some = (leads n h).0; first = trimmed_by n h }

-- digits behind a number are written behind its text
decimal_after : (n : ℕ) (ds : List ℕ) → 0 < n → AllDigits 10 ds → digits_value_after 10 n ds < 10 ^ 64 → decimal (digits_value_after 10 n ds) ≡ decimal n ++ ds
decimal_after n [] some d small = sym (append-nil (decimal n))
decimal_after n (c ∷ cs) some d small =
    let m : ℕ = n * 10 + digit_value c in
    let k = digit_value_digit c (digit_from_value c d.0) in
    let front : m / 10 ≡ n = omega (arith, d.0) in
    let last : 48 + m % 10 ≡ c = omega (arith, d.0) in
    let step : decimal m ≡ decimal n ++ c ∷ [] = decimal_step_wide m (omega arith) (omega (arith, digits_after-ge m cs)) ∙ rw (front, last) in
    decimal_after m cs (omega arith) d.1 small ∙ ap (λ (x : List ℕ). x ++ cs) step ∙ append_assoc (decimal n) (c ∷ []) cs

one_digit : (c : ℕ) → digit_value c < 10 → decimal (0 * 10 + digit_value c) ≡ c ∷ []
one_digit c h =
    let k = digit_value_digit c (digit_from_value c h) in
    let is : 48 + (0 * 10 + digit_value c) ≡ c = omega arith in
    decimal_digit (0 * 10 + digit_value c) (omega (arith, h)) ∙ ap (λ (x : ℕ). x ∷ []) is

-- such digits are the text of their number
pub decimal_of_digits : (ds : List ℕ) → AllDigits 10 ds → IsTrimmed ds → digits_value 10 ds < 10 ^ 64 → decimal (digits_value 10 ds) ≡ ds
decimal_of_digits [] d t small = absurd (omega (arith, t.some))
decimal_of_digits (c ∷ []) d t small = one_digit c d.0
decimal_of_digits (c ∷ e ∷ cs) d t small =
    let k = digit_value_digit c (digit_from_value c d.0) in
    let no : c ≡ 48 → ⊥ = λ z. omega (arith, t.first z) in
    decimal_after (0 * 10 + digit_value c) (e ∷ cs) (omega arith) d.1 small ∙ ap (λ (x : List ℕ). x ++ (e ∷ cs)) (one_digit c d.0)

-- the texts of digits are read, and what is read stands as it is written
abbrev IsReadAs : Option ℕ → List ℕ → Type 0
IsReadAs r text = SomeIff r (AllDigits 10 text × (digits_value_after 10 0 text < 2 ^ 128)) (digits_value_after 10 0 text)

pub digits_read : (text : List ℕ) (n : ℕ) (r : Option ℕ) → IsReadAs r text → n < 2 ^ 128 → decimal n ≡ text → r ≡ Some n
digits_read text n None h few e =
    let ds = decimal_is_IsNumeral_wide n (omega arith) in
    let value : digits_value_after 10 0 text ≡ n = subst (λ (t : List ℕ). digits_value 10 t ≡ n) e ds.1 in
    absurd (h (subst (AllDigits 10) e ds.0.1, omega (arith, value, few)))
digits_read text n (Some m) h few e =
    let value : digits_value_after 10 0 text ≡ n = subst (λ (t : List ℕ). digits_value 10 t ≡ n) e (decimal_is_IsNumeral_wide n (omega arith)).1 in
    ap (λ (k : ℕ). Some k) (h.1 ∙ value)

pub digits_written : (text : List ℕ) (r : Option ℕ) → IsReadAs r text → IsTrimmed text → IfSome r (λ n. decimal n ≡ text)
digits_written text None h t = tt
digits_written text (Some n) h t = ap decimal h.1 ∙ decimal_of_digits text h.0.0 t (omega (arith, h.0.1))

pub no_number : (text : List ℕ) (n : ℕ) → n < 2 ^ 128 → decimal n ≡ text → IsTrimmed text
no_number text n few e = subst IsTrimmed e (decimal_trimmed n (omega arith))

-- ---- digits behind the point

digits_short : (k n : ℕ) → 0 < k → n < 10 ^ k → k ≤ 18 → length (decimal n) ≤ k
digits_short k n some few h =
    let ten : 0 < 10 = lit< tt in
    let most : 10 ^ k ≤ 10 ^ 18 = pow-le-pow_right ten h in
    length-decimal-le_wide k n some few (omega (arith, most, few))

-- a zero before digits
zero_before : (k n : ℕ) → length (decimal n) ≤ k → digits_text (suc k) n ≡ 48 ∷ digits_text k n
zero_before k n h =
    let more : suc k - length (decimal n) ≡ suc (k - length (decimal n)) = omega (arith, h) in
    ap (λ (i : ℕ). replicate i 48 ++ decimal n) more

full : (ds : List ℕ) (n : ℕ) → decimal n ≡ ds → digits_text (length ds) n ≡ ds
full ds n e =
    let none : length ds - length ds ≡ 0 = omega arith in
    rw (e, none)

places_by : (c e : ℕ) (cs : List ℕ) (d : ℕ) → digit_value c ≡ d → AllDigits 10 (c ∷ e ∷ cs) → length (c ∷ e ∷ cs) ≤ 18 →
    digits_text (length (e ∷ cs)) (digits_value 10 (e ∷ cs)) ≡ e ∷ cs →
    digits_text (length (c ∷ e ∷ cs)) (digits_value 10 (c ∷ e ∷ cs)) ≡ c ∷ e ∷ cs
places_by c e cs zero is all h rest =
    let ds = e ∷ cs in
    let n = digits_value 10 ds in
    let zero_digit : c ≡ 48 = omega (arith, is, digit_value_digit c (digit_from_value c all.0), digit_from_value c all.0) in
    let front : 0 * 10 + digit_value c ≡ 0 = omega (arith, is) in
    let same : digits_value 10 (c ∷ ds) ≡ n = ap (λ (k : ℕ). digits_value_after 10 k ds) front in
    let short = digits_short (length ds) n (omega arith) (digits_value-lt 10 ds all.1) (omega (arith, h)) in
    ap (λ (k : ℕ). digits_text (suc (length ds)) k) same ∙ zero_before (length ds) n short ∙ ap (λ (t : List ℕ). 48 ∷ t) rest ∙ ap (λ (k : ℕ). k ∷ ds) (sym zero_digit)
places_by c e cs (suc d) is all h rest =
    let ds = c ∷ e ∷ cs in
    let no : c ≡ 48 → length ds ≡ 1 = λ z. absurd (omega (arith, is, z, digit_value_digit c (digit_from_value c all.0))) in
    let ten : 0 < 10 = lit< tt in
    let most : 10 ^ length ds ≤ 10 ^ 18 = pow-le-pow_right ten h in
    full ds (digits_value 10 ds) (decimal_of_digits ds all (record { some = omega arith; first = no }) (omega (arith, most, digits_value-lt 10 ds all)))

-- digits are the text of their number in as many digits
pub digits_in_places : (ds : List ℕ) → 0 < length ds → AllDigits 10 ds → length ds ≤ 18 → digits_text (length ds) (digits_value 10 ds) ≡ ds
digits_in_places [] some d h = absurd (omega (arith, some))
digits_in_places (c ∷ []) some d h = full (c ∷ []) (digits_value 10 (c ∷ [])) (one_digit c d.0)
digits_in_places (c ∷ e ∷ cs) some d h = places_by c e cs (digit_value c) refl d h (digits_in_places (e ∷ cs) (omega arith) d.1 (omega (arith, h)))

-- ---- a number around its point

-- what the digits behind the point say of the units
pub record Follows (magnitude : Magnitude) (fraction : List ℕ) : Type 0 where
  pub many : length fraction ≡ magnitude.decimals
  pub digits : AllDigits 10 fraction
  pub value : digits_value_after 10 (magnitude.units / 10 ^ magnitude.decimals) fraction ≡ magnitude.units
  pub whole : magnitude.units / 10 ^ magnitude.decimals < 2 ^ 128

follows_by : (scale n : ℕ) → scale ≤ 18 → n < 2 ^ 128 → 0 < scale → Follows (record { decimals = scale; units = n }) (digits_text scale (n % 10 ^ scale))
follows_by zero n few fits some = absurd (omega (arith, some))
follows_by (suc scale) n few fits some =
    let k = suc scale in
    let front : digits_value 10 (decimal (n / 10 ^ k)) ≡ n / 10 ^ k = (decimal_is_IsNumeral_wide (n / 10 ^ k) (omega (arith, div-le_self n (10 ^ k)))).1 in
    record {
      many = places_length k n few;
      digits = places_digits k n few;
      value = subst (λ (m : ℕ). digits_value_after 10 m (digits_text k (n % 10 ^ k)) ≡ n) front (magnitude_back k n few fits);
      whole = omega (arith, div-le_self n (10 ^ k), fits);
    }

pub follows : (magnitude : Magnitude) (whole fraction : List ℕ) → CanBeReadPlain magnitude → HasDigits magnitude whole fraction → Follows magnitude fraction
follows magnitude whole fraction h d = subst (λ (t : List ℕ). Follows magnitude t) d.behind (follows_by magnitude.decimals magnitude.units h.few h.fits d.some)

-- the digits that were read
pub has_digits : (front n : ℕ) (whole fraction : List ℕ) → 0 < length fraction → length fraction ≤ 18 → decimal front ≡ whole → AllDigits 10 fraction →
    n ≡ digits_value_after 10 front fraction → HasDigits (record { decimals = length fraction; units = n }) whole fraction
has_digits front n whole fraction some few is digits value =
    let k = length fraction in
    let f = digits_value 10 fraction in
    let small : f < 10 ^ k = digits_value-lt 10 fraction digits in
    let units : n ≡ front * 10 ^ k + f = value ∙ digits_after-split front fraction in
    let before : n / 10 ^ k ≡ front = rw units (div-mul-add front (10 ^ k) f small) in
    let behind : n % 10 ^ k ≡ f = rw units (mod-mul-add front (10 ^ k) f small) in
    record { some = some; before = rw before is; behind = rw behind (digits_in_places fraction some digits few) }

-- ---- a text around its first point

pub no_length : (n : ℕ) → true ≡ (n == 0) → n ≡ 0
no_length n h = (Decides-eqb n 0).0 (sym h)

pub some_length : (n : ℕ) → false ≡ (n == 0) → 0 < n
some_length zero h = absurd (false≢true h)
some_length (suc n) h = omega arith

abbrev pub front_of : List ℕ → List ℕ
front_of text = before_first (λ (c : ℕ). c == 46) text

abbrev pub back_of : List ℕ → List ℕ
back_of text = after_first (λ (c : ℕ). c == 46) text

-- where nothing stands behind a point there are no decimals
whole_by : (scale n : ℕ) → scale ≤ 18 → n < 2 ^ 128 → length (back_of (plain scale n)) ≡ 0 → scale ≡ 0
whole_by scale n few fits h = omega (arith, h, ap length (places_of_plain scale n fits), places_length scale n few)

no_decimals : (scale n : ℕ) (text : List ℕ) → scale ≡ 0 → plain scale n ≡ text → decimal n ≡ text
no_decimals zero n text none e = e
no_decimals (suc scale) n text none e = absurd (omega (arith, none))

pub is_whole : (magnitude : Magnitude) (text : List ℕ) → CanBeReadPlain magnitude → plain_text magnitude ≡ text → length (back_of text) ≡ 0 → magnitude.decimals ≡ 0
is_whole magnitude text h e none = whole_by magnitude.decimals magnitude.units h.few h.fits (ap (λ (t : List ℕ). length (back_of t)) e ∙ none)

pub whole_text : (magnitude : Magnitude) (text : List ℕ) → CanBeReadPlain magnitude → plain_text magnitude ≡ text → length (back_of text) ≡ 0 → decimal magnitude.units ≡ text
whole_text magnitude text h e none = no_decimals magnitude.decimals magnitude.units text (is_whole magnitude text h e none) e

parted_by : (scale n : ℕ) → scale ≤ 18 → n < 2 ^ 128 → 0 < length (back_of (plain scale n)) →
    HasDigits (record { decimals = scale; units = n }) (front_of (plain scale n)) (back_of (plain scale n))
parted_by zero n few fits some = absurd (omega (arith, some, ap length (places_of_plain zero n fits)))
parted_by (suc scale) n few fits some =
    record { some = omega arith; before = sym (whole_of_plain (suc scale) n fits); behind = sym (places_of_plain (suc scale) n fits) }

pub is_parted : (magnitude : Magnitude) (text : List ℕ) → CanBeReadPlain magnitude → plain_text magnitude ≡ text → 0 < length (back_of text) →
    HasDigits magnitude (front_of text) (back_of text)
is_parted magnitude text h e some =
    subst (λ (t : List ℕ). HasDigits magnitude (front_of t) (back_of t)) e
    (parted_by magnitude.decimals magnitude.units h.few h.fits (subst (λ (t : List ℕ). 0 < length (back_of t)) (sym e) some))

plain_around : (scale n : ℕ) (whole fraction : List ℕ) → HasDigits (record { decimals = scale; units = n }) whole fraction → plain scale n ≡ whole ++ (46 ∷ fraction)
plain_around zero n whole fraction d = absurd (omega (arith, d.some))
plain_around (suc scale) n whole fraction d = rw (d.before, d.behind)

-- a text is what stands before the first such byte, the byte, and what stands behind it
pub around_byte : (byte : ℕ) (text : List ℕ) → 0 < length (after_first (λ (c : ℕ). c == byte) text) →
    before_first (λ (c : ℕ). c == byte) text ++ (byte ∷ after_first (λ (c : ℕ). c == byte) text) ≡ text
around_byte byte text some =
    let p = λ (c : ℕ). c == byte in
    let place : position_or_len p text < length text = omega (arith, some, length-drop (position_or_len p text + 1) text) in
    let is : get_or text (position_or_len p text) 0 ≡ byte = (Decides-eqb (get_or text (position_or_len p text) 0) byte).0 (passes_at_first p text 0 place) in
    ap (λ (c : ℕ). before_first p text ++ (c ∷ after_first p text)) (sym is) ∙ sym (split_at_first p text 0 place)

pub parted_written : (magnitude : Magnitude) (text : List ℕ) → 0 < length (back_of text) → HasDigits magnitude (front_of text) (back_of text) → plain_text magnitude ≡ text
parted_written magnitude text some d = plain_around magnitude.decimals magnitude.units (front_of text) (back_of text) d ∙ around_byte 46 text some

-- ---- the sign

pub sign_of_number : (number : Number) (text : List ℕ) → CanBeRead number → number_text number ≡ text → is_negative number.units ≡ starts_with_minus text
sign_of_number number text h e =
    sym (sign_of_scaled number.decimals number.units (abs_small number.units h.fits))
    ∙ ap starts_with_minus (sym (scaled-plain number.decimals number.units) ∙ e)

pub plain_of_number : (number : Number) (text : List ℕ) → CanBeRead number → number_text number ≡ text → plain number.decimals (unsigned_abs number.units) ≡ unsigned_part text
plain_of_number number text h e =
    sym (unsigned_of_scaled number.decimals number.units (abs_small number.units h.fits))
    ∙ ap (λ (t : List ℕ). unsigned_part t) (sym (scaled-plain number.decimals number.units) ∙ e)

sign_before : (z : ℤ) (text : List ℕ) → is_negative z ≡ starts_with_minus text → sign_text z ++ unsigned_part text ≡ text
sign_before (pos n) text e = rw (← e) refl
sign_before (negsuc n) [] e = absurd (false≢true (sym e))
sign_before (negsuc n) (c ∷ cs) e =
    let minus : c ≡ 45 = (Decides-eqb c 45).0 (sym e) in
    rw (← e) (ap (λ (k : ℕ). k ∷ cs) (sym minus))

pub number_written : (scale : ℕ) (z : ℤ) (text : List ℕ) → is_negative z ≡ starts_with_minus text → plain scale (unsigned_abs z) ≡ unsigned_part text → scaled_text scale z ≡ text
number_written scale z text sign e = scaled-plain scale z ∙ ap (λ (t : List ℕ). sign_text z ++ t) e ∙ sign_before z text sign
