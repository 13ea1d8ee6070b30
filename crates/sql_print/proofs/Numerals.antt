-- The printed form of a number is cut into a number of the same units and scale.
use Rattle.std.proofs.Common.{◌≡◌, ℕ, zero, suc, ◌+◌, ◌-◌, ◌*◌, ◌^◌, ◌%◌, ◌/◌, ◌<◌, ◌≤◌, List, [], ◌∷◌, ◌++◌, length, take, drop, reverse, replicate, Bool, true, false, cond, eqb, ltb, ◌||◌, Some, ◌⊎◌, inl, inr, refl, sym, ap, subst, ◌∙◌, append_assoc, arith}
use Rattle.std.specs.Prelude.{decimal, ℤ, pos, negsuc}
use Rattle.std.specs.List.{prefix_len}
use Rattle.std.proofs.lemmas.Bool.{ne_eqb, lt-ltb}
use Rattle.std.proofs.lemmas.Bool.Decides.{nat_tests}
use Rattle.std.proofs.lemmas.Fmt.{decimal_by_steps}
use Rattle.std.proofs.lemmas.List.{append-nil, length-append, length-drop, length-replicate, length-take-le, reverse-append, take-append-drop, take-append-le, drop-append-le, take_all}
use Rattle.sql_tokens.specs.declared.byte.Class.{Class}
use Rattle.sql_tokens.specs.declared.byte.Class.TheVariants.{Blank, Letter, Digit, Quote, Apostrophe, Other}
use Rattle.sql_tokens.specs.declared.token.Fixed.TheVariants as fixed
use Rattle.sql_tokens.specs.Lexeme.{Mark, FIXED, NUMBER}
use Rattle.sql_tokens.specs.Byte.{class_of, is_digit, in_number, is_zero, within, Each}
use Rattle.sql_tokens.specs.Spelling.{value_from, trimmed, number_mark, one_sign, two_sign}
use Rattle.sql_tokens.specs.Reads.{fraction_at, number_at, by_class, token_at}
use Rattle.sql_tokens.proofs.Units.{value_from-append, held_small}
use Rattle.sql_print.specs.Printed.{digits_of, pointed, sign_text, size_of}
use Rattle.sql_print.proofs.ExprBack.{units_marks}
use Rattle.sql_print.proofs.Spelled.{Safe, Any, safe_cases, Cuts, cuts_append, cuts_token, cuts_sign, NotFirst, front_is, rest_is, exact_len}

-- ---- digits

digit_class : (n : ℕ) → n < 10 → class_of (48 + n) ≡ Digit
unfolding class_of
digit_class zero h = refl
digit_class (suc zero) h = refl
digit_class (suc (suc zero)) h = refl
digit_class (suc (suc (suc zero))) h = refl
digit_class (suc (suc (suc (suc zero)))) h = refl
digit_class (suc (suc (suc (suc (suc zero))))) h = refl
digit_class (suc (suc (suc (suc (suc (suc zero)))))) h = refl
digit_class (suc (suc (suc (suc (suc (suc (suc zero))))))) h = refl
digit_class (suc (suc (suc (suc (suc (suc (suc (suc zero)))))))) h = refl
digit_class (suc (suc (suc (suc (suc (suc (suc (suc (suc zero))))))))) h = refl
digit_class (suc (suc (suc (suc (suc (suc (suc (suc (suc (suc n)))))))))) h = absurd (omega arith)

each_append : (p : ℕ → Bool) (s t : List ℕ) → Each p s → Each p t → Each p (s ++ t)
each_append p [] t h k = k
each_append p (b ∷ s) t h k = (h.0, each_append p s t h.1 k)

pub each_left : (p : ℕ → Bool) (s t : List ℕ) → Each p (s ++ t) → Each p s
each_left p [] t h = tt
each_left p (b ∷ s) t h = (h.0, each_left p s t h.1)

pub each_right : (p : ℕ → Bool) (s t : List ℕ) → Each p (s ++ t) → Each p t
each_right p [] t h = h
each_right p (b ∷ s) t h = each_right p s t h.1

-- digits that spell n, and the last of them
record Spells (n : ℕ) (ds : List ℕ) : Type 0 where
  each : Each in_number ds
  value : value_from 0 ds ≡ n
  front : List ℕ
  last : ds ≡ front ++ ((48 + n % 10) ∷ [])

value_one : (n d : ℕ) → value_from n (d ∷ []) ≡ 10 * n + (d - 48)
unfolding value_from
value_one n d = refl

spells_one : (n : ℕ) → n < 10 → Spells n ((48 + n) ∷ [])
spells_one n h = record {
  each = (ap is_digit (digit_class n h), tt);
  value = value_one 0 (48 + n) ∙ omega arith;
  front = [];
  last = let e : n ≡ n % 10 = omega arith in ap (λ d. (48 + d) ∷ []) e;
}

spells_more : (n : ℕ) (ds : List ℕ) → 10 ≤ n → Spells (n / 10) ds → Spells n (ds ++ ((48 + n % 10) ∷ []))
spells_more n ds h k = record {
  each = each_append in_number ds ((48 + n % 10) ∷ []) k.each (ap is_digit (digit_class (n % 10) (omega arith)), tt);
  value = value_from-append 0 ds ((48 + n % 10) ∷ []) ∙ ap (λ m. value_from m ((48 + n % 10) ∷ [])) k.value ∙ value_one (n / 10) (48 + n % 10) ∙ omega arith;
  front = ds;
  last = refl;
}

spells_decimal : (n : ℕ) → n < 2 ^ 64 → Spells n (decimal n)
spells_decimal n h = decimal_by_steps Spells spells_one spells_more n h

zeros_each : (k : ℕ) → Each in_number (replicate k 48)
unfolding class_of
zeros_each zero = tt
zeros_each (suc k) = (refl, zeros_each k)

zeros_value : (k : ℕ) (ds : List ℕ) → value_from 0 (replicate k 48 ++ ds) ≡ value_from 0 ds
unfolding value_from
zeros_value zero ds = refl
zeros_value (suc k) ds = zeros_value k ds

-- the digits that are printed
pub record Digits (u s : ℕ) (ds : List ℕ) : Type 0 where
  pub each : Each in_number ds
  pub value : value_from 0 ds ≡ u
  pub front : List ℕ
  pub last : ds ≡ front ++ ((48 + u % 10) ∷ [])
  pub long : s < length ds

pub digits_are : (u s : ℕ) → u < 2 ^ 64 → Digits u s (digits_of u s)
unfolding digits_of
digits_are u s h =
    let k = spells_decimal u h in
    let z : ℕ = (s + 1) - length (decimal u) in
    record {
      each = each_append in_number (replicate z 48) (decimal u) (zeros_each z) k.each;
      value = zeros_value z (decimal u) ∙ k.value;
      front = replicate z 48 ++ k.front;
      last = ap (λ r. replicate z 48 ++ r) k.last ∙ sym (append_assoc (replicate z 48) k.front ((48 + u % 10) ∷ []));
      long = omega (arith, length-append (replicate z 48) (decimal u), length-replicate {A = ℕ} z 48);
    }

-- ---- numbers without a point

trimmed_nothing : trimmed [] ≡ []
unfolding trimmed
trimmed_nothing = refl

whole_mark : (ds : List ℕ) (u : ℕ) → value_from 0 ds ≡ u → u ≤ 2 ^ 63 → number_mark ds [] ≡ NUMBER (Some u) 0
unfolding number_mark
whole_mark ds u e h = rw (trimmed_nothing, append-nil ds, e, held_small u h) refl

not_digit : (w : List ℕ) → Safe w → NotFirst in_number w
unfolding class_of
not_digit [] h = tt
not_digit (c ∷ w) h = safe_cases (λ c. in_number c ≡ false) refl refl refl c h

no_fraction : (ds w : List ℕ) → Safe w → fraction_at ds w ≡ (number_mark ds [], w)
unfolding fraction_at
no_fraction ds [] h = refl
no_fraction ds (c ∷ w) h =
    let not_point : eqb c 46 ≡ false = safe_cases (λ c. eqb c 46 ≡ false) refl refl refl c h in
    rw not_point refl

first_digit : (b : ℕ) (w : List ℕ) → Each in_number (b ∷ w) → class_of b ≡ Digit
first_digit b w h = digit_is (class_of b) h.0
  where
    digit_is : (c : Class) → is_digit c ≡ true → c ≡ Digit
    digit_is Digit e = refl
    digit_is Blank e = absurd cc
    digit_is Letter e = absurd cc
    digit_is Quote e = absurd cc
    digit_is Apostrophe e = absurd cc
    digit_is Other e = absurd cc

number_first : (b : ℕ) (w : List ℕ) → class_of b ≡ Digit → token_at (b ∷ w) ≡ Some (number_at (b ∷ w))
unfolding token_at
number_first b w c = ap (λ k. by_class k b w) c

digits_read : (ds w : List ℕ) → Each in_number ds → 0 < length ds → token_at (ds ++ w) ≡ Some (number_at (ds ++ w))
digits_read [] w each h = absurd (omega arith)
digits_read (b ∷ ds) w each h = number_first b (ds ++ w) (first_digit b ds each)

number_parts : (ds w : List ℕ) → Each in_number ds → NotFirst in_number w → number_at (ds ++ w) ≡ fraction_at ds w
unfolding number_at
number_parts ds w each h = ap (λ r. fraction_at r (drop (prefix_len in_number (ds ++ w)) (ds ++ w))) (front_is in_number ds w each h) ∙ ap (fraction_at ds) (rest_is in_number ds w each h)

whole_exact : (ds w : List ℕ) (u : ℕ) → Each in_number ds → 0 < length ds → value_from 0 ds ≡ u → u ≤ 2 ^ 63 → Safe w → token_at (ds ++ w) ≡ Some (NUMBER (Some u) 0, w)
whole_exact ds w u each long e h s =
    digits_read ds w each long ∙ ap Some (number_parts ds w each (not_digit w s) ∙ no_fraction ds w s ∙ ap (λ (m : Mark). (m, w)) (whole_mark ds u e h))

-- ---- numbers with a point

trimmed_last : (g : List ℕ) (d : ℕ) → eqb d 48 ≡ false → trimmed (g ++ (d ∷ [])) ≡ g ++ (d ∷ [])
unfolding trimmed
trimmed_last g d h =
    let f : List ℕ = g ++ (d ∷ []) in
    let r : reverse f ≡ d ∷ reverse g = reverse-append g (d ∷ []) in
    let n : prefix_len is_zero (reverse f) ≡ 0 = ap (prefix_len is_zero) r ∙ rw h refl in
    ap (λ k. take (length f - k) f) n ∙ take_all (length f - 0) f (omega arith)

point_ends : (w : List ℕ) → NotFirst in_number (46 ∷ w)
unfolding class_of
point_ends w = refl

point_fraction : (whole f w : List ℕ) → Each in_number f → 0 < length f → Safe w → fraction_at whole (46 ∷ (f ++ w)) ≡ (number_mark whole f, w)
unfolding fraction_at
point_fraction whole f w each long s =
    let n = exact_len in_number f w each (not_digit w s) in
    let some : ltb 0 (prefix_len in_number (f ++ w)) ≡ true = lt-ltb 0 (prefix_len in_number (f ++ w)) (omega (arith, n, long)) in
    rw some (ap (λ r. (number_mark whole r, drop (prefix_len in_number (f ++ w)) (f ++ w))) (front_is in_number f w each (not_digit w s)) ∙ ap (λ r. (number_mark whole f, r)) (rest_is in_number f w each (not_digit w s)))

point_mark : (whole f : List ℕ) (u s : ℕ) → trimmed f ≡ f → value_from 0 (whole ++ f) ≡ u → length f ≡ s → u ≤ 2 ^ 63 → number_mark whole f ≡ NUMBER (Some u) s
unfolding number_mark
point_mark whole f u s t e l h = rw (t, e, l, held_small u h) refl

point_exact : (whole f w : List ℕ) (u s : ℕ) → Each in_number whole → 0 < length whole → Each in_number f → 0 < length f → trimmed f ≡ f → value_from 0 (whole ++ f) ≡ u → length f ≡ s → u ≤ 2 ^ 63 → Safe w
    → token_at ((whole ++ (46 ∷ f)) ++ w) ≡ Some (NUMBER (Some u) s, w)
point_exact whole f w u s ew lw ef lf t e l h safe =
    ap token_at (append_assoc whole (46 ∷ f) w) ∙ digits_read whole (46 ∷ (f ++ w)) ew lw
    ∙ ap Some (number_parts whole (46 ∷ (f ++ w)) ew (point_ends (f ++ w)) ∙ point_fraction whole f w ef lf safe ∙ ap (λ (m : Mark). (m, w)) (point_mark whole f u s t e l h))

-- ---- printed numbers

-- what a number of a scale keeps: its last digit counts
abbrev pub KeepsLast : ℕ → ℕ → Type 0
KeepsLast u zero = Unit {0}
KeepsLast u (suc s) = 0 < u % 10

pub cuts_units : (u s : ℕ) → u ≤ 2 ^ 63 → KeepsLast u s → Cuts Safe (pointed (digits_of u s) s) (NUMBER (Some u) s ∷ [])
unfolding pointed
cuts_units u zero h k =
    let d = digits_are u 0 (omega arith) in
    let long = d.long in
    cuts_token Safe (digits_of u 0) (NUMBER (Some u) 0) (λ w safe. whole_exact (digits_of u 0) w u d.each (omega (arith, long)) d.value h safe)
cuts_units u (suc s) h k =
    let ds : List ℕ = digits_of u (suc s) in
    let d = digits_are u (suc s) (omega arith) in
    let long : suc s < length ds = d.long in
    let n : ℕ = length ds - suc s in
    let all : take n ds ++ drop n ds ≡ ds = take-append-drop n ds in
    let parts : Each in_number (take n ds ++ drop n ds) = subst (Each in_number) (sym all) d.each in
    let l : length ds ≡ length d.front + 1 = ap length d.last ∙ length-append d.front ((48 + u % 10) ∷ []) in
    let f-is : drop n ds ≡ drop n d.front ++ ((48 + u % 10) ∷ []) = ap (drop n) d.last ∙ drop-append-le n d.front ((48 + u % 10) ∷ []) (omega (arith, l)) in
    let keeps : eqb (48 + u % 10) 48 ≡ false = ne_eqb (48 + u % 10) 48 (λ e. omega (arith, e, k)) in
    let whole : trimmed (drop n ds) ≡ drop n ds = ap trimmed f-is ∙ trimmed_last (drop n d.front) (48 + u % 10) keeps ∙ sym f-is in
    let len : length (drop n ds) ≡ suc s = length-drop n ds ∙ omega (arith, long) in
    let front : length (take n ds) ≡ n = length-take-le n ds (omega arith) in
    let no_zero : eqb (suc s) 0 ≡ false = ne_eqb (suc s) 0 (λ e. omega arith) in
    rw no_zero (cuts_token Safe (take n ds ++ (46 ∷ drop n ds)) (NUMBER (Some u) (suc s))
    (λ w safe. point_exact (take n ds) (drop n ds) w u (suc s) (each_left in_number (take n ds) (drop n ds) parts) (omega (arith, front, long)) (each_right in_number (take n ds) (drop n ds) parts) (omega (arith, len)) whole (ap (value_from 0) all ∙ d.value) len h safe))

pub cuts_minus : Cuts Any (45 ∷ []) (FIXED fixed.Minus ∷ [])
unfolding class_of one_sign two_sign
cuts_minus = cuts_sign Any 45 fixed.Minus refl refl (λ w s c v e. refl)

abbrev pub KeepsUnits : ℤ → ℕ → Type 0
KeepsUnits (pos u) s = (u ≤ 2 ^ 63) × KeepsLast u s
KeepsUnits (negsuc u) s = (suc u ≤ 2 ^ 63) × KeepsLast (suc u) s

pub cuts_number : (z : ℤ) (s : ℕ) → KeepsUnits z s → Cuts Safe (sign_text z ++ pointed (digits_of (size_of z) s) s) (units_marks z s)
cuts_number (pos u) s k = cuts_units u s k.0 k.1
cuts_number (negsuc u) s k = cuts_append Any Safe (45 ∷ []) (pointed (digits_of (suc u) s) s) (FIXED fixed.Minus ∷ []) (NUMBER (Some (suc u)) s ∷ []) (λ w h. tt) cuts_minus (cuts_units (suc u) s k.0 k.1)

-- ---- numbers of a text

chosen : (t1 t2 t3 t4 t5 : Bool) → Class
chosen t1 t2 t3 t4 t5 = cond t1 Blank (cond t2 Letter (cond t3 Digit (cond t4 Quote (cond t5 Apostrophe Other))))

chosen_digit : (t1 t2 t3 t4 t5 : Bool) → is_digit (chosen t1 t2 t3 t4 t5) ≡ true → t3 ≡ true
unfolding chosen
chosen_digit true t2 t3 t4 t5 h = absurd cc
chosen_digit false true t3 t4 t5 h = absurd cc
chosen_digit false false true t4 t5 h = refl
chosen_digit false false false true t5 h = absurd cc
chosen_digit false false false false true h = absurd cc
chosen_digit false false false false false h = absurd cc

digit_range : (b : ℕ) → in_number b ≡ true → (48 ≤ b) × (b < 58)
unfolding class_of chosen
digit_range b h =
    let w : within 48 57 b ≡ true = chosen_digit (eqb b 32 || eqb b 9 || eqb b 10 || eqb b 13) (within 65 90 b || within 97 122 b || eqb b 95) (within 48 57 b) (eqb b 34) (eqb b 39) h in
    (grind (arith, nat_tests, w), grind (arith, nat_tests, w))

not_zero : (d : ℕ) → 48 ≤ d → eqb d 48 ≡ false → 48 < d
not_zero d le e = grind (arith, nat_tests, e)

-- digits of which the last one counts, or none
unfoldable pub Counts : List ℕ → Type 0
Counts f = (f ≡ []) ⊎ ((g : List ℕ) × (d : ℕ) × (f ≡ g ++ (d ∷ [])) × (48 < d) × (d < 58))

pub counted : (r : List ℕ) → Each in_number r → Counts (take (length (reverse r) - prefix_len is_zero r) (reverse r))
unfolding Counts
counted [] each = inl refl
counted (d ∷ r) each = go (counted r each.1) (eqb d 48) refl
  where
    back : reverse (d ∷ r) ≡ reverse r ++ (d ∷ [])
    back = reverse-append (d ∷ []) r

    len : length (reverse (d ∷ r)) ≡ length (reverse r) + 1
    len = ap length back ∙ length-append (reverse r) (d ∷ [])

    go : Counts (take (length (reverse r) - prefix_len is_zero r) (reverse r)) → (t : Bool) → eqb d 48 ≡ t → Counts (take (length (reverse (d ∷ r)) - cond t (1 + prefix_len is_zero r) 0) (reverse (d ∷ r)))
    go ih true e =
        let k : length (reverse (d ∷ r)) - (1 + prefix_len is_zero r) ≡ length (reverse r) - prefix_len is_zero r = omega (arith, len) in
        let same : take (length (reverse (d ∷ r)) - (1 + prefix_len is_zero r)) (reverse (d ∷ r)) ≡ take (length (reverse r) - prefix_len is_zero r) (reverse r) =
        ap (λ n. take n (reverse (d ∷ r))) k ∙ ap (take (length (reverse r) - prefix_len is_zero r)) back ∙ take-append-le (length (reverse r) - prefix_len is_zero r) (reverse r) (d ∷ []) (omega arith) in
        subst Counts (sym same) ih
    go ih false e =
        let range = digit_range d each.0 in
        let all : take (length (reverse (d ∷ r)) - 0) (reverse (d ∷ r)) ≡ reverse r ++ (d ∷ []) = take_all (length (reverse (d ∷ r)) - 0) (reverse (d ∷ r)) (omega arith) ∙ back in
        inr (reverse r, d, all, not_zero d range.0 e, range.1)
