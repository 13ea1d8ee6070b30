-- Rows come before one another as their places say.
use Rattle.std.proofs.Common.{◌≡◌, ℕ, zero, suc, ◌+◌, ◌-◌, ◌*◌, ◌^◌, ◌<◌, ◌≤◌, ◌==◌, min, ℤ, pos, ◌+ℤ◌, ◌<ℤ◌, ◌≤ℤ◌, int_lt, Bool, true, false, cond, ◌&&◌, ◌||◌, nat_eq, nat_lt, List, length, map, get_or, ◌⊎◌, inl, inr, refl, sym, ap, subst, ◌∙◌, arith, Option, Some, None}
use Rattle.std.specs.Ordering.{int_eq}
use Rattle.std.proofs.Math.Nat.{mul-le-mul_right, pow-suc}
use Rattle.std.proofs.lemmas.Bool.{cases_Bool, cases_eq, cases_lt, cond-true, cond-false, lt-ltb, or_from, or_left}
use Rattle.std.proofs.lemmas.Bool.Decides.{nat_tests}
use Rattle.std.proofs.lemmas.Int.{ints}
use Rattle.std.proofs.lemmas.Nat.{pow_pos}
use Rattle.daq_table.specs.declared.head.Ends.{Ends}
use Rattle.daq_table.specs.Tables.{first_code, planes, spread}
use Rattle.query_model.specs.declared.bounds.Nullity.{Nullity}
use Rattle.query_model.specs.declared.bounds.Nullity.TheVariants.{Never, Possibly, Always}
use Rattle.query_model.specs.Knowledge.{IsLegal, block, null_with, prefix_of, range_of}
use Rattle.query_model.specs.Ranking.{comes_before, first_end, last_end}
use Rattle.query_model.specs.Truths.{Range, may_be_null, may_be_number}
use Rattle.query_model.proofs.Blocks.{legal_cases, prefixes_are_legal, range_ordered, reaches_first}
use Rattle.query_model.proofs.Groups.{prefix_small}
use Rattle.query_model.proofs.Integers.{equal_when, when_equal}
use Rattle.query_model.proofs.Nesting.{longer_at}
use Rattle.known_column.specs.Columns.{KnownColumn, digit_of, range_at, read_further, rows_of_column}
use Rattle.known_column.specs.RowBlocks.{IsKnownColumn}
use Rattle.known_column.proofs.CodeDigits.{least_nullable}
use Rattle.topk_bounds.specs.declared.rivals.Rivals.{Rivals}
use Rattle.topk_bounds.specs.declared.rivals.Rivals.TheVariants.{Must, May}
use Rattle.topk_bounds.specs.Standings.{comes, is_in}
use Rattle.topk_bounds.specs.Cuts.{comes_first, differ, is_later, is_wide, next_place, place_after, place_in}
use Rattle.topk_bounds.proofs.Marks.{in_map}
use Rattle.topk_bounds.proofs.Digits.{place_longer, place_next, place_down, place_null, place_number, place_up}

-- ---- values

lt_is : (a b : ℤ) → a <ℤ b → int_lt a b ≡ true
lt_is a b h = (let e : true ≡ int_lt a b = omega (arith, ints) in sym e)

not_lt_is : (a b : ℤ) → b ≤ℤ a → int_lt a b ≡ false
not_lt_is a b h = (let e : false ≡ int_lt a b = omega (arith, ints) in sym e)

not_eq_is : (a b : ℤ) → a <ℤ b → int_eq b a ≡ false
not_eq_is a b h = elim (cases_Bool (int_eq b a)) [
  | inr f ↦ f
  | inl t ↦ (let same = equal_when b a t in absurd (omega (arith, ints)))
]

-- one value comes before another, whatever the rows
abbrev IsBefore : Bool → Option ℤ → Option ℤ → Type 0
IsBefore down a b = (y x : ℕ) → (comes_before down a y b x ≡ true) × (comes_before down b x a y ≡ false)

less_first : (a b : ℤ) → a <ℤ b → IsBefore false (Some a) (Some b)
less_first a b h y x = (
  or_left (int_lt a b) (int_eq a b && nat_lt y x) (lt_is a b h),
  or_from (int_lt b a) (int_eq b a && nat_lt x y) (not_lt_is b a (omega (arith, ints))) (ap (λ e. e && nat_lt x y) (not_eq_is a b h)),
)

greater_first : (a b : ℤ) → b <ℤ a → IsBefore true (Some a) (Some b)
greater_first a b h y x = (
  or_left (int_lt b a) (int_eq a b && nat_lt y x) (lt_is b a h),
  or_from (int_lt a b) (int_eq b a && nat_lt x y) (not_lt_is a b (omega (arith, ints))) (ap (λ e. e && nat_lt x y) (apart a b h)),
)
  where
    apart : (a b : ℤ) → b <ℤ a → int_eq b a ≡ false
    apart a b h = elim (cases_Bool (int_eq b a)) [
      | inr f ↦ f
      | inl t ↦ (let same = equal_when b a t in absurd (omega (arith, ints)))
    ]

numbers_first : (down : Bool) (a : ℤ) → IsBefore down (Some a) None
numbers_first down a y x = (refl, refl)

-- ---- ranges

-- all values of one range come before all of another: numbers before null, and numbers apart
record IsAhead (down : Bool) (r s : Range) : Type 0 where
  ordered : r.numbers.low ≤ℤ r.numbers.high
  other_ordered : s.numbers.low ≤ℤ s.numbers.high
  number : r.null ≡ Never
  other : (s.null ≡ Always) ⊎ ((s.null ≡ Never) × cond down (s.numbers.high <ℤ r.numbers.low) (r.numbers.high <ℤ s.numbers.low))

first_number : (down : Bool) (r : Range) → r.null ≡ Never → first_end down r ≡ Some (cond down r.numbers.high r.numbers.low)
first_number down r e = ap (λ (w : Nullity). cond (may_be_number w) (Some (cond down r.numbers.high r.numbers.low)) None) e

last_number : (down : Bool) (r : Range) → r.null ≡ Never → last_end down r ≡ Some (cond down r.numbers.low r.numbers.high)
last_number down r e = ap (λ (w : Nullity). cond (may_be_null w) None (Some (cond down r.numbers.low r.numbers.high))) e

first_null : (down : Bool) (r : Range) → r.null ≡ Always → first_end down r ≡ None
first_null down r e = ap (λ (w : Nullity). cond (may_be_number w) (Some (cond down r.numbers.high r.numbers.low)) None) e

last_null : (down : Bool) (r : Range) → r.null ≡ Always → last_end down r ≡ None
last_null down r e = ap (λ (w : Nullity). cond (may_be_null w) None (Some (cond down r.numbers.low r.numbers.high))) e

by_values : (down : Bool) (a a' b b' : Option ℤ) → a ≡ a' → b ≡ b' → IsBefore down a' b' → IsBefore down a b
by_values down a a' b b' e k h = subst (λ (v : Option ℤ). IsBefore down v b) (sym e) (subst (λ (v : Option ℤ). IsBefore down a' v) (sym k) h)

ends_before : (down : Bool) (r s : Range) → IsAhead down r s → IsBefore down (last_end down r) (first_end down s) × IsBefore down (first_end down r) (last_end down s)
ends_before down r s is = by down is.other
  where
    by : (d : Bool) → (s.null ≡ Always) ⊎ ((s.null ≡ Never) × cond d (s.numbers.high <ℤ r.numbers.low) (r.numbers.high <ℤ s.numbers.low)) →
        IsBefore d (last_end d r) (first_end d s) × IsBefore d (first_end d r) (last_end d s)
    by d (inl null) = (
      by_values d (last_end d r) (Some (cond d r.numbers.low r.numbers.high)) (first_end d s) None (last_number d r is.number) (first_null d s null) (numbers_first d (cond d r.numbers.low r.numbers.high)),
      by_values d (first_end d r) (Some (cond d r.numbers.high r.numbers.low)) (last_end d s) None (first_number d r is.number) (last_null d s null) (numbers_first d (cond d r.numbers.high r.numbers.low)),
    )
    by true (inr (never, apart)) =
        let o = is.ordered in
        let k = is.other_ordered in (
          by_values true (last_end true r) (Some r.numbers.low) (first_end true s) (Some s.numbers.high) (last_number true r is.number) (first_number true s never) (greater_first r.numbers.low s.numbers.high apart),
          by_values true (first_end true r) (Some r.numbers.high) (last_end true s) (Some s.numbers.low) (first_number true r is.number) (last_number true s never) (greater_first r.numbers.high s.numbers.low (omega (arith, ints))),
        )
    by false (inr (never, apart)) =
        let o = is.ordered in
        let k = is.other_ordered in (
          by_values false (last_end false r) (Some r.numbers.high) (first_end false s) (Some s.numbers.low) (last_number false r is.number) (first_number false s never) (less_first r.numbers.high s.numbers.low apart),
          by_values false (first_end false r) (Some r.numbers.low) (last_end false s) (Some s.numbers.high) (first_number false r is.number) (last_number false s never) (less_first r.numbers.low s.numbers.high (omega (arith, ints))),
        )

comes_ahead : (rivals : Rivals) (down : Bool) (r s : Range) (y x : ℕ) → IsAhead down r s → (comes rivals down r y s x ≡ true) × (comes rivals down s x r y ≡ false)
comes_ahead Must down r s y x is = (let both = ends_before down r s is in ((both.0 y x).0, (both.1 y x).1))
comes_ahead May down r s y x is = (let both = ends_before down r s is in ((both.1 y x).0, (both.0 y x).1))

-- ---- one range

abbrev pub is_may : Rivals → Bool
is_may Must = false
is_may May = true

same_int : (a : ℤ) → int_eq a a ≡ true
same_int a = when_equal a a refl

tied_at : (down : Bool) (a : ℤ) (y x : ℕ) → comes_before down (Some a) y (Some a) x ≡ nat_lt y x
tied_at true a y x = ap (λ b. b || (int_eq a a && nat_lt y x)) (not_lt_is a a (omega (arith, ints))) ∙ ap (λ b. b && nat_lt y x) (same_int a)
tied_at false a y x = ap (λ b. b || (int_eq a a && nat_lt y x)) (not_lt_is a a (omega (arith, ints))) ∙ ap (λ b. b && nat_lt y x) (same_int a)

abbrev range_by : Nullity → ℤ → ℤ → Range
range_by null low high = record { null = null; numbers = record { low = low; high = high } }

tied : (rivals : Rivals) (down : Bool) (null : Nullity) (low high : ℤ) (y x : ℕ) → low ≤ℤ high →
    comes rivals down (range_by null low high) y (range_by null low high) x ≡ cond (differ null (record { low = low; high = high })) (is_may rivals) (nat_lt y x)
tied Must down Possibly low high y x h = refl
tied May down Possibly low high y x h = refl
tied Must down Always low high y x h = refl
tied May down Always low high y x h = refl
tied rivals down Never low high y x h =
    elim (cases_Bool (int_lt low high)) [
      | inl wide ↦ apart rivals down (omega (arith, ints, wide)) ∙ sym (cond-true (int_lt low high) (is_may rivals) (nat_lt y x) wide)
      | inr narrow ↦ (let same : low ≡ high = omega (arith, ints, narrow) in one rivals down same ∙ sym (cond-false (int_lt low high) (is_may rivals) (nat_lt y x) narrow))
    ]
  where
    apart : (c : Rivals) (d : Bool) → low <ℤ high → comes c d (range_by Never low high) y (range_by Never low high) x ≡ is_may c
    apart Must true l = (greater_first high low l x y).1
    apart Must false l = (less_first low high l x y).1
    apart May true l = (greater_first high low l y x).0
    apart May false l = (less_first low high l y x).0

    one : (c : Rivals) (d : Bool) → low ≡ high → comes c d (range_by Never low high) y (range_by Never low high) x ≡ nat_lt y x
    one c d e = subst (λ z. comes c d (range_by Never low z) y (range_by Never low z) x ≡ nat_lt y x) e (here c d)
      where
        here : (c : Rivals) (d : Bool) → comes c d (range_by Never low low) y (range_by Never low low) x ≡ nat_lt y x
        here Must true = tied_at true low y x
        here Must false = tied_at false low y x
        here May true = tied_at true low y x
        here May false = tied_at false low y x

-- ---- prefixes

-- whether a prefix is null, by the facts on which it depends
abbrev null_by : Bool → Bool → Bool → Nullity
null_by nullable none unread = cond (nullable && none) (cond unread Possibly Always) Never

never_plain : (ends : Ends) (read p : ℕ) → ends.nullable ≡ false → null_with ends read p ≡ Never
never_plain ends read p e = ap (λ b. null_by b (p == 0) (read == 0)) e

never_some : (ends : Ends) (read p : ℕ) → 0 < p → null_with ends read p ≡ Never
never_some ends read p h = (let off : (p == 0) ≡ false = grind (arith, nat_tests) in ap (λ b. null_by ends.nullable b (read == 0)) off ∙ by ends.nullable)
  where
    by : (n : Bool) → null_by n false (read == 0) ≡ Never
    by true = refl
    by false = refl

pub not_first : (k : ℕ) → (suc k == 0) ≡ false
not_first k = grind (arith, nat_tests)

always_zero : (ends : Ends) (k p : ℕ) → ends.nullable ≡ true → p ≡ 0 → null_with ends (suc k) p ≡ Always
always_zero ends k p e z = ap (λ b. null_by b (p == 0) (suc k == 0)) e ∙ ap (λ q. null_by true (q == 0) (suc k == 0)) z ∙ ap (λ b. null_by true true b) (not_first k)

legal_small : (ends : Ends) (read p : ℕ) → read ≤ planes ends → IsLegal ends read p → p < 2 ^ read
legal_small ends read p h legal = (let some = (prefixes_are_legal ends read p).has_cell legal in subst (λ q. q < 2 ^ read) some.2 (prefix_small ends read some.0 h some.1))

-- the numbers of one prefix lie below those of a greater one
numbers_apart : (ends : Ends) (read p q : ℕ) → IsLegal ends read p → null_with ends read p ≡ Never → p < q → (range_of ends read p).numbers.high <ℤ (range_of ends read q).numbers.low
numbers_apart ends read p q legal never less =
    let b = block ends read in
    let reach = reaches_first ends read p legal (ap may_be_number never) in
    let step : (p + 1) * b ≤ q * b = mul-le-mul_right b (omega arith) in
    over ends.base (first_code ends) (p + 1) q b (spread ends) reach step
  where
    over : (base : ℤ) (f p q b top : ℕ) → f < p * b → p * b ≤ q * b → (base +ℤ pos (min (p * b - 1 - f) top)) <ℤ (base +ℤ pos (q * b - f))
    over base f p q b top h k = omega (arith, ints)

-- the place of a prefix
abbrev place_by : Bool → Ends → ℕ → ℕ → ℕ
place_by down ends read p = place_after (comes_first down ends.nullable) read read p

-- what the places of two prefixes tell
record Tell (down : Bool) (ends : Ends) (read p q : ℕ) : Type 0 where
  ahead : place_by down ends read p < place_by down ends read q →
      (null_with ends read p ≡ Never) × ((null_with ends read q ≡ Always) ⊎ ((null_with ends read q ≡ Never) × cond down (q < p) (p < q)))
  same : place_by down ends read p ≡ place_by down ends read q → p ≡ q

-- a prefix is null or a number, once a plane is read or where no null may be
null_or_number : (ends : Ends) (read p : ℕ) → 0 < read → (null_with ends read p ≡ Always) ⊎ (null_with ends read p ≡ Never)
null_or_number ends zero p h = absurd (omega arith)
null_or_number ends (suc k) p h =
    elim (cases_Bool ends.nullable) [
      | inr plain ↦ inr (never_plain ends (suc k) p plain)
      | inl nullable ↦ elim (cases_eq p 0) [
        | inl z ↦ inl (always_zero ends k p nullable z)
        | inr some ↦ inr (never_some ends (suc k) p (omega (arith, some)))
      ]
    ]

down_tell : (ends : Ends) (read p q : ℕ) → p < 2 ^ read → q < 2 ^ read → Tell true ends read p q
down_tell ends read p q hp hq =
    let a = place_down read p hp (comes_first true ends.nullable) (λ j. refl) in
    let b = place_down read q hq (comes_first true ends.nullable) (λ j. refl) in
    record {
      ahead = λ less.
          (let below : q < p = omega (arith, a, b, less) in
          let some : 0 < read = positive read p hp (omega arith) in (
            never_some ends read p (omega arith),
            elim (null_or_number ends read q some) [
              | inl null ↦ inl null
              | inr number ↦ inr (number, below)
            ],
          ));
      same = λ e. omega (arith, a, b, e);
    }
  where
    positive : (k p : ℕ) → p < 2 ^ k → 0 < p → 0 < k
    positive zero p h l = absurd (omega (arith, h, l))
    positive (suc k) p h l = omega arith

plain_tell : (ends : Ends) (read p q : ℕ) → ends.nullable ≡ false → p < 2 ^ read → q < 2 ^ read → Tell false ends read p q
plain_tell ends read p q plain hp hq =
    let never : (j : ℕ) → comes_first false ends.nullable j ≡ false = λ j. ap (λ b. b && j == 0) plain in
    let a = place_up read p hp (comes_first false ends.nullable) never in
    let b = place_up read q hq (comes_first false ends.nullable) never in
    record {
      ahead = λ less. (never_plain ends read p plain, inr (never_plain ends read q plain, omega (arith, a, b, less)));
      same = λ e. sym a ∙ e ∙ b;
    }

module _ (ends : Ends) (k : ℕ) (nullable : ends.nullable ≡ true) (few : suc k ≤ planes ends) where
  -- where a prefix stands
  side : (p : ℕ) → IsLegal ends (suc k) p → p < 2 ^ suc k → ((p ≡ 0) × (place_by false ends (suc k) p ≡ 2 ^ k)) ⊎ ((2 ^ k ≤ p) × (place_by false ends (suc k) p + 2 ^ k ≡ p))
  side p legal small =
      let first : comes_first false ends.nullable 0 ≡ true = ap (λ b. b && 0 == 0) nullable in
      let others : (j : ℕ) → comes_first false ends.nullable (suc j) ≡ false = λ j. (ap (λ b. b && suc j == 0) nullable ∙ not_first j) in
      elim (legal_cases ends (suc k) p legal) [
        | inl (n, z) ↦ inl (z, place_null k p small (comes_first false ends.nullable) first others z)
        | inr (low, high) ↦
            (let e : k + 1 ≡ suc k = omega arith in
            let least : prefix_of ends (suc k) (Some 0) ≡ 2 ^ k = subst (λ n. prefix_of ends n (Some 0) ≡ 2 ^ k) e (least_nullable ends k nullable (omega (arith, few))) in
            let above : 2 ^ k ≤ p = omega (arith, least, low) in
            inr (above, place_number k p small (comes_first false ends.nullable) first others above))
      ]

  null_tell : (p q : ℕ) → IsLegal ends (suc k) p → IsLegal ends (suc k) q → p < 2 ^ suc k → q < 2 ^ suc k → Tell false ends (suc k) p q
  null_tell p q lp lq hp hq =
      let twice = pow-suc 2 k in
      let some = pow_pos k in
      record {
        ahead = λ less. elim (side p lp hp) [
          | inl (z, a) ↦ elim (side q lq hq) [
            | inl (y, b) ↦ absurd (omega (arith, a, b, less))
            | inr (h, b) ↦ absurd (omega (arith, a, b, less, hq, twice))
          ]
          | inr (h, a) ↦ (
            never_some ends (suc k) p (omega (arith, h, some)),
            elim (side q lq hq) [
              | inl (z, b) ↦ inl (always_zero ends k q nullable z)
              | inr (g, b) ↦ inr (never_some ends (suc k) q (omega (arith, g, some)), omega (arith, a, b, less))
            ],
          )
        ];
        same = λ e. elim (side p lp hp) [
          | inl (z, a) ↦ elim (side q lq hq) [
            | inl (y, b) ↦ z ∙ sym y
            | inr (h, b) ↦ absurd (omega (arith, a, b, e, hq, twice))
          ]
          | inr (h, a) ↦ elim (side q lq hq) [
            | inl (y, b) ↦ absurd (omega (arith, a, b, e, hp, twice))
            | inr (g, b) ↦ omega (arith, a, b, e)
          ]
        ];
      }

up_tell : (ends : Ends) (read p q : ℕ) → ends.nullable ≡ true → read ≤ planes ends → IsLegal ends read p → IsLegal ends read q → p < 2 ^ read → q < 2 ^ read → Tell false ends read p q
up_tell ends zero p q nullable few lp lq hp hq = record {
  ahead = λ less. absurd (omega (arith, less));
  same = λ e. omega (arith, hp, hq);
}
up_tell ends (suc k) p q nullable few lp lq hp hq = null_tell ends k nullable few p q lp lq hp hq

tell : (down : Bool) (ends : Ends) (read p q : ℕ) → read ≤ planes ends → IsLegal ends read p → IsLegal ends read q → Tell down ends read p q
tell true ends read p q few lp lq = down_tell ends read p q (legal_small ends read p few lp) (legal_small ends read q few lq)
tell false ends read p q few lp lq =
    let hp = legal_small ends read p few lp in
    let hq = legal_small ends read q few lq in
    elim (cases_Bool ends.nullable) [
      | inl nullable ↦ up_tell ends read p q nullable few lp lq hp hq
      | inr plain ↦ plain_tell ends read p q plain hp hq
    ]

-- ---- rows

-- the place of a row by all digits
abbrev pub place_of : Bool → KnownColumn → ℕ → ℕ
place_of down key r = place_in down key key.known.read r

module _ (down : Bool) (key : KnownColumn) (known : IsKnownColumn key) where
  abbrev prefix : ℕ → ℕ
  prefix r = get_or key.known.prefixes r 0

  legal : (r : ℕ) → r < rows_of_column key → IsLegal key.ends key.known.read (prefix r)
  legal r h = known.legal r 0 h

  ordered : (r : ℕ) → r < rows_of_column key → (range_at key r).numbers.low ≤ℤ (range_at key r).numbers.high
  ordered r h = range_ordered key.ends key.known.read (prefix r) (legal r h)

  pub row_tied : (rivals : Rivals) (y x : ℕ) → x < rows_of_column key → range_at key y ≡ range_at key x →
      comes rivals down (range_at key y) y (range_at key x) x ≡ cond (is_wide (range_at key x)) (is_may rivals) (nat_lt y x)
  row_tied rivals y x h e =
      ap (λ (r : Range). comes rivals down r y (range_at key x) x) e
      ∙ tied rivals down (range_at key x).null (range_at key x).numbers.low (range_at key x).numbers.high y x (ordered x h)

  same_prefix : (y x : ℕ) → prefix y ≡ prefix x → range_at key y ≡ range_at key x
  same_prefix y x e = ap (range_of key.ends key.known.read) e

  -- by which of two numbers is the greater
  apart : (d : Bool) (y x : ℕ) → y < rows_of_column key → x < rows_of_column key → null_with key.ends key.known.read (prefix y) ≡ Never → null_with key.ends key.known.read (prefix x) ≡ Never →
      cond d (prefix x < prefix y) (prefix y < prefix x) → cond d ((range_at key x).numbers.high <ℤ (range_at key y).numbers.low) ((range_at key y).numbers.high <ℤ (range_at key x).numbers.low)
  apart true y x yh xh yn xn less = numbers_apart key.ends key.known.read (prefix x) (prefix y) (legal x xh) xn less
  apart false y x yh xh yn xn less = numbers_apart key.ends key.known.read (prefix y) (prefix x) (legal y yh) yn less

  told : (y x : ℕ) → y < rows_of_column key → x < rows_of_column key → Tell down key.ends key.known.read (prefix y) (prefix x)
  told y x yh xh = tell down key.ends key.known.read (prefix y) (prefix x) known.some_read (legal y yh) (legal x xh)

  -- rows at one place have one range
  pub one_range : (y x : ℕ) → y < rows_of_column key → x < rows_of_column key → place_of down key y ≡ place_of down key x → range_at key y ≡ range_at key x
  one_range y x yh xh e = same_prefix y x ((told y x yh xh).same e)

  row_ahead : (y x : ℕ) → y < rows_of_column key → x < rows_of_column key → place_of down key y < place_of down key x → IsAhead down (range_at key y) (range_at key x)
  row_ahead y x yh xh less =
      let is = (told y x yh xh).ahead less in
      record {
        ordered = ordered y yh;
        other_ordered = ordered x xh;
        number = is.0;
        other = elim is.1 [
          | inl null ↦ inl null
          | inr (never, side) ↦ inr (never, apart down y x yh xh is.0 never side)
        ];
      }

  -- a row comes before another where its place is less, and at one place as rows of one range do
  pub comes_by_place : (rivals : Rivals) (y x : ℕ) → y < rows_of_column key → x < rows_of_column key →
      comes rivals down (range_at key y) y (range_at key x) x ≡ (nat_lt (place_of down key y) (place_of down key x) || (nat_eq (place_of down key y) (place_of down key x) && cond (is_wide (range_at key x)) (is_may rivals) (nat_lt y x)))
  comes_by_place rivals y x yh xh =
      let p = place_of down key y in
      let q = place_of down key x in
      let tie = cond (is_wide (range_at key x)) (is_may rivals) (nat_lt y x) in
      elim (cases_lt p q) [
        | inl less ↦ (comes_ahead rivals down (range_at key y) (range_at key x) y x (row_ahead y x yh xh less)).0 ∙ sym (below p q tie less)
        | inr more ↦ elim (cases_eq p q) [
          | inl e ↦ row_tied rivals y x xh (one_range y x yh xh e) ∙ sym (level p q tie e)
          | inr other ↦ (comes_ahead rivals down (range_at key x) (range_at key y) x y (row_ahead x y xh yh (omega (arith, more, other)))).1 ∙ sym (above p q tie (omega (arith, more, other)))
        ]
      ]
    where
      below : (p q : ℕ) (tie : Bool) → p < q → (nat_lt p q || (nat_eq p q && tie)) ≡ true
      below p q tie h = or_left (nat_lt p q) (nat_eq p q && tie) (lt-ltb p q h)

      level : (p q : ℕ) (tie : Bool) → p ≡ q → (nat_lt p q || (nat_eq p q && tie)) ≡ tie
      level p q true h = grind (arith, nat_tests)
      level p q false h = grind (arith, nat_tests)

      above : (p q : ℕ) (tie : Bool) → q < p → (nat_lt p q || (nat_eq p q && tie)) ≡ false
      above p q true h = grind (arith, nat_tests)
      above p q false h = grind (arith, nat_tests)

-- a plane tells the next digit of each row's place
pub place_followed : (down : Bool) (key : KnownColumn) (j : ℕ) (plane : List Bool) (first : Bool) (r : ℕ) → plane ≡ map (digit_of key.known.read j) key.known.prefixes → first ≡ comes_first down key.ends.nullable j →
    r < rows_of_column key → next_place (place_in down key j) plane first r ≡ place_in down key (j + 1) r
place_followed down key j plane first r is by h =
    ap (λ b. 2 * place_in down key j r + cond (is_later first b) 1 0) (ap (λ l. is_in l r) is ∙ in_map (digit_of key.known.read j) key.known.prefixes r 0 h)
    ∙ ap (λ f. 2 * place_in down key j r + cond (is_later f (digit_of key.known.read j (get_or key.known.prefixes r 0))) 1 0) by
    ∙ sym (place_next (comes_first down key.ends.nullable) key.known.read j (get_or key.known.prefixes r 0))

-- and leaves their places by the digits before it
pub place_stays : (down : Bool) (key : KnownColumn) (bits : List Bool) (j r : ℕ) → j ≤ key.known.read → r < rows_of_column key → length bits ≡ rows_of_column key → place_in down key j r ≡ place_in down (read_further key bits) j r
place_stays down key bits j r h within rows =
    let (b, small, e) = longer_at key.known.prefixes bits r within (omega (arith, rows, within)) in
    let first = comes_first down key.ends.nullable in
    sym (ap (place_after first (key.known.read + 1) j) e ∙ place_longer first key.known.read j (get_or key.known.prefixes r 0) b small h)
