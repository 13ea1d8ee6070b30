-- That a line says one answer.
use Rattle.std.proofs.Common.{◌≡◌, ◌≢◌, ◌⊎◌, ℕ, ◌^◌, ◌<◌, Bool, true, false, List, ◌++◌, codes, decimal, refl, sym, ap, subst, ◌∙◌, arith, inl, inr, ℤ}
use Rattle.std.proofs.lemmas.Fmt.{decimal_is_IsNumeral_wide}
use Rattle.std.proofs.lemmas.List.{append_cancel_left}
use Rattle.std.specs.Ordering.{int_eq}
use Rattle.std.specs.Str.Parse.{digits_value}
use Rattle.query_model.specs.declared.bounds.Nullity.{Nullity}
use Rattle.query_model.specs.declared.bounds.Nullity.TheVariants.{Never, Possibly, Always}
use Rattle.query_model.specs.declared.query.ItemKind.{ItemKind}
use Rattle.query_model.specs.declared.query.ItemKind.TheVariants.{Count, Sum, Min, Max, Avg}
use Rattle.report_text.proofs.EndPlaces.{bracketed_is, front_is, inner_is, is_null, rest_is, single_is, tail_begins}
use Rattle.report_text.proofs.EndTexts.{end_one, number_one}
use Rattle.report_text.proofs.NumberTexts.{ratio_is_end, rows_of_ratio, sum_of_ratio}
use Rattle.report_text.proofs.ShownTexts.{equal_ends, high_can, high_end, high_of, high_ratio_can, low_can, low_end, low_of, low_ratio_can, same_ratios}
use Rattle.report_text.specs.Answers.{IsAnswerOf, IsAverageFor, IsBoundFor, answer_text}
use Rattle.report_text.specs.Averages.{CanBeDivided, IsNoAverage, IsShownAverage, IsShownAverageBy, average_text, is_same_ratio, ratio_text}
use Rattle.report_text.specs.Bounds.{IsNothing, IsShown, IsShownBy, high_text, low_text, shown_text}
use Rattle.report_text.specs.Extras.{ExtrasSayOne, IsExtraOf, extra_text, extra_word}
use Rattle.report_text.specs.Layouts.{IsEnd, bracketed_text, single_text, tail_text}
use Rattle.report_text.specs.Lines.{LinesSayOne}
use Rattle.report_text.specs.Words.{ends_text, interval_text}
use Rattle.report_text.specs.declared.answers.Answer.{Answer}
use Rattle.report_text.specs.declared.answers.Answer.TheVariants.{Average, Value}
use Rattle.report_text.specs.declared.averages.Ratio.{Ratio}
use Rattle.report_text.specs.declared.averages.ShownAverage.{ShownAverage}
use Rattle.report_text.specs.declared.bounds.ShownBound.{ShownBound}
use Rattle.report_text.specs.declared.forms.Form.{Form}
use Rattle.report_text.specs.declared.forms.IntervalEnd.{IntervalEnd}
use Rattle.report_text.specs.declared.numbers.Number.{Number}

-- ---- the layout

same_tail : (n m : Nullity) → n ≢ Always → m ≢ Always → tail_text n ≡ tail_text m → n ≡ m
same_tail Never Never h k e = refl
same_tail Possibly Possibly h k e = refl
same_tail Never Possibly h k e = absurd cc
same_tail Possibly Never h k e = absurd cc
same_tail Always m h k e = absurd (h refl)
same_tail Never Always h k e = absurd (k refl)
same_tail Possibly Always h k e = absurd (k refl)

-- the words are the same, and so are the ends where there may be an answer
record Same (n m : Nullity) (a b c d : List ℕ) : Type 0 where
  null : n ≡ m
  low : n ≢ Always → a ≡ c
  high : n ≢ Always → b ≡ d

-- behind the first of two ends
abbrev behind_low : Nullity → List ℕ → List ℕ
behind_low n b = codes ", " ++ (b ++ (codes "]" ++ tail_text n))

module _ (n m : Nullity) (h : n ≢ Always) (k : m ≢ Always) where
  brackets_same : (a b c d : List ℕ) → IsEnd a → IsEnd b → IsEnd c → IsEnd d → bracketed_text m c d ≡ bracketed_text n a b → Same n m a b c d
  brackets_same a b c d ha hb hc hd e =
      let text = bracketed_text n a b in
      let rest = sym (rest_is text a (behind_low n b) ha.plain refl refl) ∙ rest_is text c (behind_low m d) hc.plain refl e in
      let seconds = append_cancel_left (codes ", ") (b ++ (codes "]" ++ tail_text n)) (d ++ (codes "]" ++ tail_text m)) rest in
      let second = b ++ (codes "]" ++ tail_text n) in
      let tails = sym (rest_is second b (codes "]" ++ tail_text n) hb.plain refl refl) ∙ rest_is second d (codes "]" ++ tail_text m) hd.plain refl (sym seconds) in
      record {
        null = same_tail n m h k (append_cancel_left (codes "]") (tail_text n) (tail_text m) tails);
        low = λ _. sym (front_is text a (behind_low n b) ha.plain refl refl) ∙ front_is text c (behind_low m d) hc.plain refl e;
        high = λ _. sym (front_is second b (codes "]" ++ tail_text n) hb.plain refl refl) ∙ front_is second d (codes "]" ++ tail_text m) hd.plain refl (sym seconds);
      }

  singles_same : (a c : List ℕ) → IsEnd a → IsEnd c → single_text m c ≡ single_text n a → (n ≡ m) × (a ≡ c)
  singles_same a c ha hc e =
      let text = single_text n a in (
        same_tail n m h k (sym (rest_is text a (tail_text n) ha.plain (tail_begins n) refl) ∙ rest_is text c (tail_text m) hc.plain (tail_begins m) e),
        sym (front_is text a (tail_text n) ha.plain (tail_begins n) refl) ∙ front_is text c (tail_text m) hc.plain (tail_begins m) e,
      )

  some_same : (p q : Bool) (a b c d : List ℕ) → IsEnd a → IsEnd b → IsEnd c → IsEnd d → (p ≡ true → a ≡ b) → (q ≡ true → c ≡ d) →
      interval_text n (ends_text p a b) ≡ interval_text m (ends_text q c d) → Same n m a b c d
  some_same false q a b c d ha hb hc hd one two e =
      brackets_same a b c d ha hb hc hd (inner_is m q c d (bracketed_text n a b) hc (sym e ∙ bracketed_is n a b h)).2
  some_same true false a b c d ha hb hc hd one two e =
      brackets_same a b c d ha hb hc hd (sym (inner_is n true a b (bracketed_text m c d) ha (e ∙ bracketed_is m c d k)).2)
  some_same true true a b c d ha hb hc hd one two e =
      let both = singles_same a c ha hc (sym (single_is m c k) ∙ sym e ∙ single_is n a h) in
      record { null = both.0; low = λ _. both.1; high = λ _. sym (one refl) ∙ both.1 ∙ two refl }

is_always : (n : Nullity) → (n ≡ Always) ⊎ (n ≢ Always)
is_always Never = inr (λ e. absurd cc)
is_always Possibly = inr (λ e. absurd cc)
is_always Always = inl refl

same : (n m : Nullity) (p q : Bool) (a b c d : List ℕ) → IsEnd a → IsEnd b → IsEnd c → IsEnd d → (p ≡ true → a ≡ b) → (q ≡ true → c ≡ d) →
    interval_text n (ends_text p a b) ≡ interval_text m (ends_text q c d) → Same n m a b c d
same n m p q a b c d ha hb hc hd one two e = by (is_always n) (is_always m)
  where
    by : (n ≡ Always) ⊎ (n ≢ Always) → (m ≡ Always) ⊎ (m ≢ Always) → Same n m a b c d
    by (inr h) (inr k) = some_same n m h k p q a b c d ha hb hc hd one two e
    by (inr h) (inl f) = absurd (h (is_null n p a b ha (e ∙ ap (λ (w : Nullity). interval_text w (ends_text q c d)) f)))
    by (inl f) other =
        let last = is_null m q c d hc (sym e ∙ ap (λ (w : Nullity). interval_text w (ends_text p a b)) f) in
        record { null = f ∙ sym last; low = λ h. absurd (h f); high = λ h. absurd (h f) }

-- ---- numbers of rows, and ratios

decimal_one : (a b : ℕ) → a < 2 ^ 64 → b < 2 ^ 64 → decimal a ≡ decimal b → a ≡ b
decimal_one a b h k e =
    sym (decimal_is_IsNumeral_wide a (omega (arith, h))).1 ∙ ap (digits_value 10) e ∙ (decimal_is_IsNumeral_wide b (omega (arith, k))).1

ratio_one : (a b : Ratio) → CanBeDivided a → CanBeDivided b → ratio_text a ≡ ratio_text b → a ≡ b
ratio_one a b h k e =
    let text = ratio_text b in
    let sums = number_one a.sum b.sum h.sum k.sum (sym (sum_of_ratio text a h e) ∙ sum_of_ratio text b k refl) in
    let rows = decimal_one a.rows b.rows h.few k.few (sym (rows_of_ratio text a h e) ∙ rows_of_ratio text b k refl) in
    ap (λ (s : Number). record { sum = s; rows = a.rows }) sums ∙ ap (λ (r : ℕ). record { sum = b.sum; rows = r }) rows

-- ---- answers

bound_same : (a b : ShownBound) → a.form ≡ b.form → a.bound.null ≡ b.bound.null → a.bound.lo ≡ b.bound.lo → a.bound.hi ≡ b.bound.hi → a ≡ b
bound_same a b f n l h =
    ap (λ (x : Form). record { form = x; bound = a.bound }) f
    ∙ ap (λ (x : Nullity). record { form = b.form; bound = record { null = x; lo = a.bound.lo; hi = a.bound.hi } }) n
    ∙ ap (λ (x : ℤ). record { form = b.form; bound = record { null = b.bound.null; lo = x; hi = a.bound.hi } }) l
    ∙ ap (λ (x : ℤ). record { form = b.form; bound = record { null = b.bound.null; lo = b.bound.lo; hi = x } }) h

nothing : (null : Nullity) (shown : ShownBound) → null ≡ Always → IsShownBy null shown → IsNothing shown
nothing null shown e h = let n : IsShownBy Always shown = subst (λ (w : Nullity). IsShownBy w shown) e h in n

value_one : (a b : ShownBound) → IsShown a → IsShown b → shown_text a ≡ shown_text b → a ≡ b
value_one a b h k e = by (is_always a.bound.null)
  where
    both : Same a.bound.null b.bound.null (low_text a) (high_text a) (low_text b) (high_text b)
    both = same a.bound.null b.bound.null (int_eq a.bound.lo a.bound.hi) (int_eq b.bound.lo b.bound.hi) (low_text a) (high_text a) (low_text b) (high_text b)
        (low_end a h) (high_end a h) (low_end b k) (high_end b k) (equal_ends a) (equal_ends b) e

    by : (a.bound.null ≡ Always) ⊎ (a.bound.null ≢ Always) → a ≡ b
    by (inl f) =
        let x = nothing a.bound.null a f h in
        let y = nothing b.bound.null b (sym both.null ∙ f) k in
        bound_same a b (x.form ∙ sym y.form) both.null (x.low ∙ sym y.low) (x.high ∙ sym y.high)
    by (inr f) =
        let low = end_one (low_of a) (low_of b) (low_can a h) (low_can b k) (both.low f) in
        let high = end_one (high_of a) (high_of b) (high_can a h) (high_can b k) (both.high f) in
        bound_same a b (ap (λ (x : IntervalEnd). x.form) low) both.null (ap (λ (x : IntervalEnd). x.value) low) (ap (λ (x : IntervalEnd). x.value) high)

average_same : (a b : ShownAverage) → a.null ≡ b.null → a.low ≡ b.low → a.high ≡ b.high → a ≡ b
average_same a b n l h =
    ap (λ (x : Nullity). record { null = x; low = a.low; high = a.high }) n
    ∙ ap (λ (x : Ratio). record { null = b.null; low = x; high = a.high }) l
    ∙ ap (λ (x : Ratio). record { null = b.null; low = b.low; high = x }) h

no_average : (null : Nullity) (shown : ShownAverage) → null ≡ Always → IsShownAverageBy null shown → IsNoAverage shown
no_average null shown e h = let n : IsShownAverageBy Always shown = subst (λ (w : Nullity). IsShownAverageBy w shown) e h in n

average_one : (a b : ShownAverage) → IsShownAverage a → IsShownAverage b → average_text a ≡ average_text b → a ≡ b
average_one a b h k e = by (is_always a.null)
  where
    both : Same a.null b.null (ratio_text a.low) (ratio_text a.high) (ratio_text b.low) (ratio_text b.high)
    both = same a.null b.null (is_same_ratio a.low a.high) (is_same_ratio b.low b.high) (ratio_text a.low) (ratio_text a.high) (ratio_text b.low) (ratio_text b.high)
        (ratio_is_end a.low (low_ratio_can a h)) (ratio_is_end a.high (high_ratio_can a h)) (ratio_is_end b.low (low_ratio_can b k)) (ratio_is_end b.high (high_ratio_can b k))
        (same_ratios a h) (same_ratios b k) e

    by : (a.null ≡ Always) ⊎ (a.null ≢ Always) → a ≡ b
    by (inl f) =
        let x = no_average a.null a f h in
        let y = no_average b.null b (sym both.null ∙ f) k in
        average_same a b both.null (x.low ∙ sym y.low) (x.high ∙ sym y.high)
    by (inr f) =
        average_same a b both.null (ratio_one a.low b.low (low_ratio_can a h) (low_ratio_can b k) (both.low f))
        (ratio_one a.high b.high (high_ratio_can a h) (high_ratio_can b k) (both.high f))

is_value : (kind : ItemKind) (shown : ShownBound) → IsBoundFor kind shown → IsShown shown
is_value Count shown h = h.0
is_value Sum shown h = h.0
is_value Min shown h = h
is_value Max shown h = h
is_value Avg shown h = absurd h

is_average : (kind : ItemKind) (shown : ShownAverage) → IsAverageFor kind shown → IsShownAverage shown
is_average Count shown h = absurd h
is_average Sum shown h = absurd h
is_average Min shown h = absurd h
is_average Max shown h = absurd h
is_average Avg shown h = h

not_both : {P : Type 0} (kind : ItemKind) (value : ShownBound) (average : ShownAverage) → IsBoundFor kind value → IsAverageFor kind average → P
not_both Count value average h k = absurd k
not_both Sum value average h k = absurd k
not_both Min value average h k = absurd k
not_both Max value average h k = absurd k
not_both Avg value average h k = absurd h

answer_one : (kind : ItemKind) (a b : Answer) → IsAnswerOf kind a → IsAnswerOf kind b → answer_text a ≡ answer_text b → a ≡ b
answer_one kind (Value a) (Value b) h k e = ap (λ (x : ShownBound). Value x) (value_one a b (is_value kind a h) (is_value kind b k) e)
answer_one kind (Average a) (Average b) h k e = ap (λ (x : ShownAverage). Average x) (average_one a b (is_average kind a h) (is_average kind b k) e)
answer_one kind (Value a) (Average b) h k e = not_both kind a b h k
answer_one kind (Average a) (Value b) h k e = not_both kind b a k h

pub lines_say_one : LinesSayOne
lines_say_one kind number a b h k e =
    answer_one kind a b h k (append_cancel_left (codes " ") (answer_text a) (answer_text b) (append_cancel_left (decimal number) (codes " " ++ answer_text a) (codes " " ++ answer_text b) e))

extra_is : (kind : ItemKind) (answer : Answer) → IsExtraOf kind answer → IsAnswerOf kind answer
extra_is Count answer h = absurd h
extra_is Sum answer h = h
extra_is Min answer h = h
extra_is Max answer h = h
extra_is Avg answer h = h

pub extras_say_one : ExtrasSayOne
extras_say_one kind number a b h k e =
    answer_one kind a b (extra_is kind a h) (extra_is kind b k)
    (append_cancel_left (extra_word kind) (answer_text a) (answer_text b)
    (append_cancel_left (codes " ") (extra_text kind a) (extra_text kind b) (append_cancel_left (decimal number) (codes " " ++ extra_text kind a) (codes " " ++ extra_text kind b) e)))
