-- A row more in a cell before a plane and behind it, and what a sum keeps of the cell behind it.
use Rattle.std.proofs.Common.{◌≡◌, ℕ, ◌+◌, ◌-◌, ◌*◌, ◌%◌, ◌^◌, ◌<◌, ◌≤◌, ◌==◌, pos, ℤ, ◌+ℤ◌, ◌≤ℤ◌, Bool, true, false, ◌&&◌, cond, List, [], ◌∷◌, ◌++◌, length, map, None, inl, inr, refl, ap, sym, ◌∙◌, arith, if◌then◌else◌}
use Rattle.std.specs.Int.{int_max, int_min}
use Rattle.std.proofs.lemmas.Bool.{cases_Bool, eqb-true}
use Rattle.std.proofs.lemmas.Int.{clamps, ints}
use Rattle.query_model.specs.declared.query.ItemKind.{ItemKind}
use Rattle.query_model.specs.declared.query.ItemKind.TheVariants.{Max, Min, Sum}
use Rattle.query_model.specs.Answers.{answer, total}
use Rattle.query_model.specs.Bounds.{Pair, certain_count, high_share, highs, low_share, lows}
use Rattle.query_model.specs.Validity.{IsSumKind}
use Rattle.aggregates.specs.declared.tally.Tally.{Tally}
use Rattle.aggregates.specs.Tallies.{tally_of}
use Rattle.aggregates.proofs.Appending.{count-certain, count-more, count-uncertain, length-more, same_tally, total-more}
use Rattle.aggregates.proofs.SumsOfCells.{sum_tally}
use Rattle.digit_sums.specs.declared.ends.DigitEnds.{DigitEnds}
use Rattle.digit_sums.specs.declared.ones.RowBits.{RowBits}
use Rattle.digit_sums.specs.Ones.{AreRead, IsRowRead, spans_by, with_row}

-- what a row that surely counts adds to sums
low_sure : (p : Pair) → p.certain ≡ true → low_share p ≡ p.low
low_sure p t = ap (λ b. if b then p.low else int_min p.low (pos 0)) t

high_sure : (p : Pair) → p.certain ≡ true → high_share p ≡ p.high
high_sure p t = ap (λ b. if b then p.high else int_max p.high (pos 0)) t

-- and what one adds that may count and need not, where it is not negative
low_unsure : (p : Pair) → p.certain ≡ false → pos 0 ≤ℤ p.low → low_share p ≡ pos 0
low_unsure p f least = ap (λ b. if b then p.low else int_min p.low (pos 0)) f ∙ omega (arith, ints, clamps, least)

high_unsure : (p : Pair) (h : ℕ) → p.certain ≡ false → p.high ≡ pos h → high_share p ≡ pos h
high_unsure p h f is = ap (λ b. if b then p.high else int_max p.high (pos 0)) f ∙ omega (arith, ints, clamps, is)

weighed : (one : Bool) (n w : ℕ) → (n + cond one 1 0) * w ≡ n * w + cond one w 0
weighed true n w = omega arith
weighed false n w = omega arith

counted : (one : Bool) (n m : ℕ) → n ≤ m → n + cond one 1 0 ≤ m + 1
counted true n m h = omega (arith, h)
counted false n m h = omega (arith, h)

spans_more : (ends : DigitEnds) (rows n : ℕ) (top : Bool) → n ≤ rows →
    spans_by ends (rows + 1) (n + cond top 1 0) ≡ spans_by ends rows n + cond top (ends.spread % 2 ^ ends.unread) (2 ^ ends.unread - 1)
spans_more ends rows n true some =
    let a = ends.spread % 2 ^ ends.unread in
    let b = 2 ^ ends.unread - 1 in
    let others : (rows + 1) - (n + 1) ≡ rows - n = omega (arith, some) in
    let at : (n + 1) * a ≡ n * a + a = omega arith in
    ap (λ k. (n + 1) * a + k * b) others ∙ omega (arith, at)
spans_more ends rows n false some =
    let a = ends.spread % 2 ^ ends.unread in
    let b = 2 ^ ends.unread - 1 in
    let none : n + 0 ≡ n = omega arith in
    let others : (rows + 1) - n ≡ (rows - n) + 1 = omega (arith, some) in
    let rest : ((rows - n) + 1) * b ≡ (rows - n) * b + b = omega arith in
    ap (λ k. k * a + ((rows + 1) - k) * b) none ∙ ap (λ k. n * a + k * b) others ∙ omega (arith, rest)

-- sums of high ends, with a row that surely counts and with one that need not
high_with_sure : (low high longer_low longer_high row_low row_high : ℤ) (spans more_spans span highs : ℕ) → longer_low ≡ low +ℤ row_low → longer_high ≡ high +ℤ row_high → high ≡ low +ℤ pos (spans + highs) →
    row_high ≡ row_low +ℤ pos span → more_spans ≡ spans + span → longer_high ≡ longer_low +ℤ pos (more_spans + (highs + 0))
high_with_sure low high longer_low longer_high row_low row_high spans more_spans span highs l h was row more = omega (arith, ints, l, h, was, row, more)

high_with_unsure : (low high longer_low longer_high row_low row_high : ℤ) (spans same_spans highs end : ℕ) → longer_low ≡ low +ℤ row_low → longer_high ≡ high +ℤ row_high → high ≡ low +ℤ pos (spans + highs) →
    row_low ≡ pos 0 → row_high ≡ pos end → same_spans ≡ spans → longer_high ≡ longer_low +ℤ pos (same_spans + (highs + end))
high_with_unsure low high longer_low longer_high row_low row_high spans same_spans highs end l h was row_l row_h same = omega (arith, ints, l, h, was, row_l, row_h, same)

pub none_read : (ends : DigitEnds) (alone : Bool) → AreRead ends alone [] [] (record { ones = 0; at_top = 0 }) 0
none_read ends alone = record {
  rows = refl;
  certain = refl;
  few = omega arith;
  some = omega arith;
  fits = omega arith;
  top = λ _. omega arith;
  low = λ _. (let none : 0 * 2 ^ ends.unread ≡ 0 = omega arith in omega (arith, ints, none));
  high = λ _.
      (let a : 0 * (ends.spread % 2 ^ ends.unread) ≡ 0 = omega arith in
      let b : (0 - 0) * (2 ^ ends.unread - 1) ≡ 0 = omega arith in
      omega (arith, ints, a, b));
}

module _ (ends : DigitEnds) (alone one top : Bool) (h : ℕ) (old new : List Pair) (bits : RowBits) (highs : ℕ) (p q : Pair) (row : IsRowRead ends one top p q) (read : AreRead ends alone old new bits highs) where
  abbrev weight : ℕ
  weight = 2 ^ ends.unread

  abbrev span : ℕ
  span = cond top (ends.spread % 2 ^ ends.unread) (2 ^ ends.unread - 1)

  -- with a row more that surely counts where the cell holds one key
  read_sure : p.certain ≡ alone → AreRead ends alone (old ++ p ∷ []) (new ++ q ∷ []) (with_row bits one top) (highs + 0)
  read_sure is = record {
    rows = length-more new q ∙ ap (λ k. k + 1) read.rows ∙ sym (length-more old p);
    certain = count-more new q (cond p.certain 1 0) (ap (λ b. cond b 1 0) (sym row.certain)) ∙ ap (λ k. k + cond p.certain 1 0) read.certain ∙ sym (count-more old p (cond p.certain 1 0) refl);
    few = (let long = length-more old p in let more = counted one bits.ones (length old) read.few in omega (arith, long, more));
    some = (let long = length-more old p in let more = counted top bits.at_top (length old) read.some in omega (arith, long, more));
    fits = (let long = length-more old p in let fits = read.fits in omega (arith, long, fits));
    top = λ a. (let long = count-certain old p (is ∙ a) in let more = counted top bits.at_top (certain_count old) (read.top a) in omega (arith, long, more));
    low = λ a.
        (let lp : low_share p ≡ p.low = low_sure p (is ∙ a) in
        let lq : low_share q ≡ q.low = low_sure q (row.certain ∙ is ∙ a) in
        let before = total-more low_share old p in
        let now = total-more low_share new q in
        let earlier = read.low a in
        let here = row.low in
        let weigh = weighed one bits.ones weight in
        omega (arith, ints, lp, lq, before, now, earlier, here, weigh));
    high = λ a.
        (let lq : low_share q ≡ q.low = low_sure q (row.certain ∙ is ∙ a) in
        let hq : high_share q ≡ q.high = high_sure q (row.certain ∙ is ∙ a) in
        let more : spans_by ends (certain_count (old ++ p ∷ [])) (bits.at_top + cond top 1 0) ≡ spans_by ends (certain_count old) bits.at_top + span =
        ap (λ k. spans_by ends k (bits.at_top + cond top 1 0)) (count-certain old p (is ∙ a)) ∙ spans_more ends (certain_count old) bits.at_top top (read.top a) in
        high_with_sure (total (map low_share new)) (total (map high_share new)) _ _ (low_share q) (high_share q) (spans_by ends (certain_count old) bits.at_top) _ span highs
        (total-more low_share new q) (total-more high_share new q) (read.high a) (hq ∙ row.high ∙ ap (λ z. z +ℤ pos span) (sym lq)) more);
  }

  -- with a row more that may count and need not
  read_unsure : p.certain ≡ false → q.high ≡ pos h → h ≤ 549755813887 → AreRead ends alone (old ++ p ∷ []) (new ++ q ∷ []) (with_row bits false false) (highs + h)
  read_unsure f end few = record {
    rows = length-more new q ∙ ap (λ k. k + 1) read.rows ∙ sym (length-more old p);
    certain = count-uncertain new q (row.certain ∙ f) ∙ read.certain ∙ sym (count-uncertain old p f);
    few = (let long = length-more old p in let ones = read.few in omega (arith, long, ones));
    some = (let long = length-more old p in let some = read.some in omega (arith, long, some));
    fits = (let long = length-more old p in let fits = read.fits in omega (arith, long, fits, few));
    top = λ a. (let same = count-uncertain old p f in let most = read.top a in omega (arith, same, most));
    low = λ a.
        (let lp : low_share p ≡ pos 0 = low_unsure p f row.never_negative in
        let lq : low_share q ≡ pos 0 = low_unsure q (row.certain ∙ f) not_negative in
        let before = total-more low_share old p in
        let now = total-more low_share new q in
        let earlier = read.low a in
        let weigh = weighed false bits.ones weight in
        omega (arith, ints, lp, lq, before, now, earlier, weigh));
    high = λ a.
        (let same : spans_by ends (certain_count (old ++ p ∷ [])) (bits.at_top + 0) ≡ spans_by ends (certain_count old) bits.at_top =
        ap (λ k. spans_by ends k (bits.at_top + 0)) (count-uncertain old p f) ∙ ap (λ k. spans_by ends (certain_count old) k) (omega arith) in
        high_with_unsure (total (map low_share new)) (total (map high_share new)) _ _ (low_share q) (high_share q) (spans_by ends (certain_count old) bits.at_top) _ highs h
        (total-more low_share new q) (total-more high_share new q) (read.high a) (low_unsure q (row.certain ∙ f) not_negative) (high_unsure q h (row.certain ∙ f) end) same);
  } where
    not_negative : pos 0 ≤ℤ q.low
    not_negative = (let here = row.low in let least = row.never_negative in omega (arith, ints, here, least))

-- with a row more
pub read_more : (ends : DigitEnds) (alone sure one top : Bool) (h : ℕ) (old new : List Pair) (bits : RowBits) (highs : ℕ) (p q : Pair) → IsRowRead ends one top p q → (sure ≡ false → (q.high ≡ pos h) × (h ≤ 549755813887)) → p.certain ≡ (sure && alone) →
    AreRead ends alone old new bits highs → AreRead ends alone (old ++ p ∷ []) (new ++ q ∷ []) (with_row bits (sure && one) (sure && top)) (highs + cond sure 0 h)
read_more ends alone true one top h old new bits highs p q row ended is read = read_sure ends alone one top h old new bits highs p q row read is
read_more ends alone false one top h old new bits highs p q row ended is read = read_unsure ends alone one top h old new bits highs p q row read is (ended refl).0 (ended refl).1

-- a sum keeps no end where a row surely counts
no_low : (ps : List Pair) → 0 < certain_count ps → None ≡ (if certain_count ps == 0 then answer Min (lows ps) else None)
no_low ps some =
    elim (cases_Bool (certain_count ps == 0)) [
      | inl t ↦ (let none : certain_count ps ≡ 0 = eqb-true (certain_count ps) 0 t in absurd (omega (arith, none, some)))
      | inr f ↦ sym (ap (λ b. if b then answer Min (lows ps) else None) f)
    ]

no_high : (ps : List Pair) → 0 < certain_count ps → None ≡ (if certain_count ps == 0 then answer Max (highs ps) else None)
no_high ps some =
    elim (cases_Bool (certain_count ps == 0)) [
      | inl t ↦ (let none : certain_count ps ≡ 0 = eqb-true (certain_count ps) 0 t in absurd (omega (arith, none, some)))
      | inr f ↦ sym (ap (λ b. if b then answer Max (highs ps) else None) f)
    ]

no_rows : (ps : List Pair) → length ps ≡ 0 → [] ≡ ps
no_rows [] none = refl
no_rows (p ∷ ps) none = absurd (omega (arith, none))

-- the tally of a cell without a row stays
pub tally_stays : (ends : DigitEnds) (alone : Bool) (kind : ItemKind) (before now : List Pair) (bits : RowBits) (highs : ℕ) (old : Tally) → old ≡ tally_of kind before → AreRead ends alone before now bits highs → old.all ≡ 0 → old ≡ tally_of kind now
tally_stays ends alone kind before now bits highs old is read none =
    let rows : old.all ≡ length before = ap (λ (t : Tally). t.all) is in
    is ∙ ap (tally_of kind) (sym (no_rows before (sym rows ∙ none)) ∙ no_rows now (read.rows ∙ sym rows ∙ none))

-- the tally behind the plane
pub tally_read : (ends : DigitEnds) (alone : Bool) (kind : ItemKind) (before now : List Pair) (bits : RowBits) (highs : ℕ) (old : Tally) (certain all : ℕ) (low high : ℤ) → IsSumKind kind → old ≡ tally_of kind before → AreRead ends alone before now bits highs →
    alone ≡ true → 0 < old.certain → certain ≡ old.certain → all ≡ old.all → low ≡ old.low_sum +ℤ pos (bits.ones * 2 ^ ends.unread) → high ≡ low +ℤ pos (spans_by ends old.certain bits.at_top + highs) →
    record { certain = certain; all = all; least_low = None; greatest_high = None; least_certain_high = None; greatest_certain_low = None; low_sum = low; high_sum = high } ≡ tally_of kind now
tally_read ends alone kind before now bits highs old certain all low high sums is read one_key some c a l h =
    let was : old ≡ tally_of Sum before = is ∙ sum_tally kind before sums in
    let rows : old.all ≡ length before = ap (λ (t : Tally). t.all) was in
    let count : old.certain ≡ certain_count before = ap (λ (t : Tally). t.certain) was in
    let sum : old.low_sum ≡ total (map low_share before) = ap (λ (t : Tally). t.low_sum) was in
    let still = read.certain in
    let surely : 0 < certain_count now = omega (arith, some, count, still) in
    let lower : low ≡ total (map low_share now) = l ∙ ap (λ z. z +ℤ pos (bits.ones * 2 ^ ends.unread)) sum ∙ sym (read.low one_key) in
    let higher : high ≡ total (map high_share now) = h ∙ ap (λ z. z +ℤ pos (spans_by ends old.certain bits.at_top + highs)) lower ∙ ap (λ k. total (map low_share now) +ℤ pos (spans_by ends k bits.at_top + highs)) count ∙ sym (read.high one_key) in
    sym (same_tally _ _ _ _ _ _ _ _ (tally_of Sum now)
    (c ∙ count ∙ sym read.certain) (a ∙ rows ∙ sym read.rows) (no_low now surely) (no_high now surely) refl refl lower higher)
    ∙ sym (sum_tally kind now sums)
