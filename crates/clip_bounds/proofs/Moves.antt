-- How far the shares of a sum move where the pairs of rows are clipped.
use Rattle.std.proofs.Common.{◌≡◌, ℕ, zero, suc, ◌+◌, ◌<◌, ◌≤◌, ◌==◌, ℤ, pos, ◌+ℤ◌, ◌-ℤ◌, ◌*ℤ◌, ◌≤ℤ◌, ◌<ℤ◌, nat_abs, int_lt, Bool, true, false, cond, List, [], ◌∷◌, length, map, filter_map, get_or, inl, inr, refl, sym, ap, subst, ◌∙◌, arith, IsTrue, Option, Some, None, ◌⊎◌}
use Rattle.std.specs.Int.{int_min, int_max}
use Rattle.std.specs.List.{cons_option, range_with_len}
use Rattle.std.proofs.lemmas.Bool.{cases_Bool, eqb-true, eq-eqb, false≢true, true≢false}
use Rattle.std.proofs.lemmas.Int.{ints, clamps}
use Rattle.std.proofs.lemmas.List.{get_or_default}
use Rattle.std.proofs.lemmas.Option.{same_Some}
use Rattle.std.proofs.lemmas.Simd.{map-map}
use Rattle.interval_calc.specs.Intervals.{Interval, Within}
use Rattle.daq_table.specs.Tables.{spread}
use Rattle.query_model.specs.declared.bounds.Nullity.{Nullity}
use Rattle.query_model.specs.declared.bounds.Nullity.TheVariants.{Never, Possibly, Always}
use Rattle.query_model.specs.declared.bounds.Truth.{Truth}
use Rattle.query_model.specs.declared.bounds.Truth.TheVariants.{False, Unknown, True}
use Rattle.query_model.specs.Answers.{total}
use Rattle.query_model.specs.Bounds.{Pair, pair_of, pair_unless_false, pairs}
use Rattle.query_model.specs.Knowledge.{IsKnowledge, IsLegal, known_at, null_with, prefix_at, range_of, ranges_of}
use Rattle.query_model.specs.Laws.{NoneEmpty}
use Rattle.query_model.specs.Queries.{Aggregate, Query}
use Rattle.query_model.specs.Truths.{Ranges, and_of, may_be_number, truth_of, truth_of_number, truths_of}
use Rattle.query_model.proofs.Blocks.{range_holds, range_ordered}
use Rattle.query_model.proofs.Spans.{declared_outside}
use Rattle.query_model.proofs.Numbers.{Allows, high_within, low_within}
use Rattle.query_model.proofs.Queries.{ranges_ordered}
use Rattle.known_column.specs.Columns.{KnownColumn}
use Rattle.known_column.specs.KnownTables.{KnownTable, column_at}
use Rattle.known_column.proofs.CodeDigits.{prefix_mono}
use Rattle.known_column.proofs.TableBlocks.{rebuilt}
use Rattle.kleene_filter.specs.Filters.{is_possible, truth_at, truths_under}
use Rattle.kleene_filter.proofs.SideTruths.{has_prefix}
use Rattle.aggregates.specs.declared.ends.End.{End}
use Rattle.aggregates.specs.declared.ends.End.TheVariants.{Low, High}
use Rattle.aggregates.specs.Selections.{end_of, sum_where}
use Rattle.round_engine.specs.SumEnds.{share_at}
use Rattle.clip_bounds.specs.declared.clip.Clip.{Clip}
use Rattle.clip_bounds.specs.declared.level.Level.{Level}
use Rattle.clip_bounds.specs.Clips.{IsLong}
use Rattle.clip_bounds.specs.Clipped.{clipped}
use Rattle.clip_bounds.specs.ClipLaws.{IsOfLongs}
use Rattle.clip_bounds.specs.Ends.{clip_end, level_end, part_of}
use Rattle.clip_bounds.specs.Levels.{IsLevelOf, count_at}
use Rattle.clip_bounds.proofs.Passing.{HasNumberIn, HasNumbers, may_hold_within, range_of_clip, surely_within}
use Rattle.clip_bounds.proofs.Rows.{IsClippedBy, IsPairOf, column_pair, long_number, may_hold, pair_is}

-- ---- a list of rows

module _ (clip : Clip) (share : Pair → ℤ) (f : ℕ → Option Pair) (counted : ℕ → Bool) (g : ℕ → ℕ) (d : ℤ) where
  -- the share of a row's pair moves by so many times d; a row without a pair is not counted
  abbrev pub MovesAt : ℕ → Option Pair → Type 0
  MovesAt r None = counted r ≡ false
  MovesAt r (Some p) = (counted r ≡ true) × (share (clipped clip p) ≡ (share p +ℤ (pos (g r) *ℤ d)))

  abbrev shares_of : List Pair → ℤ
  shares_of ps = total (map share ps)

  -- all shares move by as many as are counted
  abbrev pub HaveMoved : List Pair → ℕ → Type 0
  HaveMoved ps n = shares_of (map (clipped clip) ps) ≡ (shares_of ps +ℤ (pos n *ℤ d))

  added : (x x' t t' : ℤ) (k n : ℕ) → x' ≡ (x +ℤ (pos k *ℤ d)) → t' ≡ (t +ℤ (pos n *ℤ d)) → (x' +ℤ t') ≡ ((x +ℤ t) +ℤ (pos (k + n) *ℤ d))
  added x x' t t' k n e h = omega (arith, ints)

  none_before : (n : ℕ) → n ≡ 0 + n
  none_before n = omega arith

  one_more : (r : ℕ) (o : Option Pair) (ps : List Pair) (n : ℕ) → MovesAt r o → HaveMoved ps n → HaveMoved (cons_option o ps) (cond (counted r) (g r) 0 + n)
  one_more r None ps n h rest = subst (λ b. HaveMoved ps (cond b (g r) 0 + n)) (sym h) (subst (HaveMoved ps) (none_before n) rest)
  one_more r (Some p) ps n h rest = subst (λ b. HaveMoved (p ∷ ps) (cond b (g r) 0 + n)) (sym h.0) (added (share p) (share (clipped clip p)) (shares_of ps) (shares_of (map (clipped clip) ps)) (g r) n h.1 rest)

  none_moved : shares_of [] ≡ (shares_of [] +ℤ (pos 0 *ℤ d))
  none_moved = omega (arith, ints)

  pub shares_moved : (a n m : ℕ) → a + n ≤ m → ((r : ℕ) → r < m → MovesAt r (f r)) → HaveMoved (filter_map f (range_with_len a n)) (sum_where (map counted (range_with_len a n)) (map g (range_with_len a n)))
  shares_moved a zero m h each = none_moved
  shares_moved a (suc n) m h each = one_more a (f a) (filter_map f (range_with_len (a + 1) n)) _ (each a (omega arith)) (shares_moved (a + 1) n m (omega arith) each)

-- the rows that a filter lets through perhaps, at a prefix, counted row by row
pub count_by_rows : (query : Query) (table : KnownTable) (c prefix : ℕ) (mask : List Bool) (truths : List Truth) → mask ≡ map is_possible truths → truths ≡ truths_under query.pred table →
    length (known_at table.known c).prefixes ≡ table.frame.rows →
    count_at prefix mask (known_at table.known c).prefixes
    ≡ sum_where (map (λ r. is_possible (truth_at query.pred table r)) (range_with_len 0 table.frame.rows)) (map (λ r. cond (prefix_at table.known c r == prefix) 1 0) (range_with_len 0 table.frame.rows))
count_by_rows query table c prefix mask truths is judged long =
    let rows = range_with_len 0 table.frame.rows in
    let ps = (known_at table.known c).prefixes in
    let each : ps ≡ map (λ r. get_or ps r 0) rows =
    sym (rebuilt ps (λ r. get_or ps r 0) (λ k d below. get_or_default ps k 0 d below)) ∙ ap (λ n. map (λ r. get_or ps r 0) (range_with_len 0 n)) long in
    ap (λ m. count_at prefix m ps) (is ∙ ap (map is_possible) judged ∙ map-map is_possible (truth_at query.pred table) rows)
    ∙ ap (λ l. sum_where (map (λ r. is_possible (truth_at query.pred table r)) rows) (map (λ p. cond (p == prefix) 1 0) l)) each
    ∙ ap (sum_where (map (λ r. is_possible (truth_at query.pred table r)) rows)) (map-map (λ p. cond (p == prefix) 1 0) (λ r. get_or ps r 0) rows)

-- ---- a row

possible_holds : (t : Truth) → Allows t true → is_possible t ≡ true
possible_holds False a = absurd (true≢false a)
possible_holds Unknown a = refl
possible_holds True a = refl

some_pair : (p : Pair) → Some p ≡ None → ⊥
some_pair p e = cc

-- a row that may pass has a pair, once its argument may be a number
no_pair_if_impossible : (t : Truth) (w : Nullity) (span : Interval) → (Allows t true → IsTrue (may_be_number w)) → pair_unless_false (and_of t (truth_of_number w)) span ≡ None → is_possible t ≡ false
no_pair_if_impossible False w span number e = refl
no_pair_if_impossible Unknown Never span number e = absurd (some_pair _ e)
no_pair_if_impossible Unknown Possibly span number e = absurd (some_pair _ e)
no_pair_if_impossible Unknown Always span number e = absurd (false≢true (number tt))
no_pair_if_impossible True Never span number e = absurd (some_pair _ e)
no_pair_if_impossible True Possibly span number e = absurd (some_pair _ e)
no_pair_if_impossible True Always span number e = absurd (false≢true (number refl))

-- ---- a row and the level of a number

int_cases : (a b : ℤ) → (a <ℤ b) ⊎ (b ≤ℤ a)
int_cases a b =
    elim (cases_Bool (int_lt a b)) [
      | inl t ↦ inl (grind (arith, ints))
      | inr f ↦ inr (grind (arith, ints))
    ]

-- the number lies in the range of its level
level_holds : (column : KnownColumn) (a : ℤ) (level : Level) → IsLevelOf column a level → column.ends.base ≤ℤ a → a ≤ℤ column.ends.top → (level.low ≤ℤ a) × (a ≤ℤ level.high)
level_holds column a level is base top =
    let ends = column.ends in
    let cell = nat_abs (a -ℤ ends.base) in
    let there : cell ≤ spread ends = omega (arith, ints) in
    let number : (ends.base +ℤ pos cell) ≡ a = omega (arith, ints) in
    let within = (range_holds ends column.known.read level.prefix (Some cell) there (sym is.prefix)).1 in
    let low = is.low in
    let high = is.high in
    let above = within.above in
    let below = within.below in
    (omega (arith, ints), omega (arith, ints))

-- at another prefix, where some number is no less than that of the level, all are
above_level : (column : KnownColumn) (a : ℤ) (level : Level) (p : ℕ) (x : ℤ) → IsLevelOf column a level → column.ends.base ≤ℤ a → IsLegal column.ends column.known.read p → IsTrue (may_be_number (null_with column.ends column.known.read p)) →
    Within (range_of column.ends column.known.read p).numbers x → a ≤ℤ x → (p == level.prefix) ≡ false → a ≤ℤ (range_of column.ends column.known.read p).numbers.low
above_level column a level p x is base legal some within h other =
    let ends = column.ends in
    let read = column.known.read in
    let i = (range_of ends read p).numbers in
    let own = has_prefix ends read p x legal some within in
    let first = has_prefix ends read p i.low legal some (low_within i (range_ordered ends read p legal)) in
    let order : nat_abs (a -ℤ ends.base) ≤ nat_abs (x -ℤ ends.base) = omega (arith, ints) in
    let up : level.prefix ≤ p = omega (arith, is.prefix, own, prefix_mono ends read (nat_abs (a -ℤ ends.base)) (nat_abs (x -ℤ ends.base)) order) in
    elim (int_cases i.low a) [
      | inl less ↦ (let low : ends.base ≤ℤ i.low = omega (arith, ints) in
          let more : nat_abs (i.low -ℤ ends.base) ≤ nat_abs (a -ℤ ends.base) = omega (arith, ints) in
          let down : p ≤ level.prefix = omega (arith, is.prefix, first, prefix_mono ends read (nat_abs (i.low -ℤ ends.base)) (nat_abs (a -ℤ ends.base)) more) in
          absurd (true≢false (sym (eq-eqb p level.prefix (omega (arith, up, down))) ∙ other)))
      | inr most ↦ most
    ]

-- where some number is no greater, all are
below_level : (column : KnownColumn) (b : ℤ) (level : Level) (p : ℕ) (x : ℤ) → IsLevelOf column b level → column.ends.base ≤ℤ b → IsLegal column.ends column.known.read p → IsTrue (may_be_number (null_with column.ends column.known.read p)) →
    Within (range_of column.ends column.known.read p).numbers x → x ≤ℤ b → (p == level.prefix) ≡ false → (range_of column.ends column.known.read p).numbers.high ≤ℤ b
below_level column b level p x is base legal some within h other =
    let ends = column.ends in
    let read = column.known.read in
    let i = (range_of ends read p).numbers in
    let above = within.above in
    let low : ends.base ≤ℤ i.low = omega (arith, ints) in
    let least : ends.base ≤ℤ x = omega (arith, ints) in
    let own = has_prefix ends read p x legal some within in
    let last = has_prefix ends read p i.high legal some (high_within i (range_ordered ends read p legal)) in
    let order : nat_abs (x -ℤ ends.base) ≤ nat_abs (b -ℤ ends.base) = omega (arith, ints) in
    let down : p ≤ level.prefix = omega (arith, is.prefix, own, prefix_mono ends read (nat_abs (x -ℤ ends.base)) (nat_abs (b -ℤ ends.base)) order) in
    elim (int_cases b i.high) [
      | inl less ↦ (let more : nat_abs (b -ℤ ends.base) ≤ nat_abs (i.high -ℤ ends.base) = omega (arith, ints) in
          let up : level.prefix ≤ p = omega (arith, is.prefix, last, prefix_mono ends read (nat_abs (b -ℤ ends.base)) (nat_abs (i.high -ℤ ends.base)) more) in
          absurd (true≢false (sym (eq-eqb p level.prefix (omega (arith, up, down))) ∙ other)))
      | inr most ↦ most
    ]

-- the shares of a pair that the clip may cut, and of one that it does not
low_share_cut : (c : Bool) (l a low : ℤ) → l ≡ low → low ≤ℤ a → (c ≡ true → a ≤ℤ l) →
    cond c (int_max l a) (int_min (int_max l a) (pos 0)) ≡ (cond c l (int_min l (pos 0)) +ℤ (pos 1 *ℤ (int_min a (pos 0) -ℤ int_min low (pos 0))))
low_share_cut true l a low e h sure = (let above = sure refl in omega (arith, ints, clamps))
low_share_cut false l a low e h sure = omega (arith, ints, clamps)

low_share_kept : (c : Bool) (l a d : ℤ) → a ≤ℤ l → cond c (int_max l a) (int_min (int_max l a) (pos 0)) ≡ (cond c l (int_min l (pos 0)) +ℤ (pos 0 *ℤ d))
low_share_kept true l a d h = omega (arith, ints, clamps)
low_share_kept false l a d h = omega (arith, ints, clamps)

high_share_cut : (c : Bool) (l b high : ℤ) → l ≡ high → b ≤ℤ high → (c ≡ true → l ≤ℤ b) →
    cond c (int_min l b) (int_max (int_min l b) (pos 0)) ≡ (cond c l (int_max l (pos 0)) +ℤ (pos 1 *ℤ (int_max b (pos 0) -ℤ int_max high (pos 0))))
high_share_cut true l b high e h sure = (let below = sure refl in omega (arith, ints, clamps))
high_share_cut false l b high e h sure = omega (arith, ints, clamps)

high_share_kept : (c : Bool) (l b d : ℤ) → l ≤ℤ b → cond c (int_min l b) (int_max (int_min l b) (pos 0)) ≡ (cond c l (int_max l (pos 0)) +ℤ (pos 0 *ℤ d))
high_share_kept true l b d h = omega (arith, ints, clamps)
high_share_kept false l b d h = omega (arith, ints, clamps)

-- ---- an end

-- a number lies no further out than another
abbrev IsInside : End → ℤ → ℤ → Type 0
IsInside Low a n = a ≤ℤ n
IsInside High a n = n ≤ℤ a

abbrev pair_end : End → Pair → ℤ
pair_end Low p = p.low
pair_end High p = p.high

share_cut : (e : End) (clip : Clip) (p : Pair) (n : ℤ) → pair_end e p ≡ n → IsInside e n (clip_end e clip) → (p.certain ≡ true → IsInside e (clip_end e clip) (pair_end e p)) →
    share_at e (clipped clip p) ≡ (share_at e p +ℤ (pos 1 *ℤ (part_of e (clip_end e clip) -ℤ part_of e n)))
share_cut Low clip p n is inside sure = low_share_cut p.certain p.low clip.low n is inside sure
share_cut High clip p n is inside sure = high_share_cut p.certain p.high clip.high n is inside sure

share_kept : (e : End) (clip : Clip) (p : Pair) (d : ℤ) → IsInside e (clip_end e clip) (pair_end e p) → share_at e (clipped clip p) ≡ (share_at e p +ℤ (pos 0 *ℤ d))
share_kept Low clip p d h = low_share_kept p.certain p.low clip.low d h
share_kept High clip p d h = high_share_kept p.certain p.high clip.high d h

own_end : (e : End) (t : Truth) (null : Nullity) (span : Interval) (p : Pair) → IsPairOf t null span p → pair_end e p ≡ end_of e span
own_end Low t null span p is = is.low
own_end High t null span p is = is.high

end_within : (e : End) (i : Interval) → i.low ≤ℤ i.high → Within i (end_of e i)
end_within Low i ordered = low_within i ordered
end_within High i ordered = high_within i ordered

inside_clip : (e : End) (clip : Clip) (n : ℤ) → Within (range_of_clip clip) n → IsInside e (clip_end e clip) n
inside_clip Low clip n within = within.above
inside_clip High clip n within = within.below

inside_level : (e : End) (level : Level) (a : ℤ) → (level.low ≤ℤ a) × (a ≤ℤ level.high) → IsInside e (level_end e level) a
inside_level Low level a holds = holds.0
inside_level High level a holds = holds.1

end_of_level : (e : End) (column : KnownColumn) (a : ℤ) (level : Level) → IsLevelOf column a level → level_end e level ≡ end_of e (range_of column.ends column.known.read level.prefix).numbers
end_of_level Low column a level is = is.low
end_of_level High column a level is = is.high

past_level : (e : End) (column : KnownColumn) (a : ℤ) (level : Level) (p : ℕ) (x : ℤ) → IsLevelOf column a level → column.ends.base ≤ℤ a → IsLegal column.ends column.known.read p → IsTrue (may_be_number (null_with column.ends column.known.read p)) →
    Within (range_of column.ends column.known.read p).numbers x → IsInside e a x → (p == level.prefix) ≡ false → IsInside e a (end_of e (range_of column.ends column.known.read p).numbers)
past_level Low column a level p x is base legal some within inside other = above_level column a level p x is base legal some within inside other
past_level High column a level p x is base legal some within inside other = below_level column a level p x is base legal some within inside other

-- ---- all rows

module _ (query : Query) (item : Aggregate) (clip : Clip) (table : KnownTable) (own : IsClippedBy query item clip) (full : HasNumbers clip) (longs : IsOfLongs table.frame clip.column) (k : IsKnowledge table.frame table.known)
    (within : clip.column < length table.frame.columns) where
  abbrev c : ℕ
  c = clip.column

  abbrev column : KnownColumn
  column = column_at table c

  abbrev row_ranges : ℕ → Ranges
  row_ranges r = ranges_of table.frame table.known r

  abbrev pair : ℕ → Option Pair
  pair r = pair_of query item [] (row_ranges r)

  abbrev counted : ℕ → Bool
  counted r = is_possible (truth_at query.pred table r)

  none_empty : (r : ℕ) → r < table.frame.rows → NoneEmpty (row_ranges r)
  none_empty r r_in = ranges_ordered table.frame table.known r k r_in

  -- a number of the column at a row that may pass
  passing : (r : ℕ) → r < table.frame.rows → Allows (truth_of query.pred (row_ranges r)) true → HasNumberIn clip (row_ranges r c)
  passing r r_in a =
      let truths = truths_of query.pred (row_ranges r) in
      may_hold_within query.pred c clip (row_ranges r) own.range full (none_empty r r_in) (λ x w. long_number table.frame table.known r c x longs w) (may_hold truths.may_hold truths.may_fail truths.may_be_null a)

  -- a number of the column, within the clip
  record HasPassing (r : ℕ) : Type 0 where
    number : ℤ
    there : Within (row_ranges r c).numbers number
    above : clip.low ≤ℤ number
    below : number ≤ℤ clip.high

  has_passing : (r : ℕ) → r < table.frame.rows → Allows (truth_of query.pred (row_ranges r)) true → HasPassing r
  has_passing r r_in a =
      let found = passing r r_in a in
      record { number = found.number; there = found.there.1; above = found.within.above; below = found.within.below }

  -- where a row surely passes, its ends lie within the clip
  sure_end : (r : ℕ) → r < table.frame.rows → truth_of query.pred (row_ranges r) ≡ True → (x : ℤ) → IsTrue (may_be_number (row_ranges r c).null) → Within (row_ranges r c).numbers x → Within (range_of_clip clip) x
  sure_end r r_in sure x number in_span =
      let found = surely_within query.pred c clip (row_ranges r) (Some x) own.range (none_empty r r_in) sure (number, in_span) in
      subst (λ z. IsLong z → Within (range_of_clip clip) z) (sym (same_Some x found.0 found.1)) found.2 (long_number table.frame table.known r c x longs in_span)

  -- a row without a pair surely does not pass
  not_counted : (r : ℕ) → r < table.frame.rows → pair r ≡ None → counted r ≡ false
  not_counted r r_in e =
      let ranges = row_ranges r in
      no_pair_if_impossible (truth_of query.pred ranges) (ranges c).null (ranges c).numbers (λ a. (passing r r_in a).there.0) (sym (column_pair query item clip ranges own) ∙ e)

  -- the pairs of all rows move as they do at each
  moved_where : (share : Pair → ℤ) (g : ℕ → ℕ) (d : ℤ) → ((r : ℕ) (p : Pair) → r < table.frame.rows → IsPairOf (truth_of query.pred (row_ranges r)) (row_ranges r c).null (row_ranges r c).numbers p → share (clipped clip p) ≡ (share p +ℤ (pos (g r) *ℤ d))) →
      total (map share (map (clipped clip) (pairs query item [] table.frame table.known)))
      ≡ (total (map share (pairs query item [] table.frame table.known)) +ℤ (pos (sum_where (map counted (range_with_len 0 table.frame.rows)) (map g (range_with_len 0 table.frame.rows))) *ℤ d))
  moved_where share g d each = shares_moved clip share pair counted g d 0 table.frame.rows table.frame.rows (omega arith) (λ r r_in. by_pair r r_in (pair r) refl)
    where
      by_pair : (r : ℕ) → r < table.frame.rows → (o : Option Pair) → pair r ≡ o → MovesAt clip share pair counted g d r o
      by_pair r r_in None e = not_counted r r_in e
      by_pair r r_in (Some p) e =
          let ranges = row_ranges r in
          let is = pair_is (truth_of query.pred ranges) (ranges c).null (ranges c).numbers p (sym (column_pair query item clip ranges own) ∙ e) in
          (possible_holds (truth_of query.pred ranges) is.holds, each r p r_in is)

  nothing_added : (x y d : ℤ) (n : ℕ) → d ≡ pos 0 → x ≡ (y +ℤ (pos n *ℤ d)) → x ≡ (y +ℤ pos 0)
  nothing_added x y d n none e = e ∙ ap (λ z. y +ℤ (pos n *ℤ z)) none ∙ no_product y n
    where
      no_product : (y : ℤ) (n : ℕ) → (y +ℤ (pos n *ℤ pos 0)) ≡ (y +ℤ pos 0)
      no_product y n = omega (arith, ints)

  -- ---- an end of the pairs

  -- a clip that ends at no number of the column cuts nothing
  uncut : (e : End) (r : ℕ) (p : Pair) → HasPassing r → pair_end e p ≡ end_of e (row_ranges r c).numbers → (clip_end e clip <ℤ column.ends.base) ⊎ (column.ends.top <ℤ clip_end e clip) → IsInside e (clip_end e clip) (pair_end e p)
  uncut Low r p found is (inl h) = (let outside = declared_outside table.frame table.known r c in let low = outside.low in omega (arith, ints))
  uncut Low r p found is (inr h) =
      let outside = declared_outside table.frame table.known r c in
      let high = outside.high in
      let below = found.there.below in
      let above = found.above in
      absurd (omega (arith, ints))
  uncut High r p found is (inl h) =
      let outside = declared_outside table.frame table.known r c in
      let low = outside.low in
      let below = found.below in
      let above = found.there.above in
      absurd (omega (arith, ints))
  uncut High r p found is (inr h) = (let outside = declared_outside table.frame table.known r c in let high = outside.high in omega (arith, ints))

  pub ends_kept : (e : End) → (clip_end e clip <ℤ column.ends.base) ⊎ (column.ends.top <ℤ clip_end e clip) →
      total (map (share_at e) (map (clipped clip) (pairs query item [] table.frame table.known))) ≡ (total (map (share_at e) (pairs query item [] table.frame table.known)) +ℤ pos 0)
  ends_kept e outside = nothing_added (total (map (share_at e) (map (clipped clip) (pairs query item [] table.frame table.known)))) (total (map (share_at e) (pairs query item [] table.frame table.known))) (pos 0)
      (sum_where (map counted (range_with_len 0 table.frame.rows)) (map (λ (r : ℕ). 0) (range_with_len 0 table.frame.rows))) refl (moved_where (share_at e) (λ r. 0) (pos 0) (λ r p r_in is.
      share_kept e clip p (pos 0) (uncut e r p (has_passing r r_in is.holds) (own_end e (truth_of query.pred (row_ranges r)) (row_ranges r c).null (row_ranges r c).numbers p is) outside)))

  passing_inside : (e : End) (r : ℕ) (found : HasPassing r) → IsInside e (clip_end e clip) found.number
  passing_inside Low r found = found.above
  passing_inside High r found = found.below

  pub ends_moved : (e : End) (level : Level) (mask : List Bool) (truths : List Truth) → IsLevelOf column (clip_end e clip) level → column.ends.base ≤ℤ clip_end e clip → clip_end e clip ≤ℤ column.ends.top →
      mask ≡ map is_possible truths → truths ≡ truths_under query.pred table →
      total (map (share_at e) (map (clipped clip) (pairs query item [] table.frame table.known)))
      ≡ (total (map (share_at e) (pairs query item [] table.frame table.known)) +ℤ (pos (count_at level.prefix mask column.known.prefixes) *ℤ (part_of e (clip_end e clip) -ℤ part_of e (level_end e level))))
  ends_moved e level mask truths is base top mask_is judged =
      let d = part_of e (clip_end e clip) -ℤ part_of e (level_end e level) in
      moved_where (share_at e) (λ r. cond (prefix_at table.known c r == level.prefix) 1 0) d (λ r p r_in of. at_row r p r_in of (prefix_at table.known c r == level.prefix) refl)
      ∙ ap (λ n. total (map (share_at e) (pairs query item [] table.frame table.known)) +ℤ (pos n *ℤ d)) (sym (count_by_rows query table c level.prefix mask truths mask_is judged (k.rows c within)))
    where
      at_row : (r : ℕ) (p : Pair) → r < table.frame.rows → IsPairOf (truth_of query.pred (row_ranges r)) (row_ranges r c).null (row_ranges r c).numbers p → (b : Bool) → (prefix_at table.known c r == level.prefix) ≡ b →
          share_at e (clipped clip p) ≡ (share_at e p +ℤ (pos (cond b 1 0) *ℤ (part_of e (clip_end e clip) -ℤ part_of e (level_end e level))))
      at_row r p r_in of true e_is =
          let numbers = (row_ranges r c).numbers in
          let own = own_end e (truth_of query.pred (row_ranges r)) (row_ranges r c).null numbers p of in
          let same : end_of e numbers ≡ level_end e level = ap (λ q. end_of e (range_of column.ends column.known.read q).numbers) (eqb-true (prefix_at table.known c r) level.prefix e_is) ∙ sym (end_of_level e column (clip_end e clip) level is) in
          let ordered = none_empty r r_in c in
          share_cut e clip p (level_end e level) (own ∙ same) (inside_level e level (clip_end e clip) (level_holds column (clip_end e clip) level is base top))
          (λ sure. subst (IsInside e (clip_end e clip)) (sym own) (inside_clip e clip (end_of e numbers) (sure_end r r_in (of.certain sure) (end_of e numbers) of.number (end_within e numbers ordered))))
      at_row r p r_in of false e_is =
          let numbers = (row_ranges r c).numbers in
          let own = own_end e (truth_of query.pred (row_ranges r)) (row_ranges r c).null numbers p of in
          let found = has_passing r r_in of.holds in
          share_kept e clip p (part_of e (clip_end e clip) -ℤ part_of e (level_end e level))
          (subst (IsInside e (clip_end e clip)) (sym own) (past_level e column (clip_end e clip) level (prefix_at table.known c r) found.number is base (k.legal c r within r_in) of.number found.there (passing_inside e r found) e_is))
