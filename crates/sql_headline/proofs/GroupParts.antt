-- Parts of keys as intervals of values: a number is in a range where its value lies in the interval.
use Rattle.std.proofs.Common.{◌≡◌, ◌≢◌, ℕ, ◌<◌, ℤ, pos, negsuc, ◌≤ℤ◌, ◌<ℤ◌, true, not, List, [], ◌∷◌, map, length, Option, Some, None, refl, sym, ap, subst, ◌∙◌, arith, IsTrue, slice_get}
use Rattle.std.proofs.lemmas.Bool.{true≢false}
use Rattle.std.proofs.lemmas.Int.{ints}
use Rattle.std.proofs.lemmas.Option.{none-some}
use Rattle.std.specs.Cmp.{int_ranks}
use Rattle.std.specs.List.{AllByRecursion, AllZip}
use Rattle.std.specs.Ordering.{MatchOrdering, int_cmp, is_gt, is_some_and}
use Rattle.std.specs.Prelude.{int_le, int_lt}
use Rattle.std.specs.Simd.Lanes.{zip2}
use Rattle.std.specs.declared.cmp.Ordering.{Ordering}
use Rattle.std.specs.declared.cmp.Ordering.TheVariants.{Less, Equal, Greater}
use Rattle.daq_report.specs.Rankings.{bound_of_range}
use Rattle.daq_table.specs.ColumnFacts.{fits_names}
use Rattle.daq_table.specs.Tables.{Frame, ends_at, ends_of}
use Rattle.daq_table.specs.declared.head.ColumnHead.{ColumnHead}
use Rattle.daq_table.specs.declared.head.Kind.{Kind}
use Rattle.daq_table.specs.declared.head.Kind.TheVariants as kinds
use Rattle.interval_calc.specs.Intervals.{Within}
use Rattle.query_model.proofs.Exact.{IsSingleRange, one_value}
use Rattle.query_model.specs.Bounds.{Admits}
use Rattle.query_model.specs.Knowledge.{Knowledge, is_legal, known_at, range_of}
use Rattle.query_model.specs.Truths.{IsIn, Range, may_be_null, may_be_number}
use Rattle.query_model.specs.Validity.{declared_range}
use Rattle.query_model.specs.declared.bounds.Nullity.{Nullity}
use Rattle.query_model.specs.declared.bounds.Nullity.TheVariants.{Always, Never, Possibly}
use Rattle.query_model.specs.declared.query.Face.TheVariants.{OfColumn}
use Rattle.round_engine.proofs.DeclaredKeys.{parts_declared}
use Rattle.row_groups.specs.Partition.{IsKeyIn, are_legal, part_under, ranges_of_prefixes}
use Rattle.sql_text.specs.Tree.{Name}
use Rattle.sql_typing.proofs.Comparisons.{and_left, and_right}
use Rattle.sql_meaning.specs.Answers.{is_same}
use Rattle.sql_meaning.specs.Conditions.{Row}
use Rattle.sql_meaning.specs.Laws.{IsShownAs}
use Rattle.sql_meaning.specs.Rows.{shown, text_at, value_in, value_of}
use Rattle.sql_meaning.specs.Values.{Text, Value, compare, unless_null}
use Rattle.sql_meaning.proofs.Enclosed.{compare_left, compare_right, in_order}
use Rattle.sql_meaning.proofs.Named.{there}
use Rattle.sql_meaning.proofs.Readings.{text_is}
use Rattle.sql_headline.specs.Intervals.{Encloses, Interval, IsAlone}
use Rattle.sql_headline.proofs.Ends.{alone, enclosed, interval_of}

-- ---- nulls

pub null_out : (w : Nullity) → IsTrue (may_be_null w) → w ≢ Never
null_out w h e = true≢false (sym h ∙ ap may_be_null e)

pub number_out : (w : Nullity) → IsTrue (may_be_number w) → w ≢ Always
number_out w h e = true≢false (sym h ∙ ap may_be_number e)

pub null_in : (w : Nullity) → w ≢ Never → IsTrue (may_be_null w)
null_in Never h = absurd (h refl)
null_in Possibly h = refl
null_in Always h = refl

pub number_in : (w : Nullity) → w ≢ Always → IsTrue (may_be_number w)
number_in Never h = refl
number_in Possibly h = refl
number_in Always h = absurd (h refl)

admits : (range : Range) (z : Option ℤ) → IsIn range z → Admits (bound_of_range range) z
admits range None h = null_out range.null h
admits range (Some x) h = (number_out range.null h.0, h.1.above, h.1.below)

-- ---- ends are values

at_most_is : (x y : ℤ) → int_le x y ≡ true → x ≤ℤ y
at_most_is x y h = grind (arith, ints)

below_is : (x y : ℤ) → int_lt x y ≡ true → x <ℤ y
below_is x y h = grind (arith, ints)

text_stands : (names : List (List ℕ)) (z : ℤ) → pos 0 ≤ℤ z → z <ℤ pos (length names) → (u : Value) × (text_at names z ≡ Some u)
text_stands names (pos k) low high =
    let lt : k < length names = omega (arith, ints) in
    let at = there names k lt in
    (Text at.element, rw at.get refl)
text_stands names (negsuc k) low high = absurd (omega (arith, ints))

-- where one number of a column stands for a value, each number that is declared does
stands_by : (kind : Kind) (names : List (List ℕ)) (base top z x : ℤ) (w : Value) → fits_names kind base top names ≡ true → value_in kind names z ≡ Some w → base ≤ℤ x → x ≤ℤ top → (u : Value) × (value_in kind names x ≡ Some u)
stands_by kinds.Int names base top z x w fits e low high = (_, refl)
stands_by (kinds.Dec places) names base top z x w fits e low high = (_, refl)
stands_by kinds.Date names base top z x w fits e low high = (_, refl)
stands_by kinds.Text [] base top z x w fits e low high = (let at = text_is [] z w e in absurd (none-some at.name at.get))
stands_by kinds.Text (n ∷ ns) base top z x w fits e low high =
    let bottom = at_most_is (pos 0) base (and_left (int_le (pos 0) base) (int_lt top (pos (length (n ∷ ns)))) fits) in
    let above = below_is top (pos (length (n ∷ ns))) (and_right (int_le (pos 0) base) (int_lt top (pos (length (n ∷ ns)))) fits) in
    text_stands (n ∷ ns) x (omega (arith, ints)) (omega (arith, ints))

-- ---- one part

at_most_by : (x y : ℤ) (o : Ordering) → MatchOrdering o (x <ℤ y) (x ≡ y) (y <ℤ x) → not (is_gt o) ≡ true → x ≤ℤ y
at_most_by x y Less h n = omega (arith, ints)
at_most_by x y Equal h n = omega (arith, ints)
at_most_by x y Greater h n = absurd (true≢false (sym n))

module _ (table : List ColumnHead) (columns : List ℕ) (c : ℕ) where
  abbrev shows : ℤ → Option Value
  shows = shown table columns (OfColumn c)

  abbrev part : Range → Interval
  part range = interval_of table columns (OfColumn c) (bound_of_range range)

  pub lies : (range : Range) (z : Option ℤ) (v : Option Value) → IsShownAs shows z v → IsIn range z → Encloses (part range) v
  lies range z v is h = enclosed table columns (OfColumn c) (bound_of_range range) z v is (admits range z h)

  -- a range of one value has that value alone
  pub is_alone : (range : Range) (z : Option ℤ) (v : Option Value) → IsSingleRange range → IsShownAs shows z v → IsIn range z → IsAlone (part range) v
  is_alone range z v single is h =
      let same : range.numbers.low ≡ range.numbers.high = single.numbers in
      alone table columns (OfColumn c) (bound_of_range range) z v is (admits range z h) single.null
      (λ some. (
        one_value range z (Some range.numbers.low) single h (number_in range.null some, record { above = omega (arith, ints); below = omega (arith, ints, same) }),
        one_value range z (Some range.numbers.high) single h (number_in range.null some, record { above = omega (arith, ints, same); below = omega (arith, ints) }),
      ))

  at_most_shown : (x y : ℤ) (u v : Value) → shows x ≡ Some u → shows y ≡ Some v → IsTrue (is_some_and (λ o. not (is_gt o)) (compare u v)) → x ≤ℤ y
  at_most_shown x y u v e f h =
      at_most_by x y (int_cmp x y) (int_ranks x y) (sym (ap (is_some_and (λ o. not (is_gt o))) (in_order table columns (OfColumn c) x y u v e f)) ∙ h)

  -- both ends of the range stand for values, where any number does
  abbrev pub HasEnds : Range → Type 0
  HasEnds range = (z : ℤ) (w : Value) → shows z ≡ Some w → ((u : Value) × (shows range.numbers.low ≡ Some u)) × ((u : Value) × (shows range.numbers.high ≡ Some u))

  inside_shown : (range : Range) (z : ℤ) (u : Value) (o : Option Value) → shows z ≡ o → HasEnds range → IsTrue (is_same o (Some u)) → Encloses (part range) (Some u) → IsIn range (Some z)
  inside_shown range z u None e ends same k = absurd (true≢false (sym same))
  inside_shown range z u (Some w) e ends same k =
      let low = (ends z w e).0 in
      let high = (ends z w e).1 in (
        number_in range.null k.0,
        record {
          above = at_most_shown range.numbers.low z low.0 w low.1 e (ap (is_some_and (λ o. not (is_gt o))) (compare_right w u low.0 same) ∙ k.1 low.0 u low.1 refl);
          below = at_most_shown z range.numbers.high w high.0 e high.1 (ap (is_some_and (λ o. not (is_gt o))) (compare_left w u high.0 same) ∙ k.2 u high.0 refl high.1);
        },
      )

  pub inside : (range : Range) (z : Option ℤ) (v : Option Value) → HasEnds range → IsShownAs shows z v → Encloses (part range) v → IsIn range z
  inside range None v ends is k = null_in range.null (subst (Encloses (part range)) is k)
  inside range (Some z) v ends is k = inside_shown range z is.0 (shows z) refl ends is.2 (subst (Encloses (part range)) is.1 k)

  pub has_ends : (column : ColumnHead) → unless_null (slice_get table) (slice_get columns c) ≡ Some column → (range : Range) →
      Within (declared_range (ends_of column)).numbers range.numbers.low → Within (declared_range (ends_of column)).numbers range.numbers.high → HasEnds range
  has_ends column at range low high z w e =
      let shows_is : (x : ℤ) → shows x ≡ value_in column.kind column.names x = (λ x. ap (λ o. value_of o (Some x)) at) in
      let there_is : value_in column.kind column.names z ≡ Some w = sym (shows_is z) ∙ e in
      let first = stands_by column.kind column.names column.base column.top z range.numbers.low w column.is_column.fits there_is low.above low.below in
      let last = stands_by column.kind column.names column.base column.top z range.numbers.high w column.is_column.fits there_is high.above high.below in
      ((first.0, shows_is range.numbers.low ∙ first.1), (last.0, shows_is range.numbers.high ∙ last.1))

-- ---- all parts

-- the column of a name, and its ends
pub record IsPartThere (table : List ColumnHead) (columns : List ℕ) (number : Name → ℕ) (frame : Frame) (n : Name) : Type 0 where
  pub column : ColumnHead
  pub at : unless_null (slice_get table) (slice_get columns (number n)) ≡ Some column
  pub ends : ends_at frame (number n) ≡ ends_of column

module _ (table : List ColumnHead) (columns : List ℕ) (number : Name → ℕ) (numbers : ℕ → Option ℤ) (row : Row) where
  abbrev part_of : ℕ → Range → Interval
  part_of c range = interval_of table columns (OfColumn c) (bound_of_range range)

  -- the number of the row in the column of a name is shown as the value of the row there
  abbrev pub IsShownThere : Name → Type 0
  IsShownThere n = IsShownAs (shown table columns (OfColumn (number n))) (numbers (number n)) (row n.name)

  pub all_lie : (ns : List Name) (ranges : List Range) → AllByRecursion IsShownThere ns → IsKeyIn ranges (map numbers (map number ns)) →
      AllZip (λ part name. Encloses part (row name.name)) (zip2 part_of (map number ns) ranges) ns
  all_lie [] [] h k = tt
  all_lie [] (range ∷ ranges) h k = absurd k
  all_lie (n ∷ ns) [] h k = absurd k
  all_lie (n ∷ ns) (range ∷ ranges) h k = (lies table columns (number n) range (numbers (number n)) (row n.name) h.0 k.0, all_lie ns ranges h.1 k.1)

  module _ (frame : Frame) (known : Knowledge) where
    pub all_inside : (ns : List Name) (qs : List ℕ) → AllByRecursion IsShownThere ns → AllByRecursion (IsPartThere table columns number frame) ns →
        IsTrue (are_legal (map (part_under frame known) (map number ns)) qs) →
        AllZip (λ part name. Encloses part (row name.name)) (zip2 part_of (map number ns) (ranges_of_prefixes (map (part_under frame known) (map number ns)) qs)) ns →
        IsKeyIn (ranges_of_prefixes (map (part_under frame known) (map number ns)) qs) (map numbers (map number ns))
    all_inside [] qs h there legal k = tt
    all_inside (n ∷ ns) [] h there legal k = absurd (true≢false (sym legal))
    all_inside (n ∷ ns) (q ∷ qs) h there legal k =
        let declared = parts_declared frame known (number n ∷ map number ns) (q ∷ qs) legal in
        let read = (known_at known (number n)).read in
        let range = range_of (ends_at frame (number n)) read q in
        let low : Within (declared_range (ends_of there.0.column)).numbers range.numbers.low = subst (λ w. Within (declared_range w).numbers range.numbers.low) there.0.ends declared.0 in
        let high : Within (declared_range (ends_of there.0.column)).numbers range.numbers.high = subst (λ w. Within (declared_range w).numbers range.numbers.high) there.0.ends declared.1 in (
          inside table columns (number n) range (numbers (number n)) (row n.name) (has_ends table columns (number n) there.0.column there.0.at range low high) h.0 k.0,
          all_inside ns qs h.1 there.1 (and_right (is_legal (ends_at frame (number n)) read q) (are_legal (map (part_under frame known) (map number ns)) qs) legal) k.1,
        )
