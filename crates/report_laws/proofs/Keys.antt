-- That reports show the keys of groups as they are read back.
use Rattle.std.proofs.Common.{◌≡◌, ℕ, suc, ◌<◌, ◌≤◌, ℤ, pos, negsuc, ◌≤ℤ◌, int_le, int_lt, FitsSigned, Bool, true, List, [], ◌∷◌, ◌++◌, codes, length, map, Option, Some, None, IsTrue, inl, inr, refl, sym, ap, subst, ◌∙◌, arith, slice_get}
use Rattle.std.proofs.lemmas.Bool.{and_parts}
use Rattle.std.proofs.lemmas.Bool.Decides.{Decides-int_eq}
use Rattle.std.proofs.lemmas.Int.{ints}
use Rattle.std.proofs.lemmas.List.Elements.{All-cons, All-nil}
use Rattle.std.proofs.lemmas.Option.{slice_get_cases}
use Rattle.std.specs.Int.{w128}
use Rattle.std.specs.List.{All}
use Rattle.std.specs.Ordering.{int_eq}
use Rattle.std.specs.Simd.Lanes.{zip2}
use Rattle.std.specs.Str.{bytes_eq}
use Rattle.interval_calc.specs.Intervals.{Interval}
use Rattle.interval_calc.proofs.LeastSpans.{between_fits}
use Rattle.daq_table.specs.ColumnFacts.{are_ranks, fits_names, is_ascending}
use Rattle.daq_table.specs.ValueTexts.{HasText, quoted_text, text_by_kind, text_of_name, text_of_rank}
use Rattle.daq_table.specs.declared.head.ColumnHead.{ColumnHead}
use Rattle.daq_table.specs.declared.head.Kind.{Kind}
use Rattle.daq_table.specs.declared.head.Kind.TheVariants as kinds
use Rattle.daq_table.specs.declared.table_head.Head.{Head}
use Rattle.query_model.specs.Truths.{Range}
use Rattle.query_model.specs.declared.bounds.Nullity.{Nullity}
use Rattle.query_model.specs.declared.bounds.Nullity.TheVariants.{Never, Possibly, Always}
use Rattle.query_model.specs.declared.query.TypedQuery.{TypedQuery}
use Rattle.daq_report.specs.Ends.{decimals_of}
use Rattle.daq_report.specs.Groups.{dotted}
use Rattle.daq_report.specs.Groups as report
use Rattle.daq_report.specs.Intervals.{column_of, ends_text, interval_text, value_of}
use Rattle.report_text.specs.Forms.{text_in}
use Rattle.report_text.specs.Intervals.{ends_between, key_interval}
use Rattle.report_text.specs.Keys.{AreShownEnds, IsShownSpan, listed, span_text, text_of_ends}
use Rattle.report_text.specs.declared.keys.ShownEnds.{ShownEnds}
use Rattle.report_text.specs.declared.keys.ShownEnds.TheVariants.{NoText, Texts, Values}
use Rattle.report_laws.specs.Groups.{ArePlainParts, HasPlainPart, KeysAreShown, ends_of, name_at, span_by, span_of, spans_of, text_ends}
use Rattle.report_laws.proofs.Names.{ordered_ranks, same_ranks}

-- ---- texts

-- the two ranks stand for texts
record HaveNames (names : List (List ℕ)) (j k : ℕ) : Type 0 where
  pub low : List ℕ
  pub high : List ℕ
  pub is_low : slice_get names j ≡ Some low
  pub is_high : slice_get names k ≡ Some high

there : (names : List (List ℕ)) (k : ℕ) → k < length names → (name : List ℕ) × (slice_get names k ≡ Some name)
there names k lt = elim (slice_get_cases names k).1 [ inl at ↦ (at.0, at.2) | inr past ↦ absurd (omega (arith, lt, past)) ]

have_names : (names : List (List ℕ)) (j k : ℕ) → j ≤ k → k < length names → HaveNames names j k
have_names names j k le lt =
    let first = there names j (omega (arith, le, lt)) in
    let last = there names k lt in
    record { low = first.0; high = last.0; is_low = first.1; is_high = last.1 }

-- equal ends are laid out as one
abbrev IsLayout : (Bool → List ℕ → List ℕ → List ℕ) → Type 0
IsLayout lay = (a b : List ℕ) → lay true a b ≡ a

-- values in that layout
abbrev laid : (Bool → List ℕ → List ℕ → List ℕ) → ShownEnds → List ℕ
laid lay (Values ends) = lay (int_eq ends.low ends.high) (text_in ends.form ends.low) (text_in ends.form ends.high)
laid lay (Texts ends) = lay (bytes_eq ends.low ends.high) (quoted_text ends.low) (quoted_text ends.high)
laid lay NoText = codes "-"

-- the texts of two ranks are shown so, and can be read
record AreTextsShown (names : List (List ℕ)) (low high : ℤ) : Type 0 where
  pub text : (lay : Bool → List ℕ → List ℕ → List ℕ) → IsLayout lay →
      lay (int_eq low high) (text_of_rank names low) (text_of_rank names high) ≡ laid lay (text_ends (name_at names low) (name_at names high))
  pub are_shown : AreShownEnds (text_ends (name_at names low) (name_at names high))

ranks_shown : (names : List (List ℕ)) → IsTrue (is_ascending names) → (j k : ℕ) → j ≤ k → HaveNames names j k → AreTextsShown names (pos j) (pos k)
ranks_shown names h j k le at = record {
  text = λ lay alone.
      (ap (λ (o : Option (List ℕ)). lay (int_eq (pos j) (pos k)) (text_of_name o) (text_of_name (slice_get names k))) at.is_low
      ∙ ap (λ (o : Option (List ℕ)). lay (int_eq (pos j) (pos k)) (quoted_text at.low) (text_of_name o)) at.is_high
      ∙ ap (λ (same : Bool). lay same (quoted_text at.low) (quoted_text at.high)) (same_ranks names h j k at.low at.high le at.is_low at.is_high)
      ∙ ap (λ (o : Option (List ℕ)). laid lay (text_ends (Some at.low) o)) (sym at.is_high)
      ∙ ap (λ (o : Option (List ℕ)). laid lay (text_ends o (slice_get names k))) (sym at.is_low));
  are_shown =
      subst (λ (o : Option (List ℕ)). AreShownEnds (text_ends o (slice_get names k))) (sym at.is_low)
      (subst (λ (o : Option (List ℕ)). AreShownEnds (text_ends (Some at.low) o)) (sym at.is_high)
      (ordered_ranks names h j k at.low at.high le at.is_low at.is_high));
}

texts_shown : (names : List (List ℕ)) (base top low high : ℤ) → IsTrue (is_ascending names) → IsTrue (are_ranks base top names) → base ≤ℤ low → low ≤ℤ high → high ≤ℤ top → AreTextsShown names low high
texts_shown [] base top low high h ranks above ordered below =
    let both = and_parts (int_eq base (pos 0)) (int_eq top (pos 0)) ranks in
    let first = (Decides-int_eq base (pos 0)).0 both.0 in
    let last = (Decides-int_eq top (pos 0)).0 both.1 in
    let is_low : low ≡ pos 0 = omega (arith, ints, above, ordered, below, first, last) in
    let is_high : high ≡ pos 0 = omega (arith, ints, above, ordered, below, first, last) in
    subst (λ (z : ℤ). AreTextsShown [] z high) (sym is_low) (subst (λ (z : ℤ). AreTextsShown [] (pos 0) z) (sym is_high) (record { text = λ lay alone. alone (codes "-") (codes "-"); are_shown = tt }))
texts_shown (name ∷ names) base top (pos j) (pos k) h ranks above ordered below =
    let le : j ≤ k = omega (arith, ints, ordered) in
    let last : int_lt top (pos (length (name ∷ names))) ≡ true = (and_parts (int_le (pos 0) base) (int_lt top (pos (length (name ∷ names)))) ranks).1 in
    ranks_shown (name ∷ names) h j k le (have_names (name ∷ names) j k le (omega (arith, ints, last, below)))
texts_shown (name ∷ names) base top (pos j) (negsuc k) h ranks above ordered below = absurd (omega (arith, ints, ordered))
texts_shown (name ∷ names) base top (negsuc j) high h ranks above ordered below =
    let first : int_le (pos 0) base ≡ true = (and_parts (int_le (pos 0) base) (int_lt top (pos (length (name ∷ names)))) ranks).0 in
    absurd (omega (arith, ints, first, above))

-- ---- values of any kind

record AreEndsShown (kind : Kind) (names : List (List ℕ)) (numbers : Interval) : Type 0 where
  pub text : (lay : Bool → List ℕ → List ℕ → List ℕ) → IsLayout lay →
      lay (int_eq numbers.low numbers.high) (text_by_kind kind names numbers.low) (text_by_kind kind names numbers.high) ≡ laid lay (ends_of kind names numbers)
  pub are_shown : AreShownEnds (ends_of kind names numbers)

-- numbers of 128 bits in order
record AreWide (numbers : Interval) : Type 0 where
  pub low : FitsSigned w128 numbers.low
  pub high : FitsSigned w128 numbers.high
  pub ordered : numbers.low ≤ℤ numbers.high

by_kind : (kind : Kind) (names : List (List ℕ)) (base top : ℤ) (numbers : Interval) → decimals_of kind ≤ 18 → ((value : ℤ) → base ≤ℤ value → value ≤ℤ top → HasText kind value) →
    IsTrue (is_ascending names) → IsTrue (fits_names kind base top names) → base ≤ℤ numbers.low → numbers.high ≤ℤ top → AreWide numbers → AreEndsShown kind names numbers
by_kind kinds.Int names base top numbers few texts h ranks above below wide = record {
  text = λ lay alone. refl;
  are_shown = record { low = record { has = few; fits = wide.low }; high = record { has = few; fits = wide.high }; ordered = wide.ordered };
}
by_kind (kinds.Dec scale) names base top numbers few texts h ranks above below wide = record {
  text = λ lay alone. refl;
  are_shown = record { low = record { has = few; fits = wide.low }; high = record { has = few; fits = wide.high }; ordered = wide.ordered };
}
by_kind kinds.Date names base top numbers few texts h ranks above below wide =
    let under : numbers.low ≤ℤ top = omega (arith, ints, below, wide) in
    let over : base ≤ℤ numbers.high = omega (arith, ints, above, wide) in
    record {
      text = λ lay alone. refl;
      are_shown = record {
        low = record { has = texts numbers.low above under; fits = wide.low };
        high = record { has = texts numbers.high over below; fits = wide.high };
        ordered = wide.ordered;
      };
    }
by_kind kinds.Text names base top numbers few texts h ranks above below wide =
    let shown = texts_shown names base top numbers.low numbers.high h ranks above wide.ordered below in
    record { text = shown.text; are_shown = shown.are_shown }

-- ---- a part of a key

span_text_by : (null : Nullity) (text : List ℕ) (ends : ShownEnds) → text ≡ text_of_ends ends → interval_text null text ≡ span_text (span_by null ends)
span_text_by Never text ends e = e
span_text_by Possibly text ends e = ap (λ (t : List ℕ). t ++ codes " or null") e
span_text_by Always text ends e = refl

span_shown_by : (null : Nullity) (ends : ShownEnds) → AreShownEnds ends → IsShownSpan (span_by null ends)
span_shown_by Never ends h = h
span_shown_by Possibly ends h = h
span_shown_by Always ends h = tt

in_dots : (ends : ShownEnds) → laid dotted ends ≡ text_of_ends ends
in_dots (Values ends) = refl
in_dots (Texts ends) = refl
in_dots NoText = refl

in_brackets : (ends : ShownEnds) → laid ends_text ends ≡ ends_between ends
in_brackets (Values ends) = refl
in_brackets (Texts ends) = refl
in_brackets NoText = refl

interval_by_null : (null : Nullity) (text : List ℕ) (ends : ShownEnds) → text ≡ ends_between ends → interval_text null text ≡ key_interval (span_by null ends)
interval_by_null Never text ends e = e
interval_by_null Possibly text ends e = ap (λ (t : List ℕ). t ++ codes " or null") e
interval_by_null Always text ends e = refl

-- where a value lies, in brackets
abbrev pub range_text : Option ColumnHead → Range → List ℕ
range_text column range =
    interval_text range.null (ends_text (int_eq range.numbers.low range.numbers.high) (value_of column range.numbers.low) (value_of column range.numbers.high))

pub record IsPartShown (column : Option ColumnHead) (range : Range) : Type 0 where
  pub text : report.part_text column range ≡ span_text (span_of column range)
  pub interval : range_text column range ≡ key_interval (span_of column range)
  pub is_shown : IsShownSpan (span_of column range)

pub part_shown : (column : Option ColumnHead) (range : Range) → HasPlainPart column range.numbers → IsPartShown column range
part_shown None range h = absurd h
part_shown (Some column) range h =
    let numbers = range.numbers in
    let under : numbers.low ≤ℤ column.top = omega (arith, ints, h) in
    let over : column.base ≤ℤ numbers.high = omega (arith, ints, h) in
    let wide : AreWide numbers = record {
      low = between_fits column.base numbers.low column.top h.above under h.plain.low h.plain.high;
      high = between_fits column.base numbers.high column.top over h.below h.plain.low h.plain.high;
      ordered = h.ordered;
    } in
    let shown = by_kind column.kind column.names column.base column.top numbers h.plain.few h.plain.texts.between column.is_column.ascending column.is_column.fits h.above h.below wide in
    let ends = ends_of column.kind column.names numbers in
    record {
      text = span_text_by range.null (report.span_text column numbers) ends (shown.text dotted (λ a b. refl) ∙ in_dots ends);
      interval = interval_by_null range.null _ ends (shown.text ends_text (λ a b. refl) ∙ in_brackets ends);
      is_shown = span_shown_by range.null ends shown.are_shown;
    }

-- ---- keys

parts_text : (head : Head) (query : TypedQuery) (columns : List ℕ) (ranges : List Range) → ArePlainParts head query columns ranges →
    zip2 (λ c range. report.part_text (column_of head query c) range) columns ranges ≡ map span_text (spans_of head query columns ranges)
parts_text head query [] [] h = refl
parts_text head query [] (range ∷ ranges) h = absurd h
parts_text head query (c ∷ cs) [] h = absurd h
parts_text head query (c ∷ cs) (range ∷ ranges) h =
    ap (λ (text : List ℕ). text ∷ zip2 (λ d part. report.part_text (column_of head query d) part) cs ranges) (part_shown (column_of head query c) range h.0).text
    ∙ ap (λ (texts : List (List ℕ)). span_text (span_of (column_of head query c) range) ∷ texts) (parts_text head query cs ranges h.1)

all_shown : (head : Head) (query : TypedQuery) (columns : List ℕ) (ranges : List Range) → ArePlainParts head query columns ranges → All IsShownSpan (spans_of head query columns ranges)
all_shown head query [] [] h = All-nil IsShownSpan
all_shown head query [] (range ∷ ranges) h = absurd h
all_shown head query (c ∷ cs) [] h = absurd h
all_shown head query (c ∷ cs) (range ∷ ranges) h =
    All-cons IsShownSpan (span_of (column_of head query c) range) (spans_of head query cs ranges) (part_shown (column_of head query c) range h.0).is_shown (all_shown head query cs ranges h.1)

as_many : (head : Head) (query : TypedQuery) (columns : List ℕ) (ranges : List Range) → ArePlainParts head query columns ranges → length (spans_of head query columns ranges) ≡ length columns
as_many head query [] [] h = refl
as_many head query [] (range ∷ ranges) h = absurd h
as_many head query (c ∷ cs) [] h = absurd h
as_many head query (c ∷ cs) (range ∷ ranges) h = ap suc (as_many head query cs ranges h.1)

listed_alike : (texts : List (List ℕ)) → report.listed texts ≡ listed texts
listed_alike [] = refl
listed_alike (text ∷ texts) = refl

pub keys_shown : KeysAreShown
keys_shown head query columns ranges some h = record {
  text = ap report.listed (parts_text head query columns ranges h) ∙ listed_alike (map span_text (spans_of head query columns ranges));
  are_shown = record { some = subst (λ (n : ℕ). 0 < n) (sym (as_many head query columns ranges h)) some; each = all_shown head query columns ranges h };
}
