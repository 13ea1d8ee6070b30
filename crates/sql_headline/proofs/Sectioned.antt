-- Blocks of groups are made of sections.
use Rattle.std.proofs.Common.{◌≡◌, ◌≢◌, ◌⊎◌, inl, inr, ℕ, zero, suc, ◌+◌, ◌<◌, ◌≤◌, Bool, true, false, if◌then◌else◌, List, [], ◌∷◌, ◌++◌, map, Option, Some, None, refl, sym, ap, subst, ◌∙◌, arith}
use Rattle.std.proofs.lemmas.Bool.{cases_eq}
use Rattle.std.proofs.lemmas.Bool.Decides.{Decides-int_eq}
use Rattle.std.proofs.lemmas.List.{append-nil}
use Rattle.std.proofs.lemmas.Option.{none-some, same_Some}
use Rattle.std.specs.List.{AllByRecursion, AllZip, cons_option, Contains, filter_map, flat_map, range_with_len}
use Rattle.std.specs.Ordering.{int_eq}
use Rattle.std.specs.Prelude.{codes}
use Rattle.std.specs.Simd.Lanes.{zip2}
use Rattle.daq_report.specs.Blocks.{block_text, form_text, round_line}
use Rattle.daq_report.specs.Extras.{is_average}
use Rattle.daq_report.specs.Groups.{cell_text, group_text, groups_text, key_text, part_text}
use Rattle.daq_report.specs.Intervals.{average_text, bound_text, column_of}
use Rattle.daq_report.specs.Intervals as report
use Rattle.daq_report.specs.Items.{item_lines, items_text}
use Rattle.daq_report.specs.Rankings.{bound_of_range}
use Rattle.daq_table.specs.declared.head.ColumnHead.{ColumnHead}
use Rattle.daq_table.specs.declared.table_head.Head.{Head}
use Rattle.plane_schedule.specs.declared.policy.Extras.{Extras}
use Rattle.plane_schedule.specs.declared.policy.Listing.{Listing}
use Rattle.query_model.specs.Queries.{Aggregate}
use Rattle.query_model.specs.Truths.{Range}
use Rattle.query_model.specs.declared.bounds.Nullity.{Nullity}
use Rattle.query_model.specs.declared.bounds.Nullity.TheVariants.{Always, Never, Possibly}
use Rattle.query_model.specs.declared.query.Face.{Face}
use Rattle.query_model.specs.declared.query.Face.TheVariants as faces
use Rattle.query_model.specs.declared.query.Shape.{Shape}
use Rattle.query_model.specs.declared.query.Shape.TheVariants.{Grouped}
use Rattle.round_engine.specs.Cells.{absence_in_cell, average_in_cell, bound_in_cell, cells_in, parts_in}
use Rattle.round_engine.specs.Stages.{Stage}
use Rattle.row_groups.specs.Partition.{ranges_of_cell}
use Rattle.sql_meaning.specs.Rows.{shown}
use Rattle.sql_headline.specs.Intervals.{IsEndText, Interval}
use Rattle.sql_headline.specs.Lined.{line_of, lines_of}
use Rattle.sql_headline.specs.Sections.{AreSections, IsSection, Section, ShowsPart, presence}
use Rattle.sql_headline.specs.Spans.{IsShown, Span, shares, values}
use Rattle.sql_headline.proofs.Averaged.{shares_of, shown_shares}
use Rattle.sql_headline.proofs.Ends.{interval_of}
use Rattle.sql_headline.proofs.Shown.{end_text, shown_interval}

-- the decimals of an average, as it is shown
abbrev pub places_of : Face → ℕ
places_of (faces.Number places) = places
places_of (faces.OfColumn c) = 0

-- averages are shown as numbers
abbrev pub IsNumbered : Aggregate → Type 0
IsNumbered item = is_average item.kind ≡ true → item.face ≡ faces.Number (places_of item.face)

module _ (head : Head) (stage : Stage) where
  -- ---- parts

  abbrev pub part_of : ℕ → Range → Interval
  part_of c range = interval_of head.columns stage.query.columns (faces.OfColumn c) (bound_of_range range)

  -- the query's column is one of the table
  abbrev pub IsColumn : ℕ → Type 0
  IsColumn c = (column : ColumnHead) × (column_of head stage.query c ≡ Some column)

  there_shows : (c : ℕ) (range : Range) (o : Option ColumnHead) → column_of head stage.query c ≡ o → (column : ColumnHead) → o ≡ Some column → ShowsPart (part_of c range) (part_text o range)
  there_shows c range None is column e = absurd (none-some column e)
  there_shows c range (Some found) is column e = record {
    low = report.value_of (Some found) range.numbers.low;
    high = report.value_of (Some found) range.numbers.high;
    are_one = int_eq range.numbers.low range.numbers.high;
    low_end = subst (λ o. IsEndText (shown head.columns stage.query.columns (faces.OfColumn c) range.numbers.low) (report.value_of o range.numbers.low)) is (end_text head stage.query (faces.OfColumn c) range.numbers.low);
    high_end = subst (λ o. IsEndText (shown head.columns stage.query.columns (faces.OfColumn c) range.numbers.high) (report.value_of o range.numbers.high)) is (end_text head stage.query (faces.OfColumn c) range.numbers.high);
    one = λ h. ap (shown head.columns stage.query.columns (faces.OfColumn c)) ((Decides-int_eq range.numbers.low range.numbers.high).0 h);
    written = refl;
  }

  part_shows : (c : ℕ) (range : Range) → IsColumn c → ShowsPart (part_of c range) (part_text (column_of head stage.query c) range)
  part_shows c range is = there_shows c range (column_of head stage.query c) refl is.0 is.1

  parts_show : (cs : List ℕ) (ranges : List Range) → AllByRecursion IsColumn cs → AllZip ShowsPart (zip2 part_of cs ranges) (zip2 (λ c range. part_text (column_of head stage.query c) range) cs ranges)
  parts_show [] ranges h = tt
  parts_show (c ∷ cs) [] h = tt
  parts_show (c ∷ cs) (range ∷ ranges) h = (part_shows c range h.0, parts_show cs ranges h.1)

  -- ---- items

  abbrev pub span_by : Bool → ℕ → Aggregate → Span
  span_by true cell item = shares (shares_of (places_of item.face) (average_in_cell stage item cell))
  span_by false cell item = values (interval_of head.columns stage.query.columns item.face (bound_in_cell stage item cell))

  abbrev pub span_of : ℕ → Aggregate → Span
  span_of cell item = span_by (is_average item.kind) cell item

  abbrev item_text : ℕ → Aggregate → List ℕ
  item_text cell item = if is_average item.kind then average_text head stage.query item.face (average_in_cell stage item cell) else bound_text head stage.query item.face (bound_in_cell stage item cell)

  shows_by : (average : Bool) (cell : ℕ) (item : Aggregate) → (average ≡ true → item.face ≡ faces.Number (places_of item.face)) →
      IsShown (span_by average cell item) (if average then average_text head stage.query item.face (average_in_cell stage item cell) else bound_text head stage.query item.face (bound_in_cell stage item cell))
  shows_by true cell item numbered =
      subst (λ (f : Face). IsShown (span_by true cell item) (average_text head stage.query f (average_in_cell stage item cell))) (sym (numbered refl))
      (shown_shares head stage.query (places_of item.face) (average_in_cell stage item cell))
  shows_by false cell item numbered = shown_interval head stage.query item.face (bound_in_cell stage item cell)

  items_show : (cell : ℕ) (items : List Aggregate) → AllByRecursion IsNumbered items → AllZip IsShown (map (span_of cell) items) (map (item_text cell) items)
  items_show cell [] h = tt
  items_show cell (item ∷ items) h = (shows_by (is_average item.kind) cell item h.0, items_show cell items h.1)

  lines_are : (cell : ℕ) (f : ℕ → List Aggregate → List ℕ) → ((n : ℕ) → f n [] ≡ []) → ((n : ℕ) (item : Aggregate) (items : List Aggregate) → f n (item ∷ items) ≡ (line_of n (item_text cell item) ++ []) ++ f (n + 1) items)
      → (n : ℕ) (items : List Aggregate) → f n items ≡ lines_of n (map (item_text cell) items) []
  lines_are cell f none next n [] = none n
  lines_are cell f none next n (item ∷ items) =
      next n item items ∙ ap (λ l. l ++ f (n + 1) items) (append-nil (line_of n (item_text cell item)))
      ∙ ap (λ l. line_of n (item_text cell item) ++ l) (lines_are cell f none next (n + 1) items)

  -- the lines of items in a scope that has such lines
  scoped : (start presence : List ℕ) (cell : ℕ) (s : _) → ((n : ℕ) (item : Aggregate) (items : List Aggregate) → item_lines head stage s n (item ∷ items) ≡ (line_of n (item_text cell item) ++ []) ++ item_lines head stage s (n + 1) items)
      → codes "group " ++ (start ++ (presence ++ items_text head stage s)) ≡ codes "group " ++ (start ++ (presence ++ lines_of 1 (map (item_text cell) stage.query.items) []))
  scoped start presence cell s next = ap (λ l. codes "group " ++ (start ++ (presence ++ l))) (lines_are cell (item_lines head stage s) (λ n. refl) next 1 stage.query.items)

  -- ---- sections

  module _ (columns : List ℕ) where
    abbrev pub section_with : Bool → ℕ → Section
    section_with present cell = record {
      parts = zip2 part_of columns (ranges_of_cell (parts_in stage) cell);
      present = present;
      spans = map (span_of cell) stage.query.items;
    }

    -- the section of a cell that has one
    abbrev pub section_by : ℕ → Nullity → Option Section
    section_by cell Never = Some (section_with true cell)
    section_by cell Possibly = Some (section_with false cell)
    section_by cell Always = None

    abbrev pub section_at : ℕ → Option Section
    section_at cell = section_by cell (absence_in_cell stage cell)

    abbrev pub sections : List Section
    sections = filter_map section_at (range_with_len 0 (cells_in stage))

    module _ (all_columns : AllByRecursion IsColumn columns) (numbered : AllByRecursion IsNumbered stage.query.items) where
      group_is : (present : Bool) (cell : ℕ) → group_text head stage columns cell (presence present)
          ≡ codes "group " ++ (key_text head stage.query columns (ranges_of_cell (parts_in stage) cell) ++ (presence present ++ lines_of 1 (map (item_text cell) stage.query.items) []))
      group_is present cell = search (scoped (key_text head stage.query columns (ranges_of_cell (parts_in stage) cell)) (presence present) cell)

      section_is : (present : Bool) (cell : ℕ) → IsSection (section_with present cell) (group_text head stage columns cell (presence present))
      section_is present cell = record {
        parts = zip2 (λ c range. part_text (column_of head stage.query c) range) columns (ranges_of_cell (parts_in stage) cell);
        items = map (item_text cell) stage.query.items;
        each_part = parts_show columns (ranges_of_cell (parts_in stage) cell) all_columns;
        each_item = items_show cell stage.query.items numbered;
        is = group_is present cell;
      }

      one_more : (cell : ℕ) (word : Nullity) (more : List Section) (rest : List ℕ) → AreSections more rest → AreSections (cons_option (section_by cell word) more) (cell_text head stage columns cell word ++ rest)
      one_more cell Never more rest are = (_, rest, refl, section_is true cell, are)
      one_more cell Possibly more rest are = (_, rest, refl, section_is false cell, are)
      one_more cell Always more rest are = are

      sections_are : (cells : List ℕ) → AreSections (filter_map section_at cells) (flat_map (λ cell. cell_text head stage columns cell (absence_in_cell stage cell)) cells)
      sections_are [] = refl
      sections_are (cell ∷ cells) = one_more cell (absence_in_cell stage cell) (filter_map section_at cells) _ (sections_are cells)

      pub block_is : stage.query.shape ≡ Grouped columns → (listing : Listing) (extras : Extras) (round : ℕ) (last : Option ℕ) →
          (text : List ℕ) × (block_text head listing extras stage round last ≡ round_line head stage round last ++ text) × AreSections sections text
      block_is grouped listing extras round last = (
        groups_text head stage columns,
        ap (λ (s : Shape). round_line head stage round last ++ form_text head listing extras stage s) grouped,
        sections_are (range_with_len 0 (cells_in stage)),
      )

    -- ---- which cells have sections

    -- the section is that of a cell
    pub record IsOfCell (section : Section) : Type 0 where
      pub cell : ℕ
      pub counted : cell < cells_in stage
      pub told : absence_in_cell stage cell ≢ Always
      pub is : section ≡ section_with section.present cell
      pub word : section.present ≡ true → absence_in_cell stage cell ≡ Never
      pub possible : section.present ≡ false → absence_in_cell stage cell ≡ Possibly

    told_by : (cell : ℕ) (word : Nullity) → absence_in_cell stage cell ≡ word → cell < cells_in stage → (section : Section) → section_by cell word ≡ Some section → IsOfCell section
    told_by cell Never e h section is =
        let same : section_with true cell ≡ section = same_Some (section_with true cell) section is in
        subst IsOfCell same (record { cell = cell; counted = h; told = λ a. (let no : Never ≡ Always = sym e ∙ a in absurd cc); is = refl; word = λ p. e; possible = λ p. absurd cc })
    told_by cell Possibly e h section is =
        let same : section_with false cell ≡ section = same_Some (section_with false cell) section is in
        subst IsOfCell same (record { cell = cell; counted = h; told = λ a. (let no : Possibly ≡ Always = sym e ∙ a in absurd cc); is = refl; word = λ p. absurd cc; possible = λ p. e })
    told_by cell Always e h section is = absurd (none-some section is)

    contained_by : (cell : ℕ) (word : Nullity) → absence_in_cell stage cell ≡ word → cell < cells_in stage → (rest : List Section) → ((section : Section) → Contains rest section → IsOfCell section)
        → (section : Section) → Contains (cons_option (section_by cell word) rest) section → IsOfCell section
    contained_by cell Never e h rest later section (zero, lt, is) = told_by cell Never e h section (ap Some is)
    contained_by cell Never e h rest later section (suc k, lt, is) = later section (k, omega (arith, lt), is)
    contained_by cell Possibly e h rest later section (zero, lt, is) = told_by cell Possibly e h section (ap Some is)
    contained_by cell Possibly e h rest later section (suc k, lt, is) = later section (k, omega (arith, lt), is)
    contained_by cell Always e h rest later section has = later section has

    contained : (cells : List ℕ) → AllByRecursion (λ c. c < cells_in stage) cells → (section : Section) → Contains (filter_map section_at cells) section → IsOfCell section
    contained [] h section has = (let lt = has.1 in absurd (omega (arith, lt)))
    contained (cell ∷ cells) h section has = contained_by cell (absence_in_cell stage cell) refl h.0 (filter_map section_at cells) (contained cells h.1) section has

    below : (a n k : ℕ) → a + n ≡ k → AllByRecursion (λ c. c < k) (range_with_len a n)
    below a zero k e = tt
    below a (suc n) k e = (omega (arith, e), below (a + 1) n k (omega (arith, e)))

    -- each section is that of a cell
    pub of_cell : (section : Section) → Contains sections section → IsOfCell section
    of_cell section has = contained (range_with_len 0 (cells_in stage)) (below 0 (cells_in stage) (cells_in stage) (omega arith)) section has

    later_one : (o : Option Section) (rest : List Section) (section : Section) → Contains rest section → Contains (cons_option o rest) section
    later_one None rest section has = has
    later_one (Some first) rest section has = (let lt = has.1 in (suc has.0, omega (arith, lt), has.2))

    this_one : (o : Option Section) (rest : List Section) (section : Section) → o ≡ Some section → Contains (cons_option o rest) section
    this_one o rest section e = subst (λ x. Contains (cons_option x rest) section) (sym e) (0, omega arith, refl)

    found_from : (a n cell : ℕ) → a ≤ cell → cell < a + n → (section : Section) → section_at cell ≡ Some section → Contains (filter_map section_at (range_with_len a n)) section
    found_from a zero cell le lt section e = absurd (omega (arith, le, lt))
    found_from a (suc n) cell le lt section e = by (cases_eq a cell) (λ other. found_from (a + 1) n cell (omega (arith, le, other)) (omega (arith, lt)) section e)
      where
        by : (a ≡ cell) ⊎ (a ≢ cell) → (a ≢ cell → Contains (filter_map section_at (range_with_len (a + 1) n)) section) → Contains (filter_map section_at (range_with_len a (suc n))) section
        by (inl same) later = this_one (section_at a) (filter_map section_at (range_with_len (a + 1) n)) section (ap section_at same ∙ e)
        by (inr other) later = later_one (section_at a) (filter_map section_at (range_with_len (a + 1) n)) section (later other)

    -- a cell that is told has a section
    pub record HasSection (cell : ℕ) : Type 0 where
      pub present : Bool
      pub there : Contains sections (section_with present cell)

    section_by_word : (cell : ℕ) (word : Nullity) → absence_in_cell stage cell ≡ word → word ≢ Always → cell < cells_in stage → HasSection cell
    section_by_word cell Never e told h = record { present = true; there = found_from 0 (cells_in stage) cell (omega arith) (omega (arith, h)) (section_with true cell) (ap (section_by cell) e) }
    section_by_word cell Possibly e told h = record { present = false; there = found_from 0 (cells_in stage) cell (omega arith) (omega (arith, h)) (section_with false cell) (ap (section_by cell) e) }
    section_by_word cell Always e told h = absurd (told refl)

    pub has_section : (cell : ℕ) → cell < cells_in stage → absence_in_cell stage cell ≢ Always → HasSection cell
    has_section cell h told = section_by_word cell (absence_in_cell stage cell) refl told h
