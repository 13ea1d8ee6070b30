-- The sections of a run of groups: what they say is so in each world.
use Rattle.std.proofs.Common.{◌≡◌, ◌≢◌, ℕ, zero, suc, ◌+◌, ◌<◌, ◌≤◌, Bool, true, false, List, [], ◌∷◌, ◌++◌, length, map, Option, Some, refl, sym, ap, subst, ◌∙◌, arith, IsTrue, slice_get}
use Rattle.std.proofs.lemmas.Bool.{true≢false}
use Rattle.std.proofs.lemmas.List.{length-map}
use Rattle.std.proofs.lemmas.Option.{get_or_from_slice_get, none-some, same_Some, slice_get_within}
use Rattle.std.specs.List.{AllByRecursion, AllZip, Contains}
use Rattle.std.specs.Simd.Lanes.{zip2}
use Rattle.daq_report.specs.Blocks.{block_text, round_line}
use Rattle.daq_report.specs.Extras.{is_average}
use Rattle.daq_table.specs.Tables.{Cells, ends_at, ends_of, frame_of, no_ends, rows_of}
use Rattle.daq_table.specs.declared.head.ColumnHead.{ColumnHead}
use Rattle.plane_schedule.specs.declared.policy.Extras.{Extras}
use Rattle.plane_schedule.specs.declared.policy.Listing.{Listing}
use Rattle.plane_schedule.specs.declared.policy.Plan.{Plan}
use Rattle.query_model.proofs.Cells.{illegal_cells_are_empty, legal_cells_have_keys}
use Rattle.query_model.specs.Answers.{Key, groups_of}
use Rattle.query_model.specs.Groups.{cell_of, parts_of}
use Rattle.query_model.specs.Knowledge.{ranges_of}
use Rattle.query_model.specs.Meaning.{is_sql_true}
use Rattle.query_model.specs.Projection.{projected}
use Rattle.query_model.specs.Queries.{Aggregate, Query}
use Rattle.query_model.specs.declared.bounds.Nullity.TheVariants.{Always}
use Rattle.query_model.specs.declared.query.Face.TheVariants as faces
use Rattle.query_model.specs.declared.query.Shape.TheVariants as shapes
use Rattle.round_engine.proofs.Keys.{filled_is_legal}
use Rattle.round_engine.specs.Cells.{HasCell, absence_in_cell, parts_in}
use Rattle.row_groups.proofs.Standing.{cells_tell_keys}
use Rattle.row_groups.specs.Partition.{IsKeyIn, RowCells, are_legal, counts_of_parts, is_legal_cell, part_under, ranges_of_cell, ranges_of_prefixes}
use Rattle.sql_text.specs.declared.tree.CallKind.{CallKind}
use Rattle.sql_text.specs.declared.tree.CallKind.TheVariants as calls
use Rattle.sql_text.specs.Tree as tree
use Rattle.sql_text.specs.Tree.{Item, Name}
use Rattle.sql_typing.specs.Names.{names_in, names_in_ending, names_in_filter, names_in_head, number_of}
use Rattle.sql_typing.specs.Typing.{columns_of, counted, group_columns, typed_call, typed_ending, typed_item}
use Rattle.sql_typing.specs.Typing as typing
use Rattle.sql_typing.proofs.Alls.{all_right, all_then}
use Rattle.sql_meaning.specs.Answers.{asked, grouping}
use Rattle.sql_meaning.specs.Conditions.{Row, truth_of_where}
use Rattle.sql_meaning.specs.Laws.{HasValues, key_at, numbers_at}
use Rattle.sql_meaning.specs.Rows.{row_at}
use Rattle.sql_meaning.specs.Values.{unless_null}
use Rattle.sql_meaning.proofs.Named.{mapped, there}
use Rattle.sql_meaning.proofs.Shares.{typed_as}
use Rattle.table_rounds.proofs.Reached.{columns_of_part, part_of}
use Rattle.table_rounds.specs.Headline.{IsKeyOn}
use Rattle.sql_headline.specs.Headline.{rows_in}
use Rattle.sql_headline.specs.Intervals.{Encloses, IsAlone, LiesInside}
use Rattle.sql_headline.specs.Lines.{IsCellOf}
use Rattle.sql_headline.specs.Results.{IsInResult}
use Rattle.sql_headline.specs.Sections.{AreSections, IsKeyAlone, IsKeyOf, Section}
use Rattle.sql_meaning.specs.Attained.{AttainsEnds, HasTexts, with_names}
use Rattle.sql_headline.specs.Spans.{IsIt, LiesIn, Narrows, answered}
use Rattle.sql_headline.specs.Worlds.{IsDone, IsGroupOf, IsWorld, Run, stage_at}
use Rattle.sql_headline.proofs.Begun.{IsSure, Laws, agrees, certain, knowledge, own_cell}
use Rattle.sql_meaning.proofs.Names.{IsKnown, IsShownIn, all_known, groups_are, names_shown, with_all}
use Rattle.sql_headline.proofs.Ranges.{cell_ranges, narrows_at, range, single_at}
use Rattle.sql_headline.proofs.GroupParts.{IsPartThere, is_alone, IsShownThere, all_inside, all_lie}
use Rattle.sql_headline.proofs.Items as items
use Rattle.sql_headline.proofs.Keyed.{have_keys}
use Rattle.sql_headline.proofs.Resulted.{tells_keys}
use Rattle.sql_headline.proofs.Sectioned as sectioned
use Rattle.sql_headline.proofs.Sectioned.{IsOfCell, section_with, sections, span_of}
use Rattle.sql_headline.proofs.Spanned.{in_cell, span_for, spanned}
use Rattle.sql_headline.proofs.Tight.{IsSpanReached, reached}

-- ---- lists

-- what stands at each place of two lists
by_places : {A B : Type 0} (R : A → B → Type 0) (xs : List A) (ys : List B) → length xs ≡ length ys → ((k : ℕ) (x : A) (y : B) → slice_get xs k ≡ Some x → slice_get ys k ≡ Some y → R x y) → AllZip R xs ys
by_places R [] [] long each = tt
by_places R [] (y ∷ ys) long each = absurd (omega (arith, long))
by_places R (x ∷ xs) [] long each = absurd (omega (arith, long))
by_places R (x ∷ xs) (y ∷ ys) long each = (each 0 x y refl refl, by_places R xs ys (omega (arith, long)) (λ k u v e f. each (suc k) u v e f))

-- what a mapped list has at a place is of what stands there
mapped_at : {A B : Type 0} (f : A → B) (xs : List A) (k : ℕ) (y : B) → slice_get (map f xs) k ≡ Some y → (x : A) × (slice_get xs k ≡ Some x) × (f x ≡ y)
mapped_at f [] k y e = absurd (none-some y e)
mapped_at f (x ∷ xs) zero y e = (x, refl, same_Some (f x) y e)
mapped_at f (x ∷ xs) (suc k) y e = mapped_at f xs k y e

number_face : (table : List ColumnHead) (columns : List ℕ) (kind : CallKind) (x : tree.Expr) (t : Aggregate) → typed_item table columns (tree.Call kind x) ≡ Some t →
    (typed_call table columns kind x).face ≡ faces.Number (sectioned.places_of (typed_call table columns kind x).face) → t.face ≡ faces.Number (sectioned.places_of t.face)
number_face table columns kind x t e h = subst (λ (w : Aggregate). w.face ≡ faces.Number (sectioned.places_of w.face)) (same_Some (typed_call table columns kind x) t e) h

no_average : (table : List ColumnHead) (columns : List ℕ) (kind : CallKind) (x : tree.Expr) (t : Aggregate) → typed_item table columns (tree.Call kind x) ≡ Some t →
    is_average (typed_call table columns kind x).kind ≡ false → is_average t.kind ≡ true → t.face ≡ faces.Number (sectioned.places_of t.face)
no_average table columns kind x t e h a =
    absurd (true≢false (sym a ∙ sym (ap (λ (w : Aggregate). is_average w.kind) (same_Some (typed_call table columns kind x) t e)) ∙ h))

-- an average is shown as a number
average_is : (table : List ColumnHead) (columns : List ℕ) (item : Item) (t : Aggregate) → typed_item table columns item ≡ Some t → sectioned.IsNumbered t
average_is table columns (tree.Plain n) t e a = absurd (none-some t e)
average_is table columns tree.CountAll t e a = (let same : counted ≡ t = same_Some counted t e in subst (λ (w : Aggregate). w.face ≡ faces.Number (sectioned.places_of w.face)) same refl)
average_is table columns (tree.Call calls.Count x) t e a = number_face table columns calls.Count x t e refl
average_is table columns (tree.Call calls.Sum x) t e a = number_face table columns calls.Sum x t e refl
average_is table columns (tree.Call calls.Avg x) t e a = number_face table columns calls.Avg x t e refl
average_is table columns (tree.Call calls.Min x) t e a = no_average table columns calls.Min x t e refl a
average_is table columns (tree.Call calls.Max x) t e a = no_average table columns calls.Max x t e refl a

module _ (law : Laws) (run : Run) (plan : Plan) (is : IsSure run plan) (names : List Name) (grouped : run.text.ending ≡ tree.Grouped names) where
  -- ---- the columns of GROUP BY

  abbrev number : Name → ℕ
  number n = number_of run.head.columns run.query.columns n.name

  abbrev pub own : List Name
  own = with_names [] names

  abbrev pub groups : List ℕ
  groups = map number own

  in_ending : (P : Name → Type 0) → AllByRecursion P (names_in run.text) → AllByRecursion P names
  in_ending P h = subst (λ e. AllByRecursion P (names_in_ending e)) grouped (all_right P (names_in_head run.text.head ++ names_in_filter run.text.pred) (names_in_ending run.text.ending) h)

  known_names : AllByRecursion (IsKnown run.head.columns run.query.columns) names
  known_names = in_ending (IsKnown run.head.columns run.query.columns) (all_known run.text run.head run.query is.typed)

  pub known_own : AllByRecursion (IsKnown run.head.columns run.query.columns) own
  known_own = with_all run.head.columns run.query.columns (IsKnown run.head.columns run.query.columns) [] names tt known_names

  pub shape_is : run.query.shape ≡ shapes.Grouped groups
  shape_is =
      ap (λ (w : Query). w.shape) is.typed.same ∙ ap (typed_ending run.head.columns (columns_of run.head.columns run.text)) grouped
      ∙ ap (λ cs. shapes.Grouped (group_columns run.head.columns cs names)) (sym (ap (λ (w : Query). w.columns) is.typed.same))
      ∙ ap shapes.Grouped (groups_are run.head.columns run.query.columns names known_names)

  pub groups_is : groups_of run.query.shape ≡ groups
  groups_is = ap groups_of shape_is

  -- each group column is one of the table
  in_table : (n : Name) → IsKnown run.head.columns run.query.columns n → IsPartThere run.head.columns run.query.columns number (part_of run.query (frame_of run.head)) n
  in_table n known = record {
    column = known.column;
    at = ap (unless_null (slice_get run.head.columns)) known.number ∙ known.at;
    ends = mapped (ends_at (frame_of run.head)) run.query.columns (number n) known.place no_ends known.number ∙ mapped ends_of run.head.columns known.place known.column no_ends known.at;
  }

  parts_there : AllByRecursion (IsPartThere run.head.columns run.query.columns number (part_of run.query (frame_of run.head))) own
  parts_there = all_then (IsKnown run.head.columns run.query.columns) (IsPartThere run.head.columns run.query.columns number (part_of run.query (frame_of run.head))) in_table own known_own

  parts_are : (round : ℕ) → parts_in (stage_at run round) ≡ map (part_under (stage_at run round).frame (stage_at run round).known) groups
  parts_are round = ap (map (part_under (stage_at run round).frame (stage_at run round).known)) groups_is

  abbrev pub sections_at : ℕ → List Section
  sections_at round = sections run.head (stage_at run round) groups

  -- all items are aggregates
  whole : typing.typed_items run.head.columns (columns_of run.head.columns run.text) run.text.ending run.text.head ≡ typing.typed_head run.head.columns (columns_of run.head.columns run.text) run.text.head
  whole = ap (λ e. typing.typed_items run.head.columns (columns_of run.head.columns run.text) e run.text.head) grouped

  as_many : length run.query.items ≡ length (asked run.text.head)
  as_many = items.as_many run.text run.head run.query is.typed whole

  columns_there : (ns : List Name) → AllByRecursion (IsKnown run.head.columns run.query.columns) ns → AllByRecursion (sectioned.IsColumn run.head (stage_at run 0)) (map number ns)
  columns_there [] h = tt
  columns_there (n ∷ ns) h = ((h.0.column, ap (slice_get run.head.columns) (get_or_from_slice_get run.query.columns (number n) h.0.place (length run.head.columns) h.0.number) ∙ h.0.at), columns_there ns h.1)

  numbered : (place : ℕ) (t : Aggregate) → slice_get run.query.items place ≡ Some t → sectioned.IsNumbered t
  numbered place t e =
      let item = there (asked run.text.head) place (subst (λ n. place < n) as_many (slice_get_within run.query.items place t e)) in
      average_is run.head.columns run.query.columns item.element t (typed_as run.text run.head run.query item.element t is.typed (record { place = place; in_text = item.get; in_query = e }))

  all_numbered : (ts : List Aggregate) → ((place : ℕ) (t : Aggregate) → slice_get ts place ≡ Some t → sectioned.IsNumbered t) → AllByRecursion sectioned.IsNumbered ts
  all_numbered [] each = tt
  all_numbered (t ∷ ts) each = (each 0 t refl, all_numbered ts (λ place u e. each (suc place) u e))

  pub block_is : (listing : Listing) (extras : Extras) (round : ℕ) (last : Option ℕ) →
      (text : List ℕ) × (block_text run.head listing extras (stage_at run round) round last ≡ round_line run.head (stage_at run round) round last ++ text) × AreSections (sections_at round) text
  block_is listing extras round last =
      sectioned.block_is run.head (stage_at run round) groups (columns_there own known_own) (all_numbered run.query.items numbered) shape_is listing extras round last

  known_in : (n : Name) → IsKnown run.head.columns run.query.columns n → number n < length run.query.columns
  known_in n known = slice_get_within run.query.columns (number n) known.place known.number

  numbers_in : (ns : List Name) → AllByRecursion (IsKnown run.head.columns run.query.columns) ns → AllByRecursion (λ c. c < length run.query.columns) (map number ns)
  numbers_in [] h = tt
  numbers_in (n ∷ ns) h = (known_in n h.0, numbers_in ns h.1)

  groups_in_part : AllByRecursion (λ c. c < length (part_of run.query (frame_of run.head)).columns) groups
  groups_in_part = subst (λ n. AllByRecursion (λ c. c < n) groups) (sym (columns_of_part run.query (frame_of run.head))) (numbers_in own known_own)

  -- ---- a row of a world

  module _ (world : Cells) (values : HasValues run.head world) (one : ℕ) (one_in : one < run.head.rows) where
    abbrev key : Key
    key = key_at run.query run.head world one

    abbrev row : Row
    row = row_at run.head world one

    pub shown_names : AllByRecursion (IsShownThere run.head.columns run.query.columns number (numbers_at run.query run.head world one) row) own
    shown_names =
        with_all run.head.columns run.query.columns (IsShownIn run.query run.head world one) [] names tt
        (in_ending (IsShownIn run.query run.head world one) (names_shown run.text run.head world one one_in run.query is.typed values))

    pub key_is : key ≡ map (numbers_at run.query run.head world one) groups
    key_is = ap (map (numbers_at run.query run.head world one)) groups_is

    -- the parts of a cell that has the key in its ranges enclose the values of the row
    to_key : (round cell : ℕ) (present : Bool) → IsKeyIn (ranges_of_cell (parts_in (stage_at run round)) cell) key → IsKeyOf (section_with run.head (stage_at run round) groups present cell) run.text row
    to_key round cell present k =
        subst (λ e. AllZip (λ part name. Encloses part (row name.name)) (section_with run.head (stage_at run round) groups present cell).parts (with_names [] (grouping e))) (sym grouped)
        (all_lie run.head.columns run.query.columns number (numbers_at run.query run.head world one) row own (ranges_of_cell (parts_in (stage_at run round)) cell) shown_names
        (subst (IsKeyIn (ranges_of_cell (parts_in (stage_at run round)) cell)) key_is k))

    -- and where they do, the key is in its ranges
    from_key : (round cell : ℕ) (present : Bool) → IsTrue (is_legal_cell (parts_in (stage_at run round)) cell) → IsKeyOf (section_with run.head (stage_at run round) groups present cell) run.text row →
        IsKeyIn (ranges_of_cell (parts_in (stage_at run round)) cell) key
    from_key round cell present legal k =
        let stage = stage_at run round in
        let prefixes = parts_of (counts_of_parts (parts_in stage)) cell in
        let numbers = numbers_at run.query run.head world one in
        let lie : AllZip (λ part name. Encloses part (row name.name)) (section_with run.head stage groups present cell).parts own =
        subst (λ e. AllZip (λ part name. Encloses part (row name.name)) (section_with run.head stage groups present cell).parts (with_names [] (grouping e))) grouped k in
        subst (IsKeyIn (ranges_of_cell (parts_in stage) cell)) (sym key_is)
        (subst (λ ps. IsKeyIn (ranges_of_prefixes ps prefixes) (map numbers groups)) (sym (parts_are round))
        (all_inside run.head.columns run.query.columns number numbers row stage.frame stage.known own prefixes shown_names parts_there
        (subst (λ ps. IsTrue (are_legal ps prefixes)) (parts_are round) legal)
        (subst (λ ps. AllZip (λ part name. Encloses part (row name.name)) (zip2 (sectioned.part_of run.head stage) groups (ranges_of_prefixes ps prefixes)) own) (parts_are round) lie)))

  -- ---- in a round

  module _ (round : ℕ) (h : round ≤ length run.reads) (world : Cells) (is_world : IsWorld run round world) where
    legal : (section : Section) (c : IsOfCell run.head (stage_at run round) groups section) → IsTrue (is_legal_cell (parts_in (stage_at run round)) c.cell)
    legal section c = filled_is_legal (stage_at run round) c.cell illegal_cells_are_empty cells_tell_keys (knowledge law run plan is round h) c.told

    pub of_cell : (section : Section) → Contains (sections_at round) section → IsOfCell run.head (stage_at run round) groups section
    of_cell section has = sectioned.of_cell run.head (stage_at run round) groups section has

    module _ (one : ℕ) (one_in : one < run.head.rows) where
      abbrev own_key : Key
      own_key = key_at run.query run.head world one

      group : IsGroupOf run world own_key one
      group = record { row = λ some. one_in; same = refl }

      pub on : IsKeyOn run.query (frame_of run.head) own_key
      on = have_keys law run plan is round world own_key one h is_world group

      has_cell : HasCell (stage_at run round) own_key
      has_cell = (certain law run plan is).in_cells round h own_key on

      own_is : IsCellOf (stage_at run round) own_key has_cell.cell
      own_is = record { counted = has_cell.counted; belongs = has_cell.belongs }

      -- a row at which the condition is true has a section
      pub each : IsTrue (is_sql_true (truth_of_where run.text.pred (row_at run.head world one))) → (section : Section) × Contains (sections_at round) section × IsKeyOf section run.text (row_at run.head world one)
      each counts =
          let told : absence_in_cell (stage_at run round) has_cell.cell ≢ Always =
          (λ e. (tells_keys law run plan is own_key on).missing round has_cell.cell h own_is e world is_world (record { row = one; within = one_in; counts = counts; same = refl })) in
          let has = sectioned.has_section run.head (stage_at run round) groups has_cell.cell has_cell.counted told in (
            section_with run.head (stage_at run round) groups has.present has_cell.cell,
            has.there,
            to_key world is_world.has_values one one_in round has_cell.cell has.present has_cell.speaks.ranges,
          )

      -- a section of the row is that of the key's cell
      pub own_cell_of : (section : Section) (c : IsOfCell run.head (stage_at run round) groups section) → IsKeyOf section run.text (row_at run.head world one) → IsCellOf (stage_at run round) own_key c.cell
      own_cell_of section c k =
          let inside = from_key world is_world.has_values one one_in round c.cell section.present (legal section c) (subst (λ (s : Section). IsKeyOf s run.text (row_at run.head world one)) c.is k) in
          subst (IsCellOf (stage_at run round) own_key) (sym (has_cell.apart c.cell c.counted c.told inside)) own_is

      span_is : (section : Section) (c : IsOfCell run.head (stage_at run round) groups section) → IsKeyOf section run.text (row_at run.head world one) → (t : Aggregate) → span_for run t own_key round ≡ span_of run.head (stage_at run round) c.cell t
      span_is section c k t = sym (in_cell law run plan is t own_key on round c.cell h (own_cell_of section c k))

      -- its spans hold the answers
      pub holds : (section : Section) → Contains (sections_at round) section → IsKeyOf section run.text (row_at run.head world one) → AllZip (λ span item. LiesIn span (answered item (rows_in run world one))) section.spans (asked run.text.head)
      holds section has k =
          let c = of_cell section has in
          subst (λ (s : Section). AllZip (λ span item. LiesIn span (answered item (rows_in run world one))) s.spans (asked run.text.head)) (sym c.is)
          (by_places (λ span item. LiesIn span (answered item (rows_in run world one))) (map (span_of run.head (stage_at run round) c.cell) run.query.items) (asked run.text.head)
          (length-map run.query.items (span_of run.head (stage_at run round) c.cell) ∙ as_many)
          (λ place span item e f.
          let t = mapped_at (span_of run.head (stage_at run round) c.cell) run.query.items place span e in
          subst (λ s. LiesIn s (answered item (rows_in run world one))) (span_is section c k t.0 ∙ t.2)
          ((spanned law run plan is t.0 own_key on item (record { place = place; in_text = f; in_query = t.1 })).lies round h world one is_world group)))

      -- where an item attains its ends, so do they over the rows of the group in some world
      pub tight : HasTexts run.head → (section : Section) → Contains (sections_at round) section → IsKeyOf section run.text (row_at run.head world one) →
          AllZip (λ span item. AttainsEnds run.head run.text item → IsSpanReached run round item (row_at run.head world one) span) section.spans (asked run.text.head)
      tight texts section has k =
          let c = of_cell section has in
          subst (λ (s : Section). AllZip (λ span item. AttainsEnds run.head run.text item → IsSpanReached run round item (row_at run.head world one) span) s.spans (asked run.text.head)) (sym c.is)
          (by_places (λ span item. AttainsEnds run.head run.text item → IsSpanReached run round item (row_at run.head world one) span) (map (span_of run.head (stage_at run round) c.cell) run.query.items) (asked run.text.head)
          (length-map run.query.items (span_of run.head (stage_at run round) c.cell) ∙ as_many)
          (λ place span item e f attains.
          let t = mapped_at (span_of run.head (stage_at run round) c.cell) run.query.items place span e in
          subst (IsSpanReached run round item (row_at run.head world one)) (span_is section c k t.0 ∙ t.2)
          (reached law run plan is item t.0 (record { place = place; in_text = f; in_query = t.1 }) own_key on world is_world.has_values one group texts round h attains)))

      -- with all planes read it is there for certain, and its spans are the answers
      pub is_it : IsDone run round → (section : Section) → Contains (sections_at round) section → IsKeyOf section run.text (row_at run.head world one) →
          (section.present ≡ true) × AllZip (λ span item. IsIt span (answered item (rows_in run world one))) section.spans (asked run.text.head)
      is_it done section has k =
          let c = of_cell section has in (
            by_word section c k section.present refl,
            subst (λ (s : Section). AllZip (λ span item. IsIt span (answered item (rows_in run world one))) s.spans (asked run.text.head)) (sym c.is)
                (by_places (λ span item. IsIt span (answered item (rows_in run world one))) (map (span_of run.head (stage_at run round) c.cell) run.query.items) (asked run.text.head)
                (length-map run.query.items (span_of run.head (stage_at run round) c.cell) ∙ as_many)
                (λ place span item e f.
                let t = mapped_at (span_of run.head (stage_at run round) c.cell) run.query.items place span e in
                subst (λ s. IsIt s (answered item (rows_in run world one))) (span_is section c k t.0 ∙ t.2)
                ((spanned law run plan is t.0 own_key on item (record { place = place; in_text = f; in_query = t.1 })).is_it round h done world one is_world group))),
          )
        where
          by_word : (section : Section) (c : IsOfCell run.head (stage_at run round) groups section) → IsKeyOf section run.text (row_at run.head world one) → (present : Bool) → section.present ≡ present → section.present ≡ true
          by_word section c k true e = e
          by_word section c k false e = absurd ((tells_keys law run plan is own_key on).exact round c.cell h (own_cell_of section c k) done (c.possible e))

      -- ---- its parts

      own_ranges : ranges_of_cell (parts_in (stage_at run round)) has_cell.cell ≡ map (ranges_of (stage_at run round).frame (stage_at run round).known one) (groups_of run.query.shape)
      own_ranges =
          cell_ranges (part_of run.query (frame_of run.head)) (stage_at run round).known (projected run.query world) one has_cell.cell (groups_of run.query.shape)
          (agrees law run plan is round h world is_world).part one_in (subst (λ cs. AllByRecursion (λ c. c < length (part_of run.query (frame_of run.head)).columns) cs) (sym groups_is) groups_in_part) has_cell.belongs.1

      parts_of_row : (section : Section) (c : IsOfCell run.head (stage_at run round) groups section) → IsKeyOf section run.text (row_at run.head world one) →
          section.parts ≡ zip2 (sectioned.part_of run.head (stage_at run round)) groups (map (ranges_of (stage_at run round).frame (stage_at run round).known one) groups)
      parts_of_row section c k =
          ap (λ (s : Section). s.parts) c.is
          ∙ ap (λ n. zip2 (sectioned.part_of run.head (stage_at run round)) groups (ranges_of_cell (parts_in (stage_at run round)) n)) (own_cell (stage_at run round) own_key c.cell has_cell (own_cell_of section c k))
          ∙ ap (zip2 (sectioned.part_of run.head (stage_at run round)) groups) own_ranges
          ∙ ap (λ cs. zip2 (sectioned.part_of run.head (stage_at run round)) groups (map (ranges_of (stage_at run round).frame (stage_at run round).known one) cs)) groups_is

      alone_parts : IsDone run round → (ns : List Name) → AllByRecursion (IsKnown run.head.columns run.query.columns) ns → AllByRecursion (IsShownIn run.query run.head world one) ns →
          AllZip (λ part name. IsAlone part (row_at run.head world one name.name)) (zip2 (sectioned.part_of run.head (stage_at run round)) (map number ns) (map (ranges_of (stage_at run round).frame (stage_at run round).known one) (map number ns))) ns
      alone_parts done [] known shows = tt
      alone_parts done (n ∷ ns) known shows = (
        is_alone run.head.columns run.query.columns (number n) (range law run plan is round one (number n)) (numbers_at run.query run.head world one (number n)) (row_at run.head world one n.name)
            (single_at law run plan is round one (number n) h one_in done) shows.0
            ((certain law run plan is).values round h one (number n) one_in (known_in n known.0) world (agrees law run plan is round h world is_world)),
        alone_parts done ns known.1 shows.1,
      )

      -- with all planes read they are the values of the row alone
      pub parts_alone : IsDone run round → (section : Section) → Contains (sections_at round) section → IsKeyOf section run.text (row_at run.head world one) → IsKeyAlone section run.text (row_at run.head world one)
      parts_alone done section has k =
          subst (λ e. AllZip (λ part name. IsAlone part (row_at run.head world one name.name)) section.parts (with_names [] (grouping e))) (sym grouped)
          (subst (λ l. AllZip (λ part name. IsAlone part (row_at run.head world one name.name)) l own) (sym (parts_of_row section (of_cell section has) k))
          (alone_parts done own known_own (shown_names world is_world.has_values one one_in)))

    abbrev cells : RowCells
    cells = record { parts = parts_in (stage_at run round); cells = map (cell_of (stage_at run round).known (groups_of run.query.shape)) (rows_of (stage_at run round).frame) }

    -- a key of a cell that is in the result is that of a row, whose values lie where the section says
    from_result : (section : Section) (c : IsOfCell run.head (stage_at run round) groups section) (k : Key) → IsKeyIn (ranges_of_cell (parts_in (stage_at run round)) c.cell) k → IsInResult run world k →
        (one : ℕ) × (one < run.head.rows) × IsTrue (is_sql_true (truth_of_where run.text.pred (row_at run.head world one))) × IsKeyOf section run.text (row_at run.head world one)
    from_result section c k ranges found = (
      found.row,
      found.within,
      found.counts,
      subst (λ (s : Section). IsKeyOf s run.text (row_at run.head world found.row)) (sym c.is)
          (to_key world is_world.has_values found.row found.within round c.cell section.present (subst (IsKeyIn (ranges_of_cell (parts_in (stage_at run round)) c.cell)) found.same ranges)),
    )

    -- a section of keys that are present is that of a row at which the condition is true
    pub present : (section : Section) → Contains (sections_at round) section → section.present ≡ true →
        (one : ℕ) × (one < run.head.rows) × IsTrue (is_sql_true (truth_of_where run.text.pred (row_at run.head world one))) × IsKeyOf section run.text (row_at run.head world one)
    present section has p =
        let stage = stage_at run round in
        let c = of_cell section has in
        let are_legal_parts = ((cells_tell_keys stage.frame stage.known (groups_of run.query.shape) cells (record { parts = refl; rows = refl })).legal c.cell).0 (legal section c) in
        let some = (legal_cells_have_keys stage.frame stage.known (groups_of run.query.shape) c.cell).legal are_legal_parts in
        let there = some.1.0 in
        let own_here : IsCellOf stage some.0 c.cell = record { counted = c.counted; belongs = some.1 } in
        let cell = (certain law run plan is).in_cells round h some.0 there in
        from_result section c some.0
        (subst (λ n. IsKeyIn (ranges_of_cell (parts_in stage) n) some.0) (sym (own_cell stage some.0 c.cell cell own_here)) cell.speaks.ranges)
        ((tells_keys law run plan is some.0 there).present round c.cell h own_here (c.word p) world is_world)

  -- the spans of a round lie inside those of the one before
  pub narrows : (round : ℕ) → round < length run.reads → (world : Cells) → IsWorld run round world → IsWorld run (round + 1) world → (one : ℕ) → one < run.head.rows →
      (old new : Section) → Contains (sections_at round) old → Contains (sections_at (round + 1)) new → IsKeyOf old run.text (row_at run.head world one) → IsKeyOf new run.text (row_at run.head world one) →
      AllZip Narrows old.spans new.spans
  narrows round h world before after one one_in old new has_old has_new k_old k_new =
      let h_old : round ≤ length run.reads = omega (arith, h) in
      let h_new : round + 1 ≤ length run.reads = omega (arith, h) in
      let key = key_at run.query run.head world one in
      let a = of_cell round h_old world before old has_old in
      let b = of_cell (round + 1) h_new world after new has_new in
      subst (λ (s : Section). AllZip Narrows s.spans new.spans) (sym a.is)
      (subst (λ (s : Section). AllZip Narrows (map (span_of run.head (stage_at run round) a.cell) run.query.items) s.spans) (sym b.is)
      (by_places Narrows (map (span_of run.head (stage_at run round) a.cell) run.query.items) (map (span_of run.head (stage_at run (round + 1)) b.cell) run.query.items)
      (length-map run.query.items (span_of run.head (stage_at run round) a.cell) ∙ sym (length-map run.query.items (span_of run.head (stage_at run (round + 1)) b.cell)))
      (λ place x y e f.
      let t = mapped_at (span_of run.head (stage_at run round) a.cell) run.query.items place x e in
      let u = mapped_at (span_of run.head (stage_at run (round + 1)) b.cell) run.query.items place y f in
      let same : t.0 ≡ u.0 = same_Some t.0 u.0 (sym t.1 ∙ u.1) in
      let item = there (asked run.text.head) place (subst (λ n. place < n) as_many (slice_get_within run.query.items place t.0 t.1)) in
      let y_is : span_for run t.0 key (round + 1) ≡ y = ap (λ w. span_for run w key (round + 1)) same ∙ span_is (round + 1) h_new world after one one_in new b k_new u.0 ∙ u.2 in
      let x_is : span_for run t.0 key round ≡ x = span_is round h_old world before one one_in old a k_old t.0 ∙ t.2 in
      subst (λ s. Narrows s y) x_is
      (subst (λ s. Narrows (span_for run t.0 key round) s) y_is
      ((spanned law run plan is t.0 key (on round h_old world before one one_in) item.element (record { place = place; in_text = item.get; in_query = t.1 })).narrows round h)))))

  narrow_parts : (round one : ℕ) → round < length run.reads → one < run.head.rows → (cs : List ℕ) → AllByRecursion (λ c. c < length run.query.columns) cs →
      AllZip LiesInside (zip2 (sectioned.part_of run.head (stage_at run round)) cs (map (ranges_of (stage_at run round).frame (stage_at run round).known one) cs))
      (zip2 (sectioned.part_of run.head (stage_at run (round + 1))) cs (map (ranges_of (stage_at run (round + 1)).frame (stage_at run (round + 1)).known one) cs))
  narrow_parts round one h one_in [] within = tt
  narrow_parts round one h one_in (c ∷ cs) within = (narrows_at law run plan is round one c h one_in within.0, narrow_parts round one h one_in cs within.1)

  -- and so do its parts
  pub parts_narrow : (round : ℕ) → round < length run.reads → (world : Cells) → IsWorld run round world → IsWorld run (round + 1) world → (one : ℕ) → one < run.head.rows →
      (old new : Section) → Contains (sections_at round) old → Contains (sections_at (round + 1)) new → IsKeyOf old run.text (row_at run.head world one) → IsKeyOf new run.text (row_at run.head world one) →
      AllZip LiesInside old.parts new.parts
  parts_narrow round h world before after one one_in old new has_old has_new k_old k_new =
      let h_old : round ≤ length run.reads = omega (arith, h) in
      let h_new : round + 1 ≤ length run.reads = omega (arith, h) in
      let a = of_cell round h_old world before old has_old in
      let b = of_cell (round + 1) h_new world after new has_new in
      subst (λ l. AllZip LiesInside l new.parts) (sym (parts_of_row round h_old world before one one_in old a k_old))
      (subst (λ l. AllZip LiesInside (zip2 (sectioned.part_of run.head (stage_at run round)) groups (map (ranges_of (stage_at run round).frame (stage_at run round).known one) groups)) l)
      (sym (parts_of_row (round + 1) h_new world after one one_in new b k_new))
      (narrow_parts round one h one_in groups (numbers_in own known_own)))
