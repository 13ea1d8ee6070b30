-- What holds of the cells of a combined report, carried over to the groups that show them.
use Rattle.std.proofs.Common.{◌≡◌, ◌≢◌, ◌∙◌, ℕ, ℤ, suc, zero, ◌+◌, ◌<◌, Bool, ◌&&◌, ◌||◌, List, [], ◌∷◌, drop, get_or, length, map, slice_get, refl, arith, sym, ap, subst, inl, inr, IsTrue, Option, Some, None, max}
use Rattle.std.specs.Option.{option_map}
use Rattle.std.proofs.lemmas.Option.{none-some, slice_get-map}
use Rattle.query_model.specs.Answers.{answer}
use Rattle.query_model.specs.Bounds.{Admits}
use Rattle.query_model.specs.declared.bounds.Bound.{Bound}
use Rattle.query_model.specs.declared.query.ItemKind.{ItemKind}
use Rattle.query_model.specs.declared.query.ItemKind.TheVariants.{Count, Sum, Min, Max, Avg}
use Rattle.report_text.specs.declared.text_answers.TextAnswer.{TextAnswer}
use Rattle.shard_groups.specs.declared.cells.Cell.{Cell}
use Rattle.shard_groups.specs.declared.cells.ItemBound.{ItemBound}
use Rattle.shard_groups.specs.declared.cells.ItemBound.TheVariants as code
use Rattle.shard_groups.specs.declared.keys.KeyValue.{KeyValue}
use Rattle.shard_groups.specs.declared.keys.Span.{Span}
use Rattle.shard_groups.specs.Groups.{AreLinesOver, Said, Value, bound_at, bound_over, keys_in, said_from, said_of, said_over, value_by}
use Rattle.shard_groups.specs.Keys.{Key, allows, holds}
use Rattle.shard_groups.specs.Laws.{AreAdmittedAt, AreAllToldAt, AreCertainAt, AreOneKeys, AreToldAt, AreCounted, ArePresentAt, IsCellOf, IsOneOf, has_cell}
use Rattle.query_model.specs.Answers.{average}
use Rattle.query_model.specs.Bounds.{AverageBound, fractions_of}
use Rattle.query_model.specs.declared.bounds.AverageBound as bounds
use Rattle.shard_bounds.specs.Averages.{IsDivisible, ReportsAverage, TellsAverage}
use Rattle.shard_bounds.specs.Laws.{Tells}
use Rattle.shard_groups.specs.Groups as cells
use Rattle.shard_groups.specs.Groups.{Average, average_at, average_over}
use Rattle.shard_groups.specs.Laws.{AreAllAveragesToldAt, AreAveragesCertainAt, AreAveragesToldAt, AreCellsDivisible, AreReportedAt}
use Rattle.part_groups.specs.Laws.{AreAllAveragesToldIn, AreAveragesCertainIn, AreAveragesToldIn, AreReportedIn, average_by, average_in}
use Rattle.shard_groups.specs.Lines.{AreApart}
use Rattle.part_groups.proofs.PartKeys.{cell_keys, group_keys}
use Rattle.part_groups.specs.Cells.{Told, keys_of, said_by, span_of, told, told_by}
use Rattle.part_groups.specs.Forms.{form_at}
use Rattle.part_groups.specs.Laws.{AreAdmittedIn, AreAllToldIn, AreCertainIn, AreToldIn, AreCountedIn, ArePresentIn, IsGroupOf, bound_by, bound_in, has_key, keys_by}
use Rattle.part_groups.specs.Shown.{answer_in, answers_from, group_in, shown_from, shown_span, span_at}
use Rattle.part_groups.specs.declared.forms.EndsForm.{EndsForm}
use Rattle.part_groups.specs.declared.group.Group.{Group}
use Rattle.part_groups.proofs.Hulls.{AreWithin, IsWithin, within_at, within_length}
use Rattle.part_groups.proofs.Written.{span_kept}

-- ---- the keys of a line as it is shown

same_keys : (column : ℕ) (forms : List (Option EndsForm)) (spans rest : List Span) (key : Key) → ((n : ℕ) → span_at (column + n) spans ≡ span_at n rest) →
    length forms ≡ length rest → ((n : ℕ) → n < length forms → (part : Option KeyValue) →
    allows (span_of (shown_span (form_at n forms) (span_at n rest))) part ≡ allows (span_at n rest) part) →
    holds (keys_of (shown_from column forms spans)) key ≡ holds rest key
same_keys column [] spans [] key at e kept = refl
same_keys column [] spans (span ∷ rest) key at e kept = absurd (omega (arith, e))
same_keys column (form ∷ forms) spans [] key at e kept = absurd (omega (arith, e))
same_keys column (form ∷ forms) spans (span ∷ rest) [] at e kept = refl
same_keys column (form ∷ forms) spans (span ∷ rest) (part ∷ key) at e kept =
    let zeroth : column ≡ column + 0 = omega arith in
    let here : span_at column spans ≡ span = ap (λ (n : ℕ). span_at n spans) zeroth ∙ at 0 in
    let first = ap (λ (s : Span). allows (span_of (shown_span form s)) part) here ∙ kept 0 (omega arith) part in
    let others = same_keys (column + 1) forms spans rest key
    (λ n. let next : column + 1 + n ≡ column + suc n = omega arith in ap (λ (m : ℕ). span_at m spans) next ∙ at (suc n))
    (omega (arith, e)) (λ n h. kept (suc n) (omega (arith, h))) in
    ap (λ (b : Bool). b && holds (keys_of (shown_from (column + 1) forms spans)) key) first ∙ ap (λ (b : Bool). allows span part && b) others

-- the keys that are shown are those of the line
pub shown_same : (forms : List (Option EndsForm)) (line : List Span) (key : Key) → IsWithin forms line →
    holds (keys_of (shown_from 0 forms line)) key ≡ holds line key
shown_same forms line key w =
    same_keys 0 forms line line key (λ n. let same : 0 + n ≡ n = omega arith in ap (λ (m : ℕ). span_at m line) same)
    (sym (within_length line w.hull w.within ∙ w.is.columns))
    (λ n h part. span_kept (form_at n forms) (span_at n line) (span_at n w.hull) (w.is.each n h) (within_at line w.hull n w.within) part)

-- ---- which line a group shows

pub record Shows (columns items : List (Option EndsForm)) (texts : List Span → List (Option TextAnswer)) (lines : List Cell) (group : Group) : Type 0 where
  pub line : Cell
  pub is : IsCellOf line lines
  pub shown : group ≡ group_in columns items texts (told line)

pub line_of : (columns items : List (Option EndsForm)) (texts : List Span → List (Option TextAnswer)) (lines : List Cell) (group : Group) →
    IsGroupOf group (map (λ line. group_in columns items texts (told line)) lines) → Shows columns items texts lines group
line_of columns items texts [] group is = absurd is
line_of columns items texts (line ∷ lines) group (inl e) = record { line = line; is = inl refl; shown = e }
line_of columns items texts (line ∷ lines) group (inr is) =
    let there = line_of columns items texts lines group is in record { line = there.line; is = inr there.is; shown = there.shown }

pub one_of : (lines : List Cell) (line : Cell) → IsCellOf line lines → IsOneOf line.keys (keys_in lines)
one_of [] line is = absurd is
one_of (other ∷ lines) line (inl e) = inl (ap (λ (c : Cell). c.keys) e)
one_of (other ∷ lines) line (inr is) = inr (one_of lines line is)

pub within_of : (forms : List (Option EndsForm)) (lines : List Cell) (line : Cell) → IsCellOf line lines → AreWithin forms (keys_in lines) → IsWithin forms line.keys
within_of forms [] line is w = absurd is
within_of forms (other ∷ lines) line (inl e) w = subst (λ (c : Cell). IsWithin forms c.keys) (sym e) w.0
within_of forms (other ∷ lines) line (inr is) w = within_of forms lines line is w.1

-- and the group of a line with a key
pub record LineWith (key : Key) (lines : List Cell) : Type 0 where
  pub line : Cell
  pub is : IsCellOf line lines
  pub has : IsTrue (holds line.keys key)

pub line_with : (lines : List Cell) (keys : List Span) (key : Key) → IsOneOf keys (keys_in lines) → IsTrue (holds keys key) → LineWith key lines
line_with [] keys key is h = absurd is
line_with (line ∷ lines) keys key (inl e) h = record { line = line; is = inl refl; has = subst (λ (k : List Span). IsTrue (holds k key)) e h }
line_with (line ∷ lines) keys key (inr is) h =
    let there = line_with lines keys key is h in record { line = there.line; is = inr there.is; has = there.has }

pub group_of : (columns items : List (Option EndsForm)) (texts : List Span → List (Option TextAnswer)) (lines : List Cell) (line : Cell) → IsCellOf line lines →
    IsGroupOf (group_in columns items texts (told line)) (map (λ line. group_in columns items texts (told line)) lines)
group_of columns items texts [] line is = absurd is
group_of columns items texts (other ∷ lines) line (inl e) = inl (ap (λ (c : Cell). group_in columns items texts (told c)) e)
group_of columns items texts (other ∷ lines) line (inr is) = inr (group_of columns items texts lines line is)

-- ---- what it says of an item

said_at : (from n item : ℕ) (kinds : List ItemKind) (kind : ItemKind) (line : List Span) (shards : List (List Cell)) → item ≡ from + n →
    slice_get kinds n ≡ Some kind → slice_get (said_from from kinds line shards) n ≡ Some (said_over kind item line shards)
said_at from n item [] kind line shards e g = absurd (none-some kind g)
said_at from zero item (k ∷ kinds) kind line shards e g =
    let same : from ≡ item = omega (arith, e) in
    ap (λ (m : ℕ). Some (said_over k m line shards)) same ∙ ap (option_map (λ q. said_over q item line shards)) g
said_at from (suc n) item (k ∷ kinds) kind line shards e g =
    let next : item ≡ from + 1 + n = omega (arith, e) in said_at (from + 1) n item kinds kind line shards next g

-- what is said of an item is said by its answer
by_answers : (from n : ℕ) (forms : List (Option EndsForm)) (items : List Said) (bound : Bound) → slice_get items n ≡ Some (Value bound) →
    slice_get (map said_by (answers_from from forms items)) n ≡ Some (Value bound)
by_answers from n forms [] bound e = absurd (none-some (Value bound) e)
by_answers from zero forms (said ∷ items) bound e = ap (option_map (λ s. said_by (answer_in (form_at from forms) s))) e
by_answers from (suc n) forms (said ∷ items) bound e = by_answers (from + 1) n forms items bound e

value_over : (kind : ItemKind) (item : ℕ) (line : List Span) (shards : List (List Cell)) → kind ≢ Avg →
    said_over kind item line shards ≡ Value (bound_over kind item line shards)
value_over Count item line shards no_average = refl
value_over Sum item line shards no_average = refl
value_over Min item line shards no_average = refl
value_over Max item line shards no_average = refl
value_over Avg item line shards no_average = absurd (no_average refl)

pub over_of : (kinds : List ItemKind) (shards : List (List Cell)) (lines : List Cell) (line : Cell) → IsCellOf line lines → AreLinesOver kinds shards lines →
    map said_of line.items ≡ said_from 0 kinds line.keys shards
over_of kinds shards [] line is over = absurd is
over_of kinds shards (other ∷ lines) line (inl e) over =
    subst (λ (c : Cell). map said_of c.items ≡ said_from 0 kinds c.keys shards) (sym e) over.0.items
over_of kinds shards (other ∷ lines) line (inr is) over = over_of kinds shards lines line is over.1

pub shown_bound : (columns items : List (Option EndsForm)) (texts : List Span → List (Option TextAnswer)) (kinds : List ItemKind) (shards : List (List Cell)) (lines : List Cell) (line : Cell) (kind : ItemKind)
    (item : ℕ) → IsCellOf line lines → AreLinesOver kinds shards lines → slice_get kinds item ≡ Some kind → kind ≢ Avg →
    bound_in item (group_in columns items texts (told line)) ≡ bound_over kind item line.keys shards
shown_bound columns items texts kinds shards lines line kind item is over at no_average =
    let said = ap (λ (s : List Said). slice_get s item) (over_of kinds shards lines line is over)
    ∙ said_at 0 item item kinds kind line.keys shards (omega arith) at ∙ ap Some (value_over kind item line.keys shards no_average) in
    ap bound_by (by_answers 0 item items (map said_of line.items) (bound_over kind item line.keys shards) said)

-- ---- what the parts say, as cells

bound_told : (o : Option ItemBound) → value_by o ≡ bound_by (option_map said_of o)
bound_told None = refl
bound_told (Some (code.Value bound)) = refl
bound_told (Some (code.Average bound)) = refl

bound_same : (item : ℕ) (cell : Cell) (group : Group) → told cell ≡ told_by group → bound_at item cell ≡ bound_in item group
bound_same item cell group e =
    bound_told (slice_get cell.items item) ∙ ap bound_by (sym (slice_get-map said_of cell.items item))
    ∙ ap (λ (t : Told). bound_by (slice_get t.items item)) e

no_cells : (t : Told) (ts : List Told) → [] ≡ t ∷ ts → ⊥
no_cells t ts e = let l = ap length e in omega (arith, l)

first_told : (cell : Cell) (t : Told) (ts us : List Told) → told cell ∷ ts ≡ t ∷ us → told cell ≡ t
first_told cell t ts us e = ap (λ (l : List Told). get_or l 0 (told cell)) e

admitted : (kind : ItemKind) (item : ℕ) (key : Key) (cells : List Cell) (groups : List Group) (values : List ℤ) → map told cells ≡ map told_by groups →
    AreAdmittedIn kind item key groups values → AreAdmittedAt kind item key cells values
admitted kind item key [] groups values e h = tt
admitted kind item key (cell ∷ cells) [] values e h = absurd (no_cells (told cell) (map told cells) (sym e))
admitted kind item key (cell ∷ cells) (group ∷ groups) values e h =
    let same = first_told cell (told_by group) (map told cells) (map told_by groups) e in (
      (λ k. subst (λ (b : Bound). Admits b (answer kind values)) (sym (bound_same item cell group same))
          (h.0 (subst (λ (t : Told). IsTrue (holds t.keys key)) same k))),
      admitted kind item key cells groups values (ap (drop 1) e) h.1,
    )

has_same : (key : Key) (cells : List Cell) (groups : List Group) → map told cells ≡ map told_by groups → has_cell key cells ≡ has_key key groups
has_same key [] [] e = refl
has_same key [] (group ∷ groups) e = absurd (no_cells (told_by group) (map told_by groups) e)
has_same key (cell ∷ cells) [] e = absurd (no_cells (told cell) (map told cells) (sym e))
has_same key (cell ∷ cells) (group ∷ groups) e =
    let same = first_told cell (told_by group) (map told cells) (map told_by groups) e in
    ap (λ (t : Told). holds t.keys key || has_cell key cells) same ∙ ap (λ (b : Bool). holds (keys_by group) key || b) (has_same key cells groups (ap (drop 1) e))

no_shards : (t : List Told) (ts : List (List Told)) → [] ≡ t ∷ ts → ⊥
no_shards t ts e = let l = ap length e in omega (arith, l)

first_shard : (ts us : List Told) (tss uss : List (List Told)) → ts ∷ tss ≡ us ∷ uss → ts ≡ us
first_shard ts us tss uss e = ap (λ (l : List (List Told)). get_or l 0 ts) e

pub certain : (kind : ItemKind) (item : ℕ) (key : Key) (cells : List (List Cell)) (parts : List (List Group)) (tables : List (List ℤ)) →
    map (map told) cells ≡ map (map told_by) parts → AreCertainIn kind item key parts tables → AreCertainAt kind item key cells tables
certain kind item key [] [] [] e h = tt
certain kind item key [] [] (values ∷ tables) e h = absurd h
certain kind item key [] (groups ∷ parts) tables e h = absurd (no_shards (map told_by groups) (map (map told_by) parts) e)
certain kind item key (shard ∷ cells) [] tables e h = absurd (no_shards (map told shard) (map (map told) cells) (sym e))
certain kind item key (shard ∷ cells) (groups ∷ parts) [] e h = absurd h
certain kind item key (shard ∷ cells) (groups ∷ parts) (values ∷ tables) e h =
    let same = first_shard (map told shard) (map told_by groups) (map (map told) cells) (map (map told_by) parts) e in (
      record {
        admits = admitted kind item key shard groups values same h.0.admits;
        missing = λ f. h.0.missing (sym (has_same key shard groups same) ∙ f);
      },
      certain kind item key cells parts tables (ap (drop 1) e) h.1,
    )

present_at : (key : Key) (cells : List Cell) (groups : List Group) (rows : ℕ) → map told cells ≡ map told_by groups →
    ArePresentIn key groups rows → ArePresentAt key cells rows
present_at key [] groups rows e h = tt
present_at key (cell ∷ cells) [] rows e h = absurd (no_cells (told cell) (map told cells) (sym e))
present_at key (cell ∷ cells) (group ∷ groups) rows e h =
    let same = first_told cell (told_by group) (map told cells) (map told_by groups) e in (
      (λ p k. h.0 (subst (λ (t : Told). IsTrue t.present) same p) (subst (λ (t : Told). IsTrue (holds t.keys key)) same k)),
      present_at key cells groups rows (ap (drop 1) e) h.1,
    )

pub counted : (key : Key) (cells : List (List Cell)) (parts : List (List Group)) (counts : List ℕ) →
    map (map told) cells ≡ map (map told_by) parts → AreCountedIn key parts counts → AreCounted key cells counts
counted key [] [] [] e h = tt
counted key [] [] (rows ∷ counts) e h = absurd h
counted key [] (groups ∷ parts) counts e h = absurd (no_shards (map told_by groups) (map (map told_by) parts) e)
counted key (shard ∷ cells) [] counts e h = absurd (no_shards (map told shard) (map (map told) cells) (sym e))
counted key (shard ∷ cells) (groups ∷ parts) [] e h = absurd h
counted key (shard ∷ cells) (groups ∷ parts) (rows ∷ counts) e h =
    let same = first_shard (map told shard) (map told_by groups) (map (map told) cells) (map (map told_by) parts) e in (
      record {
        present = present_at key shard groups rows same h.0.present;
        missing = λ f. h.0.missing (sym (has_same key shard groups same) ∙ f);
      },
      counted key cells parts counts (ap (drop 1) e) h.1,
    )

told_at : (kind : ItemKind) (item : ℕ) (key : Key) (cells : List Cell) (groups : List Group) (values : List ℤ) → map told cells ≡ map told_by groups →
    AreToldIn kind item key groups values → AreToldAt kind item key cells values
told_at kind item key [] groups values e h = tt
told_at kind item key (cell ∷ cells) [] values e h = absurd (no_cells (told cell) (map told cells) (sym e))
told_at kind item key (cell ∷ cells) (group ∷ groups) values e h =
    let same = first_told cell (told_by group) (map told cells) (map told_by groups) e in (
      (λ k. subst (λ (b : Bound). Tells b (answer kind values)) (sym (bound_same item cell group same))
          (h.0 (subst (λ (t : Told). IsTrue (holds t.keys key)) same k))),
      told_at kind item key cells groups values (ap (drop 1) e) h.1,
    )

keys_same : (cells : List Cell) (groups : List Group) → map told cells ≡ map told_by groups → keys_in cells ≡ map keys_by groups
keys_same cells groups e = cell_keys cells ∙ ap (map (λ t. t.keys)) e ∙ group_keys groups

pub all_told : (kind : ItemKind) (item : ℕ) (key : Key) (cells : List (List Cell)) (parts : List (List Group)) (tables : List (List ℤ)) →
    map (map told) cells ≡ map (map told_by) parts → AreAllToldIn kind item key parts tables → AreAllToldAt kind item key cells tables
all_told kind item key [] [] [] e h = tt
all_told kind item key [] [] (values ∷ tables) e h = absurd h
all_told kind item key [] (groups ∷ parts) tables e h = absurd (no_shards (map told_by groups) (map (map told_by) parts) e)
all_told kind item key (shard ∷ cells) [] tables e h = absurd (no_shards (map told shard) (map (map told) cells) (sym e))
all_told kind item key (shard ∷ cells) (groups ∷ parts) [] e h = absurd h
all_told kind item key (shard ∷ cells) (groups ∷ parts) (values ∷ tables) e h =
    let same = first_shard (map told shard) (map told_by groups) (map (map told) cells) (map (map told_by) parts) e in
    let keys = sym (keys_same shard groups same) in (
      record {
        one_keys = subst AreOneKeys keys h.0.one_keys;
        apart = subst AreApart keys h.0.apart;
        told = told_at kind item key shard groups values same h.0.told;
        missing = λ f. h.0.missing (sym (has_same key shard groups same) ∙ f);
      },
      all_told kind item key cells parts tables (ap (drop 1) e) h.1,
    )

-- ---- averages

average_told : (o : Option ItemBound) → cells.average_by o ≡ average_by (option_map said_of o)
average_told None = refl
average_told (Some (code.Value bound)) = refl
average_told (Some (code.Average bound)) = refl

average_same : (item : ℕ) (cell : Cell) (group : Group) → told cell ≡ told_by group → average_at item cell ≡ average_in item group
average_same item cell group e =
    average_told (slice_get cell.items item) ∙ ap average_by (sym (slice_get-map said_of cell.items item))
    ∙ ap (λ (t : Told). average_by (slice_get t.items item)) e

divisible_by : (o : Option ItemBound) → IsDivisible (cells.average_by o)
divisible_by None = record { lo = omega arith; hi = omega arith }
divisible_by (Some (code.Value bound)) = record { lo = omega arith; hi = omega arith }
divisible_by (Some (code.Average bound)) = record { lo = bound.lo.divisible; hi = bound.hi.divisible }

pub are_divisible : (item : ℕ) (shard : List Cell) → AreCellsDivisible item shard
are_divisible item [] = tt
are_divisible item (cell ∷ shard) = (divisible_by (slice_get cell.items item), are_divisible item shard)

reported : (item : ℕ) (key : Key) (shard : List Cell) (groups : List Group) (values : List ℤ) → map told shard ≡ map told_by groups →
    AreReportedIn item key groups values → AreReportedAt item key shard values
reported item key [] groups values e h = tt
reported item key (cell ∷ shard) [] values e h = absurd (no_cells (told cell) (map told shard) (sym e))
reported item key (cell ∷ shard) (group ∷ groups) values e h =
    let same = first_told cell (told_by group) (map told shard) (map told_by groups) e in (
      (λ k. subst (λ (b : AverageBound). ReportsAverage b (average values)) (sym (average_same item cell group same))
          (h.0 (subst (λ (t : Told). IsTrue (holds t.keys key)) same k))),
      reported item key shard groups values (ap (drop 1) e) h.1,
    )

pub averages_certain : (item : ℕ) (key : Key) (shards : List (List Cell)) (parts : List (List Group)) (tables : List (List ℤ)) →
    map (map told) shards ≡ map (map told_by) parts → AreAveragesCertainIn item key parts tables → AreAveragesCertainAt item key shards tables
averages_certain item key [] [] [] e h = tt
averages_certain item key [] [] (values ∷ tables) e h = absurd h
averages_certain item key [] (groups ∷ parts) tables e h = absurd (no_shards (map told_by groups) (map (map told_by) parts) e)
averages_certain item key (shard ∷ shards) [] tables e h = absurd (no_shards (map told shard) (map (map told) shards) (sym e))
averages_certain item key (shard ∷ shards) (groups ∷ parts) [] e h = absurd h
averages_certain item key (shard ∷ shards) (groups ∷ parts) (values ∷ tables) e h =
    let same = first_shard (map told shard) (map told_by groups) (map (map told) shards) (map (map told_by) parts) e in (
      record {
        divisible = are_divisible item shard;
        reports = reported item key shard groups values same h.0.reports;
        missing = λ f. h.0.missing (sym (has_same key shard groups same) ∙ f);
      },
      averages_certain item key shards parts tables (ap (drop 1) e) h.1,
    )

-- what is said of an average is said by its answer, since it is divided by a number above 0
some_rows : (den : ℕ) → 0 < den → max den 1 ≡ den
some_rows zero h = absurd (omega (arith, h))
some_rows (suc den) h = omega arith

average_kept : (form : Option EndsForm) (bound : bounds.AverageBound) → said_by (answer_in form (Average (fractions_of bound))) ≡ Average (fractions_of bound)
average_kept form bound =
    ap (λ (n : ℕ). Average (record { null = bound.null; lo = record { num = bound.lo.num; den = n }; hi = record { num = bound.hi.num; den = max bound.hi.den 1 } }))
    (some_rows bound.lo.den bound.lo.divisible)
    ∙ ap (λ (n : ℕ). Average (record { null = bound.null; lo = record { num = bound.lo.num; den = bound.lo.den }; hi = record { num = bound.hi.num; den = n } }))
    (some_rows bound.hi.den bound.hi.divisible)

average_by_answers : (from n : ℕ) (forms : List (Option EndsForm)) (items : List ItemBound) → average_by (slice_get (map said_by (answers_from from forms (map said_of items))) n)
    ≡ average_by (slice_get (map said_of items) n)
average_by_answers from n forms [] = refl
average_by_answers from zero forms (code.Value bound ∷ items) = refl
average_by_answers from zero forms (code.Average bound ∷ items) = ap (λ (s : Said). average_by (Some s)) (average_kept (form_at from forms) bound)
average_by_answers from (suc n) forms (item ∷ items) = average_by_answers (from + 1) n forms items

pub shown_average : (columns items : List (Option EndsForm)) (texts : List Span → List (Option TextAnswer)) (kinds : List ItemKind) (shards : List (List Cell)) (lines : List Cell) (line : Cell) (item : ℕ) →
    IsCellOf line lines → AreLinesOver kinds shards lines → slice_get kinds item ≡ Some Avg →
    average_in item (group_in columns items texts (told line)) ≡ average_over item line.keys shards
shown_average columns items texts kinds shards lines line item is over at =
    let said = ap (λ (s : List Said). slice_get s item) (over_of kinds shards lines line is over)
    ∙ said_at 0 item item kinds Avg line.keys shards (omega arith) at in
    average_by_answers 0 item items line.items ∙ ap average_by said

averages_told_at : (item : ℕ) (key : Key) (shard : List Cell) (groups : List Group) (values : List ℤ) → map told shard ≡ map told_by groups →
    AreAveragesToldIn item key groups values → AreAveragesToldAt item key shard values
averages_told_at item key [] groups values e h = tt
averages_told_at item key (cell ∷ shard) [] values e h = absurd (no_cells (told cell) (map told shard) (sym e))
averages_told_at item key (cell ∷ shard) (group ∷ groups) values e h =
    let same = first_told cell (told_by group) (map told shard) (map told_by groups) e in (
      (λ k. subst (λ (b : AverageBound). TellsAverage b (average values)) (sym (average_same item cell group same))
          (h.0 (subst (λ (t : Told). IsTrue (holds t.keys key)) same k))),
      averages_told_at item key shard groups values (ap (drop 1) e) h.1,
    )

pub averages_told : (item : ℕ) (key : Key) (shards : List (List Cell)) (parts : List (List Group)) (tables : List (List ℤ)) →
    map (map told) shards ≡ map (map told_by) parts → AreAllAveragesToldIn item key parts tables → AreAllAveragesToldAt item key shards tables
averages_told item key [] [] [] e h = tt
averages_told item key [] [] (values ∷ tables) e h = absurd h
averages_told item key [] (groups ∷ parts) tables e h = absurd (no_shards (map told_by groups) (map (map told_by) parts) e)
averages_told item key (shard ∷ shards) [] tables e h = absurd (no_shards (map told shard) (map (map told) shards) (sym e))
averages_told item key (shard ∷ shards) (groups ∷ parts) [] e h = absurd h
averages_told item key (shard ∷ shards) (groups ∷ parts) (values ∷ tables) e h =
    let same = first_shard (map told shard) (map told_by groups) (map (map told) shards) (map (map told_by) parts) e in
    let keys = sym (keys_same shard groups same) in (
      record {
        one_keys = subst AreOneKeys keys h.0.one_keys;
        apart = subst AreApart keys h.0.apart;
        told = averages_told_at item key shard groups values same h.0.told;
        missing = λ f. h.0.missing (sym (has_same key shard groups same) ∙ f);
      },
      averages_told item key shards parts tables (ap (drop 1) e) h.1,
    )
