-- That a combined report is certain of all rows together, where each part's report is certain of its own.
use Rattle.std.proofs.Common.{◌≡◌, ◌≢◌, ℕ, zero, suc, ◌+◌, ◌-◌, ◌<◌, min, ℤ, true, List, [], ◌∷◌, length, map, get_or, slice_get, Some, None, Option, is_some, refl, sym, ap, subst, ◌∙◌, inl, inr, arith}
use Rattle.std.proofs.lemmas.Int.{ints}
use Rattle.std.proofs.lemmas.Option.{none-some}
use Rattle.query_model.specs.Bounds.{AverageBound, IsNested, IsNestedAverage}
use Rattle.query_model.specs.declared.bounds.Bound.{Bound}
use Rattle.query_model.specs.declared.query.ItemKind.{ItemKind}
use Rattle.query_model.specs.declared.query.ItemKind.TheVariants.{Count, Sum, Min, Max, Avg}
use Rattle.shard_bounds.specs.Combined.{AreBoundsOf}
use Rattle.shard_bounds.specs.Laws.{AreAdmitted, AreAveragesAdmitted, AreAveragesReported, AreNested, AreNestedAverages, AreNestedReports, AveragesNest, HullsContain, HullsNest, IsNestedReport}
use Rattle.shard_bounds.specs.Laws.{CombinationsContain, CombinationsNest, CombinationsReportAverages, CombinationsTell, CombinationsTellAverages}
use Rattle.shard_bounds.proofs.EqualEnds.{nested-refl}
use Rattle.query_kinds.specs.declared.beside.Beside.{Beside}
use Rattle.query_kinds.specs.declared.rows.FirstRows.{FirstRows}
use Rattle.report_text.specs.declared.answers.Answer.{Answer}
use Rattle.report_text.specs.declared.answers.Answer.TheVariants.{Average, Value}
use Rattle.report_text.specs.declared.bounds.ShownBound.{ShownBound}
use Rattle.report_parts.proofs.FromRounds.{cases_lt}
use Rattle.report_parts.proofs.Certain.{all_divisible, averages, contain, nest, tell}
use Rattle.report_parts.specs.Beside.{answer_beside, entries_beside, entries_by, entry_by}
use Rattle.report_parts.specs.Blocks.{entries_of, no_block}
use Rattle.report_parts.specs.Combined.{answer_over, average_of, bound_of, entry_over, extra_of_all, extra_over}
use Rattle.report_parts.specs.Entries.{answers_of, entry_at, extras_of, have_extras, or_no_answer}
use Rattle.report_parts.specs.Headline.{AreCertainAverages, AreCertainBlocks, AreClippedOf, AreExactOf, AverageNests, DoAveragesNest, IsCertainOver, IsClippedOf, IsExactOf, IsOfTotals, OfEach, extra_at, printed_in}
use Rattle.report_parts.specs.Headline.{CombinedAveragesAreCertain, CombinedClipsAreCertain, CombinedExactAveragesAreCertain, CombinedIsCertain}
use Rattle.report_parts.specs.Reports.{block_beside, block_by, entries_over}
use Rattle.report_parts.specs.Rounds.{answers_in, entries_in, entry_in, extras_in}
use Rattle.report_parts.specs.Told.{Told}
use Rattle.report_parts.specs.declared.entry.Entry.{Entry}
use Rattle.report_parts.specs.declared.shape.Shape.{Shape}

-- ---- what is printed

printed_from : (round item from : ℕ) (kinds : List ItemKind) (kind : ItemKind) (parts : List Told) → slice_get kinds item ≡ Some kind →
    slice_get (entries_over round from kinds parts) item ≡ Some (entry_over kind (entries_in round (from + item) parts))
printed_from round item from [] kind parts e = absurd (none-some _ e)
printed_from round zero from (first ∷ kinds) kind parts e =
    let same : first ≡ kind = cc in
    let here : from ≡ from + 0 = omega arith in
    ap (λ (k : ItemKind). Some (entry_over k (entries_in round from parts))) same
    ∙ ap (λ (n : ℕ). Some (entry_over kind (entries_in round n parts))) here
printed_from round (suc item) from (first ∷ kinds) kind parts e =
    let next : from + 1 + item ≡ from + suc item = omega arith in
    printed_from round item (from + 1) kinds kind parts e
    ∙ ap (λ (n : ℕ). Some (entry_over kind (entries_in round n parts))) next

pub printed_first : (round item : ℕ) (kinds : List ItemKind) (kind : ItemKind) (parts : List Told) → slice_get kinds item ≡ Some kind →
    slice_get (entries_over round 0 kinds parts) item ≡ Some (entry_over kind (entries_in round item parts))
printed_first round item kinds kind parts e =
    let here : 0 + item ≡ item = omega arith in
    printed_from round item 0 kinds kind parts e ∙ ap (λ (n : ℕ). Some (entry_over kind (entries_in round n parts))) here

-- what stands beside an item leaves its line behind as it is, and each answer that is no average
pub extra_stays : (block : List Entry) (beside : Option Beside) (entry : Entry) → (entry_by block beside entry).extra ≡ entry.extra
extra_stays block None entry = refl
extra_stays block (Some beside) entry = refl

pub value_stays : (sum count : Answer) (shown : ShownBound) → answer_beside sum count (Value shown) ≡ Value shown
value_stays (Value sum) (Value count) shown = refl
value_stays (Value sum) (Average count) shown = refl
value_stays (Average sum) count shown = refl

pub answer_stays : (block : List Entry) (beside : Option Beside) (kind : ItemKind) (entries : List Entry) → kind ≢ Avg →
    (entry_by block beside (entry_over kind entries)).answer ≡ answer_over kind (answers_of entries)
answer_stays block None kind entries other = refl
answer_stays block (Some beside) Count entries other = value_stays _ _ _
answer_stays block (Some beside) Sum entries other = value_stays _ _ _
answer_stays block (Some beside) Min entries other = value_stays _ _ _
answer_stays block (Some beside) Max entries other = value_stays _ _ _
answer_stays block (Some beside) Avg entries other = absurd (other refl)

printed_by : (block : List Entry) (besides : List (Option Beside)) (from item : ℕ) (entries : List Entry) (entry : Entry) → slice_get entries item ≡ Some entry →
    slice_get (entries_by block besides from entries) item ≡ Some (entry_by block (get_or besides (from + item) None) entry)
printed_by block besides from item [] entry e = absurd (none-some _ e)
printed_by block besides from zero (first ∷ entries) entry e =
    let same : first ≡ entry = cc in
    let here : from ≡ from + 0 = omega arith in
    ap (λ (x : Entry). Some (entry_by block (get_or besides from None) x)) same
    ∙ ap (λ (n : ℕ). Some (entry_by block (get_or besides n None) entry)) here
printed_by block besides from (suc item) (first ∷ entries) entry e =
    let next : from + 1 + item ≡ from + suc item = omega arith in
    printed_by block besides (from + 1) item entries entry e
    ∙ ap (λ (n : ℕ). Some (entry_by block (get_or besides n None) entry)) next

-- what is said of an item in a round, where this stands beside it
abbrev pub said_in : Option Beside → ℕ → ℕ → ItemKind → List ItemKind → List Told → Entry
said_in beside round item kind kinds parts = entry_by (entries_over round 0 kinds parts) beside (entry_over kind (entries_in round item parts))

-- what is printed of totals
printed_totals : (round : ℕ) (shape : Shape) (parts : List Told) → IsOfTotals shape →
    printed_in round shape parts ≡ entries_beside shape.besides (entries_over round 0 shape.kinds parts)
printed_totals round shape parts totals =
    ap (λ (columns : ℕ). entries_of (block_beside shape.besides (block_by columns shape.rows round shape.kinds parts))) totals.no_groups
    ∙ ap (λ (rows : Option FirstRows). entries_of (block_beside shape.besides (block_by 0 rows round shape.kinds parts))) totals.no_rows

pub printed_item : (round item : ℕ) (shape : Shape) (kind : ItemKind) (parts : List Told) → IsOfTotals shape → slice_get shape.kinds item ≡ Some kind →
    slice_get (printed_in round shape parts) item ≡ Some (said_in (get_or shape.besides item None) round item kind shape.kinds parts)
printed_item round item shape kind parts totals e =
    let here : 0 + item ≡ item = omega arith in
    let block = entries_over round 0 shape.kinds parts in
    ap (λ (entries : List Entry). slice_get entries item) (printed_totals round shape parts totals)
    ∙ printed_by block shape.besides 0 item block (entry_over kind (entries_in round item parts)) (printed_first round item shape.kinds kind parts e)
    ∙ ap (λ (n : ℕ). Some (entry_by block (get_or shape.besides n None) (entry_over kind (entries_in round item parts)))) here

-- ---- each part in a round

pub last_below : (round count : ℕ) → 0 < count → min round (count - 1) < count
last_below round count some = omega (arith, some)

-- a way to read what blocks say of an item
abbrev Reading : Type 0
Reading = Entry → Answer

-- what a block says by that reading
abbrev read_at : {A : Type 0} → (Entry → A) → ℕ → Told → ℕ → A
read_at reads item told block = reads (entry_at item (entries_of (get_or told.blocks block no_block)))

abbrev read_in : {A : Type 0} → (Entry → A) → ℕ → ℕ → Told → A
read_in reads round item told = reads (entry_in round item told)

abbrev all_in : Reading → ℕ → ℕ → List Told → List Answer
all_in reads round item parts = map reads (entries_in round item parts)

abbrev AreCertainBy : Reading → ℕ → ItemKind → List Told → List (List ℤ) → Type 0
AreCertainBy reads item kind parts tables = OfEach (λ told values. AreCertainBlocks kind (length told.blocks) (λ block. read_at reads item told block) values) parts tables

pub admitted : (reads : Reading) (round item : ℕ) (kind : ItemKind) (parts : List Told) (tables : List (List ℤ)) → AreCertainBy reads item kind parts tables →
    AreAdmitted kind (map bound_of (all_in reads round item parts)) tables
admitted reads round item kind [] [] h = tt
admitted reads round item kind [] (values ∷ tables) h = absurd h
admitted reads round item kind (part ∷ parts) [] h = absurd h
admitted reads round item kind (part ∷ parts) (values ∷ tables) h =
    (h.0.contains (min round (length part.blocks - 1)) (last_below round (length part.blocks) h.0.some), admitted reads round item kind parts tables h.1)

bounds : (reads : Reading) (round item : ℕ) (kind : ItemKind) (parts : List Told) (tables : List (List ℤ)) → AreCertainBy reads item kind parts tables →
    AreBoundsOf kind (map bound_of (all_in reads round item parts))
bounds reads round item kind [] [] h = tt
bounds reads round item kind [] (values ∷ tables) h = absurd h
bounds reads round item kind (part ∷ parts) [] h = absurd h
bounds reads round item kind (part ∷ parts) (values ∷ tables) h =
    (h.0.is_bound (min round (length part.blocks - 1)) (last_below round (length part.blocks) h.0.some), bounds reads round item kind parts tables h.1)

stays_nested : (bound : Bound) → IsNested bound bound
stays_nested bound = record { null = λ w. w; full = λ w. w; lo = λ w. omega (arith, ints); hi = λ w. omega (arith, ints) }

-- what holds of each two neighbours among its blocks holds of what it says in a round and in the next
pub next_in : {A : Type 0} (reads : Entry → A) (R : A → A → Type 0) → ((a : A) → R a a) → (round item : ℕ) (part : Told) →
    ((block : ℕ) → block + 1 < length part.blocks → R (read_at reads item part block) (read_at reads item part (block + 1))) →
    R (read_in reads round item part) (read_in reads (round + 1) item part)
next_in reads R stays round item part h = elim (cases_lt (round + 1) (length part.blocks)) [
  | inl below ↦
      let here : min round (length part.blocks - 1) ≡ round = omega (arith, below) in
      let next : min (round + 1) (length part.blocks - 1) ≡ round + 1 = omega (arith, below) in
      subst (λ (n : ℕ). R (read_at reads item part n) (read_at reads item part (min (round + 1) (length part.blocks - 1)))) (sym here)
      (subst (λ (n : ℕ). R (read_at reads item part round) (read_at reads item part n)) (sym next) (h round below))
  | inr above ↦
      let same : min round (length part.blocks - 1) ≡ min (round + 1) (length part.blocks - 1) = omega (arith, above) in
      subst (λ (n : ℕ). R (read_in reads round item part) (read_at reads item part n)) same (stays (read_in reads round item part))
]

nested : (reads : Reading) (round item : ℕ) (kind : ItemKind) (parts : List Told) (tables : List (List ℤ)) → AreCertainBy reads item kind parts tables →
    AreNested (map bound_of (all_in reads round item parts)) (map bound_of (all_in reads (round + 1) item parts))
nested reads round item kind [] [] h = tt
nested reads round item kind [] (values ∷ tables) h = absurd h
nested reads round item kind (part ∷ parts) [] h = absurd h
nested reads round item kind (part ∷ parts) (values ∷ tables) h =
    (next_in reads (λ a b. IsNested (bound_of a) (bound_of b)) (λ a. stays_nested (bound_of a)) round item part h.0.nests, nested reads round item kind parts tables h.1)

pub certain_by : CombinationsContain → CombinationsNest → CombinationsTell → (reads : Reading) (round item : ℕ) (kind : ItemKind) (parts : List Told) (tables : List (List ℤ)) →
    kind ≢ Avg → AreCertainBy reads item kind parts tables → IsCertainOver kind (all_in reads round item parts) (all_in reads (round + 1) item parts) tables
certain_by contains nests tells reads round item kind parts tables other h = record {
  contains = contain contains kind (all_in reads round item parts) tables other (admitted reads round item kind parts tables h);
  nests = nest nests kind (all_in reads round item parts) (all_in reads (round + 1) item parts) other (bounds reads (round + 1) item kind parts tables h)
      (nested reads round item kind parts tables h);
  exact = λ told. tell tells kind (all_in reads round item parts) tables other told;
}

pub certain : CombinationsContain → CombinationsNest → CombinationsTell → CombinedIsCertain
certain contains nests tells item kind shape parts tables round totals other there h = record {
  entry = said_in (get_or shape.besides item None) round item kind shape.kinds parts;
  printed = printed_item round item shape kind parts totals there;
  is = answer_stays (entries_over round 0 shape.kinds parts) (get_or shape.besides item None) kind (entries_in round item parts) other;
  certain = certain_by contains nests tells (λ entry. entry.answer) round item kind parts tables other h;
}

-- ---- the lines behind

-- where each part's blocks have the line, each tells it in the round
shown_in : (Is : Told → List ℤ → Type 0) (round item : ℕ) (parts : List Told) (tables : List (List ℤ)) →
    ((told : Told) (values : List ℤ) → Is told values → 0 < length told.blocks) →
    ((told : Told) (values : List ℤ) → Is told values → (block : ℕ) → block < length told.blocks → is_some (extra_at block item told) ≡ true) →
    OfEach Is parts tables → have_extras (entries_in round item parts) ≡ true
shown_in Is round item [] tables some shown h = refl
shown_in Is round item (part ∷ parts) [] some shown h = absurd h
shown_in Is round item (part ∷ parts) (values ∷ tables) some shown h =
    let here = shown part values h.0 (min round (length part.blocks - 1)) (last_below round (length part.blocks) (some part values h.0)) in
    rw (here, shown_in Is round item parts tables some shown h.1) refl

-- a line behind the item is printed
pub told_behind : (kind : ItemKind) (entries : List Entry) → have_extras entries ≡ true → extra_of_all kind entries ≡ Some (extra_over kind (extras_of entries))
told_behind kind entries e = rw e refl

-- but for averages it tells what the answer would be of these answers
pub as_answers : (kind : ItemKind) (answers : List Answer) → kind ≢ Avg → extra_over kind answers ≡ answer_over kind answers
as_answers Count answers other = refl
as_answers Sum answers other = refl
as_answers Min answers other = refl
as_answers Max answers other = refl
as_answers Avg answers other = absurd (other refl)

each_certain : (item : ℕ) (kind : ItemKind) (parts : List Told) (tables : List (List ℤ)) → AreClippedOf item kind parts tables →
    AreCertainBy (λ entry. or_no_answer entry.extra) item kind parts tables
each_certain item kind [] [] h = tt
each_certain item kind [] (values ∷ tables) h = absurd h
each_certain item kind (part ∷ parts) [] h = absurd h
each_certain item kind (part ∷ parts) (values ∷ tables) h = (h.0.certain, each_certain item kind parts tables h.1)

pub clips_certain : CombinationsContain → CombinationsNest → CombinationsTell → CombinedClipsAreCertain
clips_certain contains nests tells item kind shape parts tables round totals other there h = record {
  entry = said_in (get_or shape.besides item None) round item kind shape.kinds parts;
  printed = printed_item round item shape kind parts totals there;
  is =
      extra_stays (entries_over round 0 shape.kinds parts) (get_or shape.besides item None) (entry_over kind (entries_in round item parts))
      ∙ told_behind kind (entries_in round item parts) (shown_in (IsClippedOf item kind) round item parts tables (λ t v k. k.certain.some) (λ t v k. k.shown) h)
      ∙ ap (λ (answer : Answer). Some answer) (as_answers kind (extras_in round item parts) other);
  certain = certain_by contains nests tells (λ entry. or_no_answer entry.extra) round item kind parts tables other (each_certain item kind parts tables h);
}

exact_admitted : (round item : ℕ) (parts : List Told) (tables : List (List ℤ)) → AreExactOf item parts tables →
    AreAveragesAdmitted (map average_of (extras_in round item parts)) tables
exact_admitted round item [] [] h = tt
exact_admitted round item [] (values ∷ tables) h = absurd h
exact_admitted round item (part ∷ parts) [] h = absurd h
exact_admitted round item (part ∷ parts) (values ∷ tables) h =
    (h.0.contains (min round (length part.blocks - 1)) (last_below round (length part.blocks) h.0.some), exact_admitted round item parts tables h.1)

exact_nested : (round item : ℕ) (parts : List Told) (tables : List (List ℤ)) → AreExactOf item parts tables →
    AreNestedAverages (map average_of (extras_in round item parts)) (map average_of (extras_in (round + 1) item parts))
exact_nested round item [] tables h = tt
exact_nested round item (part ∷ parts) [] h = absurd h
exact_nested round item (part ∷ parts) (values ∷ tables) h = (
  next_in (λ entry. or_no_answer entry.extra) (λ a b. IsNestedAverage (average_of a) (average_of b)) (λ a. nested-refl (average_of a)) round item part h.0.nests,
  exact_nested round item parts tables h.1,
)

pub exact_certain : HullsContain → HullsNest → CombinedExactAveragesAreCertain
exact_certain contains nests item shape parts tables round totals there h = record {
  entry = said_in (get_or shape.besides item None) round item Avg shape.kinds parts;
  printed = printed_item round item shape Avg parts totals there;
  is =
      extra_stays (entries_over round 0 shape.kinds parts) (get_or shape.besides item None) (entry_over Avg (entries_in round item parts))
      ∙ told_behind Avg (entries_in round item parts) (shown_in (IsExactOf item) round item parts tables (λ t v k. k.some) (λ t v k. k.shown) h);
  contains = contains (map average_of (extras_in round item parts)) tables (all_divisible (extras_in round item parts)) (exact_admitted round item parts tables h);
  nests = nests (map average_of (extras_in round item parts)) (map average_of (extras_in (round + 1) item parts))
      (all_divisible (extras_in round item parts)) (all_divisible (extras_in (round + 1) item parts)) (exact_nested round item parts tables h);
}

-- ---- averages

pub reported : (round item : ℕ) (parts : List Told) (tables : List (List ℤ)) → AreCertainAverages item parts tables →
    AreAveragesReported (map average_of (answers_in round item parts)) tables
reported round item [] [] h = tt
reported round item [] (values ∷ tables) h = absurd h
reported round item (part ∷ parts) [] h = absurd h
reported round item (part ∷ parts) (values ∷ tables) h =
    (h.0.reports (min round (length part.blocks - 1)) (last_below round (length part.blocks) h.0.some), reported round item parts tables h.1)

kept_report : (bound : AverageBound) → IsNestedReport bound bound
kept_report bound = record { nested = nested-refl bound; kept = λ e. refl }

next_report : (round item : ℕ) (part : Told) → AverageNests item part →
    IsNestedReport (average_of (entry_in round item part).answer) (average_of (entry_in (round + 1) item part).answer)
next_report round item part h =
    next_in (λ entry. entry.answer) (λ a b. IsNestedReport (average_of a) (average_of b)) (λ a. kept_report (average_of a)) round item part h

pub next_reports : (round item : ℕ) (parts : List Told) → DoAveragesNest item parts →
    AreNestedReports (map average_of (answers_in round item parts)) (map average_of (answers_in (round + 1) item parts))
next_reports round item [] h = tt
next_reports round item (part ∷ parts) h = (next_report round item part h.0, next_reports round item parts h.1)

pub averages_certain : CombinationsReportAverages → AveragesNest → CombinationsTellAverages → CombinedAveragesAreCertain
averages_certain law narrow tells item shape parts tables round totals there none h = record {
  entry = entry_over Avg (entries_in round item parts);
  printed = printed_item round item shape Avg parts totals there
      ∙ ap (λ (beside : Option Beside). Some (said_in beside round item Avg shape.kinds parts)) none;
  is = refl;
  reports = averages law (answers_in round item parts) tables (reported round item parts tables h);
  nests = λ k. narrow (map average_of (answers_in round item parts)) (map average_of (answers_in (round + 1) item parts))
      (all_divisible (answers_in round item parts)) (all_divisible (answers_in (round + 1) item parts)) (next_reports round item parts k);
  exact = λ told. tells (map average_of (answers_in round item parts)) tables told;
}
