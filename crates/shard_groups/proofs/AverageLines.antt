-- A line contains the averages of its keys.
use Rattle.std.proofs.Common.{◌≡◌, ◌≢◌, ℕ, ℤ, Bool, true, false, List, [], ◌∷◌, ◌++◌, map, refl, sym, ap, ◌∙◌, subst, inl, inr, ◌⊎◌, if◌then◌else◌, IsTrue, Option, Some, None}
use Rattle.std.proofs.lemmas.Bool.{cases_Bool, false≢true, or_cases}
use Rattle.std.proofs.lemmas.List.{append-nil}
use Rattle.interval_calc.specs.Intervals.{Fraction}
use Rattle.query_model.specs.declared.bounds.Nullity.{Nullity}
use Rattle.query_model.specs.declared.bounds.Nullity.TheVariants.{Never, Possibly, Always}
use Rattle.query_model.specs.Answers.{average}
use Rattle.query_model.specs.Bounds.{AdmitsAverage, AverageBound}
use Rattle.shard_bounds.specs.Averages.{AreDivisible, IsDivisible, ReportsAverage, TellsAverage, is_exact}
use Rattle.shard_bounds.specs.Combined.{together}
use Rattle.shard_bounds.specs.Laws.{AreAveragesAdmitted, AreAveragesReported}
use Rattle.shard_bounds.proofs.ExactAverages.{combinations_report_averages}
use Rattle.shard_bounds.proofs.Hulls.{hull_is_null, hulls_contain, hulls_divide}
use Rattle.shard_groups.specs.declared.cells.Cell.{Cell}
use Rattle.shard_groups.specs.declared.keys.Span.{Span}
use Rattle.shard_groups.specs.Groups.{all_keys, average_at, average_share, average_share_by, cells_within, keys_in, loose_word, loosened, only, uncertain_average}
use Rattle.shard_groups.specs.Keys.{Key, holds, is_within}
use Rattle.shard_groups.specs.Laws.{AreAveragesCertainAt, AreCellsDivisible, AreReportedAt, IsAverageCertainAt, IsOneOf, LinesReportAverages, has_cell}
use Rattle.shard_groups.specs.Lines.{AreApart, AreCovered}
use Rattle.shard_groups.proofs.Contains.{AreWithin, are_within}
use Rattle.shard_groups.proofs.LineSets.{covered_back, covered_front}
use Rattle.shard_groups.proofs.Spans.{holds_more}

-- ---- loosened bounds

pub loose_null : (w : Nullity) → loose_word w ≢ Never
loose_null Never = λ e. cc
loose_null Possibly = λ e. cc
loose_null Always = λ e. cc

-- what may be NULL looks exact only where it is
reports_by : (w : Nullity) (lo hi : Fraction) (a : Option (ℤ × ℕ)) → w ≢ Never → AdmitsAverage (record { null = w; lo = lo; hi = hi }) a →
    IsTrue (is_exact (record { null = w; lo = lo; hi = hi })) → TellsAverage (record { null = w; lo = lo; hi = hi }) a
reports_by Never lo hi a n p t = absurd (n refl)
reports_by Possibly lo hi a n p t = absurd (false≢true t)
reports_by Always lo hi None n p t = refl
reports_by Always lo hi (Some x) n p t = absurd (p.0 refl)

reports : (b : AverageBound) (a : Option (ℤ × ℕ)) → b.null ≢ Never → AdmitsAverage b a → ReportsAverage b a
reports b a n p = record { admits = p; tells = λ t. reports_by b.null b.lo b.hi a n p t }

loosened_admits : (w : Nullity) (lo hi : Fraction) (a : Option (ℤ × ℕ)) → AdmitsAverage (record { null = w; lo = lo; hi = hi }) a →
    AdmitsAverage (record { null = loose_word w; lo = lo; hi = hi }) a
loosened_admits Never lo hi None p = λ e. cc
loosened_admits Never lo hi (Some x) p = ((λ e. cc), p.1, p.2)
loosened_admits Possibly lo hi None p = λ e. cc
loosened_admits Possibly lo hi (Some x) p = p
loosened_admits Always lo hi None p = p
loosened_admits Always lo hi (Some x) p = p

loosened_bound : (b : AverageBound) (a : Option (ℤ × ℕ)) → AdmitsAverage b a → AdmitsAverage (loosened b) a
loosened_bound b a p = loosened_admits b.null b.lo b.hi a p

-- and admits that there is none
loosened_none : (b : AverageBound) → AdmitsAverage (loosened b) (average [])
loosened_none b = loose_null b.null

loosened_divides : (bounds : List AverageBound) → AreDivisible bounds → AreDivisible (map loosened bounds)
loosened_divides [] d = tt
loosened_divides (b ∷ bounds) d = (record { lo = d.0.lo; hi = d.0.hi }, loosened_divides bounds d.1)

-- ---- several loosened bounds

pub uncertain_null : (bounds : List AverageBound) → (uncertain_average bounds).null ≢ Never
uncertain_null [] = λ e. cc
uncertain_null (b ∷ bounds) =
    let rest = uncertain_average bounds in
    hull_is_null (loose_word b.null) rest.null (loosened b) rest refl refl (loose_null b.null) (uncertain_null bounds)

-- ---- of some bounds one tells of the values

abbrev SomeReports : List AverageBound → Option (ℤ × ℕ) → Type 0
SomeReports [] a = ⊥
SomeReports (b ∷ bounds) a = AdmitsAverage b a ⊎ SomeReports bounds a

-- the values are those of one, and the others have none
record Spread (bounds : List AverageBound) (values : List ℤ) : Type 0 where
  pub tables : List (List ℤ)
  pub all : together tables ≡ values
  pub admitted : AreAveragesAdmitted (map loosened bounds) tables

spread_none : (bounds : List AverageBound) → Spread bounds []
spread_none [] = record { tables = []; all = refl; admitted = tt }
spread_none (b ∷ bounds) =
    let rest = spread_none bounds in
    record { tables = [] ∷ rest.tables; all = rest.all; admitted = (loosened_none b, rest.admitted) }

spread_some : (bounds : List AverageBound) (values : List ℤ) → SomeReports bounds (average values) → Spread bounds values
spread_some [] values some = absurd some
spread_some (b ∷ bounds) values (inl p) =
    let rest = spread_none bounds in
    record {
      tables = values ∷ rest.tables;
      all = ap (λ (vs : List ℤ). values ++ vs) rest.all ∙ append-nil values;
      admitted = (loosened_bound b (average values) p, rest.admitted);
    }
spread_some (b ∷ bounds) values (inr some) =
    let rest = spread_some bounds values some in
    record { tables = [] ∷ rest.tables; all = rest.all; admitted = (loosened_none b, rest.admitted) }

uncertain_reports : (bounds : List AverageBound) (values : List ℤ) → AreDivisible bounds → Spread bounds values →
    ReportsAverage (uncertain_average bounds) (average values)
uncertain_reports bounds values d spread =
    reports (uncertain_average bounds) (average values) (uncertain_null bounds)
    (subst (λ (vs : List ℤ). AdmitsAverage (uncertain_average bounds) (average vs)) spread.all
    (hulls_contain (map loosened bounds) spread.tables (loosened_divides bounds d) spread.admitted))

-- ---- the share of a shard

kept_more : (t : Bool) (item : ℕ) (key : Key) (cell : Cell) (rest : List Cell) (values : List ℤ) →
    (IsTrue (holds cell.keys key) → ReportsAverage (average_at item cell) (average values)) → AreReportedAt item key rest values →
    AreReportedAt item key (if t then cell ∷ rest else rest) values
kept_more true item key cell rest values h k = (h, k)
kept_more false item key cell rest values h k = k

kept : (item : ℕ) (key : Key) (line : List Span) (cells : List Cell) (values : List ℤ) → AreReportedAt item key cells values →
    AreReportedAt item key (cells_within line cells) values
kept item key line [] values h = tt
kept item key line (cell ∷ cells) values h =
    kept_more (is_within cell.keys line) item key cell (cells_within line cells) values h.0 (kept item key line cells values h.1)

divide_more : (t : Bool) (item : ℕ) (cell : Cell) (rest : List Cell) → IsDivisible (average_at item cell) → AreCellsDivisible item rest →
    AreCellsDivisible item (if t then cell ∷ rest else rest)
divide_more true item cell rest h k = (h, k)
divide_more false item cell rest h k = k

pub kept_divide : (item : ℕ) (line : List Span) (cells : List Cell) → AreCellsDivisible item cells → AreCellsDivisible item (cells_within line cells)
kept_divide item line [] h = tt
kept_divide item line (cell ∷ cells) h = divide_more (is_within cell.keys line) item cell (cells_within line cells) h.0 (kept_divide item line cells h.1)

pub all_divide : (item : ℕ) (cells : List Cell) → AreCellsDivisible item cells → AreDivisible (map (average_at item) cells)
all_divide item [] h = tt
all_divide item (cell ∷ cells) h = (h.0, all_divide item cells h.1)

some_more : (t : Bool) (item : ℕ) (cell : Cell) (rest : List Cell) (a : Option (ℤ × ℕ)) → IsTrue t → AdmitsAverage (average_at item cell) a →
    SomeReports (map (average_at item) (if t then cell ∷ rest else rest)) a
some_more true item cell rest a t h = inl h
some_more false item cell rest a t h = absurd (false≢true t)

some_rest : (t : Bool) (item : ℕ) (cell : Cell) (rest : List Cell) (a : Option (ℤ × ℕ)) → SomeReports (map (average_at item) rest) a →
    SomeReports (map (average_at item) (if t then cell ∷ rest else rest)) a
some_rest true item cell rest a h = inr h
some_rest false item cell rest a h = h

some_reports : (item : ℕ) (key : Key) (line : List Span) (cells : List Cell) (values : List ℤ) → AreWithin key line cells →
    AreReportedAt item key cells values → IsTrue (has_cell key cells) →
    SomeReports (map (average_at item) (cells_within line cells)) (average values)
some_reports item key line [] values within told has = absurd (false≢true has)
some_reports item key line (cell ∷ cells) values within told has =
    elim (or_cases (holds cell.keys key) (has_cell key cells) has) [
      | inl h ↦ some_more (is_within cell.keys line) item cell (cells_within line cells) (average values) (within.0 h) (told.0 h).admits
      | inr h ↦ some_rest (is_within cell.keys line) item cell (cells_within line cells) (average values)
          (some_reports item key line cells values within.1 told.1 h)
    ]

spread : (item : ℕ) (key : Key) (line : List Span) (cells : List Cell) (values : List ℤ) → AreWithin key line cells →
    IsAverageCertainAt item key cells values → Spread (map (average_at item) (cells_within line cells)) values
spread item key line cells values within certain =
    let bounds = map (average_at item) (cells_within line cells) in
    elim (cases_Bool (has_cell key cells)) [
      | inl h ↦ spread_some bounds values (some_reports item key line cells values within certain.reports h)
      | inr f ↦ subst (Spread bounds) (sym (certain.missing f)) (spread_none bounds)
    ]

by_test : (t : Bool) (item : ℕ) (key : Key) (line : List Span) (cell : Cell) (values : List ℤ) → is_within line cell.keys ≡ t → IsTrue (holds line key) →
    (IsTrue (holds cell.keys key) → ReportsAverage (average_at item cell) (average values)) →
    ReportsAverage (uncertain_average (average_at item cell ∷ [])) (average values) →
    ReportsAverage (average_share_by item (if t then Some cell else None) (cell ∷ [])) (average values)
by_test true item key line cell values e k told other = told (holds_more line cell.keys key e k)
by_test false item key line cell values e k told other = other

by_found : (item : ℕ) (key : Key) (line : List Span) (found : List Cell) (values : List ℤ) → IsTrue (holds line key) →
    AreReportedAt item key found values → ReportsAverage (uncertain_average (map (average_at item) found)) (average values) →
    ReportsAverage (average_share_by item (only line found) found) (average values)
by_found item key line [] values k told other = other
by_found item key line (cell ∷ []) values k told other = by_test (is_within line cell.keys) item key line cell values refl k told.0 other
by_found item key line (cell ∷ next ∷ cells) values k told other = other

share_reports : (item : ℕ) (key : Key) (line : List Span) (cells : List Cell) (values : List ℤ) → IsTrue (holds line key) → AreWithin key line cells →
    IsAverageCertainAt item key cells values → ReportsAverage (average_share item line cells) (average values)
share_reports item key line cells values k within certain =
    let bounds = map (average_at item) (cells_within line cells) in
    by_found item key line (cells_within line cells) values k (kept item key line cells values certain.reports)
    (uncertain_reports bounds values (all_divide item (cells_within line cells) (kept_divide item line cells certain.divisible))
    (spread item key line cells values within certain))

-- no denominator is 0
pub uncertain_divides : (bounds : List AverageBound) → AreDivisible bounds → IsDivisible (uncertain_average bounds)
uncertain_divides bounds d = hulls_divide (map loosened bounds) (loosened_divides bounds d)

divides_if : (t : Bool) (item : ℕ) (cell : Cell) → IsDivisible (average_at item cell) → IsDivisible (uncertain_average (average_at item cell ∷ [])) →
    IsDivisible (average_share_by item (if t then Some cell else None) (cell ∷ []))
divides_if true item cell p q = p
divides_if false item cell p q = q

pub share_divides : (item : ℕ) (line : List Span) (found : List Cell) → AreCellsDivisible item found → IsDivisible (average_share_by item (only line found) found)
share_divides item line [] d = uncertain_divides [] tt
share_divides item line (cell ∷ []) d = divides_if (is_within line cell.keys) item cell d.0 (uncertain_divides (average_at item cell ∷ []) (d.0, tt))
share_divides item line (cell ∷ next ∷ cells) d =
    uncertain_divides (map (average_at item) (cell ∷ next ∷ cells)) (all_divide item (cell ∷ next ∷ cells) d)

-- ---- all shards

all_report : (item : ℕ) (key : Key) (shards : List (List Cell)) (tables : List (List ℤ)) (lines : List (List Span)) (line : List Span) →
    AreApart lines → IsOneOf line lines → IsTrue (holds line key) → AreCovered (all_keys shards) lines → AreAveragesCertainAt item key shards tables →
    AreAveragesReported (map (average_share item line) shards) tables
all_report item key [] [] lines line apart one k covered certain = tt
all_report item key [] (values ∷ tables) lines line apart one k covered certain = certain
all_report item key (cells ∷ shards) [] lines line apart one k covered certain = certain
all_report item key (cells ∷ shards) (values ∷ tables) lines line apart one k covered certain = (
  share_reports item key line cells values k
      (are_within key line lines cells apart one k (covered_front (keys_in cells) (all_keys shards) lines covered)) certain.0,
  all_report item key shards tables lines line apart one k (covered_back (keys_in cells) (all_keys shards) lines covered) certain.1,
)

shares_divide : (item : ℕ) (key : Key) (line : List Span) (shards : List (List Cell)) (tables : List (List ℤ)) →
    AreAveragesCertainAt item key shards tables → AreDivisible (map (average_share item line) shards)
shares_divide item key line [] tables certain = tt
shares_divide item key line (cells ∷ shards) [] certain = absurd certain
shares_divide item key line (cells ∷ shards) (values ∷ tables) certain =
    (share_divides item line (cells_within line cells) (kept_divide item line cells certain.0.divisible), shares_divide item key line shards tables certain.1)

pub lines_report_averages : LinesReportAverages
lines_report_averages item key shards tables lines line are one k certain =
    combinations_report_averages (map (average_share item line) shards) tables (shares_divide item key line shards tables certain)
    (all_report item key shards tables lines line are.apart one k are.covered certain)
