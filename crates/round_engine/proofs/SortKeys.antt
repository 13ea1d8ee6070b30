-- Whether the keys of the first rows are near.
use Rattle.std.proofs.Common.{◌≡◌, ◌≢◌, ℕ, zero, suc, ◌+◌, ◌-◌, ◌*◌, ◌<◌, ◌≤◌, min, Bool, true, false, not, ◌&&◌, ◌||◌, nat_eq, List, [], ◌∷◌, length, map, count_by, take, drop, get_or, IsTrue, inl, inr, refl, sym, ap, subst, ◌∙◌, arith}
use Rattle.std.specs.List.{list_all, range_with_len}
use Rattle.std.proofs.Math.Path.{fun_ext}
use Rattle.std.proofs.lemmas.Bool.{cases_Bool, eqb-true, eqb-false}
use Rattle.std.proofs.Math.Bool.{or-true}
use Rattle.std.proofs.lemmas.List.{get_or-drop, get_or-map, get_or-take}
use Rattle.std.proofs.lemmas.List.FromFn.{get_or-map-range_with_len}
use Rattle.daq_table.specs.Tables.{rows_of}
use Rattle.known_column.specs.KnownTables.{KnownTable}
use Rattle.plane_kernels.specs.Rows.{bits_of}
use Rattle.plane_schedule.specs.declared.policy.Nearness.{Nearness}
use Rattle.query_model.specs.declared.bounds.Standing.{Standing}
use Rattle.query_model.specs.declared.bounds.Standing.TheVariants.{Certain, Possible, Excluded}
use Rattle.query_model.specs.declared.query.Shape.{Shape}
use Rattle.query_model.specs.declared.query.Shape.TheVariants.{Top}
use Rattle.query_model.specs.Knowledge.{ranges_of}
use Rattle.query_model.specs.Ranking.{standing_under}
use Rattle.query_model.specs.Queries.{Query}
use Rattle.query_model.specs.Truths.{Range}
use Rattle.topk_bounds.specs.Standings as standings
use Rattle.round_engine.specs.declared.ranking.Ranking.{Ranking}
use Rattle.round_engine.specs.Engines.{stage_of}
use Rattle.round_engine.specs.Narrowness.{is_narrow, is_narrow_form, is_near_key, is_near_row}
use Rattle.round_engine.specs.Rankings.{AreKeysNear, HasFarKey, IsOver, IsRanking, is_key_near}
use Rattle.round_engine.specs.Stages.{IsOpenShape, IsOpenStage, Stage}
use Rattle.round_engine.proofs.CellNarrow.{not_all_cells}
use Rattle.round_engine.proofs.RankedRows.{none_is_possible}

-- ---- a block of rows

no_bits : (n i : ℕ) → get_or (bits_of n 0) i false ≡ false
no_bits zero i = refl
no_bits (suc n) zero = refl
no_bits (suc n) (suc i) = no_bits n i

-- where a word of the mask of first rows is 0, none of its rows has a far key
pub block_of_none : (width : ℕ) (columns : KnownTable) (ranking : Ranking) (mask : List Bool) (block word : ℕ) → IsOver columns ranking →
    mask ≡ map standings.is_certain ranking.top.standings →
    bits_of (min 64 (length mask - 64 * block)) word ≡ take 64 (drop (64 * block) mask) → word ≡ 0 →
    AreKeysNear width columns ranking (64 * block) (min (64 * block + 64) columns.frame.rows)
block_of_none width columns ranking mask block word over is bits none r above below =
    let i = r - 64 * block in
    let there : 64 * block + i ≡ r = omega (arith, above) in
    let in_block : i < 64 = omega (arith, above, below) in
    let inside : r < length ranking.top.standings = omega (arith, below, over.rows) in
    let in_word : get_or (take 64 (drop (64 * block) mask)) i false ≡ get_or mask r false =
    get_or-take 64 (drop (64 * block) mask) i false in_block ∙ get_or-drop (64 * block) mask i false ∙ ap (λ (k : ℕ). get_or mask k false) there in
    let of_row : get_or mask r false ≡ standings.is_certain (get_or ranking.top.standings r Excluded) =
    ap (λ (l : List Bool). get_or l r false) is ∙ get_or-map standings.is_certain ranking.top.standings r Excluded false inside in
    let other : standings.is_certain (get_or ranking.top.standings r Excluded) ≡ false =
    sym of_row ∙ sym in_word ∙ ap (λ (l : List Bool). get_or l i false) (sym bits)
    ∙ ap (λ (w : ℕ). get_or (bits_of (min 64 (length mask - 64 * block)) w) i false) none ∙ no_bits (min 64 (length mask - 64 * block)) i in
    ap (λ b. not b || is_near_key width (ranges_of columns.frame columns.known r ranking.key)) other

pub one_more : (width : ℕ) (columns : KnownTable) (ranking : Ranking) (first row : ℕ) → AreKeysNear width columns ranking first row → IsTrue (is_key_near width columns ranking row) →
    AreKeysNear width columns ranking first (row + 1)
one_more width columns ranking first row before here r above below = elim (cases_Bool (nat_eq r row)) [
  | inl t ↦ subst (λ k. IsTrue (is_key_near width columns ranking k)) (sym (eqb-true r row t)) here
  | inr f ↦ before r above (omega (arith, below, eqb-false r row f))
]

-- ---- all rows

all_below : (p : ℕ → Bool) (first n : ℕ) → ((r : ℕ) → first ≤ r → r < first + n → IsTrue (p r)) → list_all p (range_with_len first n) ≡ true
all_below p first zero each = refl
all_below p first (suc n) each =
    ap (λ b. b && list_all p (range_with_len (first + 1) n)) (each first (omega arith) (omega arith))
    ∙ all_below p (first + 1) n (λ r above below. each r (omega (arith, above)) (omega (arith, below)))

pub all_near : (width : ℕ) (columns : KnownTable) (ranking : Ranking) (last : ℕ) → AreKeysNear width columns ranking 0 last → columns.frame.rows ≤ last →
    list_all (is_key_near width columns ranking) (rows_of columns.frame) ≡ true
all_near width columns ranking last near whole =
    all_below (is_key_near width columns ranking) 0 columns.frame.rows (λ r above below. near r above (omega (arith, below, whole)))

pub not_all_near : (width : ℕ) (columns : KnownTable) (ranking : Ranking) → HasFarKey width columns ranking →
    list_all (is_key_near width columns ranking) (rows_of columns.frame) ≡ false
not_all_near width columns ranking far = not_all_cells (is_key_near width columns ranking) far.row columns.frame.rows far.inside far.far

-- ---- when a ranking is narrow

-- a row is settled where it is not possible and, if it is certain and keys are answers too, its key is near
in_parts : (near : Nearness) (key : Range) (standing : Standing) →
    is_near_row near key standing ≡ (not (standings.is_possible standing) && (not near.keys || (not (standings.is_certain standing) || is_near_key near.width key)))
in_parts near key Certain = refl
in_parts near key Possible = refl
in_parts near key Excluded = sym (or-true (not near.keys))

mix : (p ps c q qs : Bool) → ((p && (c || q)) && (ps && (c || qs))) ≡ ((p && ps) && (c || (q && qs)))
mix false ps c q qs = refl
mix true ps true q qs = refl
mix true ps false true qs = refl
mix true true false false qs = refl
mix true false false false qs = refl

parts : (c : Bool) (p q : ℕ → Bool) (xs : List ℕ) → list_all (λ x. p x && (c || q x)) xs ≡ (list_all p xs && (c || list_all q xs))
parts c p q [] = sym (or-true c)
parts c p q (x ∷ xs) = ap (λ b. (p x && (c || q x)) && b) (parts c p q xs) ∙ mix (p x) (list_all p xs) c (q x) (list_all q xs)

all_alike : (p q : ℕ → Bool) (first n : ℕ) → ((r : ℕ) → first ≤ r → r < first + n → p r ≡ q r) → list_all p (range_with_len first n) ≡ list_all q (range_with_len first n)
all_alike p q first zero each = refl
all_alike p q first (suc n) each =
    ap (λ b. b && list_all p (range_with_len (first + 1) n)) (each first (omega arith) (omega arith))
    ∙ ap (λ b. q first && b) (all_alike p q (first + 1) n (λ r above below. each r (omega (arith, above)) (omega (arith, below))))

-- it is where no row is possible and, if keys are answers too, each key of a row that is certain is near
pub narrow_ranking : (near : Nearness) (query : Query) (columns : KnownTable) (ranking : Ranking) (mask : List Bool) (count : ℕ) → IsRanking (stage_of query columns) ranking →
    mask ≡ map standings.is_possible ranking.top.standings → count ≡ count_by (λ b. b) mask →
    is_narrow near (stage_of query columns) ≡ (nat_eq count 0 && (not near.keys || list_all (is_key_near near.width columns ranking) (rows_of columns.frame)))
narrow_ranking near query columns ranking mask count is told counted =
    let stage = stage_of query columns in
    let f : ℕ → Standing = standing_under query columns.frame columns.known in
    let key : ℕ → Range = λ r. ranges_of columns.frame columns.known r ranking.key in
    let close : ℕ → Bool = λ r. not (standings.is_certain (f r)) || is_near_key near.width (key r) in
    let far : ℕ → Bool = λ r. not (standings.is_possible (f r)) in
    let same : list_all close (rows_of columns.frame) ≡ list_all (is_key_near near.width columns ranking) (rows_of columns.frame) =
    all_alike close (is_key_near near.width columns ranking) 0 columns.frame.rows (λ r above below.
    let there : get_or ranking.top.standings r Excluded ≡ f r =
    ap (λ xs. get_or xs r Excluded) is.standings ∙ get_or-map-range_with_len f 0 columns.frame.rows r r Excluded (omega (arith, below)) (omega arith) in
    sym (ap (λ s. not (standings.is_certain s) || is_near_key near.width (key r)) there)) in
    ap (is_narrow_form near stage) is.holds.order
    ∙ ap (λ (g : ℕ → Bool). list_all g (rows_of columns.frame)) (fun_ext (λ r. in_parts near (key r) (f r)))
    ∙ parts (not near.keys) far close (rows_of columns.frame)
    ∙ ap (λ b. b && (not near.keys || list_all close (rows_of columns.frame))) (sym (none_is_possible stage ranking mask count is told counted))
    ∙ ap (λ b. nat_eq count 0 && (not near.keys || b)) same

pub some_possible : (count : ℕ) (b : Bool) → count ≢ 0 → (nat_eq count 0 && b) ≡ false
some_possible count b some = elim (cases_Bool (nat_eq count 0)) [
  | inl t ↦ absurd (some (eqb-true count 0 t))
  | inr f ↦ rw f refl
]

pub not_asked : (count : ℕ) (keys all : Bool) → count ≡ 0 → not keys ≡ true → (nat_eq count 0 && (not keys || all)) ≡ not keys
not_asked count keys all none free = rw (none, free) refl

pub asked : (count : ℕ) (keys all : Bool) → count ≡ 0 → not keys ≡ false → (nat_eq count 0 && (not keys || all)) ≡ all
asked count keys all none wanted = rw (none, wanted) refl

key_inside : (stage : Stage) (shape : Shape) (key limit : ℕ) (down : Bool) → shape ≡ Top key down limit → IsOpenShape stage.frame stage.query shape → key < length stage.frame.columns
key_inside stage shape key limit down is fits = (subst (IsOpenShape stage.frame stage.query) is fits).0

pub is_over : (query : Query) (columns : KnownTable) (ranking : Ranking) → IsOpenStage (stage_of query columns) → IsRanking (stage_of query columns) ranking → IsOver columns ranking
is_over query columns ranking kept is = record {
  key = key_inside (stage_of query columns) query.shape ranking.key ranking.top.limit ranking.top.down is.holds.order kept.open_query.shape;
  rows = is.holds.rows;
}
