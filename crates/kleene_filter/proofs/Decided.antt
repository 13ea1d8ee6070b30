-- What is decided at a row stays so.
use Rattle.std.proofs.Common.{◌≡◌, ℕ, ◌+◌, ◌-◌, ◌*◌, ◌<◌, min, true, false, List, length, map, take, drop, get_or, Bool, refl, ap, sym, ◌∙◌, arith}
use Rattle.std.specs.Simd.Lanes.{zip2}
use Rattle.std.proofs.lemmas.Bool.{false≢true, true≢false}
use Rattle.std.proofs.lemmas.List.{get_or-map}
use Rattle.std.proofs.lemmas.List.FromFn.{get_or-map-range_with_len, length-map-range_with_len}
use Rattle.plane_kernels.specs.Rows.{bits_of, digit_at}
use Rattle.query_model.specs.declared.bounds.Truth.{Truth}
use Rattle.query_model.specs.declared.bounds.Truth.TheVariants.{False, Unknown, True}
use Rattle.query_model.specs.Queries.{Condition}
use Rattle.query_model.specs.Knowledge.{CanTake, ranges_of, taken}
use Rattle.query_model.specs.Truths.{truth_from}
use Rattle.query_model.proofs.Nesting.{ranges_narrower, taken_is_knowledge, truth_refines, Refines}
use Rattle.query_model.proofs.Queries.{ranges_ordered}
use Rattle.known_column.specs.Columns.{count_in_block}
use Rattle.known_column.specs.KnownTables.{IsKnownTable, KnownTable, read_column}
use Rattle.kleene_filter.specs.Filters.{is_certain, is_possible, truth_at, truths_under, AreNested, AreRightWhereSame, HasBits, Judgement, StoodBefore}
use Rattle.kleene_filter.proofs.Parting.{mask_bit}
use Rattle.kleene_filter.proofs.TruthBits.{certain_mask, possible_mask}

same_truth : (new old : Truth) → Refines new old → is_certain old ≡ is_possible old → new ≡ old
same_truth new Unknown r e = absurd (false≢true e)
same_truth True True r e = refl
same_truth Unknown True r e = absurd (false≢true (r false tt))
same_truth False True r e = absurd (false≢true (r false refl))
same_truth True False r e = absurd (true≢false (r true refl))
same_truth Unknown False r e = absurd (true≢false (r true tt))
same_truth False False r e = refl

-- and so does a truth that is decided before a plane is read
pub stays : (pred : Condition) (before : KnownTable) (column : ℕ) (bits : List Bool) (row : ℕ) → IsKnownTable before → CanTake before.frame before.known column bits → row < before.frame.rows →
    is_certain (truth_at pred before row) ≡ is_possible (truth_at pred before row) → truth_at pred (read_column before column bits) row ≡ truth_at pred before row
stays pred before column bits row known could inside decided =
    let now = taken before.known column bits in
    same_truth (truth_at pred (read_column before column bits) row) (truth_at pred before row)
    (truth_refines pred (ranges_of before.frame now row) (ranges_of before.frame before.known row)
    (ranges_ordered before.frame now row (taken_is_knowledge before.frame before.known column bits known.knowledge could) inside)
    (ranges_narrower before.frame before.known column bits row known.knowledge could inside)) decided

-- the bit that a test gives of what is known at a row
pub bit_under : (test : Truth → Bool) (pred : Condition) (table : KnownTable) (row : ℕ) → row < table.frame.rows → get_or (map test (truths_under pred table)) row false ≡ test (truth_at pred table row)
bit_under test pred table row inside =
    get_or-map test (truths_under pred table) row Unknown false (omega (arith, length-map-range_with_len (truth_at pred table) 0 table.frame.rows, inside))
    ∙ ap test (get_or-map-range_with_len (truth_at pred table) 0 table.frame.rows row row Unknown inside (omega arith))

-- so the masks of the truths before a plane are right where they are the same
pub right_before : (filter : Judgement) (pred : Condition) (table : KnownTable) (column : ℕ) (bits must may : List Bool) → StoodBefore filter pred table column bits → AreNested must may → zip2 truth_from must may ≡ filter.truths →
    AreRightWhereSame pred table 0 must may
right_before filter pred table column bits must may stood nested view = λ row first inside same.
    let before = stood.before in
    let within : row < before.frame.rows = omega (arith, inside, ap (λ (t : KnownTable). t.frame.rows) stood.taken) in
    let must_bit : get_or must row false ≡ is_certain (truth_at pred before row) =
    ap (λ l. get_or l row false) (certain_mask must may nested ∙ ap (map is_certain) (view ∙ stood.stood.truths)) ∙ bit_under is_certain pred before row within in
    let may_bit : get_or may row false ≡ is_possible (truth_at pred before row) =
    ap (λ l. get_or l row false) (possible_mask must may nested ∙ ap (map is_possible) (view ∙ stood.stood.truths)) ∙ bit_under is_possible pred before row within in
    let now : truth_at pred table row ≡ truth_at pred before row = ap (λ (t : KnownTable). truth_at pred t row) stood.taken ∙ stays pred before column bits row stood.stood.known stood.could within (sym must_bit ∙ same ∙ may_bit) in
    record { certain = must_bit ∙ ap is_certain (sym now); possible = may_bit ∙ ap is_possible (sym now) }

-- where the words of a block are the same, all its rows are right as they are
pub right_here : (pred : Condition) (table : KnownTable) (block word other r : ℕ) (must may : List Bool) → AreRightWhereSame pred table (64 * block) must may → length must ≡ table.frame.rows → length may ≡ table.frame.rows →
    bits_of (min 64 (length must - 64 * block)) word ≡ take 64 (drop (64 * block) must) → bits_of (min 64 (length may - 64 * block)) other ≡ take 64 (drop (64 * block) may) → word ≡ other →
    r < count_in_block block table.frame.rows → HasBits pred table (64 * block + r) must may
right_here pred table block word other r must may right rows others own own' same few =
    right (64 * block + r) (omega arith) (omega arith)
    (sym (mask_bit must word block r own (omega arith) (omega arith)) ∙ ap (digit_at r) same ∙ mask_bit may other block r own' (omega arith) (omega arith))
