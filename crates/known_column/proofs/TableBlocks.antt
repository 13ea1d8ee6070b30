-- Blocks of several columns.
use Rattle.std.proofs.Common.{◌≡◌, ℕ, zero, suc, ◌+◌, ◌-◌, ◌*◌, ◌<◌, ◌≤◌, min, List, [], ◌∷◌, length, map, take, drop, get_or, refl, ap, sym, subst, ◌∙◌, arith}
use Rattle.std.specs.List.{range_with_len}
use mathlib.Core.Path.{fun_ext}
use Rattle.std.proofs.Math.Seq.{drop-nil}
use Rattle.std.proofs.lemmas.List.{same_lists, get_or-map, get_or-take, get_or-drop, length-map, length-take, length-drop}
use Rattle.std.proofs.lemmas.List.FromFn.{get_or-map-range_with_len, length-map-range_with_len}
use Rattle.std.proofs.lemmas.Simd.{map-map}
use Rattle.daq_table.specs.Tables.{Frame, ends_at, no_ends, planes}
use Rattle.query_model.specs.Knowledge.{ColumnKnowledge, IsLegal, Knowledge, known_at, range_of}
use Rattle.known_column.specs.Columns.{KnownColumn}
use Rattle.known_column.specs.KnownTables.{IsKnownTable, KnownTable, column_at, table_of}
use Rattle.known_column.specs.Columns.{block_rows}
use Rattle.known_column.proofs.Several.{same_table}
use Rattle.known_column.specs.RowBlocks.{BlocksHaveTheirRows, block_of, block_of_column, known_block}

-- ---- rows

pub block_row : (b r : ℕ) (ps : List ℕ) → r < 64 → get_or (block_rows b ps) r 0 ≡ get_or ps (64 * b + r) 0
block_row b r ps h = get_or-take 64 (drop (64 * b) ps) r 0 h ∙ get_or-drop (64 * b) ps r 0

-- what is known of a column, also of one that is not there
known_there : (b : ℕ) (known : Knowledge) (c : ℕ) → known_at (map (known_block b) known) c ≡ known_block b (known_at known c)
known_there b [] c = ap (λ ps. let none : ColumnKnowledge = record { read = 0; prefixes = ps } in none) (sym (ap (take 64) (drop-nil (64 * b))))
known_there b (k ∷ ks) zero = refl
known_there b (k ∷ ks) (suc c) = known_there b ks c

pub rows_there : BlocksHaveTheirRows
rows_there table b r h = fun_ext (λ c.
    ap (λ (k : ColumnKnowledge). range_of (ends_at table.frame c) k.read (get_or k.prefixes r 0)) (known_there b table.known c)
    ∙ ap (range_of (ends_at table.frame c) (known_at table.known c).read) (block_row b r (known_at table.known c).prefixes h))

-- ---- columns

-- a list out of its elements
pub rebuilt : {X : Type 0} (xs : List X) (f : ℕ → X) → ((k : ℕ) (d : X) → k < length xs → f k ≡ get_or xs k d) → map f (range_with_len 0 (length xs)) ≡ xs
rebuilt xs f is = same_lists (map f (range_with_len 0 (length xs))) xs (length-map-range_with_len f 0 (length xs)) (λ k d h.
    let below : k < length xs = omega (arith, h, length-map-range_with_len f 0 (length xs)) in
    get_or-map-range_with_len f 0 (length xs) k k d below (omega arith) ∙ is k d below)

pub all_ends : (frame : Frame) → map (ends_at frame) (range_with_len 0 (length frame.columns)) ≡ frame.columns
all_ends frame = rebuilt frame.columns (ends_at frame) (λ k d h. same_read frame.columns k no_ends d h)
  where
    same_read : {X : Type 0} (xs : List X) (k : ℕ) (d e : X) → k < length xs → get_or xs k d ≡ get_or xs k e
    same_read [] k d e h = absurd (omega arith)
    same_read (x ∷ xs) zero d e h = refl
    same_read (x ∷ xs) (suc k) d e h = same_read xs k d e (omega arith)

-- the blocks of the columns are the block of the table
pub blocks_are : (table : KnownTable) (b : ℕ) → length table.known ≡ length table.frame.columns →
    table_of (min 64 (table.frame.rows - 64 * b)) (map (λ c. block_of_column (column_at table c) b) (range_with_len 0 (length table.frame.columns))) ≡ block_of table b
blocks_are table b same =
    let places = range_with_len 0 (length table.frame.columns) in
    let block : ℕ → KnownColumn = λ c. block_of_column (column_at table c) b in
    let parts = map (known_block b) table.known in
    let long : length parts ≡ length table.frame.columns = length-map table.known (known_block b) ∙ same in
    same_table _ _ _ _
    (ap (λ es. let part : Frame = record { rows = min 64 (table.frame.rows - 64 * b); columns = es } in part) (map-map (λ (k : KnownColumn). k.ends) block places ∙ all_ends table.frame))
    (map-map (λ (k : KnownColumn). k.known) block places ∙ ap (λ n. map (λ c. known_block b (known_at table.known c)) (range_with_len 0 n)) (sym long)
    ∙ rebuilt parts (λ c. known_block b (known_at table.known c)) (λ k d h.
    let below : k < length table.known = omega (arith, h, length-map table.known (known_block b)) in
    sym (get_or-map (known_block b) table.known k (record { read = 0; prefixes = [] }) d below)))

pub block_kept : (table : KnownTable) (b : ℕ) → IsKnownTable table → IsKnownTable (block_of table b)
block_kept table b kept = record {
  few_rows = omega arith;
  knowledge = record {
    columns = length-map table.known (known_block b) ∙ kept.knowledge.columns;
    read = λ c h. subst (λ (k : ColumnKnowledge). k.read ≤ planes (ends_at table.frame c)) (sym (known_there b table.known c)) (kept.knowledge.read c h);
    rows = λ c h. ap (λ (k : ColumnKnowledge). length k.prefixes) (known_there b table.known c)
        ∙ length-take 64 (drop (64 * b) (known_at table.known c).prefixes) ∙ ap (min 64) (length-drop (64 * b) (known_at table.known c).prefixes) ∙ ap (λ n. min 64 (n - 64 * b)) (kept.knowledge.rows c h);
    legal = λ c r h below.
        let within : 64 * b + r < table.frame.rows = omega arith in
        subst (λ (k : ColumnKnowledge). IsLegal (ends_at table.frame c) k.read (get_or k.prefixes r 0)) (sym (known_there b table.known c))
        (subst (IsLegal (ends_at table.frame c) (known_at table.known c).read) (sym (block_row b r (known_at table.known c).prefixes (omega arith))) (kept.knowledge.legal c (64 * b + r) h within));
  };
}
