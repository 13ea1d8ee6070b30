-- Prefixes out of the digits of numbers and the rows that may have one.
use Rattle.std.proofs.Common.{◌≡◌, ℕ, zero, suc, ◌+◌, ◌-◌, ◌*◌, ◌^◌, ◌≤◌, min, nat_le, Bool, true, false, List, [], ◌∷◌, All, length, map, take, drop, cond, Some, refl, ap, sym, subst, ◌∙◌, arith}
use Rattle.std.specs.Simd.Lanes.{zip2}
use Rattle.std.proofs.lemmas.Bool.Decides.{nat_tests}
use Rattle.std.specs.List.{take-map, drop-map}
use Rattle.std.proofs.lemmas.List.{length-map}
use Rattle.std.proofs.lemmas.List.Elements.{All-take, All-drop}
use Rattle.plane_kernels.specs.Rows.{bits_of}
use Rattle.daq_table.specs.declared.head.Ends.{Ends}
use Rattle.daq_table.specs.Tables.{planes as planes_of, spread, width}
use Rattle.query_model.specs.Knowledge.{IsLegal, is_legal, prefix_of}
use Rattle.known_column.specs.Columns.{KnownColumn, is_possible, number_of, rows_of_column, rows_where}
use Rattle.known_column.specs.Columns.{block_rows}
use Rattle.known_column.specs.RowBlocks.{IsKeptBlock, IsKnownColumn}
use Rattle.known_column.proofs.BlockSteps.{take-bits_of}
use Rattle.known_column.proofs.MarkSteps.{by_numbers}
use Rattle.known_column.proofs.Nulls.{possible_row}
use Rattle.known_column.proofs.Steps.{legal_by}

-- a prefix is that of a number where it is not below the first, else 0
joined_by : (nullable : Bool) (f t p : ℕ) → legal_by nullable 0 f t p ≡ true → cond (nat_le f p) (f + (p - f)) 0 ≡ p
joined_by true f t p legal = grind (arith, nat_tests)
joined_by false f t p legal = grind (arith, nat_tests)

pub joined_row : (ends : Ends) (read p : ℕ) → read ≤ planes_of ends → is_legal ends read p ≡ true → cond (is_possible ends read p) (prefix_of ends read (Some 0) + number_of ends read p) 0 ≡ p
joined_row ends read p h legal =
    let f = prefix_of ends read (Some 0) in
    let t = prefix_of ends read (Some (spread ends)) in
    ap (λ b. cond b (f + (p - f)) 0) (sym (possible_row ends read p h legal)) ∙ joined_by ends.nullable f t p (sym (by_numbers ends read p) ∙ legal)

joined_rows : (ends : Ends) (read : ℕ) (ps : List ℕ) → read ≤ planes_of ends → All (IsLegal ends read) ps →
    zip2 (λ number bit. cond bit (prefix_of ends read (Some 0) + number) 0) (map (number_of ends read) ps) (map (is_possible ends read) ps) ≡ ps
joined_rows ends read [] h legal = refl
joined_rows ends read (p ∷ ps) h legal =
    ap (λ q. q ∷ zip2 (λ number bit. cond bit (prefix_of ends read (Some 0) + number) 0) (map (number_of ends read) ps) (map (is_possible ends read) ps)) (joined_row ends read p h (legal 0 0 (omega arith)))
    ∙ ap (λ l. p ∷ l) (joined_rows ends read ps h (λ k d below. legal (suc k) d (omega arith)))

-- the prefixes of a block are legal
pub legal_block : (column : KnownColumn) (block : ℕ) → IsKnownColumn column → All (IsLegal column.ends column.known.read) (block_rows block column.known.prefixes)
legal_block column block known =
    All-take (IsLegal column.ends column.known.read) 64 (drop (64 * block) column.known.prefixes) (All-drop (IsLegal column.ends column.known.read) (64 * block) column.known.prefixes known.legal)

pub take-zip2 : {X Y Z : Type 0} (f : X → Y → Z) (n : ℕ) (xs : List X) (ys : List Y) → take n (zip2 f xs ys) ≡ zip2 f (take n xs) (take n ys)
take-zip2 f zero xs ys = refl
take-zip2 f (suc n) [] ys = refl
take-zip2 f (suc n) (x ∷ xs) [] = refl
take-zip2 f (suc n) (x ∷ xs) (y ∷ ys) = ap (λ l. f x y ∷ l) (take-zip2 f n xs ys)

-- the prefixes of a block of a column, out of its numbers and a word of the mask of those that may have one
pub joined_block : (column : KnownColumn) (block word : ℕ) (numbers : List ℕ) (mask : List Bool) → IsKnownColumn column →
    take (min 64 (rows_of_column column - 64 * block)) numbers ≡ map (number_of column.ends column.known.read) (block_rows block column.known.prefixes) →
    mask ≡ rows_where is_possible column → bits_of (min 64 (length mask - 64 * block)) word ≡ block_rows block mask →
    take (min 64 (rows_of_column column - 64 * block)) (zip2 (λ number bit. cond bit (prefix_of column.ends column.known.read (Some 0) + number) 0) numbers (bits_of 64 word)) ≡ block_rows block column.known.prefixes
joined_block column block word numbers mask known is marks bits =
    let ends = column.ends in
    let read = column.known.read in
    let ps = column.known.prefixes in
    let count = min 64 (length ps - 64 * block) in
    let join : ℕ → Bool → ℕ = λ number bit. cond bit (prefix_of ends read (Some 0) + number) 0 in
    let long : length mask ≡ length ps = ap length marks ∙ length-map ps (is_possible ends read) in
    let part : block_rows block mask ≡ map (is_possible ends read) (block_rows block ps) =
    ap (block_rows block) marks ∙ ap (take 64) (drop-map (is_possible ends read) (64 * block) ps) ∙ take-map (is_possible ends read) 64 (drop (64 * block) ps) in
    let possible : bits_of count word ≡ map (is_possible ends read) (block_rows block ps) = ap (λ n. bits_of (min 64 (n - 64 * block)) word) (sym long) ∙ bits ∙ part in
    take-zip2 join count numbers (bits_of 64 word) ∙ ap (λ l. zip2 join l (take count (bits_of 64 word))) is
    ∙ ap (zip2 join (map (number_of ends read) (block_rows block ps))) (take-bits_of count 64 word (omega arith) ∙ possible) ∙ joined_rows ends read (block_rows block ps) known.some_read (legal_block column block known)

-- ---- what a block keeps

pub same_column : (ends other : Ends) (read reads : ℕ) (ps qs : List ℕ) → ends ≡ other → read ≡ reads → ps ≡ qs →
    (let column : KnownColumn = record { ends = ends; known = record { read = read; prefixes = ps } } in column) ≡ record { ends = other; known = record { read = reads; prefixes = qs } }
same_column ends other read reads ps qs e f g = cc

pub kept_block : (column : KnownColumn) (block : ℕ) (ends : Ends) (digits read rows least : ℕ) (prefixes : List ℕ) → IsKnownColumn column → ends ≡ column.ends → digits ≡ width column.ends → digits ≤ 64 → read ≡ column.known.read → rows ≤ 64 → least ≤ 2 ^ 64 →
    take rows prefixes ≡ block_rows block column.known.prefixes → IsKeptBlock ends digits read rows least prefixes
kept_block column block ends digits read rows least prefixes known e w few r most low is = record {
  digits = w ∙ ap width (sym e);
  few_digits = few;
  some_read = subst (λ n. n ≤ planes_of ends) (sym r) (subst (λ d. column.known.read ≤ planes_of d) (sym e) known.some_read);
  few_rows = most;
  few_codes = low;
  legal = subst (λ d. All (IsLegal d read) (take rows prefixes)) (sym e) (subst (λ n. All (IsLegal column.ends n) (take rows prefixes)) (sym r) (subst (All (IsLegal column.ends column.known.read)) (sym is) (legal_block column block known)));
}
