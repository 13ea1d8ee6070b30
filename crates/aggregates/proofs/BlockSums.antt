-- Sums at the rows of a mask, by blocks of 512 rows.
use Rattle.std.proofs.Common.{◌≡◌, ℕ, ◌+◌, ◌-◌, ◌*◌, ◌<◌, ◌≤◌, min, Bool, false, ◌&&◌, List, [], ◌∷◌, ◌++◌, length, map, take, drop, get_or, count_by, sum_by, IsTrue, ap, sym, subst, ◌∙◌, arith, length-drop}
use Rattle.std.specs.Int.Bits.{bit_and}
use Rattle.std.specs.Int.Count.{ones}
use Rattle.std.specs.Simd.Lanes.{zip2}
use Rattle.std.proofs.Math.Seq.{take-add}
use Rattle.std.proofs.lemmas.List.{drop-map, get_or-drop, get_or-take, length-map, length-take, map-append, take-map, take_all}
use Rattle.plane_kernels.specs.Rows.{block_rows, rows_of, IsPadded}
use Rattle.plane_kernels.proofs.Bitwise.{and_is_bitwise, padded-zip2, rows_of-zip2}
use Rattle.plane_kernels.proofs.RowLemmas.{count-rows_of}
use Rattle.query_model.specs.Knowledge.{null_with, IsLegal}
use Rattle.query_model.specs.Truths.{may_be_number}
use Rattle.known_column.specs.Columns.{KnownColumn, rows_of_column}
use Rattle.aggregates.specs.Selections.{block_of, sum_where, IsSound}
use Rattle.aggregates.proofs.BlockWords.{row_within}
use Rattle.aggregates.proofs.EndSums.{Counts, OfColumn}

-- ---- rows of two blocks

-- the ones that words share are the rows that they share
count_words : (n : ℕ) (ws vs : List ℕ) → length vs ≡ length ws → IsPadded n ws → IsPadded n vs → sum_by ones (zip2 bit_and ws vs) ≡ count_by (λ b. b) (zip2 (λ a b. a && b) (rows_of n ws) (rows_of n vs))
count_words n ws vs e p q =
    sym (count-rows_of n (zip2 bit_and ws vs) (padded-zip2 bit_and (λ a b. a && b) and_is_bitwise n ws vs e p q))
    ∙ ap (count_by (λ b. b)) (rows_of-zip2 bit_and (λ a b. a && b) and_is_bitwise n ws vs e p q)

-- those of words and of a plane
pub count_block : (ps : List ℕ) (digit : ℕ → Bool) (block n : ℕ) (ws vs : List ℕ) (plane : List Bool) → length ws ≡ 8 → length vs ≡ 8 → IsPadded n ws → IsPadded n vs →
    rows_of n vs ≡ block_of block plane → plane ≡ map digit ps →
    sum_by ones (zip2 bit_and ws vs) ≡ count_by (λ b. b) (zip2 (λ a b. a && b) (rows_of n ws) (map digit (block_of block ps)))
count_block ps digit block n ws vs plane first second p q bits is =
    let digits : block_of block plane ≡ map digit (block_of block ps) = ap (block_of block) is ∙ ap (take 512) (drop-map digit (512 * block) ps) ∙ take-map digit 512 (drop (512 * block) ps) in
    count_words n ws vs (second ∙ sym first) p q ∙ ap (λ r. count_by (λ b. b) (zip2 (λ a b. a && b) (rows_of n ws) r)) (bits ∙ digits)

-- ---- the part of a column in a block

abbrev pub column_block : KnownColumn → ℕ → KnownColumn
column_block column block = record { ends = column.ends; known = record { read = column.known.read; prefixes = block_of block column.known.prefixes } }

length_block : {A : Type 0} (block : ℕ) (xs : List A) → length (block_of block xs) ≡ min 512 (length xs - 512 * block)
length_block block xs = length-take 512 (drop (512 * block) xs) ∙ ap (min 512) (length-drop (512 * block) xs)

get_block : {A : Type 0} (block : ℕ) (xs : List A) (i : ℕ) (d : A) → i < 512 → get_or (block_of block xs) i d ≡ get_or xs (512 * block + i) d
get_block block xs i d small = get_or-take 512 (drop (512 * block) xs) i d small ∙ get_or-drop (512 * block) xs i d

-- rows of a block
pub of_block : (column : KnownColumn) (rows : List Bool) (block : ℕ) → IsSound column → length rows ≡ block_rows (rows_of_column column) block → OfColumn (column_block column block) rows
of_block column rows block sound long =
    let ps = column.known.prefixes in
    record {
      sound = record {
        known = record {
          some_read = sound.known.some_read;
          few_rows = omega (arith, length_block block ps, sound.known.few_rows);
          legal = λ r d below. subst (IsLegal column.ends column.known.read) (sym (get_block block ps r d (omega (arith, below, length_block block ps)))) (sound.known.legal (512 * block + r) d (omega (arith, below, length_block block ps)));
        };
        digits = sound.digits;
      };
      rows = long ∙ sym (length_block block ps);
    }

-- rows of a block that may have values
pub counts_block : (column : KnownColumn) (mask : List Bool) (block : ℕ) → Counts column mask → Counts (column_block column block) (block_of block mask)
counts_block column mask block h =
    let ps = column.known.prefixes in
    let of = of_block column (block_of block mask) block h.sound (length_block block mask ∙ ap (λ n. min 512 (n - 512 * block)) h.rows) in
    record {
      sound = of.sound;
      rows = of.rows;
      values = λ row has.
          let small : row < 512 = omega (arith, row_within (block_of block mask) row has, length_block block mask) in
          subst (λ p. IsTrue (may_be_number (null_with column.ends column.known.read p))) (sym (get_block block ps row 0 small)) (h.values (512 * block + row) (sym (get_block block mask row false small) ∙ has));
    }

-- ---- all blocks

sum_parts : (mask more : List Bool) (ns others : List ℕ) → length mask ≡ length ns → sum_where (mask ++ more) (ns ++ others) ≡ sum_where mask ns + sum_where more others
sum_parts [] more [] others e = omega arith
sum_parts [] more (n ∷ ns) others e = absurd (omega (arith, e))
sum_parts (b ∷ mask) more [] others e = absurd (omega (arith, e))
sum_parts (b ∷ mask) more (n ∷ ns) others e = (let rest = sum_parts mask more ns others (omega (arith, e)) in omega (arith, rest))

abbrev pub sum_before : List Bool → List ℕ → (ℕ → ℕ) → ℕ → ℕ
sum_before mask ps f block = sum_where (take (512 * block) mask) (map f (take (512 * block) ps))

pub next_block : (mask : List Bool) (ps : List ℕ) (f : ℕ → ℕ) (block : ℕ) → length mask ≡ length ps →
    sum_before mask ps f (block + 1) ≡ sum_before mask ps f block + sum_where (block_of block mask) (map f (block_of block ps))
next_block mask ps f block long =
    let at = 512 * block in
    let next : 512 * (block + 1) ≡ at + 512 = omega arith in
    let same : length (take at mask) ≡ length (map f (take at ps)) = length-take at mask ∙ ap (min at) long ∙ sym (length-take at ps) ∙ sym (length-map (take at ps) f) in
    ap (λ n. sum_where (take n mask) (map f (take n ps))) next
    ∙ ap (λ l. sum_where l (map f (take (at + 512) ps))) (take-add at 512 mask)
    ∙ ap (λ l. sum_where (take at mask ++ block_of block mask) l) (ap (map f) (take-add at 512 ps) ∙ map-append f (take at ps) (block_of block ps))
    ∙ sum_parts (take at mask) (block_of block mask) (map f (take at ps)) (map f (block_of block ps)) same

pub all_blocks : (mask : List Bool) (ps : List ℕ) (f : ℕ → ℕ) (block : ℕ) → length mask ≡ length ps → length mask ≤ 512 * block → sum_before mask ps f block ≡ sum_where mask (map f ps)
all_blocks mask ps f block long past =
    ap (λ l. sum_where l (map f (take (512 * block) ps))) (take_all (512 * block) mask past) ∙ ap (λ l. sum_where mask (map f l)) (take_all (512 * block) ps (omega (arith, long, past)))
