use Rattle.std.proofs.Common.{◌≡◌, not, ◌&&◌, length, ℕ, List, Bool, ap, sym, subst, ◌∙◌, arith}
use Rattle.std.specs.Simd.Lanes.{zip2}
use Rattle.std.proofs.lemmas.Simd.{length-zip2}
use Rattle.plane_kernels.specs.Rows.{block_rows, rows_of, IsPadded}
use Rattle.plane_kernels.specs.Words.{and_not}
use Rattle.plane_kernels.proofs.Bitwise.{and_not_is_bitwise, padded-zip2, rows_of-zip2}
use Rattle.known_column.specs.Columns.{KnownColumn, rows_of_column}
use Rattle.aggregates.specs.declared.ends.End.{End}
use Rattle.aggregates.specs.declared.ends.End.TheVariants.{Low, High}
use Rattle.aggregates.specs.Widening.{widening_rows, widens, CanWiden}
use Rattle.aggregates.specs.Selections.{block_of, end_at}
use Rattle.aggregates.proofs.Widening.{block-zip2, others_may, those_others}
use Rattle.aggregates.proofs.others.others_in.Goals as goal

-- the block's rows of one mask that another has not
record AreOthers (column : KnownColumn) (may must : List Bool) (block : ℕ) (words : List ℕ) : Type 0 where
  padded : IsPadded (block_rows (rows_of_column column) block) words
  rows : rows_of (block_rows (rows_of_column column) block) words ≡ block_of block (zip2 (λ a b. a && not b) may must)

are_others : (column : KnownColumn) (may must : List Bool) (block : ℕ) (words ws vs : List ℕ) → length may ≡ rows_of_column column → length must ≡ rows_of_column column → length vs ≡ length ws →
    words ≡ zip2 and_not ws vs → IsPadded (block_rows (length may) block) ws → IsPadded (block_rows (length must) block) vs →
    rows_of (block_rows (length may) block) ws ≡ block_of block may → rows_of (block_rows (length must) block) vs ≡ block_of block must → AreOthers column may must block words
are_others column may must block words ws vs may_long must_long same is p q rows others =
    let n = block_rows (rows_of_column column) block in
    let first : IsPadded n ws = subst (λ k. IsPadded (block_rows k block) ws) may_long p in
    let second : IsPadded n vs = subst (λ k. IsPadded (block_rows k block) vs) must_long q in
    let here : rows_of n ws ≡ block_of block may = subst (λ k. rows_of (block_rows k block) ws ≡ block_of block may) may_long rows in
    let there : rows_of n vs ≡ block_of block must = subst (λ k. rows_of (block_rows k block) vs ≡ block_of block must) must_long others in
    record {
      padded = subst (IsPadded n) (sym is) (padded-zip2 and_not (λ a b. a && not b) and_not_is_bitwise n ws vs same first second);
      rows = ap (rows_of n) is ∙ rows_of-zip2 and_not (λ a b. a && not b) and_not_is_bitwise n ws vs same first second
          ∙ ap (λ l. zip2 (λ a b. a && not b) l (rows_of n vs)) here ∙ ap (zip2 (λ a b. a && not b) (block_of block may)) there ∙ sym (block-zip2 (λ a b. a && not b) block may must);
    }

pub negative_in-requires : goal.negative_in-requires
negative_in-requires c =
    let column = c.args.known.now in
    let are = are_others column c.args.may.now c.args.must.now c.args.block c.and_not_words-rows.result c.block.result c.block-2.result c.requires.may c.requires.must (omega arith) c.and_not_words-rows.ensures
    c.block.ensures.padded c.block-2.ensures.padded c.block.ensures.rows c.block-2.ensures.rows in
    record { block = c.requires.block; rows = are.padded; base = subst (λ (e : End). CanWiden e column.ends) c.in-Low.is c.requires.some }

pub returns-in-Low-clause-rows : goal.returns-in-Low-clause-rows
returns-in-Low-clause-rows c =
    let column = c.args.known.now in
    let may = c.args.may.now in
    let must = c.args.must.now in
    let same : length must ≡ length may = c.requires.must ∙ sym c.requires.may in
    let are = are_others column may must c.args.block c.and_not_words-rows.result c.block.result c.block-2.result c.requires.may c.requires.must (omega arith) c.and_not_words-rows.ensures
    c.block.ensures.padded c.block-2.ensures.padded c.block.ensures.rows c.block-2.ensures.rows in
    let within = zip2 (λ a b. a && not b) may must in
    let long : length within ≡ rows_of_column column = length-zip2 (λ a b. a && not b) may must (sym same) ∙ c.requires.may in
    c.negative_in.ensures.those within long (others_may column may must same c.requires.values) are.rows
    ∙ ap (block_of c.args.block) (those_others may must (λ row. widens Low (end_at Low column row)) same)
    ∙ ap (λ (e : End). block_of c.args.block (widening_rows e column may must)) (sym c.in-Low.is)

pub positive_in-requires : goal.positive_in-requires
positive_in-requires c =
    let column = c.args.known.now in
    let are = are_others column c.args.may.now c.args.must.now c.args.block c.and_not_words-rows.result c.block.result c.block-2.result c.requires.may c.requires.must (omega arith) c.and_not_words-rows.ensures
    c.block.ensures.padded c.block-2.ensures.padded c.block.ensures.rows c.block-2.ensures.rows in
    record { block = c.requires.block; rows = are.padded; top = subst (λ (e : End). CanWiden e column.ends) c.in-High.is c.requires.some }

pub returns-in-High-clause-rows : goal.returns-in-High-clause-rows
returns-in-High-clause-rows c =
    let column = c.args.known.now in
    let may = c.args.may.now in
    let must = c.args.must.now in
    let same : length must ≡ length may = c.requires.must ∙ sym c.requires.may in
    let are = are_others column may must c.args.block c.and_not_words-rows.result c.block.result c.block-2.result c.requires.may c.requires.must (omega arith) c.and_not_words-rows.ensures
    c.block.ensures.padded c.block-2.ensures.padded c.block.ensures.rows c.block-2.ensures.rows in
    let within = zip2 (λ a b. a && not b) may must in
    let long : length within ≡ rows_of_column column = length-zip2 (λ a b. a && not b) may must (sym same) ∙ c.requires.may in
    c.positive_in.ensures.those within long (others_may column may must same c.requires.values) are.rows
    ∙ ap (block_of c.args.block) (those_others may must (λ row. widens High (end_at High column row)) same)
    ∙ ap (λ (e : End). block_of c.args.block (widening_rows e column may must)) (sym c.in-High.is)
