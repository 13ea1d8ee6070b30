-- What is kept of few cells, after the next plane of a column.
use Rattle.std.proofs.Common.{◌≡◌, ℕ, Bool, List, length, slice_get, Option, None, Some, sym, subst, ◌∙◌}
use Rattle.std.specs.Prelude.{IfSome}
use Rattle.std.proofs.lemmas.List.Elements.{All-weaker}
use Rattle.aggregates.specs.KeptSums.{MovesAnywhere}
use Rattle.aggregates.proofs.KeptSums.{still_kept}
use Rattle.known_column.specs.Columns.{KnownColumn, read_further, rows_of_column}
use Rattle.known_column.specs.KnownTables.{KnownTable, column_at}
use Rattle.known_column.proofs.Growing.{length-longer}
use Rattle.query_model.specs.Queries.{Aggregate, Column, Term}
use Rattle.round_engine.specs.declared.kept_cells.KeptCells.{KeptCells}
use Rattle.round_engine.specs.declared.kept_cells.KeptParts.{KeptParts}
use Rattle.round_engine.specs.KeptCells.{AreCellSums, AreSumsOf, HaveBlocks, HaveKeptParts, MayMove}
use Rattle.round_engine.specs.KeptSums.{columns_of}
use Rattle.round_engine.specs.Stages.{IsOpenStage, Stage, stepped}
use Rattle.round_engine.proofs.KeptProducts.{product_stay}
use Rattle.round_engine.proofs.KeptSums.{column_after, column_there}

-- ---- the column of an item

pub sums_at : (columns : KnownTable) (item : Aggregate) (sums : Option KeptCells) (c : ℕ) (known : KnownColumn) → item.arg ≡ Column c → known ≡ column_at columns c → AreSumsOf columns item sums → IfSome sums (AreCellSums known)
sums_at columns item None c known arg there are = tt
sums_at columns item (Some s) c known arg there are = subst (λ k. AreCellSums k s) (sym there) (are c arg)

pub sums_of : (columns : KnownTable) (item : Aggregate) (sums : Option KeptCells) (c : ℕ) (known : KnownColumn) → item.arg ≡ Column c → known ≡ column_at columns c → IfSome sums (AreCellSums known) → AreSumsOf columns item sums
sums_of columns item None c known arg there are = tt
sums_of columns item (Some s) c known arg there are = λ d same. subst (λ k. AreCellSums (column_at columns k) s) (column_of c d (sym arg ∙ same)) (subst (λ k. AreCellSums k s) there are)
  where
    column_of : (c d : ℕ) → ◌≡◌ {A = Term} (Column c) (Column d) → c ≡ d
    column_of c d e = cc

-- ---- after the next plane of a column

cells_stay : (column : KnownColumn) (bits : List Bool) (kept : KeptCells) → length bits ≡ rows_of_column column → AreCellSums column kept → AreCellSums (read_further column bits) kept
cells_stay column bits kept long are =
    let same : rows_of_column (read_further column bits) ≡ rows_of_column column = length-longer column.known.prefixes bits long in
    record {
      sums = All-weaker (MayMove column) (MayMove (read_further column bits))
          (λ sum may. record { is = still_kept column bits sum long may.is; moves = subst (λ n. MovesAnywhere n sum) (sym same) may.moves }) kept.sums.items are.sums;
      blocks = subst (λ n. HaveBlocks n kept.blocks) (sym same) are.blocks;
    }

sums_stay : (before : Stage) (column : ℕ) (bits : List Bool) (i : ℕ) (item : Aggregate) (sums : Option KeptCells) → IsOpenStage before → length bits ≡ before.frame.rows → slice_get before.query.items i ≡ Some item →
    AreSumsOf (columns_of before) item sums → AreSumsOf (columns_of (stepped before column bits)) item sums
sums_stay before column bits i item None is long at are = tt
sums_stay before column bits i item (Some s) is long at are = λ c arg.
    let there = column_there before i item c is at arg in
    column_after (λ k. AreCellSums k s) before column c bits is there (are c arg) (λ here. cells_stay (column_at (columns_of before) c) bits s (long ∙ sym (is.knowledge.rows c there)) (are c arg))

pub parts_stay : (before : Stage) (column : ℕ) (bits : List Bool) (kept : List KeptParts) → IsOpenStage before → IsOpenStage (stepped before column bits) → length bits ≡ before.frame.rows →
    HaveKeptParts (columns_of before) before.query.items kept → HaveKeptParts (columns_of (stepped before column bits)) before.query.items kept
parts_stay before column bits kept is next long have = record {
  count = have.count;
  each = λ i item parts at_item at_parts.
      let here = have.each i item parts at_item at_parts in
      record { product = product_stay before column bits is next long i item parts.product at_item here.product; sums = sums_stay before column bits i item parts.sums is long at_item here.sums };
}
