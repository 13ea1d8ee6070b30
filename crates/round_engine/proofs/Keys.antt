-- What is told of a cell is so of each of its keys, and a cell that a row may be in has keys.
use Rattle.std.proofs.Common.{◌≡◌, ◌≢◌, ℕ, ◌<◌, Bool, true, false, List, map, IsTrue, refl, sym, ap, ◌∙◌}
use Rattle.std.proofs.lemmas.Bool.{false≢true}
use Rattle.daq_table.specs.Tables.{rows_of}
use Rattle.query_model.specs.Answers.{Key, every_row, groups_of}
use Rattle.query_model.specs.Bounds.{average_bound_of, bound_of, nullity_of}
use Rattle.query_model.specs.Groups.{AreLegal, IsKeyOf, cell_count, cell_of, counts_of, parts_of}
use Rattle.query_model.specs.Knowledge.{IsKnowledge}
use Rattle.query_model.specs.Laws.{IllegalCellsAreEmpty, KeysHaveRanges, LegalCellsHaveKeys, PairsGoByCells}
use Rattle.query_model.specs.Queries.{Aggregate}
use Rattle.query_model.specs.declared.bounds.Nullity.TheVariants.{Always}
use Rattle.round_engine.specs.Cells.{SpeaksFor, absence_in_cell, parts_in}
use Rattle.round_engine.specs.Stages.{Stage}
use Rattle.row_groups.specs.Partition.{CellsTellKeys, RowCells, is_legal_cell}

-- a cell that a row may be in has keys
pub filled_is_legal : (stage : Stage) (cell : ℕ) → IllegalCellsAreEmpty → CellsTellKeys → IsKnowledge stage.frame stage.known →
    absence_in_cell stage cell ≢ Always → IsTrue (is_legal_cell (parts_in stage) cell)
filled_is_legal stage cell empty tell knowledge filled = by_test (is_legal_cell (parts_in stage) cell) refl
  where
    groups : List ℕ
    groups = groups_of stage.query.shape

    cells : RowCells
    cells = record { parts = parts_in stage; cells = map (cell_of stage.known groups) (rows_of stage.frame) }

    by_test : (b : Bool) → is_legal_cell (parts_in stage) cell ≡ b → IsTrue (is_legal_cell (parts_in stage) cell)
    by_test true e = e
    by_test false e =
        let legal = (tell stage.frame stage.known groups cells (record { parts = refl; rows = refl })).legal cell in
        let illegal : ¬ AreLegal stage.frame stage.known groups (parts_of (counts_of stage.known groups) cell) =
        (λ are. false≢true (sym e ∙ legal.1 are)) in
        absurd (filled (ap nullity_of (empty stage.query every_row stage.frame stage.known cell knowledge illegal)))

-- the laws of cells
pub record CellLaws : Type 0 where
  pub legal : LegalCellsHaveKeys
  pub ranges : KeysHaveRanges
  pub pairs : PairsGoByCells
  pub tell : CellsTellKeys

module _ (law : CellLaws) (stage : Stage) (is_known : IsKnowledge stage.frame stage.known) where
  abbrev groups : List ℕ
  groups = groups_of stage.query.shape

  pub speaks : (cell : ℕ) (key : Key) → cell < cell_count stage.known groups → IsKeyOf stage.frame stage.known groups cell key → SpeaksFor stage cell key
  speaks cell key inside is =
      let legal = (law.legal stage.frame stage.known groups cell).only_legal key is in
      let cells : RowCells = record { parts = parts_in stage; cells = map (cell_of stage.known groups) (rows_of stage.frame) } in
      let told = law.tell stage.frame stage.known groups cells (record { parts = refl; rows = refl }) in
      let same = λ (item : Aggregate). sym (law.pairs stage.query item stage.frame stage.known cell key is_known inside is) in
      record {
        ranges = (told.ranges cell key).1 ((law.ranges stage.frame stage.known groups cell key legal).0 is);
        bound = λ item. ap (bound_of item.kind) (same item);
        average = λ item. ap average_bound_of (same item);
        absence = ap nullity_of (same every_row);
      }
