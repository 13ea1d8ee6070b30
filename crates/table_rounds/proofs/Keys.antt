-- Each key is in one cell, and what is told of the cell is so of the key.
use Rattle.std.proofs.Common.{◌≡◌, ◌≢◌, ℕ, ◌<◌, List, [], ◌∷◌, refl, sym, ap, ◌∙◌, map}
use Rattle.daq_table.specs.Tables.{Frame, ends_at, rows_of}
use Rattle.query_model.proofs.Blocks.{cell_same}
use Rattle.query_model.specs.Answers.{Key, every_row, groups_of}
use Rattle.query_model.specs.Bounds.{average_bound_of, bound_of, nullity_of}
use Rattle.query_model.specs.Groups.{HasPrefixes, IsKey, IsKeyOf, cell_count, cell_of, counts_of, joined, parts_of}
use Rattle.query_model.specs.Knowledge.{IsKnowledge, Knowledge, known_at, prefix_of}
use Rattle.query_model.specs.Laws.{IllegalCellsAreEmpty, KeysHaveCells, KeysHaveRanges, LegalCellsHaveKeys, PairsGoByCells}
use Rattle.query_model.specs.Queries.{Aggregate}
use Rattle.query_model.specs.declared.bounds.Nullity.TheVariants.{Always}
use Rattle.round_engine.specs.Cells.{HasCell, SpeaksFor, absence_in_cell, parts_in}
use Rattle.round_engine.specs.Stages.{Stage}
use Rattle.round_engine.proofs.Keys.{filled_is_legal}
use Rattle.row_groups.proofs.Joining.{joined_parts}
use Rattle.row_groups.specs.Partition.{CellsTellKeys, IsKeyIn, RowCells, TellKeys, ranges_of_cell}

-- a key has one prefix in each column
one_prefixes : (frame : Frame) (known : Knowledge) (cs ps qs : List ℕ) (key : Key) → HasPrefixes frame known cs ps key → HasPrefixes frame known cs qs key → ps ≡ qs
one_prefixes frame known [] [] [] key a b = refl
one_prefixes frame known [] [] (q ∷ qs) [] a b = absurd b
one_prefixes frame known [] [] (q ∷ qs) (k ∷ key) a b = absurd b
one_prefixes frame known [] (p ∷ ps) qs [] a b = absurd a
one_prefixes frame known [] (p ∷ ps) qs (k ∷ key) a b = absurd a
one_prefixes frame known (c ∷ cs) [] qs [] a b = absurd a
one_prefixes frame known (c ∷ cs) [] qs (k ∷ key) a b = absurd a
one_prefixes frame known (c ∷ cs) (p ∷ ps) qs [] a b = absurd a
one_prefixes frame known (c ∷ cs) (p ∷ ps) [] (k ∷ key) a b = absurd b
one_prefixes frame known (c ∷ cs) (p ∷ ps) (q ∷ qs) (k ∷ key) a b =
    let ends = ends_at frame c in
    let read = (known_at known c).read in
    let same : p ≡ q = sym a.2 ∙ ap (prefix_of ends read) (cell_same ends a.0 b.0 (a.1 ∙ sym b.1)) ∙ b.2 in
    ap (λ n. n ∷ ps) same ∙ ap (λ l. q ∷ l) (one_prefixes frame known cs ps qs key a.3 b.3)

-- the laws of cells
pub record CellLaws : Type 0 where
  pub have : KeysHaveCells
  pub legal : LegalCellsHaveKeys
  pub empty : IllegalCellsAreEmpty
  pub ranges : KeysHaveRanges
  pub pairs : PairsGoByCells
  pub tell : CellsTellKeys

module _ (law : CellLaws) (stage : Stage) (is_known : IsKnowledge stage.frame stage.known) where
  abbrev groups : List ℕ
  groups = groups_of stage.query.shape

  one_cell : (a b : ℕ) (key : Key) → a < cell_count stage.known groups → b < cell_count stage.known groups →
      IsKeyOf stage.frame stage.known groups a key → IsKeyOf stage.frame stage.known groups b key → a ≡ b
  one_cell a b key a_in b_in of_a of_b =
      let counts = counts_of stage.known groups in
      sym (joined_parts counts a a_in)
      ∙ ap (λ ps. joined counts ps) (one_prefixes stage.frame stage.known groups (parts_of counts a) (parts_of counts b) key of_a.1 of_b.1)
      ∙ joined_parts counts b b_in

  abbrev cells : RowCells
  cells = record { parts = parts_in stage; cells = map (cell_of stage.known groups) (rows_of stage.frame) }

  told : TellKeys stage.frame stage.known groups cells
  told = law.tell stage.frame stage.known groups cells (record { parts = refl; rows = refl })

  -- a cell that is told has each key that is in its ranges
  from_ranges : (cell : ℕ) (key : Key) → absence_in_cell stage cell ≢ Always → IsKeyIn (ranges_of_cell (parts_in stage) cell) key →
      IsKeyOf stage.frame stage.known groups cell key
  from_ranges cell key filled inside =
      let legal = (told.legal cell).0 (filled_is_legal stage cell law.empty law.tell is_known filled) in
      (law.ranges stage.frame stage.known groups cell key legal).1 ((told.ranges cell key).0 inside)

  speaks : (cell : ℕ) (key : Key) → cell < cell_count stage.known groups → IsKeyOf stage.frame stage.known groups cell key → SpeaksFor stage cell key
  speaks cell key inside is =
      let legal = (law.legal stage.frame stage.known groups cell).only_legal key is in
      let same = λ (item : Aggregate). sym (law.pairs stage.query item stage.frame stage.known cell key is_known inside is) in
      record {
        ranges = (told.ranges cell key).1 ((law.ranges stage.frame stage.known groups cell key legal).0 is);
        bound = λ item. ap (bound_of item.kind) (same item);
        average = λ item. ap average_bound_of (same item);
        absence = ap nullity_of (same every_row);
      }

  pub has_cell : (key : Key) → IsKey stage.frame groups key → HasCell stage key
  has_cell key is =
      let found = law.have stage.frame stage.known groups key is_known is in
      record {
        cell = found.0;
        counted = found.1;
        belongs = found.2;
        only = λ other inside belongs. one_cell other found.0 key inside found.1 belongs found.2;
        apart = λ other inside filled within. one_cell other found.0 key inside found.1 (from_ranges other key filled within) found.2;
        speaks = speaks found.0 key found.1 found.2;
      }
