-- The text of rounds over the planes of a file is that of each table that has the planes read.
use Rattle.std.proofs.Common.{◌≡◌, ℕ, suc, List, ◌++◌, length, sym, ap, ◌∙◌, subst, IsSome}
use Rattle.daq_report.specs.Blocks.{block_text}
use Rattle.daq_table.specs.Tables.{Cells, Contents, frame_of}
use Rattle.daq_table.specs.declared.table_head.Head.{Head}
use Rattle.plane_course.proofs.Files.{files_have_their_planes}
use Rattle.plane_course.proofs.RowsBack.{length-rows_in}
use Rattle.plane_course.specs.Told.{bits_at}
use Rattle.plane_file.proofs.OneHead.{file_head, one_head}
use Rattle.plane_file.specs.Format.{IsFileOf}
use Rattle.plane_file.specs.Opening.{IsFileHead}
use Rattle.plane_file.specs.Places.{plane_in}
use Rattle.plane_schedule.specs.declared.policy.Plan.{Plan}
use Rattle.query_model.specs.Knowledge.{plane_of}
use Rattle.query_model.specs.Worlds.{NamesColumns}
use Rattle.query_model.specs.declared.query.TypedQuery.{TypedQuery}
use Rattle.table_rounds.proofs.OfTables.{same_rounds, same_stages}
use Rattle.table_rounds.specs.Headline.{AreCertain, RoundsHaveTables}
use Rattle.table_rounds.specs.Rounds.{AreAllRounds, AreRounds, HaveRows, Planes, column_read, ending_at, stage_after}
use Rattle.daq_cli.specs.OfTables.{AreOfTables, HasPlanesRead, IsOfTable}
use Rattle.daq_cli.specs.Report.{block_of, blocks_below, end_line, last_text, rounds_text, shown_rounds}
use Rattle.daq_cli.proofs.Reached.{same_below}

-- ---- what planes show depends on what is known after each round alone

module _ (head : Head) (plan : Plan) (query : TypedQuery) (reads : List ℕ) (a b : Planes)
    (same : (round : ℕ) → stage_after query (frame_of head) a reads round ≡ stage_after query (frame_of head) b reads round) where
  same_block : (round : ℕ) → block_of head plan query a reads round ≡ block_of head plan query b reads round
  same_block round = ap (λ s. block_text head plan.listing plan.extras s round (column_read reads round)) (same round)

  pub same_blocks : (n : ℕ) → blocks_below (block_of head plan query a) reads n ≡ blocks_below (block_of head plan query b) reads n
  same_blocks n = same_below (block_of head plan query a) (block_of head plan query b) reads reads n (λ round h. same_block round)

  same_last : last_text (shown_rounds head plan query a) reads ≡ last_text (shown_rounds head plan query b) reads
  same_last = ap (λ s. block_text head plan.listing plan.extras s (length reads) (column_read reads (length reads)) ++ end_line (ending_at plan s)) (same (length reads))

  pub same_text : rounds_text (shown_rounds head plan query a) reads ≡ rounds_text (shown_rounds head plan query b) reads
  same_text =
      ap (λ l. l ++ last_text (shown_rounds head plan query a) reads) (same_blocks (length reads))
      ∙ ap (λ l. blocks_below (block_of head plan query b) reads (length reads) ++ l) same_last

-- ---- the planes of a file

-- they have a bit for each row
have_rows : (head : Head) (bytes : List ℕ) → HaveRows (frame_of head) (bits_at head bytes)
have_rows head bytes column number h lt = length-rows_in head.rows (plane_in head column number bytes)

-- where the bytes are the file of a table, it has those of rounds over them
file_has : (head : Head) (plan : Plan) (query : TypedQuery) (bytes reads : List ℕ) (table : Contents) (version : ℕ) → NamesColumns query (frame_of head) →
    AreRounds plan query (frame_of head) (bits_at head bytes) reads → table.head ≡ head → IsFileOf bytes version table → HasPlanesRead query (frame_of head) (bits_at head bytes) reads table.cells
file_has head plan query bytes reads table version named rounds same is =
    let own = subst (λ bs. AreRounds plan query (frame_of table.head) (bits_at table.head bs) reads) is.same
    (subst (λ h. AreRounds plan query (frame_of h) (bits_at h bytes) reads) (sym same) rounds) in
    let has = files_have_their_planes version table plan query reads is.is_table (subst (λ h. NamesColumns query (frame_of h)) (sym same) named) own in
    subst (λ h. HasPlanesRead query (frame_of h) (bits_at h bytes) reads table.cells) same
    (subst (λ bs. HasPlanesRead query (frame_of table.head) (bits_at table.head bs) reads table.cells) (sym is.same) has)

module _ (have : RoundsHaveTables) (head : Head) (version : ℕ) (plan : Plan) (query : TypedQuery) (bytes reads : List ℕ) (front : IsFileHead bytes version head) (named : NamesColumns query (frame_of head))
    (rounds : AreAllRounds plan query (frame_of head) (bits_at head bytes) reads)
    (certain : (cells : Cells) → HasPlanesRead query (frame_of head) (bits_at head bytes) reads cells → AreCertain query (frame_of head) cells reads) where
  of_table : (cells : Cells) → HasPlanesRead query (frame_of head) (bits_at head bytes) reads cells → IsOfTable head plan query (bits_at head bytes) reads cells
  of_table cells has =
      let same = same_stages query (frame_of head) (bits_at head bytes) reads cells has in
      let told = plane_of (frame_of head) cells in
      record {
        rounds = record {
          rounds = same_rounds query (frame_of head) (bits_at head bytes) reads cells has plan rounds.rounds;
          ended = subst (λ s. IsSome (ending_at plan s)) (same (length reads)) rounds.ended;
        };
        blocks = same_blocks head plan query reads (bits_at head bytes) told same (suc (length reads));
        text = same_text head plan query reads (bits_at head bytes) told same;
        headline = certain cells has;
      }

  pub are_of_tables : AreOfTables head plan query bytes reads
  are_of_tables = record {
    each = of_table;
    some = have plan query (frame_of head) (bits_at head bytes) reads named (have_rows head bytes) rounds.rounds;
    own = λ other table is.
        let same = (one_head bytes other version table.head head (file_head bytes other table is) front).1 in
        (same, file_has head plan query bytes reads table other named rounds.rounds same is);
  }
