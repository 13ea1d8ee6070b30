-- What holds of a run: its rounds are certain, and each world agrees with what is known.
use Rattle.std.proofs.Common.{◌≡◌, ℕ, ◌≤◌, [], ◌∷◌, length, refl, sym, subst, ◌∙◌}
use Rattle.daq_table.specs.Tables.{Cells, Frame, IsTable, frame_of}
use Rattle.query_model.specs.Projection.{projected}
use Rattle.plane_schedule.specs.declared.policy.Plan.{Plan}
use Rattle.query_model.specs.Answers.{Key, groups_of}
use Rattle.query_model.specs.Groups.{IsKey}
use Rattle.query_model.specs.Knowledge.{IsKnowledge, plane_of}
use Rattle.query_model.specs.Laws.{TablesAgree, ValidQueriesNameColumns}
use Rattle.query_model.specs.Queries.{Query}
use Rattle.query_model.specs.Worlds.{AgreesWith, NamesColumns}
use Rattle.query_model.specs.declared.query.Shape.TheVariants.{Plain}
use Rattle.round_engine.specs.Cells.{HasCell}
use Rattle.round_engine.specs.Stages.{Stage}
use Rattle.sql_typing.specs.Laws.{IsTypedValid}
use Rattle.sql_typing.specs.Refusals.{IsTyped}
use Rattle.table_rounds.specs.Headline.{AreCertain, IsKeyOn, PlanesTellStages, RoundsAreCertain, TablesTellStages}
use Rattle.table_rounds.specs.Rounds.{AreRounds, HasPlanes, counts_after}
use Rattle.table_rounds.proofs.Reached.{is_part, part_of, reads_after}
use Rattle.sql_headline.specs.Lines.{IsCellOf}
use Rattle.sql_headline.specs.Worlds.{IsRun, IsWorld, Run, stage_at}

-- the laws of typing, of tables and of rounds
pub record Laws : Type 0 where
  pub valid : IsTypedValid
  pub name : ValidQueriesNameColumns
  pub agree : TablesAgree
  pub tell : PlanesTellStages
  pub tables : TablesTellStages
  pub certain : RoundsAreCertain

-- a run whose rounds are certain
pub record IsSure (run : Run) (plan : Plan) : Type 0 where
  pub typed : IsTyped run.text run.head run.query
  pub rounds : AreRounds plan run.query (frame_of run.head) (plane_of (frame_of run.head) run.cells) run.reads
  pub certain : AreCertain run.query (frame_of run.head) run.cells run.reads

-- so is each run
pub sure : Laws → (run : Run) (plan : Plan) → IsRun run plan → IsSure run plan
sure law run plan is =
    let frame = frame_of run.head in
    let named = law.name run.head run.query (law.valid run.text run.head run.query is.typed) in
    let itself : HasPlanes run.query frame (plane_of frame run.cells) (counts_after run.query run.reads (length run.reads)) run.cells =
    record { table = is.table; same = λ c number c_in read. refl } in
    record {
      typed = is.typed;
      rounds = is.rounds;
      certain = law.certain plan run.query frame (plane_of frame run.cells) run.reads run.cells named is.longs is.rounds itself;
    }

module _ (law : Laws) (run : Run) (plan : Plan) (is : IsSure run plan) where
  abbrev pub frame : Frame
  frame = frame_of run.head

  pub named : NamesColumns run.query frame
  named = law.name run.head run.query (law.valid run.text run.head run.query is.typed)

  pub certain : AreCertain run.query frame run.cells run.reads
  certain = is.certain

  pub part_there : (round : ℕ) → round ≤ length run.reads → (world : Cells) → IsWorld run round world → IsTable (part_of run.query frame) (projected run.query world)
  part_there round h world is_world =
      let counts = counts_after run.query run.reads round in
      let are = reads_after plan run.query frame (plane_of frame run.cells) run.reads is.rounds round h in
      (law.agree run.query frame (part_of run.query frame) world counts (is_part run.query frame named) is_world.has_planes.table are).table

  pub agrees : (round : ℕ) → round ≤ length run.reads → (world : Cells) → IsWorld run round world → AgreesWith run.query frame (stage_at run round).known world
  agrees round h world is_world =
      let has = is_world.has_planes in
      let counts = counts_after run.query run.reads round in
      let are = reads_after plan run.query frame (plane_of frame run.cells) run.reads is.rounds round h in
      let same = law.tell run.query frame (plane_of frame world) (plane_of frame run.cells) counts has.same in
      let told = law.tables run.query frame world counts named has.table are in
      subst (λ (s : Stage). AgreesWith run.query frame s.known world) (sym told ∙ same)
      (law.agree run.query frame (part_of run.query frame) world counts (is_part run.query frame named) has.table are).agrees

  -- what is known after a round is a knowledge
  pub knowledge : (round : ℕ) → round ≤ length run.reads → IsKnowledge (part_of run.query frame) (stage_at run round).known
  knowledge round h =
      let counts = counts_after run.query run.reads round in
      let table = (certain.itself round h).table in
      let are = reads_after plan run.query frame (plane_of frame run.cells) run.reads is.rounds round h in
      subst (λ (s : Stage). IsKnowledge (part_of run.query frame) s.known) (sym (law.tables run.query frame run.cells counts named table are))
      (law.agree run.query frame (part_of run.query frame) run.cells counts (is_part run.query frame named) table are).knowledge

-- the cell of a key is the one that is told of
pub own_cell : (stage : Stage) (key : Key) (cell : ℕ) → (has : HasCell stage key) → IsCellOf stage key cell → cell ≡ has.cell
own_cell stage key cell has is = has.only cell is.counted is.belongs

-- without groups there is one key, that of no parts
pub no_parts : (frame : Frame) (query : Query) (key : Key) → IsKeyOn query frame key → query.shape ≡ Plain → key ≡ []
no_parts frame query key on plain = none key (subst (λ s. IsKey (part_of query frame) (groups_of s) key) plain on)
  where
    none : (key : Key) → IsKey (part_of query frame) [] key → key ≡ []
    none [] h = refl
    none (k ∷ ks) h = absurd h
