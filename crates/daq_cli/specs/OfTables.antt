-- What the report of rounds over the planes of a file is of tables: that of each table that has the planes read.
use Rattle.std.specs.Prelude.{◌≡◌, ℕ, ◌≤◌, suc, List, length, slice_get, Some}
use Rattle.daq_table.specs.Tables.{Cells, Contents, Frame, frame_of}
use Rattle.daq_table.specs.declared.table_head.Head.{Head}
use Rattle.plane_course.specs.Told.{bits_at}
use Rattle.plane_file.specs.Format.{IsFileOf}
use Rattle.plane_schedule.specs.declared.policy.Plan.{Plan}
use Rattle.query_model.specs.Knowledge.{plane_of}
use Rattle.query_model.specs.declared.query.TypedQuery.{TypedQuery}
use Rattle.table_rounds.specs.Steps.{own_reads, places_read, plan_alone}
use Rattle.table_rounds.specs.Headline.{AreCertain, stage_of}
use Rattle.table_rounds.specs.Rounds.{AreAllRounds, HasPlanes, Planes, counts_after, stage_after}
use Rattle.daq_cli.specs.Report.{block_of, blocks_below, rounds_text, shown_rounds}
use Rattle.daq_cli.specs.SessionReport.{IsShownAlone}

-- a table with that frame has the planes of these reads
abbrev pub HasPlanesRead : TypedQuery → Frame → Planes → List ℕ → Cells → Type 0
HasPlanesRead query frame bits reads cells = HasPlanes query frame bits (counts_after query reads (length reads)) cells

-- the bounds of all rounds are certain, of each table that has the planes read, and what is known after each is what that table tells
abbrev pub AreCertainOf : TypedQuery → Frame → Planes → List ℕ → Type 0
AreCertainOf query frame bits reads =
    (cells : Cells) → HasPlanesRead query frame bits reads cells → AreCertain query frame cells reads
    × ((round : ℕ) → round ≤ length reads → stage_after query frame bits reads round ≡ stage_of query frame cells reads round)

-- the rounds by these reads are all those of this table, by its own planes, and their text is the same. Each interval in it is certain
pub record IsOfTable (head : Head) (plan : Plan) (query : TypedQuery) (bits : Planes) (reads : List ℕ) (cells : Cells) : Type 0 where
  pub rounds : AreAllRounds plan query (frame_of head) (plane_of (frame_of head) cells) reads
  pub blocks : blocks_below (block_of head plan query bits) reads (suc (length reads))
      ≡ blocks_below (block_of head plan query (plane_of (frame_of head) cells)) reads (suc (length reads))
  pub text : rounds_text (shown_rounds head plan query bits) reads
      ≡ rounds_text (shown_rounds head plan query (plane_of (frame_of head) cells)) reads
  pub headline : AreCertain query (frame_of head) cells reads

-- so it is with each table that has the planes read from a file with that head and these bytes. There is one, and where the bytes are
-- the file of a table, that table is one
pub record AreOfTables (head : Head) (plan : Plan) (query : TypedQuery) (bytes reads : List ℕ) : Type 0 where
  pub each : (cells : Cells) → HasPlanesRead query (frame_of head) (bits_at head bytes) reads cells →
      IsOfTable head plan query (bits_at head bytes) reads cells
  pub some : (cells : Cells) × HasPlanesRead query (frame_of head) (bits_at head bytes) reads cells
  pub own : (version : ℕ) (table : Contents) → IsFileOf bytes version table →
      (table.head ≡ head) × HasPlanesRead query (frame_of head) (bits_at head bytes) reads table.cells

-- what a session shows of each query are the blocks of its report alone, all of whose rounds by the list of its own reads these are; and
-- so are they of tables
abbrev pub AllAreOfTables : Plan → List TypedQuery → Head → List ℕ → List ℕ → Type 0
AllAreOfTables plan queries head bytes reads =
    (n : ℕ) (query : TypedQuery) → slice_get queries n ≡ Some query →
    let places = places_read queries reads in
    let own = own_reads plan.near (frame_of head) (bits_at head bytes) places query (length reads) in
    IsShownAlone head plan (bits_at head bytes) places query (length reads) own × AreOfTables head (plan_alone plan own) query bytes own
