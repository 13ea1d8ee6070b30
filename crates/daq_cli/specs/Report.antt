-- The text of a report: the query, a block for each round, and why the rounds ended.
use Rattle.std.specs.Prelude.{◌≡◌, ℕ, zero, suc, Ok, Err, IfSome, IsSome, IsNone, List, [], ◌∷◌, ◌++◌, length, codes}
use Rattle.std.specs.Io.KnownBytes.{Appends}
use Rattle.std.specs.declared.option.Option.{Option}
use Rattle.std.specs.declared.option.Option.TheVariants.{Some, None}
use Rattle.std.specs.declared.result.Result.{Result}
use Rattle.daq_report.specs.Blocks.{block_text}
use Rattle.daq_table.specs.Tables.{frame_of}
use Rattle.daq_table.specs.declared.table_head.Head.{Head}
use Rattle.outer_world.specs.Device.{Rose, SinkState}
use Rattle.outer_world.specs.Whole.{Writes}
use Rattle.plane_schedule.specs.declared.policy.Ending.{Ending}
use Rattle.plane_schedule.specs.declared.policy.Ending.TheVariants.{Narrow, Rounds, Reads}
use Rattle.plane_schedule.specs.declared.policy.Plan.{Plan}
use Rattle.query_model.specs.declared.query.TypedQuery.{TypedQuery}
use Rattle.plane_course.specs.Sources.{Causes, OnFailed, OnRefused, StopsAt}
use Rattle.table_rounds.specs.Courses.{AreAllReads, AreReads, Course, OfEach, OfPlanes, Places, places_of}
use Rattle.table_rounds.specs.Rounds.{AreAllRounds, Planes, column_read, rounds_of, stage_after}
use Rattle.plane_course.specs.declared.reading.StepFault.{StepFault}
use Rattle.daq_cli.specs.Worlds.{Extent, partly, whole}
use Rattle.daq_cli.specs.declared.stop.Stop.{Stop}
use Rattle.daq_cli.specs.declared.stop.Stop.TheVariants.{Failed, Step}

-- a course of reads, and the text that is shown after so many of them
pub record Shown : Type 1 where
  pub course : Course
  pub block : List ℕ → ℕ → List ℕ

abbrev pub shown_by : (Planes → Course) → (Planes → List ℕ → ℕ → List ℕ) → Planes → Shown
shown_by course block bits = record { course = course bits; block = block bits }

-- ---- a text

-- the blocks of the rounds below a number
unfoldable pub blocks_below : (List ℕ → ℕ → List ℕ) → List ℕ → ℕ → List ℕ
blocks_below block reads zero = []
blocks_below block reads (suc round) = blocks_below block reads round ++ block reads round

-- the last line of a report says why its rounds ended
abbrev pub ending_line : Ending → List ℕ
ending_line Narrow = codes "end narrow\n"
ending_line Rounds = codes "end rounds\n"
ending_line Reads = codes "end reads\n"

abbrev pub end_line : Option Ending → List ℕ
end_line None = []
end_line (Some ending) = ending_line ending

-- the block of the last of these rounds, and the end line where the rounds end with it
abbrev pub last_text : Shown → List ℕ → List ℕ
last_text shown reads = shown.block reads (length reads) ++ end_line (shown.course.ending reads (length reads))

-- the blocks of these rounds, and the end line where they end
abbrev pub rounds_text : Shown → List ℕ → List ℕ
rounds_text shown reads = blocks_below shown.block reads (length reads) ++ last_text shown reads

-- ---- the text of a query

-- the block of a round by the plan, where the rounds read these columns
abbrev pub block_of : Head → Plan → TypedQuery → Planes → List ℕ → ℕ → List ℕ
block_of head plan query bits reads round =
    block_text head plan.listing plan.extras (stage_after query (frame_of head) bits reads round) round (column_read reads round)

-- the rounds of a query, shown by their blocks
abbrev pub shown_rounds : Head → Plan → TypedQuery → Planes → Shown
shown_rounds head plan query = shown_by (rounds_of plan query (frame_of head)) (block_of head plan query)

-- the first line of a report shows the printed form of the query
abbrev pub query_line : List ℕ → List ℕ
query_line sql = codes "query " ++ (sql ++ codes "\n")

-- the whole report of the query with that printed form, all of whose rounds by the plan read these columns
abbrev pub report : List ℕ → Head → Plan → TypedQuery → Planes → List ℕ → List ℕ
report sql head plan query bits reads = query_line sql ++ rounds_text (shown_rounds head plan query bits) reads

-- such a text of all rounds of the plan was written, whole or in part
pub record WritesRounds (text : List ℕ → List ℕ) (head : Head) (plan : Plan) (query : TypedQuery) (bits : Planes) (extent : Extent)
    (old new : SinkState) : Type 0 where
  pub reads : List ℕ
  pub rounds : AreAllRounds plan query (frame_of head) bits reads
  pub written : Writes extent old new (text reads)

-- ---- a course over the planes that a source tells, behind a line

-- a write failed in the last of these rounds: what comes before its block was written, and of its block and the end line a part; in the
-- first round the line may be written in part
abbrev pub FailsInLast : List ℕ → Shown → List ℕ → SinkState → SinkState → Type 0
FailsInLast line shown [] old new = Writes partly old new (line ++ rounds_text shown [])
FailsInLast line shown (c ∷ reads) old new =
    (mid : SinkState) × Writes whole old mid (line ++ blocks_below shown.block (c ∷ reads) (length (c ∷ reads)))
    × Writes partly mid new (last_text shown (c ∷ reads))

-- what a source says of the planes of a table: the places where they lie, and what a plane shows that was read
pub record Seen : Type 1 where
  pub places : Places
  pub shows : OfPlanes

abbrev pub seen_by : Places → OfPlanes → Seen
seen_by places shows = record { places = places; shows = shows }

-- all rounds were written, and the places of their planes handed over, each of which shows what is said of a plane that was read. `old` and
-- `new` are the output before and after, `from` and `to` what the source has handed over before and after
pub record Finishes (line : List ℕ) (shown : Shown) (seen : Seen) (old new : SinkState) (from to : Option (List ℕ)) : Type 0 where
  pub reads : List ℕ
  pub rounds : AreAllReads shown.course reads
  pub each : OfEach seen.shows shown.course reads
  pub written : Writes whole old new (line ++ rounds_text shown reads)
  pub handed : Appends from to (places_of seen.places shown.course reads (length reads))

-- a write failed in the last of the rounds so far, and the places of their planes were handed over
pub record Fails (line : List ℕ) (shown : Shown) (seen : Seen) (old new : SinkState) (from to : Option (List ℕ)) : Type 0 where
  pub reads : List ℕ
  pub rounds : AreReads shown.course reads
  pub each : OfEach seen.shows shown.course reads
  pub written : FailsInLast line shown reads old new
  pub handed : Appends from to (places_of seen.places shown.course reads (length reads))

-- why a source does not give a plane, with these places handed over before
abbrev pub CausesAfter : Type 0 → Type 1
CausesAfter E = Option (List ℕ) → Causes E

-- the source failed at the plane after the rounds so far, or this plane was refused: they were written, and the places of their planes
-- handed over, and then of this plane's what the stop says
pub record Stops {E : Type 0} (line : List ℕ) (shown : Shown) (seen : Seen) (causes : CausesAfter E) (fault : StepFault E)
    (old new : SinkState) (from to : Option (List ℕ)) : Type 0 where
  pub reads : List ℕ
  pub at : Option (List ℕ)
  pub more : List ℕ
  pub stop : StopsAt shown.course seen.places (causes at) reads fault more
  pub each : OfEach seen.shows shown.course reads
  pub refused : OnRefused fault seen.shows
  pub written : Writes whole old new (line ++ rounds_text shown reads)
  pub before : Appends from at (places_of seen.places shown.course reads (length reads))
  pub handed : Appends at to more

-- what becomes of the rounds
abbrev pub EndsRounds : {E : Type 0} → List ℕ → Shown → Seen → CausesAfter E
    → Result (Unit {0}) (Stop E) → SinkState → SinkState → Option (List ℕ) → Option (List ℕ) → Type 0
EndsRounds line shown seen causes (Ok done) old new from to = Finishes line shown seen old new from to
EndsRounds line shown seen causes (Err Failed) old new from to = Fails line shown seen old new from to
EndsRounds line shown seen causes (Err (Step fault)) old new from to = Stops line shown seen causes fault old new from to

-- the same of planes that may be told, where they are
abbrev pub EndsTold : {E : Type 0} → List ℕ → (Planes → Shown) → Option Planes → Seen → CausesAfter E
    → Result (Unit {0}) (Stop E) → SinkState → SinkState → Option (List ℕ) → Option (List ℕ) → Type 0
EndsTold line shown told seen causes result old new from to =
    IfSome told (λ bits. EndsRounds line (shown bits) seen causes result old new from to)

-- ---- what holds of each source, told or not

-- the causes of a source that was the first one, and is the last: it fails after it handed over these places. So a refusal is told of the
-- plane at which the rounds stopped, behind all that was read before
abbrev pub FailsSince : {S E : Type 0} → (S → Option (List ℕ)) → (S → S → Type 0) → (S → S → Causes E) → S → S → CausesAfter E
FailsSince handed since fails first last at column number error =
    (mid : _) × since first mid × (handed mid ≡ at) × fails mid last column number error

-- a report stops with its cause: a write failed, or the source
abbrev pub HasStopCause : {E : Type 0} → CausesAfter E → Result (Unit {0}) (Stop E) → SinkState → SinkState → Type 0
HasStopCause causes (Ok done) old new = Unit {0}
HasStopCause causes (Err Failed) old new = Rose old.faults new.faults
HasStopCause causes (Err (Step fault)) old new =
    OnFailed fault (λ error. (at : Option (List ℕ)) × (column : ℕ) × (number : ℕ) × causes at column number error)

-- rounds over some planes, which come to this, were written behind a line. It is what can be said of a source that tells no planes: what
-- was written is the text of such rounds, whatever the planes are
pub record WritesOverSome (line : List ℕ) (shown : Planes → Shown) (come : Option Ending → Type 0) (old new : SinkState) : Type 0 where
  pub bits : Planes
  pub reads : List ℕ
  pub rounds : AreReads (shown bits).course reads
  pub come_to : come ((shown bits).course.ending reads (length reads))
  pub written : Writes whole old new (line ++ rounds_text (shown bits) reads)

-- a write failed in the last of rounds over some planes
pub record FailsOverSome (line : List ℕ) (shown : Planes → Shown) (old new : SinkState) : Type 0 where
  pub bits : Planes
  pub reads : List ℕ
  pub rounds : AreReads (shown bits).course reads
  pub written : FailsInLast line (shown bits) reads old new

-- what was written is of rounds over some planes: of all; or a write failed in the last; or they go on, but the next plane is not taken
abbrev pub EndsOverSome : {E : Type 0} → List ℕ → (Planes → Shown) → Result (Unit {0}) (Stop E) → SinkState → SinkState → Type 0
EndsOverSome line shown (Ok done) old new = WritesOverSome line shown IsSome old new
EndsOverSome line shown (Err Failed) old new = FailsOverSome line shown old new
EndsOverSome line shown (Err (Step fault)) old new = WritesOverSome line shown IsNone old new
