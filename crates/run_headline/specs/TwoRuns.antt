-- What two runs that were done have to do with each other: equal planes give equal reports, lines that are wanted besides change none of
-- the others, and a last round that is wanted cuts a report.
use Rattle.std.specs.Prelude.{◌≡◌, ℕ, false, List, ◌++◌, length, take}
use Rattle.std.specs.Io.KnownBytes.{Appends}
use Rattle.std.specs.declared.option.Option.TheVariants.{Some, None}
use Rattle.command_line.specs.Commands.{Ask, Demo, IsAsk, IsDemo, IsQuery}
use Rattle.command_line.specs.Commands as line
use Rattle.daq_cli.specs.Questions.{Asked, IsPlanned, Question, asked_of, asked_with, planes_of}
use Rattle.daq_cli.specs.Report.{ending_line}
use Rattle.daq_cli.specs.Runs.{IsDone}
use Rattle.daq_cli.specs.Worlds.{WorldState}
use Rattle.daq_cli.specs.commands.Ask.{AskAccepts}
use Rattle.daq_cli.specs.commands.Demo.{demo_step}
use Rattle.daq_cli.specs.commands.Query.{query_step}
use Rattle.daq_table.specs.Tables.{frame_of}
use Rattle.plane_course.specs.Told.{bits_at}
use Rattle.plane_schedule.specs.declared.policy.Ending.{Ending}
use Rattle.plane_schedule.specs.declared.policy.Plan.{Plan}
use Rattle.query_model.specs.declared.query.TypedQuery.{TypedQuery}
use Rattle.table_rounds.specs.Rounds.{AreAllRounds, HaveSame, Planes, counts_after}
use Rattle.run_headline.specs.Added.{AddsLines}

-- ---- a run

-- the query, the options and the head of the table that is asked, and the planes of this table
pub record Inquiry : Type 0 where
  pub asked : Asked
  pub bits : Planes

-- an `ask`, a `demo` or a `query` asks this, where the bytes of its input or its file are told
pub data Inquires (words : List (List ℕ)) (before : WorldState) : Inquiry → Type 0 where
  of_ask : (a : Ask) (question : Question) → IsAsk words a → AskAccepts a before.input.left question →
      Inquires words before (record { asked = asked_of question; bits = planes_of question.table })
  of_demo : (d : Demo) (question : Question) → IsDemo words d → (demo_step d).accepts question →
      Inquires words before (record { asked = asked_of question; bits = planes_of question.table })
  of_query : (q : line.Query) (bytes : List ℕ) (asked : Asked) → IsQuery words q → before.planes.held ≡ Some bytes →
      (query_step q bytes).accepts asked → Inquires words before (record { asked = asked; bits = bits_at asked.head bytes })

-- each of them that was done asks something
pub record RunInquires (words : List (List ℕ)) (before : WorldState) : Type 0 where
  pub asked : (a : Ask) (bytes : List ℕ) → IsAsk words a → before.input.left ≡ Some bytes → (i : Inquiry) × Inquires words before i
  pub made : (d : Demo) → IsDemo words d → (i : Inquiry) × Inquires words before i
  pub queried : (q : line.Query) (bytes : List ℕ) → IsQuery words q → before.planes.held ≡ Some bytes →
      (i : Inquiry) × Inquires words before i

abbrev pub RunsInquire : Type 0
RunsInquire = (words : List (List ℕ)) (before after : WorldState) → IsDone words before after → RunInquires words before

-- a run that was done, and what it asks
pub record DoneRun : Type 0 where
  pub words : List (List ℕ)
  pub before : WorldState
  pub after : WorldState
  pub done : IsDone words before after
  pub inquiry : Inquiry
  pub inquires : Inquires words before inquiry

abbrev pub Wrote : DoneRun → List ℕ → Type 0
Wrote run text = Appends run.before.out.written run.after.out.written text

-- the columns that all its rounds read, by their places among those of the typed query
pub record HasRounds (inquiry : Inquiry) : Type 0 where
  pub typed : TypedQuery
  pub plan : Plan
  pub planned : IsPlanned inquiry.asked typed plan
  pub reads : List ℕ
  pub rounds : AreAllRounds plan typed (frame_of inquiry.asked.head) inquiry.bits reads

-- each run has its rounds
abbrev pub RunsHaveRounds : Type 0
RunsHaveRounds = (run : DoneRun) → HasRounds run.inquiry

-- the planes that these rounds read are the same in the other table
abbrev pub HasSamePlanes : (inquiry : Inquiry) → HasRounds inquiry → Inquiry → Type 0
HasSamePlanes inquiry rounds other =
    HaveSame rounds.typed (counts_after rounds.typed rounds.reads (length rounds.reads)) inquiry.bits other.bits

-- ---- equal planes

-- where the same is asked of tables with one head, and the planes are the same that one run reads, both write the same bytes
abbrev pub EqualPlanesGiveEqualReports : Type 0
EqualPlanesGiveEqualReports =
    (one other : DoneRun) (rounds : HasRounds one.inquiry) → HasSamePlanes one.inquiry rounds other.inquiry →
    other.inquiry.asked ≡ one.inquiry.asked → (text : List ℕ) × Wrote one text × Wrote other text

-- ---- lines besides

-- the same without `--clip` and `--exact-avg`
abbrev pub without_extras : Asked → Asked
without_extras asked =
    let o = asked.options in
    asked_with asked.query
    (record { width = o.width; rounds = o.rounds; order = o.order; listing = o.listing; clip = false; exact = false; keys = o.keys })
    asked.head

-- these two add lines to the report, and change none
abbrev pub ExtrasAddLines : Type 0
ExtrasAddLines =
    (one other : DoneRun) (rounds : HasRounds one.inquiry) → HasSamePlanes one.inquiry rounds other.inquiry →
    one.inquiry.asked ≡ without_extras other.inquiry.asked →
    (less more : List ℕ) × Wrote one less × Wrote other more × AddsLines less more

-- ---- a last round

-- the same with `--rounds` and this number
abbrev pub cut_at : ℕ → Asked → Asked
cut_at most asked =
    let o = asked.options in
    asked_with asked.query
    (record {
      width = o.width;
      rounds = Some most;
      order = o.order;
      listing = o.listing;
      clip = o.clip;
      exact = o.exact;
      keys = o.keys;
    }) asked.head

-- the second report begins the first one, but for the line that says why its rounds ended
pub record IsBeginning (whole cut : List ℕ) : Type 0 where
  pub front : List ℕ
  pub rest : List ℕ
  pub ending : Ending
  pub whole_is : whole ≡ front ++ rest
  pub cut_is : cut ≡ front ++ ending_line ending

-- its rounds are the first ones, so many at most, and its report is a beginning
abbrev pub LastRoundsCutReports : Type 0
LastRoundsCutReports =
    (one other : DoneRun) (most : ℕ) (rounds : HasRounds one.inquiry) (fewer : HasRounds other.inquiry) →
    HasSamePlanes one.inquiry rounds other.inquiry →
    one.inquiry.asked.options.rounds ≡ None → other.inquiry.asked ≡ cut_at most one.inquiry.asked →
    (fewer.reads ≡ take most rounds.reads) × (whole cut : List ℕ) × Wrote one whole × Wrote other cut × IsBeginning whole cut
