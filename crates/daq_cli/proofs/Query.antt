-- What a `query` shows and accepts, where its store tells its bytes, is what becomes of it.
use Rattle.std.proofs.Common.{◌≡◌, ℕ, List, refl, subst, inl, inr, ◌⊎◌, Some}
use Rattle.command_line.specs.Commands as line
use Rattle.daq_table.specs.Tables.{frame_of}
use Rattle.plane_course.specs.Told.{IsUnpadded, bits_at}
use Rattle.outer_world.specs.Device.{Rose, SinkState, StoreState}
use Rattle.outer_world.specs.Whole.{Writes}
use Rattle.plane_file.specs.declared.plane_fault.PlaneFault.{PlaneFault}
use Rattle.sql_print.specs.Printed.{printed}
use Rattle.table_rounds.specs.Outcomes.{EndIn, Outcome, ended}
use Rattle.table_rounds.specs.Rounds.{rounds_of}
use Rattle.plane_course.specs.declared.reading.StepFault.{StepFault}
use Rattle.daq_cli.specs.FileReports.{Completed, IsStopped}
use Rattle.daq_cli.specs.Files.{file_step}
use Rattle.daq_cli.specs.Laws.{StepsAreExact}
use Rattle.daq_cli.specs.Questions.{Asked, asked_with}
use Rattle.daq_cli.specs.Report.{report}
use Rattle.daq_cli.specs.Worlds.{whole}
use Rattle.daq_cli.specs.commands.Query.{Begins, EndsIn, Queries, QueryAccepts, QueryCause, QueryShows, query_step, report_of, report_step, at_words, at_file, at_question, at_write, at_plane, no_memory}
use Rattle.daq_cli.specs.declared.refusal.Refusal.{Refusal}
use Rattle.daq_cli.specs.declared.refusal.Refusal.TheVariants.{NoMemory, WriteFault}
use Rattle.daq_cli.proofs.FileReports.{StopsCourse, stop_shown}
use Rattle.daq_cli.proofs.Files.{if_told, opened_told, stop_told}

-- ---- the rounds that were begun

module _ (q : line.Query) (planes opened : StoreState) (begun : Begins q planes opened) (bytes : List ℕ) (told : planes.held ≡ Some bytes) where
  -- what was asked
  abbrev asked : Asked
  asked = asked_with begun.query q.options begun.file.head

  -- it is accepted
  accepted : (query_step q bytes).accepts asked
  accepted = (begun.query, begun.is_text, (begun.file, opened_told planes opened bytes told begun.file begun.opens, (refl, record { typed = begun.typed; plan = begun.plan; planned = begun.planned })))

  -- what its rounds come to
  abbrev ends_in : (outcome : Outcome) (reads : List ℕ) →
      EndIn (rounds_of begun.plan begun.typed (frame_of begun.file.head) (bits_at begun.file.head bytes)) (IsUnpadded begun.file.head bytes) reads outcome → EndsIn asked bytes outcome
  ends_in outcome reads ends = record { typed = begun.typed; plan = begun.plan; planned = begun.planned; reads = reads; ends = ends }

  -- the report that was written is the one
  report_written : (planes' : StoreState) (out out' : SinkState) → Completed (report_of q planes opened begun) opened planes' out out' bytes → (text : List ℕ) × (report_step q bytes).accepts text × Writes whole out out' text
  report_written planes' out out' completed =
      let rounds = completed.rounds in
      let text = report (printed begun.query) begun.file.head begun.plan begun.typed (bits_at begun.file.head bytes) rounds.reads in
      (text, (asked, accepted, record { rounds = ends_in ended rounds.reads (record { each = rounds.each; come = rounds.rounds }); is = refl }), rounds.written)

-- ---- what is shown, and what is accepted

module _ (law : StepsAreExact) (q : line.Query) (planes planes' : StoreState) (out out' : SinkState) where
  -- the report that was written
  queried : (bytes : List ℕ) → planes.held ≡ Some bytes → Queries q planes planes' out out' → (text : List ℕ) × (report_step q bytes).accepts text × Writes whole out out' text
  queried bytes told does =
      report_written q planes does.opened does.begun bytes told planes' out out'
      (if_told (λ b. Completed (report_of q planes does.opened does.begun) does.opened planes' out out' b) planes.held bytes told does.reported.completed)

  -- it was written only where nothing is shown
  pub queries_apart : (other : Refusal) → Queries q planes planes' out out' → QueryShows q planes.held other → ⊥
  queries_apart other does (inl p) = (law.sql q.sql).apart does.begun.query other does.begun.is_text p
  queries_apart other does (inr (bytes, told, p)) = let (text, is, written) = queried bytes told does in (law.report q bytes).apart text other is p

  -- and is the one that is accepted
  pub queries_text : (text : List ℕ) → Queries q planes planes' out out' → QueryAccepts q planes.held text → Writes whole out out' text
  queries_text text does (bytes, told, accepts) =
      let (other, is, written) = queried bytes told does in
      subst (Writes whole out out') ((law.report q bytes).once other text is accepts) written

  -- rounds that stopped at a plane
  plane_told : (opened : StoreState) (begun : Begins q planes opened) (fault : StepFault PlaneFault) (why : Refusal) (bytes : List ℕ) → planes.held ≡ Some bytes →
      IsStopped (report_of q planes opened begun) planes opened planes' out out' fault why → (report_step q bytes).shows why ⊎ Rose planes.faults planes'.faults
  plane_told opened begun fault why bytes told stop = by (stop_shown (report_of q planes opened begun) planes opened planes' out out' begun.same bytes told fault why stop)
    where
      by : StopsCourse (rounds_of begun.plan begun.typed (frame_of begun.file.head) (bits_at begun.file.head bytes)) begun.file.head bytes why ⊎ Rose planes.faults planes'.faults →
          (report_step q bytes).shows why ⊎ Rose planes.faults planes'.faults
      by (inl shown) = inl (inr (
        asked q planes opened begun bytes told,
        accepted q planes opened begun bytes told,
        record { outcome = shown.outcome; rounds = ends_in q planes opened begun bytes told shown.outcome shown.reads shown.ends; is = shown.is },
      ))
      by (inr rose) = inr rose

  -- rounds were begun, and their report was not written to its end
  abbrev Fails : Refusal → Type 0
  Fails why = ((opened : StoreState) × Begins q planes opened) × Rose out.faults out'.faults × (why ≡ WriteFault)

  -- what is shown is the cause, unless memory runs out, a read fails or the report of the rounds before is not written
  pub query_shown : (why other : Refusal) → QueryCause q planes planes' out out' why → QueryShows q planes.held other →
      (why ≡ other) ⊎ (why ≡ NoMemory) ⊎ Rose planes.faults planes'.faults ⊎ Fails why
  query_shown why other (at_words p s o) (inl r) = inl ((law.sql q.sql).same why other p r)
  query_shown why other (at_words p s o) (inr (bytes, told, r)) = inl ((law.report q bytes).same why other (inl (inl p)) r)
  query_shown why other (at_file query is_text stop o) (inl r) = absurd ((law.sql q.sql).apart query other is_text r)
  query_shown why other (at_file query is_text stop o) (inr (bytes, told, r)) = by (stop_told planes planes' bytes told why stop)
    where
      by : (file_step bytes).shows why ⊎ (why ≡ NoMemory) ⊎ Rose planes.faults planes'.faults → (why ≡ other) ⊎ (why ≡ NoMemory) ⊎ Rose planes.faults planes'.faults ⊎ Fails why
      by (inl shown) = inl ((law.report q bytes).same why other (inl (inr (query, is_text, inl shown))) r)
      by (inr (inl e)) = inr (inl e)
      by (inr (inr rose)) = inr (inr (inl rose))
  query_shown why other (at_question query file is_text opens p o) (inl r) = absurd ((law.sql q.sql).apart query other is_text r)
  query_shown why other (at_question query file is_text opens p o) (inr (bytes, told, r)) =
      inl ((law.report q bytes).same why other (inl (inr (query, is_text, inr (file, opened_told planes planes' bytes told file opens, p)))) r)
  query_shown why other (at_write opened begun cut) shows = inr (inr (inr ((opened, begun), cut.rose, refl)))
  query_shown why other (at_plane opened begun fault stop) (inl r) = absurd ((law.sql q.sql).apart begun.query other begun.is_text r)
  query_shown why other (at_plane opened begun fault stop) (inr (bytes, told, r)) = by (plane_told opened begun fault why bytes told stop)
    where
      by : (report_step q bytes).shows why ⊎ Rose planes.faults planes'.faults → (why ≡ other) ⊎ (why ≡ NoMemory) ⊎ Rose planes.faults planes'.faults ⊎ Fails why
      by (inl shown) = inl ((law.report q bytes).same why other shown r)
      by (inr rose) = inr (inr (inl rose))
  query_shown why other (no_memory few read o) shows = inr (inl refl)

  -- where a report is accepted, nothing but want of memory and faults stops the run
  pub query_accepted : (why : Refusal) (text : List ℕ) → QueryCause q planes planes' out out' why → QueryAccepts q planes.held text →
      (why ≡ NoMemory) ⊎ Rose planes.faults planes'.faults ⊎ Rose out.faults out'.faults
  query_accepted why text (at_words p s o) (bytes, told, accepts) = absurd ((law.report q bytes).apart text why accepts (inl (inl p)))
  query_accepted why text (at_file query is_text stop o) (bytes, told, accepts) = by (stop_told planes planes' bytes told why stop)
    where
      by : (file_step bytes).shows why ⊎ (why ≡ NoMemory) ⊎ Rose planes.faults planes'.faults → (why ≡ NoMemory) ⊎ Rose planes.faults planes'.faults ⊎ Rose out.faults out'.faults
      by (inl shown) = absurd ((law.report q bytes).apart text why accepts (inl (inr (query, is_text, inl shown))))
      by (inr (inl e)) = inl e
      by (inr (inr rose)) = inr (inl rose)
  query_accepted why text (at_question query file is_text opens p o) (bytes, told, accepts) =
      absurd ((law.report q bytes).apart text why accepts (inl (inr (query, is_text, inr (file, opened_told planes planes' bytes told file opens, p)))))
  query_accepted why text (at_write opened begun cut) accepts = inr (inr cut.rose)
  query_accepted why text (at_plane opened begun fault stop) (bytes, told, accepts) = by (plane_told opened begun fault why bytes told stop)
    where
      by : (report_step q bytes).shows why ⊎ Rose planes.faults planes'.faults → (why ≡ NoMemory) ⊎ Rose planes.faults planes'.faults ⊎ Rose out.faults out'.faults
      by (inl shown) = absurd ((law.report q bytes).apart text why accepts shown)
      by (inr rose) = inr (inl rose)
  query_accepted why text (no_memory few read o) accepts = inl refl

-- before the rounds nothing was written
pub query_unwritten : (q : line.Query) (planes planes' : StoreState) (out out' : SinkState) (why : Refusal) → QueryCause q planes planes' out out' why →
    (out' ≡ out) ⊎ ((opened : StoreState) × Begins q planes opened) ⊎ (why ≡ WriteFault)
query_unwritten q planes planes' out out' why (at_words p s o) = inl o
query_unwritten q planes planes' out out' why (at_file query is_text stop o) = inl o
query_unwritten q planes planes' out out' why (at_question query file is_text opens p o) = inl o
query_unwritten q planes planes' out out' why (at_write opened begun cut) = inr (inr refl)
query_unwritten q planes planes' out out' why (at_plane opened begun fault stop) = inr (inl (opened, begun))
query_unwritten q planes planes' out out' why (no_memory few read o) = inl o
